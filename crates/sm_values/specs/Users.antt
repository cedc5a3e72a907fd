-- User numbers.
use Rattle.std.specs.Prelude.{ℕ, ◌%◌, Bool, nat_le, ◌&&◌}
use Rattle.sm_values.specs.declared.user.TheConstants.{AID_USER_OFFSET, AID_APP_START, AID_ISOLATED_START}
use Rattle.sm_values.specs.declared.user.TheConstants.{AID_ISOLATED_END}

-- This is the application number of a user number.
abbrev pub app_of : ℕ → ℕ
app_of uid = uid % AID_USER_OFFSET

-- A user number is an application's, which can't add a service.
abbrev pub is_barred : ℕ → Bool
is_barred uid = nat_le AID_APP_START (app_of uid)

-- A user number is that of an isolated process.
abbrev pub is_isolated_user : ℕ → Bool
is_isolated_user uid = nat_le AID_ISOLATED_START (app_of uid) && nat_le (app_of uid) AID_ISOLATED_END
