-- A new door has more than two administrators.
use Rattle.std.proofs.Common.{rules, arith, ℕ, ◌≡◌, ◌<◌, ◌+◌, length}
use Rattle.sm_history.specs.Books.{Book}
use Rattle.sm_door.specs.Opening.{new_admins}

pub has_admin : (b : Book) → 0 < length (new_admins b 4)
has_admin b = unfold new_admins in search rules

has_two : (b : Book) → 1 < length (new_admins b 4)
has_two b = unfold new_admins in search rules

-- Where one is taken out, one is left.
pub leaves_one : (b : Book) (before after : ℕ) → after + 1 ≡ before → before ≡ length (new_admins b 4) → 0 < after
leaves_one b before after taken all = omega (arith, has_two b, taken, all)

has_three : (b : Book) → 2 < length (new_admins b 4)
has_three b = unfold new_admins in search rules

-- Where two are taken out, one is left.
pub leaves_third : (b : Book) (before between after : ℕ) → between + 1 ≡ before → after + 1 ≡ between
    → before ≡ length (new_admins b 4) → 0 < after
leaves_third b before between after one two all = omega (arith, has_three b, one, two, all)
