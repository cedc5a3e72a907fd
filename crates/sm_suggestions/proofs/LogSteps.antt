-- One line of a log after the other.
use Rattle.std.proofs.Common.{◌≡◌, ℕ, ◌+◌, ◌≤◌, Bool, true, false, ◌&&◌, cond, List, ◌∷◌, Option, Some, None}
use Rattle.std.proofs.Common.{refl, sym, arith}
use Rattle.std.specs.Prelude.{count_by}
use Rattle.std.specs.List.{cons_option, filter_map, list_all}
use Rattle.sm_policy.specs.Policy.{Policy}
use Rattle.sm_suggestions.specs.LogLines.{allowed_if, line_allowed, line_suggestions, long_count, suggestions_if}
use Rattle.sm_suggestions.specs.Records.{Record, is_long, record_in}
use Rattle.sm_suggestions.specs.Suggesting.{record_allowed, record_suggestions, suggestions}
use Rattle.sm_suggestions.specs.Tallying.{Count, counted_all}
use Rattle.sm_suggestions.proofs.Counts.{count_cons}
use Rattle.sm_suggestions.proofs.Tables.{counted_append}

-- The suggestions for one more line are counted.
pub tally_step : (policy : Policy) (old new : List Count) (line : List ℕ) (before rest : List (List ℕ))
    → before ≡ line ∷ rest → new ≡ counted_all old (line_suggestions policy line)
    → counted_all new (suggestions policy (filter_map record_in rest))
    ≡ counted_all old (suggestions policy (filter_map record_in before))
tally_step policy old new line before rest e is = rw (e, is) (by (record_in line)) where
  by : (o : Option Record)
      → counted_all (counted_all old (suggestions_if policy o)) (suggestions policy (filter_map record_in rest))
      ≡ counted_all old (suggestions policy (cons_option o (filter_map record_in rest)))
  by None = refl
  by (Some r) =
      sym (counted_append old (record_suggestions policy r) (suggestions policy (filter_map record_in rest)))

with_none : (a b : Bool) → ((a && true) && b) ≡ (a && b)
with_none true b = refl
with_none false b = refl

joined : (a b c : Bool) → ((a && b) && c) ≡ (a && (b && c))
joined true b c = refl
joined false b c = refl

-- Whether all accesses of one more line are allowed.
pub allowed_step : (policy : Policy) (old new : Bool) (line : List ℕ) (before rest : List (List ℕ))
    → before ≡ line ∷ rest → new ≡ (old && line_allowed policy line)
    → (new && list_all (record_allowed policy) (filter_map record_in rest))
    ≡ (old && list_all (record_allowed policy) (filter_map record_in before))
allowed_step policy old new line before rest e is = rw (e, is) (by (record_in line)) where
  by : (o : Option Record)
      → ((old && allowed_if policy o) && list_all (record_allowed policy) (filter_map record_in rest))
      ≡ (old && list_all (record_allowed policy) (cons_option o (filter_map record_in rest)))
  by None = with_none old (list_all (record_allowed policy) (filter_map record_in rest))
  by (Some r) = joined old (record_allowed policy r) (list_all (record_allowed policy) (filter_map record_in rest))

-- One more line is too long, or not.
pub skipped_step : (old new : ℕ) (line : List ℕ) (before rest : List (List ℕ))
    → before ≡ line ∷ rest → new ≡ old + long_count line
    → new + count_by is_long rest ≡ old + count_by is_long before
skipped_step old new line before rest e is = rw (e, is, count_cons is_long line rest) (by (is_long line)) where
  by : (b : Bool) → old + cond b 1 0 + count_by is_long rest
      ≡ old + cond b (1 + count_by is_long rest) (count_by is_long rest)
  by true = omega arith
  by false = omega arith

pub long_once : (line : List ℕ) → long_count line ≤ 1
long_once line = by (is_long line) where
  by : (b : Bool) → cond b 1 0 ≤ 1
  by true = omega arith
  by false = omega arith
