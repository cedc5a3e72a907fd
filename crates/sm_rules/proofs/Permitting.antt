-- The types that the statements make permissive.
use Rattle.std.proofs.Common.{◌≡◌, ℕ, ◌+◌, ◌<◌, Bool, true, false, ◌||◌, cond, List, [], ◌∷◌, ◌++◌, length, get_or}
use Rattle.std.proofs.Common.{take, Option, None, Some, refl, sym, ap, ◌∙◌, add-one, eqb}
use Rattle.std.specs.Option.{option_or}
use Rattle.std.specs.Str.{bytes_eq}
use Rattle.std.proofs.Math.Seq.{take-suc}
use Rattle.std.proofs.lemmas.List.Folds.{list_any-append}
use Rattle.std.proofs.lemmas.Option.{get_or_from_slice_get, slice_get_within}
use Rattle.std.proofs.lemmas.Slice.Eq.{bytes_eq-Decides}
use Rattle.std.specs.Prelude.{slice_get}
use Rattle.sm_bits.specs.Bits.{has}
use Rattle.sm_ruletext.specs.declared.statement.What.{What}
use Rattle.sm_ruletext.specs.declared.statement.What.TheVariants as what
use Rattle.sm_ruletext.specs.declared.statement.Statement.{Statement}
use Rattle.sm_types.specs.Names.{Name, at, Distinct}
use Rattle.sm_types.specs.Denoting.{Policy, declares}
use Rattle.sm_rules.specs.declared.fault.RulesFault.{RulesFault}
use Rattle.sm_rules.specs.declared.fault.RulesFault.TheVariants.{Unknown}
use Rattle.sm_rules.specs.Access.{is_permissive, names_permissive}
use Rattle.sm_rules.specs.Faults.{fault_of, fault_among, first_fault}
use Rattle.sm_rules.specs.Keeping.{Permits, SaysPermissive}
use Rattle.sm_rules.proofs.Lines.{same_place}

-- ---- what is made permissive is declared

named_declared : (policy : Policy) (s : Name) (line : ℕ) (what : What) → fault_of policy line what ≡ None
    → names_permissive s what ≡ true → declares policy s ≡ true
named_declared policy s line (what.Permissive n) none h =
    let same : s ≡ n = (bytes_eq-Decides s n).0 h in rw same (by (declares policy n) none) where
      by : (b : Bool) → cond {A = Option RulesFault} b None (Some (Unknown line)) ≡ None → b ≡ true
      by true g = refl
      by false g = absurd (cc g)
named_declared policy s line (what.Rule kind r) none h = absurd (cc h)
named_declared policy s line (what.Attribute n) none h = absurd (cc h)
named_declared policy s line (what.Declared n names) none h = absurd (cc h)
named_declared policy s line (what.Member n names) none h = absurd (cc h)

declared_among : (policy : Policy) (s : Name) (sts : List Statement) → fault_among policy sts ≡ None
    → is_permissive sts s ≡ true → declares policy s ≡ true
unfolding fault_among
declared_among policy s [] none h = absurd (cc h)
declared_among policy s (st ∷ sts) none h =
    by (fault_of policy st.line st.what) refl none (names_permissive s st.what) refl h
    (λ g k. declared_among policy s sts g k) where
      by : (o : Option RulesFault) → fault_of policy st.line st.what ≡ o → option_or o (fault_among policy sts) ≡ None
          → (b : Bool) → names_permissive s st.what ≡ b → (b || is_permissive sts s) ≡ true
          → (fault_among policy sts ≡ None → is_permissive sts s ≡ true → declares policy s ≡ true)
          → declares policy s ≡ true
      by (Some e) is g b here k rest = absurd (cc g)
      by None is g true here k rest = named_declared policy s st.line st.what is here
      by None is g false here k rest = rest g k

pub permissive_declared : (policy : Policy) (s : Name) → first_fault policy ≡ None → is_permissive policy s ≡ true
    → declares policy s ≡ true
permissive_declared policy s none h = declared_among policy s policy none h

-- ---- the row of permissive types

-- The row with the type of a name.
pub inserted : (names : List Name) (name : Name) (old new : List ℕ) (place i : ℕ) → Distinct names
    → slice_get names place ≡ Some name → i < length names → has new i ≡ (eqb i place || has old i)
    → has new i ≡ (bytes_eq (at names i) name || has old i)
inserted names name old new place i distinct found inside is =
    let here : at names place ≡ name = get_or_from_slice_get names place name [] found in
    let e : eqb i place ≡ bytes_eq (at names i) name =
    same_place names i place distinct inside (slice_get_within names place name found)
    ∙ ap (λ (n : Name). bytes_eq (at names i) n) here in
    is ∙ ap (λ (b : Bool). b || has old i) e

other_way : (a b : Bool) → (a || b) ≡ (b || (a || false))
other_way true true = refl
other_way true false = refl
other_way false true = refl
other_way false false = refl

-- The row of one more statement.
pub permitted_more : (names : List Name) (sts : Policy) (i : ℕ) (st : Statement) (old new : List ℕ) → i < length sts
    → st ≡ get_or sts i st → SaysPermissive (take i sts) names old → Permits names st.what old new
    → SaysPermissive (take (i + 1) sts) names new
permitted_more names sts i st old new inside is before step =
    let e : take (i + 1) sts ≡ take i sts ++ st ∷ [] = rw (add-one i, take-suc sts i st inside, ← is) refl in record {
      says = λ j within.
          (let n : Name = at names j in
          step.says j within
          ∙ (ap (λ (b : Bool). names_permissive n st.what || b) (before.says j within)
          ∙ (other_way (names_permissive n st.what) (is_permissive (take i sts) n)
          ∙ (sym (list_any-append (λ (x : Statement). names_permissive n x.what) (take i sts) (st ∷ []))
          ∙ ap (λ (x : Policy). is_permissive x n) (sym e)))));
    }
