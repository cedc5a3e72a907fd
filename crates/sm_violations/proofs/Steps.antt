-- From one violation to the next.
use Rattle.std.proofs.Common.{◌≡◌, ℕ, zero, suc, ◌+◌, ◌<◌, ◌≤◌, List, [], ◌∷◌, length, get_or, None, Some, refl, sym}
use Rattle.std.proofs.Common.{ap, ◌∙◌, arith, slice_get}
use Rattle.std.proofs.lemmas.Option.{slice_get_read, slice_get_within}
use Rattle.sm_ruletext.specs.declared.rule.Rule.{Rule}
use Rattle.sm_ruletext.specs.declared.statement.RuleKind.TheVariants.{Allow, Neverallow}
use Rattle.sm_ruletext.specs.declared.statement.Statement.{Statement}
use Rattle.sm_types.specs.Names.{Name}
use Rattle.sm_types.specs.Denoting.{types}
use Rattle.sm_rules.specs.Keeping.{rules_in, AllSay, KeptRules, RulesOf, Says}
use Rattle.sm_rules.specs.declared.kept.Kept.{Kept}
use Rattle.sm_rules.proofs.Consistent.{all_say}
use Rattle.sm_matrices.specs.Matrices.{AllCompiled}
use Rattle.sm_neverallow.specs.Hitting.{IsClear}
use Rattle.sm_neverallow.specs.Violating.{AreApart}
use Rattle.sm_neverallow.proofs.Apart.{apart_from_each}
use Rattle.sm_neverallow.proofs.Broken.{clear_apart}
use Rattle.sm_neverallow.proofs.Meeting.{some_same}
use Rattle.sm_policy.specs.Violating.{first_clash, named_violation}
use Rattle.sm_violations.specs.Finding.{AreApartFrom, IsFirstFrom}
use Rattle.sm_violations.specs.Listing.{violations_left}
use Rattle.sm_violations.specs.declared.violations.Found.{Found}
use Rattle.sm_violations.proofs.Left.{left_end, left_none, left_some}
use Rattle.sm_violations.proofs.Pairs.{apart_is, between_is}

-- ---- by number

pub there_is : {A : Type 0} (xs : List A) (n : ℕ) → n < length xs → (x : A) × (slice_get xs n ≡ Some x)
there_is [] n h = absurd (omega arith)
there_is (x ∷ xs) zero h = (x, refl)
there_is (x ∷ xs) (suc n) h = there_is xs n (omega arith)

-- What was read at an index is the rule there.
pub is_there : (kept nevers : List Kept) (n : ℕ) (it rule : Kept) → kept ≡ nevers → n < length nevers
    → it ≡ get_or kept n it → slice_get nevers n ≡ Some rule → it ≡ rule
is_there kept nevers n it rule e inside is found =
    some_same it rule (sym (slice_get_read nevers (length nevers) n it refl inside (rw e at is)) ∙ found)

pub clear_from : (allows : List Kept) (matrices : List (List (List ℕ))) (count start : ℕ) (never : Kept)
    → AllCompiled allows count 7 matrices → IsClear matrices count never → AreApartFrom allows never count start
clear_from allows matrices count start never made clear =
    let apart = clear_apart allows matrices count never made clear in
    record {
      apart = λ i allow le found. record {
        apart = λ b s t low hs ht. apart_from_each allows never allow count i b s t apart found low hs;
      };
    }

-- ---- by name

module _ (policy : List Statement) (names : List Name) (rules : KeptRules) (is : RulesOf policy names rules) where
  nevers : AllSay policy names (rules_in Neverallow policy) rules.neverallows
  nevers = all_say policy names (rules_in Neverallow policy) rules.neverallows is.distinct (is.kept Neverallow)

  allows : AllSay policy names (rules_in Allow policy) rules.allows
  allows = all_say policy names (rules_in Allow policy) rules.allows is.distinct (is.kept Allow)

  counted : rules.count ≡ length (types policy)
  counted = is.count ∙ ap (λ (l : List Name). length l) is.types

  by_types : (r : ℕ × Rule) (k : Kept) → Says policy names r k → Says policy (types policy) r k
  by_types r k said = rw is.types at said

  apart_there : (r : ℕ × Rule) (k : Kept) (start j : ℕ) (z : ℕ × Rule) → Says policy names r k
      → slice_get (rules_in Allow policy) j ≡ Some z
      → ((a : Kept) → slice_get rules.allows j ≡ Some a → AreApart a k rules.count)
      → first_clash policy r z ≡ None
  apart_there r k start j z said found apart =
      let a = allows.of_rule j z found in
      apart_is policy rules.count r z k a.0 counted (by_types r k said) (by_types z a.0 a.2) (apart a.0 a.1)

  pub step_none : (n start : ℕ) (k : Kept) → slice_get rules.neverallows n ≡ Some k
      → AreApartFrom rules.allows k rules.count start
      → violations_left policy n start ≡ violations_left policy (n + 1) 0
  step_none n start k found h =
      let r = nevers.of_kept n k found in
      left_none policy n start r.0 r.1 (λ j z le at.
      apart_there r.0 k start j z r.2 at (λ a there. h.apart j a le there))

  pub step_some : (n start : ℕ) (k : Kept) (f : Found) → slice_get rules.neverallows n ≡ Some k
      → IsFirstFrom rules.allows k rules.count start f
      → violations_left policy n start ≡ named_violation names f.violation ∷ violations_left policy n f.next
  step_some n start k f found h =
      let r = nevers.of_kept n k found in
      let a = allows.of_kept h.place h.allow h.there in
      let by_name : named_violation (types policy) f.violation ≡ named_violation names f.violation =
      ap (λ (l : List Name). named_violation l f.violation) (sym is.types) in
      let clash : first_clash policy r.0 a.0 ≡ Some (named_violation names f.violation) =
      between_is policy rules.count r.0 a.0 k h.allow counted (by_types r.0 k r.2) (by_types a.0 h.allow a.2)
      f.violation h.between ∙ ap (λ v. Some v) by_name in
      rw h.next (left_some policy n start h.place r.0 a.0 (named_violation names f.violation) r.1 a.1 h.behind clash
      (λ j z le less at. apart_there r.0 k start j z r.2 at (λ o there. h.no_earlier j o le less there)))

  pub at_end : (n start : ℕ) → length rules.neverallows ≤ n → violations_left policy n start ≡ []
  at_end n start le = left_end policy n start (λ r found.
      let k = nevers.of_rule n r found in
      let inside : n < length rules.neverallows = slice_get_within rules.neverallows n k.0 k.1 in absurd (omega arith))
