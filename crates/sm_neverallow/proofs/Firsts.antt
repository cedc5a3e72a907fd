-- The first violation by number is the first by name.
use Rattle.std.proofs.Common.{◌≡◌, ℕ, ◌<◌, true, ◌&&◌, List, length, refl, sym, ◌∙◌, arith}
use Rattle.std.proofs.lemmas.Bool.{and_parts, and_from}
use Rattle.sm_ruletext.specs.declared.rule.Rule.{Rule}
use Rattle.sm_types.specs.Names.{Name, at}
use Rattle.sm_types.specs.Denoting.{Policy}
use Rattle.sm_rules.specs.Access.{written, forbidden}
use Rattle.sm_rules.specs.Keeping.{class_at, perm_at, covers, covered, Says, KeptRules, RulesOf}
use Rattle.sm_rules.specs.declared.kept.Kept.{Kept}
use Rattle.sm_matrices.proofs.Searches.{any_at}
use Rattle.sm_neverallow.specs.Violating.{clashes, breaks, IsFirstAmong, IsFirstViolation}
use Rattle.sm_neverallow.specs.declared.violation.NumberedViolation.{NumberedViolation}
use Rattle.sm_neverallow.proofs.Apart.{apart_from_each}
use Rattle.sm_neverallow.proofs.Consistent.{AreSaid}

clash_is : (policy : Policy) (names : List Name) (b s t : ℕ) (allow never : ℕ × Rule) (a n : Kept) → s < length names
    → t < length names
    → b < 7 → Says policy names allow a → Says policy names never n
    → clashes b s t a n ≡ breaks policy names b s t allow.1 never.1
clash_is policy names b s t allow never a n hs ht low for_a for_n =
    rw (for_a.covers b s t low hs ht, for_n.covers b s t low hs ht) refl

pub first_is_first : (policy : Policy) (names : List Name) (rules : KeptRules) (v : NumberedViolation)
    → RulesOf policy names rules → AreSaid policy names rules
    → IsFirstAmong rules.allows rules.neverallows rules.count v → IsFirstViolation policy names v
first_is_first policy names rules v is said h =
    let never = said.refusing.of_kept h.place h.never h.found in
    let allow = said.allowing.of_kept h.first.place h.first.allow h.first.found in
    let inside = h.first.between in
    let source : v.source < length names = omega (arith, is.count, inside.source) in
    let target : v.target < length names = omega (arith, is.count, inside.target) in
    record {
      never_place = h.place;
      allow_place = h.first.place;
      never = never.0;
      allow = allow.0;
      never_found = never.1;
      allow_found = allow.1;
      never_line = inside.never_line ∙ never.2.line;
      allow_line = inside.allow_line ∙ allow.2.line;
      bit = inside.bit;
      low = inside.low;
      class = inside.class;
      perm = inside.perm;
      source = source;
      target = target;
      broken = sym (clash_is policy names inside.bit v.source v.target allow.0 never.0 h.first.allow h.never source
          target inside.low allow.2 never.2) ∙ inside.both;
      no_earlier_never = λ n a b s t other from before found_n found_a low hs ht.
          let kn = said.refusing.of_rule n other found_n in
          let ka = said.allowing.of_rule a from found_a in
          sym (clash_is policy names b s t from other ka.0 kn.0 hs ht low ka.2 kn.2)
          ∙ apart_from_each rules.allows kn.0 ka.0 rules.count a b s t (h.no_earlier n kn.0 before kn.1) ka.1 low
          (omega (arith, is.count, hs));
      no_earlier_allow = λ a b s t other before found low hs ht.
          let ka = said.allowing.of_rule a other found in
          sym (clash_is policy names b s t other never.0 ka.0 h.never hs ht low ka.2 never.2)
          ∙ (h.first.no_earlier a ka.0 before ka.1).apart b s t low (omega (arith, is.count, hs))
          (omega (arith, is.count, ht));
      no_lesser_source = λ b s t less low ht.
          sym (clash_is policy names b s t allow.0 never.0 h.first.allow h.never (omega (arith, source, less)) ht low
          allow.2 never.2)
          ∙ inside.no_lesser_source b s t less low (omega (arith, is.count, ht));
      no_lesser_target = λ b t less low.
          sym (clash_is policy names b v.source t allow.0 never.0 h.first.allow h.never source
          (omega (arith, target, less)) low allow.2 never.2)
          ∙ inside.no_lesser_target b t less low;
      no_lesser_perm = λ b less.
          sym (clash_is policy names b v.source v.target allow.0 never.0 h.first.allow h.never source target
          (omega (arith, inside.low, less)) allow.2 never.2)
          ∙ inside.no_lesser_perm b less;
    }

-- What is violated is both written and forbidden.
pub violation_is_both : (policy : Policy) (names : List Name) (rules : KeptRules) (v : NumberedViolation)
    → RulesOf policy names rules
    → AreSaid policy names rules → IsFirstAmong rules.allows rules.neverallows rules.count v
    → (written policy (at names v.source) (at names v.target) v.class v.perm
    && forbidden policy (at names v.source) (at names v.target) v.class v.perm) ≡ true
violation_is_both policy names rules v is said h =
    let inside = h.first.between in
    let source : v.source < length names = omega (arith, is.count, inside.source) in
    let target : v.target < length names = omega (arith, is.count, inside.target) in
    let parts = and_parts (covers inside.bit v.source v.target h.first.allow)
    (covers inside.bit v.source v.target h.never) inside.both in
    let given : covered rules.allows inside.bit v.source v.target ≡ true =
    any_at (covers inside.bit v.source v.target) rules.allows h.first.place h.first.allow h.first.found parts.0 in
    let denied : covered rules.neverallows inside.bit v.source v.target ≡ true =
    any_at (covers inside.bit v.source v.target) rules.neverallows h.place h.never h.found parts.1 in
    rw (inside.class, inside.perm) (and_from
    (written policy (at names v.source) (at names v.target) (class_at inside.bit) (perm_at inside.bit))
    (forbidden policy (at names v.source) (at names v.target) (class_at inside.bit) (perm_at inside.bit))
    (sym (said.writing inside.bit v.source v.target inside.low source target) ∙ given)
    (sym (said.forbidding inside.bit v.source v.target inside.low source target) ∙ denied))
