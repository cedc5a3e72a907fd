-- Neverallow rules against all allow rules, by number.
use Rattle.std.proofs.Common.{inl, inr, ◌≡◌, ℕ, ◌<◌, Bool, true, false, ◌&&◌, ◌||◌, List, Option, Some, None, refl}
use Rattle.std.proofs.Common.{sym, ◌∙◌, arith, slice_get, true≢false}
use Rattle.std.specs.Option.{IfNone}
use Rattle.std.proofs.lemmas.Bool.{cases_lt, ne_eqb, false_from_ne_true, and_parts, and_from}
use Rattle.sm_bits.specs.Bits.{has, has_bit}
use Rattle.sm_rules.specs.declared.kept.Kept.{Kept}
use Rattle.sm_rules.specs.Keeping.{joins, covers, covered, FitsRule}
use Rattle.sm_matrices.proofs.Searches.{some_at, any_at}
use Rattle.sm_neverallow.specs.Violating.{clashes, IsApart, Meets, AreApart}

-- A rule joins types alone.
target_inside : (rule : Kept) (count s t : ℕ) → FitsRule count rule → s < count → joins s t rule ≡ true → t < count
target_inside rule count s t fits inside h = elim (cases_lt t count) [
  | inl l ↦ l
  | inr past ↦ (let other : s ≡ t → ⊥ = omega arith in
      let none : joins s t rule ≡ false = rw (fits.targets_past t past, ne_eqb s t other)
      (nothing (has rule.sources s) rule.to_self) in
      absurd (true≢false (sym h ∙ none)))
]
  where
    nothing : (x y : Bool) → (x && (false || (y && false))) ≡ false
    nothing true true = refl
    nothing true false = refl
    nothing false y = refl

-- A neverallow rule that meets the allow rules is not apart from each of them.
pub not_all_apart : (allows : List Kept) (never : Kept) (count : ℕ) → FitsRule count never → Meets allows count never
    → ((i : ℕ) (allow : Kept) → slice_get allows i ≡ Some allow → AreApart allow never count) → ⊥
not_all_apart allows never count fits m apart =
    let given : covered allows m.b m.s m.t ≡ true =
    (and_parts (covered allows m.b m.s m.t) (covers m.b m.s m.t never) m.both).0 in
    let forbidden : covers m.b m.s m.t never ≡ true =
    (and_parts (covered allows m.b m.s m.t) (covers m.b m.s m.t never) m.both).1 in
    let r = some_at (covers m.b m.s m.t) allows given in
    let inside : m.t < count = target_inside never count m.s m.t fits m.inside
    (and_parts (joins m.s m.t never) (has_bit never.perms.0 m.b) forbidden).0 in
    let no : clashes m.b m.s m.t r.1 never ≡ false = (apart r.0 r.1 r.2).apart m.b m.s m.t m.low m.inside inside in
    true≢false (sym (and_from (covers m.b m.s m.t r.1) (covers m.b m.s m.t never) r.3 forbidden) ∙ no)

-- What is apart from all allow rules is apart from each.
pub apart_from_each : (allows : List Kept) (never allow : Kept) (count i b s t : ℕ) → IsApart allows count never
    → slice_get allows i ≡ Some allow → b < 7 → s < count
    → clashes b s t allow never ≡ false
apart_from_each allows never allow count i b s t is found low inside =
    false_from_ne_true (clashes b s t allow never) (λ h.
    let given : covered allows b s t ≡ true = any_at (covers b s t) allows i allow found
    (and_parts (covers b s t allow) (covers b s t never) h).0 in
    let both : (covered allows b s t && covers b s t never) ≡ true =
    and_from (covered allows b s t) (covers b s t never) given
    (and_parts (covers b s t allow) (covers b s t never) h).1 in
    true≢false (sym both ∙ is.apart b s t low inside))

pub none_map : {X : Type 0} (r : Option X) (P Q : Type 0) → (P → Q) → IfNone r P → IfNone r Q
none_map None P Q f h = f h
none_map (Some x) P Q f h = tt
