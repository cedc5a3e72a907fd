-- What a manager keeps over a seal.
use Rattle.std.proofs.Common.{◌≡◌, ℕ, ◌+◌, ◌≤◌, ◌==◌, false, List, [], ◌∷◌, refl, ap, sym, ◌∙◌, length, arith}
use Rattle.std.specs.Prelude.{◌≢◌}
use Rattle.std.proofs.lemmas.Bool.{true≢false}
use Rattle.std.specs.List.{All}
use Rattle.std.proofs.lemmas.List.Elements.{All-weaker}
use Rattle.sm_history.specs.declared.by.By.{By}
use Rattle.sm_history.specs.declared.entry.Entry.{Entry}
use Rattle.sm_history.specs.declared.records.Record.{Record}
use Rattle.sm_history.specs.Histories.{History, turn_of}
use Rattle.sm_history.specs.Records.{IsTrueOnce}
use Rattle.sm_history.specs.Segments.{admins_of, sealed}
use Rattle.sm_history.proofs.Beginnings.{begins_sealed}
use Rattle.sm_history.proofs.LaterRecords.{stays_true}
use Rattle.sm_history.proofs.NumbersFit.{sealed_lawful, sealed_fits}
use Rattle.sm_core.specs.declared.state.State.{State}
use Rattle.sm_core.specs.declared.turns.Turns.{Turns}
use Rattle.sm_history.specs.declared.limits.TheConstants.{GREATEST}
use Rattle.sm_core.specs.Counting.{counted_admins, change_count}
use Rattle.sm_core.specs.Kept.{Kept}
use Rattle.sm_core.proofs.Small.{small_length}
use Rattle.sm_core.proofs.StandsAlike.{stands_sealed}

some_entry : (es : List Entry) → es ≢ [] → 1 ≤ length es
some_entry [] some = absurd (some refl)
some_entry (e ∷ es) some = omega arith

pub no_entry : (es : List Entry) → length es ≡ 0 → es ≡ []
no_entry [] none = refl
no_entry (e ∷ es) none = absurd (omega (arith, none))

pub has_entry : (es : List Entry) (n : ℕ) → n ≡ length es → (n == 0) ≡ false → es ≢ []
has_entry es n is more none =
    let zero : n ≡ 0 = is ∙ ap (length {A = Entry}) none in
    true≢false (sym (ap (λ (k : ℕ). k == 0) zero) ∙ more)

-- A segment has a number below the greatest where it has a change.
pub small_number : (places : ℕ) (h : History) (turns : Turns) (s : State) → Kept places h turns s → h.entries ≢ [] → h.number + 1 ≤ GREATEST
small_number places h turns s k some =
    let one = some_entry h.entries some in
    let numbered = k.numbered in
    let length = small_length places h turns s k in
    omega (arith, one, numbered, length)

pub kept_sealed : (places : ℕ) (h h' : History) (turns turns' : Turns) (s : State) → Kept places h turns s
    → h.entries ≢ [] → h' ≡ sealed h
    → ((by : By) → change_count turns' by ≡ turn_of (sealed h) by) → counted_admins turns' ≡ admins_of (sealed h)
    → Kept places h' turns' s
kept_sealed places h h' turns turns' s k some is turns_are admins_are = rw is (record {
  lawful = sealed_lawful places h k.lawful;
  numbered =
      let before = k.numbered in
      let one = some_entry h.entries some in
      omega (arith, before, one);
  fits = sealed_fits places h k.fits;
  few = k.few;
  turns_are = turns_are;
  admins_are = admins_are;
  stands = stands_sealed h s k.stands;
})

-- Records that were true of a history stay so over a seal.
pub truth_sealed : (places : ℕ) (h : History) (ring : List Record) → All (IsTrueOnce places h) ring
    → All (IsTrueOnce places (sealed h)) ring
truth_sealed places h ring true_ =
    All-weaker (IsTrueOnce places h) (IsTrueOnce places (sealed h))
    (λ r t. stays_true places (sealed h) h r (begins_sealed places h) t) ring true_
