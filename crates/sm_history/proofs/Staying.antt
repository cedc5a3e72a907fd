-- A client that lives keeps its number and its identity, however a history goes on.
use Rattle.std.proofs.Common.{◌≡◌, ℕ, ◌<◌, ◌==◌, true, false, true≢false, inl, inr, List, [], ◌∷◌, refl, sym, subst}
use Rattle.std.proofs.Common.{◌∙◌, arith}
use Rattle.std.proofs.lemmas.Bool.Decides.{nat_tests}
use Rattle.sm_values.specs.declared.identity.Identity.{Identity}
use Rattle.sm_history.specs.declared.event.Event.{Event}
use Rattle.sm_history.specs.declared.event.Event.TheVariants.{Connect, Add, Release, Die}
use Rattle.sm_history.specs.declared.effect.Effect.TheVariants.{Connects}
use Rattle.sm_history.specs.Beginning.{Move, Made, Seals, gone_on}
use Rattle.sm_history.specs.Books.{Book}
use Rattle.sm_history.specs.Clients.{identity_at, is_live, next_client}
use Rattle.sm_history.specs.Effects.{Effects}
use Rattle.sm_history.specs.Histories.{History, client_of, effects_of}
use Rattle.sm_history.proofs.Keeps.{Lasts, LeftToKeep, event_keeps}
use Rattle.sm_history.proofs.RowsBack.{live_back, who_back}
use Rattle.sm_history.proofs.SoundHistory.{live_or_new}
use Rattle.sm_history.specs.BookOrder.{Begins}
use Rattle.sm_history.proofs.Later.{clients_rise}

abbrev IsWho : ℕ → Identity → Effects → Type 0
IsWho c who d = identity_at d c ≡ who

who_lasts : (c : ℕ) (who : Identity) → Lasts (IsWho c who)
who_lasts c who (Connects k w) d plain h = absurd (true≢false (sym plain))
who_lasts c who _ d plain h = h

-- Who connects gets a new number.
connects_other : (d : Effects) (c : ℕ) (who : Identity) → c < next_client d
    → identity_at (Connects (next_client d) who ∷ d) c ≡ identity_at d c
connects_other d c who lt =
    let other : (next_client d == c) ≡ false = grind (arith, nat_tests) in
    rw other refl

who_left : (d : Effects) (c k : ℕ) (event : Event) → c < next_client d
    → LeftToKeep (IsWho c (identity_at d c)) d k event
who_left d c k (Connect who) lt = connects_other d c who lt
who_left d c k (Add name obj allow dump) lt = refl
who_left d c k (Release handle) lt = refl
who_left d c k Die lt = refl
who_left d c k _ lt = tt

-- Who lives in the end lived all along.
abbrev Stays : ℕ → History → History → Type 0
Stays c new old = (is_live (effects_of old) c ≡ true)
    × (identity_at (effects_of new) c ≡ identity_at (effects_of old) c)

stays_on : (old : History) (ms : List Move) (c : ℕ) → c < next_client (effects_of old)
    → is_live (effects_of (gone_on old ms)) c ≡ true → Stays c (gone_on old ms) old
stays_on old [] c lt live = (live, refl)
stays_on old (Made e ∷ ms) c lt live =
    let d = effects_of (gone_on old ms) in
    let k = client_of e.by in
    let rise = clients_rise old ms in
    let given : c < next_client d = omega (arith, rise, lt) in
    let before : is_live d c ≡ true =
    elim (live_or_new d k e.event c live) as (λ _. is_live d c ≡ true)
    [ inl was ↦ was | inr new ↦ absurd (omega (arith, given, new)) ] in
    let i = stays_on old ms c lt before in
    let who = identity_at d c in
    let same = event_keeps (IsWho c who) (who_lasts c who) d k e.event (who_left d c k e.event given) refl in
    (i.0, same ∙ i.1)
stays_on old (Seals ∷ ms) c lt live =
    let d = effects_of (gone_on old ms) in
    let before : is_live d c ≡ true = sym (live_back d c) ∙ live in
    let i = stays_on old ms c lt before in
    (i.0, sym (who_back d c before) ∙ i.1)

pub client_stays : (new old : Book) (c : ℕ) → Begins new old → c < next_client (effects_of old.history)
    → is_live (effects_of new.history) c ≡ true → (is_live (effects_of old.history) c ≡ true)
    × (identity_at (effects_of new.history) c ≡ identity_at (effects_of old.history) c)
client_stays new old c p lt live =
    let o = old.history in
    let now = subst (λ (h : History). is_live (effects_of h) c ≡ true) p.history.is live in
    subst (λ (h : History). Stays c h o) (sym p.history.is) (stays_on o p.history.moves c lt now)
