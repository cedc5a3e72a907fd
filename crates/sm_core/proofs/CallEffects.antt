-- The effects of a call: grants of what its references name, and a delivery.
use Rattle.std.proofs.Common.{◌≡◌, inl, Ok, Err, ℕ, suc, ◌+◌, ◌≤◌, Bool, true, false, ◌==◌, List, [], ◌∷◌, ◌++◌}
use Rattle.std.proofs.Common.{Option, Some, None, refl, ap, sym, ◌∙◌, subst, length, if◌then◌else◌, arith}
use Rattle.std.specs.Global.{Vec}
use Rattle.std.specs.Prelude.{nat_le, ◌&&◌, Result, MatchResult}
use Rattle.std.proofs.lemmas.Bool.{and_parts}
use Rattle.std.proofs.lemmas.Bool.Decides.{nat_tests}
use Rattle.sm_values.specs.declared.number.Node.{Node}
use Rattle.sm_values.specs.declared.number.ObjRef.{ObjRef}
use Rattle.sm_history.specs.declared.delivery.Delivery.{Delivery}
use Rattle.sm_history.specs.declared.delivery.Given.{Given}
use Rattle.sm_history.specs.declared.delivery.Message.TheVariants.{Called}
use Rattle.sm_history.specs.declared.effect.Effect.{Effect}
use Rattle.sm_history.specs.declared.effect.Effect.TheVariants.{Gives, Delivers}
use Rattle.sm_history.specs.declared.event.Event.TheVariants.{Call}
use Rattle.sm_history.specs.declared.outcome.Outcome.{Outcome, TheVariants.Sent}
use Rattle.sm_history.specs.declared.reply.Reply.{Reply}
use Rattle.sm_history.specs.declared.records.Record.{Record}
use Rattle.sm_history.specs.Records.{Moment, moment_of}
use Rattle.sm_history.specs.Effects.{Effects}
use Rattle.sm_history.specs.Clients.{is_live, identity_at}
use Rattle.sm_history.specs.Holdings.{node_at, number_for, fits_handles, held_nodes, is_held}
use Rattle.sm_history.specs.Histories.{History, effects_of, found, handed_refs, call_delivery}
use Rattle.sm_history.specs.Inboxes.{has_inbox_room}
use Rattle.sm_history.specs.Following.{MayFollowApart, MayAllApart, followed}
use Rattle.sm_history.specs.Sound.{Sound}
use Rattle.sm_history.specs.Verdict.{all_pass_to_client, event_checks}
use Rattle.sm_history.proofs.AgreeNotices.{number_for_is}
use Rattle.sm_history.proofs.Grants.{count_gives}
use Rattle.sm_history.proofs.Sound.{sound_gives}
use Rattle.sm_grants.specs.Several.{after_grants, numbers_for}
use Rattle.sm_grants.specs.Handing.{AreNamed, others}
use Rattle.sm_grants.proofs.Handing.{handed_are}
use Rattle.sm_core.specs.declared.draft.Draft.{Draft}
use Rattle.sm_core.specs.Stands.{DeathIsLast}
use Rattle.sm_core.specs.Judging.{AllPass, IsDrafted, PassesWith, out_of_memory}
use Rattle.sm_core.specs.Calling.{Sends, gives_of, sent, target_checks}
use Rattle.sm_core.proofs.CallChecks.{call_passes}

-- ---- counts

pub numbers_many : (d : Effects) (k : ℕ) (ns : List Node) → length (numbers_for d k ns) ≡ length ns
numbers_many d k [] = refl
numbers_many d k (n ∷ ns) = ap suc (numbers_many (Gives k n (number_for d k n) ∷ d) k ns)

-- ---- the effects afterwards

followed_gives : (d : Effects) (k : ℕ) (ns : List Node) (x : Effect)
    → followed d (gives_of k ns (numbers_for d k ns) ++ x ∷ []) ≡ x ∷ after_grants d k ns
followed_gives d k [] x = refl
followed_gives d k (n ∷ ns) x = followed_gives (Gives k n (number_for d k n) ∷ d) k ns x

live_granted : (d : Effects) (k : ℕ) (ns : List Node) (c : ℕ) → is_live (after_grants d k ns) c ≡ is_live d c
live_granted d k [] c = refl
live_granted d k (n ∷ ns) c = live_granted (Gives k n (number_for d k n) ∷ d) k ns c

inbox_granted : (d : Effects) (k : ℕ) (ns : List Node) (c : ℕ)
    → has_inbox_room (after_grants d k ns) c ≡ has_inbox_room d c
inbox_granted d k [] c = refl
inbox_granted d k (n ∷ ns) c = inbox_granted (Gives k n (number_for d k n) ∷ d) k ns c

-- ---- that each effect may follow

sound_granted : (d : Effects) (k : ℕ) (n : Node) → Sound d → is_live d k ≡ true
    → Sound (Gives k n (number_for d k n) ∷ d)
sound_granted d k n s live = sound_gives d k n (number_for d k n) live (number_for_is d k n) s

one_more : (b : Bool) (m many : ℕ) → m ≡ (if b then many else many + 1) → many ≤ m
one_more true m many e = omega (arith, e)
one_more false m many e = omega (arith, e)

-- Grants only add to what is held.
held_grows : (d : Effects) (k : ℕ) (ns : List Node) → Sound d → is_live d k ≡ true
    → length (held_nodes d k) ≤ length (held_nodes (after_grants d k ns) k)
held_grows d k [] s live = omega arith
held_grows d k (n ∷ ns) s live =
    let e = Gives k n (number_for d k n) ∷ d in
    let one = one_more (is_held d k n) (length (held_nodes e k)) (length (held_nodes d k))
    (count_gives d k n (number_for d k n) s.balanced live) in
    let rest = held_grows e k ns (sound_granted d k n s live) live in
    omega (arith, one, rest)

fewer_fit : (few many : ℕ) → few ≤ many → nat_le many 65536 ≡ true → nat_le few 65536 ≡ true
fewer_fit few many le fits = grind (arith, nat_tests)

fits_before : (d : Effects) (k : ℕ) (ns : List Node) → Sound d → is_live d k ≡ true
    → fits_handles (after_grants d k ns) k ≡ true → fits_handles d k ≡ true
fits_before d k ns s live fits =
    fewer_fit (length (held_nodes d k)) (length (held_nodes (after_grants d k ns) k)) (held_grows d k ns s live) fits

abbrev AreForeign : ℕ → List Node → Type 0
AreForeign k [] = Unit {0}
AreForeign k (n ∷ ns) = ((n.owner.0 == k) ≡ false) × AreForeign k ns

others_foreign : (k : ℕ) (os : List (Option Node)) → AreForeign k (others k os)
others_foreign k [] = tt
others_foreign k (None ∷ os) = others_foreign k os
others_foreign k (Some n ∷ os) =
    elim (n.owner.0 == k) as (λ b. (n.owner.0 == k) ≡ b → AreForeign k (if b then others k os else n ∷ others k os)) [
      | true ↦ λ e. others_foreign k os
      | false ↦ λ e. (e, others_foreign k os)
    ] refl

may_gives : (d : Effects) (k : ℕ) (ns : List Node) (x : Effect) → Sound d → is_live d k ≡ true → AreForeign k ns
    → fits_handles (after_grants d k ns) k ≡ true → MayFollowApart (after_grants d k ns) x
    → MayAllApart d (gives_of k ns (numbers_for d k ns) ++ x ∷ [])
may_gives d k [] x s live foreign fits may = (may, tt)
may_gives d k (n ∷ ns) x s live foreign fits may =
    let e = Gives k n (number_for d k n) ∷ d in
    let sound = sound_granted d k n s live in
    ((live, refl, foreign.0, fits_before e k ns sound live fits), may_gives e k ns x sound live foreign.1 fits may)

last_delivers : (k : ℕ) (ns : List Node) (rs : List ℕ) (c : ℕ) (x : Delivery)
    → DeathIsLast (gives_of k ns rs ++ Delivers c x ∷ [])
last_delivers k [] rs c x = (λ e. refl, tt)
last_delivers k (n ∷ ns) [] c x = (λ e. refl, tt)
last_delivers k (n ∷ ns) (r ∷ rs) c x = (λ e. cc, last_delivers k ns rs c x)

-- ---- the draft

sent_is : (d : Effects) (c handle : ℕ) (n : Node) (payload : List ℕ) (refs : List ObjRef) (named : List (Option Node))
    → node_at d c handle ≡ Some n → Sound d → is_live d n.owner.0 ≡ true → AreNamed d c refs named
    → sent d c n payload named ≡ call_delivery d c (found (node_at d c handle)) payload refs
sent_is d c handle n payload refs named at s live are =
    let who = identity_at d c in
    let with : List Given → Delivery = λ gs. record { object = n.object; what = Called who.pid who.uid payload gs } in
    rw at (ap with (sym (handed_are d c n.owner.0 refs named s live are).0))

pub call_drafted : (m : Moment) (d : Effects) (c handle : ℕ) (n : Node) (payload : List ℕ) (refs : List ObjRef)
    (named : List (Option Node)) (old new : Draft) (outcome : Outcome) → node_at d c handle ≡ Some n → Sound d
    → is_live d n.owner.0 ≡ true → AreNamed d c refs named → has_inbox_room d n.owner.0 ≡ true
    → fits_handles (after_grants d n.owner.0 (others n.owner.0 named)) n.owner.0 ≡ true → old.told.items ≡ []
    → Sends d c n payload named old new outcome → IsDrafted m d c (Call handle payload refs) new outcome
call_drafted m d c handle n payload refs named old new outcome at s live are room fits none sends =
    let k = n.owner.0 in
    let ns = others k named in
    let x = sent d c n payload named in
    let is = sent_is d c handle n payload refs named at s live are in
    record {
      outcome = sends.outcome ∙ ap (λ (v : Delivery). Sent v) is;
      told = ap (λ (v : Vec Record). v.items) sends.told ∙ none;
      effects = ap (followed d) sends.effects ∙ followed_gives d k ns (Delivers k x)
          ∙ ap (λ (e : Effects). Delivers k x ∷ e) (sym (handed_are d c k refs named s live are).1)
          ∙ ap (λ (v : Delivery). Delivers k v ∷ handed_refs d c k refs) is
          ∙ rw at refl;
      may = subst (MayAllApart d) (sym sends.effects)
          (may_gives d k ns (Delivers k x) s live (others_foreign k named) fits
          (live_granted d k ns k ∙ live, inbox_granted d k ns k ∙ room));
      last = subst DeathIsLast (sym sends.effects) (last_delivers k ns (numbers_for d k ns) k x);
      sound = tt;
    }

-- After all checks, a call was drafted, or an allocation failed.
pub call_judged : (h : History) (old one : List Record) (mid new : Draft) (c handle : ℕ) (n : Node) (payload : List ℕ)
    (refs : List ObjRef) (named : List (Option Node)) (result : Result Outcome Reply)
    → let d = effects_of h in let m = moment_of h in AllPass m old one (target_checks d c (node_at d c handle))
    → node_at d c handle ≡ Some n → Sound d → is_live d n.owner.0 ≡ true → AreNamed d c refs named
    → AllPass m one mid.records.items (all_pass_to_client d c n.owner.0 refs)
    → (has_inbox_room d n.owner.0 && fits_handles (after_grants d n.owner.0 (others n.owner.0 named)) n.owner.0) ≡ true
    → mid.told.items ≡ [] → MatchResult result (Sends d c n payload named mid new) (λ s. s ≡ out_of_memory)
    → PassesWith m old new.records.items (event_checks d c (Call handle payload refs))
    (IsDrafted m d c (Call handle payload refs) new) result
call_judged h old one mid new c handle n payload refs named (Err s) target at sound live are pass room none made =
    inl made
call_judged h old one mid new c handle n payload refs named (Ok o) target at sound live are pass room none made =
    let d = effects_of h in
    let m = moment_of h in
    let k = n.owner.0 in
    let both = and_parts (has_inbox_room d k) (fits_handles (after_grants d k (others k named)) k) room in
    let same = ap (λ (v : Vec Record). v.items) made.records in (
      subst (λ (rs : List Record). AllPass m old rs (event_checks d c (Call handle payload refs))) (sym same)
          (call_passes m old one mid.records.items d c handle n refs named target at sound live are pass room),
      call_drafted m d c handle n payload refs named mid new o at sound live are both.0 both.1 none made,
    )
