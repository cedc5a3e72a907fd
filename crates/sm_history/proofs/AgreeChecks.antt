-- Where tables agree, so do the checks of an event of a live client, as far as the first that fails.
use Rattle.std.proofs.Common.{◌≡◌, ℕ, Bool, true, false, ◌&&◌, ◌==◌, List, [], ◌∷◌, ◌++◌, refl, ap, sym, ◌∙◌}
use Rattle.std.proofs.Common.{Option, Some, None}
use Rattle.std.specs.Prelude.{not, is_some}
use Rattle.std.specs.List.{list_any}
use Rattle.std.proofs.lemmas.Bool.{true≢false}
use Rattle.sm_values.specs.declared.number.Node.{Node}
use Rattle.sm_values.specs.declared.number.ObjRef.{ObjRef}
use Rattle.sm_values.specs.declared.number.ObjRef.TheVariants.{Own as OwnRef, Handle as HandleRef, Null as NullRef}
use Rattle.sm_policy.specs.Policy.{Policy}
use Rattle.sm_history.specs.EarlyAnswers.{EarlyAnswer}
use Rattle.sm_history.specs.declared.event.Event.{Event}
use Rattle.sm_history.specs.declared.event.Event.TheVariants.{Open, Connect, Add, Get, Watch as WatchName, Unwatch}
use Rattle.sm_history.specs.declared.event.Event.TheVariants.{Unregister, Call, Release, Take, Die, Reload}
use Rattle.sm_history.specs.declared.refusal.Refusal.TheVariants.{Failed, Dead}
use Rattle.sm_history.specs.declared.refusal.Failure.TheVariants.{BadHandle, TargetFull}
use Rattle.sm_history.specs.EarlyAnswers.{Refused}
use Rattle.sm_history.specs.Effects.{Effects, Service}
use Rattle.sm_history.specs.Clients.{is_live, live_clients}
use Rattle.sm_history.specs.Holdings.{is_held, node_at, resolve_at, handed, fits_handles, is_in_use}
use Rattle.sm_history.specs.Services.{service_at, has_name_room}
use Rattle.sm_history.specs.Inboxes.{has_inbox_room}
use Rattle.sm_history.specs.Checks.{Check, Wants, first_failing, to_client, calling}
use Rattle.sm_history.specs.Histories.{found, handed_refs}
use Rattle.sm_history.specs.Verdict.{event_checks, passes_to_manager, passes_to_client, all_pass_to_client, owner_lives}
use Rattle.sm_history.specs.Verdict.{naming_checks, add_checks, handing_checks, get_checks, watch_checks}
use Rattle.sm_history.specs.Verdict.{unwatch_checks, unregister_checks, object_checks, call_checks}
use Rattle.sm_history.proofs.Rising.{names_alike}
pub use Rattle.sm_history.specs.Entering.{Acts}
use Rattle.sm_history.proofs.AgreeEffects.{Sim, sim_held, sim_nodes}
use Rattle.sm_history.proofs.AgreeNotices.{sim_handed, fits_alike, room_alike, resolve_alike, sim_refs}

-- ---- parts

passes_manager_alike : (d e : Effects) (c : ℕ) (r : ObjRef) → Sim d e → is_live d c ≡ true
    → passes_to_manager d c r ≡ passes_to_manager e c r
passes_manager_alike d e c NullRef s live = refl
passes_manager_alike d e c (OwnRef o) s live = rw (s.agree.who c live, s.agree.manager) refl
passes_manager_alike d e c (HandleRef r) s live = rw (sim_nodes d e c r s, s.agree.who c live, s.agree.manager) refl

passes_client_alike : (d e : Effects) (c k : ℕ) (r : ObjRef) → Sim d e → is_live d c ≡ true → is_live d k ≡ true
    → passes_to_client d c k r ≡ passes_to_client e c k r
passes_client_alike d e c k NullRef s live there = refl
passes_client_alike d e c k (OwnRef o) s live there = rw (s.agree.who c live, s.agree.who k there) refl
passes_client_alike d e c k (HandleRef r) s live there =
    rw (sim_nodes d e c r s, s.agree.who c live, s.agree.who k there) refl

all_pass_alike : (d e : Effects) (c k : ℕ) (rs : List ObjRef) → Sim d e → is_live d c ≡ true → is_live d k ≡ true
    → all_pass_to_client d c k rs ≡ all_pass_to_client e c k rs
all_pass_alike d e c k [] s live there = refl
all_pass_alike d e c k (r ∷ rs) s live there =
    rw (passes_client_alike d e c k r s live there, all_pass_alike d e c k rs s live there) refl

owner_alike : (d e : Effects) (c : ℕ) (r : ObjRef) → Sim d e
    → owner_lives d (found (resolve_at d c r)) ≡ owner_lives e (found (resolve_at e c r))
owner_alike d e c r s = ap (λ (o : Option Node). owner_lives d (found o)) (resolve_alike d e c r s) ∙
    s.agree.lives (found (resolve_at e c r)).owner.0

name_room_alike : (d e : Effects) (name : List ℕ) → Sim d e → has_name_room d name ≡ has_name_room e name
name_room_alike d e name s = rw (s.agree.services name, names_alike d e s.agree.services) refl

any_alike : (p q : ℕ → Bool) (xs : List ℕ) → ((k : ℕ) → p k ≡ q k) → list_any p xs ≡ list_any q xs
any_alike p q [] same = refl
any_alike p q (x ∷ xs) same = rw (same x, any_alike p q xs same) refl

in_use_alike : (d e : Effects) (c : ℕ) (n : Node) → Sim d e → is_in_use d c n ≡ is_in_use e c n
in_use_alike d e c n s =
    any_alike (λ k. not (k == c) && is_held d k n) (λ k. not (k == c) && is_held e k n) (live_clients d)
    (λ k. ap (λ t. not (k == c) && t) (sim_held d e k n s))
    ∙ ap (list_any (λ k. not (k == c) && is_held e k n)) s.agree.live_list

-- ---- the checks of each event

naming_alike : (d e : Effects) (c : ℕ) (name : List ℕ) (obj : ObjRef) → Sim d e → is_live d c ≡ true
    → naming_checks d c name obj ≡ naming_checks e c name obj
naming_alike d e c name obj s live =
    rw (owner_alike d e c obj s, name_room_alike d e name s, s.agree.who c live, s.agree.policy) refl

add_alike : (d e : Effects) (c : ℕ) (name : List ℕ) (obj : ObjRef) → Sim d e → is_live d c ≡ true
    → add_checks d c name obj ≡ add_checks e c name obj
add_alike d e c name obj s live = rw (passes_manager_alike d e c obj s live, naming_alike d e c name obj s live)
    (rw (s.agree.who c live, s.agree.manager) refl)

handing_alike : (d e : Effects) (c : ℕ) (o : Option Service) → Sim d e → is_live d c ≡ true
    → handing_checks d c o ≡ handing_checks e c o
handing_alike d e c None s live = refl
handing_alike d e c (Some t) s live =
    rw (fits_alike (handed d c t.node) (handed e c t.node) c (sim_handed d e c t.node live s)) refl

get_alike : (d e : Effects) (c : ℕ) (name : List ℕ) → Sim d e → is_live d c ≡ true
    → get_checks d c name ≡ get_checks e c name
get_alike d e c name s live = rw (s.agree.services name, handing_alike d e c (service_at e name) s live)
    (rw (s.agree.who c live, s.agree.manager, s.agree.policy) refl)

watch_alike : (d e : Effects) (c : ℕ) (name : List ℕ) → Sim d e → is_live d c ≡ true
    → watch_checks d c name ≡ watch_checks e c name
watch_alike d e c name s live = rw (s.agree.who c live, s.agree.manager, s.agree.policy, s.agree.watches) refl

unwatch_alike : (d e : Effects) (c : ℕ) (name : List ℕ) (object : ℕ) → Sim d e → is_live d c ≡ true
    → unwatch_checks d c name object ≡ unwatch_checks e c name object
unwatch_alike d e c name object s live = rw (s.agree.who c live, s.agree.manager, s.agree.policy, s.agree.watches) refl

unregister_alike : (d e : Effects) (c : ℕ) (name : List ℕ) (obj : ObjRef) → Sim d e → is_live d c ≡ true
    → unregister_checks d c name obj ≡ unregister_checks e c name obj
unregister_alike d e c name obj s live =
    rw (passes_manager_alike d e c obj s live, s.agree.services name, resolve_alike d e c obj s)
    (rw (in_use_alike d e c (found (resolve_at e c obj)) s, s.agree.who c live, s.agree.manager, s.agree.policy) refl)

-- ---- the first that fails

-- What follows a condition matters only where it holds.
pub behind_alike : (p : Policy) (r : EarlyAnswer) (a b : Bool) (xs ys : List Check) → a ≡ b
    → (a ≡ true → first_failing p xs ≡ first_failing p ys)
    → first_failing p (Wants a r ∷ xs) ≡ first_failing p (Wants b r ∷ ys)
behind_alike p r true true xs ys is more = more refl
behind_alike p r true false xs ys is more = absurd (true≢false is)
behind_alike p r false true xs ys is more = absurd (true≢false (sym is))
behind_alike p r false false xs ys is more = refl

-- The checks of a call behind that of the owner's life.
abbrev served_checks : Effects → ℕ → List ObjRef → Node → List Check
served_checks d c refs n =
    to_client d c n.owner.0 calling
    ∷ all_pass_to_client d c n.owner.0 refs
    ++ Wants (has_inbox_room d n.owner.0 && fits_handles (handed_refs d c n.owner.0 refs) n.owner.0)
    (Refused (Failed TargetFull))
    ∷ []

served_alike : (d e : Effects) (c : ℕ) (refs : List ObjRef) (n : Node) → Sim d e → is_live d c ≡ true
    → is_live d n.owner.0 ≡ true → served_checks d c refs n ≡ served_checks e c refs n
served_alike d e c refs n s live there =
    let k = n.owner.0 in
    let fits = fits_alike (handed_refs d c k refs) (handed_refs e c k refs) k (sim_refs d e c k refs there s) in
    rw (all_pass_alike d e c k refs s live there, room_alike d e k s, fits)
    (rw (s.agree.who c live, s.agree.who k there) refl)

rest_alike : (p : Policy) (rest : List Check) {xs ys : List Check} → xs ≡ ys
    → first_failing p (xs ++ rest) ≡ first_failing p (ys ++ rest)
rest_alike p rest same = ap (λ zs. first_failing p (zs ++ rest)) same

object_alike : (d e : Effects) (c : ℕ) (refs : List ObjRef) (n : Node) (p : Policy) (rest : List Check) → Sim d e
    → is_live d c ≡ true
    → first_failing p (object_checks d c refs n ++ rest) ≡ first_failing p (object_checks e c refs n ++ rest)
object_alike d e c refs n p rest s live =
    behind_alike p (Refused Dead) (owner_lives d n) (owner_lives e n) (served_checks d c refs n ++ rest)
    (served_checks e c refs n ++ rest) (s.agree.lives n.owner.0)
    (λ there. rest_alike p rest (served_alike d e c refs n s live there))

call_alike : (d e : Effects) (c handle : ℕ) (refs : List ObjRef) (p : Policy) (rest : List Check) → Sim d e
    → is_live d c ≡ true
    → first_failing p (call_checks d c handle refs ++ rest) ≡ first_failing p (call_checks e c handle refs ++ rest)
call_alike d e c handle refs p rest s live =
    let n = node_at e c handle in
    ap (λ (o : Option Node). first_failing p
    (Wants (is_some o) (Refused (Failed BadHandle)) ∷ object_checks d c refs (found o) ++ rest))
    (sim_nodes d e c handle s)
    ∙ behind_alike p (Refused (Failed BadHandle)) (is_some n) (is_some n) (object_checks d c refs (found n) ++ rest)
    (object_checks e c refs (found n) ++ rest) refl (λ some. object_alike d e c refs (found n) p rest s live)

pub checks_alike : (d e : Effects) (c : ℕ) (event : Event) (p : Policy) (rest : List Check) → Sim d e → Acts d c event
    → first_failing p (event_checks d c event ++ rest) ≡ first_failing p (event_checks e c event ++ rest)
checks_alike d e c (Open who policy) p rest s acts = refl
checks_alike d e c (Connect who) p rest s acts = rw (s.agree.live_list, s.agree.clients) refl
checks_alike d e c (Add name obj allow dump) p rest s acts = rest_alike p rest (add_alike d e c name obj s acts)
checks_alike d e c (Get name) p rest s acts = rest_alike p rest (get_alike d e c name s acts)
checks_alike d e c (WatchName name object) p rest s acts = rest_alike p rest (watch_alike d e c name s acts)
checks_alike d e c (Unwatch name object) p rest s acts = rest_alike p rest (unwatch_alike d e c name object s acts)
checks_alike d e c (Unregister name obj) p rest s acts = rest_alike p rest (unregister_alike d e c name obj s acts)
checks_alike d e c (Call handle payload refs) p rest s acts = call_alike d e c handle refs p rest s acts
checks_alike d e c (Release handle) p rest s acts = rw (sim_nodes d e c handle s) refl
checks_alike d e c Take p rest s acts = rw (s.agree.inboxes c) refl
checks_alike d e c Die p rest s acts = refl
checks_alike d e c (Reload expected policy) p rest s acts = rw s.agree.version refl
