-- The outcomes of a lawful history list just the deliveries, the numbers of handles and the clients of its effects.
use Rattle.std.proofs.Common.{inl, inr, ◌≡◌, ℕ, true, false, ◌==◌, List, [], ◌∷◌, ◌++◌, refl, ap, sym, ◌∙◌, subst}
use Rattle.std.proofs.Common.{Option, Some, None, if◌then◌else◌}
use Rattle.std.specs.Prelude.{filter_map, reverse, is_some}
use Rattle.std.proofs.lemmas.Bool.{true≢false, not-true}
use Rattle.std.proofs.lemmas.List.{reverse-append, append_assoc, append-nil}
use Rattle.sm_values.specs.declared.number.Node.{Node}
use Rattle.sm_values.specs.declared.number.ObjRef.{ObjRef}
use Rattle.sm_history.specs.declared.delivery.Given.TheVariants.{Handle, Own}
use Rattle.sm_history.specs.declared.delivery.Delivery.{Delivery}
use Rattle.sm_history.specs.declared.outcome.Outcome.{Outcome}
use Rattle.sm_history.specs.declared.entry.Entry.{Entry}
use Rattle.sm_history.specs.declared.event.Event.{Event}
use Rattle.sm_history.specs.declared.event.Event.TheVariants.{Add, Get, Watch as WatchName, Call}
use Rattle.sm_history.specs.declared.reply.Reply.TheVariants.{Done}
use Rattle.sm_history.specs.FailedChecks.{FailedCheck}
use Rattle.sm_history.specs.Effects.{Effect, Effects, Service, Watch, Adds, Gives, Watches}
use Rattle.sm_history.specs.Clients.{connected, policy_at}
use Rattle.sm_history.specs.Holdings.{given_to, handed, number_for, resolve_at, node_at}
use Rattle.sm_history.specs.Services.{service_at, watchers_at}
use Rattle.sm_history.specs.Notices.{after_told, after_notices, first_missing, notices_at, registration, told_of}
use Rattle.sm_history.specs.Rows.{resumed}
use Rattle.sm_history.specs.Openings.{Opening}
use Rattle.sm_history.specs.Histories.{History, entered, effects_of, after_event, after_get, after_watch, client_of}
use Rattle.sm_history.specs.Histories.{turn_of, found, given_ref, given_refs, handed_ref, handed_refs, call_delivery}
use Rattle.sm_history.specs.Histories.{service, watch}
use Rattle.sm_history.specs.Verdict.{answered, checks, handing_checks, has_place, outcome_of, handle_number}
use Rattle.sm_history.specs.Verdict.{notice_of_watch}
use Rattle.sm_history.specs.Checks.{Wants, first_failing}
use Rattle.sm_history.specs.EarlyAnswers.{Refused}
use Rattle.sm_history.specs.declared.refusal.Refusal.TheVariants.{JournalFull}
use Rattle.sm_history.specs.declared.outcome.Outcome.TheVariants.{Granted, Watched}
use Rattle.sm_history.specs.Lawful.{AreLawful, IsLawful}
use Rattle.sm_history.specs.Listing.{told_deliveries, notice_deliveries, listed_deliveries, number_in, numbers_in}
use Rattle.sm_history.specs.Listing.{message_numbers, delivery_numbers, listed_numbers, listed_clients, all_listed}
use Rattle.sm_history.specs.Listing.{delivery_made, number_made, ListsEffects}
use Rattle.sm_history.proofs.Keeps.{handed_keeps, notices_keep, refs_keep, told_keeps}
use Rattle.sm_history.proofs.Owners.{not_done, AllHold}
use Rattle.sm_history.proofs.AgreeEvents.{Passes}
use Rattle.sm_history.proofs.SoundHistory.{met}

-- What a change adds, in front of what was there.
abbrev Puts : {A : Type 0} → (Effect → Option A) → Effects → List A → Effects → Type 0
Puts of d xs e = filter_map of e ≡ reverse xs ++ filter_map of d

puts_more : {A : Type 0} (of : Effect → Option A) (d e f : Effects) (xs ys : List A) → Puts of d xs e → Puts of e ys f
    → Puts of d (xs ++ ys) f
puts_more of d e f xs ys first then_ =
    then_ ∙ ap (λ zs. reverse ys ++ zs) first ∙ sym (append_assoc (reverse ys) (reverse xs) (filter_map of d))
    ∙ ap (λ zs. zs ++ filter_map of d) (sym (reverse-append xs ys))

-- ---- one object passed

handed_deliveries : (d : Effects) (c : ℕ) (n : Node) → Puts delivery_made d [] (handed d c n)
handed_deliveries d c n = handed_keeps (Puts delivery_made d []) (λ k m r e h. h) d c n refl

handed_numbers : (d : Effects) (c : ℕ) (n : Node) → Puts number_made d (number_in (given_to d c n)) (handed d c n)
handed_numbers d c n =
    elim (n.owner.0 == c) as (λ b. filter_map number_made (if b then d else Gives c n (number_for d c n) ∷ d)
    ≡ reverse (number_in (if b then Own n.object else Handle (number_for d c n))) ++ filter_map number_made d) [
      | true ↦ refl
      | false ↦ refl
    ]

-- ---- references in order

ref_numbers : (d : Effects) (to : ℕ) (o : Option Node)
    → Puts number_made d (number_in (given_ref d to o)) (handed_ref d to o)
ref_numbers d to None = refl
ref_numbers d to (Some n) = handed_numbers d to n

refs_numbers : (d : Effects) (from to : ℕ) (rs : List ObjRef)
    → Puts number_made d (numbers_in (given_refs d from to rs)) (handed_refs d from to rs)
refs_numbers d from to [] = refl
refs_numbers d from to (r ∷ rs) =
    let o = resolve_at d from r in let e = handed_ref d to o in
    puts_more number_made d e (handed_refs e from to rs) (number_in (given_ref d to o))
    (numbers_in (given_refs e from to rs)) (ref_numbers d to o) (refs_numbers e from to rs)

-- ---- watchers in order

told_puts : (d : Effects) (n : Node) (w : Watch) (o : Option FailedCheck)
    → Puts delivery_made d (told_deliveries (told_of d n w o)) (after_told d n w o)
told_puts d n w None = ap (λ xs. registration d n w ∷ xs) (handed_deliveries d w.client n)
told_puts d n w (Some failing) = refl

told_numbers : (d : Effects) (n : Node) (w : Watch) (o : Option FailedCheck)
    → Puts number_made d (delivery_numbers (told_deliveries (told_of d n w o))) (after_told d n w o)
told_numbers d n w None =
    handed_numbers d w.client n
    ∙ ap (λ xs. reverse xs ++ filter_map number_made d) (sym (append-nil (number_in (given_to d w.client n))))
told_numbers d n w (Some failing) = refl

numbers_both : (xs ys : List Delivery)
    → delivery_numbers (xs ++ ys) ≡ delivery_numbers xs ++ delivery_numbers ys
numbers_both [] ys = refl
numbers_both (x ∷ xs) ys =
    ap (λ ns. message_numbers x.what ++ ns) (numbers_both xs ys)
    ∙ sym (append_assoc (message_numbers x.what) (delivery_numbers xs) (delivery_numbers ys))

notices_put : (d : Effects) (n : Node) (ws : List Watch)
    → Puts delivery_made d (notice_deliveries (notices_at d n ws)) (after_notices d n ws)
notices_put d n [] = refl
notices_put d n (w ∷ ws) =
    let o = first_missing d n w in let e = after_told d n w o in
    puts_more delivery_made d e (after_notices e n ws) (told_deliveries (told_of d n w o))
    (notice_deliveries (notices_at e n ws)) (told_puts d n w o) (notices_put e n ws)

notices_numbers : (d : Effects) (n : Node) (ws : List Watch)
    → Puts number_made d (delivery_numbers (notice_deliveries (notices_at d n ws))) (after_notices d n ws)
notices_numbers d n [] = refl
notices_numbers d n (w ∷ ws) =
    let o = first_missing d n w in let e = after_told d n w o in
    let xs = told_deliveries (told_of d n w o) in let ys = notice_deliveries (notices_at e n ws) in
    puts_more number_made d e (after_notices e n ws) (delivery_numbers xs) (delivery_numbers ys)
    (told_numbers d n w o) (notices_numbers e n ws)
    ∙ ap (λ ns. reverse ns ++ filter_map number_made d) (sym (numbers_both xs ys))

-- ---- each event

-- What effects add is what an outcome lists.
record Lists (d e : Effects) (outcome : Outcome) : Type 0 where
  pub deliveries : Puts delivery_made d (listed_deliveries outcome) e
  pub numbers : Puts number_made d (listed_numbers outcome) e
  pub clients : Puts connected d (listed_clients outcome) e

found_other : (d : Effects) (c : ℕ) (name : List ℕ) → Passes d c (Get name) → (s : Service)
    → service_at d name ≡ Some s → (s.node.owner.0 == c) ≡ false
found_other d c name a s is =
    not-true (s.node.owner.0 == c)
    (subst (λ (o : Option Service). AllHold (policy_at d) (handing_checks d c o)) is a.1.1.1.1.1).0

lists_get : (d : Effects) (c : ℕ) (name : List ℕ) (o : Option Service) → service_at d name ≡ o → Passes d c (Get name)
    → Lists d (after_get d c o) (Granted (handle_number d c o))
lists_get d c name None is a = absurd (true≢false (sym a.1.1.1.0 ∙ ap (λ (o : Option Service). is_some o) is))
lists_get d c name (Some s) is a =
    let other = found_other d c name a s is in
    record {
      deliveries = handed_deliveries d c s.node;
      numbers = rw other refl;
      clients = handed_keeps (Puts connected d []) (λ k m r b h. h) d c s.node refl;
    }

lists_watch : (d : Effects) (w : Watch) (o : Option Service)
    → Lists d (after_watch (Watches w ∷ d) w o) (Watched (notice_of_watch (Watches w ∷ d) w o))
lists_watch d w None = record { deliveries = refl; numbers = refl; clients = refl }
lists_watch d w (Some s) =
    let e : Effects = Watches w ∷ d in let x = first_missing e s.node w in
    record {
      deliveries = told_puts e s.node w x;
      numbers = told_numbers e s.node w x;
      clients = told_keeps (Puts connected d []) (λ k m r b h. h) (λ k y b h. h) e s.node w x refl;
    }

lists : (d : Effects) (c : ℕ) (event : Event) → Passes d c event → Lists d (after_event d c event)
    (outcome_of d c event)
lists d c (Add name obj allow dump) a =
    let n = found (resolve_at d c obj) in let e : Effects = Adds name (service c n allow dump) ∷ d in
    record {
      deliveries = notices_put e n (watchers_at d name);
      numbers = notices_numbers e n (watchers_at d name);
      clients = notices_keep (Puts connected d []) (λ k m r b h. h) (λ k x b h. h) e n (watchers_at d name) refl;
    }
lists d c (Get name) a = lists_get d c name (service_at d name) refl a
lists d c (WatchName name object) a = lists_watch d (watch c name object) (service_at d name)
lists d c (Call handle payload refs) a =
    let n = found (node_at d c handle) in
    record {
      deliveries = ap (λ xs. call_delivery d c n payload refs ∷ xs)
          (refs_keep (Puts delivery_made d []) (λ k m r b h. h) d c n.owner.0 refs refl);
      numbers = refs_numbers d c n.owner.0 refs
          ∙ ap (λ xs. reverse xs ++ filter_map number_made d)
          (sym (append-nil (numbers_in (given_refs d c n.owner.0 refs))));
      clients = refs_keep (Puts connected d []) (λ k m r b h. h) d c n.owner.0 refs refl;
    }
lists d c _ a = record { deliveries = refl; numbers = refl; clients = refl }

-- ---- histories

pub outcome_is : (x : Option FailedCheck) (o outcome : Outcome) → answered x o ≡ Done outcome → outcome ≡ o
outcome_is None o outcome done = cc
outcome_is (Some s) o outcome done = absurd (not_done s outcome done)

one_more : {A : Type 0} (of : Effect → Option A) (lists_of : Outcome → List A) (d e : Effects) (outcome made : Outcome)
    (all before : List A) → outcome ≡ made → Puts of d (lists_of made) e → filter_map of d ≡ all ++ before
    → filter_map of e ≡ (reverse (lists_of outcome) ++ all) ++ before
one_more of lists_of d e outcome made all before is puts had =
    puts ∙ ap (λ xs. reverse (lists_of made) ++ xs) had
    ∙ sym (append_assoc (reverse (lists_of made)) all before)
    ∙ ap (λ o. (reverse (lists_of o) ++ all) ++ before) (sym is)

lists_after : (places number : ℕ) (o : Opening) (es : List Entry) → AreLawful places number o es
    → ListsEffects (record { number = number; opening = o; entries = es })
lists_after places number o [] l = record { deliveries = refl; numbers = refl; clients = refl }
lists_after places number o (e ∷ es) (inl (first, is, none, (who, policy, opens, may, ok))) =
    rw (first, is, none, opens) (record { deliveries = refl; numbers = refl; clients = refl })
lists_after places number o (e ∷ es) (inr (before, (done, ok))) =
    let h : History = record { number = number; opening = o; entries = es } in
    let d = effects_of h in
    let c = client_of e.by in
    let made = outcome_of d c e.event in
    let last = Wants (has_place places h c e.event) (Refused JournalFull) in
    let l = lists d c e.event (met d (turn_of h e.by) e.by e.turn e.event (last ∷ []) e.outcome done).passes in
    let is = outcome_is (first_failing (policy_at d) (checks places h e.by e.turn e.event)) made e.outcome done in
    let i = lists_after places number o es before in
    let after = effects_of (entered e h) in
    record {
      deliveries = one_more delivery_made listed_deliveries d after e.outcome made (all_listed listed_deliveries es)
          (filter_map delivery_made (resumed o.tables)) is l.deliveries i.deliveries;
      numbers = one_more number_made listed_numbers d after e.outcome made (all_listed listed_numbers es)
          (filter_map number_made (resumed o.tables)) is l.numbers i.numbers;
      clients = one_more connected listed_clients d after e.outcome made (all_listed listed_clients es)
          (filter_map connected (resumed o.tables)) is l.clients i.clients;
    }

pub lists_effects : (places : ℕ) (h : History) → IsLawful places h → ListsEffects h
lists_effects places h l = lists_after places h.number h.opening h.entries l
