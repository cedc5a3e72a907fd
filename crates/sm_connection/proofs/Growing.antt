-- Each answer of a connection goes on from what the connection had seen.
use Rattle.std.proofs.Common.{◌≡◌, Bool, true, false, Option, Some, None, refl, sym, ap, subst}
use Rattle.std.proofs.Common.{◌∙◌, inl, inr, ℕ, List, Result}
use Rattle.std.specs.Prelude.{MatchBool}
use Rattle.sm_values.specs.declared.identity.Identity.{Identity}
use Rattle.sm_history.specs.declared.by.By.{By}
use Rattle.sm_history.specs.declared.by.By.TheVariants.{Manager, Client, Admin}
use Rattle.sm_history.specs.declared.event.Event.{Event}
use Rattle.sm_history.specs.declared.event.Event.TheVariants.{Die, Reload}
use Rattle.sm_history.specs.declared.query.Query.{Query}
use Rattle.sm_history.specs.declared.query.Query.TheVariants.{List as ListNames, Version as AskVersion, Explain}
use Rattle.sm_history.specs.declared.records.Record.{Record}
use Rattle.sm_history.specs.declared.refusal.Refusal.{Refusal}
use Rattle.sm_history.specs.declared.refusal.Refusal.TheVariants.{Failed, Memory}
use Rattle.sm_history.specs.declared.refusal.Failure.TheVariants.{NotConnected}
use Rattle.sm_history.specs.declared.reply.Reply.{Reply}
use Rattle.sm_history.specs.declared.reply.Reply.TheVariants.{Done, Sealed, Refused}
use Rattle.sm_history.specs.Promises.{NotMade, NotTold, Queried, Submitted, Turned}
use Rattle.sm_history.specs.Tokens.{Grows, Knows}
use Rattle.sm_history.specs.Verdict.{is_die}
use Rattle.sm_history.proofs.BookOrder.{book_itself, book_through}
use Rattle.sm_door.specs.Logged.{Logged}
use Rattle.sm_wire.specs.declared.request.Request.{Request}
use Rattle.sm_wire.specs.declared.request.Request.TheVariants.{Change, Look, Denials, Seal}
use Rattle.sm_wire.specs.declared.request.Request.TheVariants as requests
use Rattle.sm_wire.specs.declared.item.Item.{Item}
use Rattle.sm_wire.specs.declared.item.Item.TheVariants as items
use Rattle.sm_wire.specs.declared.kind.Kind.TheVariants.{Admin as Admins, Client as Clients}
use Rattle.sm_engine.specs.declared.fault.Fault.{Fault}
use Rattle.sm_connection.specs.Sessions.{Attends}
use Rattle.sm_connection.specs.declared.response.Response.{Response}
use Rattle.sm_connection.specs.declared.response.Response.TheVariants.{Replied, PolicyRefused, Denied}
use Rattle.sm_connection.specs.declared.command.Command.{Command}
use Rattle.sm_connection.specs.declared.command.Command.TheVariants.{Hello, Line, Install, Death}
use Rattle.sm_connection.specs.Connections.{AdminAnswers, AdminGives, AdminGivesLine, AdminInstalls, AdminReads}
use Rattle.sm_connection.specs.Connections.{AdminReplies, AdminSeals, AdminTold}
use Rattle.sm_connection.specs.Connections.{ClientReplies, GivesChange, GivesHello, GivesDeath}
use Rattle.sm_connection.specs.Connections.{GivesLine, GivesLook, Greets, OfSession, DiesAtDoor, Reads, SaysOnly}
use Rattle.sm_connection.specs.Connections.{SaysUnrecorded}
use Rattle.sm_connection.specs.Connections.{ClientGives, ComesAfter, SeatOr, GoesOn, StillHolds}
use Rattle.sm_connection.specs.Desks.{DeskAnswers, DeskDeath, command_of}
use Rattle.sm_connection.specs.Held.{Holding, Puts}
use Rattle.sm_connection.specs.Growing.{AdminsSeeMore, ClientsSeeMore}
use Rattle.sm_connection.proofs.Lasting.{attends_keeps}
use Rattle.sm_connection.proofs.Reading.{queried as entered}

stays : (k : Knows) → GoesOn k k
stays k = record { begins = book_itself k.seen; lawful = λ p. p }

same : (old new : Knows) → new ≡ old → GoesOn old new
same old new e = let P : Knows → Type 0 = λ k. GoesOn old k in subst P (sym e) (stays old)

grown : (old new : Knows) → Grows old new → GoesOn old new
grown old new p = record { begins = p.begins; lawful = λ q. p.lawful }

not_made : (old new : Knows) (event : Event) (reply : Reply) → NotMade old new event reply → GoesOn old new
not_made old new event reply (inl p) = same old new p.1
not_made old new event reply (inr (inl p)) = same old new p.same
not_made old new event reply (inr (inr p)) = grown old new p.grows

submitted : (old new : Knows) (event : Event) (reply : Reply) → Submitted old new event reply → GoesOn old new
submitted old new event (Done outcome) p = grown old new p.grows
submitted old new event reply p = not_made old new event reply p

queried : (old new : Knows) (q : Query) (reply : Reply) → Queried old new q reply → GoesOn old new
queried old new q reply (inl p) = same old new p.1
queried old new q reply (inr p) = grown old new p.0

turned : (old new : Knows) (who : Identity) (refusal : Refusal) → Turned old new who refusal → GoesOn old new
turned old new who refusal p = grown old new p.grows

greets : (old new : Knows) (who : Identity) (reply : Reply) → Greets old who reply new → GoesOn old new
greets old new who (Done outcome) p = record { begins = p.1.begins; lawful = λ q. p.1.lawful }
greets old new who (Refused refusal) p = turned old new who refusal p.1
greets old new who _ p = absurd p

-- What is held now is a later token.
held : (old token : Knows) (new : Option Knows) → GoesOn old token → new ≡ Some token → ComesAfter (Some old) new
held old token new p e = (token, p, e)

unchanged : (old new : Option Knows) → new ≡ old → ComesAfter old new
unchanged None new e = e
unchanged (Some old) new e = held old old new (stays old) e

seat_or : (by : By) {P Q R : Type 0} → (P → R) → (Q → R) → SeatOr by P Q → R
seat_or Manager p q x = p x
seat_or (Client c) p q x = q x
seat_or (Admin a) p q x = p x

hello : (old new : Option Knows) (who : Identity) (reply : Reply) → GivesHello old who reply new → ComesAfter old new
hello None new who reply p = p.1
hello (Some old) new who reply p = seat_or old.by
    (λ x. held old x.0 new (greets old x.0 who reply x.1) x.2) (λ x. unchanged (Some old) new x.1) p

of_session : (Answers : Knows → Type 0) (Without : Type 0) (old new : Option Knows)
    → ((session : Knows) → Answers session → ComesAfter (Some session) new) → (Without → ComesAfter old new)
    → OfSession Answers Without old → ComesAfter old new
of_session Answers Without None new f g p = g p
of_session Answers Without (Some old) new f g p = seat_or old.by g (λ x. f old x) p

dies_at_door : (session : Knows) (new : Option Knows) (reply : Reply) → DiesAtDoor session reply new
    → ComesAfter (Some session) new
dies_at_door session new (Done outcome) p = held session p.1.0 new
    (record { begins = p.1.1.grows.begins; lawful = λ q. p.1.1.grows.lawful }) p.1.3
dies_at_door session new (Refused refusal) p =
    held session p.1.0 new (submitted session p.1.0 Die (Refused refusal) p.1.1) p.1.2
dies_at_door session new _ p = absurd p

dies : (old new : Option Knows) (reply : Reply) → GivesDeath old reply new → ComesAfter old new
dies old new reply p = of_session
    (λ session. DiesAtDoor session reply new) (SaysOnly (Failed NotConnected) old reply new) old new
    (λ session x. dies_at_door session new reply x) (λ x. unchanged old new x.1) p

change : (old new : Option Knows) (event : Event) (reply : Reply) (log : List Record)
    → GivesChange old event reply log new → ComesAfter old new
change old new event reply log p = of_session
    (λ session. (token : Knows) × Submitted session token event reply × Logged session token event reply log
    × (new ≡ Some token)) (SaysUnrecorded (Failed NotConnected) old reply log new) old new
    (λ session x. held session x.0 new (submitted session x.0 event reply x.1) x.3) (λ x. unchanged old new x.0.1) p

reads : (session : Knows) (new : Option Knows) (q : Query) (reply : Reply) (log : List Record)
    → Reads session q reply log new → ComesAfter (Some session) new
reads session new (ListNames mask) reply log x = held session x.0 new
    (queried session x.0 (ListNames mask) reply (entered session x.0 (ListNames mask) reply log x.1)) x.2
reads session new AskVersion reply log x = held session x.0 new (queried session x.0 AskVersion reply x.1) x.3
reads session new (Explain s t class perm) reply log x = unchanged (Some session) new x.0.1

look : (old new : Option Knows) (q : Query) (reply : Reply) (log : List Record) → GivesLook old q reply log new
    → ComesAfter old new
look old new q reply log p = of_session (λ session. Reads session q reply log new)
    (SaysUnrecorded (Failed NotConnected) old reply log new) old new
    (λ session x. reads session new q reply log x) (λ x. unchanged old new x.0.1) p

either : (b : Bool) {P Q R : Type 0} → (P → R) → (Q → R) → MatchBool b P Q → R
either true p q x = p x
either false p q x = q x

line : (old new : Option Knows) (request : Request) (reply : Reply) (log : List Record)
    → GivesLine old request reply log new → ComesAfter old new
line old new (Change c event) reply log p =
    either (is_die event) (λ x. dies old new reply x.0) (λ x. change old new event reply log x) p
line old new (Look c q) reply log p = look old new q reply log p
line old new (requests.Hello who) reply log p = unchanged old new p.0.1
line old new (requests.Reload expected rules contexts) reply log p = unchanged old new p.0.1
line old new Denials reply log p = unchanged old new p.0.1
line old new Seal reply log p = unchanged old new p.0.1

through : (a b c : Knows) → GoesOn a b → GoesOn b c → GoesOn a c
through a b c p q = record {
  begins = book_through c.seen b.seen a.seen q.begins p.begins;
  lawful = λ x. q.lawful (p.lawful x);
}

behind : (old token : Knows) (new : Option Knows) → GoesOn old token → ComesAfter (Some token) new
    → ComesAfter (Some old) new
behind old token new p q = (q.0, through old token q.0 p q.1, q.2)

dies_after_tries : (old tried new : Option Knows) (reply : Reply) → StillHolds old tried → GivesDeath tried reply new
    → ComesAfter old new
dies_after_tries None tried new reply s p =
    let P : Option Knows → Type 0 = λ x. ComesAfter x new in subst P s (dies tried new reply p)
dies_after_tries (Some old) tried new reply s p =
    let P : Option Knows → Type 0 = λ x. ComesAfter x new in
    behind old s.0 new s.1 (subst P s.2 (dies tried new reply p))

-- ---- tries to die

by_same : (old new : Knows) → new ≡ old → new.by ≡ old.by
by_same old new e = ap (λ (k : Knows). k.by) e

not_made_by : (old new : Knows) (event : Event) (reply : Reply) → NotMade old new event reply → new.by ≡ old.by
not_made_by old new event reply (inl p) = by_same old new p.1
not_made_by old new event reply (inr (inl p)) = by_same old new p.same
not_made_by old new event reply (inr (inr p)) = p.grows.by

submitted_by : (old new : Knows) (event : Event) (reply : Reply) → Submitted old new event reply → new.by ≡ old.by
submitted_by old new event (Done outcome) p = p.grows.by
submitted_by old new event reply p = not_made_by old new event reply p

pub still_itself : (old : Option Knows) → StillHolds old old
still_itself None = refl
still_itself (Some old) = (old, stays old, refl, refl)

-- A try that an allocation failed.
tried_once : (old new : Option Knows) → GivesDeath old (Refused Memory) new → StillHolds old new
tried_once None new p = absurd (cc p.0)
tried_once (Some old) new p = seat_or old.by
    (λ (x : SaysOnly (Failed NotConnected) (Some old) (Refused Memory) new). absurd (cc x.0))
    (λ (x : DiesAtDoor old (Refused Memory) new). (
      x.1.0,
      submitted old x.1.0 Die (Refused Memory) x.1.1,
      x.1.2,
      submitted_by old x.1.0 Die (Refused Memory) x.1.1,
    )) p

still_through : (old tried new : Option Knows) → StillHolds old tried → StillHolds tried new → StillHolds old new
still_through None tried new p q = let P : Option Knows → Type 0 = λ x. StillHolds x new in subst P p q
still_through (Some old) tried new p q =
    let P : Option Knows → Type 0 = λ x. StillHolds x new in
    let r = subst P p.2 q in
    (r.0, through old p.0 r.0 p.1 r.1, r.2, r.3 ∙ p.3)

pub still_tried : (old tried new : Option Knows) (reply : Reply) → reply ≡ Refused Memory → StillHolds old tried
    → GivesDeath tried reply new → StillHolds old new
still_tried old tried new reply e p q =
    let P : Reply → Type 0 = λ x. GivesDeath tried x new in
    still_through old tried new p (tried_once tried new (subst P e q))

replies : (old new : Option Knows) (command : Command) (reply : Reply) (log : List Record)
    → ClientReplies old command reply log new → ComesAfter old new
replies old new (Hello who) reply log p = hello old new who reply p.0
replies old new (Line request) reply log p = line old new request reply log p
replies old new (Install expected policy) reply log p = unchanged old new p.0.1
replies old new Death reply log p = dies_after_tries old p.0.0 new reply p.0.1 p.0.2

pub clients_see_more : ClientsSeeMore
clients_see_more old new command (Replied reply) log p = replies old new command reply log p
clients_see_more old new command (PolicyRefused fault) log p = absurd p
clients_see_more old new command (Denied records) log p = absurd p

-- What a client's connection holds goes on.
abbrev HoldsLater : Holding (Option Knows) → Holding (Option Knows) → Type 0
HoldsLater old new = ComesAfter old.held new.held

later_through : (a b c : Option Knows) → ComesAfter a b → ComesAfter b c → ComesAfter a c
later_through None b c p q = let P : Option Knows → Type 0 = λ x. ComesAfter x c in subst P p q
later_through (Some a) b c p q =
    let P : Option Knows → Type 0 = λ x. ComesAfter x c in behind a p.0 c p.1 (subst P p.2 q)

client_answers : (old : Holding (Option Knows)) (item : Item) (response : Response) (new : Holding (Option Knows))
    → DeskAnswers (Puts ClientGives) old item response new → HoldsLater old new
client_answers old (items.Asked request) response new p =
    clients_see_more old.held new.held (command_of request) response p.0 p.1
client_answers old (items.Policy texts) response new (inl p) =
    unchanged old.held new.held (ap (λ (h : Holding (Option Knows)). h.held) p.3)
client_answers old (items.Policy texts) response new (inr p) =
    clients_see_more old.held new.held (Install texts.expected p.0) response p.2.0 p.2.1
client_answers old items.Malformed response new p = absurd p
client_answers old items.LineTooLong response new p = absurd p

-- A whole session of a client.
pub client_session : (result : Result (Unit {0}) Fault) (bound reads : ℕ) (old : Holding (Option Knows))
    (r r_new w w_new : Option (List ℕ)) (new : Holding (Option Knows))
    → Attends Clients (DeskAnswers (Puts ClientGives)) (DeskDeath (Puts ClientGives)) result bound reads old r r_new
    w w_new new
    → HoldsLater old new
client_session result bound reads old r r_new w w_new new p =
    attends_keeps (DeskAnswers (Puts ClientGives)) (DeskDeath (Puts ClientGives)) HoldsLater
    (λ h. unchanged h.held h.held refl) (λ a b c. later_through a.held b.held c.held) client_answers
    (λ s t x. clients_see_more s.held t.held Death x.0 x.1.0 x.1.1) Clients result bound reads old r r_new w w_new
    new p

-- ---- administrators

admin_reads : (old new : Knows) (q : Query) (reply : Reply) → AdminReads old q reply new → GoesOn old new
admin_reads old new (ListNames mask) reply p = same old new p.1
admin_reads old new AskVersion reply p = queried old new AskVersion reply p
admin_reads old new (Explain s t class perm) reply p = queried old new (Explain s t class perm) reply p

admin_seals : (old new : Knows) (reply : Reply) → AdminSeals old reply new → GoesOn old new
admin_seals old new (Sealed n l) p = grown old new p.3.grows
admin_seals old new (Refused refusal) p = grown old new p.grows
admin_seals old new _ p = absurd p

not_told : (old new : Knows) (refusal : Refusal) → NotTold old new refusal → GoesOn old new
not_told old new refusal (inl p) = same old new p.1
not_told old new refusal (inr p) = grown old new p.0

admin_told : (old new : Knows) (reply : Reply) → AdminTold old reply new → GoesOn old new
admin_told old new (Refused refusal) p = not_told old new refusal p
admin_told old new _ p = absurd p

admin_replies : (old new : Knows) (request : Request) (reply : Reply) → AdminReplies old request reply new
    → GoesOn old new
admin_replies old new (Look c q) reply p = admin_reads old new q reply p
admin_replies old new Denials reply p = admin_told old new reply p
admin_replies old new Seal reply p = admin_seals old new reply p
admin_replies old new (Change c event) reply p = same old new p.1
admin_replies old new (requests.Hello who) reply p = same old new p.1
admin_replies old new (requests.Reload expected rules contexts) reply p = same old new p.1

admin_line : (old new : Knows) (request : Request) (response : Response) → AdminGivesLine old request response new
    → GoesOn old new
admin_line old new request (Replied reply) p = admin_replies old new request reply p
admin_line old new request (PolicyRefused fault) p = absurd p
admin_line old new request (Denied records) p = grown old new p.1.grows

admin_installs : (old new : Knows) (event : Event) (response : Response) → AdminInstalls old event response new
    → GoesOn old new
admin_installs old new event (Replied reply) p = submitted old new event reply p
admin_installs old new event (PolicyRefused fault) p = absurd p
admin_installs old new event (Denied records) p = absurd p

admin_answered : (old new : Knows) (command : Command) (response : Response) → AdminAnswers old command response new
    → GoesOn old new
admin_answered old new (Hello who) response p = same old new p.1
admin_answered old new (Line request) response p = admin_line old new request response p
admin_answered old new (Install expected policy) response p =
    admin_installs old new (Reload expected policy) response p
admin_answered old new Death response p = same old new p.1

pub admins_see_more : AdminsSeeMore
admins_see_more old new command response log p = admin_answered old new command response p.0

-- What an administrator's connection holds goes on.
abbrev HoldsMore : Holding Knows → Holding Knows → Type 0
HoldsMore old new = GoesOn old.held new.held

admin_answers : (old : Holding Knows) (item : Item) (response : Response) (new : Holding Knows)
    → DeskAnswers (Puts AdminGives) old item response new → HoldsMore old new
admin_answers old (items.Asked request) response new p =
    admin_answered old.held new.held (command_of request) response p.1.0
admin_answers old (items.Policy texts) response new (inl p) =
    same old.held new.held (ap (λ (h : Holding Knows). h.held) p.3)
admin_answers old (items.Policy texts) response new (inr p) =
    admin_answered old.held new.held (Install texts.expected p.0) response p.2.1.0
admin_answers old items.Malformed response new p = absurd p
admin_answers old items.LineTooLong response new p = absurd p

-- A whole session of an administrator.
pub admin_session : (result : Result (Unit {0}) Fault) (bound reads : ℕ) (old : Holding Knows)
    (r r_new w w_new : Option (List ℕ)) (new : Holding Knows)
    → Attends Admins (DeskAnswers (Puts AdminGives)) (DeskDeath (Puts AdminGives)) result bound reads old r r_new
    w w_new new
    → HoldsMore old new
admin_session result bound reads old r r_new w w_new new p =
    attends_keeps (DeskAnswers (Puts AdminGives)) (DeskDeath (Puts AdminGives)) HoldsMore (λ h. stays h.held)
    (λ a b c. through a.held b.held c.held) admin_answers
    (λ s t x. admin_answered s.held t.held Death x.0 x.1.1.0) Admins result bound reads old r r_new w w_new new p
