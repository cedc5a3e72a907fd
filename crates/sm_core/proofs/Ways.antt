-- What a way grants, the policy grants without a record.
use Rattle.std.proofs.Common.{◌≡◌, ℕ, Bool, true, false, ◌==◌, ◌&&◌, List, None, refl, ap, sym, ◌∙◌, arith}
use Rattle.std.specs.Prelude.{not, if◌then◌else◌}
use Rattle.std.proofs.lemmas.Bool.{and_parts, not-true}
use Rattle.std.proofs.lemmas.Bool.Decides.{nat_tests}
use Rattle.sm_values.specs.declared.class.Class.TheVariants.{Binder}
use Rattle.sm_values.specs.declared.identity.Identity.{Identity}
use Rattle.sm_values.specs.declared.perms.Perms.{Perms}
use Rattle.sm_values.specs.Contexts.{type_of}
use Rattle.sm_policy.specs.Policy.{Policy, allowed, audits}
use Rattle.sm_history.specs.Checks.{calling, transferring}
use Rattle.sm_history.specs.Clients.{manager_at, policy_at}
use Rattle.sm_history.specs.Histories.{History, effects_of}
use Rattle.sm_history.specs.Records.{moment_of}
use Rattle.sm_history.specs.declared.records.Record.{Record}
use Rattle.sm_core.specs.declared.client.LiveClient.{LiveClient}
use Rattle.sm_core.specs.declared.way.Way.{Way}
use Rattle.sm_core.specs.Judging.{noted}
use Rattle.sm_core.specs.Tables.{client_row}
use Rattle.sm_core.specs.Ways.{grants, is_quiet, way_under}

number_same : (a b : ℕ) → (a == b) ≡ true → a ≡ b
number_same a b e = grind (arith, nat_tests)

same_perm : (p : Policy) (s t : Identity) (perm : Perms) (n : ℕ) → (perm.0 == n) ≡ true
    → is_quiet p s t (record { 0 = n }) ≡ true → is_quiet p s t perm ≡ true
same_perm p s t perm n is so =
    ap (λ (k : ℕ). is_quiet p s t (record { 0 = k })) (number_same perm.0 n is) ∙ so

granted_quietly : (p : Policy) (s t : Identity) (perm : Perms) → grants (way_under p s t) perm ≡ true
    → is_quiet p s t perm ≡ true
unfolding way_under
granted_quietly p s t perm e =
    elim (perm.0 == 16) as (λ b. (perm.0 == 16) ≡ b
    → (if b then is_quiet p s t calling else (perm.0 == 64 && is_quiet p s t transferring)) ≡ true
    → is_quiet p s t perm ≡ true) [
      | true ↦ λ is so. same_perm p s t perm 16 is so
      | false ↦ λ is so.
          let parts = and_parts (perm.0 == 64) (is_quiet p s t transferring) so in
          same_perm p s t perm 64 parts.0 parts.1
    ] refl e

-- The policy grants this, and adds no record.
abbrev pub PassesQuietly : History → Identity → Identity → Perms → List Record → Type 0
PassesQuietly h s t perm old =
    (allowed (moment_of h).policy (type_of s.context) (type_of t.context) Binder perm ≡ true)
    × (old ≡ noted (moment_of h) old Binder perm s t.context None)

passes_quietly : (h : History) (s t : Identity) (perm : Perms) (old : List Record)
    → is_quiet (policy_at (effects_of h)) s t perm ≡ true → PassesQuietly h s t perm old
unfolding is_quiet noted
passes_quietly h s t perm old e =
    let p : Policy = policy_at (effects_of h) in
    let parts = and_parts (allowed p (type_of s.context) (type_of t.context) Binder perm)
    (not (audits p (type_of s.context) (type_of t.context) Binder perm)) e in
    let none : audits p (type_of s.context) (type_of t.context) Binder perm ≡ false = not-true _ parts.1 in
    (parts.0, rw none refl)

pub passes_to_manager : (h : History) (row : LiveClient) (perm : Perms) (old : List Record)
    → row ≡ client_row (effects_of h) row.id → grants row.to_manager perm ≡ true
    → PassesQuietly h row.process.who (manager_at (effects_of h)) perm old
passes_to_manager h row perm old is so =
    let p : Policy = policy_at (effects_of h) in
    let m : Identity = manager_at (effects_of h) in
    let way : row.to_manager ≡ way_under p row.process.who m =
    ap (λ (r : LiveClient). r.to_manager) is
    ∙ sym (ap (λ (r : LiveClient). way_under p r.process.who m) is) in
    passes_quietly h row.process.who m perm old
    (granted_quietly p row.process.who m perm (ap (λ (w : Way). grants w perm) (sym way) ∙ so))

pub passes_from_manager : (h : History) (row : LiveClient) (perm : Perms) (old : List Record)
    → row ≡ client_row (effects_of h) row.id → grants row.from_manager perm ≡ true
    → PassesQuietly h (manager_at (effects_of h)) row.process.who perm old
passes_from_manager h row perm old is so =
    let p : Policy = policy_at (effects_of h) in
    let m : Identity = manager_at (effects_of h) in
    let way : row.from_manager ≡ way_under p m row.process.who =
    ap (λ (r : LiveClient). r.from_manager) is
    ∙ sym (ap (λ (r : LiveClient). way_under p m r.process.who) is) in
    passes_quietly h m row.process.who perm old
    (granted_quietly p m row.process.who perm (ap (λ (w : Way). grants w perm) (sym way) ∙ so))
