-- The audit records of denied access.
use Rattle.std.specs.Prelude.{ℕ, true, false, ◌-◌, ◌≡◌, ◌≤◌, List, [], ◌∷◌, ◌++◌, ◌⊎◌, Option, Some, None, is_none}
use Rattle.std.specs.Prelude.{drop, if◌then◌else◌}
use Rattle.sm_values.specs.Users.{is_barred, is_isolated_user}
use Rattle.sm_values.specs.Contexts.{type_of}
use Rattle.sm_values.specs.declared.class.Class.{Class}
use Rattle.sm_values.specs.declared.perms.Perms.{Perms}
use Rattle.sm_values.specs.declared.identity.Identity.{Identity}
use Rattle.sm_values.specs.declared.number.Node.{Node}
use Rattle.sm_policy.specs.Policy.{Policy, written, allowed, audits}
use Rattle.sm_history.specs.declared.by.By.{By}
use Rattle.sm_history.specs.declared.event.Event.{Event, TheVariants.Add, TheVariants.Watch as WatchName}
use Rattle.sm_history.specs.declared.denial.Denial.{Denial, TheVariants.Rule, TheVariants.App, TheVariants.Isolated}
use Rattle.sm_history.specs.declared.query.Query.{Query}
use Rattle.sm_history.specs.declared.records.Record.{Record}
use Rattle.sm_history.specs.Effects.{Effects, Service, Watch, Adds, Watches}
use Rattle.sm_history.specs.Clients.{policy_at, version_at, manager_at, identity_at, is_live, is_opened}
use Rattle.sm_history.specs.Holdings.{resolve_at}
use Rattle.sm_history.specs.Services.{service_at, watchers_at}
use Rattle.sm_history.specs.Checks.{Check, Needs, Spares, Wants, holds, first_failing, rule_denial}
use Rattle.sm_history.specs.Notices.{notice_checks, after_notice}
use Rattle.sm_history.specs.Histories.{History, length_of, client_of, found, service, watch, effects_of}
use Rattle.sm_history.specs.Verdict.{checks}
use Rattle.sm_history.specs.Queries.{checks_of_query}
use Rattle.sm_history.specs.Lawful.{IsLawful}
use Rattle.sm_history.specs.Beginning.{BeginsWith}

-- ---- the records of checks

-- Checks are made at a length of the history, under a policy and its version.
pub record Moment : Type 0 where
  pub at : ℕ
  pub version : ℕ
  pub policy : Policy

-- This is the moment of a history.
abbrev pub moment_of : History → Moment
moment_of h = record { at = length_of h; version = version_at (effects_of h); policy = policy_at (effects_of h) }

-- A check without an allow rule has this record. If the source is permissive, the check passes all the same.
abbrev pub rule_record : Moment → Class → Perms → Identity → List ℕ → Option (List ℕ) → Record
rule_record m class perm who target name = record {
  length = m.at;
  version = m.version;
  denial = rule_denial class perm who target;
  permissive = allowed m.policy (type_of who.context) (type_of target) class perm;
  who = who;
  target = Some target;
  name = name;
}

-- A failed clause on the user number has this record, which has no target.
abbrev pub clause_record : Moment → Denial → Identity → List ℕ → Record
clause_record m denial who name = record {
  length = m.at;
  version = m.version;
  denial = denial;
  permissive = false;
  who = who;
  target = None;
  name = Some name;
}

-- A check is recorded if no rule grants the permission, unless a `dontaudit` rule covers it, or if a clause on the user
-- number fails. Other conditions aren't recorded.
abbrev pub left_by : Moment → Check → List Record
left_by m (Needs class perm who target name) =
    if audits m.policy (type_of who.context) (type_of target) class perm
    then rule_record m class perm who target name ∷ []
    else []
left_by m (Spares ok denial who name) = if ok then [] else clause_record m denial who name ∷ []
left_by m (Wants ok instead) = []

-- These are the records of checks in order, up to the first that fails; those after it aren't made.
abbrev pub left_by_all : Moment → List Check → List Record
left_by_all m [] = []
left_by_all m (x ∷ xs) = left_by m x ++ (if holds m.policy x then left_by_all m xs else [])

-- These are the records of notices to watchers, in order, at the length before the change.
abbrev pub left_by_notices : Moment → Effects → Node → List Watch → List Record
left_by_notices m d n [] = []
left_by_notices m d n (w ∷ ws) = left_by_all m (notice_checks d n w) ++ left_by_notices m (after_notice d n w) n ws

-- These are the records of the notice for a new watch.
abbrev pub left_by_watch : Moment → Effects → Watch → Option Service → List Record
left_by_watch m d w None = []
left_by_watch m d w (Some s) = left_by_notices m d s.node (w ∷ [])

-- These are the records of the notices of an event of client c that is done.
abbrev pub left_by_telling : Moment → Effects → ℕ → Event → List Record
left_by_telling m d c (Add name obj allow dump) = let n = found (resolve_at d c obj) in
    left_by_notices m (Adds name (service c n allow dump) ∷ d) n (watchers_at d name)
left_by_telling m d c (WatchName name object) =
    left_by_watch m (Watches (watch c name object) ∷ d) (watch c name object) (service_at d name)
left_by_telling m d c _ = []

-- These are the records of an event: those of its checks, and, if it is done, of its notices.
abbrev pub records : ℕ → History → By → ℕ → Event → List Record
records places h by turn event =
    let m = moment_of h in
    let made = checks places h by turn event in
    left_by_all m made
    ++ (if is_none (first_failing m.policy made) then left_by_telling m (effects_of h) (client_of by) event else [])

-- These are the records of a query.
abbrev pub query_records : History → By → Query → List Record
query_records h by q = left_by_all (moment_of h) (checks_of_query h by q)

-- ---- true records

-- This is the history as it was at a length.
abbrev pub prefix_at : History → ℕ → History
prefix_at h n = record { number = h.number; opening = h.opening; entries = drop (length_of h - n) h.entries }

-- An identity belongs to a history: it is the manager's, once opened, or that of a live client.
abbrev pub Stands : Effects → Identity → Type 0
Stands d who = ((is_opened d ≡ true) × (who ≡ manager_at d))
    ⊎ ((c : ℕ) × (is_live d c ≡ true) × (who ≡ identity_at d c))

-- No rule grants the access that a record names, and it passed only if the source is permissive; or the clause covers
-- the process's user number.
abbrev pub IsDeniedBy : Effects → Record → Denial → Type 0
IsDeniedBy d r (Rule s t class perm) = (x : List ℕ) × (r.target ≡ Some x) × (s ≡ type_of r.who.context)
    × (t ≡ type_of x) × (written (policy_at d) s t class perm ≡ false)
    × (r.permissive ≡ allowed (policy_at d) s t class perm)
IsDeniedBy d r (App uid) = (uid ≡ r.who.uid) × (is_barred uid ≡ true) × (r.permissive ≡ false)
IsDeniedBy d r (Isolated uid) = (uid ≡ r.who.uid) × (is_isolated_user uid ≡ true) × (r.permissive ≡ false)

-- A record is true of a history: it was made in its open segment, and what it says was so then.
pub record IsTrueOf (h : History) (r : Record) : Type 0 where
  pub behind : h.opening.length ≤ r.length
  pub within : r.length ≤ length_of h
  pub version : r.version ≡ version_at (effects_of (prefix_at h r.length))
  pub stands : Stands (effects_of (prefix_at h r.length)) r.who
  pub denied : IsDeniedBy (effects_of (prefix_at h r.length)) r r.denial

-- A record was true once: it is true of some lawful history with which this one begins, in the open segment or in one
-- that was closed.
pub record IsTrueOnce (places : ℕ) (h : History) (r : Record) : Type 0 where
  pub at : History
  pub lawful : IsLawful places at
  pub begins : BeginsWith places h at
  pub is : IsTrueOf at r
