-- Audit lines, in the form of SELinux's messages.
use Rattle.std.specs.Prelude.{ℕ, Bool, List, [], ◌++◌, codes, Option, Some, None, unwrap_or, if◌then◌else◌}
use Rattle.sm_values.specs.Messages.{name_text, numbered}
use Rattle.sm_values.specs.Permissions.{class_word, perm_word}
use Rattle.sm_values.specs.declared.perms.Perms.{Perms}
use Rattle.sm_values.specs.declared.identity.Identity.{Identity}
use Rattle.sm_history.specs.declared.denial.Denial.{Denial, TheVariants.Rule, TheVariants.App, TheVariants.Isolated}
use Rattle.sm_history.specs.declared.records.Record.{Record}

-- This is `journal=L version=V`.
unfoldable pub place_text : ℕ → ℕ → List ℕ
place_text length version = numbered (codes "journal=") length ++ numbered (codes " version=") version

-- This is ` avc: denied { PERM }`.
unfoldable pub missing_text : Perms → List ℕ
missing_text perm = codes " avc: denied { " ++ unwrap_or (perm_word perm) [] ++ codes " }"

-- This is ` avc: denied { PERM }`, ` clause: denied app` or ` clause: denied isolated`.
unfoldable pub cause_text : Denial → List ℕ
cause_text (Rule source target class perm) = missing_text perm
cause_text (App uid) = codes " clause: denied app"
cause_text (Isolated uid) = codes " clause: denied isolated"

-- This is ` name=NAME`, if there is a name.
unfoldable pub name_field : Option (List ℕ) → List ℕ
name_field None = []
name_field (Some name) = codes " name=" ++ name_text name

-- This is ` for pid=P uid=U name=NAME scontext=S`.
unfoldable pub process_text : Identity → Option (List ℕ) → List ℕ
process_text who name =
    numbered (codes " for pid=") who.pid ++ numbered (codes " uid=") who.uid ++ name_field name
    ++ codes " scontext=" ++ who.context

-- This is ` tcontext=T`, if there is a target.
unfoldable pub target_text : Option (List ℕ) → List ℕ
target_text None = []
target_text (Some target) = codes " tcontext=" ++ target

-- This is ` permissive=1` or ` permissive=0`.
abbrev pub permissive_text : Bool → List ℕ
permissive_text permissive = if permissive then codes " permissive=1" else codes " permissive=0"

-- This is ` tcontext=T tclass=C permissive=0` or `1`, only for a rule.
unfoldable pub scope_text : Denial → Option (List ℕ) → Bool → List ℕ
scope_text (Rule source type class perm) target permissive =
    target_text target ++ codes " tclass=" ++ class_word class ++ permissive_text permissive
scope_text (App uid) target permissive = []
scope_text (Isolated uid) target permissive = []

-- This is the line of a record, with its newline.
unfoldable pub audit_line : Record → List ℕ
audit_line r =
    place_text r.length r.version ++ cause_text r.denial ++ process_text r.who r.name
    ++ scope_text r.denial r.target r.permissive ++ codes "\n"
