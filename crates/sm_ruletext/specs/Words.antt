-- The words that begin a statement, and `self`.
use Rattle.std.specs.Prelude.{ℕ, Bool, ◌||◌, if◌then◌else◌, List, codes}
use Rattle.std.specs.Str.{bytes_eq}
use Rattle.sm_ruletext.specs.declared.keyword.Keyword.{Keyword}
use Rattle.sm_ruletext.specs.declared.keyword.Keyword.TheVariants.{Attribute, Types, Typeattribute, Rule, Permissive}
use Rattle.sm_ruletext.specs.declared.keyword.Keyword.TheVariants.{Skipped, Unknown}
use Rattle.sm_ruletext.specs.declared.statement.RuleKind.TheVariants.{Allow, Neverallow, Dontaudit}

-- A word is `self`.
abbrev pub is_self : List ℕ → Bool
is_self w = bytes_eq w (codes "self")

-- A word begins a statement that is skipped.
unfoldable pub is_skipped : List ℕ → Bool
is_skipped w =
    bytes_eq w (codes "auditallow") || (bytes_eq w (codes "type_transition")
    || (bytes_eq w (codes "expandattribute")
    || (bytes_eq w (codes "allowxperm") || (bytes_eq w (codes "auditallowxperm")
    || (bytes_eq w (codes "dontauditxperm") || bytes_eq w (codes "neverallowxperm"))))))

-- This is the kind of the statement that a word begins.
unfoldable pub keyword_of : List ℕ → Keyword
keyword_of w =
    if bytes_eq w (codes "attribute") then Attribute
    else if bytes_eq w (codes "type") then Types
    else if bytes_eq w (codes "typeattribute") then Typeattribute
    else if bytes_eq w (codes "allow") then Rule Allow
    else if bytes_eq w (codes "neverallow") then Rule Neverallow
    else if bytes_eq w (codes "dontaudit") then Rule Dontaudit
    else if bytes_eq w (codes "permissive") then Permissive
    else if is_skipped w then Skipped
    else Unknown
