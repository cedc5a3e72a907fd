-- Which attributes, types and keys of a policy are of no use, and the lines for them.
use Rattle.std.specs.Prelude.{ℕ, Bool, false, not, ◌&&◌, ◌||◌, if◌then◌else◌, List, [], ◌++◌, Option, Some, None, codes}
use Rattle.std.specs.List.{flat_map, list_any}
use Rattle.std.specs.Str.{bytes_eq}
use Rattle.sm_values.specs.Contexts.{type_of}
use Rattle.sm_values.specs.Messages.{name_text, numbered}
use Rattle.sm_values.specs.Names.{contains, is_valid_name}
use Rattle.sm_values.specs.Permissions.{bit}
use Rattle.sm_values.specs.declared.class.Class.TheVariants.{ServiceManager}
use Rattle.sm_ruletext.specs.Items.{Set}
use Rattle.sm_ruletext.specs.Kept.{is_kept}
use Rattle.sm_ruletext.specs.declared.rule.Rule as rule
use Rattle.sm_ruletext.specs.declared.statement.RuleKind.TheVariants.{Allow, Dontaudit}
use Rattle.sm_ruletext.specs.declared.statement.Statement.{Statement}
use Rattle.sm_ruletext.specs.declared.statement.What.{What}
use Rattle.sm_ruletext.specs.declared.statement.What.TheVariants.{Attribute, Declared, Member, Rule, Permissive}
use Rattle.sm_types.specs.Denoting.{in_set, types}
use Rattle.sm_rules.specs.Keeping.{rules_in}
use Rattle.sm_contexts.specs.Reading.{Entry, default_key}
use Rattle.sm_policy.specs.Policy.{Policy, allowed, is_permissive}

-- ---- words of rules

-- A set has the word, as one of its items or behind a `-`.
abbrev pub has_word : Set → List ℕ → Bool
has_word set word = contains set.plus word || contains set.minus word

-- A statement's content is a kept rule with the word in its source or its target.
abbrev pub rule_has_word : List ℕ → What → Bool
rule_has_word word (Rule kind r) = is_kept r && (has_word r.source word || has_word r.target word)
rule_has_word word (Attribute n) = false
rule_has_word word (Declared n names) = false
rule_has_word word (Member n names) = false
rule_has_word word (Permissive n) = false

-- Some kept rule has the word in its source or its target.
abbrev pub some_rule_has : List Statement → List ℕ → Bool
some_rule_has statements word = list_any (λ s. rule_has_word word s.what) statements

-- ---- attributes

-- A statement's content gives the attribute to a type.
abbrev pub gives : List ℕ → What → Bool
gives attribute (Declared n names) = contains names attribute
gives attribute (Member n names) = contains names attribute
gives attribute (Rule kind r) = false
gives attribute (Attribute n) = false
gives attribute (Permissive n) = false

-- Some type has the attribute.
abbrev pub is_given : List Statement → List ℕ → Bool
is_given statements attribute = list_any (λ s. gives attribute s.what) statements

-- An attribute is of use if some type has it, and some kept rule has it in its source or its target.
unfoldable pub is_used_attribute : Policy → List ℕ → Bool
is_used_attribute policy attribute =
    is_given policy.statements attribute && some_rule_has policy.statements attribute

-- ---- types

-- A type is in the source or in the target of a rule.
abbrev pub is_in_rule : List Statement → List ℕ → ℕ × rule.Rule → Bool
is_in_rule statements t r = in_set statements r.1.source t || in_set statements r.1.target t

-- A type is in the source or in the target of a kept allow or dontaudit rule.
abbrev pub is_in_rules : List Statement → List ℕ → Bool
is_in_rules statements t =
    list_any (is_in_rule statements t) (rules_in Allow statements)
    || list_any (is_in_rule statements t) (rules_in Dontaudit statements)

-- There is an entry, and its label has the type.
abbrev pub is_of : List ℕ → Option Entry → Bool
is_of t None = false
is_of t (Some e) = bytes_eq t (type_of e.context)

-- Some label has the type.
abbrev pub is_of_label : List Entry → List ℕ → Bool
is_of_label entries t = list_any (λ e. is_of t (Some e)) entries

-- A type is in the source or the target of a kept allow or dontaudit rule, or is permissive, or some label has it.
abbrev pub is_reached : Policy → List ℕ → Bool
is_reached policy t =
    (is_in_rules policy.statements t || is_permissive policy t) || is_of_label policy.entries t

-- A type is of use if it is so, or if a kept rule of any kind has its name in its source or its target.
unfoldable pub is_used_type : Policy → List ℕ → Bool
is_used_type policy t = is_reached policy t || some_rule_has policy.statements t

-- ---- keys

-- Some source may add a service whose label has this type.
abbrev pub some_adds : Policy → List ℕ → Bool
some_adds policy t = list_any (λ s. allowed policy s t ServiceManager (bit 1)) (types policy.statements)

-- The entry of a key and a context is of use if it is that of all other names, or if the key is a valid name and some
-- source may add a service of this name.
unfoldable pub is_used_key : Policy → List ℕ → List ℕ → Bool
is_used_key policy key context =
    bytes_eq key default_key || (is_valid_name key && some_adds policy (type_of context))

-- ---- lines

-- This is a word and a place, as `FILE:LINE: `.
abbrev pub placed : List ℕ → List ℕ → ℕ → List ℕ
placed word path number = word ++ path ++ numbered (codes ":") number ++ codes ": "

-- This is a word, and the name at the line of a number as `FILE:LINE: NAME`.
abbrev pub named_line : List ℕ → List ℕ → ℕ → List ℕ → List ℕ
named_line word path number name = placed word path number ++ name ++ codes "\n"

-- This is the line of an attribute that is declared at a line, unless it is of use.
abbrev pub attribute_at : List ℕ → Policy → ℕ → What → List ℕ
attribute_at path policy number (Attribute n) =
    if is_used_attribute policy n then [] else named_line (codes "attribute ") path number n
attribute_at path policy number (Declared n names) = []
attribute_at path policy number (Member n names) = []
attribute_at path policy number (Rule kind r) = []
attribute_at path policy number (Permissive n) = []

-- This is the line for a statement that declares an attribute which is of no use.
abbrev pub attribute_line : List ℕ → Policy → Statement → List ℕ
attribute_line path policy s = attribute_at path policy s.line s.what

-- This is the line of a type that is declared at a line, unless it is of use.
abbrev pub type_at : List ℕ → Policy → ℕ → What → List ℕ
type_at path policy number (Declared n names) =
    if is_used_type policy n then [] else named_line (codes "type ") path number n
type_at path policy number (Attribute n) = []
type_at path policy number (Member n names) = []
type_at path policy number (Rule kind r) = []
type_at path policy number (Permissive n) = []

-- This is the line for a statement that declares a type which is of no use.
abbrev pub type_line : List ℕ → Policy → Statement → List ℕ
type_line path policy s = type_at path policy s.line s.what

-- This is the line for an entry that is of no use.
abbrev pub key_line : List ℕ → Policy → Entry → List ℕ
key_line path policy e =
    if is_used_key policy e.key e.context then [] else named_line (codes "key ") path e.line (name_text e.key)

-- These are the lines for the attributes, the types and the keys of a policy that are of no use. Its files have these
-- paths.
unfoldable pub declaration_lines : List ℕ → List ℕ → Policy → List ℕ
declaration_lines rules_path contexts_path policy =
    flat_map (attribute_line rules_path policy) policy.statements
    ++ flat_map (type_line rules_path policy) policy.statements
    ++ flat_map (key_line contexts_path policy) policy.entries
