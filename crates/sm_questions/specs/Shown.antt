-- The lines of a policy's files that a refusal names.
use Rattle.std.specs.Prelude.{ℕ, ◌-◌, List, [], ◌++◌, Option, Some, None, codes}
use Rattle.sm_values.specs.Messages.{numbered}
use Rattle.sm_contexts.specs.Lines.{lines}
use Rattle.sm_contexts.specs.declared.fault.ContextsFault.{ContextsFault}
use Rattle.sm_contexts.specs.declared.fault.ContextsFault.TheVariants as labels
use Rattle.sm_ruletext.specs.declared.fault.RuleTextFault.{RuleTextFault}
use Rattle.sm_ruletext.specs.declared.fault.RuleTextFault.TheVariants as text
use Rattle.sm_types.specs.declared.fault.TypesFault.{TypesFault}
use Rattle.sm_types.specs.declared.fault.TypesFault.TheVariants as types
use Rattle.sm_types.specs.Names.{at}
use Rattle.sm_rules.specs.declared.fault.RulesFault.{RulesFault}
use Rattle.sm_rules.specs.declared.fault.RulesFault.TheVariants as access
use Rattle.sm_questions.specs.OneLine.{statement_at}
use Rattle.sm_policy.specs.declared.violation.Violation.{Violation}
use Rattle.sm_policy.specs.declared.fault.PolicyFault.{PolicyFault}
use Rattle.sm_policy.specs.declared.fault.PolicyFault.TheVariants.{Rules, Types, Access, Contexts, UndeclaredLabel}
use Rattle.sm_policy.specs.declared.fault.PolicyFault.TheVariants.{Neverallow, Memory}

-- This is the line of a number, counted from 1. It is empty if there is none.
abbrev pub line_at : List ℕ → ℕ → List ℕ
line_at text number = at (lines text) (number - 1)

-- A line is shown as `FILE:LINE: TEXT`.
abbrev pub shown_line : List ℕ → List ℕ → ℕ → List ℕ
shown_line path text number =
    path ++ numbered (codes ":") number ++ codes ": " ++ line_at text number ++ codes "\n"

-- A statement is shown as `FILE:LINE: TEXT`, too.
abbrev pub shown_statement : List ℕ → List ℕ → ℕ → List ℕ
shown_statement path text number =
    path ++ numbered (codes ":") number ++ codes ": " ++ statement_at text number ++ codes "\n"

-- The statement of a line is shown, if there is one.
abbrev pub shown_at : List ℕ → List ℕ → Option ℕ → List ℕ
shown_at path text (Some number) = shown_statement path text number
shown_at path text None = []

-- This is shown for a fault of the policy source. An unsupported statement has no known end.
abbrev pub shown_text : List ℕ → List ℕ → RuleTextFault → List ℕ
shown_text path source text.TooLarge = []
shown_text path source (text.Syntax n) = shown_statement path source n
shown_text path source (text.Unsupported n) = shown_line path source n
shown_text path source text.TooMany = []
shown_text path source text.Memory = []

-- A fault of the declarations names this line.
abbrev pub types_line : TypesFault → Option ℕ
types_line (types.Twice n) = Some n
types_line (types.Unknown n) = Some n
types_line types.TooMany = None
types_line types.Memory = None

-- A fault of the rules names this line.
abbrev pub rules_line : RulesFault → Option ℕ
rules_line (access.Unknown n) = Some n
rules_line (access.UnknownPermission n) = Some n
rules_line access.Memory = None

-- These are the lines that a fault of the contexts file names. Of a conflict, the later line is first.
abbrev pub shown_contexts : List ℕ → List ℕ → ContextsFault → List ℕ
shown_contexts path text labels.TooLarge = []
shown_contexts path text (labels.BadLine n) = shown_line path text n
shown_contexts path text (labels.Conflict n m) = shown_line path text m ++ shown_line path text n
shown_contexts path text (labels.TwoDefaults n) = shown_line path text n
shown_contexts path text labels.NoDefault = []
shown_contexts path text labels.Memory = []

-- Of a broken neverallow rule, it is first itself, and then the allow rule.
abbrev pub shown_violation : List ℕ → List ℕ → Violation → List ℕ
shown_violation path text v = shown_statement path text v.never_line ++ shown_statement path text v.allow_line

-- These are the statements and lines that a refusal names, of a policy source and a contexts file.
abbrev pub shown_lines : List ℕ → List ℕ → List ℕ → List ℕ → PolicyFault → List ℕ
shown_lines rules_path rules contexts_path contexts (Rules e) = shown_text rules_path rules e
shown_lines rules_path rules contexts_path contexts (Types e) = shown_at rules_path rules (types_line e)
shown_lines rules_path rules contexts_path contexts (Access e) = shown_at rules_path rules (rules_line e)
shown_lines rules_path rules contexts_path contexts (Contexts e) = shown_contexts contexts_path contexts e
shown_lines rules_path rules contexts_path contexts (UndeclaredLabel n) = shown_line contexts_path contexts n
shown_lines rules_path rules contexts_path contexts (Neverallow v) = shown_violation rules_path rules v
shown_lines rules_path rules contexts_path contexts Memory = []
