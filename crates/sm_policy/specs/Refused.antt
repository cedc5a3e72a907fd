-- The words of a refused policy.
use Rattle.std.specs.Prelude.{ℕ, List, ◌++◌, codes}
use Rattle.sm_values.specs.Messages.{access_words, numbered}
use Rattle.sm_ruletext.specs.declared.fault.RuleTextFault.{RuleTextFault}
use Rattle.sm_ruletext.specs.declared.fault.RuleTextFault.TheVariants as text
use Rattle.sm_types.specs.declared.fault.TypesFault.{TypesFault}
use Rattle.sm_types.specs.declared.fault.TypesFault.TheVariants as types
use Rattle.sm_rules.specs.declared.fault.RulesFault.{RulesFault}
use Rattle.sm_rules.specs.declared.fault.RulesFault.TheVariants as access
use Rattle.sm_contexts.specs.declared.fault.ContextsFault.{ContextsFault}
use Rattle.sm_contexts.specs.declared.fault.ContextsFault.TheVariants as labels
use Rattle.sm_policy.specs.declared.violation.Violation.{Violation}
use Rattle.sm_policy.specs.declared.fault.PolicyFault.{PolicyFault}
use Rattle.sm_policy.specs.declared.fault.PolicyFault.TheVariants.{Rules, Types, Access, Contexts, UndeclaredLabel}
use Rattle.sm_policy.specs.declared.fault.PolicyFault.TheVariants.{Neverallow, Memory}

-- A fault of the policy source has these words.
abbrev pub text_words : RuleTextFault → List ℕ
text_words text.TooLarge = codes "rules: too large"
text_words (text.Syntax n) = numbered (codes "rules: syntax at line ") n
text_words (text.Unsupported n) = numbered (codes "rules: unsupported statement at line ") n
text_words text.TooMany = codes "rules: too many"
text_words text.Memory = codes "memory"

-- A fault of the declarations has these words.
abbrev pub types_words : TypesFault → List ℕ
types_words (types.Twice n) = numbered (codes "rules: declared twice at line ") n
types_words (types.Unknown n) = numbered (codes "rules: unknown name at line ") n
types_words types.TooMany = codes "rules: too many"
types_words types.Memory = codes "memory"

-- A fault of the rules has these words.
abbrev pub rules_words : RulesFault → List ℕ
rules_words (access.Unknown n) = numbered (codes "rules: unknown name at line ") n
rules_words (access.UnknownPermission n) = numbered (codes "rules: unknown permission at line ") n
rules_words access.Memory = codes "memory"

-- A fault of the contexts file has these words. Of a conflict, the later line is named first.
abbrev pub contexts_words : ContextsFault → List ℕ
contexts_words labels.TooLarge = codes "contexts: too large"
contexts_words (labels.BadLine n) = numbered (codes "contexts: bad line ") n
contexts_words (labels.Conflict n m) =
    numbered (codes "contexts: line ") m ++ numbered (codes " gives another context than line ") n
contexts_words (labels.TwoDefaults n) = numbered (codes "contexts: second default at line ") n
contexts_words labels.NoDefault = codes "contexts: no default"
contexts_words labels.Memory = codes "memory"

-- A broken neverallow rule has these words before the access.
abbrev pub broken_words : ℕ → ℕ → List ℕ
broken_words never allow =
    numbered (codes "neverallow at line ") never ++ numbered (codes " by allow at line ") allow ++ codes ": "

-- A violation is written with its two lines, and the source, the target, the class and the permission.
abbrev pub violation_words : Violation → List ℕ
violation_words v =
    broken_words v.never_line v.allow_line ++ access_words v.source v.target v.class v.perm

-- A refusal has these words.
abbrev pub refused_words : PolicyFault → List ℕ
refused_words (Rules e) = text_words e
refused_words (Types e) = types_words e
refused_words (Access e) = rules_words e
refused_words (Contexts e) = contexts_words e
refused_words (UndeclaredLabel n) = numbered (codes "contexts: undeclared type at line ") n
refused_words (Neverallow v) = violation_words v
refused_words Memory = codes "memory"
