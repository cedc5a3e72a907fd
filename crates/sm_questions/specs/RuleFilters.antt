-- What `svcmgr rules` is asked for.
use Rattle.std.specs.Prelude.{ℕ, List, if◌then◌else◌, Option, Some, None, Result, Ok, Err, codes}
use Rattle.std.specs.Str.{bytes_eq}
use Rattle.sm_values.specs.Reading.{◌>>=◌}
use Rattle.sm_ruletext.specs.declared.statement.RuleKind.{RuleKind}
use Rattle.sm_ruletext.specs.declared.statement.RuleKind.TheVariants.{Allow, Neverallow, Dontaudit}
use Rattle.sm_policy.specs.Policy.{Policy}
use Rattle.sm_questions.specs.Filters.{filter_of}
use Rattle.sm_questions.specs.declared.rule_filter.RuleFilter.{RuleFilter}
use Rattle.sm_questions.specs.declared.rule_filter.RuleOptions.{RuleOptions}
use Rattle.sm_questions.specs.declared.unknown.Unknown.{Unknown}
use Rattle.sm_questions.specs.declared.unknown.Unknown.TheVariants as unknown

-- This is the kind of rule that a word names.
abbrev pub kind_read : List ℕ → Option RuleKind
kind_read word =
    if bytes_eq word (codes "allow") then Some Allow
    else if bytes_eq word (codes "neverallow") then Some Neverallow
    else if bytes_eq word (codes "dontaudit") then Some Dontaudit
    else None

-- A kind that is read is asked for.
abbrev pub kind_or : List ℕ → Option RuleKind → Result (Option RuleKind) Unknown
kind_or word None = Err (unknown.Kind word)
kind_or word (Some kind) = Ok (Some kind)

-- This is the kind that is asked for, if one is.
abbrev pub kind_of : Option (List ℕ) → Result (Option RuleKind) Unknown
kind_of None = Ok None
kind_of (Some word) = kind_or word (kind_read word)

-- This is what the options ask for, or the first word that names nothing.
abbrev pub rule_filter_of : Policy → RuleOptions → Result RuleFilter Unknown
rule_filter_of policy options =
    kind_of options.kind >>= λ kind.
    filter_of policy options.accesses >>= λ accesses.
    Ok (record { kind = kind; accesses = accesses })
