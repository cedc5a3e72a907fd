-- Rules that have an effect.
use Rattle.std.specs.Prelude.{Bool}
use Rattle.sm_ruletext.specs.Sets.{selects_kept}
use Rattle.sm_ruletext.specs.declared.rule.Rule.{Rule}

-- A rule is kept if its classes have one of the two.
unfoldable pub is_kept : Rule → Bool
is_kept rule = selects_kept rule.class
