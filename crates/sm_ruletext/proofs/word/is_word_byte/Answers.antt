use Rattle.std.proofs.Common.{refl, arith}
use Rattle.sm_values.proofs.ByteTables.{agree_below, from_table}
use Rattle.sm_ruletext.specs.declared.word.TheConstants.{WORD_MAP}
use Rattle.sm_ruletext.specs.Lexing.{is_word_byte}
use Rattle.sm_ruletext.proofs.word.is_word_byte.Goals as goal

pub returns : goal.returns
unfolding agree_below
returns c = from_table WORD_MAP is_word_byte c.args.b (omega arith) refl
