use Rattle.std.proofs.Common.{◌≡◌, length, ◌∙◌, arith}
use Rattle.sm_matrices.specs.Uniting.{in_gathered}
use Rattle.sm_matrices.proofs.Groups.{joined_more, joined_whole}
use Rattle.sm_matrices.proofs.gathered.rows_of.Goals as goal

pub loop-rule-preserved : goal.loop-rule-preserved
loop-rule-preserved c = record {
  fits = c.in_ok-add_of_set.ensures.fits;
  joined = λ s t h. joined_more c.args.rules.now c.args.set.0 c.loop-rule.rule-index s t c.rule-item.result
      (in_gathered c.loop-rule.gathered s t) (in_gathered c.add_of_set.new.self s t) (omega arith) c.rule-item.is
      (c.loop-rule.invariant.joined s t h) (c.in_ok-add_of_set.ensures.added s t h);
}

pub returns : goal.returns
returns c =
    let end : c.loop-rule.rule-index ≡ length c.args.rules.now = omega arith in
    record {
      square = c.into_rows.ensures.square;
      says = λ s t h. c.into_rows.ensures.same s t h
          ∙ (c.loop-rule.invariant.joined s t h ∙ joined_whole c.args.rules.now c.args.set.0 c.loop-rule.rule-index s t
          end);
    }
