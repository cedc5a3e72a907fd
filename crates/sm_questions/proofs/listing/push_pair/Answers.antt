use Rattle.std.proofs.Common.{◌<◌, ◌∙◌, refl, sym, arith}
use Rattle.std.proofs.lemmas.List.{append-nil}
use Rattle.sm_types.specs.Names.{at}
use Rattle.sm_types.specs.Denoting.{types}
use Rattle.sm_questions.specs.Accesses.{perm_lines}
use Rattle.sm_questions.proofs.Granted.{listed, no_pair, unlisted}
use Rattle.sm_questions.proofs.Permissions.{held_perm}
use Rattle.sm_questions.proofs.listing.push_pair.Goals as goal
use Rattle.sm_questions.proofs.listing.push_pair.Goals.{then-is_listed+in_ok-push_line, else-is_listed}

pub returns-then-granted-eq0 : goal.returns-then-granted-eq0
returns-then-granted-eq0 c =
    let names = types c.args.policy.now.statements in
    rw (
      no_pair c.args.policy.now c.args.granted c.args.wanted.0 (at names c.args.source)
          (at names c.args.target) c.if-granted-eq0.true c.requires.granted,
      append-nil c.args.held.now.items,
    ) refl

pub loop-bit-preserved : goal.loop-bit-preserved
loop-bit-preserved c =
    let names = types c.args.policy.now.statements in
    let f = perm_lines c.args.policy.now c.args.wanted.0 (at names c.args.source) (at names c.args.target) in
    let lt : c.loop-bit.bit < 7 = omega arith in
    held_perm f c.loop-bit.bit c.args.held.now.items lt c.loop-bit.invariant (elim c.if-is_listed.branch [
      | then-is_listed+in_ok-push_line w ↦ rw (
        w.held-is,
        listed c.args.policy.now c.args.granted c.args.wanted.0
            (at names c.args.source) (at names c.args.target) c.loop-bit.bit lt c.requires.granted
            (sym c.is_listed.ensures ∙ w.if-is_listed.true),
      ) w.in_ok-push_line.ensures
      | else-is_listed w ↦ rw (
        w.held-is,
        unlisted c.args.policy.now c.args.granted c.args.wanted.0
            (at names c.args.source) (at names c.args.target) c.loop-bit.bit lt c.requires.granted
            (sym c.is_listed.ensures ∙ w.if-is_listed.false),
        append-nil c.loop-bit.held.items,
      ) refl
    ])
