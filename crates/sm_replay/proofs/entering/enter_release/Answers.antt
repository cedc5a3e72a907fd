use Rattle.std.proofs.Common.{◌≡◌, true, refl, Option, Some, None}
use Rattle.std.specs.Prelude.{is_some}
use Rattle.std.proofs.lemmas.Bool.{false≢true}
use Rattle.sm_values.specs.declared.number.Node.{Node}
use Rattle.sm_history.specs.Holdings.{node_at}
use Rattle.sm_history.specs.Histories.{found}
use Rattle.sm_history.proofs.Balanced.{found_held}
use Rattle.sm_replay.proofs.entering.enter_release.Goals as goal

found_is : (o : Option Node) → is_some o ≡ true → o ≡ Some (found o)
found_is None some = absurd (false≢true some)
found_is (Some n) some = refl

pub returns : goal.returns
returns c d o s tr done =
    let at = node_at d c.args.client c.args.handle in
    let some = done.passes.0 in
    c.in_ok-release.ensures d (found at) s tr (found_is at some)
    (done.acts, found_held d c.args.client c.args.handle at refl some)
