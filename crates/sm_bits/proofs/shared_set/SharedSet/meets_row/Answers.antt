use Rattle.std.proofs.Common.{refl}
use Rattle.sm_bits.proofs.Shared.{one_is, one_within, one_has_not, one_has_some}
use Rattle.sm_bits.proofs.shared_set.SharedSet.meets_row.Goals as goal

pub has-requires : goal.has-requires
has-requires c =
    let one = one_is _ _ _ _ _ c.self.view_is c.in-One.is c.from-i.ensures in
    one_within _ c.args.row.now _ _ one c.requires c.if-i-self.true

pub returns-then-i-self : goal.returns-then-i-self
returns-then-i-self c =
    let one = one_is _ _ _ _ _ c.self.view_is c.in-One.is c.from-i.ensures in record {
      none = λ none j. one_has_not _ c.args.row.now _ _ j _ one c.has.ensures none;
      some = λ some. one_has_some _ c.args.row.now _ _ _ one c.if-i-self.true c.has.ensures some;
    }

pub returns-else-i-self-clause-none : goal.returns-else-i-self-clause-none
returns-else-i-self-clause-none c none j =
    let one = one_is _ _ _ _ _ c.self.view_is c.in-One.is c.from-i.ensures in
    rw (one.outside j c.if-i-self.false) refl
