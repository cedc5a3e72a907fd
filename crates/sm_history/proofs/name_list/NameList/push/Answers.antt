use Rattle.std.proofs.Common.{rules}
use Rattle.sm_history.proofs.SpannedNames.{name_pushed, kept_pushed}
use Rattle.sm_history.proofs.name_list.NameList.push.Goals as goal

pub invariant_of-self-2 : goal.invariant_of-self-2
invariant_of-self-2 c =
    rw (
      c.in_ok-extend_from_slice.ensures.items,
      c.push_reserved.ensures.items,
      c.reserve-2.ensures.items,
      c.push_reserved-2.ensures.items,
      c.reserve.ensures.items,
      c.is_length.ensures,
    )
    (kept_pushed c.self.inside.bytes.items c.args.name.now c.self.inside.spans.items _ c.self.inside.is_plain
    c.self.invariant (search rules) (search rules))

pub returns-clause-ok : goal.returns-clause-ok
returns-clause-ok c =
    rw (
      ← c.self.view_is,
      c.in_ok-extend_from_slice.ensures.items,
      c.push_reserved.ensures.items,
      c.reserve-2.ensures.items,
      c.push_reserved-2.ensures.items,
      c.reserve.ensures.items,
    )
    (name_pushed c.self.inside.bytes.items c.args.name.now c.self.inside.spans.items _ c.self.invariant.within
    (search rules) (search rules))
