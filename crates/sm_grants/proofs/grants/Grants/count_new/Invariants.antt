use Rattle.std.proofs.Common.{◌≡◌, ◌≤◌, take}
use Rattle.sm_grants.specs.Slots.{is_in}
use Rattle.sm_grants.specs.Rows.{slots_of}
use Rattle.sm_grants.specs.Several.{new_among}
use Rattle.sm_grants.proofs.grants.Grants.count_new.Given as goal

abbrev pub invariant-loop-i : goal.invariant-loop-i
invariant-loop-i l = record {
  counted : l.count ≡ new_among (is_in (slots_of l.self.rows.items l.client)) (take l.i l.nodes);
  few : l.count ≤ l.i;
}
