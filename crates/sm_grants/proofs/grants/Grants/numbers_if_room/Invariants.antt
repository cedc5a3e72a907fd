use Rattle.std.proofs.Common.{◌≡◌, ◌+◌, ◌≤◌, take}
use Rattle.arrayvec.specs.ArrayVec.{array_vec_len}
use Rattle.sm_grants.specs.Slots.{is_in}
use Rattle.sm_grants.specs.Rows.{slots_of}
use Rattle.sm_grants.specs.Several.{AreNumbersFor, Along, new_among, with_grants}
use Rattle.sm_grants.proofs.grants.Grants.numbers_if_room.Given as goal

abbrev pub invariant-loop-i : goal.invariant-loop-i
invariant-loop-i l = record {
  numbered : AreNumbersFor (slots_of l.self.rows.items l.client) (take l.i l.nodes) l.numbers.items;
  along : Along (slots_of l.self.rows.items l.client)
      (with_grants (slots_of l.self.rows.items l.client) (take l.i l.nodes) l.numbers.items) (take l.i l.nodes)
      l.numbers.items l.behind;
  many : array_vec_len l.numbers ≡ l.i;
  near : l.behind ≤ 65536 + l.i;
  counted : l.count ≡ new_among (is_in (slots_of l.self.rows.items l.client)) (take l.i l.nodes);
  few : l.count ≤ l.i;
}
