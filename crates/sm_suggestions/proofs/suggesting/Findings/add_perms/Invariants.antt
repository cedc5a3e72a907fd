use Rattle.std.proofs.Common.{◌≡◌, ◌≤◌, ◌+◌, ◌&&◌, take}
use Rattle.std.specs.List.{flat_map, list_all}
use Rattle.sm_suggestions.specs.Rulings.{AreRulings}
use Rattle.sm_suggestions.specs.Suggesting.{perm_allowed, perm_numbers, perm_suggestions}
use Rattle.sm_suggestions.specs.Tallying.{counted_all, total}
use Rattle.sm_suggestions.proofs.suggesting.Findings.add_perms.Given as goal

abbrev pub invariant-loop-bit : goal.invariant-loop-bit
invariant-loop-bit l = record {
  rulings : AreRulings l.policy l.self.rulings.by_number.entries;
  tally : l.self.tally
      ≡ counted_all l.fn.self.tally (flat_map (perm_suggestions l.policy l.denial) (take l.bit perm_numbers));
  few : total l.self.tally ≤ total l.fn.self.tally + l.bit;
  allowed : l.self.all_allowed
      ≡ (l.fn.self.all_allowed && list_all (perm_allowed l.policy l.denial) (take l.bit perm_numbers));
  skipped : l.self.skipped ≡ l.fn.self.skipped;
}
