use Rattle.std.proofs.Common.{◌≡◌, ◌≤◌, ◌++◌, length, take, drop}
use Rattle.std.specs.Prelude.{filter, not, ◌==◌}
use Rattle.sm_names.proofs.named_rows.NamedRows.remove_client.Given as goal

-- The rows from a position on are those that stay.
abbrev pub invariant-loop-position : goal.invariant-loop-position
invariant-loop-position l = record {
  items : l.self.items ≡ take l.position l.fn.self.items
      ++ filter (λ r. not (l.client == r.service.node.owner.0)) (drop l.position l.fn.self.items);
  within : l.position ≤ length l.fn.self.items;
  kept : l.self.capacity ≡ l.fn.self.capacity;
}
