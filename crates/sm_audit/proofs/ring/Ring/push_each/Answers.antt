use Rattle.std.proofs.Common.{◌≡◌, ◌∷◌, ◌++◌, [], sym, ◌∙◌, ap}
use Rattle.std.proofs.Common.{rules}
use Rattle.std.specs.Vec.Iter.{drain_items}
use Rattle.sm_audit.specs.Rings.{newest_of}
use Rattle.sm_audit.proofs.Newest.{newest_of_next, newest_of_length}
use Rattle.sm_audit.proofs.ring.Ring.push_each.Goals as goal

-- What the ring drops now it would drop with the later records, too.
pub loop-newest-preserved : goal.loop-newest-preserved
loop-newest-preserved c =
    let ring = c.loop-newest.self in
    let x = c.in-Some.newest in
    let rest = drain_items c.next.new.self in
    let pushed : c.push.new.self ≡ newest_of (ring ++ x ∷ []) = c.push.ensures in
    let coming : drain_items c.loop-newest.newest-iterator ≡ x ∷ rest = search rules in
    record {
      newest = ap (λ s. newest_of (s ++ rest)) pushed ∙ newest_of_next ring x rest ∙
          ap (λ ys. newest_of (ring ++ ys)) (sym coming) ∙ c.loop-newest.invariant.newest;
      few = rw pushed (newest_of_length (ring ++ x ∷ []));
      kept = search rules;
    }
