-- Where the counts of grants fit behind steps that give nothing back, they fit before them.
use Rattle.std.proofs.Common.{ℕ, ◌≤◌, ◌∷◌, refl, List, arith}
use Rattle.sm_values.specs.declared.number.Node.{Node}
use Rattle.sm_values.specs.declared.number.ObjRef.{ObjRef}
use Rattle.sm_history.specs.Effects.{Effects}
use Rattle.sm_history.specs.declared.effect.Watch.{Watch}
use Rattle.sm_history.specs.declared.effect.Effect.TheVariants.{Gives, Delivers}
use Rattle.sm_history.specs.Holdings.{refs_at}
use Rattle.sm_history.specs.declared.delivery.Delivery.{Delivery}
use Rattle.sm_history.specs.Notices.{after_notices}
use Rattle.sm_history.specs.Histories.{handed_refs}
use Rattle.sm_history.specs.Sound.{IsBalanced}
use Rattle.sm_history.specs.Entering.{AllFit}
use Rattle.sm_history.proofs.Balanced.{balanced_lasts}
use Rattle.sm_history.proofs.Keeps.{notices_keep, refs_keep}
use Rattle.sm_history.proofs.Counted.{refs_grow, under}

-- No more grants are released than were made, and a count is no less than before.
pub record Grows (b : Effects) (k : ℕ) (m : Node) (d : Effects) : Type 0 where
  pub balanced : IsBalanced d
  pub more : refs_at b k m ≤ refs_at d k m

grows_gives : (b : Effects) (k : ℕ) (m : Node) (c : ℕ) (n : Node) (r : ℕ) (d : Effects) → Grows b k m d
    → Grows b k m (Gives c n r ∷ d)
grows_gives b k m c n r d h = record {
  balanced = balanced_lasts (Gives c n r) d refl h.balanced;
  more = let before = h.more in let grow = refs_grow d (Gives c n r) h.balanced refl k m in omega (arith, before, grow);
}

grows_delivers : (b : Effects) (k : ℕ) (m : Node) (c : ℕ) (x : Delivery) (d : Effects) → Grows b k m d
    → Grows b k m (Delivers c x ∷ d)
grows_delivers b k m c x d h =
    record { balanced = balanced_lasts (Delivers c x) d refl h.balanced; more = h.more }

itself : (d : Effects) (k : ℕ) (m : Node) → IsBalanced d → Grows d k m d
itself d k m b = record { balanced = b; more = omega arith }

pub fit_before_notices : (d : Effects) (n : Node) (ws : List Watch) → IsBalanced d → AllFit (after_notices d n ws)
    → AllFit d
fit_before_notices d n ws b fits k m =
    under (notices_keep (Grows d k m) (grows_gives d k m) (grows_delivers d k m) d n ws (itself d k m b)).more
    (fits k m)

pub fit_before_refs : (d : Effects) (from to : ℕ) (rs : List ObjRef) → IsBalanced d → AllFit (handed_refs d from to rs)
    → AllFit d
fit_before_refs d from to rs b fits k m =
    under (refs_keep (Grows d k m) (grows_gives d k m) d from to rs (itself d k m b)).more (fits k m)
