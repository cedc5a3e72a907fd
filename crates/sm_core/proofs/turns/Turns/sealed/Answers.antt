use Rattle.std.proofs.Common.{ℕ, ◌-◌, ◌==◌, List, refl, ap, map}
use Rattle.std.specs.Prelude.{nat_lt, slice_index_or}
use Rattle.sm_history.specs.declared.by.By.TheVariants.{Manager, Client, Admin}
use Rattle.std.specs.List.{list_any}
use Rattle.sm_history.specs.Segments.{admin}
use Rattle.sm_core.specs.Counting.{change_count}
use Rattle.sm_core.proofs.SealedTurns.{ids, sealed_client}
use Rattle.sm_core.proofs.turns.Turns.sealed.Goals as goal

pub returns-clause-turns : goal.returns-clause-turns
returns-clause-turns c Manager = refl
returns-clause-turns c (Client k) =
    sealed_client (nat_lt k.0 c.args.next) (list_any (λ n. n == k.0) (ids c.args.live.now)) _ _
    (change_count c.args.self.now (Client k)) (c.in_ok-of_live.ensures k.0)
    (ap (λ (ns : List ℕ). slice_index_or ns (k.0 - c.args.next) 0) c.new.ensures.items)
returns-clause-turns c (Admin a) = c.in_ok-same_admins.ensures.gets a.0

pub returns-clause-admins : goal.returns-clause-admins
returns-clause-admins c = ap (λ (ks : List ℕ). map admin ks) c.in_ok-same_admins.ensures.keys
