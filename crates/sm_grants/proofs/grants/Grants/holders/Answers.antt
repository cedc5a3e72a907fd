use Rattle.std.proofs.Common.{◌≡◌, ℕ, ◌<◌, ◌∙◌, ap, arith}
use Rattle.std.specs.Prelude.{min, nat_lt}
use Rattle.std.proofs.lemmas.Bool.Decides.{nat_tests}
use Rattle.sm_grants.specs.Holders.{holders_at}
use Rattle.sm_grants.proofs.HolderCounts.{holders_are, in_use_is}
use Rattle.sm_grants.proofs.grants.Grants.holders.Goals as goal

pub returns-clause-count : goal.returns-clause-count
returns-clause-count c d tr =
    let count : c.holders_in-count.result ≡ holders_at d c.args.except c.args.node =
    rw (c.holders_in-count.ensures, c.deref.ensures.value)
    (holders_are d c.args.self.now.rows.items c.args.except c.args.node tr) in
    c.min.ensures ∙ ap (λ (v : ℕ). min v 4294967295) count

some_of_few : (count few m : ℕ) → few ≡ min count m → 0 < m → nat_lt 0 few ≡ nat_lt 0 count
some_of_few count few m is some = grind (arith, nat_tests)

pub returns-clause-in_use : goal.returns-clause-in_use
returns-clause-in_use c d tr =
    let count : c.holders_in-count.result ≡ holders_at d c.args.except c.args.node =
    rw (c.holders_in-count.ensures, c.deref.ensures.value)
    (holders_are d c.args.self.now.rows.items c.args.except c.args.node tr) in
    some_of_few c.holders_in-count.result c.min.result 4294967295 c.min.ensures (omega arith) ∙
    ap (λ (v : ℕ). nat_lt 0 v) count ∙ in_use_is d c.args.except c.args.node
