use Rattle.std.proofs.Common.{◌≡◌, ◌<◌, ℕ, slice_get, Some, sym, ◌∙◌}
use Rattle.std.proofs.lemmas.Result.{IfOk-weaker}
use Rattle.sm_rules.specs.declared.kept.Kept.{Kept}
use Rattle.sm_matrices.specs.Matrices.{perm_set}
use Rattle.sm_neverallow.specs.Hitting.{Misses, Hits, IsClear, IsBroken}
use Rattle.sm_neverallow.proofs.Broken.{none_of_set, hits_union, misses_union}
use Rattle.sm_neverallow.proofs.violation.first_broken_of.Goals as goal

pub returns-then-not-has-clause-first : goal.returns-then-not-has-clause-first
returns-then-not-has-clause-first c n never h found same =
    absurd (none_of_set c.args.neverallows.now c.args.set.0 n never
    (sym (c.requires.sets.says c.args.set.0) ∙ (rw c.from.ensures at (sym c.has.ensures)) ∙ c.if-not-has.true)
    found same)

pub returns-clause-broken : goal.returns-clause-broken
returns-clause-broken c =
    let nevers = c.args.neverallows.now in
    IfOk-weaker c.first_hit.result
    (λ place. (never : Kept) → place < c.args.end → slice_get nevers place ≡ Some never
    → (perm_set never ≡ c.args.set.0) × Hits c.in_ok-joined.joined c.args.count never)
    (λ place. (never : Kept) → place < c.args.end → slice_get nevers place ≡ Some never
    → IsBroken c.args.matrices.now c.args.count never)
    (λ place hits never h found. let hit = hits never h found in
    hits_union c.args.matrices.now c.args.count c.args.set.0 c.in_ok-joined.joined never c.in_ok-joined.ensures hit.0
    hit.1) c.first_hit.ensures.hit

pub returns-clause-first : goal.returns-clause-first
returns-clause-first c =
    let nevers = c.args.neverallows.now in
    IfOk-weaker c.first_hit.result
    (λ place. (n : ℕ) (never : Kept) → n < place → slice_get nevers n ≡ Some never → perm_set never ≡ c.args.set.0
    → Misses c.in_ok-joined.joined c.args.count never)
    (λ place. (n : ℕ) (never : Kept) → n < place → slice_get nevers n ≡ Some never → perm_set never ≡ c.args.set.0
    → IsClear c.args.matrices.now c.args.count never)
    (λ place misses n never h found same.
    misses_union c.args.matrices.now c.args.count c.args.set.0 c.in_ok-joined.joined never c.in_ok-joined.ensures same
    (misses n never h found same)) c.first_hit.ensures.first
