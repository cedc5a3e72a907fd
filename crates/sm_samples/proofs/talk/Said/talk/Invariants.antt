use Rattle.std.proofs.Common.{◌≡◌, ◌++◌, drop}
use Rattle.std.specs.List.{flat_map}
use Rattle.sm_samples.specs.Talks.{line_of}
use Rattle.sm_samples.proofs.talk.Said.talk.Given as goal

abbrev pub invariant-loop-line : goal.invariant-loop-line
invariant-loop-line l =
    (l.self.script.items ++ flat_map (λ x. line_of x.0.now) (drop l.line-index l.talk)
    ≡ l.initial.self.script.items ++ flat_map (λ x. line_of x.0.now) l.talk)
    × (l.self.wanted.items ++ flat_map (λ x. line_of x.1.now) (drop l.line-index l.talk)
    ≡ l.initial.self.wanted.items ++ flat_map (λ x. line_of x.1.now) l.talk)
