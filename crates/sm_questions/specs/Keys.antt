-- The keys of a contexts file.
use Rattle.std.specs.Prelude.{ℕ, List, map}
use Rattle.sm_policy.specs.Policy.{Policy}

-- These are the keys of a policy's labels, in the order of their first lines.
abbrev pub keys_of : Policy → List (List ℕ)
keys_of policy = map (λ e. e.key) policy.entries
