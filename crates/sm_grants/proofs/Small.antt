-- Small facts about slots, objects and numbers.
use Rattle.std.proofs.Common.{◌≡◌, ℕ, ◌-◌, ◌≤◌, ◌<◌, Bool, true, false, refl, Option, Some, None, if◌then◌else◌, arith}
use Rattle.std.specs.Prelude.{is_some, nat_le, nat_lt}
use Rattle.std.proofs.lemmas.Bool.{true≢false}
use Rattle.std.proofs.lemmas.Bool.Decides.{nat_tests}
use Rattle.sm_values.specs.declared.number.Node.{Node}
use Rattle.sm_history.specs.declared.held.Held.{Held}
use Rattle.sm_grants.specs.Slots.{node_of}

pub test_lt : (a : ℕ) → nat_lt 0 a ≡ true → 0 < a
test_lt a h = grind (arith, nat_tests)

pub lt_test : (a : ℕ) → 0 < a → nat_lt 0 a ≡ true
lt_test a h = grind (arith, nat_tests)

pub zero_test : (a : ℕ) → a ≡ 0 → nat_lt 0 a ≡ false
zero_test a h = grind (arith, nat_tests)

pub some_node : (n m : Node) → (let a : Option Node = Some n in a ≡ Some m) → n ≡ m
some_node n m h = cc

pub none_some : {X : Type 0} (o : Option X) (x : X) → o ≡ None → o ≡ Some x → ⊥
none_some o x a b = cc

-- A slot is taken where it has an object.
pub has_some : (o : Option Held) (n : Node) → node_of o ≡ Some n → is_some o ≡ true
has_some None n h = cc
has_some (Some x) n h = refl

pub has_none : (o : Option Held) → is_some o ≡ false → o ≡ None
has_none None h = refl
has_none (Some x) h = absurd (true≢false h)

pub no_node : (o : Option Held) (n : Node) → o ≡ None → node_of o ≡ Some n → ⊥
no_node None n e h = cc
no_node (Some x) n e h = cc

-- What stays of a slot whose object was granted more than once.
pub left_over : (x : Held) (b : Bool) → nat_le x.count 1 ≡ b → 1 < x.count
    → node_of (if b then None else Some (record { node = x.node; count = x.count - 1 })) ≡ Some x.node
left_over x true e lt = let le : x.count ≤ 1 = grind (arith, nat_tests) in absurd (omega (arith, le, lt))
left_over x false e lt = refl
