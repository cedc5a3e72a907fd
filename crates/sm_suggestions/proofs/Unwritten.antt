-- No allow rule grants an access that isn't allowed.
use Rattle.std.proofs.Common.{◌≡◌, ℕ, ◌<◌, Bool, true, false, ◌&&◌, List, length, find, Option, Some, None, refl, ◌∙◌}
use Rattle.std.proofs.Common.{true≢false, nat_lt, is_some, arith}
use Rattle.std.specs.List.{list_any}
use Rattle.std.proofs.lemmas.Bool.{or_parts}
use Rattle.sm_values.specs.declared.class.Class.{Class}
use Rattle.sm_values.specs.declared.perms.Perms.{Perms}
use Rattle.sm_ruletext.specs.declared.statement.RuleKind.TheVariants.{Allow}
use Rattle.sm_types.specs.Denoting.{declares, types}
use Rattle.sm_types.specs.Names.{at}
use Rattle.sm_values.specs.Permissions.{perm_of}
use Rattle.sm_rules.specs.Access.{covers_as}
use Rattle.sm_policy.specs.Policy.{Policy, allowed, allowed_at, is_permissive, written, written_at}
use Rattle.sm_policy.proofs.Finding.{is_some-find}

none_there : {A : Type 0} (o : Option A) → is_some o ≡ false → o ≡ None
none_there None e = refl
none_there (Some x) e = absurd (true≢false e)

not_found : {A : Type 0} (p : A → Bool) (xs : List A) → list_any p xs ≡ false → find p xs ≡ None
not_found p xs none = none_there (find p xs) (is_some-find p xs ∙ none)

-- The same of an access by the numbers of its types.
pub none_written : (policy : Policy) (s t : ℕ) (class : Class) (perm : Perms)
    → s < length (types policy.statements) → t < length (types policy.statements)
    → allowed_at policy s t class perm ≡ false
    → None ≡ written_at policy (at (types policy.statements) s) (at (types policy.statements) t) class perm
unfolding allowed written_at
none_written policy s t class perm hs ht denied =
    let names = types policy.statements in
    let here : nat_lt s (length names) ≡ true = grind (arith, hs) in
    let there : nat_lt t (length names) ≡ true = grind (arith, ht) in
    let refused : allowed policy (at names s) (at names t) class perm ≡ false = rw (here, there) at denied in
    let parts = or_parts (written policy (at names s) (at names t) class perm)
    (is_permissive policy (at names s) && (declares policy.statements (at names t) && is_some (perm_of class perm)))
    refused in
    rw (not_found (covers_as Allow policy.statements (at names s) (at names t) class perm) policy.statements parts.0)
    refl
