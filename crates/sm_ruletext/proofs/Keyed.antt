-- What a table of words knows: each name is its key.
use Rattle.std.proofs.Common.{◌≡◌, ℕ, Bool, true, false, cond, List, [], ◌∷◌, Some, unwrap_or, refl, sym, ap, ◌∙◌}
use Rattle.std.specs.List.{AllByRecursion}
use Rattle.std.specs.Str.{bytes_eq}
use Rattle.std.specs.Map.{lookup}
use Rattle.std.specs.Global.{Vec}
use Rattle.indexmap.specs.IndexMap.{insert_entry}
use Rattle.std.proofs.lemmas.Slice.Eq.{bytes_eq-Decides}

abbrev pub AreKeyed : List (Vec ℕ × List ℕ) → Type 0
AreKeyed es = AllByRecursion (λ e. e.1 ≡ e.0.items) es

abbrev holds : List ℕ → Vec ℕ → Bool
holds bytes k = bytes_eq bytes k.items

abbrev same : Vec ℕ → Vec ℕ → Bool
same x y = bytes_eq x.items y.items

-- What a look-up finds are the bytes that were asked for.
pub found : (bytes known : List ℕ) (es : List (Vec ℕ × List ℕ)) → AreKeyed es
    → lookup (holds bytes) es ≡ Some known → known ≡ bytes
found bytes known [] keyed e = absurd cc
found bytes known (x ∷ xs) keyed e = by (bytes_eq bytes x.0.items) refl e (found bytes known xs keyed.1) where
  by : (b : Bool) → bytes_eq bytes x.0.items ≡ b → cond b (Some x.1) (lookup (holds bytes) xs) ≡ Some known
      → (lookup (holds bytes) xs ≡ Some known → known ≡ bytes) → known ≡ bytes
  by true h f rest = sym (ap (λ r. unwrap_or r known) f) ∙ (keyed.0 ∙ sym ((bytes_eq-Decides bytes x.0.items).0 h))
  by false h f rest = rest f

-- A name put at its bytes is one more.
pub kept : (key : Vec ℕ) (name : List ℕ) (es : List (Vec ℕ × List ℕ)) → name ≡ key.items → AreKeyed es
    → AreKeyed (insert_entry same es key name)
kept key name [] is keyed = (is, tt)
kept key name (x ∷ xs) is keyed = by (bytes_eq key.items x.0.items) refl (kept key name xs is keyed.1) where
  by : (b : Bool) → bytes_eq key.items x.0.items ≡ b → AreKeyed (insert_entry same xs key name)
      → AreKeyed (cond b ((x.0, name) ∷ xs) (x ∷ insert_entry same xs key name))
  by true h rest = (is ∙ (bytes_eq-Decides key.items x.0.items).0 h, keyed.1)
  by false h rest = (keyed.0, rest)
