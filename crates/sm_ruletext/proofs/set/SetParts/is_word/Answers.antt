use Rattle.std.proofs.Common.{rules, arith, ◌≡◌, ◌∙◌, ℕ, List, length, get_or, ◌∷◌, [], false, refl, sym, ap}
use Rattle.sm_ruletext.proofs.set.SetParts.is_word.Goals as goal

one_item : (xs : List (List ℕ)) (x : List ℕ) → length xs ≡ 1 → x ≡ get_or xs 0 x → xs ≡ x ∷ []
one_item [] x e f = absurd (omega arith)
one_item (y ∷ []) x e f = ap (λ (z : List ℕ). z ∷ []) (sym f)
one_item (y ∷ z ∷ zs) x e f = absurd (omega arith)

no_item : (xs : List (List ℕ)) → length xs ≡ 0 → xs ≡ []
no_item [] e = refl
no_item (y ∷ ys) e = absurd (omega arith)

pub returns-in-len1-empty : goal.returns-in-len1-empty
returns-in-len1-empty c t =
    let all : c.self.inside.all ≡ false = search rules in
    let complement : c.self.inside.complement ≡ false = search rules in
    let single : length c.list.result.now ≡ 1 = search rules in
    let one : c.list.result.now ≡ c.name-item.result ∷ [] =
    one_item c.list.result.now c.name-item.result single c.name-item.is in
    let same : c.name-item.result ≡ c.args.word.now = search rules in
    let empty : length c.list-2.result.now ≡ 0 = search rules in
    let none : c.self.inside.minus ≡ [] = sym c.list-2.ensures ∙ no_item c.list-2.result.now empty in
    rw (← c.self.view_is, all, complement, ← c.list.ensures, one, same, none) refl
