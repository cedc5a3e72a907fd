-- The bytes of a record's lines are its items.
use Rattle.std.proofs.Common.{◌≡◌, ◌≢◌, ◌≤◌, ℕ, List, [], ◌∷◌, ◌++◌, length, Some, None, refl, sym, ap, ◌∙◌, append_assoc}
use Rattle.std.specs.List.{AllByRecursion}
use Rattle.sm_wire.specs.declared.item.Item.{Item}
use Rattle.sm_wire.specs.declared.item.Item.TheVariants as items
use Rattle.sm_wire.specs.declared.kind.Kind.TheVariants.{Script}
use Rattle.sm_wire.specs.declared.request.Request.{Request}
use Rattle.sm_wire.specs.declared.request.Request.TheVariants.{Reload}
use Rattle.sm_wire.specs.Grammar.{header_by, header_of}
use Rattle.sm_wire.specs.Items.{items_of}
use Rattle.sm_wire.specs.Recording.{AreItems}
use Rattle.sm_wire.specs.Spelling.{Spells}
use Rattle.sm_wire.proofs.ItemLemmas.{line_law, reload_law}
use Rattle.sm_wire.proofs.SpellingLemmasLines.{item_read, line_read}

header_read : (line : List ℕ) (request : Request) → Spells Script line request
    → header_of Script line ≡ header_by (Some request)
unfolding header_of
header_read line request spells = ap header_by (line_read Script line request spells)

pub line_items : (line : List ℕ) (request : Request) → AllByRecursion (λ b. b ≢ 10) line → length line ≤ 4096
    → header_by (Some request) ≡ None → Spells Script line request
    → AreItems (line ++ 10 ∷ []) (items.Asked request ∷ [])
line_items line request plain short none spells rest =
    ap (λ (bytes : List ℕ). items_of Script bytes) (append_assoc line (10 ∷ []) rest)
    ∙ (line_law Script line rest plain short (header_read line request spells ∙ none)
    ∙ ap (λ (i : Item). i ∷ items_of Script rest) (item_read Script line request spells))

pub reload_items : (line rules contexts : List ℕ) (expected : ℕ) → AllByRecursion (λ b. b ≢ 10) line
    → length line ≤ 4096 → length rules ≤ 4194304 → length contexts ≤ 4194304
    → Spells Script line (Reload expected (length rules) (length contexts))
    → AreItems (line ++ 10 ∷ (rules ++ contexts))
    (items.Policy (record { expected = expected; rules = rules; contexts = contexts }) ∷ [])
reload_items line rules contexts expected plain short first second spells rest =
    ap (λ (bytes : List ℕ). items_of Script bytes) (append_assoc line (10 ∷ (rules ++ contexts)) rest)
    ∙ reload_law Script line rules contexts rest
    (record { expected = expected; rules = length rules; contexts = length contexts }) plain short
    (header_read line (Reload expected (length rules) (length contexts)) spells) refl refl first second

pub joined_items : (x y : List ℕ) (is js : List Item) → AreItems x is → AreItems y js → AreItems (x ++ y) (is ++ js)
joined_items x y is js one other rest =
    ap (λ (bytes : List ℕ). items_of Script bytes) (append_assoc x y rest)
    ∙ (one (y ++ rest)
    ∙ (ap (λ (more : List Item). is ++ more) (other rest) ∙ sym (append_assoc is js (items_of Script rest))))
