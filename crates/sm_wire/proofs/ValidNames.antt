-- Valid names are written as they are.
use Rattle.std.proofs.Common.{◌≡◌, ℕ, true, List, [], ◌∷◌, refl, arith}
use Rattle.std.specs.List.{flat_map, list_all}
use Rattle.sm_values.specs.Names.{is_valid_name}
use Rattle.sm_values.specs.Messages.{name_text}
use Rattle.sm_history.specs.NameLists.{spaced}
use Rattle.sm_wire.specs.Replies.{spaced_name}

valid_text : (name : List ℕ) → is_valid_name name ≡ true → name_text name ≡ name
unfolding name_text
valid_text name valid = rw valid refl

pub valid_texts : (names : List (List ℕ)) → list_all is_valid_name names ≡ true
    → flat_map spaced names ≡ flat_map spaced_name names
valid_texts [] valid = refl
valid_texts (x ∷ xs) valid =
    let here : is_valid_name x ≡ true = grind (arith, valid) in
    let rest : list_all is_valid_name xs ≡ true = grind (arith, valid) in
    rw (valid_text x here, valid_texts xs rest) refl
