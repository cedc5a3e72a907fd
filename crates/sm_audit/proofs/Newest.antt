-- The newest records of lists that get longer.
use Rattle.std.proofs.Common.{◌≡◌, ◌≤◌, ◌-◌, ◌+◌, ◌++◌, [], ◌∷◌, List, drop, length, sym, ◌∙◌, ap, arith}
use Rattle.std.proofs.lemmas.List.{drop-append-le, drop-drop, length-append, length-drop, append_assoc}
use Rattle.sm_history.specs.declared.records.Record.{Record}
use Rattle.sm_audit.specs.declared.ring.TheConstants.{MOST_RECORDS}
use Rattle.sm_audit.specs.Rings.{newest_of}

-- So few records are all kept.
pub newest_of_few : (xs : List Record) → length xs ≤ MOST_RECORDS → newest_of xs ≡ xs
newest_of_few xs few =
    let none : length xs - MOST_RECORDS ≡ 0 = omega (arith, few) in
    ap (λ n. drop n xs) none

-- No more records are kept.
pub newest_of_length : (xs : List Record) → length (newest_of xs) ≤ MOST_RECORDS
newest_of_length xs = omega (arith, length-drop (length xs - MOST_RECORDS) xs)

-- What was dropped before the last records came would be dropped with them, too.
pub newest_of_later : (xs ys : List Record) → newest_of (newest_of xs ++ ys) ≡ newest_of (xs ++ ys)
newest_of_later xs ys =
    let gone = length xs - MOST_RECORDS in
    let kept = newest_of xs in
    let further = length (kept ++ ys) - MOST_RECORDS in
    let joined : kept ++ ys ≡ drop gone (xs ++ ys) = sym (drop-append-le gone xs ys (omega arith)) in
    let both : gone + further ≡ length (xs ++ ys) - MOST_RECORDS =
    omega (arith, length-append xs ys, length-append kept ys, length-drop gone xs) in
    ap (drop further) joined ∙ drop-drop further gone (xs ++ ys) ∙ ap (λ n. drop n (xs ++ ys)) both

-- One record, and then the others.
pub newest_of_next : (xs : List Record) (x : Record) (ys : List Record)
    → newest_of (newest_of (xs ++ x ∷ []) ++ ys) ≡ newest_of (xs ++ x ∷ ys)
newest_of_next xs x ys = newest_of_later (xs ++ x ∷ []) ys ∙ ap newest_of (append_assoc xs (x ∷ []) ys)
