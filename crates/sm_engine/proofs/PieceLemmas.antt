-- How a reader takes a piece, one item after another.
use Rattle.std.proofs.Common.{◌≡◌, ℕ, ◌+◌, ◌-◌, ◌≤◌, List, [], ◌∷◌, ◌++◌, length, take, drop, refl, ap, sym, ◌∙◌}
use Rattle.std.proofs.Common.{append_assoc, arith, length-append, length-drop}
use Rattle.std.proofs.Math.Seq.{drop-length, take-length}
use Rattle.std.proofs.lemmas.List.{append-nil, drop-drop, take-append-drop}
use Rattle.sm_wire.specs.declared.item.Item.{Item}
use Rattle.sm_wire.specs.Items.{Scan, Takes, items_after, scan_after}
use Rattle.sm_wire.proofs.ItemLemmas.{items_after-append, scan_after-append}

-- A reader has taken the first bytes of a piece, and these items ended in them.
pub record Taken (first now : Scan) (piece : List ℕ) (start : ℕ) (done : List Item) : Type 0 where
  pub within : start ≤ length piece
  pub scan : scan_after first piece ≡ scan_after now (drop start piece)
  pub items : items_after first piece ≡ done ++ items_after now (drop start piece)

-- The rest of some bytes, as the code takes it.
sliced : (bytes : List ℕ) (start : ℕ) → take (length bytes - start) (drop start bytes) ≡ drop start bytes
sliced bytes start =
    let n : length bytes - start ≡ length (drop start bytes) = omega (arith, length-drop start bytes) in
    rw n (take-length (drop start bytes))

-- One more item at most is taken.
taken_next : {first now next : Scan} {piece : List ℕ} {start n : ℕ} {done before after : List Item}
    → Taken first now piece start done → before ≡ []
    → Takes now next (take (length piece - start) (drop start piece)) n before after
    → Taken first next piece (start + n) (done ++ after)
taken_next {first} {now} {next} {piece} {start} {n} {done} {before} {after} t none took =
    let rest : List ℕ = drop start piece in
    let more : Takes now next rest n [] after = rw (none, sliced piece start) at took in
    let parts : rest ≡ take n rest ++ drop (start + n) piece =
    sym (take-append-drop n rest) ∙ ap (λ (l : List ℕ). take n rest ++ l) (drop-drop n start piece) in
    record {
      within = omega (arith, t.within, more.within, length-drop start piece);
      scan = t.scan ∙ ap (scan_after now) parts ∙ scan_after-append now (take n rest) (drop (start + n) piece)
          ∙ ap (λ (s : Scan). scan_after s (drop (start + n) piece)) (sym more.scan);
      items = t.items ∙ ap (λ (l : List ℕ). done ++ items_after now l) parts
          ∙ rw (items_after-append now (take n rest) (drop (start + n) piece), ← more.scan, ← more.items, append_assoc)
          refl;
    }

-- No item was taken.
pub taken_none : {first now next : Scan} {piece : List ℕ} {start n : ℕ} {done before after : List Item}
    → Taken first now piece start done → before ≡ []
    → Takes now next (take (length piece - start) (drop start piece)) n before after → length after ≡ 0
    → Taken first next piece (start + n) done
taken_none {done = done} {after = []} t none took empty = rw (append-nil done) at (taken_next t none took)
taken_none {after = x ∷ xs} t none took empty = absurd (omega arith)

-- One item was taken, it is put aside, and others are left.
pub record Next (first next : Scan) (piece : List ℕ) (start : ℕ) (done rest : List Item) (item : Item) : Type 0 where
  pub slot : rest ≡ []
  pub taken : Taken first next piece start (done ++ item ∷ [])
  pub others : List Item
  pub all : items_after first piece ≡ done ++ item ∷ others

pub taken_one : {first now next : Scan} {piece : List ℕ} {start n : ℕ} {done before after rest : List Item} {item : Item}
    → Taken first now piece start done → before ≡ []
    → Takes now next (take (length piece - start) (drop start piece)) n before after → after ≡ rest ++ item ∷ []
    → Next first next piece (start + n) done rest item
taken_one {next = next} {piece = piece} {start = start} {n = n} {done = done} {after = after} {rest = []} {item = item} t
    none took is =
    let more = rw is at (taken_next t none took) in
    record {
      slot = refl;
      taken = more;
      others = items_after next (drop (start + n) piece);
      all = rw more.items (append_assoc done (item ∷ []) (items_after next (drop (start + n) piece)));
    }
taken_one {before = before} {after = after} {rest = x ∷ xs} {item = item} t none took is =
    let few : length after ≤ 1 = rw (took.items, none) took.one in
    absurd (omega (arith, ap length is, length-append (x ∷ xs) (item ∷ [])))

-- All of the piece is taken.
pub taken_all : {first now : Scan} {piece : List ℕ} {done : List Item} (start : ℕ) → Taken first now piece start done
    → length piece ≤ start → (now ≡ scan_after first piece) × (done ≡ items_after first piece)
taken_all {first} {now} {piece} {done} start t le =
    let end : start ≡ length piece = omega (arith, t.within) in
    let none : drop start piece ≡ [] = rw end (drop-length piece) in
    (rw (t.scan, none) refl, rw (t.items, none) (sym (append-nil done)))
