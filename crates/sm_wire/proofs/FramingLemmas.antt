-- What the bytes of a whole item, or of a part of one, lead to.
use Rattle.std.proofs.Common.{◌≡◌, ◌≢◌, ℕ, suc, ◌+◌, ◌-◌, ◌<◌, ◌≤◌, List, [], ◌∷◌, ◌++◌, length, take, drop, get_or}
use Rattle.std.proofs.Common.{length-append, append_assoc, refl, ap, sym, ◌∙◌, arith, Option, Some, None, ◌⊎◌, inl, inr}
use Rattle.std.proofs.Math.Seq.{drop-cons, take-add, take-append_seam, take-length}
use Rattle.std.proofs.lemmas.Bool.Decides.{nat_tests}
use Rattle.std.proofs.lemmas.List.{append-nil, length-take-le, get_or-take, take-append-drop}
use Rattle.sm_wire.specs.declared.item.Item.{Item}
use Rattle.sm_wire.specs.declared.item.Item.TheVariants.{LineTooLong}
use Rattle.sm_wire.specs.declared.kind.Kind.{Kind}
use Rattle.sm_wire.specs.declared.frame_state.FrameState.{FrameState}
use Rattle.sm_wire.specs.declared.frame_state.FrameState.TheVariants.{Line, Texts as TextsMode, Dead}
use Rattle.sm_wire.specs.declared.reload_header.ReloadHeader.{ReloadHeader}
use Rattle.sm_wire.specs.declared.ends.End.TheVariants.{At, Later, Never}
use Rattle.sm_wire.specs.Grammar.{header_of}
use Rattle.sm_wire.specs.Items.{Scan, Makes, Takes, scan_start, scan_dead, policy_item, line_end, text_start, line_step}
use Rattle.sm_wire.specs.Items.{text_step, mode_step, byte_step, scan_after, items_after}
use Rattle.sm_wire.specs.Ends.{EndsAs, whole_step, never_items}
use Rattle.sm_wire.proofs.ItemLemmas.{items_after-append, scan_after-append}

-- The bytes lead from one scan to another, and end these items.
pub record Leads (s : Scan) (bytes : List ℕ) (t : Scan) (ended : List Item) : Type 0 where
  pub scan : scan_after s bytes ≡ t
  pub items : items_after s bytes ≡ ended

-- At a stream of any kind.
module _ (kind : Kind) where
  leads_then : (s t u : Scan) (xs ys : List ℕ) (is js : List Item) → Leads s xs t is → Leads t ys u js
      → Leads s (xs ++ ys) u (is ++ js)
  leads_then s t u xs ys is js p q = record {
    scan = rw (scan_after-append s xs ys, p.scan) q.scan;
    items = rw (items_after-append s xs ys, p.items, p.scan, q.items) refl;
  }

  leads_one : (s : Scan) (b : ℕ) (t : Scan) (is : List Item) → byte_step s b ≡ (t, is) → Leads s (b ∷ []) t is
  leads_one s b t is e = record { scan = rw (scan_after, e) refl; items = rw (items_after, e, append-nil is) refl }

  -- The first n bytes and the next one.
  front_and_last : (n : ℕ) (bytes : List ℕ) → n < length bytes
      → take (n + 1) bytes ≡ take n bytes ++ get_or bytes n 0 ∷ []
  front_and_last n bytes lt = take-add n 1 bytes
      ∙ ap (λ (l : List ℕ). take n bytes ++ take 1 l) (drop-cons bytes n 0 lt)

  -- Bytes of a line before its end.
  line_leads : (held line : List ℕ) → ((k : ℕ) → k < length line → get_or line k 0 ≢ 10)
      → length line ≤ 4096 - length held → Leads (record { kind = kind; mode = Line; held = held }) line
      (record { kind = kind; mode = Line; held = held ++ line }) []
  unfolding mode_step line_step
  line_leads held [] plain le = record { scan = rw (append-nil held) refl; items = refl }
  line_leads held (x ∷ xs) plain le =
      let head : x ≢ 10 = plain 0 (omega arith) in
      let room : length held < 4096 = omega arith in
      let one : mode_step kind Line held x ≡ (record { kind = kind; mode = Line; held = held ++ x ∷ [] }, []) =
      grind (arith, nat_tests, head) in
      let more : length xs ≤ 4096 - length (held ++ x ∷ []) = omega (arith, length-append held (x ∷ [])) in
      let rest = line_leads (held ++ x ∷ []) xs (λ k lt. plain (suc k) (omega arith)) more in
      record { scan = rw (one, rest.scan, append_assoc held (x ∷ []) xs) refl; items = rw one rest.items }

  -- The same, of the first bytes of some.
  front_leads : (held bytes : List ℕ) (n : ℕ) → n ≤ length bytes → n ≤ 4096 - length held
      → ((k : ℕ) → k < n → get_or bytes k 0 ≢ 10)
      → Leads (record { kind = kind; mode = Line; held = held }) (take n bytes)
      (record { kind = kind; mode = Line; held = held ++ take n bytes }) []
  front_leads held bytes n le room plain =
      let len = length-take-le n bytes le in
      line_leads held (take n bytes) (λ k lt. rw (get_or-take n bytes k 0 (omega (arith, len))) (plain k (omega
      (arith, len))))
      (omega (arith, len))

  -- All but the last of bytes.
  but_last : (held front : List ℕ) (b : ℕ) → take (length (held ++ (front ++ b ∷ [])) - 1) (held ++ (front ++ b ∷ []))
      ≡ held ++ front
  but_last held front b =
      let one = length-append front (b ∷ []) in
      let len : length (held ++ (front ++ b ∷ [])) - 1 ≡ length (held ++ front) =
      omega (arith, length-append held (front ++ b ∷ []), one, length-append held front) in
      rw (len, ← append_assoc held front (b ∷ [])) (take-append_seam (held ++ front) (b ∷ []))

  -- Bytes that end a line.
  line_ends : (held bytes : List ℕ) (n : ℕ) → n < length bytes → n ≤ 4096 - length held
      → ((k : ℕ) → k < n → get_or bytes k 0 ≢ 10) → get_or bytes n 0 ≡ 10
      → Leads (record { kind = kind; mode = Line; held = held }) (take (n + 1) bytes) (whole_step kind Line
      (held ++ take (n + 1) bytes)).0
      (whole_step kind Line (held ++ take (n + 1) bytes)).1
  unfolding mode_step line_step whole_step
  line_ends held bytes n lt room plain last =
      let front = take n bytes in
      let there : Scan = record { kind = kind; mode = Line; held = held ++ front } in
      let parts : take (n + 1) bytes ≡ front ++ 10 ∷ [] = rw (← last) (front_and_last n bytes lt) in
      let step : byte_step there 10 ≡ line_end kind (held ++ front) = refl in
      let same : whole_step kind Line (held ++ (front ++ 10 ∷ [])) ≡ line_end kind (held ++ front) =
      ap (λ (l : List ℕ). line_end kind l) (but_last held front 10) in
      rw (parts, same) (leads_then (record { kind = kind; mode = Line; held = held }) there (line_end kind
      (held ++ front)).0 front (10 ∷ [])
      [] (line_end kind (held ++ front)).1 (front_leads held bytes n (omega arith) room plain)
      (leads_one there 10 (line_end kind (held ++ front)).0 (line_end kind (held ++ front)).1 step))

  dead_leads : (bytes : List ℕ) → Leads (scan_dead kind) bytes (scan_dead kind) []
  unfolding mode_step
  dead_leads [] = record { scan = refl; items = refl }
  dead_leads (x ∷ xs) = let rest = dead_leads xs in record { scan = rest.scan; items = rest.items }

  -- Bytes of a line that is too long.
  line_long : (held bytes : List ℕ) (n : ℕ) → n ≡ 4096 - length held → n < length bytes
      → ((k : ℕ) → k < n + 1 → get_or bytes k 0 ≢ 10)
      → Leads (record { kind = kind; mode = Line; held = held }) bytes (scan_dead kind) (LineTooLong ∷ [])
  unfolding mode_step line_step
  line_long held bytes n is lt plain =
      let front = take n bytes in
      let rest = drop (suc n) bytes in
      let b = get_or bytes n 0 in
      let there : Scan = record { kind = kind; mode = Line; held = held ++ front } in
      let ne : b ≢ 10 = plain n (omega arith) in
      let full : 4096 ≤ length (held ++ front) =
      omega (arith, length-append held front, length-take-le n bytes (omega arith)) in
      let step : byte_step there b ≡ ((scan_dead kind), LineTooLong ∷ []) = grind (arith, nat_tests, ne, full) in
      let parts : bytes ≡ front ++ (b ∷ rest) =
      sym (take-append-drop n bytes) ∙ ap (λ (l : List ℕ). front ++ l) (drop-cons bytes n 0 lt) in
      rw parts (leads_then (record { kind = kind; mode = Line; held = held }) there (scan_dead kind) front
      (b ∷ rest) [] (LineTooLong ∷ [])
      (front_leads held bytes n (omega arith) (omega arith) (λ k l. plain k (omega arith)))
      (leads_then there (scan_dead kind) (scan_dead kind) (b ∷ []) rest (LineTooLong ∷ []) []
      (leads_one there b (scan_dead kind) (LineTooLong ∷ []) step) (dead_leads rest)))

  -- Bytes of texts before their end.
  texts_lead : (a : ReloadHeader) (held bytes : List ℕ)
      → ((k : ℕ) → 0 < k → k ≤ length bytes → length held + k ≢ a.rules + a.contexts)
      → Leads (record { kind = kind; mode = TextsMode a; held = held }) bytes
      (record { kind = kind; mode = TextsMode a; held = held ++ bytes }) []
  unfolding mode_step text_step
  texts_lead a held [] later = record { scan = rw (append-nil held) refl; items = refl }
  texts_lead a held (x ∷ xs) later =
      let len = length-append held (x ∷ []) in
      let ne : length (held ++ x ∷ []) ≢ a.rules + a.contexts = rw len (later 1 (omega arith) (omega arith)) in
      let one : mode_step kind (TextsMode a) held x ≡
      (record { kind = kind; mode = TextsMode a; held = held ++ x ∷ [] }, []) =
      grind (arith, nat_tests, ne) in
      let next : (k : ℕ) → 0 < k → k ≤ length xs → length (held ++ x ∷ []) + k ≢ a.rules + a.contexts =
      λ k some le is. later (suc k) (omega arith) (omega arith) (omega (arith, len, is)) in
      let rest = texts_lead a (held ++ x ∷ []) xs next in
      record { scan = rw (one, rest.scan, append_assoc held (x ∷ []) xs) refl; items = rw one rest.items }

  -- Bytes that end texts.
  texts_end : (a : ReloadHeader) (held bytes : List ℕ) (n : ℕ) → n < length bytes
      → length held + (n + 1) ≡ a.rules + a.contexts
      → Leads (record { kind = kind; mode = TextsMode a; held = held }) (take (n + 1) bytes)
      (scan_start kind) (policy_item a (held ++ take (n + 1) bytes) ∷ [])
  unfolding mode_step text_step
  texts_end a held bytes n lt is =
      let front = take n bytes in
      let b = get_or bytes n 0 in
      let len = length-take-le n bytes (omega arith) in
      let there : Scan = record { kind = kind; mode = TextsMode a; held = held ++ front } in
      let whole : length ((held ++ front) ++ b ∷ []) ≡ a.rules + a.contexts =
      omega (arith, length-append (held ++ front) (b ∷ []), length-append held front, len) in
      let step : byte_step there b ≡ ((scan_start kind), policy_item a ((held ++ front) ++ b ∷ []) ∷ []) =
      grind (arith, nat_tests, whole) in
      let parts = front_and_last n bytes lt in
      rw (parts, ← append_assoc held front (b ∷ [])) (leads_then
      (record { kind = kind; mode = TextsMode a; held = held }) there (scan_start kind)
      front (b ∷ []) [] (policy_item a ((held ++ front) ++ b ∷ []) ∷ [])
      (texts_lead a held front (λ k some le e. omega (arith, len, e)))
      (leads_one there b (scan_start kind) (policy_item a ((held ++ front) ++ b ∷ []) ∷ []) step))

  pred : (n : ℕ) → 0 < n → n - 1 + 1 ≡ n
  pred n some = omega arith

  -- Bytes that end an item.
  pub ends_lead : (m : FrameState) (held bytes : List ℕ) (n : ℕ) → EndsAs m (length held) bytes (At n)
      → Leads (record { kind = kind; mode = m; held = held }) (take n bytes) (whole_step kind m
      (held ++ take n bytes)).0
      (whole_step kind m (held ++ take n bytes)).1
  unfolding whole_step
  ends_lead Line held bytes n e = rw (pred n e.0) at
      (line_ends held bytes (n - 1) (omega (arith, e.0, e.1)) e.2 e.3 e.4)
  ends_lead (TextsMode a) held bytes n e = rw (pred n e.0) at
      (texts_end a held bytes (n - 1) (omega (arith, e.0, e.1)) (omega (arith, e.0, e.2)))
  ends_lead Dead held bytes n e = absurd e

  -- Bytes of an item before its end.
  later_leads : (m : FrameState) (held bytes : List ℕ) → EndsAs m (length held) bytes Later
      → Leads (record { kind = kind; mode = m; held = held }) bytes
      (record { kind = kind; mode = m; held = held ++ bytes }) []
  later_leads Line held bytes e = line_leads held bytes e.1 e.0
  later_leads (TextsMode a) held bytes e = texts_lead a held bytes e
  later_leads Dead held bytes e = absurd e

  -- Bytes where no item ends any more.
  never_leads : (m : FrameState) (held bytes : List ℕ) → (held ≡ []) ⊎ (0 < length bytes)
      → EndsAs m (length held) bytes Never
      → Leads (record { kind = kind; mode = m; held = held }) bytes (scan_dead kind) (never_items m)
  unfolding mode_step
  never_leads Line held bytes some e = line_long held bytes (4096 - length held) refl e.0 e.1
  never_leads (TextsMode a) held bytes some e = absurd e
  never_leads Dead held [] (inl none) e = rw none (dead_leads [])
  never_leads Dead held [] (inr some) e = absurd (omega arith)
  never_leads Dead held (x ∷ xs) some e =
      let rest = dead_leads xs in record { scan = rest.scan; items = rest.items }

  -- It is reported at most once that no item ends any more.
  never_one : (m : FrameState) → length (never_items m) ≤ 1
  never_one Line = omega arith
  never_one (TextsMode a) = omega arith
  never_one Dead = omega arith

  -- An item ends among the bytes, and not behind them.
  ends_within : (m : FrameState) (held : ℕ) (bytes : List ℕ) (n : ℕ) → EndsAs m held bytes (At n)
      → (0 < n) × (n ≤ length bytes)
  ends_within Line held bytes n e = (e.0, e.1)
  ends_within (TextsMode a) held bytes n e = (e.0, e.1)
  ends_within Dead held bytes n e = absurd e

  -- The end of a `reload` line gives one item at most.
  text_one : (a : ReloadHeader) → length (text_start kind a).1 ≤ 1
  unfolding text_start
  text_one a = grind (arith, nat_tests)

  -- The end of a line gives one item at most.
  line_one : (line : List ℕ) (o : Option ReloadHeader) → header_of kind line ≡ o → length (line_end kind line).1 ≤ 1
  unfolding line_end
  line_one line (Some a) e = rw e (text_one a)
  line_one line None e = rw e (omega arith)

  -- A whole item is one item at most.
  whole_one : (m : FrameState) (bytes : List ℕ) → length (whole_step kind m bytes).1 ≤ 1
  unfolding whole_step
  whole_one Line bytes = line_one (take (length bytes - 1) bytes) (header_of kind (take (length bytes - 1) bytes)) refl
  whole_one (TextsMode a) bytes = omega arith
  whole_one Dead bytes = omega arith

  -- A reader took the end of an item.
  pub takes_end : (m n : FrameState) (held piece none : List ℕ) (k : ℕ) (old new : List Item)
      → EndsAs m (length held) piece (At k) → Makes (whole_step kind m (held ++ take k piece)) kind n [] old new
      → none ≡ []
      → Takes (record { kind = kind; mode = m; held = held }) (record { kind = kind; mode = n; held = none }) piece k
      old new
  takes_end m n held piece none k old new ends made empty =
      let w = ends_within m (length held) piece k ends in
      let l = ends_lead m held piece k ends in
      record {
        some = λ h. w.0;
        within = w.1;
        scan = rw empty (sym (l.scan ∙ made.scan));
        items = rw l.items made.items;
        one = rw l.items (whole_one m (held ++ take k piece));
      }

  -- A reader took a piece in which nothing ends.
  pub takes_later : (m : FrameState) (held piece all : List ℕ) (items : List Item)
      → EndsAs m (length held) piece Later → all ≡ held ++ piece
      → Takes (record { kind = kind; mode = m; held = held }) (record { kind = kind; mode = m; held = all }) piece
      (length piece) items items
  takes_later m held piece all items ends is =
      let l = later_leads m held piece ends in
      record {
        some = λ h. h;
        within = omega arith;
        scan = rw (take-length piece, l.scan, is) refl;
        items = rw (take-length piece, l.items, append-nil items) refl;
        one = rw (take-length piece, l.items) (omega arith);
      }

  -- A reader took a piece of a line that is too long, or one that comes after it.
  pub takes_never : (m : FrameState) (held piece none : List ℕ) (old new : List Item)
      → (held ≡ []) ⊎ (0 < length piece) → EndsAs m (length held) piece Never → new ≡ old ++ never_items m → none ≡ []
      → Takes (record { kind = kind; mode = m; held = held }) (record { kind = kind; mode = Dead; held = none }) piece
      (length piece) old new
  takes_never m held piece none old new some ends is empty =
      let l = never_leads m held piece some ends in
      record {
        some = λ h. h;
        within = omega arith;
        scan = rw (take-length piece, l.scan, empty) refl;
        items = rw (take-length piece, l.items) is;
        one = rw (take-length piece, l.items) (never_one m);
      }
