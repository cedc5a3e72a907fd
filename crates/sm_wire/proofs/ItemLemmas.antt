-- How the items of a stream follow from its bytes, one at a time.
use Rattle.std.proofs.Common.{◌≡◌, ◌≢◌, length-append, Some, None, nat_le, ◌==◌, ℕ, true, false, ◌+◌, ◌<◌, ◌≤◌, List}
use Rattle.std.proofs.Common.{[], ◌∷◌, ◌++◌, length, refl, arith, append_assoc}
use Rattle.std.proofs.Math.Seq.{take-append_seam, drop-append_seam}
use Rattle.sm_wire.specs.declared.kind.Kind.{Kind}
use Rattle.std.specs.List.{AllByRecursion}
use Rattle.std.proofs.lemmas.Bool.Decides.{nat_tests}
use Rattle.std.proofs.lemmas.List.{append-nil}
use Rattle.sm_wire.specs.declared.item.Item.TheVariants.{Policy, LineTooLong}
use Rattle.sm_wire.specs.declared.frame_state.FrameState.TheVariants.{Line, Texts as TextsMode}
use Rattle.sm_wire.specs.declared.reload_header.ReloadHeader.{ReloadHeader}
use Rattle.sm_wire.specs.Grammar.{header_of}
use Rattle.sm_wire.specs.Items.{scan_start, scan_dead, items_of, item_of, policy_item, text_start, text_step}
use Rattle.sm_wire.specs.Items.{line_end, line_step, Scan, mode_step, byte_step, scan_after, items_after}

-- The items of two pieces, one after another.
pub items_after-append : (s : Scan) (xs ys : List ℕ) → items_after s (xs ++ ys) ≡ items_after s xs
    ++ items_after (scan_after s xs) ys
items_after-append s [] ys = refl
items_after-append s (x ∷ xs) ys = rw (items_after-append (byte_step s x).0 xs ys, append_assoc) refl

pub scan_after-append : (s : Scan) (xs ys : List ℕ) → scan_after s (xs ++ ys) ≡ scan_after (scan_after s xs) ys
scan_after-append s [] ys = refl
scan_after-append s (x ∷ xs) ys = scan_after-append (byte_step s x).0 xs ys

-- At a stream of any kind.
module _ (kind : Kind) where
  -- The bytes of a line, before its end.
  pub line_so_far : (held line rest : List ℕ) → AllByRecursion (λ b. b ≢ 10) line → length held + length line ≤ 4096
      → items_after (record { kind = kind; mode = Line; held = held }) (line ++ rest) ≡ items_after
      (record { kind = kind; mode = Line; held = held ++ line }) rest
  unfolding mode_step line_step
  line_so_far held [] rest plain le = rw (append-nil held) refl
  line_so_far held (x ∷ xs) rest plain le =
      let room : length held < 4096 = omega arith in
      let more : length (held ++ x ∷ []) + length xs ≤ 4096 = omega (arith, length-append held (x ∷ [])) in
      let one : mode_step kind Line held x ≡ (record { kind = kind; mode = Line; held = held ++ x ∷ [] }, []) =
      grind (arith, nat_tests, plain.0) in
      rw (one, line_so_far (held ++ x ∷ []) xs rest plain.1 more, append_assoc held (x ∷ []) xs) refl

  pub dead_items : (bytes : List ℕ) → items_after (scan_dead kind) bytes ≡ []
  unfolding mode_step
  dead_items [] = refl
  dead_items (x ∷ xs) = dead_items xs

  -- The end of a line that announces nothing.
  ends_plain : (line : List ℕ) → header_of kind line ≡ None
      → line_end kind line ≡ ((scan_start kind), item_of kind line ∷ [])
  unfolding line_end
  ends_plain line none = rw none refl

  pub line_law : (line rest : List ℕ) → AllByRecursion (λ b. b ≢ 10) line → length line ≤ 4096
      → header_of kind line ≡ None → items_of kind (line ++ 10 ∷ rest) ≡ item_of kind line ∷ items_of kind rest
  unfolding mode_step line_step
  line_law line rest plain le none = rw (line_so_far [] line (10 ∷ rest) plain (omega arith), ends_plain line none) refl

  -- The bytes of the texts, before their end.
  texts_so_far : (a : ReloadHeader) (held bytes rest : List ℕ) → length held + length bytes < a.rules + a.contexts
      → items_after (record { kind = kind; mode = TextsMode a; held = held }) (bytes ++ rest) ≡ items_after
      (record { kind = kind; mode = TextsMode a; held = held ++ bytes }) rest
  unfolding mode_step text_step
  texts_so_far a held [] rest lt = rw (append-nil held) refl
  texts_so_far a held (x ∷ xs) rest lt =
      let len = length-append held (x ∷ []) in
      let more : length (held ++ x ∷ []) + length xs < a.rules + a.contexts = omega (arith, len) in
      let one : mode_step kind (TextsMode a) held x ≡
      (record { kind = kind; mode = TextsMode a; held = held ++ x ∷ [] }, []) =
      grind (arith, nat_tests, len) in
      rw (one, texts_so_far a (held ++ x ∷ []) xs rest more, append_assoc held (x ∷ []) xs) refl

  -- The texts, and what follows them.
  texts_end : (a : ReloadHeader) (held bytes rest : List ℕ) → 0 < length bytes
      → length held + length bytes ≡ a.rules + a.contexts
      → items_after (record { kind = kind; mode = TextsMode a; held = held })
      (bytes ++ rest) ≡ policy_item a (held ++ bytes) ∷ items_of kind rest
  unfolding mode_step text_step
  texts_end a held [] rest some is = absurd (omega arith)
  texts_end a held (x ∷ []) rest some is =
      let len = length-append held (x ∷ []) in
      let one : mode_step kind (TextsMode a) held x ≡ ((scan_start kind), policy_item a (held ++ x ∷ []) ∷ []) =
      grind (arith, nat_tests, len) in
      rw one refl
  texts_end a held (x ∷ y ∷ ys) rest some is =
      let len = length-append held (x ∷ []) in
      let more : length (held ++ x ∷ []) + length (y ∷ ys) ≡ a.rules + a.contexts = omega (arith, len) in
      let one : mode_step kind (TextsMode a) held x ≡
      (record { kind = kind; mode = TextsMode a; held = held ++ x ∷ [] }, []) =
      grind (arith, nat_tests, len) in
      rw (one, texts_end a (held ++ x ∷ []) (y ∷ ys) rest (omega arith) more, append_assoc held (x ∷ []) (y ∷ ys)) refl

  -- A `reload` line's end, and the texts.
  texts_from : (a : ReloadHeader) (bytes rest : List ℕ) → length bytes ≡ a.rules + a.contexts → a.rules ≤ 4194304
      → a.contexts ≤ 4194304 → (text_start kind a).1 ++ items_after (text_start kind a).0 (bytes
      ++ rest) ≡ policy_item a bytes ∷ items_of kind rest
  unfolding text_start
  texts_from a [] rest is few less =
      let r : nat_le a.rules 4194304 ≡ true = grind (arith, nat_tests) in
      let c : nat_le a.contexts 4194304 ≡ true = grind (arith, nat_tests) in
      let none : (a.rules + a.contexts == 0) ≡ true = grind (arith, nat_tests) in
      rw (r, c, none) refl
  texts_from a (x ∷ xs) rest is few less =
      let r : nat_le a.rules 4194304 ≡ true = grind (arith, nat_tests) in
      let c : nat_le a.contexts 4194304 ≡ true = grind (arith, nat_tests) in
      let some : (a.rules + a.contexts == 0) ≡ false = grind (arith, nat_tests) in
      rw (r, c, some) (texts_end a [] (x ∷ xs) rest (omega arith) (omega (arith, is)))

  -- The two texts of what is header.
  texts_parted : (a : ReloadHeader) (rules contexts : List ℕ) → a.rules ≡ length rules
      → policy_item a (rules ++ contexts) ≡ Policy
      (record { expected = a.expected; rules = rules; contexts = contexts })
  texts_parted a rules contexts is = rw (is, take-append_seam rules contexts, drop-append_seam rules contexts) refl

  pub reload_law : (line rules contexts rest : List ℕ) (a : ReloadHeader) → AllByRecursion (λ b. b ≢ 10) line
      → length line ≤ 4096 → header_of kind line ≡ Some a → a.rules ≡ length rules → a.contexts ≡ length contexts
      → length rules ≤ 4194304 → length contexts ≤ 4194304
      → items_of kind (line ++ 10 ∷ (rules ++ contexts ++ rest)) ≡ Policy (record {
        expected = a.expected;
        rules = rules;
        contexts = contexts;
      }) ∷ items_of kind rest
  unfolding mode_step line_step line_end
  reload_law line rules contexts rest a plain le announces r c few less =
      let n : length (rules ++ contexts) ≡ a.rules + a.contexts = omega (arith, length-append rules contexts) in
      let ends : line_end kind line ≡ text_start kind a = rw announces refl in
      rw (line_so_far [] line (10 ∷ (rules ++ contexts ++ rest)) plain (omega arith), ends) (rw
      (← texts_parted a rules contexts r) (texts_from a (rules ++ contexts) rest n (omega arith) (omega arith)))

  pub long_law : (line rest : List ℕ) (b : ℕ) → AllByRecursion (λ c. c ≢ 10) line → length line ≡ 4096 → b ≢ 10
      → items_of kind (line ++ b ∷ rest) ≡ LineTooLong ∷ []
  unfolding mode_step line_step
  long_law line rest b plain n ne =
      let one : mode_step kind Line line b ≡ ((scan_dead kind), LineTooLong ∷ []) = grind (arith, nat_tests) in
      rw (line_so_far [] line (b ∷ rest) plain (omega arith), one, dead_items rest) refl
