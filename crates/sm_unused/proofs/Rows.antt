-- Rows of bits as the pairs of a rule are removed from them.
use Rattle.std.proofs.Common.{◌≡◌, ◌∙◌, ℕ, ◌+◌, ◌-◌, ◌<◌, ◌≤◌, true, not, ◌&&◌, List, [], ◌∷◌, ◌++◌, length}
use Rattle.std.proofs.Common.{get_or, inl, inr, false, refl, sym, arith, length-append, true≢false}
use Rattle.std.specs.Prelude.{slice_set}
use Rattle.std.proofs.Math.Bool.{and-true}
use Rattle.std.proofs.lemmas.Bool.{cases_eq, cases_lt}
use Rattle.std.proofs.lemmas.Option.{get_or_from_slice_get, slice_get_read}
use Rattle.std.proofs.lemmas.List.{get_or_append_left, get_or-append_right, get_or-set_other, get_or-set_same, length-set}
use Rattle.sm_bits.specs.Bits.{has, row}
use Rattle.sm_matrices.specs.Matrices.{AllSquare, Square, matrix}
use Rattle.sm_rules.specs.Keeping.{FitsRule, covers, joins}
use Rattle.sm_rules.specs.declared.kept.Kept.{Kept}
use Rattle.sm_unused.specs.Missing.{is_missing}

-- The rows below i lack the pairs that a rule joins, the others not yet.
pub record LackPairs (old new : List (List ℕ)) (rule : Kept) (i : ℕ) : Type 0 where
  pub square : Square new (length old)
  pub below : (s t : ℕ) → s < i → has (row new s) t ≡ (has (row old s) t && not (joins s t rule))
  pub above : (s : ℕ) → i ≤ s → row new s ≡ row old s

-- A rule has only types as sources.
pub source_inside : (count s : ℕ) (rule : Kept) → FitsRule count rule → has rule.sources s ≡ true → s < count
source_inside count s rule fits h = elim (cases_lt s count) [
  | inl lt ↦ lt
  | inr past ↦ absurd (true≢false (sym h ∙ fits.sources_past s past))
]

-- What is read at an index is there, whatever is read past the end.
here : {A : Type 0} (xs : List A) (i : ℕ) (x d : A) → i < length xs → x ≡ get_or xs i x → get_or xs i d ≡ x
here xs i x d lt is = get_or_from_slice_get xs i x d (slice_get_read xs (length xs) i x refl lt is)

lack_more : (old rows : List (List ℕ)) (rule : Kept) (from s : ℕ) (new : List ℕ) → s < length rows → from ≤ s
    → LackPairs old rows rule from
    → ((j : ℕ) → from ≤ j → j < s → has rule.sources j ≡ false) → length new ≡ length (row rows s)
    → ((t : ℕ) → has new t ≡ (has (row rows s) t && not (joins s t rule)))
    → LackPairs old (slice_set rows s new) rule (s + 1)
lack_more old rows rule from s new inside le so_far gap room removed = record {
  square = record {
    count = length-set rows s new ∙ so_far.square.count;
    room = λ j lt. elim (cases_eq j s) [
      | inl e ↦ rw (e, get_or-set_same rows s new [] inside) (room ∙ so_far.square.room s (rw e at lt))
      | inr other ↦ rw (get_or-set_other rows s j new [] other) (so_far.square.room j lt)
    ];
  };
  below = λ j t lt. elim (cases_eq j s) [
    | inl e ↦ rw (e, get_or-set_same rows s new [] inside, ← so_far.above s le) (removed t)
    | inr other ↦ rw (get_or-set_other rows s j new [] other) (elim (cases_lt j from) [
      | inl early ↦ so_far.below j t early
      | inr late ↦ rw (so_far.above j late, gap j late (omega (arith, lt, other))) (sym (and-true (has (row old j) t)))
    ])
  ];
  above = λ j past. rw (get_or-set_other rows s j new [] (λ e. omega (arith, e, past)))
      (so_far.above j (omega (arith, past, le)));
}

-- The same for a row that is read, and then written.
pub lack_next : (old rows : List (List ℕ)) (rule : Kept) (from s : ℕ) (read new : List ℕ) → s < length rows
    → read ≡ get_or rows s read → from ≤ s → LackPairs old rows rule from
    → ((j : ℕ) → from ≤ j → j < s → has rule.sources j ≡ false) → length new ≡ length read
    → ((t : ℕ) → has new t ≡ (has read t && not (joins s t rule)))
    → LackPairs old (slice_set rows s new) rule (s + 1)
lack_next old rows rule from s read new inside is le so_far gap room removed =
    let there : row rows s ≡ read = here rows s read [] inside is in
    lack_more old rows rule from s new inside le so_far gap (rw there room) (rw there removed)

-- There are rows of all pairs for the permissions below n.
pub record AreAll (count n : ℕ) (pairs : List (List (List ℕ))) : Type 0 where
  pub number : length pairs ≡ n
  pub square : (b : ℕ) → b < n → Square (matrix pairs b) count
  pub all : (b s t : ℕ) → b < n → s < count → t < count → is_missing pairs b s t ≡ true

pub all_none : (count : ℕ) → AreAll count 0 []
all_none count = record {
  number = refl;
  square = λ b lt. absurd (omega arith);
  all = λ b s t lt hs ht. absurd (omega arith);
}

one_more : (P : List (List ℕ) → Type 0) (pairs new : List (List (List ℕ))) (m : List (List ℕ)) (n : ℕ)
    → new ≡ pairs ++ m ∷ [] → length pairs ≡ n → P m → ((j : ℕ) → j < n → P (matrix pairs j))
    → (j : ℕ) → j < n + 1 → P (matrix new j)
one_more P pairs new m n is number here before j lt = rw is (elim (cases_lt j n) [
  | inl old ↦ (let inside : j < length pairs = omega arith in
      rw (get_or_append_left pairs (m ∷ []) [] j inside) (before j old))
  | inr end ↦ (let z : j - length pairs ≡ 0 = omega arith in
      rw (get_or-append_right pairs (m ∷ []) (length pairs) j [] refl (omega arith), z) here)
])

pub all_more : (count n : ℕ) (pairs new : List (List (List ℕ))) (m : List (List ℕ)) → new ≡ pairs ++ m ∷ []
    → Square m count → ((s t : ℕ) → s < count → t < count → has (row m s) t ≡ true)
    → AreAll count n pairs → AreAll count (n + 1) new
all_more count n pairs new m is square all before = record {
  number = rw is (length-append pairs (m ∷ []) ∙ omega (arith, before.number));
  square = one_more (λ rows. Square rows count) pairs new m n is before.number square before.square;
  all = λ b s t lt hs ht. one_more (λ rows. (s t : ℕ) → s < count → t < count → has (row rows s) t ≡ true) pairs new m n
      is before.number all (λ j in_it x y hx hy. before.all j x y in_it hx hy) b lt s t hs ht;
}

-- The rows of the permissions below n lack what a rule covers, the others not yet.
pub record LackBelow (old new : List (List (List ℕ))) (count n : ℕ) (rule : Kept) : Type 0 where
  pub number : length new ≡ 7
  pub square : AllSquare new count
  pub below : (b s t : ℕ) → b < n → s < count
      → is_missing new b s t ≡ (is_missing old b s t && not (covers b s t rule))
  pub above : (b : ℕ) → n ≤ b → matrix new b ≡ matrix old b

lack_perm : (old pairs : List (List (List ℕ))) (count n : ℕ) (rule : Kept) (new : List (List ℕ)) → n < 7
    → LackBelow old pairs count n rule → Square new count
    → ((s t : ℕ) → s < count → has (row new s) t ≡ (has (row (matrix pairs n) s) t && not (covers n s t rule)))
    → LackBelow old (slice_set pairs n new) count (n + 1) rule
lack_perm old pairs count n rule new low so_far square removed =
    let inside : n < length pairs = omega (arith, low, so_far.number) in
    record {
      number = length-set pairs n new ∙ so_far.number;
      square = record {
        each = λ b lt. elim (cases_eq b n) [
          | inl e ↦ rw (e, get_or-set_same pairs n new [] inside) square
          | inr other ↦ rw (get_or-set_other pairs n b new [] other) (so_far.square.each b lt)
        ];
      };
      below = λ b s t lt hs. elim (cases_eq b n) [
        | inl e ↦ rw (e, get_or-set_same pairs n new [] inside, ← so_far.above n (omega arith)) (removed s t hs)
        | inr other ↦ rw (get_or-set_other pairs n b new [] other) (so_far.below b s t (omega (arith, lt, other)) hs)
      ];
      above = λ b past. rw (get_or-set_other pairs n b new [] (λ e. omega (arith, e, past)))
          (so_far.above b (omega (arith, past)));
    }

pub perm_next : (old pairs : List (List (List ℕ))) (count n : ℕ) (rule : Kept) (read new : List (List ℕ)) → n < 7
    → read ≡ get_or pairs n read → LackBelow old pairs count n rule → Square new count
    → ((s t : ℕ) → s < count → has (row new s) t ≡ (has (row read s) t && not (covers n s t rule)))
    → LackBelow old (slice_set pairs n new) count (n + 1) rule
perm_next old pairs count n rule read new low is so_far square removed =
    let there : matrix pairs n ≡ read = here pairs n read [] (omega (arith, low, so_far.number)) is in
    lack_perm old pairs count n rule new low so_far square (rw there removed)
