-- A table of lines, as their counts.
use Rattle.std.proofs.Common.{◌≡◌, ℕ, zero, suc, ◌+◌, ◌≤◌, ◌<◌, Bool, true, false, cond, List, [], ◌∷◌, ◌++◌, map}
use Rattle.std.proofs.Common.{Some, refl, ap, ◌∙◌, length, take, get_or, slice_get, arith}
use Rattle.std.specs.Prelude.{unwrap_or}
use Rattle.std.specs.List.{flat_map}
use Rattle.std.specs.Str.{bytes_eq}
use Rattle.std.specs.Map.{lookup}
use Rattle.std.specs.Global.{Vec}
use Rattle.std.proofs.lemmas.Grind.{flat_map-append}
use Rattle.std.proofs.lemmas.List.{append-nil, take_more}
use Rattle.indexmap.specs.IndexMap.{insert_entry}
use Rattle.sm_suggestions.specs.Tallying.{Count, count_line, count_of, counted, counted_all, line_at, times_in, total}

abbrev pub holds : List ℕ → Vec ℕ → Bool
holds line k = bytes_eq line k.items

abbrev pub same : Vec ℕ → Vec ℕ → Bool
same x y = bytes_eq x.items y.items

-- A line that is inserted with one more than its number is counted.
pub inserted : (line : Vec ℕ) (n : ℕ) (es : List (Vec ℕ × ℕ)) → n ≡ times_in line.items (map count_of es)
    → map count_of (insert_entry same es line (n + 1)) ≡ counted (map count_of es) line.items
inserted line n [] e = rw e refl
inserted line n (x ∷ es) e = by (bytes_eq line.items x.0.items) e (inserted line n es) where
  by : (b : Bool) → n ≡ cond b x.1 (times_in line.items (map count_of es))
      → (n ≡ times_in line.items (map count_of es)
      → map count_of (insert_entry same es line (n + 1)) ≡ counted (map count_of es) line.items)
      → map count_of (cond b ((x.0, n + 1) ∷ es) (x ∷ insert_entry same es line (n + 1)))
      ≡ cond b (record { line = x.0.items; times = x.1 + 1 } ∷ map count_of es)
      (count_of x ∷ counted (map count_of es) line.items)
  by true h rest = rw h refl
  by false h rest = ap (λ (cs : List Count). count_of x ∷ cs) (rest h)

-- The table has the number of each line.
pub looked_up : (line : List ℕ) (es : List (Vec ℕ × ℕ))
    → unwrap_or (lookup (holds line) es) 0 ≡ times_in line (map count_of es)
looked_up line [] = refl
looked_up line (x ∷ es) = by (bytes_eq line x.0.items) (looked_up line es) where
  by : (b : Bool) → unwrap_or (lookup (holds line) es) 0 ≡ times_in line (map count_of es)
      → unwrap_or (cond b (Some x.1) (lookup (holds line) es)) 0 ≡ cond b x.1 (times_in line (map count_of es))
  by true rest = refl
  by false rest = rest

-- No number is above that of all lines.
pub times_within : (line : List ℕ) (cs : List Count) → times_in line cs ≤ total cs
times_within line [] = omega arith
times_within line (c ∷ cs) = by (bytes_eq line c.line) (times_within line cs) where
  by : (b : Bool) → times_in line cs ≤ total cs → cond b c.times (times_in line cs) ≤ c.times + total cs
  by true rest = omega arith
  by false rest = omega arith

-- A line that is counted is one more.
pub total_once : (cs : List Count) (line : List ℕ) → total (counted cs line) ≡ total cs + 1
total_once [] line = refl
total_once (c ∷ cs) line = by (bytes_eq line c.line) (total_once cs line) where
  by : (b : Bool) → total (counted cs line) ≡ total cs + 1
      → total (cond b (record { line = c.line; times = c.times + 1 } ∷ cs) (c ∷ counted cs line))
      ≡ c.times + total cs + 1
  by true rest = omega arith
  by false rest = omega arith

-- The number of all lines grows by those that are counted.
pub total_all : (cs : List Count) (lines : List (List ℕ)) → total (counted_all cs lines) ≡ total cs + length lines
total_all cs [] = omega arith
total_all cs (line ∷ lines) = omega (arith, total_all (counted cs line) lines, total_once cs line)

-- Lines and further lines are counted one after the other.
pub counted_append : (cs : List Count) (first second : List (List ℕ))
    → counted_all cs (first ++ second) ≡ counted_all (counted_all cs first) second
counted_append cs [] second = refl
counted_append cs (line ∷ lines) second = counted_append (counted cs line) lines second

-- The line of an entry in the table.
pub line_there : (es : List (Vec ℕ × ℕ)) (cs : List Count) (i : ℕ) (e : Vec ℕ × ℕ) → map count_of es ≡ cs
    → Some e ≡ slice_get es i → count_line (count_of e) ≡ line_at cs i
line_there [] cs i e same there = absurd (cc there)
line_there (x ∷ es) cs zero e same there =
    let is : e ≡ x = cc there in rw (← same, is) refl
line_there (x ∷ es) cs (suc i) e same there =
    rw (← same) (line_there es (map count_of es) i e refl there)

-- One more line is written.
pub lines_step : (cs : List Count) (i : ℕ) (old new : List ℕ) → i < length cs
    → old ≡ flat_map count_line (take i cs) → new ≡ old ++ line_at cs i
    → new ≡ flat_map count_line (take (i + 1) cs)
lines_step cs i old new lt was is =
    is ∙ rw (
      was,
      take_more cs i (record { line = []; times = 0 }) lt,
      flat_map-append count_line (take i cs) (get_or cs i (record { line = []; times = 0 }) ∷ []),
      append-nil (line_at cs i),
    ) refl
