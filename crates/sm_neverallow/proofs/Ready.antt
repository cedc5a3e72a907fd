-- The unions of some groups of rows, one more.
use Rattle.std.proofs.Common.{◌≡◌, ℕ, ◌+◌, ◌*◌, ◌/◌, ◌<◌, false, List, [], ◌∷◌, ◌++◌, length, refl, arith, lit<}
use Rattle.sm_bits.specs.Bits.{has, row}
use Rattle.sm_matrices.specs.Uniting.{AreWide, Unites}
use Rattle.sm_matrices.proofs.Doubling.{unites_first}
use Rattle.sm_matrices.proofs.Rows.{one_more_matrix, more_matrices}
use Rattle.sm_neverallow.specs.Hitting.{AreReady, AllUnite}

-- The unions of n groups.
pub record Ready (rows : List (List ℕ)) (count first n : ℕ) (all : List (List (List ℕ))) : Type 0 where
  pub number : length all ≡ n
  pub ready : AreReady count all
  pub united : AllUnite rows first all

pub ready_none : (rows : List (List ℕ)) (count first : ℕ) → Ready rows count first 0 []
ready_none rows count first = record {
  number = refl;
  ready = record {
    number = λ j h. absurd (omega arith);
    wide = λ j h. absurd (omega arith);
    none =
        λ j t h. absurd (omega arith);
  };
  united = record { each = λ j h. absurd (omega arith) };
}

pub ready_more : (rows : List (List ℕ)) (count first n : ℕ) (ms new : List (List (List ℕ))) (m : List (List ℕ))
    → new ≡ ms ++ m ∷ [] → AreWide (count / 64 + 1) m
    → Unites rows (8 * (first + n)) 8 m → Ready rows count first n ms → Ready rows count first (n + 1) new
ready_more rows count first n ms new m is wide united before =
    let more = more_matrices ms new m n is before.number in
    let number = one_more_matrix (λ j u. length u ≡ 256) ms new m n is before.number united.number
    (λ j h. before.ready.number j (omega (arith, before.number))) in
    let wides = one_more_matrix (λ j u. AreWide (count / 64 + 1) u) ms new m n is before.number wide
    (λ j h. before.ready.wide j (omega (arith, before.number))) in
    let none = one_more_matrix (λ j u. (t : ℕ) → has (row u 0) t ≡ false) ms new m n is before.number
    (λ t. unites_first rows (8 * (first + n)) 8 m t (lit< tt) united)
    (λ j h t. before.ready.none j t (omega (arith, before.number))) in
    record {
      number = more;
      ready = record {
        number = λ j h. number j (omega arith);
        wide = λ j h. wides j (omega arith);
        none = λ j t h. none j (omega arith) t;
      };
      united = record {
        each = λ j h. one_more_matrix (λ j u. Unites rows (8 * (first + j)) 8 u) ms new m n is before.number united
            (λ i l. before.united.each i (omega (arith, before.number))) j (omega arith);
      };
    }
