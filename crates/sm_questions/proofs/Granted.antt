-- Two types without a permission have no lines.
use Rattle.std.proofs.Common.{◌≡◌, ◌∙◌, ◌&&◌, ℕ, suc, ◌+◌, ◌-◌, ◌<◌, ◌≤◌, List, [], ◌∷◌, ◌++◌, Option, Some, None}
use Rattle.std.proofs.Common.{IfSome, true, false}
use Rattle.std.proofs.Common.{nat_eq, get_or, length, take, map, refl, sym, ap, inl, inr, append_assoc, arith}
use Rattle.std.specs.List.{flat_map}
use Rattle.std.proofs.lemmas.List.{append-nil, get_or_default, get_or-map, get_or-take, length-map, length-take-le}
use Rattle.std.proofs.lemmas.List.{take_more}
use Rattle.std.proofs.lemmas.Grind.{flat_map-append}
use Rattle.std.proofs.lemmas.Nat.Bits.{bit_at-zero}
use Rattle.std.proofs.lemmas.Bool.{cases_eq, eqb-true, or_cases}
use Rattle.sm_bits.specs.Bits.{has_bit}
use Rattle.sm_rules.specs.Keeping.{class_at, perm_at}
use Rattle.sm_policy.specs.Policy.{Policy, allowed, type_index}
use Rattle.sm_policy.proofs.Looking.{named}
use Rattle.sm_types.specs.Names.{at}
use Rattle.sm_types.specs.Denoting.{types}
use Rattle.sm_questions.specs.Accesses.{access_line, perm_lines, pair_lines, perm_numbers}
use Rattle.sm_questions.specs.Differences.{is_lost, lost_pair, lost_perm}
use Rattle.sm_policy.specs.GrantedRow.{IsGranted, IsRow, granted}
use Rattle.sm_questions.specs.Granted.{LosesNothing, byte_for, is_kept}
use Rattle.sm_questions.specs.TypeNumbers.{AreNumbersIn}
use Rattle.sm_questions.specs.declared.type_numbers.TypeNumbers.{TypeNumbers}

no_bit : (b : ℕ) → has_bit 0 b ≡ false
unfolding has_bit
no_bit b = rw (bit_at-zero b) refl

-- A byte of 0 grants nothing.
nothing : (policy : Policy) (granted : ℕ) (s t : List ℕ) → granted ≡ 0 → IsGranted policy granted s t → (b : ℕ) → b < 7
    → allowed policy s t (class_at b) (perm_at b) ≡ false
nothing policy granted s t none is b lt = sym (is b lt) ∙ rw none (no_bit b)

no_lines : (f : ℕ → List ℕ) → ((b : ℕ) → b < 7 → f b ≡ []) → flat_map f perm_numbers ≡ []
no_lines f none =
    rw (
      none 0 (omega arith),
      none 1 (omega arith),
      none 2 (omega arith),
      none 3 (omega arith),
      none 4 (omega arith),
      none 5 (omega arith),
      none 6 (omega arith),
    ) refl

-- A permission that is asked for and granted has a line.
pub listed : (policy : Policy) (granted wanted : ℕ) (s t : List ℕ) (b : ℕ) → b < 7 → IsGranted policy granted s t
    → (has_bit wanted b && has_bit granted b) ≡ true → perm_lines policy wanted s t b ≡ access_line policy s t b
unfolding perm_lines
listed policy granted wanted s t b lt is both = rw (← is b lt, both) refl

pub unlisted : (policy : Policy) (granted wanted : ℕ) (s t : List ℕ) (b : ℕ) → b < 7 → IsGranted policy granted s t
    → (has_bit wanted b && has_bit granted b) ≡ false → perm_lines policy wanted s t b ≡ []
unfolding perm_lines
unlisted policy granted wanted s t b lt is other = rw (← is b lt, other) refl

pub no_pair : (policy : Policy) (granted wanted : ℕ) (s t : List ℕ) → granted ≡ 0 → IsGranted policy granted s t
    → pair_lines policy wanted s t ≡ []
unfolding pair_lines perm_lines
no_pair policy granted wanted s t none is =
    no_lines (perm_lines policy wanted s t) (λ b lt. grind (arith, nothing policy granted s t none is b lt))

pub none_lost : (sign : ℕ) (one other : Policy) (granted : ℕ) (s t : List ℕ) → granted ≡ 0 → IsGranted one granted s t
    → lost_pair sign one other s t ≡ []
unfolding lost_pair lost_perm is_lost
none_lost sign one other granted s t none is =
    no_lines (lost_perm sign one other s t) (λ b lt. grind (arith, nothing one granted s t none is b lt))

-- Both policies allow the source the same permissions on the target.
abbrev AllowsSame : Policy → Policy → List ℕ → List ℕ → Type 0
AllowsSame one other s t =
    (b : ℕ) → b < 7 → allowed one s t (class_at b) (perm_at b) ≡ allowed other s t (class_at b) (perm_at b)

-- Two policies with the same byte for two types allow the same on them.
same_byte : (one other : Policy) (granted : ℕ) (s t : List ℕ) {byte : ℕ} {s_there t_there : List ℕ}
    → granted ≡ byte → s_there ≡ s → t_there ≡ t → IsGranted one granted s t → IsGranted other byte s_there t_there
    → AllowsSame one other s t
same_byte one other granted s t {byte} {s_there} {t_there} same se te is is_there b lt =
    sym (is b lt) ∙ rw same (rw (se, te) at is_there b lt)

-- The number of a type in the other policy is that of the same name.
pub found_at : (one other : Policy) (i : ℕ) {n : ℕ} → i < length (types one.statements)
    → get_or (map (type_index other) (types one.statements)) i None ≡ Some n
    → (n < length (types other.statements)) × (at (types other.statements) n ≡ at (types one.statements) i)
found_at one other i {n} lt is =
    let here : type_index other (at (types one.statements) i) ≡ Some n =
    sym (get_or-map (type_index other) (types one.statements) i [] None lt) ∙ is in
    named other.statements (types other.statements) (at (types one.statements) i) n refl here

same_lost : (sign : ℕ) (one other : Policy) (s t : List ℕ) → AllowsSame one other s t
    → lost_pair sign one other s t ≡ []
unfolding lost_pair lost_perm is_lost
same_lost sign one other s t same = no_lines (lost_perm sign one other s t) (λ b lt. grind (arith, same b lt))

no_byte : (n : Option ℕ) → byte_for [] n ≡ 0
no_byte None = refl
no_byte (Some t) = refl

equal_lost : (sign : ℕ) (one other : Policy) (there : List ℕ) (byte s t : ℕ) (m n : Option ℕ)
    → s < length (types one.statements) → t < length (types one.statements)
    → IsGranted one byte (at (types one.statements) s) (at (types one.statements) t)
    → get_or (map (type_index other) (types one.statements)) s None ≡ m
    → get_or (map (type_index other) (types one.statements)) t None ≡ n
    → IfSome m (IsRow other there) → (m ≡ None → there ≡ []) → byte ≡ byte_for there n
    → lost_pair sign one other (at (types one.statements) s) (at (types one.statements) t) ≡ []
equal_lost sign one other there byte s t None n hs ht is em en row none same =
    none_lost sign one other byte (at (types one.statements) s) (at (types one.statements) t)
    (same ∙ rw (none refl) (no_byte n)) is
equal_lost sign one other there byte s t (Some k) None hs ht is em en row none same =
    none_lost sign one other byte (at (types one.statements) s) (at (types one.statements) t) same is
equal_lost sign one other there byte s t (Some k) (Some l) hs ht is em en row none same =
    let from = found_at one other s hs em in
    let to = found_at one other t ht en in
    same_lost sign one other (at (types one.statements) s) (at (types one.statements) t)
    (same_byte one other byte (at (types one.statements) s) (at (types one.statements) t) same from.1 to.1 is
    (row l to.0))

-- What is kept isn't lost.
pub kept_lost : (sign : ℕ) (one other : Policy) (here there : List ℕ) (s t : ℕ)
    → s < length (types one.statements) → t < length (types one.statements) → IsRow one here s
    → IfSome (get_or (map (type_index other) (types one.statements)) s None) (IsRow other there)
    → (get_or (map (type_index other) (types one.statements)) s None ≡ None → there ≡ [])
    → is_kept (get_or here t 0) (byte_for there (get_or (map (type_index other) (types one.statements)) t None)) ≡ true
    → lost_pair sign one other (at (types one.statements) s) (at (types one.statements) t) ≡ []
kept_lost sign one other here there s t hs ht is row none kept =
    let byte = get_or here t 0 in
    let numbers = map (type_index other) (types one.statements) in
    let same = byte_for there (get_or numbers t None) in
    elim (or_cases (nat_eq byte 0) (nat_eq byte same) kept) [
      | inl zero ↦ none_lost sign one other byte (at (types one.statements) s) (at (types one.statements) t)
          (eqb-true byte 0 zero) (is t ht)
      | inr equal ↦ equal_lost sign one other there byte s t (get_or numbers s None) (get_or numbers t None) hs ht
          (is t ht) refl refl row none (eqb-true byte same equal)
    ]

none_of : {A : Type 0} (f : A → List ℕ) (xs : List A) (d : A)
    → ((i : ℕ) → i < length xs → f (get_or xs i d) ≡ []) → flat_map f xs ≡ []
none_of f [] d none = refl
none_of f (x ∷ xs) d none =
    let here : f x ≡ [] = none 0 (omega arith) in
    let rest : flat_map f xs ≡ [] = none_of f xs d (λ i lt. none (suc i) (omega arith)) in
    rw (here, rest) refl

-- Types that have the same number in both policies, on which both grant the same.
pub nothing_lost : (sign : ℕ) (one other : Policy) (s theirs end : ℕ)
    → at (types other.statements) theirs ≡ at (types one.statements) s → end ≤ length (types one.statements)
    → ((t : ℕ) → t < end → at (types other.statements) t ≡ at (types one.statements) t)
    → ((t b : ℕ) → t < end → b < 7 → granted one s t b ≡ granted other theirs t b)
    → LosesNothing sign one other s end
nothing_lost sign one other s theirs end named within same alike =
    let names = types one.statements in
    none_of (lost_pair sign one other (at names s)) (take end names) [] (λ t lt.
    let short : t < end = omega (arith, lt, length-take-le end names within) in
    rw (get_or-take end names t [] short)
    (same_lost sign one other (at names s) (at names t) (λ b small.
    rw (named, same t short) at (alike t b short small))))

-- The types that have the same number in both policies are types of both.
pub same_types : (one other : Policy) (n : TypeNumbers) → AreNumbersIn one other n → (t : ℕ) → t < n.same
    → (t < length (types other.statements)) × (at (types other.statements) t ≡ at (types one.statements) t)
same_types one other n are t lt =
    found_at one other t (omega (arith, lt, are.within)) (rw are.numbers at (are.same t lt))

pub same_within : (one other : Policy) (n : TypeNumbers) → AreNumbersIn one other n
    → n.same ≤ length (types other.statements)
same_within one other n are = elim (cases_eq n.same 0) [
  | inl none ↦ omega (arith, none)
  | inr some ↦ (let last = same_types one other n are (n.same - 1) (omega (arith, some)) in omega (arith, last.0, some))
]

-- The lines of one more target are appended to what is held.
pub lost_next : {held next : List ℕ} (f : List ℕ → List ℕ) (names : List (List ℕ)) (t : ℕ) (first : List ℕ)
    → t < length names → held ≡ first ++ flat_map f (take t names) → next ≡ held ++ f (at names t)
    → next ≡ first ++ flat_map f (take (t + 1) names)
lost_next {held} {next} f names t first lt p q =
    q ∙ rw (
      p,
      take_more names t [] lt,
      flat_map-append f (take t names) (at names t ∷ []),
      append-nil (f (at names t)),
      append_assoc,
    ) refl

-- A number that was read is that of the same type.
pub source_found : (one other : Policy) (n : TypeNumbers) → AreNumbersIn one other n → (s : ℕ) {read : Option ℕ}
    {theirs : ℕ} → s < length (types one.statements) → read ≡ get_or n.numbers.items s read → read ≡ Some theirs
    → (theirs < length (types other.statements)) × (at (types other.statements) theirs ≡ at (types one.statements) s)
source_found one other n are s {read} {theirs} lt is some =
    let names = types one.statements in
    let inside : s < length n.numbers.items =
    omega (arith, lt, ap length are.numbers, length-map names (type_index other)) in
    found_at one other s lt (rw are.numbers at (sym (is ∙ get_or_default n.numbers.items s read None inside) ∙ some))
