-- Numbers and their decimal texts.
use Rattle.std.proofs.Common.{◌≡◌, ◌≢◌, ℕ, suc, ◌+◌, ◌-◌, ◌*◌, ◌^◌, ◌<◌, ◌≤◌, Bool, true, false, ◌&&◌, if◌then◌else◌}
use Rattle.std.proofs.Common.{nat_le, ◌==◌, zero, List, [], ◌∷◌, length, get_or, Option, Some, None, refl, sym, ◌∙◌, ap}
use Rattle.std.proofs.Common.{subst, arith, inl, inr}
use Rattle.std.proofs.lemmas.Bool.Decides.{nat_tests}
use Rattle.std.proofs.lemmas.Bool.{cases_eq}
use Rattle.std.proofs.lemmas.Str.{digit_value_digit}
use Rattle.std.proofs.lemmas.Str.Parse.{numerals_by_value, tells_digits, digit_from_value}
use Rattle.std.proofs.lemmas.Fmt.{decimal_is_IsNumeral, decimal-digits_value, first_decimal}
use Rattle.std.specs.Char.{is_ascii_digit, digit_value}
use Rattle.std.specs.Int.{IsInRange}
use Rattle.std.specs.Fmt.{decimal}
use Rattle.std.specs.Str.Parse.{AllDigits, digits_value, digits_value_after}
use Rattle.sm_wire.specs.Number.{parsed_number, digits_after}

if_some : {A : Type 0} (t : Bool) (x : Option A) (y : A) → (if t then x else None) ≡ Some y → (t ≡ true) × (x ≡ Some y)
if_some true x y e = (refl, e)
if_some false x y e = cc

tested : (b v max : ℕ) → (is_ascii_digit b && nat_le v max) ≡ true → IsInRange 48 57 b × (v ≤ max)
tested b v max e = grind (arith, nat_tests)

tests : (b v max : ℕ) → IsInRange 48 57 b → v ≤ max → (is_ascii_digit b && nat_le v max) ≡ true
tests b v max r le = grind (arith, nat_tests)

-- What is read are digits, and the number that they write.
said : (max n m : ℕ) (bs : List ℕ) → n ≤ max → digits_after max n bs ≡ Some m → AllDigits 10 bs
    × (digits_value_after 10 n bs ≡ m) × (m ≤ max)
said max n m [] le e = let same : n ≡ m = cc in (tt, same, omega arith)
said max n m (b ∷ bs) le e =
    let t = if_some (is_ascii_digit b && nat_le (10 * n + (b - 48)) max)
    (digits_after max (10 * n + (b - 48)) bs) m e in
    let d = tested b (10 * n + (b - 48)) max t.0 in
    let rest = said max (10 * n + (b - 48)) m bs d.1 t.1 in
    let next : 10 * n + (b - 48) ≡ n * 10 + digit_value b = omega (arith, digit_value_digit b d.0) in
    ((omega (arith, digit_value_digit b d.0), rest.0), rw (← next) rest.1, rest.2)

-- More digits write no smaller number.
grows : (n : ℕ) (bs : List ℕ) → n ≤ digits_value_after 10 n bs
grows n [] = omega arith
grows n (b ∷ bs) = omega (arith, grows (n * 10 + digit_value b) bs)

-- Digits whose number is at most max are read.
heard : (max n : ℕ) (bs : List ℕ) → AllDigits 10 bs → digits_value_after 10 n bs ≤ max
    → digits_after max n bs ≡ Some (digits_value_after 10 n bs)
heard max n [] d le = refl
heard max n (b ∷ bs) d le =
    let k = digit_from_value b d.0 in
    let next : n * 10 + digit_value b ≡ 10 * n + (b - 48) = omega (arith, digit_value_digit b k) in
    let rest = heard max (n * 10 + digit_value b) bs d.1 le in
    let t = tests b (10 * n + (b - 48)) max k (omega (arith, grows (n * 10 + digit_value b) bs)) in
    rw (t, ← next) rest

-- Digits without a leading zero that write n, at most max.
whole : (max n b : ℕ) (bs : List ℕ) → max < 2 ^ 64 → b ≢ 48 → digits_after max 0 (b ∷ bs) ≡ Some n
    → (b ∷ bs ≡ decimal n) × (n ≤ max)
whole max n b bs small ne e =
    let s = said max 0 n (b ∷ bs) (omega arith) e in
    let v : digits_value 10 (b ∷ bs) ≡ n = s.1 in
    let t = decimal-digits_value (numerals_by_value _ tells_digits) (b ∷ bs) s.0 (omega arith) (λ h. absurd (ne h))
    (omega (arith, v)) in
    (sym (subst (λ m. decimal m ≡ b ∷ bs) v t), s.2)

is_zero : {A : Type 0} (b : ℕ) (x y : A) → b ≡ 48 → (if b == 48 then x else y) ≡ x
is_zero b x y e = rw e refl

is_no_zero : {A : Type 0} (b : ℕ) (x y : A) → b ≢ 48 → (if b == 48 then x else y) ≡ y
is_no_zero b x y ne = grind (arith, nat_tests)

decimal_zero : decimal 0 ≡ 48 ∷ []
decimal_zero = decimal-digits_value (numerals_by_value _ tells_digits) (48 ∷ []) (omega arith, tt) (omega arith)
    (λ h. refl) (omega arith)

pub one_number : (max n : ℕ) (text : List ℕ) → max < 2 ^ 64 → parsed_number max text ≡ Some n → (text ≡ decimal n)
    × (n ≤ max)
one_number max n [] small e = cc
one_number max n (b ∷ []) small e = elim (cases_eq b 48) [
  | inl z ↦ let k : 0 ≡ n = cc (is_zero b (Some 0) (digits_after max 0 (b ∷ [])) z, e) in
      rw (z, ← k) (sym decimal_zero, omega arith)
  | inr ne ↦ whole max n b [] small ne (sym (is_no_zero b (Some 0) (digits_after max 0 (b ∷ [])) ne) ∙ e)
]
one_number max n (b ∷ c ∷ bs) small e = elim (cases_eq b 48) [
  | inl z ↦ let k : None ≡ Some n = sym (is_zero b None (digits_after max 0 (b ∷ c ∷ bs)) z) ∙ e in cc
  | inr ne ↦ whole max n b (c ∷ bs) small ne (sym (is_no_zero b None (digits_after max 0 (b ∷ c ∷ bs)) ne) ∙ e)
]

-- Digits without a leading zero that write at most max are read.
unread : (max : ℕ) (ds : List ℕ) → AllDigits 10 ds → 0 < length ds → (get_or ds 0 0 ≡ 48 → length ds ≡ 1)
    → digits_value 10 ds ≤ max → parsed_number max ds ≡ Some (digits_value 10 ds)
unread max [] d some lead le = absurd (omega arith)
unread max (b ∷ []) d some lead le = elim (cases_eq b 48) [
  | inl z ↦ rw z refl
  | inr ne ↦ is_no_zero b (Some 0) (digits_after max 0 (b ∷ [])) ne ∙ heard max 0 (b ∷ []) d le
]
unread max (b ∷ c ∷ bs) d some lead le =
    let ne : b ≢ 48 = λ z. omega (arith, lead z) in
    is_no_zero b None (digits_after max 0 (b ∷ c ∷ bs)) ne ∙ heard max 0 (b ∷ c ∷ bs) d le

pub its_spelling : (max n : ℕ) → max < 2 ^ 64 → n ≤ max → parsed_number max (decimal n) ≡ Some n
its_spelling max n small le =
    let k = decimal_is_IsNumeral n (omega arith) in
    let lead : get_or (decimal n) 0 0 ≡ 48 → length (decimal n) ≡ 1 = leads n (omega arith) in
    let u = unread max (decimal n) k.0.1 k.0.0 lead (omega (arith, k.1)) in
    subst (λ m. parsed_number max (decimal n) ≡ Some m) k.1 u
  where
    leads : (n : ℕ) → n < 2 ^ 64 → get_or (decimal n) 0 0 ≡ 48 → length (decimal n) ≡ 1
    leads zero small e = ap length decimal_zero
    leads (suc n) small e = absurd (omega (arith, first_decimal (suc n) (omega arith) small))
