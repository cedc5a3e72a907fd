-- What is written as a context is read as one, and what is read as a context is written so.
use Rattle.std.proofs.Common.{◌≡◌, ◌≢◌, ℕ, ◌+◌, ◌<◌, ◌==◌, ◌⊎◌, inl, inr, Bool, true, false, not, ◌||◌, List, [], ◌∷◌}
use Rattle.std.proofs.Common.{◌++◌, length, drop, Option, Some, None, if◌then◌else◌, refl, sym, ap, subst, ◌∙◌, arith}
use Rattle.std.proofs.Common.{append_assoc, length-append}
use Rattle.std.specs.Int.{IsInRange}
use Rattle.std.specs.List.{AllByRecursion, list_all, prefix_len}
use Rattle.std.proofs.Math.Seq.{drop-append_seam}
use Rattle.std.proofs.lemmas.Bool.{cases_eq, and_parts}
use Rattle.std.proofs.lemmas.Bool.Decides.{nat_tests}
use Rattle.std.proofs.lemmas.Option.{same_Some, none-some}
use Rattle.sm_values.specs.Contexts.{is_graphic, is_in_part, is_context, is_type_and_range, ends_well, ends_behind_role}
use Rattle.sm_values.specs.Contexts.{after_part}
use Rattle.sm_wire.specs.FieldSpelling.{IsPart, IsContext}
use Rattle.sm_wire.proofs.SpellingLemmasFields.{graphic_all, all_graphic}

-- ---- lists

module _ {X : Type 0} (P : X → Type 0) where
  all_joined : (xs ys : List X) → AllByRecursion P xs → AllByRecursion P ys → AllByRecursion P (xs ++ ys)
  all_joined [] ys h k = k
  all_joined (x ∷ xs) ys h k = (h.0, all_joined xs ys h.1 k)

  all_front : (xs ys : List X) → AllByRecursion P (xs ++ ys) → AllByRecursion P xs
  all_front [] ys h = tt
  all_front (x ∷ xs) ys h = (h.0, all_front xs ys h.1)

  all_back : (xs ys : List X) → AllByRecursion P (xs ++ ys) → AllByRecursion P ys
  all_back [] ys h = h
  all_back (x ∷ xs) ys h = all_back xs ys h.1

-- ---- parts

abbrev NoColon : List ℕ → Type 0
NoColon bytes = AllByRecursion (λ b. b ≢ 58) bytes

in_part : (b : ℕ) → b ≢ 58 → is_in_part b ≡ true
in_part b ne = grind (arith, nat_tests)

part_length : (part rest : List ℕ) → NoColon part → prefix_len is_in_part (part ++ 58 ∷ rest) ≡ length part
part_length [] rest h = refl
part_length (b ∷ bs) rest h = rw (in_part b h.0, part_length bs rest h.1) (omega arith)

whole_length : (part : List ℕ) → NoColon part → prefix_len is_in_part part ≡ length part
whole_length [] h = refl
whole_length (b ∷ bs) h = rw (in_part b h.0, whole_length bs h.1) (omega arith)

-- A first part and its colon, with the bytes after them.
record Front (bytes : List ℕ) : Type 0 where
  part : List ℕ
  rest : List ℕ
  parts : bytes ≡ part ++ 58 ∷ rest
  plain : NoColon part

-- There is a colon, or none.
cut : (bytes : List ℕ) → NoColon bytes ⊎ Front bytes
cut [] = inl tt
cut (b ∷ bs) = elim (cases_eq b 58) [
  | inl is ↦ inr (record { part = []; rest = bs; parts = ap (λ c. c ∷ bs) is; plain = tt })
  | inr ne ↦ elim (cut bs) [
    | inl h ↦ inl (ne, h)
    | inr f ↦ inr (record {
      part = b ∷ f.part;
      rest = f.rest;
      parts = ap (λ l. b ∷ l) f.parts;
      plain = (ne, f.plain);
    })
  ]
]

-- The bytes after a part.
behind : (part rest : List ℕ) → drop (length part + 1) (part ++ 58 ∷ rest) ≡ rest
behind part rest =
    let whole : (part ++ 58 ∷ []) ++ rest ≡ part ++ 58 ∷ rest = append_assoc part (58 ∷ []) rest in
    let len : length (part ++ 58 ∷ []) ≡ length part + 1 = length-append part (58 ∷ []) in
    subst (λ n. drop n (part ++ 58 ∷ rest) ≡ rest) len
    (subst (λ l. drop (length (part ++ 58 ∷ [])) l ≡ rest) whole (drop-append_seam (part ++ 58 ∷ []) rest))

after_front : (part rest : List ℕ) → 0 < length part → NoColon part → after_part (part ++ 58 ∷ rest) ≡ Some rest
after_front part rest some plain =
    let bytes = part ++ 58 ∷ rest in
    let n : prefix_len is_in_part bytes ≡ length part = part_length part rest plain in
    let k : length bytes ≡ length part + (1 + length rest) = omega (arith, length-append part (58 ∷ rest)) in
    let inside : (length part == 0 || length part == length bytes) ≡ false = grind (arith, nat_tests, k) in
    rw (n, inside, behind part rest) refl

stopped : {A : Type 0} (t : Bool) (x : Option A) (y : A) → (if t then None else x) ≡ Some y → (t ≡ false) × (x ≡ Some y)
stopped true x y e = absurd (none-some y e)
stopped false x y e = (refl, e)

neither : (a b : Bool) → (a || b) ≡ false → (a ≡ false) × (b ≡ false)
neither true b e = absurd cc
neither false b e = (refl, e)

-- A part that isn't empty, its colon, and the rest.
record Behind (bytes rest : List ℕ) : Type 0 where
  part : List ℕ
  parts : bytes ≡ part ++ 58 ∷ rest
  plain : NoColon part
  some : 0 < length part

front_after : (bytes rest : List ℕ) → after_part bytes ≡ Some rest → Behind bytes rest
front_after bytes rest e =
    let n = prefix_len is_in_part bytes in
    let t = stopped (n == 0 || n == length bytes) (Some (drop (n + 1) bytes)) rest e in
    let u = neither (n == 0) (n == length bytes) t.0 in
    elim (cut bytes) [
      | inl h ↦ absurd (grind (arith, nat_tests, u.1, whole_length bytes h))
      | inr f ↦
          let k : n ≡ length f.part =
          ap (λ l. prefix_len is_in_part l) f.parts ∙ part_length f.part f.rest f.plain in
          let some : 0 < length f.part = grind (arith, nat_tests, k, u.0) in
          let same : f.rest ≡ rest = same_Some f.rest rest
          (sym (after_front f.part f.rest some f.plain) ∙ sym (ap after_part f.parts) ∙ e) in
          record {
            part = f.part;
            parts = f.parts ∙ ap (λ l. f.part ++ 58 ∷ l) same;
            plain = f.plain;
            some = some;
          }
    ]

-- ---- the last parts

type_alone : (type : List ℕ) → IsPart type → is_type_and_range type ≡ true
type_alone type h =
    let n : prefix_len is_in_part type ≡ length type = whole_length type h.2 in
    grind (arith, nat_tests, n, h.0)

type_then : (type range : List ℕ) → IsPart type → 0 < length range → is_type_and_range (type ++ 58 ∷ range) ≡ true
type_then type range h some =
    let bytes = type ++ 58 ∷ range in
    let n : prefix_len is_in_part bytes ≡ length type = part_length type range h.2 in
    let k : length bytes ≡ length type + (1 + length range) = omega (arith, length-append type (58 ∷ range)) in
    grind (arith, nat_tests, n, h.0, k, some)

-- A type, and a range or none.
abbrev EndsSo : List ℕ → Type 0
EndsSo bytes = ((0 < length bytes) × NoColon bytes)
    ⊎ ((type range : List ℕ) × (bytes ≡ type ++ 58 ∷ range) × (0 < length type) × NoColon type × (0 < length range))

ends_so : (bytes : List ℕ) → is_type_and_range bytes ≡ true → EndsSo bytes
ends_so bytes e =
    let n = prefix_len is_in_part bytes in
    let t = and_parts (not (n == 0)) (not (n + 1 == length bytes)) e in
    let some : 0 < n = grind (arith, nat_tests, t.0) in
    let ne : n + 1 ≢ length bytes = λ e. grind (arith, nat_tests, t.1) in
    elim (cut bytes) [
      | inl h ↦ inl (subst (λ m. 0 < m) (whole_length bytes h) some, h)
      | inr f ↦
          let k : n ≡ length f.part =
          ap (λ l. prefix_len is_in_part l) f.parts ∙ part_length f.part f.rest f.plain in
          let all : length bytes ≡ length f.part + (1 + length f.rest) =
          ap length f.parts ∙ length-append f.part (58 ∷ f.rest) ∙ omega arith in
          inr (
            f.part,
            f.rest,
            f.parts,
            subst (λ m. 0 < m) k some,
            f.plain,
            filled (length f.part) n (length bytes) (length f.rest) k all ne,
          )
    ]
  where
    filled : (p n k r : ℕ) → n ≡ p → k ≡ p + (1 + r) → n + 1 ≢ k → 0 < r
    filled p n k r is all ne = grind arith

-- ---- contexts

colon_graphic : IsInRange 33 126 58
colon_graphic = (omega arith, omega arith)

-- Graphic parts with a colon between them.
graphic_parts : (part rest : List ℕ) → AllByRecursion (IsInRange 33 126) part → AllByRecursion (IsInRange 33 126) rest
    → AllByRecursion (IsInRange 33 126) (part ++ 58 ∷ rest)
graphic_parts part rest h k = all_joined (IsInRange 33 126) part (58 ∷ rest) h (colon_graphic, k)

reads_so : (user role last : List ℕ) → IsPart user → IsPart role → is_type_and_range last ≡ true
    → AllByRecursion (IsInRange 33 126) last → is_context (user ++ 58 ∷ (role ++ 58 ∷ last)) ≡ true
unfolding is_context
reads_so user role last u r e graphic =
    let text = user ++ 58 ∷ (role ++ 58 ∷ last) in
    let g : list_all is_graphic text ≡ true =
    all_graphic text (graphic_parts user (role ++ 58 ∷ last) u.1 (graphic_parts role last r.1 graphic)) in
    rw (g, after_front user (role ++ 58 ∷ last) u.0 u.2, after_front role last r.0 r.2) e

pub context_judged : (text : List ℕ) → IsContext text → is_context text ≡ true
context_judged _ (IsContext.three user role type u r t) = reads_so user role type u r (type_alone type t) t.1
context_judged _ (IsContext.four user role type range u r t some g) =
    reads_so user role (type ++ 58 ∷ range) u r (type_then type range t some) (graphic_parts type range t.1 g)

ends_some : (o : Option (List ℕ)) → ends_well o ≡ true → (last : List ℕ) × (o ≡ Some last)
    × (is_type_and_range last ≡ true)
ends_some None e = absurd cc
ends_some (Some last) e = (last, refl, e)

role_some : (o : Option (List ℕ)) → ends_behind_role o ≡ true → (rest : List ℕ) × (o ≡ Some rest)
    × (ends_well (after_part rest) ≡ true)
role_some None e = absurd cc
role_some (Some rest) e = (rest, refl, e)

-- A user and a role, and then a type with or without a range.
last_parts : (user role last : List ℕ) → IsPart user → IsPart role → EndsSo last
    → AllByRecursion (IsInRange 33 126) last → IsContext (user ++ 58 ∷ (role ++ 58 ∷ last))
last_parts user role last u r (inl h) g = IsContext.three user role last u r (h.0, g, h.1)
last_parts user role last u r (inr h) g =
    let k : AllByRecursion (IsInRange 33 126) (h.0 ++ 58 ∷ h.1) =
    subst (λ l. AllByRecursion (IsInRange 33 126) l) h.2 g in
    let t : IsPart h.0 = (h.3, all_front (IsInRange 33 126) h.0 (58 ∷ h.1) k, h.4) in
    let range = all_back (IsInRange 33 126) h.0 (58 ∷ h.1) k in
    subst (λ l. IsContext (user ++ 58 ∷ (role ++ 58 ∷ l))) (sym h.2)
    (IsContext.four user role h.0 h.1 u r t h.5 range.1)

pub context_written : (text : List ℕ) → is_context text ≡ true → IsContext text
unfolding is_context
context_written text e =
    let t = and_parts (list_all is_graphic text) (ends_behind_role (after_part text)) e in
    let r = role_some (after_part text) t.1 in
    let l = ends_some (after_part r.0) r.2 in
    let b = front_after text r.0 r.1 in
    let c = front_after r.0 l.0 l.1 in
    let whole : text ≡ b.part ++ 58 ∷ (c.part ++ 58 ∷ l.0) = b.parts ∙ ap (λ x. b.part ++ 58 ∷ x) c.parts in
    let g : AllByRecursion (IsInRange 33 126) (b.part ++ 58 ∷ (c.part ++ 58 ∷ l.0)) =
    subst (λ x. AllByRecursion (IsInRange 33 126) x) whole (graphic_all text t.0) in
    let h = all_back (IsInRange 33 126) b.part (58 ∷ (c.part ++ 58 ∷ l.0)) g in
    let k = all_back (IsInRange 33 126) c.part (58 ∷ l.0) h.1 in
    let user : IsPart b.part = (b.some, all_front (IsInRange 33 126) b.part (58 ∷ (c.part ++ 58 ∷ l.0)) g, b.plain) in
    let role : IsPart c.part = (c.some, all_front (IsInRange 33 126) c.part (58 ∷ l.0) h.1, c.plain) in
    subst IsContext (sym whole) (last_parts b.part c.part l.0 user role (ends_so l.0 l.2) k.1)
