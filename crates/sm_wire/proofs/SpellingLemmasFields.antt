-- What spells a value is read as it, and what is read is spelled so.
use Rattle.std.proofs.Common.{◌≡◌, ◌≢◌, ℕ, ◌+◌, ◌-◌, ◌*◌, ◌^◌, ◌<◌, ◌≤◌, ◌%◌, ◌⊎◌, inl, inr, Bool, true, false, ◌&&◌}
use Rattle.std.proofs.Common.{not, ◌==◌, nat_le, if◌then◌else◌, List, [], ◌∷◌, ◌++◌, length, Option, Some, None}
use Rattle.std.proofs.Common.{Result, Ok, Err, refl, sym, ap, subst, ◌∙◌, arith, true≢false}
use Rattle.std.specs.Prelude.{option_and_then, codes, IsTrue}
use Rattle.std.specs.Char.{is_ascii_alphabetic}
use Rattle.std.specs.Fmt.{decimal}
use Rattle.std.specs.Int.{IsInRange}
use Rattle.std.specs.List.{AllByRecursion, list_all}
use Rattle.std.specs.Result.{result_ok}
use Rattle.std.specs.Str.{bytes_eq}
use Rattle.std.specs.Str.Parse.{AllDigits}
use Rattle.std.proofs.lemmas.Bool.{cases_eq, and_parts, not-true}
use Rattle.std.proofs.lemmas.Bool.Decides.{nat_tests}
use Rattle.std.proofs.lemmas.Fmt.{decimal_is_IsNumeral}
use Rattle.std.proofs.lemmas.Option.{same_Some, none-some}
use Rattle.std.proofs.lemmas.Slice.Eq.{bytes_eq-Decides}
use Rattle.std.proofs.lemmas.Str.Parse.{digit_from_value}
use Rattle.hex.specs.Hex.{decode_of, decode_pairs, hex_digit_value, pair_value, value_at, digit_or_error}
use Rattle.hex.specs.declared.error.FromHexError.{FromHexError}
use Rattle.hex.specs.declared.error.FromHexError.TheVariants.{OddLength}
use Rattle.hex.specs.Hex as hexes
use Rattle.hex.proofs.HexLemmas.{decode_of-even}
use Rattle.sm_values.specs.declared.limits.TheConstants.{MOST_PAYLOAD_BYTES, MOST_REFS}
use Rattle.sm_values.specs.declared.number.ObjRef.{ObjRef}
use Rattle.sm_values.specs.declared.number.ObjRef.TheVariants.{Own, Handle, Null}
use Rattle.sm_values.specs.Contexts.{is_graphic, is_context, ends_behind_role, after_part}
use Rattle.sm_ruletext.specs.Lexing.{is_word, is_word_byte}
use Rattle.sm_wire.specs.Number.{u32_max, u64_max, parsed_number}
use Rattle.sm_wire.specs.Values.{plain_name_of, name_of, reference_of, own_object_of, own_number, references_of}
use Rattle.sm_wire.specs.Values.{fitting_references, fitting_payload}
use Rattle.sm_wire.specs.Values.{call_references_of, hex_payload_of, payload_of, flag_of, context_of, word_of, perm_of}
use Rattle.sm_wire.specs.FieldSpelling.{SpellsNumber, SpellsDigit, SpellsBytes, SpellsName, SpellsReference}
use Rattle.sm_wire.specs.FieldSpelling.{SpellsReferences, SpellsPayload, Words, SpellsWord, flag_words, perm_words}
use Rattle.sm_wire.proofs.NumberLemmas.{one_number, its_spelling}

-- ---- choices

pub bound : {A B : Type 0} (f : A → Option B) (o : Option A) (y : B) → option_and_then f o ≡ Some y
    → (x : A) × (o ≡ Some x) × (f x ≡ Some y)
bound f None y e = absurd (none-some y e)
bound f (Some x) y e = (x, refl, e)

-- What a choice gave came from one of its two sides.
chosen : {A : Type 0} (t : Bool) (x y : Option A) (z : A) → (if t then x else y) ≡ Some z
    → ((t ≡ true) × (x ≡ Some z)) ⊎ (y ≡ Some z)
chosen true x y z e = inl (refl, e)
chosen false x y z e = inr e

pub word_chosen : {A : Type 0} (w v : List ℕ) (x y : Option A) (z : A) → (if bytes_eq w v then x else y) ≡ Some z
    → ((w ≡ v) × (x ≡ Some z)) ⊎ (y ≡ Some z)
word_chosen w v x y z e = elim (chosen (bytes_eq w v) x y z e) [
  | inl h ↦ inl ((bytes_eq-Decides w v).0 h.0, h.1)
  | inr h ↦ inr h
]

byte_chosen : {A : Type 0} (b c : ℕ) (x y : Option A) (z : A) → (if b == c then x else y) ≡ Some z
    → ((b ≡ c) × (x ≡ Some z)) ⊎ (y ≡ Some z)
byte_chosen b c x y z e = elim (chosen (b == c) x y z e) [
  | inl h ↦ inl (grind (arith, nat_tests, h.0), h.1)
  | inr h ↦ inr h
]

pub other_byte : {A : Type 0} (b c : ℕ) (x y : A) → b ≢ c → (if b == c then x else y) ≡ y
other_byte b c x y ne = grind (arith, nat_tests)

pub if_true : {A : Type 0} (t : Bool) (x y : A) → (if t then Some x else None) ≡ Some y → (t ≡ true) × (x ≡ y)
if_true true x y e = (refl, same_Some x y e)
if_true false x y e = absurd (none-some y e)

-- ---- no spaces

abbrev pub Solid : List ℕ → Type 0
Solid field = AllByRecursion (λ b. b ≢ 32) field

-- What passes a test that a space fails holds no space.
solid_pass : (f : ℕ → Bool) → f 32 ≡ false → (bs : List ℕ) → list_all f bs ≡ true → Solid bs
solid_pass f fails [] e = tt
solid_pass f fails (b ∷ bs) e =
    let h = and_parts (f b) (list_all f bs) e in
    (λ is. true≢false (sym h.0 ∙ ap f is ∙ fails), solid_pass f fails bs h.1)

abbrev pub no_space : ℕ → Bool
no_space b = not (b == 32)

fails_no_space : no_space 32 ≡ false
fails_no_space = refl

-- A word that is written out.
pub solid_word : (w : List ℕ) → list_all no_space w ≡ true → Solid w
solid_word w e = solid_pass no_space fails_no_space w e

-- A word that is written out, and the bytes after it.
solid_more : (w bs : List ℕ) → list_all no_space w ≡ true → Solid bs → Solid (w ++ bs)
solid_more [] bs e h = h
solid_more (b ∷ w) bs e h =
    let k = and_parts (no_space b) (list_all no_space w) e in
    let first = solid_pass no_space fails_no_space (b ∷ []) (rw (k.0) refl) in
    (first.0, solid_more w bs k.1 h)

digits_solid : (bs : List ℕ) → AllDigits 10 bs → Solid bs
digits_solid [] d = tt
digits_solid (b ∷ bs) d =
    let r = digit_from_value b d.0 in
    (λ e. omega (arith, r.0, e), digits_solid bs d.1)

graphic_solid : (bs : List ℕ) → AllByRecursion (IsInRange 33 126) bs → Solid bs
graphic_solid [] h = tt
graphic_solid (b ∷ bs) h = let low = h.0.0 in (λ e. omega (arith, low, e), graphic_solid bs h.1)

-- ---- graphic bytes

is_graphic_range : (b : ℕ) → is_graphic b ≡ true → IsInRange 33 126 b
is_graphic_range b e = grind (arith, nat_tests)

range_is_graphic : (b : ℕ) → IsInRange 33 126 b → is_graphic b ≡ true
range_is_graphic b h = grind (arith, nat_tests)

pub graphic_all : (bs : List ℕ) → list_all is_graphic bs ≡ true → AllByRecursion (IsInRange 33 126) bs
graphic_all [] e = tt
graphic_all (b ∷ bs) e =
    let h = and_parts (is_graphic b) (list_all is_graphic bs) e in
    (is_graphic_range b h.0, graphic_all bs h.1)

pub all_graphic : (bs : List ℕ) → AllByRecursion (IsInRange 33 126) bs → list_all is_graphic bs ≡ true
all_graphic [] h = refl
all_graphic (b ∷ bs) h = rw (range_is_graphic b h.0) (all_graphic bs h.1)

-- ---- numbers

pub u32_small : u32_max < 2 ^ 64
u32_small = omega arith

pub u64_small : u64_max < 2 ^ 64
u64_small = omega arith

-- Of numbers of at most max.
module _ (max : ℕ) (small : max < 2 ^ 64) where
  pub number_read : (t : List ℕ) (n : ℕ) → SpellsNumber max t n → parsed_number max t ≡ Some n
  number_read _ _ (SpellsNumber.digits n le) = its_spelling max n small le

  pub number_spelled : (t : List ℕ) (n : ℕ) → parsed_number max t ≡ Some n → SpellsNumber max t n
  number_spelled t n e = let h = one_number max n t small e in rw (h.0) (SpellsNumber.digits n h.1)

  pub number_solid : (t : List ℕ) (n : ℕ) → SpellsNumber max t n → Solid t
  number_solid _ _ (SpellsNumber.digits n le) =
      digits_solid (decimal n) (decimal_is_IsNumeral n (omega (arith, le, small))).0.1

-- ---- hexadecimal digits

digit_read : (c v : ℕ) → SpellsDigit c v → hex_digit_value c ≡ Some v
digit_read _ _ (SpellsDigit.figure v lt) = grind (arith, nat_tests)
digit_read _ _ (SpellsDigit.capital v lt) = grind (arith, nat_tests)
digit_read _ _ (SpellsDigit.small v lt) = grind (arith, nat_tests)

ranged : (lo hi c : ℕ) → (nat_le lo c && nat_le c hi) ≡ true → IsInRange lo hi c
ranged lo hi c e = grind (arith, nat_tests)

digit_like : (c d v w : ℕ) → c ≡ d → v ≡ w → SpellsDigit d w → SpellsDigit c v
digit_like c d v w e f s = rw (e, f) s

capital_spelled : (c v : ℕ) → IsInRange 65 70 c → c - 55 ≡ v → SpellsDigit c v
capital_spelled c v r e =
    digit_like c (65 + (c - 65)) v (10 + (c - 65)) (omega (arith, r.0)) (omega (arith, r.0, e))
    (SpellsDigit.capital (c - 65) (omega (arith, r.0, r.1)))

small_spelled : (c v : ℕ) → IsInRange 97 102 c → c - 87 ≡ v → SpellsDigit c v
small_spelled c v r e =
    digit_like c (97 + (c - 97)) v (10 + (c - 97)) (omega (arith, r.0)) (omega (arith, r.0, e))
    (SpellsDigit.small (c - 97) (omega (arith, r.0, r.1)))

figure_spelled : (c v : ℕ) → IsInRange 48 57 c → c - 48 ≡ v → SpellsDigit c v
figure_spelled c v r e =
    digit_like c (48 + (c - 48)) v (c - 48) (omega (arith, r.0)) (omega (arith, e))
    (SpellsDigit.figure (c - 48) (omega (arith, r.0, r.1)))

digit_spelled : (c v : ℕ) → hex_digit_value c ≡ Some v → SpellsDigit c v
digit_spelled c v e =
    let figures : Option ℕ = if nat_le 48 c && nat_le c 57 then Some (c - 48) else None in
    let smalls : Option ℕ = if nat_le 97 c && nat_le c 102 then Some (c - 87) else figures in
    elim (chosen (nat_le 65 c && nat_le c 70) (Some (c - 55)) smalls v e) [
      | inl h ↦ capital_spelled c v (ranged 65 70 c h.0) (same_Some (c - 55) v h.1)
      | inr f ↦ elim (chosen (nat_le 97 c && nat_le c 102) (Some (c - 87)) figures v f) [
        | inl h ↦ small_spelled c v (ranged 97 102 c h.0) (same_Some (c - 87) v h.1)
        | inr g ↦
            let h = if_true (nat_le 48 c && nat_le c 57) (c - 48) v g in
            figure_spelled c v (ranged 48 57 c h.0) h.1
      ]
    ]

digit_solid : (c v : ℕ) → SpellsDigit c v → c ≢ 32
digit_solid _ _ (SpellsDigit.figure v lt) e = omega (arith, e)
digit_solid _ _ (SpellsDigit.capital v lt) e = omega (arith, e)
digit_solid _ _ (SpellsDigit.small v lt) e = omega (arith, e)

-- ---- bytes in hexadecimal digits

byte_of : (a b high low i : ℕ) → SpellsDigit a high → SpellsDigit b low → pair_value a b i ≡ Ok (16 * high + low)
byte_of a b high low i s t =
    let va : value_at a i ≡ Ok high = ap (digit_or_error a i) (digit_read a high s) in
    let vb : value_at b (i + 1) ≡ Ok low = ap (digit_or_error b (i + 1)) (digit_read b low t) in
    let same : high * 16 + low ≡ 16 * high + low = omega arith in
    rw (va, vb, same) refl

bytes_paired : (digits bytes : List ℕ) → SpellsBytes digits bytes → (i : ℕ) → decode_pairs i digits ≡ Ok bytes
unfolding decode_pairs
bytes_paired _ _ SpellsBytes.none i = refl
bytes_paired _ _ (SpellsBytes.more a b high low digits bytes s t rest) i =
    rw (byte_of a b high low i s t, bytes_paired digits bytes rest (i + 2)) refl

bytes_even : (digits bytes : List ℕ) → SpellsBytes digits bytes → length digits ≡ 2 * length bytes
bytes_even _ _ SpellsBytes.none = refl
bytes_even _ _ (SpellsBytes.more a b high low digits bytes s t rest) = omega (arith, bytes_even digits bytes rest)

pub bytes_read : (digits bytes : List ℕ) → SpellsBytes digits bytes → result_ok (decode_of digits) ≡ Some bytes
bytes_read digits bytes s =
    ap result_ok (decode_of-even digits (omega (arith, bytes_even digits bytes s)) ∙ bytes_paired digits bytes s 0)

went : {A B : Type 0} (r : Result A FromHexError) (f : A → Result B FromHexError) (y : B)
    → hexes.◌>>=◌ r f ≡ Ok y → (x : A) × (r ≡ Ok x) × (f x ≡ Ok y)
went (Ok x) f y e = (x, refl, e)
went (Err d) f y e = absurd cc

same_Ok : {A E : Type 0} (x y : A) → ◌≡◌ {A = Result A E} (Ok x) (Ok y) → x ≡ y
same_Ok x y e = cc

value_spelled : (c i v : ℕ) → value_at c i ≡ Ok v → SpellsDigit c v
value_spelled c i v e = digit_spelled c v (by (hex_digit_value c) e)
  where
    by : (o : Option ℕ) → digit_or_error c i o ≡ Ok v → o ≡ Some v
    by (Some w) f = ap Some (same_Ok w v f)
    by None f = absurd cc

pairs_spelled : (i : ℕ) (digits bytes : List ℕ) → decode_pairs i digits ≡ Ok bytes → SpellsBytes digits bytes
unfolding decode_pairs
pairs_spelled i [] bytes e = rw (← same_Ok [] bytes e) SpellsBytes.none
pairs_spelled i (a ∷ []) bytes e = absurd cc
pairs_spelled i (a ∷ b ∷ digits) bytes e =
    let p = went (pair_value a b i) _ bytes e in
    let q = went (decode_pairs (i + 2) digits) (λ bs. Ok (p.0 ∷ bs)) bytes p.2 in
    let h = went (value_at a i) (λ high. hexes.◌>>=◌ (value_at b (i + 1)) (λ low. Ok (high * 16 + low))) p.0 p.1 in
    let l = went (value_at b (i + 1)) (λ low. Ok (h.0 * 16 + low)) p.0 h.2 in
    let byte : 16 * h.0 + l.0 ≡ p.0 = omega (arith, same_Ok (h.0 * 16 + l.0) p.0 l.2) in
    let spelled = SpellsBytes.more a b h.0 l.0 digits q.0 (value_spelled a i h.0 h.1)
    (value_spelled b (i + 1) l.0 l.1) (pairs_spelled (i + 2) digits q.0 q.1) in
    let same : (16 * h.0 + l.0) ∷ q.0 ≡ bytes = ap (λ n. n ∷ q.0) byte ∙ same_Ok (p.0 ∷ q.0) bytes q.2 in
    subst (λ l. SpellsBytes (a ∷ b ∷ digits) l) same spelled

ok_some : {A E : Type 0} (r : Result A E) (x : A) → result_ok r ≡ Some x → r ≡ Ok x
ok_some (Ok y) x e = ap Ok (same_Some y x e)
ok_some (Err d) x e = absurd (none-some x e)

even_decoded : {A E : Type 0} (t : Bool) (d : E) (r : Result A E) (x : A) → (if t then Err d else r) ≡ Ok x → r ≡ Ok x
even_decoded true d r x e = absurd cc
even_decoded false d r x e = e

pub bytes_spelled : (digits bytes : List ℕ) → result_ok (decode_of digits) ≡ Some bytes → SpellsBytes digits bytes
bytes_spelled digits bytes e =
    let d : decode_of digits ≡ Ok bytes = ok_some (decode_of digits) bytes e in
    pairs_spelled 0 digits bytes (even_decoded (length digits % 2 == 1) OddLength (decode_pairs 0 digits) bytes d)

pub bytes_solid : (digits bytes : List ℕ) → SpellsBytes digits bytes → Solid digits
bytes_solid _ _ SpellsBytes.none = tt
bytes_solid _ _ (SpellsBytes.more a b high low digits bytes s t rest) =
    (digit_solid a high s, (digit_solid b low t, bytes_solid digits bytes rest))

-- ---- names

pub name_read : (t n : List ℕ) → SpellsName t n → name_of t ≡ Some n
unfolding name_of plain_name_of
name_read _ _ (SpellsName.plain b bs ne h) =
    let g : list_all is_graphic (b ∷ bs) ≡ true = all_graphic (b ∷ bs) h in
    other_byte b 37 (result_ok (decode_of bs)) (plain_name_of (b ∷ bs)) ne ∙ rw g refl
name_read _ _ (SpellsName.coded digits name s) = bytes_read digits name s

pub plain_spelled : (b : ℕ) (bs n : List ℕ) → b ≢ 37 → plain_name_of (b ∷ bs) ≡ Some n → SpellsName (b ∷ bs) n
unfolding plain_name_of
plain_spelled b bs n ne e =
    let h = if_true (list_all is_graphic (b ∷ bs)) (b ∷ bs) n e in
    rw (← h.1) (SpellsName.plain b bs ne (graphic_all (b ∷ bs) h.0))

coded_spelled : (b : ℕ) (bs n : List ℕ) → b ≡ 37 → result_ok (decode_of bs) ≡ Some n → SpellsName (b ∷ bs) n
coded_spelled b bs n is e = rw is (SpellsName.coded bs n (bytes_spelled bs n e))

pub name_spelled : (t n : List ℕ) → name_of t ≡ Some n → SpellsName t n
unfolding name_of
name_spelled [] n e = absurd (none-some n e)
name_spelled (b ∷ bs) n e = elim (cases_eq b 37) [
  | inl is ↦ coded_spelled b bs n is (subst (λ x. name_of (x ∷ bs) ≡ Some n) is e)
  | inr ne ↦ plain_spelled b bs n ne
      (sym (other_byte b 37 (result_ok (decode_of bs)) (plain_name_of (b ∷ bs)) ne) ∙ e)
]

pub name_solid : (t n : List ℕ) → SpellsName t n → Solid t
name_solid _ _ (SpellsName.plain b bs ne h) = graphic_solid (b ∷ bs) h
name_solid _ _ (SpellsName.coded digits name s) = solid_more (codes "%") digits refl (bytes_solid digits name s)

-- ---- references

pub reference_read : (t : List ℕ) (r : ObjRef) → SpellsReference t r → reference_of t ≡ Some r
unfolding reference_of
reference_read _ _ (SpellsReference.own digits n s) = rw (number_read u32_max u32_small digits n s) refl
reference_read _ _ (SpellsReference.handle digits n s) = rw (number_read u32_max u32_small digits n s) refl
reference_read _ _ SpellsReference.null = refl

own_spelled : (b : ℕ) (bs : List ℕ) (r : ObjRef) → b ≡ 111
    → option_and_then (λ n. Some (Own n)) (parsed_number u32_max bs) ≡ Some r → SpellsReference (b ∷ bs) r
own_spelled b bs r is e =
    let h = bound (λ n. Some (Own n)) (parsed_number u32_max bs) r e in
    rw (is, ← same_Some (Own h.0) r h.2) (SpellsReference.own bs h.0 (number_spelled u32_max u32_small bs h.0 h.1))

handle_spelled : (b : ℕ) (bs : List ℕ) (r : ObjRef) → b ≡ 104
    → option_and_then (λ n. Some (Handle n)) (parsed_number u32_max bs) ≡ Some r → SpellsReference (b ∷ bs) r
handle_spelled b bs r is e =
    let h = bound (λ n. Some (Handle n)) (parsed_number u32_max bs) r e in
    rw (is, ← same_Some (Handle h.0) r h.2)
    (SpellsReference.handle bs h.0 (number_spelled u32_max u32_small bs h.0 h.1))

null_spelled : (t : List ℕ) (r : ObjRef) → (if bytes_eq t (codes "null") then Some Null else None) ≡ Some r
    → SpellsReference t r
null_spelled t r e = elim (word_chosen t (codes "null") (Some Null) None r e) [
  | inl h ↦ rw (h.0, ← same_Some Null r h.1) SpellsReference.null
  | inr h ↦ absurd (none-some r h)
]

pub reference_spelled : (t : List ℕ) (r : ObjRef) → reference_of t ≡ Some r → SpellsReference t r
unfolding reference_of
reference_spelled [] r e = absurd (none-some r e)
reference_spelled (b ∷ bs) r e =
    let nulls : Option ObjRef = if bytes_eq (b ∷ bs) (codes "null") then Some Null else None in
    let handles : Option ObjRef = option_and_then (λ n. Some (Handle n)) (parsed_number u32_max bs) in
    let owns : Option ObjRef = option_and_then (λ n. Some (Own n)) (parsed_number u32_max bs) in
    elim (byte_chosen b 111 owns (if b == 104 then handles else nulls) r e) [
      | inl h ↦ own_spelled b bs r h.0 h.1
      | inr f ↦ elim (byte_chosen b 104 handles nulls r f) [
        | inl h ↦ handle_spelled b bs r h.0 h.1
        | inr g ↦ null_spelled (b ∷ bs) r g
      ]
    ]

pub reference_solid : (t : List ℕ) (r : ObjRef) → SpellsReference t r → Solid t
reference_solid _ _ (SpellsReference.own digits n s) =
    solid_more (codes "o") digits refl (number_solid u32_max u32_small digits n s)
reference_solid _ _ (SpellsReference.handle digits n s) =
    solid_more (codes "h") digits refl (number_solid u32_max u32_small digits n s)
reference_solid _ _ SpellsReference.null = solid_word (codes "null") refl

pub object_read : (t : List ℕ) (o : ℕ) → SpellsReference t (Own o) → own_object_of t ≡ Some o
unfolding own_object_of
object_read t o s = rw (reference_read t (Own o) s) refl

object_number : (r : ObjRef) (o : ℕ) → own_number r ≡ Some o → r ≡ Own o
object_number (Own n) o e = ap Own (same_Some n o e)
object_number (Handle n) o e = absurd (none-some o e)
object_number Null o e = absurd (none-some o e)

pub object_spelled : (t : List ℕ) (o : ℕ) → own_object_of t ≡ Some o → SpellsReference t (Own o)
unfolding own_object_of
object_spelled t o e =
    let h = bound own_number (reference_of t) o e in
    rw (← object_number h.0 o h.2) (reference_spelled t h.0 h.1)

references_read : (ts : List (List ℕ)) (rs : List ObjRef) → SpellsReferences ts rs → references_of ts ≡ Some rs
unfolding references_of
references_read _ _ SpellsReferences.none = refl
references_read _ _ (SpellsReferences.more t ts r rs s rest) =
    rw (reference_read t r s, references_read ts rs rest) refl

references_spelled : (ts : List (List ℕ)) (rs : List ObjRef) → references_of ts ≡ Some rs → SpellsReferences ts rs
unfolding references_of
references_spelled [] rs e = rw (← same_Some [] rs e) SpellsReferences.none
references_spelled (t ∷ ts) rs e =
    let h = bound (λ r. option_and_then (λ others. Some (r ∷ others)) (references_of ts)) (reference_of t) rs e in
    let k = bound (λ others. Some (h.0 ∷ others)) (references_of ts) rs h.2 in
    rw (← same_Some (h.0 ∷ k.0) rs k.2)
    (SpellsReferences.more t ts h.0 k.0 (reference_spelled t h.0 h.1) (references_spelled ts k.0 k.1))

pub references_solid : (ts : List (List ℕ)) (rs : List ObjRef) → SpellsReferences ts rs → AllByRecursion Solid ts
references_solid _ _ SpellsReferences.none = tt
references_solid _ _ (SpellsReferences.more t ts r rs s rest) = (reference_solid t r s, references_solid ts rs rest)

pub call_references_read : (ts : List (List ℕ)) (rs : List ObjRef) → SpellsReferences ts rs → length rs ≤ MOST_REFS
    → call_references_of ts ≡ Some rs
unfolding call_references_of
call_references_read ts rs s le = rw (references_read ts rs s) (grind (arith, nat_tests))

pub call_references_spelled : (ts : List (List ℕ)) (rs : List ObjRef) → call_references_of ts ≡ Some rs
    → SpellsReferences ts rs × (length rs ≤ MOST_REFS)
unfolding call_references_of
call_references_spelled ts rs e =
    let h = bound fitting_references (references_of ts) rs e in
    let k = if_true (nat_le (length h.0) MOST_REFS) h.0 rs h.2 in
    rw (← k.1) (references_spelled ts h.0 h.1, grind (arith, nat_tests, k.0))

-- ---- payloads

not_dash : (digits bytes : List ℕ) → SpellsBytes digits bytes → bytes_eq digits (codes "-") ≡ false
not_dash _ _ SpellsBytes.none = refl
not_dash _ _ (SpellsBytes.more a b high low digits bytes s t rest) = rw (figures a high s) refl
  where
    figures : (c v : ℕ) → SpellsDigit c v → (c == 45) ≡ false
    figures _ _ (SpellsDigit.figure v lt) = grind (arith, nat_tests)
    figures _ _ (SpellsDigit.capital v lt) = grind (arith, nat_tests)
    figures _ _ (SpellsDigit.small v lt) = grind (arith, nat_tests)

hex_payload_read : (digits bytes : List ℕ) → SpellsBytes digits bytes → length bytes ≤ MOST_PAYLOAD_BYTES
    → hex_payload_of digits ≡ Some bytes
unfolding hex_payload_of
hex_payload_read digits bytes s le = rw (bytes_read digits bytes s) (grind (arith, nat_tests))

some_payload : (digits bytes : List ℕ) → SpellsBytes digits bytes → 0 < length bytes
    → length bytes ≤ MOST_PAYLOAD_BYTES → payload_of digits ≡ Some bytes
unfolding payload_of
some_payload [] bytes s some le = absurd (omega (arith, bytes_even [] bytes s))
some_payload (b ∷ bs) bytes s some le = rw (not_dash (b ∷ bs) bytes s) (hex_payload_read (b ∷ bs) bytes s le)

pub payload_read : (t p : List ℕ) → SpellsPayload t p → payload_of t ≡ Some p
unfolding payload_of
payload_read _ _ SpellsPayload.none = refl
payload_read _ _ (SpellsPayload.some digits bytes s some le) = some_payload digits bytes s some le

hex_payload_spelled : (b : ℕ) (bs p : List ℕ) → hex_payload_of (b ∷ bs) ≡ Some p → SpellsPayload (b ∷ bs) p
unfolding hex_payload_of
hex_payload_spelled b bs p e =
    let h = bound fitting_payload (result_ok (decode_of (b ∷ bs))) p e in
    let k = if_true (nat_le (length h.0) MOST_PAYLOAD_BYTES) h.0 p h.2 in
    let s : SpellsBytes (b ∷ bs) h.0 = bytes_spelled (b ∷ bs) h.0 h.1 in
    let some : 0 < length h.0 = omega (arith, bytes_even (b ∷ bs) h.0 s) in
    rw (← k.1) (SpellsPayload.some (b ∷ bs) h.0 s some (grind (arith, nat_tests, k.0)))

pub payload_spelled : (t p : List ℕ) → payload_of t ≡ Some p → SpellsPayload t p
unfolding payload_of
payload_spelled [] p e = absurd (none-some p e)
payload_spelled (b ∷ bs) p e = elim (word_chosen (b ∷ bs) (codes "-") (Some []) (hex_payload_of (b ∷ bs)) p e) [
  | inl h ↦ rw (h.0, ← same_Some [] p h.1) SpellsPayload.none
  | inr h ↦ hex_payload_spelled b bs p h
]

pub payload_solid : (t p : List ℕ) → SpellsPayload t p → Solid t
payload_solid _ _ SpellsPayload.none = solid_word (codes "-") refl
payload_solid _ _ (SpellsPayload.some digits bytes s some le) = bytes_solid digits bytes s

-- ---- words

-- The value of a word of a table.
abbrev pub word_value : {X : Type 0} → Words X → List ℕ → Option X
word_value [] t = None
word_value (w ∷ ws) t = if bytes_eq t w.0 then Some w.1 else word_value ws t

-- No word of a table is this one.
abbrev lacks_word : {X : Type 0} → List ℕ → Words X → Bool
lacks_word v ws = list_all (λ w. not (bytes_eq w.0 v)) ws

-- No word of a table occurs twice, and none has a space.
abbrev pub is_word_table : {X : Type 0} → Words X → Bool
is_word_table [] = true
is_word_table (w ∷ ws) = (list_all no_space w.0 && lacks_word w.0 ws) && is_word_table ws

other_word : {X : Type 0} (ws : Words X) (v t : List ℕ) (x : X) → lacks_word v ws ≡ true → SpellsWord ws t x
    → bytes_eq t v ≡ false
other_word [] v t x l s = absurd s
other_word (w ∷ ws) v t x l (inl s) =
    rw (s.0) (not-true (bytes_eq w.0 v) (and_parts (not (bytes_eq w.0 v)) (lacks_word v ws) l).0)
other_word (w ∷ ws) v t x l (inr s) = other_word ws v t x (and_parts (not (bytes_eq w.0 v)) (lacks_word v ws) l).1 s

pub table_read : {X : Type 0} (ws : Words X) (t : List ℕ) (x : X) → is_word_table ws ≡ true → SpellsWord ws t x
    → word_value ws t ≡ Some x
table_read [] t x a s = absurd s
table_read (w ∷ ws) t x a (inl s) = rw ((bytes_eq-Decides t w.0).1 s.0) (ap (λ y. Some y) s.1)
table_read (w ∷ ws) t x a (inr s) =
    let parts = and_parts (list_all no_space w.0 && lacks_word w.0 ws) (is_word_table ws) a in
    let lacks = (and_parts (list_all no_space w.0) (lacks_word w.0 ws) parts.0).1 in
    rw (other_word ws w.0 t x lacks s) (table_read ws t x parts.1 s)

pub table_spelled : {X : Type 0} (ws : Words X) (t : List ℕ) (x : X) → word_value ws t ≡ Some x → SpellsWord ws t x
table_spelled [] t x e = absurd (none-some x e)
table_spelled (w ∷ ws) t x e = elim (word_chosen t w.0 (Some w.1) (word_value ws t) x e) [
  | inl h ↦ inl (h.0, same_Some w.1 x h.1)
  | inr h ↦ inr (table_spelled ws t x h)
]

pub table_solid : {X : Type 0} (ws : Words X) (t : List ℕ) (x : X) → is_word_table ws ≡ true → SpellsWord ws t x
    → Solid t
table_solid [] t x a s = absurd s
table_solid (w ∷ ws) t x a (inl s) =
    let parts = and_parts (list_all no_space w.0 && lacks_word w.0 ws) (is_word_table ws) a in
    rw (s.0) (solid_word w.0 (and_parts (list_all no_space w.0) (lacks_word w.0 ws) parts.0).0)
table_solid (w ∷ ws) t x a (inr s) =
    table_solid ws t x (and_parts (list_all no_space w.0 && lacks_word w.0 ws) (is_word_table ws) a).1 s

pub flag_table : (t : List ℕ) → flag_of t ≡ word_value flag_words t
unfolding flag_of
flag_table t = refl

pub perm_table : (t : List ℕ) → perm_of t ≡ word_value perm_words t
unfolding perm_of
perm_table t = grind arith

pub context_read : (t : List ℕ) → IsTrue (is_context t) → context_of t ≡ Some t
unfolding context_of
context_read t h = rw h refl

pub context_spelled : (t c : List ℕ) → context_of t ≡ Some c → IsTrue (is_context t) × (t ≡ c)
unfolding context_of
context_spelled t c e = if_true (is_context t) t c e

pub context_solid : (t : List ℕ) → IsTrue (is_context t) → Solid t
unfolding is_context
context_solid t h =
    let k = and_parts (list_all is_graphic t) (ends_behind_role (after_part t)) h in
    solid_pass is_graphic refl t k.0

pub word_read : (t : List ℕ) → IsTrue (is_word t) → word_of t ≡ Some t
unfolding word_of
word_read t h = rw h refl

pub word_spelled : (t w : List ℕ) → word_of t ≡ Some w → IsTrue (is_word t) × (t ≡ w)
unfolding word_of
word_spelled t w e = if_true (is_word t) t w e

pub word_solid : (t : List ℕ) → IsTrue (is_word t) → Solid t
unfolding is_word
word_solid [] h = tt
word_solid (b ∷ bs) h =
    let k = and_parts (is_ascii_alphabetic b) (list_all is_word_byte bs) h in
    let first = solid_pass is_ascii_alphabetic refl (b ∷ []) (rw (k.0) refl) in
    (first.0, solid_pass is_word_byte refl bs k.1)
