-- What spells a request is read as it, and what is read is spelled so.
use Rattle.std.proofs.Common.{◌≡◌, ℕ, inl, inr, Bool, true, false, ◌&&◌, not, List, [], ◌∷◌, ◌++◌, Option, Some}
use Rattle.std.proofs.Common.{None, Result, Ok, Err, refl, sym, ap, subst, ◌∙◌, if◌then◌else◌, true≢false}
use Rattle.std.specs.Prelude.{is_some}
use Rattle.std.specs.List.{AllByRecursion, list_all}
use Rattle.std.specs.Str.{bytes_eq}
use Rattle.std.proofs.lemmas.Bool.{and_parts, not-true}
use Rattle.std.proofs.lemmas.List.Splits.{join_with_byte-slice_split}
use Rattle.std.proofs.lemmas.Option.{same_Some, none-some}
use Rattle.std.proofs.lemmas.Slice.Eq.{bytes_eq-Decides}
use Rattle.sm_values.specs.declared.number.ObjRef.TheVariants.{Own}
use Rattle.sm_wire.specs.declared.request.Request.{Request}
use Rattle.sm_wire.specs.declared.kind.Kind.{Kind}
use Rattle.sm_wire.specs.declared.kind.Kind.TheVariants.{Client, Admin, Script}
use Rattle.sm_wire.specs.declared.item.Item.TheVariants as items
use Rattle.sm_wire.specs.declared.read_error.ReadError.{ReadError}
use Rattle.sm_wire.specs.declared.read_error.ReadError.TheVariants.{Malformed, Memory}
use Rattle.sm_wire.specs.Items.{item_of}
use Rattle.sm_wire.specs.Reading.{ReadsAs}
use Rattle.sm_wire.specs.Number.{u32_max, u64_max, parsed_number}
use Rattle.sm_wire.specs.Fields.{fields_of}
use Rattle.sm_wire.specs.Values.{call_references_of}
use Rattle.sm_wire.specs.LineTable.{Field, Value, Maker, Production, client_lines, connection_lines, admin_lines}
use Rattle.sm_wire.specs.LineTable.{unnumbered_lines}
use Rattle.sm_wire.specs.Grammar.{value_of, has_fields, made_of, parsed_by, line_of, lines_of, script_line_of}
use Rattle.sm_wire.specs.Grammar.{script_fields_of, fields_request_of, request_of}
use Rattle.sm_wire.specs.FieldSpelling.{flag_words, class_words, perm_words}
use Rattle.sm_wire.specs.Spelling.{SpellsField, SpellsMade, SpellsLine, SpellsNumbered, SpellsFields, Spells}
use Rattle.sm_wire.specs.Spelling.{SpellsNothing, ReadsSpelled, joined_fields}
use Rattle.sm_wire.proofs.FieldLemmas.{fields_of-space, fields_of-plain}
use Rattle.sm_wire.proofs.SpellingLemmasFields.{Solid, bound, word_chosen, solid_word, no_space, u32_small, u64_small}
use Rattle.sm_wire.proofs.SpellingLemmasFields.{number_read, number_spelled, number_solid, name_read, name_spelled}
use Rattle.sm_wire.proofs.SpellingLemmasFields.{name_solid, reference_read, reference_spelled, reference_solid}
use Rattle.sm_wire.proofs.SpellingLemmasFields.{object_read, object_spelled, call_references_read}
use Rattle.sm_wire.proofs.SpellingLemmasFields.{call_references_spelled, references_solid, payload_read}
use Rattle.sm_wire.proofs.SpellingLemmasFields.{payload_spelled, payload_solid, table_read, table_spelled, table_solid}
use Rattle.sm_wire.proofs.SpellingLemmasFields.{flag_table, perm_table, context_read, context_spelled, context_solid}
use Rattle.sm_wire.proofs.SpellingLemmasFields.{word_read, word_spelled, word_solid}
use Rattle.sm_wire.proofs.SpellingLemmasContexts.{context_judged, context_written}

-- ---- fields

behind_space : (f rest : List ℕ) → Solid f → fields_of (f ++ 32 ∷ rest) ≡ f ∷ fields_of rest
behind_space [] rest s = fields_of-space 32 rest refl
behind_space (b ∷ bs) rest s = rw (fields_of-plain b (bs ++ 32 ∷ rest) s.0, behind_space bs rest s.1) refl

lone_field : (f : List ℕ) → Solid f → fields_of f ≡ f ∷ []
lone_field [] s = refl
lone_field (b ∷ bs) s = rw (fields_of-plain b bs s.0, lone_field bs s.1) refl

-- One field or more, none with a space.
abbrev Filled : List (List ℕ) → Type 0
Filled [] = ⊥
Filled (f ∷ fs) = AllByRecursion Solid (f ∷ fs)

fields_joined : (f : List ℕ) (fs : List (List ℕ)) → AllByRecursion Solid (f ∷ fs)
    → fields_of (joined_fields (f ∷ fs)) ≡ f ∷ fs
fields_joined f [] s = lone_field f s.0
fields_joined f (g ∷ fs) s = behind_space f (joined_fields (g ∷ fs)) s.0 ∙ ap (λ l. f ∷ l) (fields_joined g fs s.1)

filled_joined : (fs : List (List ℕ)) → Filled fs → fields_of (joined_fields fs) ≡ fs
filled_joined [] s = absurd s
filled_joined (f ∷ fs) s = fields_joined f fs s

-- ---- a field of any kind

value_read : (f : Field) (t : List ℕ) (v : Value f) → SpellsField f t v → value_of f t ≡ Some v
value_read Field.name t v s = name_read t v s
value_read Field.reference t v s = reference_read t v s
value_read Field.object t v s = object_read t v s
value_read Field.flag t v s = flag_table t ∙ table_read flag_words t v refl s
value_read Field.number t v s = number_read u32_max u32_small t v s
value_read Field.long t v s = number_read u64_max u64_small t v s
value_read Field.payload t v s = payload_read t v s
value_read Field.context t v s = context_read t (context_judged t s.0) ∙ ap (λ x. Some x) s.1
value_read Field.word t v s = word_read t s.0 ∙ ap (λ x. Some x) s.1
value_read Field.class t v s = table_read class_words t v refl s
value_read Field.perm t v s = perm_table t ∙ table_read perm_words t v refl s

value_spelled : (f : Field) (t : List ℕ) (v : Value f) → value_of f t ≡ Some v → SpellsField f t v
value_spelled Field.name t v e = name_spelled t v e
value_spelled Field.reference t v e = reference_spelled t v e
value_spelled Field.object t v e = object_spelled t v e
value_spelled Field.flag t v e = table_spelled flag_words t v (sym (flag_table t) ∙ e)
value_spelled Field.number t v e = number_spelled u32_max u32_small t v e
value_spelled Field.long t v e = number_spelled u64_max u64_small t v e
value_spelled Field.payload t v e = payload_spelled t v e
value_spelled Field.context t v e = let s = context_spelled t v e in (context_written t s.0, s.1)
value_spelled Field.word t v e = word_spelled t v e
value_spelled Field.class t v e = table_spelled class_words t v e
value_spelled Field.perm t v e = table_spelled perm_words t v (sym (perm_table t) ∙ e)

value_solid : (f : Field) (t : List ℕ) (v : Value f) → SpellsField f t v → Solid t
value_solid Field.name t v s = name_solid t v s
value_solid Field.reference t v s = reference_solid t v s
value_solid Field.object t v s = reference_solid t (Own v) s
value_solid Field.flag t v s = table_solid flag_words t v refl s
value_solid Field.number t v s = number_solid u32_max u32_small t v s
value_solid Field.long t v s = number_solid u64_max u64_small t v s
value_solid Field.payload t v s = payload_solid t v s
value_solid Field.context t v s = context_solid t (context_judged t s.0)
value_solid Field.word t v s = word_solid t s.0
value_solid Field.class t v s = table_solid class_words t v refl s
value_solid Field.perm t v s = table_solid perm_words t v refl s

-- ---- the fields behind a word

made_fits : (fs : List Field) (more : Bool) (make : Maker fs more) (ts : List (List ℕ)) (r : Request)
    → SpellsMade fs more make ts r → has_fields fs more ts ≡ true
made_fits [] false make [] r s = refl
made_fits [] false make (t ∷ ts) r s = absurd s
made_fits [] true make [] r s = refl
made_fits [] true make (t ∷ ts) r s = refl
made_fits (f ∷ fs) more make [] r s = absurd s
made_fits (f ∷ fs) more make (t ∷ ts) r s = made_fits fs more (make s.0) ts r s.2

made_read : (fs : List Field) (more : Bool) (make : Maker fs more) (ts : List (List ℕ)) (r : Request)
    → SpellsMade fs more make ts r → made_of fs more make ts ≡ Some r
made_read [] false make [] r s = ap (λ x. Some x) s
made_read [] false make (t ∷ ts) r s = absurd s
made_read [] true make ts r s = rw (call_references_read ts s.0 s.1 s.2) (ap (λ x. Some x) s.3)
made_read (f ∷ fs) more make [] r s = absurd s
made_read (f ∷ fs) more make (t ∷ ts) r s = rw (value_read f t s.0 s.1) (made_read fs more (make s.0) ts r s.2)

made_spelled : (fs : List Field) (more : Bool) (make : Maker fs more) (ts : List (List ℕ)) (r : Request)
    → has_fields fs more ts ≡ true → made_of fs more make ts ≡ Some r → SpellsMade fs more make ts r
made_spelled [] false make [] r h e = same_Some make r e
made_spelled [] false make (t ∷ ts) r h e = absurd (true≢false (sym h))
made_spelled [] true make ts r h e =
    let rs = bound _ (call_references_of ts) r e in
    let s = call_references_spelled ts rs.0 rs.1 in
    (rs.0, s.0, s.1, same_Some (make rs.0) r rs.2)
made_spelled (f ∷ fs) more make [] r h e = absurd (none-some r e)
made_spelled (f ∷ fs) more make (t ∷ ts) r h e =
    let v = bound (λ (v : Value f). made_of fs more (make v) ts) (value_of f t) r e in
    (v.0, value_spelled f t v.0 v.1, made_spelled fs more (make v.0) ts r h v.2)

made_solid : (fs : List Field) (more : Bool) (make : Maker fs more) (ts : List (List ℕ)) (r : Request)
    → SpellsMade fs more make ts r → AllByRecursion Solid ts
made_solid [] false make [] r s = tt
made_solid [] false make (t ∷ ts) r s = absurd s
made_solid [] true make ts r s = references_solid ts s.0 s.1
made_solid (f ∷ fs) more make [] r s = absurd s
made_solid (f ∷ fs) more make (t ∷ ts) r s = (value_solid f t s.0 s.1, made_solid fs more (make s.0) ts r s.2)

line_is : (p : Production) (ts : List (List ℕ)) (r : Request) → SpellsMade p.fields p.more p.make ts r
    → line_of p ts ≡ Some r
unfolding parsed_by
line_is p ts r s = rw (made_fits p.fields p.more p.make ts r s) (made_read p.fields p.more p.make ts r s)

line_so : (p : Production) (ts : List (List ℕ)) (r : Request) → line_of p ts ≡ Some r
    → SpellsMade p.fields p.more p.make ts r
unfolding parsed_by
line_so p ts r e = by (has_fields p.fields p.more ts) refl e
  where
    by : (b : Bool) → has_fields p.fields p.more ts ≡ b
        → (if b then made_of p.fields p.more p.make ts else None) ≡ Some r → SpellsMade p.fields p.more p.make ts r
    by true h q = made_spelled p.fields p.more p.make ts r h q
    by false h q = absurd (none-some r q)

-- ---- tables

-- No line of a table begins with this word.
abbrev lacks : List ℕ → List Production → Bool
lacks w ps = list_all (λ p. not (bytes_eq p.word w)) ps

-- No line of a table begins with the word of another line, and no word has a space.
abbrev is_table : List Production → Bool
is_table [] = true
is_table (p ∷ ps) = (list_all no_space p.word && lacks p.word ps) && is_table ps

-- A word of a line in a table isn't one that the table lacks.
spelled_other : (ps : List Production) (v w : List ℕ) (ts : List (List ℕ)) (r : Request) → lacks v ps ≡ true
    → SpellsLine ps (w ∷ ts) r → bytes_eq w v ≡ false
spelled_other [] v w ts r l s = absurd s
spelled_other (p ∷ ps) v w ts r l (inl s) =
    rw (s.0) (not-true (bytes_eq p.word v) (and_parts (not (bytes_eq p.word v)) (lacks v ps) l).0)
spelled_other (p ∷ ps) v w ts r l (inr s) =
    spelled_other ps v w ts r (and_parts (not (bytes_eq p.word v)) (lacks v ps) l).1 s

lines_is : (ps : List Production) (ts : List (List ℕ)) (r : Request) → is_table ps ≡ true → SpellsLine ps ts r
    → lines_of ps ts ≡ Some r
unfolding lines_of
lines_is [] ts r a s = absurd s
lines_is (p ∷ ps) [] r a s = absurd s
lines_is (p ∷ ps) (w ∷ ts) r a (inl s) = rw ((bytes_eq-Decides w p.word).1 s.0) (line_is p ts r s.1)
lines_is (p ∷ ps) (w ∷ ts) r a (inr s) =
    let parts = and_parts (list_all no_space p.word && lacks p.word ps) (is_table ps) a in
    let l = (and_parts (list_all no_space p.word) (lacks p.word ps) parts.0).1 in
    rw (spelled_other ps p.word w ts r l s) (lines_is ps (w ∷ ts) r parts.1 s)

lines_so : (ps : List Production) (ts : List (List ℕ)) (r : Request) → lines_of ps ts ≡ Some r → SpellsLine ps ts r
unfolding lines_of
lines_so [] ts r e = absurd (none-some r e)
lines_so (p ∷ ps) [] r e = absurd (none-some r e)
lines_so (p ∷ ps) (w ∷ ts) r e = elim (word_chosen w p.word (line_of p ts) (lines_of ps (w ∷ ts)) r e) [
  | inl h ↦ inl (h.0, line_so p ts r h.1)
  | inr h ↦ inr (lines_so ps (w ∷ ts) r h)
]

lines_filled : (ps : List Production) (ts : List (List ℕ)) (r : Request) → is_table ps ≡ true → SpellsLine ps ts r
    → Filled ts
lines_filled [] ts r a s = absurd s
lines_filled (p ∷ ps) [] r a s = absurd s
lines_filled (p ∷ ps) (w ∷ ts) r a (inl s) =
    let parts = and_parts (list_all no_space p.word && lacks p.word ps) (is_table ps) a in
    let plain = (and_parts (list_all no_space p.word) (lacks p.word ps) parts.0).0 in
    rw (s.0) (solid_word p.word plain, made_solid p.fields p.more p.make ts r s.1)
lines_filled (p ∷ ps) (w ∷ ts) r a (inr s) =
    lines_filled ps (w ∷ ts) r (and_parts (list_all no_space p.word && lacks p.word ps) (is_table ps) a).1 s

-- ---- lines of each kind

-- The words of a table's lines aren't numbers.
abbrev are_words : List Production → Bool
are_words ps = list_all (λ p. not (is_some (parsed_number u32_max p.word))) ps

no_number : (o : Option ℕ) → not (is_some o) ≡ true → o ≡ None
no_number None e = refl
no_number (Some n) e = absurd (true≢false (sym e))

not_numbered : (ps : List Production) (w : List ℕ) (ts : List (List ℕ)) (r : Request) → are_words ps ≡ true
    → SpellsLine ps (w ∷ ts) r → parsed_number u32_max w ≡ None
not_numbered [] w ts r a s = absurd s
not_numbered (p ∷ ps) w ts r a (inl s) =
    rw (s.0) (no_number (parsed_number u32_max p.word)
    (and_parts (not (is_some (parsed_number u32_max p.word))) (are_words ps) a).0)
not_numbered (p ∷ ps) w ts r a (inr s) =
    not_numbered ps w ts r (and_parts (not (is_some (parsed_number u32_max p.word))) (are_words ps) a).1 s

more_filled : (f : List ℕ) (fs : List (List ℕ)) → Solid f → Filled fs → Filled (f ∷ fs)
more_filled f [] s h = absurd h
more_filled f (g ∷ fs) s h = (s, h)

numbered_filled : (ts : List (List ℕ)) (r : Request) → SpellsNumbered ts r → Filled ts
numbered_filled [] r s = absurd s
numbered_filled (t ∷ ts) r s =
    more_filled t ts (number_solid u32_max u32_small t s.0 s.1)
    (lines_filled (client_lines (Some (record { 0 = s.0 }))) ts r refl s.2)

script_read : (fs : List (List ℕ)) (r : Request) → SpellsFields Script fs r → script_fields_of fs ≡ Some r
unfolding script_fields_of
script_read [] r (inl s) = absurd s
script_read [] r (inr s) = absurd s
script_read (w ∷ ts) r (inl s) =
    rw (number_read u32_max u32_small w s.0 s.1) (lines_is (client_lines (Some (record { 0 = s.0 }))) ts r refl s.2)
script_read (w ∷ ts) r (inr s) =
    rw (not_numbered unnumbered_lines w ts r refl s) (lines_is unnumbered_lines (w ∷ ts) r refl s)

script_spelled : (fs : List (List ℕ)) (r : Request) → script_fields_of fs ≡ Some r → SpellsFields Script fs r
unfolding script_fields_of
script_spelled [] r e = absurd (none-some r e)
script_spelled (w ∷ ts) r e = by (parsed_number u32_max w) refl e
  where
    by : (o : Option ℕ) → parsed_number u32_max w ≡ o → script_line_of o w ts ≡ Some r → SpellsFields Script (w ∷ ts) r
    by (Some n) is e =
        inl (n, number_spelled u32_max u32_small w n is, lines_so (client_lines (Some (record { 0 = n }))) ts r e)
    by None is e = inr (lines_so unnumbered_lines (w ∷ ts) r e)

fields_read : (kind : Kind) (fs : List (List ℕ)) (r : Request) → SpellsFields kind fs r
    → fields_request_of kind fs ≡ Some r
unfolding fields_request_of
fields_read Client fs r s = lines_is connection_lines fs r refl s
fields_read Admin fs r s = lines_is admin_lines fs r refl s
fields_read Script fs r s = script_read fs r s

fields_filled : (kind : Kind) (fs : List (List ℕ)) (r : Request) → SpellsFields kind fs r → Filled fs
fields_filled Client fs r s = lines_filled connection_lines fs r refl s
fields_filled Admin fs r s = lines_filled admin_lines fs r refl s
fields_filled Script fs r (inl s) = numbered_filled fs r s
fields_filled Script fs r (inr s) = lines_filled unnumbered_lines fs r refl s

fields_spelled : (kind : Kind) (fs : List (List ℕ)) (r : Request) → fields_request_of kind fs ≡ Some r
    → SpellsFields kind fs r
unfolding fields_request_of
fields_spelled Client fs r is = lines_so connection_lines fs r is
fields_spelled Admin fs r is = lines_so admin_lines fs r is
fields_spelled Script fs r is = script_spelled fs r is

-- ---- whole lines

pub line_read : (kind : Kind) (line : List ℕ) (r : Request) → Spells kind line r → request_of kind line ≡ Some r
unfolding request_of
line_read _ _ _ (Spells.line kind fs r s) =
    rw (filled_joined fs (fields_filled kind fs r s)) (fields_read kind fs r s)

pub line_spelled : (kind : Kind) (line : List ℕ) (r : Request) → request_of kind line ≡ Some r → Spells kind line r
unfolding request_of
line_spelled kind line r is =
    subst (λ l. Spells kind l r) (join_with_byte-slice_split 32 line)
    (Spells.line kind (fields_of line) r (fields_spelled kind (fields_of line) r is))

pub one_request : (kind : Kind) (line : List ℕ) (r q : Request) → Spells kind line r → Spells kind line q → r ≡ q
one_request kind line r q s t = same_Some r q (sym (line_read kind line r s) ∙ line_read kind line q t)

-- ---- what is read, and items

pub none_read : (kind : Kind) (line : List ℕ) → SpellsNothing kind line → request_of kind line ≡ None
none_read kind line none = by (request_of kind line) refl
  where
    by : (o : Option Request) → request_of kind line ≡ o → request_of kind line ≡ None
    by None e = e
    by (Some r) e = absurd (none r (line_spelled kind line r e))

pub none_spelled : (kind : Kind) (line : List ℕ) → request_of kind line ≡ None → SpellsNothing kind line
none_spelled kind line e r s = none-some r (sym e ∙ line_read kind line r s)

pub read_spelled : (kind : Kind) (line : List ℕ) (result : Result Request ReadError)
    → ReadsAs result (request_of kind line) → ReadsSpelled kind line result
read_spelled kind line (Ok r) e = line_spelled kind line r e
read_spelled kind line (Err Malformed) e = none_spelled kind line e
read_spelled kind line (Err Memory) e = tt

malformed_item : (kind : Kind) (line : List ℕ) → request_of kind line ≡ None → item_of kind line ≡ items.Malformed
unfolding item_of
malformed_item kind line e = rw e refl

pub item_read : (kind : Kind) (line : List ℕ) (r : Request) → Spells kind line r → item_of kind line ≡ items.Asked r
unfolding item_of
item_read kind line r s = rw (line_read kind line r s) refl

pub item_spelled : (kind : Kind) (line : List ℕ) (r : Request) → item_of kind line ≡ items.Asked r → Spells kind line r
item_spelled kind line r e = by (request_of kind line) refl
  where
    same : (q : Request) → items.Asked q ≡ items.Asked r → q ≡ r
    same q f = cc f

    by : (o : Option Request) → request_of kind line ≡ o → Spells kind line r
    by None f = absurd (cc (sym (malformed_item kind line f) ∙ e))
    by (Some q) f =
        let s = line_spelled kind line q f in
        subst (λ x. Spells kind line x) (same q (sym (item_read kind line q s) ∙ e)) s

pub others_malformed : (kind : Kind) (line : List ℕ) → SpellsNothing kind line → item_of kind line ≡ items.Malformed
others_malformed kind line none = malformed_item kind line (none_read kind line none)

pub malformed_others : (kind : Kind) (line : List ℕ) → item_of kind line ≡ items.Malformed → SpellsNothing kind line
malformed_others kind line e r s = cc (sym e ∙ item_read kind line r s)
