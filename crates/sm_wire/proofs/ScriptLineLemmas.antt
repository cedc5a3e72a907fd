-- The lines of changes spell their requests.
use Rattle.std.proofs.Common.{◌≡◌, ℕ, ◌≤◌, Bool, true, false, inl, inr, List, [], ◌∷◌, ◌++◌, length, map, refl}
use Rattle.std.proofs.Common.{Some, sym, ap, subst, ◌∙◌, arith, true≢false, if◌then◌else◌, append-nil, append_assoc}
use Rattle.std.specs.Prelude.{codes, nat_le, ◌&&◌}
use Rattle.std.specs.Fmt.{decimal}
use Rattle.std.specs.Int.{IsInRange}
use Rattle.std.specs.List.{AllByRecursion, flat_map, list_all}
use Rattle.std.specs.Result.{result_ok}
use Rattle.std.proofs.lemmas.Bool.{and_parts}
use Rattle.std.proofs.lemmas.Bool.Decides.{nat_tests}
use Rattle.hex.specs.Hex.{IsBytes, encode_lower}
use Rattle.hex.proofs.HexLemmas.{decode_of-encode_lower}
use Rattle.sm_values.specs.declared.identity.Identity.{Identity}
use Rattle.sm_values.specs.declared.limits.TheConstants.{MOST_NAME_BYTES, MOST_PAYLOAD_BYTES}
use Rattle.sm_values.specs.declared.number.ClientId.{ClientId}
use Rattle.sm_values.specs.declared.number.ObjRef.{ObjRef}
use Rattle.sm_values.specs.declared.number.ObjRef.TheVariants.{Own, Handle, Null}
use Rattle.sm_values.specs.Messages.{name_text, numbered}
use Rattle.sm_values.specs.Names.{is_name_byte, is_valid_name}
use Rattle.sm_history.specs.declared.event.Event.{Event}
use Rattle.sm_history.specs.declared.event.Event.TheVariants.{Open, Connect, Add, Get, Watch, Unwatch, Unregister}
use Rattle.sm_history.specs.declared.event.Event.TheVariants.{Call, Release, Take, Die, Reload}
use Rattle.sm_wire.specs.declared.kind.Kind.TheVariants.{Script}
use Rattle.sm_wire.specs.declared.request.Request.TheVariants as requests
use Rattle.sm_wire.specs.FieldSpelling.{SpellsNumber, SpellsName, SpellsReference, SpellsReferences, SpellsPayload}
use Rattle.sm_wire.specs.FieldSpelling.{SpellsWord, flag_words}
use Rattle.sm_wire.specs.LineTable.{client_lines}
use Rattle.sm_wire.specs.Number.{u32_max}
use Rattle.sm_wire.specs.Replies.{payload_text}
use Rattle.sm_wire.specs.ScriptLines.{reference_text, flag_text, spaced, change_fields, event_text, change_text}
use Rattle.sm_wire.specs.ScriptLines.{hello_text, reload_text, FitsReference, FitsLine, FitsHello, FitsReload}
use Rattle.sm_wire.specs.Spelling.{SpellsLine, Spells, joined_fields}
use Rattle.sm_wire.proofs.SpellingLemmasFields.{bytes_spelled}

-- ---- fields

name_byte_range : (b : ℕ) → is_name_byte b ≡ true → IsInRange 33 126 b
name_byte_range b e = grind (arith, nat_tests)

name_bytes_range : (bs : List ℕ) → list_all is_name_byte bs ≡ true → AllByRecursion (IsInRange 33 126) bs
name_bytes_range [] e = tt
name_bytes_range (b ∷ bs) e =
    let h = and_parts (is_name_byte b) (list_all is_name_byte bs) e in
    (name_byte_range b h.0, name_bytes_range bs h.1)

no_percent : is_name_byte 37 ≡ false
no_percent = refl

valid_spells : (name : List ℕ) → is_valid_name name ≡ true → SpellsName name name
valid_spells [] valid = absurd (true≢false (sym valid))
valid_spells (b ∷ bs) valid =
    let all = (and_parts (nat_le 1 (length (b ∷ bs)) && nat_le (length (b ∷ bs)) MOST_NAME_BYTES)
    (list_all is_name_byte (b ∷ bs)) valid).1 in
    let first = (and_parts (is_name_byte b) (list_all is_name_byte bs) all).0 in
    SpellsName.plain b bs (λ is. true≢false (sym first ∙ ap is_name_byte is ∙ no_percent))
    (name_bytes_range (b ∷ bs) all)

name_spells : (name : List ℕ) → IsBytes name → SpellsName (name_text name) name
unfolding name_text
name_spells name bytes = by (is_valid_name name) refl
  where
    by : (valid : Bool) → is_valid_name name ≡ valid
        → SpellsName (if valid then name else codes "%" ++ encode_lower name) name
    by true is = valid_spells name is
    by false is = SpellsName.coded (encode_lower name) name
        (bytes_spelled (encode_lower name) name (ap result_ok (decode_of-encode_lower name bytes)))

reference_spells : (r : ObjRef) → FitsReference r → SpellsReference (reference_text r) r
unfolding reference_text
reference_spells (Own n) fits = SpellsReference.own (decimal n) n (SpellsNumber.digits n fits)
reference_spells (Handle n) fits = SpellsReference.handle (decimal n) n (SpellsNumber.digits n fits)
reference_spells Null fits = SpellsReference.null

references_spell : (rs : List ObjRef) → AllByRecursion FitsReference rs → SpellsReferences (map reference_text rs) rs
references_spell [] fits = SpellsReferences.none
references_spell (r ∷ rs) fits =
    SpellsReferences.more (reference_text r) (map reference_text rs) r rs (reference_spells r fits.0)
    (references_spell rs fits.1)

flag_spells : (flag : Bool) → SpellsWord flag_words (flag_text flag) flag
unfolding flag_text
flag_spells false = inl (refl, refl)
flag_spells true = inr (inl (refl, refl))

payload_spells : (payload : List ℕ) → IsBytes payload → length payload ≤ MOST_PAYLOAD_BYTES
    → SpellsPayload (payload_text payload) payload
unfolding payload_text
payload_spells [] bytes le = SpellsPayload.none
payload_spells (b ∷ bs) bytes le =
    SpellsPayload.some (encode_lower (b ∷ bs)) (b ∷ bs)
    (bytes_spelled (encode_lower (b ∷ bs)) (b ∷ bs) (ap result_ok (decode_of-encode_lower (b ∷ bs) bytes)))
    (omega arith) le

-- ---- lines

client_line : (client : ClientId) (event : Event) → FitsLine event
    → SpellsLine (client_lines (Some client)) (change_fields event) (requests.Change (Some client) event)
client_line client (Open who policy) fits = absurd fits
client_line client (Connect who) fits = absurd fits
client_line client (Reload expected policy) fits = absurd fits
client_line client (Get name) fits =
    inl (refl, (name, name_spells name fits, refl))
client_line client (Call handle payload refs) fits =
    inr (inr (inr (inr (inl (
      refl,
      (
        handle,
        SpellsNumber.digits handle fits.0,
        (payload, payload_spells payload fits.1 fits.2, (refs, references_spell refs fits.3, fits.4, refl)),
      ),
    )))))
client_line client (Release handle) fits =
    inr (inr (inr (inr (inr (inl (refl, (handle, SpellsNumber.digits handle fits, refl)))))))
client_line client Take fits =
    inr (inr (inr (inr (inr (inr (inl (refl, refl)))))))
client_line client (Add name obj allow dump) fits =
    inr (inr (inr (inr (inr (inr (inr (inl (
      refl,
      (
        name,
        name_spells name fits.0,
        (obj, reference_spells obj fits.1, (allow, flag_spells allow, (dump, SpellsNumber.digits dump fits.2, refl))),
      ),
    ))))))))
client_line client (Watch name object) fits =
    inr (inr (inr (inr (inr (inr (inr (inr (inl (
      refl,
      (
        name,
        name_spells name fits.0,
        (object, SpellsReference.own (decimal object) object (SpellsNumber.digits object fits.1), refl),
      ),
    )))))))))
client_line client (Unwatch name object) fits =
    inr (inr (inr (inr (inr (inr (inr (inr (inr (inl (
      refl,
      (
        name,
        name_spells name fits.0,
        (object, SpellsReference.own (decimal object) object (SpellsNumber.digits object fits.1), refl),
      ),
    ))))))))))
client_line client (Unregister name obj) fits =
    inr (inr (inr (inr (inr (inr (inr (inr (inr (inr (inl (
      refl,
      (
        name,
        name_spells name fits.0,
        (obj, reference_spells obj fits.1, refl),
      ),
    )))))))))))
client_line client Die fits =
    inr (inr (inr (inr (inr (inr (inr (inr (inr (inr (inr (inl (refl, refl))))))))))))

joined : (f : List ℕ) (fs : List (List ℕ)) → joined_fields (f ∷ fs) ≡ f ++ flat_map spaced fs
joined f [] = sym (append-nil f)
joined f (g ∷ fs) = ap (λ (rest : List ℕ). f ++ 32 ∷ rest) (joined g fs)

pub change_spells : (client : ClientId) (event : Event) → client.0 ≤ u32_max → FitsLine event
    → Spells Script (change_text client event) (requests.Change (Some client) event)
unfolding change_text event_text
change_spells client event le fits =
    subst (λ (line : List ℕ). Spells Script line (requests.Change (Some client) event))
    (joined (decimal client.0) (change_fields event))
    (Spells.line Script (decimal client.0 ∷ change_fields event) (requests.Change (Some client) event)
    (inl (client.0, SpellsNumber.digits client.0 le, client_line client event fits)))

pub hello_spells : (who : Identity) → FitsHello who → Spells Script (hello_text who) (requests.Hello who)
unfolding hello_text
hello_spells who fits =
    subst (λ (line : List ℕ). Spells Script line (requests.Hello who))
    (sym (append_assoc (numbered (codes "hello ") who.pid) (numbered (codes " ") who.uid) (spaced who.context)))
    (Spells.line Script (codes "hello" ∷ decimal who.pid ∷ decimal who.uid ∷ who.context ∷ []) (requests.Hello who)
    (inr (inl (
      refl,
      (
        who.pid,
        SpellsNumber.digits who.pid fits.pid,
        (
          who.uid,
          SpellsNumber.digits who.uid fits.uid,
          (who.context, (fits.context, refl), refl),
        ),
      ),
    ))))

pub reload_spells : (expected : ℕ) (rules contexts : List ℕ) → FitsReload expected rules contexts
    → Spells Script (reload_text expected rules contexts) (requests.Reload expected (length rules) (length contexts))
unfolding reload_text
reload_spells expected rules contexts fits =
    subst (λ (line : List ℕ). Spells Script line
    (requests.Reload expected (length rules) (length contexts)))
    (sym (append_assoc (numbered (codes "reload ") expected) (numbered (codes " ") (length rules))
    (numbered (codes " ") (length contexts))))
    (Spells.line Script
    (codes "reload" ∷ decimal expected ∷ decimal (length rules) ∷ decimal (length contexts) ∷ [])
    (requests.Reload expected (length rules) (length contexts))
    (inr (inr (inl (
      refl,
      (
        expected,
        SpellsNumber.digits expected fits.version,
        (
          length rules,
          SpellsNumber.digits (length rules) fits.first,
          (length contexts, SpellsNumber.digits (length contexts) fits.second, refl),
        ),
      ),
    )))))
