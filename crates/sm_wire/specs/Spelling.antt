-- The written grammar of request lines: which bytes spell which request.
use Rattle.std.specs.Prelude.{◌≡◌, ◌≤◌, ◌⊎◌, ℕ, Bool, true, false, IsTrue, length, List, [], ◌∷◌, Some}
use Rattle.std.specs.Prelude.{Result, Ok, Err}
use Rattle.std.specs.List.{join_with_byte}
use Rattle.sm_values.specs.declared.limits.TheConstants.{MOST_REFS}
use Rattle.sm_values.specs.declared.number.ObjRef.{ObjRef, TheVariants.Own}
use Rattle.sm_ruletext.specs.Lexing.{is_word}
use Rattle.sm_wire.specs.declared.read_error.ReadError.{ReadError, TheVariants.Malformed, TheVariants.Memory}
use Rattle.sm_wire.specs.declared.request.Request.{Request}
use Rattle.sm_wire.specs.declared.kind.Kind.{Kind, TheVariants.Client, TheVariants.Admin, TheVariants.Script}
use Rattle.sm_wire.specs.LineTable.{Field, Value, Maker, Production, client_lines, connection_lines, admin_lines}
use Rattle.sm_wire.specs.LineTable.{unnumbered_lines}
use Rattle.sm_wire.specs.Number.{u32_max, u64_max}
use Rattle.sm_wire.specs.FieldSpelling.{SpellsNumber, SpellsName, SpellsReference, SpellsReferences, SpellsPayload}
use Rattle.sm_wire.specs.FieldSpelling.{SpellsWord, flag_words, class_words, perm_words, IsContext}

-- Bytes spell the value of a field.
abbrev pub SpellsField : (f : Field) → List ℕ → Value f → Type 0
SpellsField Field.name text v = SpellsName text v
SpellsField Field.reference text v = SpellsReference text v
SpellsField Field.object text v = SpellsReference text (Own v)
SpellsField Field.flag text v = SpellsWord flag_words text v
SpellsField Field.number text v = SpellsNumber u32_max text v
SpellsField Field.long text v = SpellsNumber u64_max text v
SpellsField Field.payload text v = SpellsPayload text v
SpellsField Field.context text v = IsContext text × (text ≡ v)
SpellsField Field.word text v = IsTrue (is_word text) × (text ≡ v)
SpellsField Field.class text v = SpellsWord class_words text v
SpellsField Field.perm text v = SpellsWord perm_words text v

-- Fields in order spell a request.
abbrev pub SpellsMade : (fs : List Field) (more : Bool) → Maker fs more → List (List ℕ) → Request → Type 0
SpellsMade [] false made [] request = made ≡ request
SpellsMade [] false made (t ∷ ts) request = ⊥
SpellsMade [] true make ts request =
    (references : List ObjRef) × SpellsReferences ts references × (length references ≤ MOST_REFS)
    × (make references ≡ request)
SpellsMade (f ∷ fs) more make [] request = ⊥
SpellsMade (f ∷ fs) more make (t ∷ ts) request =
    (v : Value f) × SpellsField f t v × SpellsMade fs more (make v) ts request

-- Fields spell a line of a table.
abbrev pub SpellsLine : List Production → List (List ℕ) → Request → Type 0
SpellsLine [] ts request = ⊥
SpellsLine (p ∷ ps) [] request = ⊥
SpellsLine (p ∷ ps) (word ∷ ts) request =
    ((word ≡ p.word) × SpellsMade p.fields p.more p.make ts request) ⊎ SpellsLine ps (word ∷ ts) request

-- Fields spell a client's number and a line of that client.
abbrev pub SpellsNumbered : List (List ℕ) → Request → Type 0
SpellsNumbered [] request = ⊥
SpellsNumbered (number ∷ ts) request =
    (n : ℕ) × SpellsNumber u32_max number n × SpellsLine (client_lines (Some (record { 0 = n }))) ts request

-- Fields spell a line, by its kind.
abbrev pub SpellsFields : Kind → List (List ℕ) → Request → Type 0
SpellsFields Client ts request = SpellsLine connection_lines ts request
SpellsFields Admin ts request = SpellsLine admin_lines ts request
SpellsFields Script ts request = SpellsNumbered ts request ⊎ SpellsLine unnumbered_lines ts request

-- These are fields joined by single spaces.
abbrev pub joined_fields : List (List ℕ) → List ℕ
joined_fields fields = join_with_byte 32 fields

-- A line of this kind, without its newline, spells a request.
pub data Spells : Kind → List ℕ → Request → Type 0 where
  line : (kind : Kind) (fields : List (List ℕ)) (request : Request) → SpellsFields kind fields request
      → Spells kind (joined_fields fields) request

-- A line of this kind, without its newline, spells no request.
abbrev pub SpellsNothing : Kind → List ℕ → Type 0
SpellsNothing kind bytes = (request : Request) → Spells kind bytes request → ⊥

-- A request that is read is spelled so, and `Malformed` means that none is; out of memory may come for any line.
abbrev pub ReadsSpelled : Kind → List ℕ → Result Request ReadError → Type 0
ReadsSpelled kind bytes (Ok request) = Spells kind bytes request
ReadsSpelled kind bytes (Err Malformed) = SpellsNothing kind bytes
ReadsSpelled kind bytes (Err Memory) = Unit {0}
