-- The request lines, as functions.
use Rattle.std.specs.Prelude.{ℕ, Bool, true, false, List, [], ◌∷◌, Option, Some, None, if◌then◌else◌}
use Rattle.std.specs.Str.{bytes_eq}
use Rattle.sm_values.specs.Permissions.{class_read}
use Rattle.sm_wire.specs.declared.request.Request.{Request}
use Rattle.sm_wire.specs.declared.request.Request.TheVariants.{Hello, Change, Look, Reload, Denials, Seal}
use Rattle.sm_wire.specs.declared.reload_header.ReloadHeader.{ReloadHeader}
use Rattle.sm_wire.specs.declared.kind.Kind.{Kind, TheVariants.Client, TheVariants.Admin, TheVariants.Script}
use Rattle.sm_wire.specs.LineTable.{Field, Value, Maker, Production, client_lines, connection_lines, admin_lines}
use Rattle.sm_wire.specs.LineTable.{unnumbered_lines}
use Rattle.sm_wire.specs.Number.{u32_max, u64_max, parsed_number}
use Rattle.sm_wire.specs.Fields.{fields_of}
use Rattle.sm_wire.specs.Reading.{◌>>=◌}
use Rattle.sm_wire.specs.Values.{name_of, reference_of, own_object_of, call_references_of, payload_of, flag_of}
use Rattle.sm_wire.specs.Values.{context_of, word_of, perm_of}

-- This parses a field.
abbrev pub value_of : (f : Field) → List ℕ → Option (Value f)
value_of Field.name text = name_of text
value_of Field.reference text = reference_of text
value_of Field.object text = own_object_of text
value_of Field.flag text = flag_of text
value_of Field.number text = parsed_number u32_max text
value_of Field.long text = parsed_number u64_max text
value_of Field.payload text = payload_of text
value_of Field.context text = context_of text
value_of Field.word text = word_of text
value_of Field.class text = class_read text
value_of Field.perm text = perm_of text

-- There are as many fields as the line has.
abbrev pub has_fields : List Field → Bool → List (List ℕ) → Bool
has_fields [] more [] = true
has_fields [] more (t ∷ ts) = more
has_fields (f ∷ fs) more [] = false
has_fields (f ∷ fs) more (t ∷ ts) = has_fields fs more ts

-- This parses fields in order.
abbrev pub made_of : (fs : List Field) (more : Bool) → Maker fs more → List (List ℕ) → Option Request
made_of [] false request ts = Some request
made_of [] true make ts = do
  references ← call_references_of ts
  Some (make references)
made_of (f ∷ fs) more make [] = None
made_of (f ∷ fs) more make (t ∷ ts) = do
  value ← value_of f t
  made_of fs more (make value) ts

-- This parses all the fields of a line.
unfoldable pub parsed_by : (fs : List Field) (more : Bool) → Maker fs more → List (List ℕ) → Option Request
parsed_by fs more make ts = if has_fields fs more ts then made_of fs more make ts else None

-- This parses the fields behind the word of a line.
abbrev pub line_of : Production → List (List ℕ) → Option Request
line_of p ts = parsed_by p.fields p.more p.make ts

-- This parses a line of a table.
unfoldable pub lines_of : List Production → List (List ℕ) → Option Request
lines_of [] ts = None
lines_of (p ∷ ps) [] = None
lines_of (p ∷ ps) (word ∷ ts) = if bytes_eq word p.word then line_of p ts else lines_of ps (word ∷ ts)

-- This parses a line of a script, whose first word may be a client's number.
abbrev pub script_line_of : Option ℕ → List ℕ → List (List ℕ) → Option Request
script_line_of (Some n) word rest = lines_of (client_lines (Some (record { 0 = n }))) rest
script_line_of None word rest = lines_of unnumbered_lines (word ∷ rest)

-- This parses the fields of a line of a script.
unfoldable pub script_fields_of : List (List ℕ) → Option Request
script_fields_of [] = None
script_fields_of (word ∷ rest) = script_line_of (parsed_number u32_max word) word rest

-- This parses the fields of a line of this kind.
unfoldable pub fields_request_of : Kind → List (List ℕ) → Option Request
fields_request_of Client fields = lines_of connection_lines fields
fields_request_of Admin fields = lines_of admin_lines fields
fields_request_of Script fields = script_fields_of fields

-- This parses a line of this kind.
unfoldable pub request_of : Kind → List ℕ → Option Request
request_of kind line = fields_request_of kind (fields_of line)

-- This is the header of a `reload` request, if the request is one.
abbrev pub header_by : Option Request → Option ReloadHeader
header_by (Some (Reload e r c)) = Some (record { expected = e; rules = r; contexts = c })
header_by (Some (Hello who)) = None
header_by (Some (Change client event)) = None
header_by (Some (Look client query)) = None
header_by (Some Denials) = None
header_by (Some Seal) = None
header_by None = None

-- This is the header of a `reload` line, if the line is one.
unfoldable pub header_of : Kind → List ℕ → Option ReloadHeader
header_of kind line = header_by (request_of kind line)
