-- The request lines, as tables: the word of a line, the kinds of the fields behind it, and its request.
use Rattle.std.specs.Prelude.{ℕ, Bool, true, false, codes, List, [], ◌∷◌, Option, None}
use Rattle.sm_values.specs.declared.class.Class.{Class}
use Rattle.sm_values.specs.declared.number.ClientId.{ClientId}
use Rattle.sm_values.specs.declared.number.ObjRef.{ObjRef}
use Rattle.sm_values.specs.declared.perms.Perms.{Perms}
use Rattle.sm_history.specs.declared.event.Event.TheVariants.{Add, Get, Watch, Unwatch, Unregister, Call, Release}
use Rattle.sm_history.specs.declared.event.Event.TheVariants.{Take, Die}
use Rattle.sm_history.specs.declared.query.Query.TheVariants as queries
use Rattle.sm_wire.specs.declared.request.Request.{Request}
use Rattle.sm_wire.specs.declared.request.Request.TheVariants.{Hello, Change, Look, Reload, Denials, Seal}

-- A field is of one of these kinds.
pub data Field : Type 0 where
  name : Field  -- NAME
  reference : Field  -- REF
  object : Field  -- oN
  flag : Field  -- ALLOW
  number : Field  -- of 32 bits
  long : Field  -- a number of 64 bits
  payload : Field  -- PAYLOAD
  context : Field  -- CONTEXT
  word : Field  -- of the policy source
  class : Field  -- CLASS
  perm : Field  -- PERM

-- A field of this kind has such a value.
abbrev pub Value : Field → Type 0
Value Field.name = List ℕ
Value Field.reference = ObjRef
Value Field.object = ℕ
Value Field.flag = Bool
Value Field.number = ℕ
Value Field.long = ℕ
Value Field.payload = List ℕ
Value Field.context = List ℕ
Value Field.word = List ℕ
Value Field.class = Class
Value Field.perm = Perms

-- A line makes its request from the values of its fields, and from the references behind them if it may have some.
abbrev pub Maker : List Field → Bool → Type 0
Maker [] false = Request
Maker [] true = List ObjRef → Request
Maker (f ∷ fs) more = Value f → Maker fs more

-- A line has a word, fields, any number of REF behind them or none, and a request.
pub record Production : Type 0 where
  pub word : List ℕ
  pub fields : List Field
  pub more : Bool
  pub make : Maker fields more

-- This is a line without REF behind its fields.
abbrev pub line : (text : List ℕ) (fields : List Field) → Maker fields false → Production
line text fields make = record { word = text; fields = fields; more = false; make = make }

-- This is `get NAME`.
abbrev pub get_line : Option ClientId → Production
get_line who = line (codes "get") (Field.name ∷ []) (λ name. Change who (Get name))

-- This is `check NAME`, which means the same.
abbrev pub check_line : Option ClientId → Production
check_line who = line (codes "check") (Field.name ∷ []) (λ name. Change who (Get name))

-- This is `list MASK`.
abbrev pub list_line : Option ClientId → Production
list_line who = line (codes "list") (Field.number ∷ []) (λ mask. Look who (queries.List mask))

-- This is `version`.
abbrev pub version_line : Option ClientId → Production
version_line who = line (codes "version") [] (Look who queries.Version)

-- This is `add NAME REF ALLOW DUMP`.
abbrev pub add_line : Option ClientId → Production
add_line who = line (codes "add") (Field.name ∷ Field.reference ∷ Field.flag ∷ Field.number ∷ [])
    (λ name reference allow dump. Change who (Add name reference allow dump))

-- This is `watch NAME oN`.
abbrev pub watch_line : Option ClientId → Production
watch_line who = line (codes "watch") (Field.name ∷ Field.object ∷ [])
    (λ name object. Change who (Watch name object))

-- This is `unwatch NAME oN`.
abbrev pub unwatch_line : Option ClientId → Production
unwatch_line who = line (codes "unwatch") (Field.name ∷ Field.object ∷ [])
    (λ name object. Change who (Unwatch name object))

-- This is `unregister NAME REF`.
abbrev pub unregister_line : Option ClientId → Production
unregister_line who = line (codes "unregister") (Field.name ∷ Field.reference ∷ [])
    (λ name reference. Change who (Unregister name reference))

-- This is `call N PAYLOAD REF ..`, with at most 16 REF.
abbrev pub call_line : Option ClientId → Production
call_line who = record {
  word = codes "call";
  fields = Field.number ∷ Field.payload ∷ [];
  more = true;
  make = λ handle payload references. Change who (Call handle payload references);
}

-- This is `release N`.
abbrev pub release_line : Option ClientId → Production
release_line who = line (codes "release") (Field.number ∷ []) (λ handle. Change who (Release handle))

-- This is `take`.
abbrev pub take_line : Option ClientId → Production
take_line who = line (codes "take") [] (Change who Take)

-- This is `bye`.
abbrev pub bye_line : Option ClientId → Production
bye_line who = line (codes "bye") [] (Change who Die)

-- This is `hello PID UID CONTEXT`.
abbrev pub hello_line : Production
hello_line = line (codes "hello") (Field.number ∷ Field.number ∷ Field.context ∷ [])
    (λ pid uid context. Hello (record { pid = pid; uid = uid; context = context }))

-- This is `reload EXPECTED R C`.
abbrev pub reload_line : Production
reload_line = line (codes "reload") (Field.long ∷ Field.number ∷ Field.number ∷ [])
    (λ expected rules contexts. Reload expected rules contexts)

-- This is `explain SOURCE TARGET CLASS PERM`.
abbrev pub explain_line : Production
explain_line = line (codes "explain") (Field.word ∷ Field.word ∷ Field.class ∷ Field.perm ∷ [])
    (λ source target class perm. Look None (queries.Explain source target class perm))

-- This is `denials`.
abbrev pub denials_line : Production
denials_line = line (codes "denials") [] Denials

-- This is `seal`.
abbrev pub seal_line : Production
seal_line = line (codes "seal") [] Seal

-- These are a client's lines that change what is registered, and the one by which it dies.
abbrev pub registering_lines : Option ClientId → List Production
registering_lines who = add_line who ∷ watch_line who ∷ unwatch_line who ∷ unregister_line who ∷ bye_line who ∷ []

-- These are all of a client's lines.
abbrev pub client_lines : Option ClientId → List Production
client_lines who =
    get_line who ∷ check_line who ∷ list_line who ∷ version_line who ∷ call_line who ∷ release_line who
    ∷ take_line who ∷ registering_lines who

-- These are the lines of a client that come less often.
abbrev pub rare_lines : Option ClientId → List Production
rare_lines who =
    check_line who ∷ list_line who ∷ watch_line who ∷ unwatch_line who ∷ unregister_line who ∷ bye_line who ∷ []

-- These are the lines of a client's connection.
abbrev pub connection_lines : List Production
connection_lines = hello_line ∷ client_lines None

-- These are an administrator's lines that a script has, too.
abbrev pub policy_lines : List Production
policy_lines = reload_line ∷ explain_line ∷ denials_line ∷ seal_line ∷ []

-- These are the lines of an administrator's connection.
abbrev pub admin_lines : List Production
admin_lines = version_line None ∷ policy_lines

-- These are a script's lines without a client's number.
abbrev pub unnumbered_lines : List Production
unnumbered_lines = hello_line ∷ policy_lines
