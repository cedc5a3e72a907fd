-- The item of a request, appended where it lies.
use Rattle.std.specs.Prelude.{◌≡◌, List, [], ◌∷◌, ◌++◌, Option, Some, None, Result, Ok, Err}
use Rattle.sm_wire.specs.declared.item.Follows.{Follows, TheVariants.Line, TheVariants.Files}
use Rattle.sm_wire.specs.declared.item.Item.{Item}
use Rattle.sm_wire.specs.declared.item.Item.TheVariants.{Asked}
use Rattle.sm_wire.specs.declared.read_error.ReadError.{ReadError, TheVariants.Malformed, TheVariants.Memory}
use Rattle.sm_wire.specs.declared.request.Request.{Request}
use Rattle.sm_wire.specs.Grammar.{header_by}

-- The item of this request was appended.
abbrev pub Appended : Option Request → List Item → List Item → Type 0
Appended (Some request) old new = new ≡ old ++ Asked request ∷ []
Appended None old new = ⊥

-- The request of the grammar was appended, and if another line follows, it announces no files. `Malformed` means that
-- there is none. Out of memory may come for any bytes. After an error nothing was appended.
abbrev pub Gives : Result Follows ReadError → List Item → List Item → Option Request → Type 0
Gives (Ok Line) old new o = Appended o old new × (header_by o ≡ None)
Gives (Ok Files) old new o = Appended o old new
Gives (Err Malformed) old new o = (o ≡ None) × (new ≡ old)
Gives (Err Memory) old new o = new ≡ old
