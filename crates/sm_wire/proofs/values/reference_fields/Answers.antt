use Rattle.std.proofs.Common.{◌≡◌, ◌++◌, ◌∷◌, [], List, Option, Some, None, append_assoc, append-nil, refl, sym, ap, ℕ}
use Rattle.std.proofs.Common.{rules, Err}
use Rattle.std.specs.Option.{option_map, option_and_then}
use Rattle.sm_values.specs.declared.number.ObjRef.{ObjRef}
use Rattle.sm_wire.specs.declared.read_error.ReadError.{ReadError}
use Rattle.sm_wire.specs.declared.read_error.ReadError.TheVariants.{Malformed, Memory}
use Rattle.sm_wire.specs.Reading.{ReadsAs}
use Rattle.sm_wire.specs.Values.{reference_of, references_of, call_references_of, fitting_references}
use Rattle.sm_wire.proofs.values.reference_fields.Goals as goal

-- Behind those that were read.
abbrev behind : List ObjRef → Option (List ObjRef) → Option (List ObjRef)
behind list o = option_map (λ others. list ++ others) o

first_moves : (list : List ObjRef) (r : ObjRef) (o : Option (List ObjRef))
    → behind list (option_and_then (λ others. Some (r ∷ others)) o) ≡ behind (list ++ r ∷ []) o
first_moves list r (Some others) = ap Some (sym (append_assoc list (r ∷ []) others))
first_moves list r None = refl

-- One more reference is read.
more : (whole fields rest : List (List ℕ)) (field : List ℕ) (list all : List ObjRef) (r : ObjRef)
    → fields ≡ field ∷ rest → reference_of field ≡ Some r → all ≡ list ++ r ∷ []
    → references_of whole ≡ behind list (references_of fields) → references_of whole ≡ behind all (references_of rest)
unfolding references_of
more whole fields rest field list all r next e is inv =
    let first : references_of fields ≡ option_and_then (λ others. Some (r ∷ others)) (references_of rest) =
    rw (next, e) refl in
    rw (inv, first, is) (first_moves list r (references_of rest))

-- What is no reference.
refused : (e : ReadError) (whole fields rest : List (List ℕ)) (field : List ℕ) (list : List ObjRef)
    → fields ≡ field ∷ rest → ReadsAs {A = ObjRef} (Err e) (reference_of field)
    → references_of whole ≡ behind list (references_of fields)
    → ReadsAs {A = List ObjRef} (Err e) (call_references_of whole)
unfolding references_of call_references_of
refused Malformed whole fields rest field list next none inv =
    let first : references_of fields ≡ None = rw (next, none) refl in
    let all : references_of whole ≡ None = rw (inv, first) refl in
    rw all refl
refused Memory whole fields rest field list next none inv = tt

-- All are read.
ends : (whole fields : List (List ℕ)) (list : List ObjRef) → fields ≡ []
    → references_of whole ≡ behind list (references_of fields) → call_references_of whole ≡ fitting_references list
unfolding references_of call_references_of
ends whole fields list none inv =
    let all : references_of whole ≡ Some list = rw (inv, none, append-nil list) refl in
    rw all refl

pub loop-field-preserved : goal.loop-field-preserved
loop-field-preserved c =
    let is : c.push.new.self.items ≡ c.loop-field.list.items ++ c.in_ok-reference.reference ∷ [] =
    rw c.if-is_err.ensures.negation at c.push.ensures.items in
    more _ _ _ _ _ _ _ c.in-Ok-field.ensures c.in_ok-reference.ensures is c.loop-field.invariant

pub returns-in_err-reference : goal.returns-in_err-reference
returns-in_err-reference c =
    let no = refused _ _ _ _ _ _ c.in-Ok-field.ensures c.in_err-reference.ensures c.loop-field.invariant in search rules

pub returns : goal.returns
returns c = rw (ends _ _ _ c.in_default-field.ensures.1 c.loop-field.invariant) c.references.ensures
