-- Lines that are written through a buffer.
use Rattle.std.proofs.Common.{◌≡◌, ℕ, ◌+◌, ◌<◌, ◌≤◌, List, [], ◌∷◌, ◌++◌, length, take, drop, get_or, Option}
use Rattle.std.proofs.Common.{refl, sym, ◌∙◌, ap, append_assoc, arith}
use Rattle.std.specs.List.{flat_map}
use Rattle.std.proofs.lemmas.List.{append-nil, take-append-drop, take_all, take_more}
use Rattle.std.proofs.lemmas.Grind.{common_steps, flat_map-append}
use Rattle.std.specs.Io.KnownBytes.{Appends}
use Rattle.std.proofs.KnownBytes.{Appends-nil, Appends-trans}
use Rattle.sm_questions.specs.Buffered.{Passes, Stops}

-- ---- one step after another

pub passes_held : (a : Option (List ℕ)) (held rest lines : List ℕ) → rest ≡ held ++ lines → Passes a a held rest lines
passes_held a held rest lines e = record { written = []; appended = Appends-nil a; joined = sym e }

pub passes_none : (a : Option (List ℕ)) (held : List ℕ) → Passes a a held held []
passes_none a held = passes_held a held held [] (sym (append-nil held))

pub passes_all : (a b : Option (List ℕ)) (held : List ℕ) → Appends a b held → Passes a b held [] []
passes_all a b held p = record { written = held; appended = p; joined = refl }

pub stops_none : (a : Option (List ℕ)) (held lines : List ℕ) → Stops a a held lines
stops_none a held lines = record { written = []; missing = held ++ lines; appended = Appends-nil a; joined = refl }

pub stops_front : (a b : Option (List ℕ)) (held : List ℕ) (n : ℕ) → Appends a b (take n held) → Stops a b held []
stops_front a b held n p = record {
  written = take n held;
  missing = drop n held;
  appended = p;
  joined = append-nil held ∙ sym (take-append-drop n held);
}

pub passes_then : {a b c : Option (List ℕ)} {held rest next : List ℕ} (lines more : List ℕ)
    → Passes a b held rest lines → Passes b c rest next more → Passes a c held next (lines ++ more)
passes_then {a} {b} {c} {held} {rest} {next} lines more p q = record {
  written = p.written ++ q.written;
  appended = Appends-trans a b c _ _ p.appended q.appended;
  joined = rw (← append_assoc, p.joined, append_assoc, q.joined, append_assoc) refl;
}

pub stops_then : {a b c : Option (List ℕ)} {held rest : List ℕ} (lines more : List ℕ)
    → Passes a b held rest lines → Stops b c rest more → Stops a c held (lines ++ more)
stops_then {a} {b} {c} {held} {rest} lines more p q = record {
  written = p.written ++ q.written;
  missing = q.missing;
  appended = Appends-trans a b c _ _ p.appended q.appended;
  joined = rw (← append_assoc, p.joined, append_assoc, q.joined, append_assoc) refl;
}

pub stops_more : {a b : Option (List ℕ)} {held : List ℕ} (lines more : List ℕ) → Stops a b held lines
    → Stops a b held (lines ++ more)
stops_more {a} {b} {held} lines more p = record {
  written = p.written;
  missing = p.missing ++ more;
  appended = p.appended;
  joined = rw (← append_assoc, p.joined, append_assoc) refl;
}

-- Lines that are held before the buffer is written.
pub passes_filled : {b c : Option (List ℕ)} {rest filled next lines : List ℕ} → filled ≡ rest ++ lines
    → Passes b c filled next [] → Passes b c rest next lines
passes_filled {b} {c} {rest} {filled} {next} {lines} e q = record {
  written = q.written;
  appended = q.appended;
  joined = sym (append-nil filled ∙ e) ∙ q.joined;
}

pub stops_filled : {b c : Option (List ℕ)} {rest filled lines : List ℕ} → filled ≡ rest ++ lines
    → Stops b c filled [] → Stops b c rest lines
stops_filled {b} {c} {rest} {filled} {lines} e q = record {
  written = q.written;
  missing = q.missing;
  appended = q.appended;
  joined = sym (append-nil filled ∙ e) ∙ q.joined;
}

-- ---- the lines of a list

pub flat_step : {A : Type 0} (f : A → List ℕ) (xs : List A) (i : ℕ) (d : A) → i < length xs
    → flat_map f (take (i + 1) xs) ≡ flat_map f (take i xs) ++ f (get_or xs i d)
flat_step f xs i d lt = ap (flat_map f) (take_more xs i d lt) ∙ flat_map-append f (take i xs) (get_or xs i d ∷ [])
    ∙ ap (λ l. flat_map f (take i xs) ++ l) (append-nil (f (get_or xs i d)))

flat_split : {A : Type 0} (f : A → List ℕ) (xs : List A) (i : ℕ) (d : A) → i < length xs
    → flat_map f xs ≡ (flat_map f (take i xs) ++ f (get_or xs i d)) ++ flat_map f (drop (i + 1) xs)
flat_split f xs i d lt = ap (flat_map f) (sym (take-append-drop (i + 1) xs))
    ∙ flat_map-append f (take (i + 1) xs) (drop (i + 1) xs)
    ∙ ap (λ l. l ++ flat_map f (drop (i + 1) xs)) (flat_step f xs i d lt)

-- The lines of one more entry are appended to what is held.
pub held_step : {A : Type 0} {held next : List ℕ} (f : A → List ℕ) (xs : List A) (i : ℕ) (d : A) (first : List ℕ)
    → i < length xs
    → held ≡ first ++ flat_map f (take i xs) → next ≡ held ++ f (get_or xs i d)
    → next ≡ first ++ flat_map f (take (i + 1) xs)
held_step {A} {held} {next} f xs i d first lt p q = q ∙ rw (p, flat_step f xs i d lt, append_assoc) refl

pub held_list : {A : Type 0} {held : List ℕ} (f : A → List ℕ) (xs : List A) (i : ℕ) (first : List ℕ) → length xs ≤ i
    → held ≡ first ++ flat_map f (take i xs) → held ≡ first ++ flat_map f xs
held_list {A} {held} f xs i first le p = rw (take_all i xs le) at p

-- The same through a buffer.
pub passes_entry : {A : Type 0} {a b c : Option (List ℕ)} {held rest next : List ℕ} (f : A → List ℕ) (xs : List A)
    (i : ℕ) (d : A) → i < length xs → Passes a b held rest (flat_map f (take i xs))
    → Passes b c rest next (f (get_or xs i d)) → Passes a c held next (flat_map f (take (i + 1) xs))
passes_entry f xs i d lt p q = rw (flat_step f xs i d lt) (passes_then _ _ p q)

pub stops_entry : {A : Type 0} {a b c : Option (List ℕ)} {held rest : List ℕ} (f : A → List ℕ) (xs : List A)
    (i : ℕ) (d : A) → i < length xs → Passes a b held rest (flat_map f (take i xs))
    → Stops b c rest (f (get_or xs i d)) → Stops a c held (flat_map f xs)
stops_entry f xs i d lt p q = rw (flat_split f xs i d lt) (stops_more _ _ (stops_then _ _ p q))

-- The lines of an entry are held, and then the buffer is written if it is full.
pub passes_step : {A : Type 0} {a b c : Option (List ℕ)} {held rest filled next : List ℕ} (f : A → List ℕ)
    (xs : List A) (i : ℕ) (d : A) → i < length xs → Passes a b held rest (flat_map f (take i xs))
    → filled ≡ rest ++ f (get_or xs i d) → Passes b c filled next []
    → Passes a c held next (flat_map f (take (i + 1) xs))
passes_step f xs i d lt p e q = passes_entry f xs i d lt p (passes_filled e q)

pub stops_step : {A : Type 0} {a b c : Option (List ℕ)} {held rest filled : List ℕ} (f : A → List ℕ) (xs : List A)
    (i : ℕ) (d : A) → i < length xs → Passes a b held rest (flat_map f (take i xs))
    → filled ≡ rest ++ f (get_or xs i d) → Stops b c filled [] → Stops a c held (flat_map f xs)
stops_step f xs i d lt p e q = stops_entry f xs i d lt p (stops_filled e q)

pub stops_lost : {A : Type 0} {a b : Option (List ℕ)} {held rest : List ℕ} (f : A → List ℕ) (xs : List A) (i : ℕ)
    → Passes a b held rest (flat_map f (take i xs)) → Stops a b held (flat_map f xs)
stops_lost {A} {a} {b} {held} {rest} f xs i p =
    rw (← take-append-drop i xs, flat_map-append f (take i xs) (drop i xs))
    (stops_then _ _ p (stops_none b rest (flat_map f (drop i xs))))

pub passes_list : {A : Type 0} {a b : Option (List ℕ)} {held rest : List ℕ} (f : A → List ℕ) (xs : List A) (i : ℕ)
    → length xs ≤ i → Passes a b held rest (flat_map f (take i xs)) → Passes a b held rest (flat_map f xs)
passes_list f xs i le p = rw (take_all i xs le) at p

-- ---- the end

front : (a b : Option (List ℕ)) (written missing lines : List ℕ) → Appends a b written → lines ≡ written ++ missing
    → (n : ℕ) × Appends a b (take n lines)
front a b written missing lines p e =
    let prefix : take (length written) lines ≡ written = grind (arith, common_steps) in
    (length written, rw prefix p)

pub passes_front : {a b : Option (List ℕ)} {held lines : List ℕ} (c : Option (List ℕ)) (n : ℕ)
    → Passes a b [] held lines → Appends b c (take n held) → (m : ℕ) × Appends a c (take m lines)
passes_front {a} {b} {held} {lines} c n p q =
    front a c (p.written ++ take n held) (drop n held) lines (Appends-trans a b c _ _ p.appended q)
    (rw (append_assoc, take-append-drop n held) p.joined)

pub passes_whole : {a b : Option (List ℕ)} {held lines : List ℕ} (c : Option (List ℕ)) → Passes a b [] held lines
    → Appends b c held → Appends a c lines
passes_whole {a} {b} {held} {lines} c p q = rw p.joined (Appends-trans a b c p.written held p.appended q)

pub stops_end : {a b : Option (List ℕ)} {lines : List ℕ} → Stops a b [] lines → (n : ℕ) × Appends a b (take n lines)
stops_end {a} {b} {lines} p = front a b p.written p.missing lines p.appended p.joined
