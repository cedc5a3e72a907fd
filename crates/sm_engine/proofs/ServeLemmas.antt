-- How an engine's promise follows from read to read.
use Rattle.std.proofs.Common.{◌≡◌, Bool, true, false, ℕ, ◌+◌, ◌-◌, ◌<◌, ◌≤◌, length, length-append, arith, List, []}
use Rattle.std.proofs.Common.{◌++◌, take, Option, Result, Ok, Err, OnOk, OnErr, refl, subst, inl, inr, ◌⊎◌}
use Rattle.std.proofs.lemmas.List.{append-nil}
use Rattle.std.specs.Io.KnownBytes.{Appends, Consumes, Keeps}
use Rattle.sm_wire.specs.declared.item.Item.{Item}
use Rattle.sm_wire.specs.declared.kind.Kind.{Kind}
use Rattle.sm_wire.specs.Items.{Scan, IsAlive, IsDead, scan_start, items_after, scan_after, items_of, rest_of}
use Rattle.sm_wire.proofs.ItemLemmas.{items_after-append, scan_after-append}
use Rattle.sm_engine.specs.declared.fault.Fault.{Fault}
use Rattle.sm_engine.specs.declared.fault.Fault.TheVariants.{ReadFault, WriteFault, TooManyReads, LineTooLong, Memory}
use Rattle.sm_engine.specs.Running.{Answers, CaughtUp, Ended, LastRead, Wrote, Stopped, Sofar, Served, ending_of}
use Rattle.sm_engine.proofs.KnownLemmas.{Appends-then, Appends-nothing, Consumes-then, Consumes-nothing, Consumes-keeps}
use Rattle.sm_engine.proofs.RunLemmas.{Runs-append}

-- Items that were answered one list after another.
pub Wrote-then : {S : Type 0} {answers : Answers S} {old m t : S} {is js : List Item}
    {w w' w'' a a' a'' : Option (List ℕ)} → Wrote answers old is w w' a a' m → Wrote answers m js w' w'' a' a'' t
    → Wrote answers old (is ++ js) w w'' a a'' t
Wrote-then {S} {answers} {old} {m} {t} {is} {js} {w} {w'} {w''} {a} {a'} {a''} p q = record {
  replies = p.replies ++ q.replies;
  lines = p.lines ++ q.lines;
  runs = Runs-append answers old m t is js p.replies q.replies p.lines q.lines p.runs q.runs;
  wrote = Appends-then w w' w'' _ _ p.wrote q.wrote;
  audited = Appends-then a a' a'' _ _ p.audited q.audited;
}

-- Before the first read.
pub sofar_start : {S : Type 0} (kind : Kind) (answers : Answers S) (over : S → Bool)
    (s : S) (scan : Scan) (r w a : Option (List ℕ)) → scan ≡ scan_start kind → over s ≡ false
    → Sofar kind answers over 0 s scan r r w w a a s
sofar_start kind answers over s scan r w a e on = record {
  bytes = [];
  consumed = Consumes-nothing r;
  scanned = e;
  caught_up = record {
    wrote = record {
      replies = [];
      lines = [];
      runs = (refl, refl, refl);
      wrote = Appends-nothing w;
      audited = Appends-nothing a;
    };
    alive = λ h. cc;
    going_on = on;
    enough = omega arith;
  };
}

-- One more piece.
pub sofar_wrote : {S : Type 0} {kind : Kind} {n : ℕ} {answers : Answers S} {over : S → Bool} {old m t : S}
    {scan : Scan} {r r' w w' w'' a a' a'' : Option (List ℕ)} (piece : List ℕ)
    → (p : Sofar kind answers over n old scan r r' w w' a a' m)
    → Wrote answers m (items_after scan piece) w' w'' a' a'' t
    → Wrote answers old (items_of kind (p.bytes ++ piece)) w w'' a a'' t
sofar_wrote {kind = kind} {answers = answers} {m = m} {t = t} {w' = w'} {w'' = w''} {a' = a'} {a'' = a''}
    piece p q =
    rw (items_after-append (scan_start kind) p.bytes piece) (Wrote-then p.caught_up.wrote
    (subst (λ (l : Scan). Wrote answers m (items_after l piece) w' w'' a' a'' t) p.scanned q))

pub sofar_scanned : {S : Type 0} {kind : Kind} {n : ℕ} {answers : Answers S} {over : S → Bool} {old m : S} {scan : Scan}
    {r r' w w' a a' : Option (List ℕ)} (piece : List ℕ) (next : Scan)
    → (p : Sofar kind answers over n old scan r r' w w' a a' m)
    → next ≡ scan_after scan piece → next ≡ rest_of kind (p.bytes ++ piece)
sofar_scanned {kind = kind} {scan = scan} piece next p e =
    rw (scan_after-append (scan_start kind) p.bytes piece) (subst (λ
    (l : Scan). next ≡ scan_after l piece) p.scanned e)

pub sofar_next : {S : Type 0} {kind : Kind} {n : ℕ} {answers : Answers S} {over : S → Bool} {old m t : S} {scan : Scan}
    {r r' w w' w'' a a' a'' : Option (List ℕ)} (r'' : Option (List ℕ)) (piece : List ℕ)
    → (p : Sofar kind answers over n old scan r r' w w' a a' m) → Consumes r' r'' piece
    → Wrote answers m (items_after scan piece) w' w'' a' a'' t → (next : Scan) → next ≡ scan_after scan piece
    → IsAlive next → over t ≡ false → 0 < length piece → Sofar kind answers over (n + 1) old next r r'' w w'' a a'' t
sofar_next {r = r} {r' = r'} r'' piece p c q next e alive on some =
    let s = sofar_scanned piece next p e in
    record {
      bytes = p.bytes ++ piece;
      consumed = Consumes-then r r' r'' _ _ p.consumed c;
      scanned = s;
      caught_up = record {
        wrote = sofar_wrote piece p q;
        alive = subst (λ (l : Scan). IsAlive l) s alive;
        going_on = on;
        enough = omega (arith, p.caught_up.enough, length-append p.bytes piece);
      };
    }

-- Fewer reads than these.
caught_up_by : {S : Type 0} {kind : Kind} {n : ℕ} {answers : Answers S} {over : S → Bool} {old m : S} {bytes : List ℕ}
    {w w' a a' : Option (List ℕ)} (reads : ℕ) → CaughtUp kind answers over n old bytes w w' a a' m → reads ≤ n
    → CaughtUp kind answers over reads old bytes w w' a a' m
caught_up_by reads p le = record {
  wrote = p.wrote;
  alive = p.alive;
  going_on = p.going_on;
  enough = omega (arith, p.enough);
}

-- One more read gave this piece.
last_read : {S : Type 0} {kind : Kind} {n : ℕ} {answers : Answers S}
    {over : S → Bool} {old m : S} {scan : Scan} {r r' w w' a a' : Option (List ℕ)} (reads : ℕ) (piece : List ℕ)
    → (p : Sofar kind answers over n old scan r r' w w' a a' m) → reads ≤ n + 1
    → (Takes : S → List Item → Option (List ℕ) → Option (List ℕ) → Type 0) → Takes m (items_after scan piece) w' a'
    → LastRead kind answers over reads old (p.bytes ++ piece) w a Takes
last_read {m = m} {w' = w'} {a' = a'} reads piece p le Takes q = record {
  earlier = p.bytes;
  piece = piece;
  joined = refl;
  middle = m;
  w_middle = w';
  a_middle = a';
  before = caught_up_by (reads - 1) p.caught_up (omega arith);
  takes = subst (λ (l : Scan). Takes m (items_after l piece) w' a') p.scanned q;
}

-- The machine is over after this piece.
pub served_over : {S : Type 0} {kind : Kind} {n bound limit : ℕ} {answers : Answers S} {over : S → Bool} {old m t : S}
    {scan : Scan} {r r' w w' w'' a a' a'' : Option (List ℕ)} (reads : ℕ) (r'' : Option (List ℕ)) (piece : List ℕ)
    → (p : Sofar kind answers over n old scan r r' w w' a a' m) → reads ≤ n + 1 → Consumes r' r'' piece
    → Wrote answers m (items_after scan piece) w' w'' a' a'' t → over t ≡ true
    → Served kind answers over limit (Ok tt) bound reads old r r'' w w'' a a'' t
served_over {answers = answers} {t = t} {r = r} {r' = r'} {w'' = w''} {a'' = a''} reads r'' piece p le c q e = record {
  bytes = p.bytes ++ piece;
  consumed = Consumes-then r r' r'' _ _ p.consumed c;
  written = rw e (last_read reads piece p le (λ middle items w_middle a_middle.
      Wrote answers middle items w_middle w'' a_middle a'' t) q);
}

-- A line is too long in this piece.
pub served_long : {S : Type 0} {kind : Kind} {n bound limit : ℕ} {answers : Answers S} {over : S → Bool} {old m t : S}
    {scan : Scan} {r r' w w' w'' a a' a'' : Option (List ℕ)} (reads : ℕ) (r'' : Option (List ℕ)) (piece : List ℕ)
    → (p : Sofar kind answers over n old scan r r' w w' a a' m) → reads ≤ n + 1 → Consumes r' r'' piece
    → Wrote answers m (items_after scan piece) w' w'' a' a'' t → (next : Scan) → next ≡ scan_after scan piece
    → IsDead next → Served kind answers over limit (Err LineTooLong) bound reads old r r'' w w'' a a'' t
served_long {answers = answers} {t = t} {r = r} {r' = r'} {w'' = w''} {a'' = a''} reads r'' piece p le c q next e
    dead =
    let s = sofar_scanned piece next p e in
    record {
      bytes = p.bytes ++ piece;
      consumed = Consumes-then r r' r'' _ _ p.consumed c;
      written = (
        last_read reads piece p le (λ middle items w_middle a_middle.
            Wrote answers middle items w_middle w'' a_middle a'' t) q,
        subst (λ (l : Scan). IsDead l) s dead,
      );
    }

-- Memory or a writer fails in this piece.
pub served_stop : {S : Type 0} {kind : Kind} {n bound limit : ℕ} {answers : Answers S} {over : S → Bool} {old m t : S}
    {scan : Scan} {r r' w w' w'' a a' a'' : Option (List ℕ)} (reads : ℕ) (r'' : Option (List ℕ)) (piece : List ℕ)
    → (p : Sofar kind answers over n old scan r r' w w' a a' m) → reads ≤ n + 1 → Consumes r' r'' piece
    → Stopped limit answers m (items_after scan piece) w' w'' a' a'' t → (f : Fault) → (f ≡ WriteFault) ⊎ (f ≡ Memory)
    → Served kind answers over limit (Err f) bound reads old r r'' w w'' a a'' t
served_stop {limit = limit} {answers = answers} {t = t} {r = r} {r' = r'} {w'' = w''} {a'' = a''} reads r'' piece p le
    c q f which =
    let stopped = last_read reads piece p le (λ middle items w_middle a_middle.
    Stopped limit answers middle items w_middle w'' a_middle a'' t) q in
    elim which [
      | inl e ↦ rw e (record {
        bytes = p.bytes ++ piece;
        consumed = Consumes-then r r' r'' _ _ p.consumed c;
        written = inl stopped;
      })
      | inr e ↦ rw e (record {
        bytes = p.bytes ++ piece;
        consumed = Consumes-then r r' r'' _ _ p.consumed c;
        written = inl stopped;
      })
    ]

-- A read fails, or there were enough of them.
pub served_read_fault : {S : Type 0} {kind : Kind} {n bound limit : ℕ} {answers : Answers S} {over : S → Bool}
    {old m : S} {scan : Scan} {r r' w w' a a' : Option (List ℕ)} (reads : ℕ)
    → (p : Sofar kind answers over n old scan r r' w w' a a' m) → reads ≤ n + 1 → (r'' : Option (List ℕ))
    → Keeps r' r'' → Served kind answers over limit (Err ReadFault) bound reads old r r'' w w' a a' m
served_read_fault {r = r} {r' = r'} reads p le r'' q = record {
  bytes = p.bytes;
  consumed = Consumes-keeps r r' r'' _ p.consumed q;
  written = caught_up_by (reads - 1) p.caught_up (omega arith);
}

pub served_enough : {S : Type 0} {kind : Kind} {n bound limit : ℕ} {answers : Answers S} {over : S → Bool} {old m : S}
    {scan : Scan} {r r' w w' a a' : Option (List ℕ)} (reads : ℕ)
    → (p : Sofar kind answers over n old scan r r' w w' a a' m) → reads ≤ n → bound ≤ n
    → Served kind answers over limit (Err TooManyReads) bound reads old r r' w w' a a' m
served_enough reads p few le = record {
  bytes = p.bytes;
  consumed = p.consumed;
  written = (caught_up_by reads p.caught_up few, omega (arith, p.caught_up.enough));
}

-- The input ends, and this is written.
ended : {S : Type 0} {kind : Kind} {n : ℕ} {answers : Answers S} {over : S → Bool} {old m : S} {scan : Scan}
    {r r' w w' a a' : Option (List ℕ)} (reads : ℕ) → (p : Sofar kind answers over n old scan r r' w w' a a' m)
    → reads ≤ n + 1 → (w'' : Option (List ℕ)) → (said : Scan → List ℕ) → Appends w' w'' (said scan)
    → Ended kind answers over reads old p.bytes w w'' a a' (said (rest_of kind p.bytes)) m
ended {w' = w'} reads p le w'' said q = record {
  w_middle = w';
  before = caught_up_by (reads - 1) p.caught_up (omega arith);
  ended = subst (λ (l : Scan). Appends w' w'' (said l)) p.scanned q;
}

-- The input ends, whether or not the ending is written.
pub served_at_end : {S : Type 0} {kind : Kind} {n bound limit : ℕ} {answers : Answers S} {over : S → Bool} {old m : S}
    {scan : Scan} {r r' w w' a a' : Option (List ℕ)} (reads : ℕ)
    → (p : Sofar kind answers over n old scan r r' w w' a a' m) → reads ≤ n + 1 → (r'' : Option (List ℕ))
    → Consumes r' r'' [] → (w'' : Option (List ℕ)) (result : Result (Unit {0}) Fault)
    → OnOk result (Appends w' w'' (ending_of scan)) → OnErr result ((n : ℕ) × Appends w' w'' (take n (ending_of scan)))
    → OnErr result (result ≡ Err WriteFault) → Served kind answers over limit result bound reads old r r'' w w'' a a' m
served_at_end {r = r} {r' = r'} reads p le r'' c w'' (Ok tt) good bad which = record {
  bytes = p.bytes;
  consumed = rw (append-nil p.bytes) at (Consumes-then r r' r'' _ _ p.consumed c);
  written = rw p.caught_up.going_on (ended reads p le w'' (λ (l : Scan). ending_of l) good);
}
served_at_end {r = r} {r' = r'} reads p le r'' c w'' (Err f) good bad which = rw which (record {
  bytes = p.bytes;
  consumed = rw (append-nil p.bytes) at (Consumes-then r r' r'' _ _ p.consumed c);
  written = inr (bad.0, ended reads p le w'' (λ (l : Scan). take bad.0 (ending_of l)) bad.1);
})
