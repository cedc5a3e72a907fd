-- One read or write after another, on the bytes that are known.
use Rattle.std.proofs.Common.{◌≡◌, ℕ, ◌+◌, ◌-◌, ◌≤◌, List, [], ◌∷◌, ◌++◌, length, take, drop, Option, Some, None}
use Rattle.std.proofs.Common.{refl, sym}
use Rattle.std.proofs.Common.{◌∙◌, ap, append_assoc, arith, length-append}
use Rattle.std.proofs.lemmas.List.{append-nil, take-take, take-append-drop}
use Rattle.std.proofs.Math.Seq.{take-add}
use Rattle.std.specs.Io.KnownBytes.{Appends, Consumes, Keeps}
use Rattle.sm_engine.specs.Running.{Spilled, Pending, Partly}

pub Appends-then : (a b c : Option (List ℕ)) (x y : List ℕ) → Appends a b x → Appends b c y → Appends a c (x ++ y)
Appends-then None b c x y p q = tt
Appends-then (Some xs) None c x y p q = absurd p
Appends-then (Some xs) (Some ys) None x y p q = absurd q
Appends-then (Some xs) (Some ys) (Some zs) x y p q = q ∙ rw (p, append_assoc) refl

pub Appends-nothing : (a : Option (List ℕ)) → Appends a a []
Appends-nothing None = tt
Appends-nothing (Some xs) = sym (append-nil xs)

pub Consumes-then : (a b c : Option (List ℕ)) (x y : List ℕ) → Consumes a b x → Consumes b c y → Consumes a c (x ++ y)
Consumes-then None b c x y p q = tt
Consumes-then (Some xs) None c x y p q = absurd p
Consumes-then (Some xs) (Some ys) None x y p q = absurd q
Consumes-then (Some xs) (Some ys) (Some zs) x y p q = p ∙ rw (q, append_assoc) refl

pub Consumes-nothing : (a : Option (List ℕ)) → Consumes a a []
Consumes-nothing None = tt
Consumes-nothing (Some xs) = refl

-- One more write of a text, of which `at` bytes are written.
pub Appends-more : (a b c : Option (List ℕ)) (text : List ℕ) (at n : ℕ) → n ≤ length text - at
    → Appends a b (take at text) → Appends b c (take n (take (length text - at) (drop at text)))
    → Appends a c (take (at + n) text)
Appends-more a b c text at n le p q = rw (take-add at n text) (Appends-then a b c _ _ p
    (rw (take-take n (length text - at) (drop at text) le) at q))

pub Spilled-none : (a : Option (List ℕ)) (held : List ℕ) → Spilled a a held held
Spilled-none a held = record { written = []; appended = Appends-nothing a; joined = refl }

pub Spilled-front : (a b : Option (List ℕ)) (held : List ℕ) (n : ℕ) → Appends a b (take n held)
    → Spilled a b held (drop n held)
Spilled-front a b held n p = record { written = take n held; appended = p; joined = sym (take-append-drop n held) }

pub Pending-spill : {a b c : Option (List ℕ)} {held rest whole : List ℕ} → Pending a b held whole
    → Spilled b c held rest → Pending a c rest whole
Pending-spill {a} {b} {c} {held} {rest} {whole} p s = record {
  written = p.written ++ s.written;
  appended = Appends-then a b c _ _ p.appended s.appended;
  joined = p.joined ∙ rw (s.joined, append_assoc) refl;
}

pub Pending-more : {a b : Option (List ℕ)} {held held' whole : List ℕ} (more : List ℕ) → Pending a b held whole
    → held' ≡ held ++ more → Pending a b held' (whole ++ more)
Pending-more {a} {b} {held} {held'} {whole} more p e = record {
  written = p.written;
  appended = p.appended;
  joined = rw (p.joined, e, append_assoc) refl;
}

pub Pending-end : {a b : Option (List ℕ)} {held whole : List ℕ} → Pending a b held whole → length held ≤ 0
    → Appends a b whole
Pending-end {held = []} p le = rw (p.joined, append-nil p.written) p.appended
Pending-end {held = x ∷ xs} p le = absurd (omega arith)

pub Consumes-keeps : (a b c : Option (List ℕ)) (x : List ℕ) → Consumes a b x → Keeps b c → Consumes a c x
Consumes-keeps None b c x p q = tt
Consumes-keeps (Some xs) None c x p q = absurd p
Consumes-keeps (Some xs) (Some ys) None x p q = absurd q
Consumes-keeps (Some xs) (Some ys) (Some zs) x p q = rw q p

-- What was held, and the text of the last item, is spilled.
pub Partly-spilled : {a b c : Option (List ℕ)} {held whole : List ℕ} (limit : ℕ) (more : List ℕ) {held' rest : List ℕ}
    → Pending a b held whole → length held ≤ limit - 1 → held' ≡ held ++ more → Spilled b c held' rest
    → Partly limit a c whole more
Partly-spilled {a} {b} {c} {held} {whole} limit more {held'} {rest} p short e s = record {
  written = p.written ++ s.written;
  missing = rest;
  appended = Appends-then a b c _ _ p.appended s.appended;
  joined = rw (p.joined, append_assoc, ← e, s.joined, append_assoc) refl;
  short = omega (arith, ap length p.joined, length-append p.written held, length-append p.written s.written);
}
