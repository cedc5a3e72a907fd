-- A replay of a lawful history comes to the rows that it leaves.
use Rattle.std.proofs.Common.{inl, inr, ◌≡◌, ℕ, ◌+◌, ◌<◌, ◌≤◌, List, [], ◌∷◌, ◌++◌, refl, ap, sym, ◌∙◌, subst, length}
use Rattle.std.proofs.Common.{take, drop, get_or, arith, append_assoc}
use Rattle.std.specs.Prelude.{reverse}
use Rattle.std.proofs.lemmas.List.{append-nil, reverse-append, take-append-drop}
use Rattle.sm_history.specs.declared.limits.TheConstants.{GREATEST}
use Rattle.sm_history.specs.declared.entry.Entry.{Entry}
use Rattle.sm_history.specs.declared.reply.Reply.TheVariants.{Done}
use Rattle.sm_history.specs.declared.refusal.Refusal.TheVariants.{JournalFull}
use Rattle.sm_history.specs.EarlyAnswers.{Refused}
use Rattle.sm_replay.specs.declared.replaying.Replay.{Replay}
use Rattle.sm_history.specs.Clients.{policy_at, version_at}
use Rattle.sm_history.specs.Checks.{Wants, first_failing}
use Rattle.sm_history.specs.Rows.{rows_at, resumed}
use Rattle.sm_history.specs.Openings.{Opening, blank_opening}
use Rattle.sm_history.specs.Histories.{History, whole, entered, effects_of, length_of, turn_of, client_of}
use Rattle.sm_history.specs.Verdict.{verdict, checks, has_place, outcome_of}
use Rattle.sm_history.specs.Segments.{rows_of}
use Rattle.sm_history.specs.Lawful.{IsLeft, IsOpening, AreLawful, IsLawful, HasSoundPolicy}
use Rattle.sm_history.specs.Sound.{Sound}
use Rattle.sm_replay.specs.Replaying.{HasCome, IsNext, TracksHistory, StartsFrom, start}
use Rattle.sm_history.specs.Tables.{AreLeft}
use Rattle.sm_history.specs.Segments.{joined, segment}
use Rattle.sm_replay.specs.Turning.{turn_rows}
use Rattle.sm_history.specs.Tables.{tables_of}
use Rattle.sm_replay.proofs.TurnsCounted.{rows_are}
use Rattle.sm_history.proofs.TableRows.{tables_are}
use Rattle.sm_history.proofs.SoundHistory.{met}
use Rattle.sm_history.proofs.RowsSound.{sound_back, sim_rows, rows_alike}
use Rattle.sm_history.proofs.Induction.{sound_apart, sound_lawful}
use Rattle.sm_history.proofs.NumbersFit.{counts_each, numbers_fit}
use Rattle.sm_history.proofs.HistoryLaws.{turns_small}
use Rattle.sm_history.proofs.Versions.{version_small}
use Rattle.sm_history.proofs.Listing.{outcome_is}
use Rattle.sm_history.proofs.SegmentLengths.{take_item, first_part, joined_more, at_chunk}
use Rattle.sm_replay.proofs.ReplaySteps.{sound_start, opening_next}
use Rattle.std.proofs.lemmas.List.{take_all}

-- ---- the next change of a lawful history

under : (a b g : ℕ) → a ≤ b → b < g → a < g
under a b g le lt = omega (arith, le, lt)

pub is_next : (places : ℕ) (h : History) (e : Entry) → IsLawful places h
    → verdict places h e.by e.turn e.event ≡ Done e.outcome → HasSoundPolicy e.event → IsNext h e
is_next places h e l done ok =
    let d = effects_of h in
    let c = client_of e.by in
    let last = Wants (has_place places h c e.event) (Refused JournalFull) ∷ [] in
    let m = met d (turn_of h e.by) e.by e.turn e.event last e.outcome done in
    let after = numbers_fit places (entered e h) (inr (l, (done, ok))) in
    let small = first_part (length_of h) _ GREATEST (numbers_fit places h l).lengths in
    record {
      done = record {
        acts = m.acts;
        passes = m.passes;
        outcome_is = outcome_is (first_failing (policy_at d) (checks places h e.by e.turn e.event))
            (outcome_of d c e.event) e.outcome done;
        fits = counts_each (effects_of (entered e h)) after.counts;
        version = under (version_at d) (length_of h) GREATEST (version_small places h l) small;
      };
      turns = λ by. under (turn_of h by) (length_of h) GREATEST (turns_small places h l by) small;
      length = small;
    }

-- ---- where a replay begins

zero_more : (v w : ℕ) → v ≡ w → v ≡ w + 0
zero_more v w e = omega (arith, e)

begins : (number : ℕ) (o : Opening) (r : Replay) → StartsFrom o r → Sound (resumed o.tables)
    → o.tables ≡ rows_at (resumed o.tables) → TracksHistory (record { number = number; opening = o; entries = [] }) r
begins number o r s sound rows = record {
  tables = s.tables (resumed o.tables) sound rows;
  turning = record {
    made_is = λ b. zero_more _ _ (s.turning.made_is b);
    order = s.turning.order;
    known = s.turning.known;
  };
  length = zero_more r.length o.length s.length;
}

starts_left : (number : ℕ) (o : Opening) (r : Replay) → IsLeft o → StartsFrom o r
    → TracksHistory (record { number = number; opening = o; entries = [] }) r
starts_left number o r (a, l, is) s =
    let d = effects_of (whole a) in
    let sound = sound_apart a l in
    begins number o r s (rw is (sound_back d sound)) (rw is (rows_alike d (resumed (rows_at d)) (sim_rows d sound)))

starts_nothing : (number : ℕ) (o : Opening) (r : Replay) → o ≡ blank_opening → StartsFrom o r
    → TracksHistory (record { number = number; opening = o; entries = [] }) r
starts_nothing number o r is s = begins number o r s (rw is (sound_start number)) (rw is refl)

pub has_begun : (places number : ℕ) (o : Opening) (es : List Entry) (r : Replay) → AreLawful places number o es
    → StartsFrom o r → HasCome places number o [] r
has_begun places number o [] r (left, fits) s = (inr (left, fits), starts_left number o r left s)
has_begun places number o (e ∷ es) r (inl (first, is, none, opens)) s = (inl (is, refl), starts_nothing number o r is s)
has_begun places number o (e ∷ es) r (inr (before, (done, ok))) s = has_begun places number o es r before s

-- ---- one entry more

-- What entering an entry promises.
abbrev pub EntersOne : Entry → Replay → Replay → Type 0
EntersOne e r r' = (h : History) → Sound (effects_of h) → TracksHistory h r → IsNext h e
    → TracksHistory (entered e h) r'

not_empty : (e : Entry) (es : List Entry) → (let l : List Entry = e ∷ es in l) ≡ [] → ⊥
not_empty e es is = cc

not_behind : (zs : List Entry) (e : Entry) (es : List Entry) → zs ++ e ∷ es ≡ [] → ⊥
not_behind [] e es is = not_empty e es is
not_behind (z ∷ zs) e es is = not_empty z (zs ++ e ∷ es) is

opened : (number : ℕ) (o : Opening) (e : Entry) (es : List Entry) (r r' : Replay) → o ≡ blank_opening → es ≡ []
    → IsOpening e → EntersOne e r r' → TracksHistory (record { number = number; opening = o; entries = es }) r
    → TracksHistory (record { number = number; opening = o; entries = e ∷ es }) r'
opened number o e es r r' is none opens one tr =
    rw (is, none) (one (start number) (sound_start number) (rw (is, none) at tr) (opening_next number e opens))

pub comes_on : (places number : ℕ) (o : Opening) (e : Entry) (es : List Entry) (r r' : Replay)
    → AreLawful places number o (e ∷ es) → EntersOne e r r' → HasCome places number o es r
    → HasCome places number o (e ∷ es) r'
comes_on places number o e es r r' (inl (first, is, none, opens)) one (come, tr) =
    (inr (inl (first, is, none, opens)), opened number o e es r r' is none opens one tr)
comes_on places number o e es r r' (inr (before, (done, ok))) one (come, tr) =
    let h : History = record { number = number; opening = o; entries = es } in (
      inr (inr (before, (done, ok))),
      one h (sound_lawful places h before) tr (is_next places h e before done ok),
    )

pub has_ended : (places number : ℕ) (o : Opening) (es : List Entry) (r : Replay) → AreLawful places number o es
    → HasCome places number o es r → TracksHistory (record { number = number; opening = o; entries = es }) r
has_ended places number o es r l (come, tr) = tr

-- ---- the older entries of lawful ones

pub lawful_older : (places number : ℕ) (o : Opening) (zs : List Entry) (e : Entry) (es : List Entry)
    → AreLawful places number o (zs ++ e ∷ es) → AreLawful places number o (e ∷ es)
lawful_older places number o [] e es l = l
lawful_older places number o (z ∷ zs) e es (inl (first, is, none, opens)) = absurd (not_behind zs e es none)
lawful_older places number o (z ∷ zs) e es (inr (before, (done, ok))) = lawful_older places number o zs e es before

-- ---- the rows

pub rows_come : (places : ℕ) (h : History) (r : Replay) → IsLawful places h → TracksHistory h r
    → (let o : Opening = record {
      tables = tables_of r.tables;
      length = r.length;
      turns = turn_rows r.turning r.tables.live.items;
    } in o) ≡ rows_of h
rows_come places h r l tr =
    let tables = tables_are (effects_of h) r.tables (sound_lawful places h l) tr.tables in
    let turns = rows_are h r.turning r.tables.live.items tr.turning tr.tables.live.ids in
    rw (tables, tr.length, turns) refl

pub are_left : (places : ℕ) (h : History) (r : Replay) → IsLawful places h → TracksHistory h r → AreLeft r.tables
are_left places h r l tr = (effects_of h, sound_lawful places h l, tr.tables)

-- ---- entries in order

older : (zs es rest : List Entry) (i : ℕ) (e : Entry) → i < length es → e ≡ get_or es i e
    → reverse (zs ++ (es ++ rest)) ≡ reverse (drop (i + 1) es ++ rest) ++ e ∷ reverse (zs ++ take i es)
older zs es rest i e lt is =
    let xs = take i es in
    let ys = drop (i + 1) es in
    ap (λ (l : List Entry). reverse (zs ++ (l ++ rest))) (sym (take-append-drop (i + 1) es)
    ∙ ap (λ (l : List Entry). l ++ ys) (take_item es i e lt is))
    ∙ ap (λ (l : List Entry). reverse (zs ++ l)) (append_assoc (xs ++ e ∷ []) ys rest
    ∙ append_assoc xs (e ∷ []) (ys ++ rest))
    ∙ ap (λ (l : List Entry). reverse l) (sym (append_assoc zs xs (e ∷ (ys ++ rest)))
    ∙ sym (append_assoc (zs ++ xs) (e ∷ []) (ys ++ rest)))
    ∙ reverse-append ((zs ++ xs) ++ e ∷ []) (ys ++ rest)
    ∙ ap (λ (l : List Entry). reverse (ys ++ rest) ++ l) (reverse-append (zs ++ xs) (e ∷ []))

pub one_more : (places number : ℕ) (o : Opening) (zs es rest : List Entry) (i : ℕ) (e : Entry) (r r' : Replay)
    → i < length es → e ≡ get_or es i e → IsLawful places (segment number o (zs ++ (es ++ rest))) → EntersOne e r r'
    → HasCome places number o (reverse (zs ++ take i es)) r → HasCome places number o (reverse (zs ++ take
    (i + 1) es)) r'
one_more places number o zs es rest i e r r' lt is l one come =
    let xs = take i es in
    let lawful : AreLawful places number o (e ∷ reverse (zs ++ xs)) =
    lawful_older places number o (reverse (drop (i + 1) es ++ rest)) e (reverse (zs ++ xs))
    (subst (λ (v : List Entry). AreLawful places number o v) (older zs es rest i e lt is) l) in
    rw (take_item es i e lt is, ← append_assoc zs xs (e ∷ []), reverse-append (zs ++ xs) (e ∷ []))
    (comes_on places number o e (reverse (zs ++ xs)) r r' lawful one come)

take_none : {X : Type 0} (xs : List X) → take 0 xs ≡ []
take_none [] = refl
take_none (x ∷ xs) = refl

pub none_yet : (places number : ℕ) (o : Opening) (zs es : List Entry) (r : Replay)
    → HasCome places number o (reverse zs) r → HasCome places number o (reverse (zs ++ take 0 es)) r
none_yet places number o zs es r come =
    rw (take_none es, append-nil zs) come

pub all_come : (places number : ℕ) (o : Opening) (zs es : List Entry) (i : ℕ) (r : Replay) → length es ≤ i
    → HasCome places number o (reverse (zs ++ take i es)) r → HasCome places number o (reverse (zs ++ es)) r
all_come places number o zs es i r le come =
    subst (λ (v : List Entry). HasCome places number o (reverse (zs ++ v)) r) (take_all i es le) come

-- ---- chunks in order

-- What entering a chunk promises.
abbrev pub EntersChunk : List Entry → Replay → Replay → Type 0
EntersChunk c r r' = (places number : ℕ) (o : Opening) (zs rest : List Entry)
    → IsLawful places (segment number o (zs ++ (c ++ rest))) → HasCome places number o (reverse zs) r
    → HasCome places number o (reverse (zs ++ c)) r'

pub one_chunk : (places number : ℕ) (o : Opening) (cs : List (List Entry)) (c rest : List Entry) (i : ℕ) (r r' : Replay)
    → i < length cs → c ≡ get_or cs i c → IsLawful places (segment number o (joined cs ++ rest)) → EntersChunk c r r'
    → HasCome places number o (reverse (joined (take i cs))) r
    → HasCome places number o (reverse (joined (take (i + 1) cs))) r'
one_chunk places number o cs c rest i r r' lt is l enters come =
    rw (take_item cs i c lt is, joined_more (take i cs) c)
    (enters places number o (joined (take i cs)) (joined (drop (i + 1) cs) ++ rest)
    (rw (at_chunk cs c rest i lt is) at l) come)

pub no_chunk : (places number : ℕ) (o : Opening) (cs : List (List Entry)) (r : Replay) → HasCome places number o [] r
    → HasCome places number o (reverse (joined (take 0 cs))) r
no_chunk places number o cs r come =
    subst (λ (v : List (List Entry)). HasCome places number o (reverse (joined v)) r) (sym (take_none cs)) come

pub all_chunks : (places number : ℕ) (o : Opening) (cs : List (List Entry)) (i : ℕ) (r : Replay) → length cs ≤ i
    → HasCome places number o (reverse (joined (take i cs))) r → HasCome places number o (reverse (joined cs)) r
all_chunks places number o cs i r le come =
    subst (λ (v : List (List Entry)). HasCome places number o (reverse (joined v)) r) (take_all i cs le) come

-- What entering chunks promises.
abbrev EntersChunks : List (List Entry) → Replay → Replay → Type 0
EntersChunks cs r r' = (places number : ℕ) (o : Opening) (rest : List Entry)
    → IsLawful places (segment number o (joined cs ++ rest)) → HasCome places number o [] r
    → HasCome places number o (reverse (joined cs)) r'

-- Both parts of a segment, from its beginning, as the code takes them.
pub run : (places number : ℕ) (o : Opening) (cs full : List (List Entry)) (es last : List Entry) (a b c : Replay)
    → IsLawful places (segment number o (joined cs ++ es)) → StartsFrom o a → full ≡ cs → last ≡ es
    → EntersChunks full a b → EntersChunk last b c → TracksHistory (segment number o (joined cs ++ es)) c
run places number o cs full es last a b c l s is_full is_last chunks chunk =
    let all = joined cs ++ es in
    has_ended places number o (reverse all) c l
    (subst (λ (v : List Entry). EntersChunk v b c) is_last chunk places number o (joined cs) []
    (subst (λ (v : List Entry). IsLawful places (segment number o (joined cs ++ v))) (sym (append-nil es)) l)
    (subst (λ (v : List (List Entry)). EntersChunks v a b) is_full chunks places number o es l
    (has_begun places number o (reverse all) a l s)))

-- A segment is one of its number, its opening and its entries.
pub are_parts : (h : History) (full : List (List Entry)) (last : List Entry)
    → h.entries ≡ reverse (joined full ++ last)
    → h ≡ segment h.number h.opening (joined full ++ last)
are_parts h full last is =
    ap (λ (v : List Entry). let g : History = record { number = h.number; opening = h.opening; entries = v } in g) is
