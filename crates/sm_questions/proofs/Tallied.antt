-- Accesses that are counted, one after another.
use Rattle.std.proofs.Common.{◌≡◌, ◌∙◌, ℕ, ◌+◌, ◌*◌, ◌<◌, ◌≤◌, ◌^◌, Bool, true, false, cond, List, [], ◌∷◌, ◌++◌}
use Rattle.std.proofs.Common.{Option, None, Some, All, length, take, get_or, nat_eq, refl, sym, ap, inl, inr, arith}
use Rattle.std.specs.Prelude.{◌⊎◌, find, if◌then◌else◌, max, option_map, set}
use Rattle.std.specs.List.{flat_map}
use Rattle.std.proofs.lemmas.Bool.{cases_eq, cases_lt, eq-eqb, ne_eqb, lt-ltb, le-ltb}
use Rattle.std.proofs.lemmas.List.{append-nil, get_or-set_other, get_or-set_same, length-append, length-set, take_all}
use Rattle.std.proofs.lemmas.List.{take_more}
use Rattle.std.proofs.lemmas.Nat.{mul-le}
use Rattle.std.proofs.lemmas.List.Concat.{length-flat_map}
use Rattle.std.proofs.lemmas.List.Sums.{count_by-le-length, sum_by-append, sum_by-le}
use Rattle.std.proofs.lemmas.Grind.{common_steps, flat_map-append}
use Rattle.sm_ruletext.specs.declared.rule.Rule.{Rule}
use Rattle.sm_ruletext.specs.declared.statement.RuleKind.TheVariants.{Allow}
use Rattle.sm_rules.specs.Access as access
use Rattle.sm_rules.specs.Keeping.{AllStandFor, KeptRules, RulesOf, class_at, perm_at, rules_in}
use Rattle.sm_ruletext.specs.declared.statement.Statement.{Statement}
use Rattle.sm_rules.proofs.Lines.{lines_of, written_is}
use Rattle.sm_rules.specs.declared.kept.Kept.{Kept}
use Rattle.sm_policy.specs.Policy.{Policy, written_at}
use Rattle.sm_types.specs.Denoting.{types}
use Rattle.sm_types.specs.Names.{Name, at}
use Rattle.sm_questions.specs.Accesses.{perm_numbers}
use Rattle.sm_questions.specs.Differences.{is_lost, lost, lost_line, lost_pair, lost_perm, lost_source}
use Rattle.sm_questions.specs.FirstLines.{HasFound, HasPair, IsTable}
use Rattle.sm_questions.specs.Granted.{LosesNothing}
use Rattle.sm_questions.specs.RuleChanges.{Access, access_text, granting_line, is_same_line, lines_end, lost_access}
use Rattle.sm_questions.specs.RuleChanges.{lost_accesses, lost_by, lost_of_pair, lost_of_source}
use Rattle.sm_questions.specs.Tallies.{Adds, AreAll, AreCounts, HasPlaces, IsFull, end_of, end_of_kept, line_of}
use Rattle.sm_questions.specs.Tallies.{place_of, tally}
use Rattle.sm_questions.specs.declared.first_lines.LineTable.{LineTable}

-- ---- lines of allow rules

found_before : (p : ℕ × Rule → Bool) (rules : List (ℕ × Rule)) (n : ℕ)
    → option_map (λ (r : ℕ × Rule). r.0) (find p rules) ≡ Some n → n < lines_end rules
found_before p [] n found = absurd cc
found_before p (r ∷ rules) n found = by (p r) found (found_before p rules n) where
  by : (b : Bool) → option_map (λ (q : ℕ × Rule). q.0) (cond b (Some r) (find p rules)) ≡ Some n
      → (option_map (λ (q : ℕ × Rule). q.0) (find p rules) ≡ Some n → n < lines_end rules)
      → n < lines_end (r ∷ rules)
  by true h rest = let is : r.0 ≡ n = cc in omega (arith, is)
  by false h rest = let below = rest h in omega (arith, below)

-- There is a place for the line that grants an access.
pub line_before : (policy : Policy) (a : Access) (n : ℕ) → granting_line policy a ≡ Some n → n < end_of policy
unfolding written_at
line_before policy a n is =
    let class = class_at a.perm in
    let perm = perm_at a.perm in
    found_before (λ (r : ℕ × Rule). access.covers policy.statements a.source a.target class perm r.1)
    (rules_in Allow policy.statements) n
    (sym (lines_of policy.statements a.source a.target class perm policy.statements) ∙ is)

pub place_before : (policy : Policy) (a : Access)
    → place_of (end_of policy) (granting_line policy a) < end_of policy + 1
place_before policy a = by (granting_line policy a) refl where
  by : (o : Option ℕ) → granting_line policy a ≡ o → place_of (end_of policy) o < end_of policy + 1
  by None is = omega arith
  by (Some n) is = let below = line_before policy a n is in omega (arith, below)

-- The place of a line is the one whose line it is.
pub placed : (end p : ℕ) (line : Option ℕ) → p < end + 1 → ((n : ℕ) → line ≡ Some n → n < end)
    → is_same_line (line_of end p) line ≡ nat_eq p (place_of end line)
placed end p None lt before = elim (cases_lt p end) [
  | inl below ↦ rw (lt-ltb p end below, ne_eqb p end (λ e. absurd (omega (arith, below, e)))) refl
  | inr past ↦ (let is : p ≡ end = omega (arith, lt, past) in rw (le-ltb p end past, eq-eqb p end is) refl)
]
placed end p (Some n) lt before = elim (cases_lt p end) [
  | inl below ↦ rw (lt-ltb p end below) refl
  | inr past ↦ (let low = before n refl in
      rw (le-ltb p end past, ne_eqb p n (λ e. absurd (omega (arith, low, past, e)))) refl)
]

-- A place that was found is that of an access.
pub place_found : (policy : Policy) (a : Access) {place end : ℕ} {line found : Option ℕ} → place ≡ place_of end line
    → end ≡ end_of policy → line ≡ found → found ≡ granting_line policy a
    → place ≡ place_of (end_of policy) (granting_line policy a)
place_found policy a {place} {end} {line} {found} is e l f = is ∙ rw (e, l ∙ f) refl

-- ---- one list of accesses after another

tally_both : (policy : Policy) (xs ys : List Access) (p : ℕ)
    → tally policy (xs ++ ys) p ≡ tally policy xs p + tally policy ys p
tally_both policy xs ys p =
    sum_by-append (λ a. cond (is_same_line (line_of (end_of policy) p) (granting_line policy a)) 1 0) xs ys

pub adds_none : (policy : Policy) (counts : List ℕ) → Adds policy counts counts []
adds_none policy counts = record { room = refl; each = λ p lt. omega arith }

pub adds_both : (policy : Policy) (old mid new : List ℕ) (xs ys : List Access) → Adds policy old mid xs
    → Adds policy mid new ys → Adds policy old new (xs ++ ys)
adds_both policy old mid new xs ys first second = record {
  room = second.room ∙ first.room;
  each = λ p lt.
      let inside : p < length mid = omega (arith, lt, first.room) in
      let a = first.each p lt in
      let b = second.each p inside in
      let c = tally_both policy xs ys p in
      omega (arith, a, b, c);
}

-- One access is counted at the place of its line.
pub adds_one : (policy : Policy) (old new : List ℕ) (a : Access) (place byte : ℕ) → HasPlaces policy old
    → place ≡ place_of (end_of policy) (granting_line policy a) → new ≡ set old place byte
    → byte ≡ get_or old place 0 + 1 → Adds policy old new (a ∷ [])
adds_one policy old new a place byte places is now more = record {
  room = rw now (length-set old place byte);
  each = λ p lt.
      let same = placed (end_of policy) p (granting_line policy a) (omega (arith, lt, places))
      (λ n e. line_before policy a n e) in
      let inside : place < length old = omega (arith, is, places, place_before policy a) in
      rw (now, same, ← is) (by p (cases_eq p place) inside);
} where
  by : (p : ℕ) → (p ≡ place) ⊎ (p ≡ place → ⊥) → place < length old
      → get_or (set old place byte) p 0 ≡ get_or old p 0 + (0 + cond (nat_eq p place) 1 0)
  by p (inl e) inside = rw (e, eq-eqb place place refl) (get_or-set_same old place byte 0 inside ∙ more ∙ omega arith)
  by p (inr other) inside = rw (ne_eqb p place other) (get_or-set_other old place p byte 0 other ∙ omega arith)

-- The accesses of one more element of a list.
pub adds_step : {A : Type 0} (policy : Policy) (old mid new : List ℕ) (f : A → List Access) (xs : List A)
    (i : ℕ) (d : A)
    → i < length xs → Adds policy old mid (flat_map f (take i xs)) → Adds policy mid new (f (get_or xs i d))
    → Adds policy old new (flat_map f (take (i + 1) xs))
adds_step policy old mid new f xs i d lt first second =
    let more : flat_map f (take (i + 1) xs) ≡ flat_map f (take i xs) ++ f (get_or xs i d) =
    ap (flat_map f) (take_more xs i d lt) ∙ flat_map-append f (take i xs) (get_or xs i d ∷ [])
    ∙ ap (λ l. flat_map f (take i xs) ++ l) (append-nil (f (get_or xs i d))) in
    rw more (adds_both policy old mid new (flat_map f (take i xs)) (f (get_or xs i d)) first second)

-- ---- how many accesses there are at most

few_of : {A : Type 0} (f : A → List Access) (most : ℕ) (xs : List A) → ((x : A) → length (f x) ≤ most)
    → length (flat_map f xs) ≤ length xs * most
few_of f most xs each =
    let sum = length-flat_map f xs in
    let less = sum_by-le (λ x. length (f x)) most xs (λ k d lt. each (get_or xs k d)) in
    omega (arith, sum, less)

one_at_most : (one other : Policy) (s t : Name) (b : ℕ) → length (lost_access one other s t b) ≤ 1
unfolding lost_access
one_at_most one other s t b = by (is_lost one other s t b) where
  by : (lost : Bool)
      → length {A = Access} (if lost then (record { source = s; target = t; perm = b }) ∷ [] else []) ≤ 1
  by true = omega arith
  by false = omega arith

seven_at_most : (one other : Policy) (s t : Name) → length (lost_of_pair one other s t) ≤ 7
unfolding lost_of_pair
seven_at_most one other s t =
    omega (arith, few_of (lost_access one other s t) 1 perm_numbers (one_at_most one other s t))

pub few_of_pair : (one other : Policy) (s t : Name) (bit p : ℕ)
    → tally one (flat_map (lost_access one other s t) (take bit perm_numbers)) p ≤ length (take bit perm_numbers)
few_of_pair one other s t bit p =
    let accesses = flat_map (lost_access one other s t) (take bit perm_numbers) in
    let a = count_by-le-length (λ a. is_same_line (line_of (end_of one) p) (granting_line one a)) accesses in
    let b = few_of (lost_access one other s t) 1 (take bit perm_numbers) (one_at_most one other s t) in
    omega (arith, a, b)

pub few_of_source : (one other : Policy) (s : Name) (targets : List Name) (p : ℕ)
    → tally one (flat_map (lost_of_pair one other s) targets) p ≤ length targets * 7
few_of_source one other s targets p =
    let accesses = flat_map (lost_of_pair one other s) targets in
    let a = count_by-le-length (λ a. is_same_line (line_of (end_of one) p) (granting_line one a)) accesses in
    let b = few_of (lost_of_pair one other s) 7 targets (seven_at_most one other s) in
    omega (arith, a, b)

source_at_most : (one other : Policy) (s : Name)
    → length (lost_of_source one other s) ≤ length (types one.statements) * 7
unfolding lost_of_source
source_at_most one other s =
    few_of (lost_of_pair one other s) 7 (types one.statements) (seven_at_most one other s)

pub few_of_sources : (one other : Policy) (sources : List Name) (p : ℕ)
    → tally one (flat_map (lost_of_source one other) sources) p ≤ length sources * (length (types one.statements) * 7)
few_of_sources one other sources p =
    let accesses = flat_map (lost_of_source one other) sources in
    let a = count_by-le-length (λ a. is_same_line (line_of (end_of one) p) (granting_line one a)) accesses in
    let b = few_of (lost_of_source one other) (length (types one.statements) * 7) sources (source_at_most one other) in
    omega (arith, a, b)

-- ---- what isn't lost has no lines

both_maps : {A B : Type 0} (f : B → List ℕ) (g : A → List B) (h : A → List ℕ) (xs : List A)
    → ((x : A) → h x ≡ flat_map f (g x)) → flat_map h xs ≡ flat_map f (flat_map g xs)
both_maps f g h [] same = refl
both_maps f g h (x ∷ xs) same =
    rw (flat_map-append f (g x) (flat_map g xs), same x, both_maps f g h xs same) refl

perm_text : (sign : ℕ) (one other : Policy) (s t : Name) (b : ℕ)
    → lost_perm sign one other s t b ≡ flat_map (access_text sign) (lost_access one other s t b)
unfolding lost_perm lost_access
perm_text sign one other s t b = by (is_lost one other s t b) where
  by : (lost : Bool) → (if lost then lost_line sign s t b else [])
      ≡ flat_map (access_text sign) (if lost then (record { source = s; target = t; perm = b }) ∷ [] else [])
  by true = sym (append-nil (lost_line sign s t b))
  by false = refl

pub pair_text : (sign : ℕ) (one other : Policy) (s t : Name)
    → lost_pair sign one other s t ≡ flat_map (access_text sign) (lost_of_pair one other s t)
unfolding lost_pair lost_of_pair
pair_text sign one other s t = both_maps (access_text sign) (lost_access one other s t) (lost_perm sign one other s t)
    perm_numbers (perm_text sign one other s t)

-- The lines of `svcmgr diff` are those of the accesses, one for each.
pub all_text : (sign : ℕ) (one other : Policy)
    → lost sign one other ≡ flat_map (access_text sign) (lost_accesses one other)
unfolding lost lost_source lost_accesses lost_of_source
all_text sign one other =
    let names = types one.statements in
    both_maps (access_text sign) (λ s. flat_map (lost_of_pair one other s) names)
    (λ s. flat_map (lost_pair sign one other s) names) names
    (λ s. both_maps (access_text sign) (lost_of_pair one other s) (lost_pair sign one other s) names
    (pair_text sign one other s))

pub no_text : (sign : ℕ) (xs : List Access) → flat_map (access_text sign) xs ≡ [] → xs ≡ []
unfolding lost_line
no_text sign [] none = refl
no_text sign (x ∷ xs) none = absurd cc

-- A pair without lines has no accesses.
pub pair_none : (sign : ℕ) (one other : Policy) (s t : Name) → lost_pair sign one other s t ≡ []
    → lost_of_pair one other s t ≡ []
pair_none sign one other s t none =
    no_text sign (lost_of_pair one other s t) (sym (pair_text sign one other s t) ∙ none)

-- So have the first targets of a source, if it loses nothing on them.
pub front_none : (sign : ℕ) (one other : Policy) (s end : ℕ) → LosesNothing sign one other s end
    → flat_map (lost_of_pair one other (at (types one.statements) s)) (take end (types one.statements)) ≡ []
front_none sign one other s end none =
    let name = at (types one.statements) s in
    let front = take end (types one.statements) in
    no_text sign (flat_map (lost_of_pair one other name) front)
    (sym (both_maps (access_text sign) (lost_of_pair one other name) (lost_pair sign one other name) front
    (pair_text sign one other name)) ∙ none)

-- ---- the end of the lines

kept_last : (rules : List Kept) (k : Kept) → end_of_kept (rules ++ k ∷ []) ≡ max (end_of_kept rules) (k.line + 1)
kept_last [] k = omega arith
kept_last (x ∷ rules) k = let rest = kept_last rules k in omega (arith, rest)

pub kept_next : (rules : List Kept) (i : ℕ) (k : Kept) → i < length rules → k ≡ get_or rules i k
    → end_of_kept (take (i + 1) rules) ≡ max (end_of_kept (take i rules)) (k.line + 1)
kept_next rules i k lt is =
    ap end_of_kept (take_more rules i k lt ∙ ap (λ x. take i rules ++ x ∷ []) (sym is)) ∙ kept_last (take i rules) k

ends_alike : (policy : List Statement) (names : List Name) (rules : List (ℕ × Rule)) (kept : List Kept)
    → AllStandFor policy names rules kept → end_of_kept kept ≡ lines_end rules
ends_alike policy names [] [] all = refl
ends_alike policy names (r ∷ rules) (k ∷ kept) all =
    let rest = ends_alike policy names rules kept all.1 in
    let same = all.0.line in
    omega (arith, rest, same)
ends_alike policy names [] (k ∷ kept) all = absurd all
ends_alike policy names (r ∷ rules) [] all = absurd all

pub end_is : (policy : Policy) (rules : KeptRules) → RulesOf policy.statements (types policy.statements) rules
    → end_of_kept rules.allows ≡ end_of policy
end_is policy rules are =
    ends_alike policy.statements (types policy.statements) (rules_in Allow policy.statements) rules.allows
    (are.kept Allow)

-- ---- the table

pub none_below : AreAll 0 []
none_below = record { number = refl; each = λ i lt. absurd (omega arith) }

pub one_above : (n : ℕ) (numbers : List ℕ) → AreAll n numbers → AreAll (n + 1) (numbers ++ n ∷ [])
one_above n numbers all = record {
  number = let long = length-append numbers (n ∷ []) in omega (arith, long, all.number);
  each = λ i lt. elim (cases_lt i n) [
    | inl below ↦ grind (arith, common_steps, all.each i below, all.number)
    | inr past ↦ grind (arith, common_steps, all.number, past, lt)
  ];
}

pub all_inside : (count n : ℕ) (numbers : List ℕ) → AreAll n numbers → count ≡ n → All (λ t. t < count) numbers
all_inside count n numbers all same k d lt =
    let short : k < n = omega (arith, lt, all.number) in
    let is : get_or numbers k d ≡ k = grind (arith, common_steps, all.each k short, lt) in
    rw is (omega (arith, short, same))

-- The lines of a source that were found are those of each target.
pub has_targets : (policy : Policy) (table : LineTable) (s : ℕ) → IsFull policy table
    → s < length (types policy.statements)
    → HasFound table.lines.items table.rules.now.allows table.targets.now s
    → (t : ℕ) → t < length (types policy.statements) → HasPair policy table s t
unfolding written_at
has_targets policy table s full lt found t inside = record {
  source = lt;
  target = inside;
  room = full.is.room;
  count = full.rules.count;
  line = λ b low.
      let place : t < length table.targets.now = omega (arith, inside, full.targets.number) in
      let is = found t 0 place b low in
      rw (full.targets.each t inside) at is
      ∙ written_is policy.statements (types policy.statements) table.rules.now b s t (class_at b) (perm_at b)
      full.rules lt inside (low, refl, refl);
}

pub full_again : (policy : Policy) (old new : LineTable) → IsFull policy old
    → new.rules.now ≡ old.rules.now → new.targets.now ≡ old.targets.now → IsTable new → IsFull policy new
full_again policy old new full rules targets is = record {
  rules = rw rules full.rules;
  targets = rw targets full.targets;
  is = is;
}

-- ---- all sources

pub source_fits : (n source counted old : ℕ) {now : ℕ} → source < n → n < 65536 → counted ≤ source * (n * 7)
    → old ≡ 0 → now ≡ old + counted → now + 7 * n < 2 ^ 64
source_fits n source counted old {now} lt small few none is =
    let a : (source + 1) * (n * 7) ≤ n * (n * 7) =
    mul-le (source + 1) (n * 7) n (n * 7) (omega (arith, lt)) (omega arith) in
    let b : n * (n * 7) ≤ 65536 * (65536 * 7) =
    mul-le n (n * 7) 65536 (65536 * 7) (omega (arith, small)) (omega (arith, small)) in
    let c : (source + 1) * (n * 7) ≡ source * (n * 7) + n * 7 = omega arith in
    omega (arith, a, b, c, few, none, is)

-- All accesses are counted for each line.
pub all_counted : (one other : Policy) (old new : List ℕ) (i : ℕ) → HasPlaces one old
    → ((p : ℕ) → p < length old → get_or old p 0 ≡ 0) → length (types one.statements) ≤ i
    → Adds one old new (flat_map (lost_of_source one other) (take i (types one.statements)))
    → AreCounts one other new
unfolding lost_accesses lost_by
all_counted one other old new i places none past added =
    let whole : take i (types one.statements) ≡ types one.statements = take_all i (types one.statements) past in
    let all = rw whole at added in
    record {
      places = omega (arith, all.room, places);
      each = λ p lt.
          let inside : p < length old = omega (arith, lt, all.room) in
          let zero_there = none p inside in
          let is = all.each p inside in
          is ∙ ap (λ n. n + tally one (flat_map (lost_of_source one other) (types one.statements)) p) zero_there
          ∙ omega arith;
    }
