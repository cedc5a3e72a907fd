-- The lines of the first rules in a table.
use Rattle.std.proofs.Common.{◌≡◌, ℕ, ◌+◌, ◌<◌, ◌≤◌, Bool, true, false, List, [], ◌∷◌, ◌++◌, length, take}
use Rattle.std.proofs.Common.{get_or, refl, sym, ap, ◌∙◌, Option, Some, None, All, slice_get, arith}
use Rattle.std.specs.Prelude.{find, option_map, if◌then◌else◌}
use Rattle.std.specs.Option.{option_or}
use Rattle.std.proofs.lemmas.Bool.{ne_eqb}
use Rattle.std.proofs.lemmas.List.{take_all, take_more}
use Rattle.std.proofs.lemmas.List.Elements.{All-push, filter_map-append}
use Rattle.std.proofs.lemmas.List.Folds.{find-append}
use Rattle.std.proofs.lemmas.Option.{slice_get_read}
use Rattle.sm_bits.specs.Bits.{has}
use Rattle.sm_types.specs.Denoting.{types}
use Rattle.sm_rules.specs.Keeping.{covered_line, covers, class_at, perm_at}
use Rattle.sm_rules.proofs.Lines.{written_is}
use Rattle.sm_rules.specs.declared.kept.Kept.{Kept}
use Rattle.sm_policy.specs.Policy.{Policy, written_at}
use Rattle.sm_questions.specs.declared.filtering.Filter.{Filter}
use Rattle.sm_questions.specs.declared.first_lines.LineTable.{LineTable}
use Rattle.sm_questions.specs.FirstLines.{AreNear, HasFound, HasPair, IsAsked, IsTable, kept_line, line_in, rules_at}

map_or : (found : Option Kept) (p : Bool) (r : Kept)
    → option_map (λ k. k.line) (option_or found (if p then Some r else None))
    ≡ kept_line p r.line (option_map (λ k. k.line) found)
map_or None true r = refl
map_or None false r = refl
map_or (Some k) true r = refl
map_or (Some k) false r = refl

-- With one more rule, its line is kept where it covers the access.
pub line_more : (rules : List Kept) (r : Kept) (b s t : ℕ)
    → covered_line (rules ++ r ∷ []) b s t ≡ kept_line (covers b s t r) r.line (covered_line rules b s t)
line_more rules r b s t = ap (option_map (λ k. k.line)) (find-append (covers b s t) rules (r ∷ []))
    ∙ map_or (find (covers b s t) rules) (covers b s t r) r

-- The same, for the rule at an index.
pub line_next : (rules : List Kept) (k b s t : ℕ) (r : Kept) {old : Option ℕ} → k < length rules → r ≡ get_or rules k r
    → old ≡ covered_line (take k rules) b s t
    → kept_line (covers b s t r) r.line old ≡ covered_line (take (k + 1) rules) b s t
line_next rules k b s t r {old} inside is so_far =
    let more : take (k + 1) rules ≡ take k rules ++ r ∷ [] =
    take_more rules k r inside ∙ ap (λ x. take k rules ++ x ∷ []) (sym is) in
    ap (kept_line (covers b s t r) r.line) so_far ∙ sym (line_more (take k rules) r b s t)
    ∙ ap (λ l. covered_line l b s t) (sym more)

-- One more index adds its rule.
rules_more : (rules : List Kept) (near : List ℕ) (i : ℕ) (r : Kept) → i < length rules → r ≡ get_or rules i r
    → rules_at rules (near ++ i ∷ []) ≡ rules_at rules near ++ r ∷ []
rules_more rules near i r inside is =
    let there : slice_get rules i ≡ Some r = slice_get_read rules (length rules) i r refl inside is in
    filter_map-append (slice_get rules) near (i ∷ []) ∙ rw there refl

-- The same for the index at a place of a list of indexes.
pub line_at : (rules : List Kept) (near : List ℕ) (k b s t : ℕ) (r : Kept) {old : Option ℕ} → k < length near
    → get_or near k 0 < length rules → r ≡ get_or rules (get_or near k 0) r
    → old ≡ covered_line (rules_at rules (take k near)) b s t
    → kept_line (covers b s t r) r.line old ≡ covered_line (rules_at rules (take (k + 1) near)) b s t
line_at rules near k b s t r {old} inside there is so_far =
    let more : rules_at rules (take (k + 1) near) ≡ rules_at rules (take k near) ++ r ∷ [] =
    ap (rules_at rules) (take_more near k 0 inside) ∙ rules_more rules (take k near) (get_or near k 0) r there is in
    ap (kept_line (covers b s t r) r.line) so_far ∙ sym (line_more (rules_at rules (take k near)) r b s t)
    ∙ ap (λ l. covered_line l b s t) (sym more)

-- The same as AreNear, where the rules before an index have been looked at.
pub record AreNearFirst (rules : List Kept) (k from to : ℕ) (near : List ℕ) : Type 0 where
  pub inside : All (λ i. i < length rules) near
  pub line : (b s t : ℕ) → from ≤ s → s < to
      → covered_line (rules_at rules near) b s t ≡ covered_line (take k rules) b s t

-- The next rule has a source of the block, or another one.
pub near_with : (rules : List Kept) (k from to : ℕ) (near : List ℕ) (r : Kept) → k < length rules
    → r ≡ get_or rules k r → AreNearFirst rules k from to near → AreNearFirst rules (k + 1) from to (near ++ k ∷ [])
near_with rules k from to near r inside is so_far = record {
  inside = All-push (λ i. i < length rules) near k so_far.inside inside;
  line = λ b s t low high. ap (λ l. covered_line l b s t) (rules_more rules near k r inside is)
      ∙ line_more (rules_at rules near) r b s t ∙ line_next rules k b s t r inside is (so_far.line b s t low high);
}

no_line : (b s t : ℕ) (r : Kept) (old : Option ℕ) → has r.sources s ≡ false
    → old ≡ kept_line (covers b s t r) r.line old
no_line b s t r old none = rw none refl

-- The next rule has no source of the block.
pub near_without : (rules : List Kept) (k from to : ℕ) (near : List ℕ) (r : Kept) → k < length rules
    → r ≡ get_or rules k r → ((s : ℕ) → from ≤ s → s < to → has r.sources s ≡ false)
    → AreNearFirst rules k from to near → AreNearFirst rules (k + 1) from to near
near_without rules k from to near r inside is none so_far = record {
  inside = so_far.inside;
  line = λ b s t low high. no_line b s t r (covered_line (rules_at rules near) b s t) (none s low high)
      ∙ line_next rules k b s t r inside is (so_far.line b s t low high);
}

pub near_all : (rules : List Kept) (k from to : ℕ) (near : List ℕ) → length rules ≤ k
    → AreNearFirst rules k from to near → AreNear rules from to near
near_all rules k from to near all first = record {
  inside = first.inside;
  line = λ b s t low high. first.line b s t low high ∙ ap (λ l. covered_line l b s t) (take_all k rules all);
}

first_any : (xs : List ℕ) (d : ℕ) → length xs ≡ 1 → get_or xs 0 d ≡ get_or xs 0 0
first_any [] d one = cc
first_any (x ∷ xs) d one = refl

-- The lines of all sources for a single target.
pub single_found : (lines : List (Option ℕ)) (rules : List Kept) (targets : List ℕ) → length targets ≡ 1
    → ((b s : ℕ) → b < 7 → line_in lines b s ≡ covered_line rules b s (get_or targets 0 0))
    → (s : ℕ) → HasFound lines rules targets s
single_found lines rules targets one found s k d inside b low =
    let first : k ≡ 0 = omega (arith, one, inside) in
    rw (one, first, first_any targets d one) (found b s low)

-- The lines of a source for several targets.
pub others_found : (lines : List (Option ℕ)) (rules : List Kept) (targets : List ℕ) (s : ℕ) → (length targets ≡ 1 → ⊥)
    → ((b t : ℕ) → b < 7 → line_in lines b t ≡ covered_line rules b s t) → HasFound lines rules targets s
others_found lines rules targets s several found k d inside b low =
    rw (ne_eqb (length targets) 1 several) (found b (get_or targets k d) low)

pub none_near : (rules : List Kept) (near : List ℕ) → near ≡ [] → AreNear rules 0 0 near
none_near rules near none = record {
  inside = rw none (λ k d lt. absurd (omega (arith, lt)));
  line = λ b s t low high. absurd (omega (arith, high));
}

-- The table of several targets holds other lines.
pub table_again : (old new : LineTable) → IsTable old → (length old.targets.now ≡ 1 → ⊥)
    → new.rules.now ≡ old.rules.now → new.targets.now ≡ old.targets.now
    → length new.lines.items ≡ length old.lines.items
    → AreNear old.rules.now.allows new.from new.to new.near.items → IsTable new
table_again old new is several rules targets room near = record {
  room = rw rules (room ∙ is.room);
  inside = rw (rules, targets) is.inside;
  near = rw rules near;
  single = λ one. absurd (several (rw targets at one));
}

-- What is found for the kept rules are the lines of the policy's rules.
pub has_pairs : (policy : Policy) (filter : Filter) (table : LineTable) (s : ℕ) → IsAsked policy filter table
    → s < length (types policy.statements)
    → HasFound table.lines.items table.rules.now.allows table.targets.now s
    → All (HasPair policy table s) table.targets.now
unfolding written_at
has_pairs policy filter table s asked lt found k d inside = record {
  source = lt;
  target = asked.targets.inside k d inside;
  room = asked.is.room;
  count = asked.rules.count;
  line = λ b low. found k d inside b low
      ∙ written_is policy.statements (types policy.statements) table.rules.now b s (get_or table.targets.now k d)
      (class_at b)
      (perm_at b) asked.rules lt (asked.targets.inside k d inside) (low, refl, refl);
}

-- It stays a table for the targets that are asked for.
pub asked_again : (policy : Policy) (filter : Filter) (old new : LineTable) → IsAsked policy filter old
    → new.rules.now ≡ old.rules.now → new.targets.now ≡ old.targets.now → IsTable new → IsAsked policy filter new
asked_again policy filter old new asked rules targets is = record {
  rules = rw rules asked.rules;
  targets = rw targets asked.targets;
  is = is;
}
