-- What effects make of the watches.
use Rattle.std.proofs.Common.{◌≡◌, ℕ, ◌+◌, ◌≤◌, Bool, true, false, ◌&&◌, ◌||◌, ◌==◌, List, [], ◌∷◌, ◌++◌, refl, ap}
use Rattle.std.proofs.Common.{sym, ◌∙◌, length, cond, if◌then◌else◌, arith}
use Rattle.std.specs.Prelude.{not, nat_lt, bytes_eq, filter, count_by, insert}
use Rattle.std.specs.List.{list_any}
use Rattle.std.proofs.lemmas.Bool.Decides.{nat_tests}
use Rattle.std.proofs.lemmas.List.Elements.{filter-append}
use Rattle.std.proofs.lemmas.List.Sums.{sum_by-cons, sum_by-insert, sum_by-append, length-filter}
use Rattle.sm_history.specs.declared.effect.Watch.{Watch}
use Rattle.sm_history.specs.declared.effect.Effect.TheVariants.{Watches, Unwatches, Dies}
use Rattle.sm_history.specs.Effects.{Effects}
use Rattle.sm_history.specs.Clients.{is_live}
use Rattle.sm_history.specs.Services.{same_watch, watches_at}
use Rattle.sm_history.proofs.Rising.{swapped}
use Rattle.sm_history.proofs.AfterWatches.{watches_watches, watches_unwatches, watches_dies, filter_swap}
use Rattle.sm_names.specs.Watching.{watchers_in, TracksList}
use Rattle.sm_names.proofs.WatchLemmas.{IsBehind, ordered_insert, watchers_insert, ordered_kept}

-- ---- counts

pub count_kept : (p q : Watch → Bool) (ws : List Watch) → count_by q (filter p ws) ≡ count_by (λ w. p w && q w) ws
count_kept p q [] = refl
count_kept p q (w ∷ ws) =
    let i = count_kept p q ws in
    let f : Watch → ℕ = λ v. cond (q v) 1 0 in
    let g : Watch → ℕ = λ v. cond (p v && q v) 1 0 in
    let more = sum_by-cons f w (filter p ws) in
    let all = sum_by-cons g w ws in
    elim (p w) as (λ b. cond (b && q w) 1 0 + count_by (λ v. p v && q v) ws ≡ count_by (λ v. p v && q v) (w ∷ ws)
    → count_by q (if b then w ∷ filter p ws else filter p ws) ≡ count_by (λ v. p v && q v) (w ∷ ws)) [
      | true ↦ λ e. more ∙ ap (λ n. cond (q w) 1 0 + n) i ∙ e
      | false ↦ λ e. omega (arith, i, e)
    ] (sym all)

count_insert : (q : Watch → Bool) (ws vs : List Watch) (i : ℕ) (w : Watch) → count_by q ws ≡ count_by q vs
    → count_by q (insert ws i w) ≡ count_by q (vs ++ w ∷ [])
count_insert q ws vs i w e =
    let f : Watch → ℕ = λ v. cond (q v) 1 0 in
    let a = sum_by-insert f ws i w in
    let b = sum_by-append f vs (w ∷ []) in
    let c = sum_by-cons f w [] in
    omega (arith, a, b, c, e)

-- Some watch passes where they are counted as more than none.
pub any_counted : (q : Watch → Bool) (ws : List Watch) → list_any q ws ≡ nat_lt 0 (count_by q ws)
any_counted q [] = refl
any_counted q (w ∷ ws) =
    let f : Watch → ℕ = λ v. cond (q v) 1 0 in
    let all = sum_by-cons f w ws in
    elim (q w) as (λ b. cond b 1 0 + count_by q ws ≡ count_by q (w ∷ ws) → (b || list_any q ws)
    ≡ nat_lt 0 (count_by q (w ∷ ws))) [
      | true ↦ λ e. sym (some (count_by q (w ∷ ws)) (omega (arith, e)))
      | false ↦ λ e. any_counted q ws ∙ ap (nat_lt 0) (omega (arith, e))
    ] (sym all)
  where
    some : (n : ℕ) → 1 ≤ n → nat_lt 0 n ≡ true
    some n h = grind (arith, nat_tests)

-- All of a list are counted by the test that each passes.
all_counted : (ws : List Watch) → count_by (λ (w : Watch). true) ws ≡ length ws
all_counted ws = sym (length-filter (λ (w : Watch). true) ws) ∙ ap (length {A = Watch}) (all_pass ws)
  where
    all_pass : (ws : List Watch) → filter (λ (w : Watch). true) ws ≡ ws
    all_pass [] = refl
    all_pass (w ∷ ws) = ap (λ vs. w ∷ vs) (all_pass ws)

pub watches_counted : (d : Effects) (ws : List Watch) → TracksList d ws → length ws ≡ length (watches_at d)
watches_counted d ws tr = sym (all_counted ws) ∙ tr.counts (λ w. true) ∙ all_counted (watches_at d)

-- ---- watches of one name

abbrev of_name : Watch → Watch → Bool
of_name v w = bytes_eq w.name v.name

of_same : (v w : Watch) → (of_name v w && same_watch v w) ≡ same_watch v w
of_same v w =
    elim (bytes_eq w.name v.name) as (λ n. bytes_eq w.name v.name ≡ n → (n && same_watch v w) ≡ same_watch v w) [
      | true ↦ λ e. refl
      | false ↦ λ e. sym (rw (swapped w.name v.name e) (none (v.client == w.client) (v.object == w.object)))
    ] refl
  where
    none : (a b : Bool) → (a && false && b) ≡ false
    none true b = refl
    none false b = refl

count_agree : (p q : Watch → Bool) (ws : List Watch) → ((w : Watch) → p w ≡ q w) → count_by p ws ≡ count_by q ws
count_agree p q [] same = refl
count_agree p q (w ∷ ws) same =
    let a = sum_by-cons (λ (v : Watch). cond (p v) 1 0) w ws in
    let b = sum_by-cons (λ (v : Watch). cond (q v) 1 0) w ws in
    let i = count_agree p q ws same in
    let e : cond (p w) 1 0 ≡ (let n : ℕ = cond (q w) 1 0 in n) = ap (λ (t : Bool). let n : ℕ = cond t 1 0 in
    n) (same w) in
    omega (arith, a, b, i, e)

-- A watch is counted among all as among those of its name.
pub same_counted : (d : Effects) (ws : List Watch) (v : Watch) → TracksList d ws
    → count_by (same_watch v) (watchers_in ws v.name) ≡ count_by (same_watch v) (watches_at d)
same_counted d ws v tr =
    count_kept (of_name v) (same_watch v) ws
    ∙ count_agree (λ w. of_name v w && same_watch v w) (same_watch v) ws (of_same v)
    ∙ tr.counts (same_watch v)

-- ---- effects

pub tracks_watches : (d : Effects) (ws : List Watch) (i : ℕ) (w : Watch) → i ≤ length ws → IsBehind ws w.name i
    → is_live d w.client ≡ true → TracksList d ws → TracksList (Watches w ∷ d) (insert ws i w)
tracks_watches d ws i w le at live tr =
    let after : watches_at (Watches w ∷ d) ≡ watches_at d ++ w ∷ [] = watches_watches d w ∙ rw live refl in
    record {
      watchers = λ q. watchers_insert ws i w q le at
          ∙ ap (λ vs. vs ++ filter (λ (x : Watch). bytes_eq x.name q) (w ∷ [])) (tr.watchers q)
          ∙ sym (ap (filter (λ (x : Watch). bytes_eq x.name q)) after
          ∙ filter-append (λ (x : Watch). bytes_eq x.name q) (watches_at d) (w ∷ []));
      counts = λ q. count_insert q ws (watches_at d) i w (tr.counts q) ∙ sym (ap (count_by q) after);
      ordered = ordered_insert ws i w tr.ordered le at;
    }

-- Where the effects leave the watches that pass a test, so does the list.
pub tracks_kept : (d d' : Effects) (p : Watch → Bool) (ws : List Watch) → watches_at d' ≡ filter p (watches_at d)
    → TracksList d ws → TracksList d' (filter p ws)
tracks_kept d d' p ws after tr = record {
  watchers = λ q. filter_swap (λ (x : Watch). bytes_eq x.name q) p ws
      ∙ ap (filter p) (tr.watchers q)
      ∙ filter_swap p (λ (x : Watch). bytes_eq x.name q) (watches_at d)
      ∙ sym (ap (filter (λ (x : Watch). bytes_eq x.name q)) after);
  counts = λ q. count_kept p q ws ∙ tr.counts (λ w. p w && q w) ∙ sym (ap (count_by q) after
      ∙ count_kept p q (watches_at d));
  ordered = ordered_kept p ws tr.ordered;
}

pub tracks_unwatches : (d : Effects) (v : Watch) (ws : List Watch) → TracksList d ws
    → TracksList (Unwatches v ∷ d) (filter (λ w. not (same_watch v w)) ws)
tracks_unwatches d v ws tr = tracks_kept d (Unwatches v ∷ d) (λ w. not (same_watch v w)) ws (watches_unwatches d v) tr

pub tracks_dies : (d : Effects) (c : ℕ) (ws : List Watch) → TracksList d ws
    → TracksList (Dies c ∷ d) (filter (λ w. not (c == w.client)) ws)
tracks_dies d c ws tr = tracks_kept d (Dies c ∷ d) (λ w. not (c == w.client)) ws (watches_dies d c) tr
