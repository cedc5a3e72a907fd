use Rattle.std.proofs.Common.{◌≡◌, ℕ, slice_get, Some, refl, sym, subst, length}
use Rattle.std.proofs.lemmas.List.Elements.{All-get_or}
use Rattle.std.proofs.lemmas.Option.{slice_get_read, IfSome_then}
use Rattle.sm_rules.specs.declared.kept.Kept.{Kept}
use Rattle.sm_rules.specs.Keeping.{FitsRule}
use Rattle.sm_neverallow.specs.Hitting.{IsBroken}
use Rattle.sm_neverallow.specs.Violating.{AreApart, AllApart}
use Rattle.sm_neverallow.proofs.Apart.{not_all_apart, none_map}
use Rattle.sm_neverallow.proofs.Broken.{broken_meets, clear_apart}
use Rattle.sm_neverallow.proofs.violation.first_among.Goals as goal

pub returns-in-Some-clause-none : goal.returns-in-Some-clause-none
returns-in-Some-clause-none c =
    let never = c.index-neverallows-n.result in
    let inside = rw c.in-Some.is at c.in_ok-n.ensures.inside in
    let found = slice_get_read c.args.neverallows.now (length c.args.neverallows.now) c.in-Some.n never refl inside
    c.index-neverallows-n.is in
    let broken : IsBroken c.args.matrices.now c.args.count never =
    (rw c.in-Some.is at c.in_ok-n.ensures.broken) never found in
    let meets = broken_meets c.args.allows.now c.args.matrices.now c.args.count never
    c.requires.compiled broken in
    let fits = subst (λ (k : Kept). FitsRule c.args.count k) (sym c.index-neverallows-n.is)
    (All-get_or (FitsRule c.args.count) c.args.neverallows.now c.in-Some.n never inside c.requires.neverallows) in
    none_map c.first_of.result ((i : ℕ) (allow : Kept) → slice_get c.args.allows.now i ≡ Some allow
    → AreApart allow never c.args.count) (AllApart c.args.allows.now c.args.neverallows.now c.args.count)
    (λ apart. absurd (not_all_apart c.args.allows.now never c.args.count fits meets apart)) c.first_of.ensures.none

pub returns-in-Some-clause-some : goal.returns-in-Some-clause-some
returns-in-Some-clause-some c =
    let never = c.index-neverallows-n.result in
    let inside = rw c.in-Some.is at c.in_ok-n.ensures.inside in
    let found = slice_get_read c.args.neverallows.now (length c.args.neverallows.now) c.in-Some.n never refl inside
    c.index-neverallows-n.is in
    let earlier = rw c.in-Some.is at c.in_ok-n.ensures.first in
    IfSome_then c.first_of.result c.first_of.ensures.some (λ v first. record {
      place = c.in-Some.n;
      never = never;
      found = found;
      first = first;
      no_earlier = λ n other h at. clear_apart c.args.allows.now c.args.matrices.now c.args.count other
          c.requires.compiled (earlier n other h at);
    })

pub returns-in-None-clause-none : goal.returns-in-None-clause-none
returns-in-None-clause-none c =
    let clear = rw c.in-None.is at c.in_ok-n.ensures.none in
    record {
      apart = λ n never found. clear_apart c.args.allows.now c.args.matrices.now c.args.count never
          c.requires.compiled (clear n never found);
    }
