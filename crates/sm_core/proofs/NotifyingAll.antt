-- Watchers are notified in order.
use Rattle.std.proofs.Common.{◌≡◌, Bool, true, List, [], ◌∷◌, ◌++◌, ap, sym, ◌∙◌, append_assoc}
use Rattle.std.specs.List.{list_all}
use Rattle.std.proofs.lemmas.Bool.{and_parts}
use Rattle.sm_values.specs.declared.number.Node.{Node}
use Rattle.sm_history.specs.declared.effect.Watch.{Watch}
use Rattle.sm_history.specs.declared.notice.Notice.{Notice}
use Rattle.sm_history.specs.Effects.{Effects}
use Rattle.sm_history.specs.declared.records.Record.{Record}
use Rattle.sm_history.specs.Records.{Moment, left_by_all, left_by_notices}
use Rattle.sm_history.specs.Notices.{notice_checks, notice_at, after_notice, notices_at, after_notices}

pub live_further : (p : Watch → Bool) (rest more : List Watch) (w : Watch) → rest ≡ w ∷ more → list_all p rest ≡ true
    → (p w ≡ true) × (list_all p more ≡ true)
live_further p rest more w is h = and_parts (p w) (list_all p more) (sym (ap (list_all p) is) ∙ h)

pub notices_further : (e e' : Effects) (n : Node) (rest more : List Watch) (w : Watch)
    (before after all : List Notice) (x : Notice) → rest ≡ w ∷ more → x ≡ notice_at e n w → e' ≡ after_notice e n w
    → after ≡ before ++ x ∷ [] → before ++ notices_at e n rest ≡ all → after ++ notices_at e' n more ≡ all
notices_further e e' n rest more w before after all x is told on pushed h =
    ap (λ (xs : List Notice). xs ++ notices_at e' n more) pushed
    ∙ append_assoc before (x ∷ []) (notices_at e' n more)
    ∙ ap (λ (y : Notice). before ++ y ∷ notices_at e' n more) told
    ∙ ap (λ (f : Effects). before ++ notice_at e n w ∷ notices_at f n more) on
    ∙ ap (λ (vs : List Watch). before ++ notices_at e n vs) (sym is)
    ∙ h

pub after_further : (e e' : Effects) (n : Node) (rest more : List Watch) (w : Watch) (all : Effects)
    → rest ≡ w ∷ more → e' ≡ after_notice e n w → after_notices e n rest ≡ all → after_notices e' n more ≡ all
after_further e e' n rest more w all is on h =
    ap (λ (f : Effects). after_notices f n more) on ∙ ap (after_notices e n) (sym is) ∙ h

pub records_further : (m : Moment) (e e' : Effects) (n : Node) (rest more : List Watch) (w : Watch)
    (before after all : List Record) → rest ≡ w ∷ more → after ≡ before ++ left_by_all m (notice_checks e n w)
    → e' ≡ after_notice e n w → before ++ left_by_notices m e n rest ≡ all → after ++ left_by_notices m e' n more ≡ all
records_further m e e' n rest more w before after all is noted on h =
    ap (λ (xs : List Record). xs ++ left_by_notices m e' n more) noted
    ∙ append_assoc before (left_by_all m (notice_checks e n w)) (left_by_notices m e' n more)
    ∙ ap (λ (f : Effects). before ++ (left_by_all m (notice_checks e n w) ++ left_by_notices m f n more)) on
    ∙ ap (λ (vs : List Watch). before ++ left_by_notices m e n vs) (sym is)
    ∙ h
