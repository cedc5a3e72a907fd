use Rattle.std.proofs.Common.{◌≡◌, ◌++◌, OnOk, ap, ◌∙◌, List, ℕ, codes, subst}
use Rattle.std.proofs.lemmas.List.{append_assoc}
use Rattle.sm_values.specs.Messages.{numbered}
use Rattle.sm_wire.specs.Replies.{registered_text, spaced_name, spaced_given}
use Rattle.sm_wire.proofs.deliveries.push_registered.Goals as goal

-- The three parts, one after another.
pub returns : goal.returns
unfolding registered_text
returns c =
    let start = c.args.out.now.items in
    let number = numbered (codes "registered o") c.args.object in
    let name = spaced_name c.args.name.now in
    let given = spaced_given c.args.given in
    let numbers = c.in_ok-push_numbered.ensures ∙ ap (λ (n : ℕ). start
    ++ numbered (codes "registered o") n) c.from.ensures in
    let names = c.in_ok-push_spaced_name.ensures ∙ ap (λ (text : List ℕ). text ++ name) numbers
    ∙ append_assoc start number name in
    subst (λ (text : List ℕ). OnOk c.push_spaced_given.result (c.push_spaced_given.new.out.items ≡ text))
    (ap (λ (text : List ℕ). text ++ given) names ∙ append_assoc start (number ++ name) given)
    c.push_spaced_given.ensures
