use Rattle.std.proofs.Common.{◌≡◌, ◌∙◌, sym, []}
use Rattle.std.proofs.lemmas.Option.{get_or_from_slice_get, slice_get_within}
use Rattle.sm_types.specs.Names.{at}
use Rattle.sm_rules.proofs.Undeclared.{no_line_of_source, no_line_of_target}
use Rattle.sm_rules.proofs.rules.Rules.written_by_name.Goals as goal

pub returns-in_err-s : goal.returns-in_err-s
returns-in_err-s c policy is of =
    c.from_residual.ensures ∙ no_line_of_source policy c.args.source.now c.args.target.now c.args.class c.args.perm
    (sym (c.in_err-s.ensures.declared policy is))

pub returns-in_err-t : goal.returns-in_err-t
returns-in_err-t c policy is of =
    c.from_residual-in_err-t.ensures ∙ no_line_of_target policy c.args.source.now c.args.target.now c.args.class
    c.args.perm (sym (c.in_err-t.ensures.declared policy is))

pub returns : goal.returns
returns c policy is of =
    let names = c.args.types.now.symbols.types in
    let s_is : at names c.in_ok-s.s ≡ c.args.source.now =
    get_or_from_slice_get names c.in_ok-s.s c.args.source.now [] c.in_ok-s.ensures.named in
    let t_is : at names c.in_ok-t.t ≡ c.args.target.now =
    get_or_from_slice_get names c.in_ok-t.t c.args.target.now [] c.in_ok-t.ensures.named in
    let line = c.written.ensures.line policy names of
    (slice_get_within names c.in_ok-s.s c.args.source.now c.in_ok-s.ensures.named)
    (slice_get_within names c.in_ok-t.t c.args.target.now c.in_ok-t.ensures.named) in
    rw (s_is, t_is) at line
