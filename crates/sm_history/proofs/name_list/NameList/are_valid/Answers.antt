use Rattle.std.proofs.Common.{refl, arith}
use Rattle.std.proofs.lemmas.Bool.Decides.{nat_tests}
use Rattle.sm_history.proofs.SpannedNames.{kept_valid}
use Rattle.sm_history.proofs.name_list.NameList.are_valid.Goals as goal

pub returns-then-not-self : goal.returns-then-not-self
returns-then-not-self c =
    let all = kept_valid c.self.inside.bytes.items c.self.inside.spans.items c.self.inside.is_plain c.self.invariant in
    rw (← c.self.view_is, all, c.if-not-self.true) refl

pub returns-then-not-are_spaced_bytes : goal.returns-then-not-are_spaced_bytes
returns-then-not-are_spaced_bytes c =
    let all = kept_valid c.self.inside.bytes.items c.self.inside.spans.items c.self.inside.is_plain c.self.invariant in
    rw (← c.self.view_is, all, ← c.as_slice-bytes.ensures.value, ← c.are_spaced_bytes.ensures) (grind (arith, nat_tests))

pub returns : goal.returns
returns c =
    let all = kept_valid c.self.inside.bytes.items c.self.inside.spans.items c.self.inside.is_plain c.self.invariant in
    let bytes = c.as_slice-bytes.ensures.value in
    rw (
      ← c.self.view_is,
      all,
      c.if-not-self.false,
      ← bytes,
      ← c.are_spaced_bytes.ensures,
      c.if-not-are_spaced_bytes.false,
      c.spaces_in.ensures,
      c.len.ensures,
      c.self.inside.spans.ok.0,
    ) refl
