use Rattle.std.proofs.Common.{refl}
use Rattle.sm_neverallow.proofs.Meeting.{not_joined, not_given, both_given}
use Rattle.sm_violations.proofs.clash.clash.Goals as goal

pub returns-clause-some : goal.returns-clause-some
returns-clause-some c =
    let bit = c.in_ok-bit.bit in
    let s = c.in_ok-source.source in
    let t = c.in_ok-source.target in
    let pair = c.in_ok-source.ensures.some in
    record {
      never_line = refl;
      allow_line = refl;
      bit = bit;
      low = c.in_ok-bit.ensures.some.0;
      class = c.class_at.ensures;
      perm = c.perm_at.ensures;
      source = pair.0;
      target = pair.1;
      both = both_given bit s t c.args.allow.now c.args.never.now pair.2 c.in_ok-bit.ensures.some.1;
      no_lesser_source = λ b i j h low inside. not_joined b i j c.args.allow.now c.args.never.now
          (c.in_ok-source.ensures.source i j h);
      no_lesser_target = λ b j h low. not_joined b s j c.args.allow.now c.args.never.now
          (c.in_ok-source.ensures.target j h);
      no_lesser_perm = λ b h. not_given b s t c.args.allow.now c.args.never.now (c.in_ok-bit.ensures.lowest b h);
    }
