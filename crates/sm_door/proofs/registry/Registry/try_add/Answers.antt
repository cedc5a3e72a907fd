use Rattle.std.proofs.Common.{sym, ◌∙◌, ap}
use Rattle.sm_door.proofs.Adding.{adds_moves}
use Rattle.sm_door.proofs.registry.Registry.try_add.Goals as goal

pub compare_exchange-found-requires : goal.compare_exchange-found-requires
compare_exchange-found-requires g c =
    let h = c.self.invariant.0 in
    let seen = c.self.inside.seen.log in
    let offer = c.plain-offer.ensures in
    let pen = c.no_pen-pen.ensures in (
      ap (λ w. w.tracked) h,
      c.self.invariant.2 ∙ sym (ap (λ w. w.book) h),
      pen.0 ∙ (c.self.invariant.2 ∙ sym (ap (λ w. w.book) h)),
      offer.0,
      rw (ap (λ w. w.key) h, pen.1, offer.1, offer.3)
          (adds_moves seen (g.M.Shows.book c.args.value.now) c.self.inside.count (sym c.self.invariant.1)),
    )
