use Rattle.sm_history.proofs.SubmittedReplies.{install_answered}
use Rattle.sm_door.proofs.door.Door.install.Goals as goal

pub installed-requires : goal.installed-requires
installed-requires g c =
    install_answered c.me.inside.actor c.act-reply.new.me c.me.inside.number c.args.expected c.in-Ok.shared
    c.act-reply.result.0 c.me.invariant c.act-reply.ensures.submitted
