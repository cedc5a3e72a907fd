use Rattle.std.proofs.Common.{Result, Ok, Err, [], refl, sym, inr}
use Rattle.std.specs.Prelude.{OnErr}
use Rattle.sm_history.specs.declared.reply.Answer.TheVariants.{Version as VersionAnswer}
use Rattle.sm_history.specs.declared.reply.Reply.TheVariants.{Looked}
use Rattle.sm_script.proofs.judging.answer_version.Goals as goal

-- What holds anyway holds on error.
on_error : {T E A : Type 0} (r : Result T E) → A → OnErr r A
on_error (Ok x) a = tt
on_error (Err e) a = a

pub returns-clause-err : goal.returns-clause-err
returns-clause-err c =
    let seen = c.in-Some.ensures.seen in
    let none = c.in-Some.ensures.records in
    rw (← c.asker.ensures) (on_error c.push_reply.result (
      Looked c.in-Some.version c.in-Some.length VersionAnswer,
      [],
      record { looks = inr seen; records = sym none; unchanged = refl },
    ))
