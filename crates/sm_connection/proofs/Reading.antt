-- A read with its records is a read.
use Rattle.std.proofs.Common.{List, inl, inr}
use Rattle.sm_history.specs.declared.query.Query.{Query}
use Rattle.sm_history.specs.declared.records.Record.{Record}
use Rattle.sm_history.specs.declared.reply.Reply.{Reply}
use Rattle.sm_history.specs.Promises.{Queried}
use Rattle.sm_history.specs.Tokens.{Knows}
use Rattle.sm_door.specs.Logged.{ReadLogged}

pub queried : (old new : Knows) (q : Query) (reply : Reply) (log : List Record) → ReadLogged old new q reply log
    → Queried old new q reply
queried old new q reply log (inl p) = inl (p.0, p.1)
queried old new q reply log (inr (grows, one, inl p)) = inr (grows, one, inl (p.0, p.1))
queried old new q reply log (inr (grows, one, inr p)) = inr (grows, one, inr p.0)
