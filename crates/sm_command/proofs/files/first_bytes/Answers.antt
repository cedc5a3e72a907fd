use Rattle.sm_command.proofs.files.first_bytes.Goals as goal
use Rattle.sm_command.proofs.Fronts.{front}

-- What was read is the front of what there was, and it is cut off at the same limit.
pub returns-clause-known : goal.returns-clause-known
returns-clause-known g c =
    front (g.R.Read.remaining c.args.reader) c.args.most c.read_to_end.new.buf.items c.truncate.new.self.items
    (rw (c.take.ensures.limit, c.take.ensures.inner, c.new-bytes.ensures.items) at c.in_ok-read_to_end.ensures.bytes)
    c.truncate.ensures.items
