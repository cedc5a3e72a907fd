use Rattle.std.proofs.Common.{◌≡◌, ◌≤◌, ◌+◌, ap, length, arith}
use Rattle.std.proofs.lemmas.Grind.{common_steps}
use Rattle.sm_serve.specs.Lines.{bytes_of}
use Rattle.sm_serve.proofs.LineLemmas.{nothing_left}
use Rattle.sm_serve.proofs.whole_lines.WholeLines.complete.Goals as goal

pub returns-clause-whole : goal.returns-clause-whole
returns-clause-whole g c =
    let cut = bytes_of c.args.self.now.cut in
    let all : length c.bytes-2.result.now ≡ length cut = ap length c.bytes-2.ensures in
    let le : c.args.self.now.written + c.write_front-more.result ≤ length cut = grind (arith, common_steps) in
    nothing_left cut _ _ all le
