use Rattle.std.proofs.Common.{◌≡◌, ◌++◌, ◌∙◌, [], IsTrue, ap, drop, inl, refl, rules, sym, take}
use Rattle.sm_serve.specs.Lines.{bytes_of, lines_in}
use Rattle.sm_engine.proofs.KnownLemmas.{Appends-then}
use Rattle.sm_serve.proofs.LineLemmas.{cut_again, rest_of_text, whole_lines}
use Rattle.sm_serve.proofs.whole_lines.WholeLines.write.Goals as goal

pub returns-then-not-complete : goal.returns-then-not-complete
returns-then-not-complete g c =
    let front = c.complete.ensures.front in
    record {
      written = take front.0 (drop c.args.self.now.written (bytes_of c.args.self.now.cut));
      begun = 0;
      appended = front.1;
      whole = cut_again _ (bytes_of c.args.lines) _ front.0 front.2;
      breaks = inl refl;
      others = c.count.ensures;
    }

pub returns : goal.returns
returns g c =
    let front = c.complete.ensures.front in
    let rest = drop c.args.self.now.written (bytes_of c.args.self.now.cut) in
    let text = bytes_of c.args.lines in
    let m = c.write_front-written.result in
    let end = c.line_end-end.result in
    let all : IsTrue c.complete.result = search rules in
    let done : drop front.0 rest ≡ [] = sym front.2 ∙ c.complete.ensures.whole.0 all in
    record {
      written = take front.0 rest ++ take m text;
      begun = end;
      appended = rw (c.keep.ensures.writer, ← c.bytes-text.ensures)
          (Appends-then _ _ _ _ _ front.1 c.write_front-written.ensures.written);
      whole = rw (c.keep.ensures.cut, c.keep.ensures.written, c.truncated.ensures)
          (whole_lines rest text front.0 m end done c.line_end-end.ensures.low);
      breaks = rw (← c.bytes-text.ensures) c.line_end-end.ensures.breaks;
      others = c.count_lines-lost.ensures ∙ ap lines_in (rest_of_text text _ end c.bytes-text.ensures);
    }
