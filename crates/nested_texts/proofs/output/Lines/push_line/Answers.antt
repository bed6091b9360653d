use Rattle.std.proofs.Common.{◌≡◌, length, ◌∙◌, arith}
use Rattle.nested_texts.proofs.EndedLines.{one_line}
use Rattle.nested_texts.proofs.output.Lines.push_line.Goals as goal

pub returns : goal.returns
returns c =
    let size : c.len-start.result ≡ length c.args.self.now.text.items = omega (arith, c.len-start.ensures, c.args.self.now.text.ok.0) in
    record {
      text = c.in_ok-end_line.ensures.text ∙ rw (c.in_ok-extend_from_slice.ensures.items, size) (one_line c.args.self.now.text.items c.args.line.now c.args.origin);
      origins = c.in_ok-end_line.ensures.origins;
    }
