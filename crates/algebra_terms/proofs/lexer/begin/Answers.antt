use Rattle.std.proofs.Common.{◌∙◌, ap, ℕ, Some, sym, length-take-le}
use Rattle.algebra_terms.proofs.QuotedTexts.{quoted_begins}
use Rattle.algebra_terms.proofs.lexer.begin.Goals as goal

pub returns-in-Some : goal.returns-in-Some
returns-in-Some c =
    let quoted = quoted_begins c.args.text.now c.in-Some.further c.in-Some.ensures.len in
    let len = length-take-le c.in-Some.further c.args.text.now c.in-Some.ensures.within in
    (rw c.in-34.is quoted.0, c.in-Some.ensures.within, quoted.1 ∙ ap (λ (n : ℕ). Some n) (sym len))
