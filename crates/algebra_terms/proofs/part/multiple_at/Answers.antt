use Rattle.std.proofs.Common.{sym, ◌∙◌, map}
use Rattle.algebra_terms.specs.Tokens.{said}
use Rattle.algebra_terms.proofs.Parts.{at_multiple, times_no_more, times_no_word}
use Rattle.algebra_terms.proofs.part.multiple_at.Goals as goal

pub returns-in_err-symbol-clause-part : goal.returns-in_err-symbol-clause-part
returns-in_err-symbol-clause-part c = rw (c.from_residual.ensures, c.in_err-symbol.ensures.says) (times_no_more c.args.negative c.args.number.now)

pub returns-in_default : goal.returns-in_default
returns-in_default c = record {
  part = rw c.in_ok-symbol.ensures.says (times_no_word c.args.negative c.args.number.now c.in_ok-symbol.symbol _ c.in_default.not-Word);
  within = tt;
  shorter = tt;
}

pub returns-clause-part : goal.returns-clause-part
returns-clause-part c =
    rw (c.in_ok-symbol.ensures.says, c.in-Word.is, c.amount_of-amount.ensures)
    (at_multiple c.args.negative c.args.number.now c.in-Word.variable.now (map (said c.args.line.now) c.in_ok-symbol.rest.now) c.requires.number
    (sym c.begins_number.ensures ∙ c.if-begins_number.false))
