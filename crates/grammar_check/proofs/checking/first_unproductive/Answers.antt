use Rattle.std.proofs.Common.{subst}
use Rattle.grammar_check.specs.CheckAnswers.{IsFirstFalse}
use Rattle.grammar_check.proofs.FirstFaults.{unproductive_told}
use Rattle.grammar_check.proofs.checking.first_unproductive.Goals as goal

pub returns : goal.returns
returns c = unproductive_told c.args.grammar.now c.in_ok-flags.flags.items c.first_false.result c.in_ok-flags.ensures (subst (λ flags. IsFirstFalse flags c.first_false.result) c.deref.ensures.value c.first_false.ensures)
