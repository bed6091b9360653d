use Rattle.std.proofs.Common.{sym, ap, ◌∙◌}
use Rattle.grammar_check.specs.LetterSteps.{are_letters}
use Rattle.grammar_check.proofs.alternative.Alternative.adding.Goals as goal

pub new-requires : goal.new-requires
new-requires c = sym (c.are_letters.ensures ∙ ap are_letters c.deref.ensures.value) ∙ c.if-are_letters.true
