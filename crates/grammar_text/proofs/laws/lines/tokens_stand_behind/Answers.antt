use Rattle.grammar_text.proofs.BehindTokens.{tokens_behind}
use Rattle.grammar_text.proofs.laws.lines.tokens_stand_behind.Goals as goal

pub returns : goal.returns
returns c = tokens_behind
