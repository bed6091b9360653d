use Rattle.job_texts.proofs.TextTokens.{first_dots}
use Rattle.job_texts.proofs.laws.dots_are_tokens.Goals as goal

pub returns : goal.returns
returns c = first_dots
