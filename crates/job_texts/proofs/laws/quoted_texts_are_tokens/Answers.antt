use Rattle.job_texts.proofs.TextTokens.{first_quoted}
use Rattle.job_texts.proofs.laws.quoted_texts_are_tokens.Goals as goal

pub returns : goal.returns
returns c = first_quoted
