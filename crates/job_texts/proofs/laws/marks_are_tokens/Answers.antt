use Rattle.job_texts.proofs.TextTokens.{first_mark}
use Rattle.job_texts.proofs.laws.marks_are_tokens.Goals as goal

pub returns : goal.returns
returns c = first_mark
