use Rattle.job_texts.proofs.TextTokens.{space_first}
use Rattle.job_texts.proofs.laws.spaces_are_no_tokens.Goals as goal

pub returns : goal.returns
returns c = space_first
