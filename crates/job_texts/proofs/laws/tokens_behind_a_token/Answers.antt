use Rattle.job_texts.proofs.TextTokens.{behind_token}
use Rattle.job_texts.proofs.laws.tokens_behind_a_token.Goals as goal

pub returns : goal.returns
returns c = behind_token
