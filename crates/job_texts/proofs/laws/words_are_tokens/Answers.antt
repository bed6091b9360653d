use Rattle.job_texts.proofs.TextTokens.{first_word}
use Rattle.job_texts.proofs.laws.words_are_tokens.Goals as goal

pub returns : goal.returns
returns c = first_word
