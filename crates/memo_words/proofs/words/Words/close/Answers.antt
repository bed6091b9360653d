use Rattle.memo_words.proofs.Moves.{closes}
use Rattle.memo_words.proofs.words.Words.close.Goals as goal

pub returns-clause-words : goal.returns-clause-words
returns-clause-words c = closes _ _ _ _ _ c.args.pass.sound.1 c.requires.whole c.close_with.ensures.values
