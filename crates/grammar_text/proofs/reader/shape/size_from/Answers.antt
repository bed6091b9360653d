use Rattle.std.proofs.Common.{◌≡◌, ◌∷◌, drop, refl, rules}
use Rattle.job_texts.specs.LineTokens.{Word, Bar}
use Rattle.grammar_text.specs.Seen.{tokens_seen}
use Rattle.grammar_text.proofs.reader.shape.size_from.Goals as goal

pub returns-in-Word-2 : goal.returns-in-Word-2
returns-in-Word-2 c =
    let front : tokens_seen c.args.said.now ≡ Word c.in-Word-2.high.now ∷ Bar ∷ tokens_seen (drop 2 c.args.said.now) = search rules in
    (rw front refl, c.in-Word-2.len_at_least)
