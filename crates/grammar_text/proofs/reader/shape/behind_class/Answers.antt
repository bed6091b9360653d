use Rattle.std.proofs.Common.{◌≡◌, ◌∷◌, drop, rules}
use Rattle.job_texts.specs.LineTokens.{Word, Dots}
use Rattle.grammar_text.specs.Seen.{tokens_seen}
use Rattle.grammar_text.proofs.ShapeSteps.{rest_of, run_end}
use Rattle.grammar_text.proofs.reader.shape.behind_class.Goals as goal

pub returns-in_ok-high-in-Word : goal.returns-in_ok-high-in-Word
returns-in_ok-high-in-Word c =
    let front : tokens_seen c.args.said.now ≡ Word c.in-Word.low.now ∷ Dots ∷ tokens_seen (drop 2 c.args.said.now) = search rules in
    run_end c.args.class c.in-Word.low c.args.said.now c.in_ok-high-in-Word.high c.in_ok-high-in-Word.used c.run_of_class.result c.run_of_class.ensures front c.in-Word.len_at_least (rw rest_of at c.in_ok-high-in-Word.ensures)
