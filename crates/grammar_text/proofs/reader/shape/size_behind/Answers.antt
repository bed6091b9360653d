use Rattle.std.proofs.Common.{◌≡◌, ◌∷◌, drop, rules}
use Rattle.job_texts.specs.LineTokens.{Word, Dots}
use Rattle.grammar_text.specs.Seen.{tokens_seen}
use Rattle.grammar_text.proofs.ShapeSteps.{rest_of, size_end, size_unended}
use Rattle.grammar_text.proofs.reader.shape.size_behind.Goals as goal

pub returns : goal.returns
returns c =
    let front : tokens_seen c.args.said.now ≡ Word c.in-Word.low.now ∷ Dots ∷ tokens_seen (drop 2 c.args.said.now) = search rules in
    size_end c.in-Word.low c.args.said.now c.in_ok-size.size c.in_ok-size.next c.in_ok-size.used front c.in-Word.len_at_least (rw rest_of at c.in_ok-size.ensures)

pub returns-in_err-size : goal.returns-in_err-size
returns-in_err-size c =
    let front : tokens_seen c.args.said.now ≡ Word c.in-Word.low.now ∷ Dots ∷ tokens_seen (drop 2 c.args.said.now) = search rules in
    let none = rw rest_of at c.in_err-size.ensures in
    rw c.from_residual.ensures (size_unended c.in-Word.low.now c.args.said.now front none)
