use Rattle.std.proofs.Common.{◌≡◌, ◌∷◌, drop, rules}
use Rattle.job_texts.specs.LineTokens.{Word, OpenSquare}
use Rattle.grammar_text.specs.Seen.{tokens_seen}
use Rattle.grammar_text.proofs.ShapeSteps.{rest_of, brackets_end, brackets_unended}
use Rattle.grammar_text.proofs.reader.shape.first_argument.Goals as goal

pub returns-in_err-argument-in-OpenSquare : goal.returns-in_err-argument-in-OpenSquare
returns-in_err-argument-in-OpenSquare c =
    let front : tokens_seen c.args.said.now ≡ OpenSquare ∷ Word c.in-OpenSquare.class.now ∷ tokens_seen (drop 2 c.args.said.now) = search rules in
    let none = rw rest_of at c.in_err-argument-in-OpenSquare.ensures in
    rw c.from_residual.ensures (brackets_unended c.in-OpenSquare.class.now c.args.said.now front none)

pub returns-in_ok-argument-in-OpenSquare : goal.returns-in_ok-argument-in-OpenSquare
returns-in_ok-argument-in-OpenSquare c =
    let front : tokens_seen c.args.said.now ≡ OpenSquare ∷ Word c.in-OpenSquare.class.now ∷ tokens_seen (drop 2 c.args.said.now) = search rules in
    brackets_end c.in-OpenSquare.class c.args.said.now c.in_ok-argument-in-OpenSquare.argument c.in_ok-argument-in-OpenSquare.used front c.in-OpenSquare.len_at_least (rw rest_of at c.in_ok-argument-in-OpenSquare.ensures)
