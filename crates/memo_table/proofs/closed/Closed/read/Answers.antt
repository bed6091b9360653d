use Rattle.std.proofs.Common.{◌∙◌}
use Rattle.memo_words.specs.declared.part.Part.TheVariants as parts
use Rattle.memo_table.proofs.ClosedParts.{word_read, score_there, choice_there, read_right}
use Rattle.memo_table.proofs.closed.Closed.read.Goals as goal

pub code_score-score-requires : goal.code_score-score-requires
code_score-score-requires c =
    let words = c.requires.words in
    score_there words.0 c.score.result words.1
    (c.score.ensures ∙ word_read c.self.inside c.args.self.now c.self.view_is c.self.invariant parts.Score
    c.args.number words.0 words.2)

pub code_choice-choice-requires : goal.code_choice-choice-requires
code_choice-choice-requires c =
    let words = c.requires.words in
    choice_there words.0 c.choice.result words.1
    (c.choice.ensures ∙ word_read c.self.inside c.args.self.now c.self.view_is c.self.invariant parts.Choice
    c.args.number words.0 words.2)

pub returns : goal.returns
returns c answer fits words =
    c.answer_of.ensures
    ∙ read_right answer c.score.result c.choice.result c.code_score-score.result c.code_choice-choice.result fits
    (c.score.ensures ∙ word_read c.self.inside c.args.self.now c.self.view_is c.self.invariant parts.Score
    c.args.number answer words)
    (c.choice.ensures ∙ word_read c.self.inside c.args.self.now c.self.view_is c.self.invariant parts.Choice
    c.args.number answer words)
    c.code_score-score.ensures.inverse c.code_choice-choice.ensures.inverse
