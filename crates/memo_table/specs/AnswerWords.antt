-- Answers whose words fit.
use Rattle.std.specs.Prelude.{ℤ, Option, Some, None}
use Rattle.adp_model.specs.declared.cell.Answer.{Answer}
use Rattle.adp_model.specs.declared.cell.Answer.TheVariants.{NoCandidate, Best}
use Rattle.adp_model.specs.declared.cell.Choice.{Choice}
use Rattle.memo_words.specs.Codes.{HasScoreCode, HasChoiceCode}

abbrev pub HasAnswerWords : Answer → Type 0
HasAnswerWords NoCandidate = Unit {0}
HasAnswerWords (Best score choice) = HasScoreCode (Some score) × HasChoiceCode (Some choice)

-- the answer with this score and this choice
abbrev pub answer_of : Option ℤ → Option Choice → Answer
answer_of (Some score) (Some choice) = Best score choice
answer_of (Some score) None = NoCandidate
answer_of None choice = NoCandidate
