use Rattle.std.proofs.Common.{◌≡◌, true, refl, sym, ap, ◌∙◌}
use Rattle.job_texts.specs.Declarations as forms
use Rattle.grammar_text.specs.Collecting.{is_last}
use Rattle.grammar_text.proofs.WordsLines.{last_is_words}
use Rattle.grammar_text.proofs.laws.lines.words_lines_say_words.Goals as goal

last_says_words : (found : forms.HeaderLine) → is_last found ≡ true → found ≡ forms.Says forms.Words
last_says_words (forms.Says forms.Words) h = refl
last_says_words found h = cc

pub returns : goal.returns
returns c = λ version line. (
  λ says. sym (last_is_words version line) ∙ ap is_last says,
  λ words. last_says_words (forms.header_line version line) (last_is_words version line ∙ words),
)
