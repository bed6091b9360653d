use Rattle.spelled_texts.proofs.ReadBack.{spelling_read_back}
use Rattle.spelled_texts.proofs.ReadTokens.{TokenLaws}
use Rattle.spelled_texts.proofs.Terms.{TermLaws}
use Rattle.spelled_texts.proofs.spellings_are_read_back.Goals as goal

pub returns : goal.returns
returns c =
    let laws : TokenLaws = record {
      words = c.words_are_tokens.ensures;
      marks = c.marks_are_tokens.ensures;
      spaces = c.spaces_are_no_tokens.ensures;
      dots = c.dots_are_tokens.ensures;
      quotes = c.quoted_texts_are_tokens.ensures;
    } in
    let term_laws : TermLaws = record { linear = c.spelled_terms_are_read.ensures; wide = c.spelled_wide_terms_are_read.ensures } in
    spelling_read_back laws term_laws
