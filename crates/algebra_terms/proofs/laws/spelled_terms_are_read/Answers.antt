use Rattle.algebra_terms.proofs.SpelledTerms.{sign_term_is_read}
use Rattle.algebra_terms.proofs.laws.spelled_terms_are_read.Goals as goal

pub returns : goal.returns
returns c = sign_term_is_read c.words_are_tokens.ensures c.marks_are_tokens.ensures c.spaces_are_no_tokens.ensures
