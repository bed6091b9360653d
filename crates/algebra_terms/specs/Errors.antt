-- What the reader of terms answers where the tokens of a text could not be found.
use Rattle.algebra_terms.specs.declared.error.TermError.{TermError}
use Rattle.algebra_terms.specs.declared.error.TermError.TheVariants as terms
use Rattle.algebra_terms.specs.declared.error.TokenError.{TokenError}
use Rattle.algebra_terms.specs.declared.error.TokenError.TheVariants as tokens

abbrev pub term_error : TokenError → TermError
term_error tokens.StrayByte = terms.Shape
term_error tokens.OpenQuote = terms.Shape
term_error tokens.Memory = terms.Memory
