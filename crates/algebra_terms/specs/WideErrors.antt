-- What the reader of wide terms answers where the tokens of a text could not be found.
use Rattle.algebra_terms.specs.declared.wide_error.WideError.{WideError}
use Rattle.algebra_terms.specs.declared.wide_error.WideError.TheVariants as wide
use Rattle.algebra_terms.specs.declared.error.TokenError.{TokenError}
use Rattle.algebra_terms.specs.declared.error.TokenError.TheVariants as tokens

abbrev pub wide_error : TokenError → WideError
wide_error tokens.StrayByte = wide.Shape
wide_error tokens.OpenQuote = wide.Shape
wide_error tokens.Memory = wide.Memory
