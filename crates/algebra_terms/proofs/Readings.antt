-- The reading of a term's text, from its tokens and its parts.
use Rattle.std.proofs.Common.{◌≡◌, ℕ, true, false, Some, None, Ok, Err, List, [], ◌∷◌, map, refl, ap}
use Rattle.adp_model.specs.declared.grammar.Linear.{Linear}
use Rattle.job_texts.specs.LineTokens.{PlacedToken, Token, line_tokens}
use Rattle.job_texts.specs.TermText.{Part, Name, Number, Unknown, are_names, are_numbers, totals_fit, are_declared, total, factors_after, term_of_parts}
use Rattle.job_texts.specs.TermParts.{parts_of, term_parts, term_reading}
use Rattle.algebra_terms.specs.declared.lexer.Token as spans
use Rattle.algebra_terms.specs.declared.error.TermError.{TermError}
use Rattle.algebra_terms.specs.declared.error.TermError.TheVariants as errors
use Rattle.algebra_terms.specs.Tokens.{said, placed}
use Rattle.algebra_terms.specs.Reading.{IsMissing, Gives}

-- what is wrong with the parts, or the term that they make
module _ (parts : List Part) (declared : List (List ℕ)) where
  pub no_names : are_names parts ≡ false → term_of_parts declared parts ≡ Err Name
  no_names names = rw names refl

  pub no_numbers : are_names parts ≡ true → are_numbers parts ≡ false → term_of_parts declared parts ≡ Err Number
  no_numbers names numbers = rw (names, numbers) refl

  pub too_great : are_names parts ≡ true → are_numbers parts ≡ true → totals_fit parts ≡ false → term_of_parts declared parts ≡ Err Number
  too_great names numbers fit = rw (names, numbers, fit) refl

  pub unknown : are_names parts ≡ true → are_numbers parts ≡ true → totals_fit parts ≡ true → are_declared declared parts ≡ false
      → term_of_parts declared parts ≡ Err Unknown
  unknown names numbers fit known = rw (names, numbers, fit, known) refl

  pub made : (term : Linear) → are_names parts ≡ true → are_numbers parts ≡ true → totals_fit parts ≡ true → are_declared declared parts ≡ true
      → total None parts ≡ term.constant → factors_after [] declared parts ≡ term.factors → term_of_parts declared parts ≡ Ok term
  made term names numbers fit known constant factors = rw (names, numbers, fit, known, constant, factors) refl

pub said_of_placed : (line : List ℕ) (tokens : List spans.Token)
    → map (λ (placed : PlacedToken). placed.token) (map (placed line) tokens) ≡ map (said line) tokens
said_of_placed line [] = refl
said_of_placed line (token ∷ tokens) = ap (λ (others : List Token). said line token ∷ others) (said_of_placed line tokens)

-- the parts of a text, by its tokens
parts_are : (line : List ℕ) (tokens : List spans.Token) → line_tokens line ≡ Ok (map (placed line) tokens)
    → term_parts line ≡ parts_of (map (said line) tokens)
parts_are line tokens found = rw (found, said_of_placed) refl

pub reading_is : (line : List ℕ) (variables : List (List ℕ)) (tokens : List spans.Token) (parts : List Part)
    → line_tokens line ≡ Ok (map (placed line) tokens) → parts_of (map (said line) tokens) ≡ Some parts
    → term_reading line variables ≡ term_of_parts variables parts
reading_is line variables tokens parts found read = rw (parts_are line tokens found, read) refl

-- a text whose tokens are no term's
pub no_parts : (line : List ℕ) (variables : List (List ℕ)) (tokens : List spans.Token) (error : TermError)
    → line_tokens line ≡ Ok (map (placed line) tokens) → IsMissing (parts_of (map (said line) tokens)) error
    → Gives (term_reading line variables) (Err error)
no_parts line variables tokens errors.Shape found missing = rw (parts_are line tokens found, missing) refl
no_parts line variables tokens errors.Memory found missing = tt
no_parts line variables tokens error found missing = absurd missing
