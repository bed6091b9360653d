-- The parts of a term in the tokens that spell it, and the term that a text spells or what is wrong with it.
use Rattle.std.specs.Prelude.{ℕ, Bool, true, false, ◌&&◌, not, Option, Some, None, Result, Err, List, [], ◌∷◌, if◌then◌else◌}
use Rattle.std.specs.Option.{option_and_then}
use Rattle.std.specs.Result.{result_ok}
use Rattle.adp_model.specs.declared.grammar.Linear.{Linear}
use Rattle.job_texts.specs.LineTokens.{Token, Word, Plus, Minus, Times, tokens_of}
use Rattle.job_texts.specs.TermText.{Part, begins_number, plain_number, plain_variable, multiple, with_part, TermFault, Shape, term_of_parts}

-- a word alone: a number or a variable
abbrev pub single : Bool → List ℕ → Part
single negative word = if begins_number word then plain_number negative word else plain_variable negative word

abbrev mutual
  -- a part, and what may follow it: `5*x`, `5` or `x`
  pub parts_from : Bool → List Token → Option (List Part)
  parts_from negative (Word number ∷ Times ∷ Word variable ∷ tokens) =
      if begins_number number && not (begins_number variable)
      then with_part (multiple negative number variable) (further_parts tokens)
      else None
  parts_from negative (Word word ∷ tokens) = with_part (single negative word) (further_parts tokens)
  parts_from negative tokens = None

  -- any number of further parts, each behind its sign
  pub further_parts : List Token → Option (List Part)
  further_parts [] = Some []
  further_parts (Plus ∷ tokens) = parts_from false tokens
  further_parts (Minus ∷ tokens) = parts_from true tokens
  further_parts tokens = None

-- the parts of a term, whose first may have a `-`; nothing where the tokens are no term's
abbrev pub parts_of : List Token → Option (List Part)
parts_of (Minus ∷ tokens) = parts_from true tokens
parts_of tokens = parts_from false tokens

-- the parts of the term that a text spells; nothing where it spells none
abbrev pub term_parts : List ℕ → Option (List Part)
term_parts text = option_and_then parts_of (result_ok (tokens_of text))

-- the term of these variables that a text spells, or the first that is wrong with it
abbrev pub term_reading : List ℕ → List (List ℕ) → Result Linear TermFault
term_reading text variables = judge (term_parts text)
  where
    judge : Option (List Part) → Result Linear TermFault
    judge None = Err Shape
    judge (Some parts) = term_of_parts variables parts
