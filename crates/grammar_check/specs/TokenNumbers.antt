-- The greatest that a token of a plan can be worth at a length, and the score bound of words, from a table of bounds.
use Rattle.std.specs.Prelude.{ℕ, zero, suc, ◌+◌, ◌*◌, ◌&&◌, max, nat_le, if◌then◌else◌, List, [], ◌∷◌}
use Rattle.grammar_check.specs.declared.part.Worth.{Worth}
use Rattle.grammar_check.specs.declared.part.Worth.TheVariants.{OfRule, OfLetters}
use Rattle.grammar_check.specs.declared.part.Part.{Part}
use Rattle.grammar_check.specs.Plans.{greatest_from}
use Rattle.grammar_check.specs.RuleValues.{Entry}

-- the greatest number of the items; 0 where there is none
abbrev pub greatest_of : {X : Type 0} → (X → ℕ) → List X → ℕ
greatest_of number [] = 0
greatest_of number (item ∷ items) = max (number item) (greatest_of number items)

-- what letters of this number are worth to a token; 0 for a rule
abbrev pub letters_worth : Worth → ℕ → ℕ
letters_worth (OfRule rule factor) len = 0
letters_worth (OfLetters weight factor) len = weight * len

-- the same, where the part may have this length
abbrev pub token_number : ℕ → Part → ℕ
token_number len part =
    if nat_le part.low len && nat_le len (part.low + part.room) then letters_worth part.worth len else 0

-- the greatest over all tokens of an alternative
abbrev pub alternative_tokens : ℕ → Entry → ℕ
alternative_tokens len entry = greatest_of (token_number len) entry.1

-- the greatest over all tokens of the plan
abbrev pub tokens_number : ℕ → List (List Entry) → ℕ
tokens_number len plan = greatest_of (greatest_of (alternative_tokens len)) plan

-- the greatest bound of so many rules at this length
abbrev pub rules_number : (ℕ → ℕ → ℕ) → ℕ → ℕ → ℕ
rules_number bound rules len = greatest_from (λ rule. bound rule len) 0 rules

-- the greatest of all bounds of rules and tokens up to this length
abbrev pub score_number : (ℕ → ℕ → ℕ) → ℕ → List (List Entry) → ℕ → ℕ
score_number bound rules plan zero = max (rules_number bound rules 0) (tokens_number 0 plan)
score_number bound rules plan (suc len) =
    max (score_number bound rules plan len) (max (rules_number bound rules (suc len)) (tokens_number (suc len) plan))
