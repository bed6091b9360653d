-- Spare letters for parts that are letters alone. A letter of a part is worth the same wherever it stands, so the most
-- is added where letters go to the part that is worth most a letter, up to its room, then to the next.
use Rattle.std.specs.Prelude.{ℕ, suc, ◌+◌, ◌-◌, ◌*◌, min, Bool, true, ◌&&◌, nat_le, if◌then◌else◌, List, [], ◌∷◌, insert}
use Rattle.adp_model.specs.LimitFaults.{told}
use Rattle.grammar_check.specs.declared.part.Worth.{Worth}
use Rattle.grammar_check.specs.declared.part.Worth.TheVariants.{OfRule, OfLetters}
use Rattle.grammar_check.specs.declared.part.Part.{Part}
use Rattle.grammar_check.specs.declared.letter_alternative.Step.{Step}
use Rattle.grammar_check.specs.Plans.{is_letters}

-- all of them add by the number of letters
abbrev pub are_letters : List Part → Bool
are_letters [] = true
are_letters (part ∷ parts) = is_letters part.worth && are_letters parts

-- what a letter adds, cut; 0 for a rule
abbrev pub letter_of : Worth → ℕ
letter_of (OfRule rule factor) = 0
letter_of (OfLetters weight factor) = told (factor * weight)

-- what the parts add with their least lengths
abbrev pub least_worth : List Part → ℕ
least_worth [] = 0
least_worth (part ∷ parts) = letter_of part.worth * part.low + least_worth parts

-- the spare letters of a part
abbrev pub step_of : Part → Step
step_of part = record { worth = letter_of part.worth; room = part.room }

-- how many steps are worth more than this, up to the first that is not
abbrev pub place_in : List Step → ℕ → ℕ
place_in [] worth = 0
place_in (step ∷ steps) worth = if nat_le step.worth worth then 0 else suc (place_in steps worth)

-- the spare letters of all parts, those that are worth most first
abbrev pub steps_of : List Part → List Step
steps_of [] = []
steps_of (part ∷ parts) = insert (steps_of parts) (place_in (steps_of parts) (letter_of part.worth)) (step_of part)

-- what so many letters add that go to the first step, up to its room, then to the next
abbrev pub taken : List Step → ℕ → ℕ
taken [] spare = 0
taken (step ∷ steps) spare = step.worth * min spare step.room + taken steps (spare - step.room)
