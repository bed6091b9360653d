-- Plans: the alternatives of a grammar's rules as numbers, for the rows of a bound. An argument is a part, with what it
-- adds by its length; a way spreads the spare letters, those beyond the parts' least lengths, over the parts.
use Rattle.std.specs.Prelude.{◌≡◌, ℕ, zero, suc, ◌+◌, ◌-◌, ◌*◌, ◌<◌, max, min, Bool, false, ◌&&◌, true, nat_eq, if◌then◌else◌, List, [], ◌∷◌, slice_index_or}
use Rattle.adp_model.specs.LimitFaults.{told}
use Rattle.grammar_check.specs.declared.part.Worth.{Worth}
use Rattle.grammar_check.specs.declared.part.Worth.TheVariants.{OfRule, OfLetters}
use Rattle.grammar_check.specs.declared.part.Part.{Part}
use Rattle.grammar_check.specs.declared.table.Table.{Table}
use Rattle.grammar_check.specs.Tables.{entry}

-- what an argument of this length adds, where rules have these bounds
abbrev pub worth_of : (ℕ → ℕ → ℕ) → Worth → ℕ → ℕ
worth_of bound (OfRule rule factor) len = factor * bound rule len
worth_of bound (OfLetters weight factor) len = factor * (weight * len)

-- the rule is one of so many
abbrev pub IsReadable : ℕ → Worth → Type 0
IsReadable rules (OfRule rule factor) = rule < rules
IsReadable rules (OfLetters weight factor) = Unit {0}

-- the table has the rule's bound at this length, cut
abbrev pub ReadsRight : (ℕ → ℕ → ℕ) → Table → Worth → ℕ → Type 0
ReadsRight bound table (OfRule rule factor) len = entry table rule len ≡ told (bound rule len)
ReadsRight bound table (OfLetters weight factor) len = Unit {0}

-- the greatest of so many numbers from this place on; 0 where there is none
abbrev pub greatest_from : (ℕ → ℕ) → ℕ → ℕ → ℕ
greatest_from number first zero = 0
greatest_from number first (suc count) = max (greatest_from number first count) (number (first + count))

-- how many spare letters the parts can take
abbrev pub rooms : List Part → ℕ
rooms [] = 0
rooms (part ∷ parts) = part.room + rooms parts

-- the least lengths, added up
abbrev pub lows : List Part → ℕ
lows [] = 0
lows (part ∷ parts) = part.low + lows parts

-- the greatest that parts add together, over all ways to spread so many spare letters over them
abbrev pub spread : (ℕ → ℕ → ℕ) → List Part → ℕ → ℕ
spread bound [] spare = 0
spread bound (part ∷ parts) spare =
    greatest_from (λ more. worth_of bound part.worth (part.low + more) + spread bound parts (spare - more))
    (spare - rooms parts) (min spare part.room + 1 - (spare - rooms parts))

-- a part by its place
abbrev pub part_at : List Part → ℕ → Part
part_at parts place = slice_index_or parts place (record { worth = OfLetters 0 0; low = 0; room = 0 })

-- it adds by the number of letters
abbrev pub is_letters : Worth → Bool
is_letters (OfRule rule factor) = false
is_letters (OfLetters weight factor) = true

-- a token of one length
abbrev pub is_fixed : Part → Bool
is_fixed part = nat_eq part.room 0 && is_letters part.worth

-- the other parts
abbrev pub open_parts : List Part → List Part
open_parts [] = []
open_parts (part ∷ parts) = if is_fixed part then open_parts parts else part ∷ open_parts parts

-- the letters of tokens of one length
abbrev pub fixed_length : List Part → ℕ
fixed_length [] = 0
fixed_length (part ∷ parts) = (if is_fixed part then part.low else 0) + fixed_length parts

-- what these add
abbrev pub fixed_worth : List Part → ℕ
fixed_worth [] = 0
fixed_worth (part ∷ parts) =
    (if is_fixed part then worth_of (λ rule len. 0) part.worth part.low else 0) + fixed_worth parts
