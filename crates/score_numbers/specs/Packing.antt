-- Scores in few bits: numbers of a width stand for scores that were turned, so that a better one is greater, or tell
-- that there is no candidate.
use Rattle.std.specs.Prelude.{◌≡◌, ℕ, ◌^◌, ◌-◌, ◌≤◌, ◌⊎◌, ℤ, negsuc, nat_abs, Some, List, map, slice_get, if◌then◌else◌}
use Rattle.std.specs.Ordering.{int_eq}
use Rattle.adp_model.specs.declared.grammar.Goal.{Goal}
use Rattle.score_numbers.specs.Entries.{no_candidate}
use Rattle.score_numbers.specs.Turned.{turned}

-- the number that tells that there is no candidate, and the greatest absolute value of the others
pub record Width : Type 0 where
  pub mark : ℤ
  pub limit : ℕ

-- the numbers of 16, of 32 and of 64 bits
abbrev pub short : Width
short = record { mark = negsuc (2 ^ 14 - 1); limit = 2 ^ 12 }

abbrev pub medium : Width
medium = record { mark = negsuc (2 ^ 30 - 1); limit = 2 ^ 28 }

abbrev pub long : Width
long = record { mark = negsuc (2 ^ 62 - 1); limit = 2 ^ 60 }

-- the number is one of the width
abbrev pub IsProper : Width → ℤ → Type 0
IsProper width number = (number ≡ width.mark) ⊎ (nat_abs number ≤ width.limit)

abbrev pub AreProper : Width → List ℤ → Type 0
AreProper width numbers = (position : ℕ) (number : ℤ) → slice_get numbers position ≡ Some number → IsProper width number

-- the entry that the number stands for
abbrev pub told : Width → Goal → ℤ → ℤ
told width goal number = if int_eq number width.mark then no_candidate else turned goal number

abbrev pub told_list : Width → Goal → List ℤ → List ℤ
told_list width goal numbers = map (told width goal) numbers
