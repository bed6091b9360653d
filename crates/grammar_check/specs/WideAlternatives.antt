-- Values of an alternative with a wide term, and what its rows have.
use Rattle.std.specs.Prelude.{ℕ, ◌-◌, nat_le, if◌then◌else◌, List}
use Rattle.adp_model.specs.WideForm as wide
use Rattle.grammar_check.specs.declared.part.Part.{Part}
use Rattle.grammar_check.specs.declared.wide_alternative.WideAlternative.{WideAlternative}
use Rattle.grammar_check.specs.Plans.{lows}
use Rattle.grammar_check.specs.TermSpreads.{wide_spread}
use Rattle.grammar_check.specs.WideRows.{HasRow, AreTermRows}

-- the greatest that the term comes to over all ways to give the alternative this length; 0 where there is none
abbrev pub wide_value : (ℕ → ℕ → ℕ) → wide.WideForm → List Part → ℕ → ℕ
wide_value bound term parts len =
    if nat_le (lows parts) len then wide_spread bound parts term (len - lows parts) else 0

-- the rows have what the term, and each side of each of its nodes, comes to with fewer spare letters than these
pub record AreWideSpread (bound : ℕ → ℕ → ℕ) (alternative : WideAlternative) (count : ℕ) : Type 0 where
  pub whole : HasRow bound alternative.parts.items alternative.rows alternative.term.now 0 count
  pub sides : AreTermRows bound alternative.parts.items alternative.rows alternative.term.now 1 count
