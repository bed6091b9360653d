-- A second algebra, which a command may ask for by its name: it decides among equals. What it adds to the faults of a
-- grammar and to the limits of its words; where none is asked for, these are the grammar's and the words' own.
use Rattle.std.specs.Prelude.{ℕ, ◌⊎◌, Option, None, Some, List}
use Rattle.adp_model.specs.declared.grammar.Grammar as grammars
use Rattle.adp_model.specs.declared.fault.GrammarFault.{GrammarFault}
use Rattle.adp_model.specs.declared.fault.LimitFault.{LimitFault}
use Rattle.adp_model.specs.GrammarFaults.{IsNamed, IsFaultless, IsGrammarFault}
use Rattle.adp_model.specs.LimitFaults.{IsLimitFault}
use Rattle.adp_model.specs.ProblemFields.{IsAdmissible, KeepsLimits}
use Rattle.adp_model.specs.PosedProblem.{PosedProblem}
use Rattle.lex_product.specs.PairFaults.{AllAddScores, IsPairFault}
use Rattle.lex_product.specs.PairLimits.{IsPairAdmissible, IsPairLimitFault, KeepsPairLimits}

-- the algebra of this number is the second one
abbrev pub IsSecond : Option (List ℕ) → grammars.Grammar → ℕ → Type 0
IsSecond None grammar second = ⊥
IsSecond (Some name) grammar second = IsNamed grammar name second

-- the algebra and the second one make a pair: all terms of both add scores as they are
abbrev pub MakesPairWith : Option (List ℕ) → grammars.Grammar → ℕ → Type 0
MakesPairWith None grammar algebra = Unit {0}
MakesPairWith (Some name) grammar algebra =
    (second : ℕ) × IsNamed grammar name second × AllAddScores grammar algebra second

-- the fault of the grammar under the algebra of this name; or, where there is none, that of the pair
abbrev pub IsFaultWith : Option (List ℕ) → grammars.Grammar → List ℕ → GrammarFault → Type 0
IsFaultWith None grammar name fault = IsGrammarFault grammar name fault
IsFaultWith (Some other) grammar name fault =
    IsGrammarFault grammar name fault
    ⊎ ((algebra : ℕ) × IsFaultless grammar name algebra × IsPairFault grammar algebra other fault)

-- a length keeps the limits
abbrev pub KeepsLimitsWith : Option (List ℕ) → grammars.Grammar → ℕ → ℕ → Type 0
KeepsLimitsWith None grammar algebra len = KeepsLimits grammar algebra len
KeepsLimitsWith (Some name) grammar algebra len =
    (second : ℕ) × IsNamed grammar name second × KeepsPairLimits grammar algebra second len

-- the fault of a length
abbrev pub IsLimitWith : Option (List ℕ) → grammars.Grammar → ℕ → ℕ → LimitFault → Type 0
IsLimitWith None grammar algebra len fault = IsLimitFault grammar algebra len fault
IsLimitWith (Some name) grammar algebra len fault =
    (second : ℕ) × IsNamed grammar name second × IsPairLimitFault grammar algebra second len fault

-- the grammar passes the checks, and the word keeps the limits
abbrev pub IsAdmissibleWith : Option (List ℕ) → PosedProblem → Type 0
IsAdmissibleWith None p = IsAdmissible p
IsAdmissibleWith (Some name) p = (second : ℕ) × IsNamed p.grammar name second × IsPairAdmissible p second
