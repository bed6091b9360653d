-- What can't be refuted; that a grammar has sizes and ranks, is faultless or faulty, and that a length keeps its limits or
-- passes one.
use Rattle.std.specs.Prelude.{ℕ, ◌⊎◌, Option, List}
use Rattle.adp_model.specs.declared.fault.GrammarFault.{GrammarFault}
use Rattle.adp_model.specs.declared.fault.LimitFault.{LimitFault}
use Rattle.adp_model.specs.declared.grammar.Grammar.{Grammar}
use Rattle.adp_model.specs.Checks.{IsChecked}
use Rattle.adp_model.specs.GrammarFaults.{IsFaultless, IsGrammarFault}
use Rattle.adp_model.specs.LimitFaults.{IsLimitFault}
use Rattle.adp_model.specs.ProblemFields.{KeepsLimits}

-- it can't be that the statement is false
abbrev pub IsIrrefutable : Type 0 → Type 0
IsIrrefutable Statement = (Statement → ⊥) → ⊥

-- the grammar passes the checks under this algebra, with some sizes and ranks
abbrev pub HasSizesAndRanks : Grammar → ℕ → Type 0
HasSizesAndRanks grammar algebra =
    (least : List ℕ) × (greatest : List (Option ℕ)) × (ranks : List ℕ) × IsChecked grammar algebra least greatest ranks

-- under this name the grammar has a fault, or it has none under an algebra
abbrev pub IsFaultyOrSound : Grammar → List ℕ → Type 0
IsFaultyOrSound grammar name =
    ((fault : GrammarFault) × IsGrammarFault grammar name fault) ⊎ ((algebra : ℕ) × IsFaultless grammar name algebra)

-- words of this length keep the limits, or pass one
abbrev pub KeepsOrPassesLimits : Grammar → ℕ → ℕ → Type 0
KeepsOrPassesLimits grammar algebra len =
    KeepsLimits grammar algebra len ⊎ ((fault : LimitFault) × IsLimitFault grammar algebra len fault)
