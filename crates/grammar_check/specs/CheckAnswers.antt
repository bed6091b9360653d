-- What the checks of a grammar answer.
use Rattle.std.specs.Prelude.{◌≡◌, ℕ, ◌<◌, Bool, true, false, Option, Some, None, Result, Ok, Err, List, length, slice_index_or}
use Rattle.adp_model.specs.declared.grammar.Grammar.{Grammar}
use Rattle.adp_model.specs.Lengths.{IsProductive}
use Rattle.adp_model.specs.GrammarFaults.{IsFirstFaulty, IsUnproductive, IsFaultless, IsGrammarFault}
use Rattle.yield_sizes.specs.declared.rule_sizes.Sizes.{Sizes}
use Rattle.yield_sizes.specs.GrammarSizes.{AreAllProductive, AreSizes, AreAnchors}
use Rattle.yield_sizes.specs.LoopAnswers.{IsLoopFree, AreRanks}
use Rattle.grammar_check.specs.declared.checking.Findings.{Findings}
use Rattle.grammar_check.specs.declared.error.CheckError.{CheckError}
use Rattle.grammar_check.specs.declared.error.CheckError.TheVariants.{Fault, Memory}
use Rattle.grammar_check.specs.CheckedGrammar.{CheckedGrammar}

-- the place of the first `false`, or none where all are `true`
abbrev pub IsFirstFalse : List Bool → Option ℕ → Type 0
IsFirstFalse flags None = (place : ℕ) → place < length flags → slice_index_or flags place false ≡ true
IsFirstFalse flags (Some place) =
    (place < length flags) × (slice_index_or flags place false ≡ false)
    × ((other : ℕ) → other < place → slice_index_or flags other false ≡ true)

-- the first rule that is not productive, or none where all are
abbrev pub IsFirstUnproductive : Grammar → Option ℕ → Type 0
IsFirstUnproductive grammar None = AreAllProductive grammar
IsFirstUnproductive grammar (Some rule) =
    IsFirstFaulty (IsUnproductive grammar) (IsProductive grammar) (length grammar.rules) rule

-- the fault of this kind and name, or want of memory
abbrev pub IsRefusal : ℕ → List ℕ → CheckError → Type 0
IsRefusal kind name (Fault fault) = fault ≡ record { kind = kind; name = name }
IsRefusal kind name Memory = Unit {0}

-- the algebra of the name under which the grammar has no fault, and the sizes of its rules; or the fault; or want of
-- memory
abbrev pub MatchFaultless : Grammar → List ℕ → Result (ℕ × Sizes) CheckError → Type 0
MatchFaultless grammar name (Ok found) =
    IsFaultless grammar name found.0 × IsLoopFree grammar × AreSizes grammar found.1
MatchFaultless grammar name (Err (Fault fault)) = IsGrammarFault grammar name fault
MatchFaultless grammar name (Err Memory) = Unit {0}

-- the same with ranks and anchors of the rules
abbrev pub MatchFindings : Grammar → List ℕ → Result Findings CheckError → Type 0
MatchFindings grammar name (Ok found) =
    IsFaultless grammar name found.algebra × AreSizes grammar found.sizes × AreAnchors grammar found.anchors
    × AreRanks grammar found.ranks
MatchFindings grammar name (Err (Fault fault)) = IsGrammarFault grammar name fault
MatchFindings grammar name (Err Memory) = Unit {0}

-- the grammar that was given with its algebra of the name, which has no fault; or the fault; or want of memory
abbrev pub MatchCheck : Grammar → List ℕ → Result CheckedGrammar CheckError → Type 0
MatchCheck grammar name (Ok checked) = (checked.grammar ≡ grammar) × IsFaultless grammar name checked.algebra
MatchCheck grammar name (Err (Fault fault)) = IsGrammarFault grammar name fault
MatchCheck grammar name (Err Memory) = Unit {0}
