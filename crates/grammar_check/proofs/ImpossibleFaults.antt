-- The fault of a grammar with an alternative that no length fits.
use Rattle.std.proofs.Common.{◌≡◌, ℕ, ◌<◌, Err, List, length}
use Rattle.adp_model.specs.declared.grammar.Grammar.{Grammar}
use Rattle.adp_model.specs.Lengths.{IsProductive}
use Rattle.adp_model.specs.GrammarSigns.{HasMonotoneTerm}
use Rattle.adp_model.specs.GrammarFaults.{rule_name, IsNamed, IsFirstFaulty, HasImpossibleAlternative, HasPossibleAlternatives, Impossible}
use Rattle.yield_sizes.specs.LoopAnswers.{IsLoopFree}
use Rattle.grammar_check.specs.declared.error.CheckError.{CheckError}
use Rattle.grammar_check.specs.CheckAnswers.{IsRefusal, MatchFaultless}
use Rattle.grammar_check.proofs.FirstFaults.{faulty}

pub impossible_fault : (grammar : Grammar) (asked : List ℕ) (algebra rule : ℕ) (name : List ℕ) (error : CheckError) → IsNamed grammar asked algebra → ((other : ℕ) → other < length grammar.rules → IsProductive grammar other) → IsLoopFree grammar → ((sign : ℕ) → sign < length grammar.signs → HasMonotoneTerm grammar algebra sign) → IsFirstFaulty (HasImpossibleAlternative grammar) (HasPossibleAlternatives grammar) (length grammar.rules) rule → name ≡ rule_name grammar rule → IsRefusal 5 name error → MatchFaultless grammar asked (Err error)
impossible_fault grammar asked algebra rule name error named productive free monotone first same is =
    faulty grammar asked 5 name (rule_name grammar rule) error same is (Impossible algebra rule named productive (λ other inside. free other) monotone first)
