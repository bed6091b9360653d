-- Which limit a word's length passes, from the numbers as they are told.
use Rattle.std.proofs.Common.{◌≡◌, ℕ, ◌<◌, ◌≤◌, sym, subst, arith}
use Rattle.adp_model.specs.declared.grammar.Grammar.{Grammar}
use Rattle.adp_model.specs.Cells.{IsCellBound}
use Rattle.adp_model.specs.Bounds.{IsScoreBound}
use Rattle.adp_model.specs.ProblemFields.{most_letters, most_cells, most_nodes, greatest_score}
use Rattle.adp_model.specs.LimitFaults.{told, HasFewNodes, IsLimitFault, ManyLetters, ManyCells, ManyNodes, GreatScores}
use Rattle.grammar_check.specs.ToldBounds.{IsToldScoreBound, IsToldNodeBound}
use Rattle.grammar_check.specs.Admitted.{KeepsCells}

pub letters_fault : (grammar : Grammar) (algebra len number : ℕ) → most_letters < len → number ≡ told len → IsLimitFault grammar algebra len (record { kind = 1; number = number })
letters_fault grammar algebra len number passes e = subst (λ n. IsLimitFault grammar algebra len (record { kind = 1; number = n })) (sym e) (ManyLetters passes)

pub cells_fault : (grammar : Grammar) (algebra len cells number : ℕ) → len ≤ most_letters → IsCellBound grammar len cells → most_cells < cells → number ≡ told cells → IsLimitFault grammar algebra len (record { kind = 2; number = number })
cells_fault grammar algebra len cells number letters bound passes e = subst (λ n. IsLimitFault grammar algebra len (record { kind = 2; number = n })) (sym e) (ManyCells cells letters bound passes)

pub nodes_fault : (grammar : Grammar) (algebra len cells number : ℕ) → KeepsCells grammar len cells → IsToldNodeBound grammar len number → most_nodes < number → IsLimitFault grammar algebra len (record { kind = 3; number = number })
nodes_fault grammar algebra len cells number kept bound passes =
    subst (λ n. IsLimitFault grammar algebra len (record { kind = 3; number = n })) (sym bound.2)
    (ManyNodes bound.0 kept.letters (cells, kept.bound, kept.few) bound.1 (let e = bound.2 in omega arith))

pub few_nodes : (grammar : Grammar) (len number : ℕ) → IsToldNodeBound grammar len number → number ≤ most_nodes → HasFewNodes grammar len
few_nodes grammar len number bound few = (bound.0, bound.1, (let e = bound.2 in omega arith))

pub scores_fault : (grammar : Grammar) (algebra len cells number : ℕ) → KeepsCells grammar len cells → HasFewNodes grammar len → IsToldScoreBound grammar algebra len number → greatest_score < number → IsLimitFault grammar algebra len (record { kind = 4; number = number })
scores_fault grammar algebra len cells number kept few bound passes =
    subst (λ n. IsLimitFault grammar algebra len (record { kind = 4; number = n })) (sym bound.2)
    (GreatScores bound.0 kept.letters (cells, kept.bound, kept.few) few bound.1 (let e = bound.2 in omega arith))

-- a score bound below its limit is told as it is
pub score_told : (grammar : Grammar) (algebra len number : ℕ) → IsToldScoreBound grammar algebra len number → number ≤ greatest_score → IsScoreBound grammar algebra len number
score_told grammar algebra len number bound low =
    let e = bound.2 in
    let same : bound.0 ≡ number = omega arith in
    subst (IsScoreBound grammar algebra len) same bound.1
