-- Limits of lists are kept or passed, and not both; of those that are passed one is the first.
use Rattle.std.proofs.Common.{◌≡◌, ℕ, zero, suc, ◌*◌, ◌<◌, ◌≤◌, ap, arith}
use Rattle.adp_model.specs.declared.fault.LimitFault.{LimitFault}
use Rattle.adp_model.specs.declared.grammar.Grammar.{Grammar}
use Rattle.adp_model.specs.Cells.{IsCellBound}
use Rattle.adp_model.specs.Bounds.{IsNodeBound}
use Rattle.first_trees.specs.ListLimits.{HasFewListed, IsListLimitFault, KeepsListLimits, ManyListed, ManyListedNodes, most_listed}

below_and_above : (a b limit : ℕ) → a ≡ b → a ≤ limit → limit < b → ⊥
below_and_above a b limit same low high = absurd (omega arith)

-- a bound times none passes nothing
asks_some : (k bound : ℕ) → most_listed < bound * k → 1 ≤ k
asks_some zero bound passes = absurd (omega arith)
asks_some (suc k) bound passes = omega arith

pub asked_for : (grammar : Grammar) (len k : ℕ) (fault : LimitFault) → IsListLimitFault grammar len k fault → 1 ≤ k
asked_for grammar len k fault (ManyListed count bound passes) = asks_some k count passes
asked_for grammar len k fault (ManyListedNodes number few bound passes) = asks_some k number passes

-- where there is one bound of each kind
module _ (grammar : Grammar) (len k : ℕ)
    (one_cells : (a b : ℕ) → IsCellBound grammar len a → IsCellBound grammar len b → a ≡ b)
    (one_nodes : (a b : ℕ) → IsNodeBound grammar len a → IsNodeBound grammar len b → a ≡ b) where
  many_and_few : (count : ℕ) → HasFewListed grammar len k → IsCellBound grammar len count → most_listed < count * k → ⊥
  many_and_few count few bound passes =
      below_and_above (few.0 * k) (count * k) most_listed (ap (λ n. n * k) (one_cells few.0 count few.1 bound)) few.2
      passes

  pub kept_not_passed : (fault : LimitFault) → KeepsListLimits grammar len k → IsListLimitFault grammar len k fault → ⊥
  kept_not_passed fault keeps (ManyListed count bound passes) = many_and_few count keeps.cells bound passes
  kept_not_passed fault keeps (ManyListedNodes number few bound passes) =
      below_and_above (keeps.nodes.0 * k) (number * k) most_listed
      (ap (λ n. n * k) (one_nodes keeps.nodes.0 number keeps.nodes.1 bound)) keeps.nodes.2 passes

  pub one_fault : (a b : LimitFault) → IsListLimitFault grammar len k a → IsListLimitFault grammar len k b → a ≡ b
  one_fault a b (ManyListed count bound passes) (ManyListed count' bound' passes') =
      ap (λ (n : ℕ). record { kind = 5; number = n * k }) (one_cells count count' bound bound')
  one_fault a b (ManyListed count bound passes) (ManyListedNodes number few bound' passes') =
      absurd (many_and_few count few bound passes)
  one_fault a b (ManyListedNodes number few bound passes) (ManyListed count bound' passes') =
      absurd (many_and_few count few bound' passes')
  one_fault a b (ManyListedNodes number few bound passes) (ManyListedNodes number' few' bound' passes') =
      ap (λ (n : ℕ). record { kind = 6; number = n * k }) (one_nodes number number' bound bound')
