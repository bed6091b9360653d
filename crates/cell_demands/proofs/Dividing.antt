-- What arguments cover.
use Rattle.std.proofs.Common.{ℕ, ◌≤◌, List, [], ◌∷◌, arith}
use Rattle.adp_model.specs.declared.grammar.Arg.{Arg}
use Rattle.adp_model.specs.PosedProblem.{PosedProblem}
use Rattle.viable_splits.specs.Placing.{Cover}

-- what arguments cover goes forward
pub cover_forward : (p : PosedProblem) (arguments : List Arg) (from to : ℕ) → Cover p arguments from to → from ≤ to
cover_forward p [] from to h = omega arith
cover_forward p (argument ∷ arguments) from to h =
    let first = h.1.0.in_order in
    let others = cover_forward p arguments h.0 to h.2 in
    omega arith
