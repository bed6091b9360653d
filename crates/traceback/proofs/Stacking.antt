-- Cells of a split's rule arguments on the stack.
use Rattle.std.proofs.Common.{◌≡◌, ℕ, List, [], ◌∷◌, refl}
use Rattle.adp_model.specs.declared.grammar.Arg.{Arg}
use Rattle.adp_model.specs.Splits.{place}
use Rattle.traceback.specs.Preorder.{stacked}

pub stacked-none : (arguments : List Arg) (from : ℕ) → stacked (place arguments from []) ≡ []
stacked-none [] from = refl
stacked-none (argument ∷ arguments) from = refl
