-- Children on the stack.
use Rattle.std.proofs.Common.{◌≡◌, ℕ, ◌≤◌, min, List, [], ◌∷◌, length, refl, arith}
use Rattle.adp_model.specs.declared.grammar.Arg.{Arg}
use Rattle.adp_model.specs.Splits.{place}
use Rattle.adp_model.specs.Ascii.{comma}
use Rattle.report.specs.declared.tree_lines.Piece.TheVariants.{Mark}
use Rattle.report.specs.Pieces.{child_pieces, comma_before}

pub child_pieces-none : (arguments : List Arg) (from : ℕ) → child_pieces (place arguments from []) ≡ []
child_pieces-none [] from = refl
child_pieces-none (argument ∷ arguments) from = refl

pub comma_before-none : (arguments : List Arg) (from : ℕ) (ends : List ℕ) → min (length arguments) (length ends) ≡ 0
    → comma_before (place arguments from ends) ≡ []
comma_before-none [] from ends none = refl
comma_before-none (argument ∷ arguments) from [] none = refl
comma_before-none (argument ∷ arguments) from (to ∷ ends) none = absurd (omega arith)

pub comma_before-some : (arguments : List Arg) (from : ℕ) (ends : List ℕ) → 1 ≤ min (length arguments) (length ends)
    → comma_before (place arguments from ends) ≡ Mark comma ∷ []
comma_before-some [] from ends some = absurd (omega arith)
comma_before-some (argument ∷ arguments) from [] some = absurd (omega arith)
comma_before-some (argument ∷ arguments) from (to ∷ ends) some = refl
