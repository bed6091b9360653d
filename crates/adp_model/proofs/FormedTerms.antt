-- Strict terms of a well-formed grammar keep the order of scores strictly.
use Rattle.std.proofs.Common.{ℕ, ◌<◌, IsTrue, length}
use Rattle.adp_model.specs.declared.grammar.Grammar.{Grammar}
use Rattle.adp_model.specs.Parts.{sign_at, term_for}
use Rattle.adp_model.specs.Checks.{IsStrictAlgebra, KeepsStrictOrders}
use Rattle.adp_model.specs.Terms.{CanHaveAny}
use Rattle.adp_model.specs.WellFormed.{is_well_formed}
use Rattle.adp_model.proofs.FittingTerms.{IsTermFor-sign}
use Rattle.adp_model.proofs.Strict.{KeepsStrictOrder-strict}

pub strict_orders-formed : (grammar : Grammar) → IsTrue (is_well_formed grammar) → (algebra : ℕ) → algebra < length grammar.algebras → IsStrictAlgebra grammar algebra → KeepsStrictOrders grammar algebra
strict_orders-formed grammar h algebra known strict sign inside =
    KeepsStrictOrder-strict CanHaveAny (term_for grammar algebra sign) (sign_at grammar sign).kinds (IsTermFor-sign grammar h algebra sign known inside) (strict sign inside)
