use Rattle.adp_model.proofs.Checked.{Bellman-checked}
use Rattle.adp_model.proofs.Strict.{never_earlier}
use Rattle.adp_model.proofs.FormedTerms.{strict_orders-formed}
use Rattle.adp_model.proofs.laws.strict.preferred_tree_is_first_in_grammar_order.Goals as goal

pub returns-clause-strict : goal.returns-clause-strict
returns-clause-strict c =
    λ p least greatest ranks checked short strict. never_earlier p (Bellman-checked p least greatest ranks checked short) checked.well_formed (strict_orders-formed p.grammar checked.well_formed p.algebra checked.algebra_known strict)

pub returns-clause-orderly : goal.returns-clause-orderly
returns-clause-orderly c =
    λ p least greatest ranks checked short orderly. never_earlier p (Bellman-checked p least greatest ranks checked short) checked.well_formed orderly
