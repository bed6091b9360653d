use Rattle.first_trees.proofs.Listed.{first_preferred, preferred_alone, none_listed}
use Rattle.first_trees.proofs.laws.first_tree_is_the_preferred_tree.Goals as goal
use Rattle.std.proofs.Common.{[]}

pub returns-clause-first : goal.returns-clause-first
returns-clause-first c p =
    let order = c.preference_is_a_strict_total_order.ensures in
    first_preferred p (order.irreflexive p) (order.transitive p)

pub returns-clause-alone : goal.returns-clause-alone
returns-clause-alone c p cell tree formed =
    let order = c.preference_is_a_strict_total_order.ensures in (
      preferred_alone p (order.irreflexive p) (order.transitive p) cell tree
          (λ t u. order.total p cell t u formed),
      first_preferred p (order.irreflexive p) (order.transitive p) cell 1 tree [],
    )

pub returns-clause-none : goal.returns-clause-none
returns-clause-none c = none_listed
