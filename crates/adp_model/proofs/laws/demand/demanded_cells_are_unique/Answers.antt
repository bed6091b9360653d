use Rattle.adp_model.specs.Demand.{IsDemanded}
use Rattle.adp_model.proofs.CellLists.{AreAll_unique, count_unique}
use Rattle.adp_model.proofs.laws.demand.demanded_cells_are_unique.Goals as goal

pub returns-clause-cells : goal.returns-clause-cells
returns-clause-cells c = λ p. AreAll_unique (IsDemanded p)

pub returns-clause-count : goal.returns-clause-count
returns-clause-count c = λ p. count_unique (IsDemanded p) (IsDemanded p) (λ cell. (λ h. h, λ h. h))
