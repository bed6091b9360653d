use Rattle.std.proofs.Common.{refl, sym, ap, ◌∙◌, arith}
use Rattle.adp_model.specs.PosedProblem.{axiom_cell}
use Rattle.first_trees.proofs.Reported.{report_of, preferred_reported}
use Rattle.first_trees.proofs.laws.words_have_one_list_report.Goals as goal

pub returns-clause-there : goal.returns-clause-there
returns-clause-there c number p can k =
    let found = c.cells_have_first_trees.ensures p can.least can.greatest can.ranks can.checked (axiom_cell p) k in
    (report_of number p found.0, (found.0, found.1, refl))

pub returns-clause-one : goal.returns-clause-one
returns-clause-one c number p k a b told told' =
    told.2
    ∙ ap (report_of number p) (c.first_trees_are_unique.ensures.one p (axiom_cell p) k told.0 told'.0 told.1 told'.1)
    ∙ sym told'.2

pub returns-clause-preferred : goal.returns-clause-preferred
returns-clause-preferred c number p formed report =
    let law = c.first_tree_is_the_preferred_tree.ensures in
    preferred_reported p (law.first p (axiom_cell p) 1)
    (λ tree preferred. (law.alone p (axiom_cell p) tree formed).0 preferred)
    (law.none p (axiom_cell p) 1 (omega arith)) number report
