-- An admitted word has a report.
use Rattle.std.proofs.Common.{ℕ, List, ◌++◌, codes, refl, arith}
use Rattle.std.specs.Fmt.{decimal}
use Rattle.adp_model.specs.PosedProblem.{PosedProblem, axiom_cell}
use Rattle.adp_model.specs.ProblemFields.{IsAdmissible}
use Rattle.adp_model.specs.Report.{line, answer_lines, IsReport}
use Rattle.adp_model.proofs.Checked.{Bellman-admissible}
use Rattle.adp_model.proofs.DemandDecided.{number_exists}

pub report_exists : (number : ℕ) (p : PosedProblem) → IsAdmissible p → (report : List ℕ) × IsReport number p report
report_exists number p admissible =
    let answered = (Bellman-admissible p admissible).answered (axiom_cell p) (record { in_order = omega arith; in_word = omega arith }) in
    let text = answer_lines p answered.0 answered.1 in
    let bound = admissible.limits.cells in
    let counted = number_exists p admissible.least admissible.greatest admissible.ranks admissible.checked admissible.limits.letters bound.1.0 bound.1.1 in
    (line (codes "word " ++ decimal number) ++ text ++ line (codes "cells " ++ decimal counted.0), (text, counted.0, (answered.0, answered.1, refl), counted.1, refl))
