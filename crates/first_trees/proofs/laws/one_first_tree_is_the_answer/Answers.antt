use Rattle.adp_model.specs.PosedProblem.{axiom_cell}
use Rattle.first_trees.proofs.Reported.{answer_told}
use Rattle.first_trees.proofs.laws.one_first_tree_is_the_answer.Goals as goal

pub returns : goal.returns
returns c number p formed report listed told first =
    answer_told p (λ t u best better. c.preferred_tree_is_unique.ensures p (axiom_cell p) t u formed best better) number report listed
    told ((c.words_have_one_list_report.ensures.preferred number p formed listed).0 first)
