use Rattle.std.proofs.Common.{◌≡◌, ◌↔◌, List, sum, sym, ap, ◌∙◌, subst}
use Rattle.adp_model.specs.PosedProblem.{PosedProblem}
use Rattle.adp_model.specs.Demand.{IsDemanded, IsDemandedCount}
use Rattle.memo_words.specs.Kept.{IsPublished}
use Rattle.history_table.specs.declared.history.Mark.{Mark}
use Rattle.history_table.specs.History.{IsHistoryOf}
use Rattle.memo_words.specs.Layout.{Plan, slots_of}
use Rattle.memo_words.specs.Passes.{problem_of}
use Rattle.evaluators.specs.Runs.{AreMachinesFrom}
use Rattle.evaluators.specs.Steps.{AreStepsOfEach}
use Rattle.evaluators.proofs.crew.finish.Goals as goal

pub returns-clause-finished : goal.returns-clause-finished
returns-clause-finished c =
    let joined = c.requires.joined in
    let p = c.args.problem.now in
    let counted = c.demanded_cells_are_listed.ensures.count p c.admissible.ensures in
    let there : IsDemandedCount (problem_of c.args.table) counted.0 =
    subst (λ (q : PosedProblem). IsDemandedCount q counted.0) (sym c.requires.same) counted.1 in
    let won : counted.0 ≡ sum c.args.left.wins.items =
    sym (c.close-closed.ensures.wins counted.0 there) ∙ joined.wins in
    record {
      closed = ap (λ (plan : Plan). plan.problem) c.close-closed.ensures.plan ∙ c.requires.same;
      exactly = λ cell.
          subst (λ (q : PosedProblem). IsPublished c.close-closed.result.plan c.close-closed.result.words cell ↔ IsDemanded q cell)
          c.requires.same (c.close-closed.ensures.published cell);
      answer = c.axiom_answer-answer.ensures;
      machines = subst (λ (q : PosedProblem). AreMachinesFrom q c.args.seed 0 c.args.left.machines.items)
          c.requires.same joined.machines;
      first = joined.first;
      wins_are = joined.wins_are;
      wins_sum = subst (IsDemandedCount p) won counted.1;
      history = record {
        lists = joined.lists;
        steps = subst (λ (plan : Plan). AreStepsOfEach (slots_of plan) c.args.left.machines.items joined.lists)
            (sym c.close-closed.ensures.plan) joined.steps;
        whole = subst (λ (marks : List Mark). IsHistoryOf marks c.close-closed.result.words) joined.marks
            c.close-closed.ensures.history;
      };
    }
