use Rattle.std.proofs.Common.{◌∙◌, ◌++◌, ◌∷◌, [], refl, ap, map}
use Rattle.adp_model.specs.PosedProblem.{PosedProblem}
use Rattle.evaluators.specs.Runs.{moves_of, ended_of}
use Rattle.evaluators.proofs.Listed.{map_one_more, take_whole}
use Rattle.evaluators.proofs.finished.Finished.told.Goals as goal

pub loop-machine-preserved : goal.loop-machine-preserved
loop-machine-preserved c =
    let inv = c.loop-machine.invariant in
    let items = c.deref-machine-items.result.now in
    let index = c.loop-machine.machine-index in
    let machine = c.machine-item.result in
    record {
      moves = c.in_ok-push.ensures.items ∙ (λ i. inv.moves i ++ c.moves.ensures i ∷ [])
          ∙ map_one_more moves_of items index machine c.loop-machine-test.true c.machine-item.is;
      ended = c.in_ok-push-2.ensures.items ∙ (λ i. inv.ended i ++ c.ended.ensures i ∷ [])
          ∙ map_one_more ended_of items index machine c.loop-machine-test.true c.machine-item.is;
    }

pub returns : goal.returns
returns c =
    let inv = c.loop-machine.invariant in
    let whole = take_whole c.deref-machine-items.result.now c.loop-machine.machine-index c.loop-machine-test.false
    ∙ c.deref-machine-items.ensures.value in
    record {
      word = c.in_ok-word_of.ensures;
      algebra = ap (λ (p : PosedProblem). p.algebra) c.problem.view_is;
      seed_is = refl;
      answer = refl;
      cells = c.demanded_cells.ensures c.args.problem.now c.args.seed c.requires;
      wins = c.new.ensures ∙ c.in_ok-from_slice.ensures.items ∙ c.deref.ensures.value;
      moves = c.new-2.ensures ∙ inv.moves ∙ ap (map moves_of) whole;
      ended = c.new-3.ensures ∙ inv.ended ∙ ap (map ended_of) whole;
    }
