use Rattle.std.proofs.Common.{length, sym, subst, ◌∙◌, arith}
use Rattle.adp_model.specs.PosedProblem.{PosedProblem}
use Rattle.adp_model.specs.Demand.{IsDemandedCount}
use Rattle.adp_model.specs.SplitArguments.{AreRuleArguments}
use Rattle.evaluators.proofs.Pacing.{few_steps}
use Rattle.evaluators.proofs.GoingOn.{at_first, after_step, gone_further}
use Rattle.evaluators.proofs.Watching.{told_nothing, told_once, told_further, moved}
use Rattle.evaluators.proofs.driving.drive_counted.Goals as goal

pub steps-init : goal.steps-init
steps-init g c = record {
  on = at_first g.M.Memo.meaning (g.M.Memo.is_of c.args.memo.now) g.M.Memo.goes_on c.args.machine.now c.args.pass.now c.requires.ready;
  left = λ m arguments count all. let b = c.requires.ready.bound m arguments count all in omega (arith, b);
  told = told_nothing c.args.number c.args.machine.now.machine.moves (g.W.Watcher.told c.args.watcher.now);
}

pub steps-preserved : goal.steps-preserved
steps-preserved g c =
    let inv = c.steps.invariant in
    let now = c.step-turn.ensures in
    let law = c.draws_advance_the_generator.ensures in
    record {
      on = gone_further g.M.Memo.meaning (g.M.Memo.is_of c.args.memo.now) g.M.Memo.goes_on c.args.machine.now c.steps.machine
          c.step-turn.new.self c.args.pass.now c.steps.pass c.step-turn.new.pass inv.on
          (after_step g.M.Memo.meaning (g.M.Memo.is_of c.args.memo.now) g.M.Memo.goes_on law.turns law.sum c.steps.machine
          c.step-turn.new.self c.steps.pass c.step-turn.new.pass now.own now.share now.problem now.machine now.wins
          now.frames (now.on (sym c.ended.ensures ∙ c.if-ended.false))
          (moved c.steps.machine.machine.ended c.steps.machine.machine.moves c.step-turn.new.self.machine.moves
          now.moves (sym c.ended.ensures ∙ c.if-ended.false)));
      left = λ m arguments count all.
          let here = sym inv.on.problem in
          let falls = now.bound (sym c.ended.ensures ∙ c.if-ended.false) m arguments
          (subst (λ (p : PosedProblem). IsDemandedCount p m) here count)
          (subst (λ (p : PosedProblem). AreRuleArguments p arguments) here all) in
          let before = inv.left m arguments count all in
          omega (arith, falls, before);
      told = told_further c.args.number c.args.machine.now.machine.moves c.steps.machine.machine.moves
          c.step-turn.new.self.machine.moves (g.W.Watcher.told c.args.watcher.now) (g.W.Watcher.told c.steps.watcher)
          (g.W.Watcher.told c.stepped.new.self) inv.told
          (told_once c.args.number c.steps.machine.machine.moves c.step-turn.new.self.machine.moves
          (g.W.Watcher.told c.steps.watcher) (g.W.Watcher.told c.stepped.new.self) c.stepped.ensures
          (moved c.steps.machine.machine.ended c.steps.machine.machine.moves c.step-turn.new.self.machine.moves
          now.moves (sym c.ended.ensures ∙ c.if-ended.false)));
    }

pub unreachable-requires : goal.unreachable-requires
unreachable-requires g c =
    let inv = c.steps.invariant in
    let p = c.args.machine.now.machine.problem in
    let admissible = c.requires.ready.admissible in
    let count = c.demanded_cells_are_listed.ensures.count p admissible in
    let listed = c.rule_arguments_are_listed.ensures p admissible in
    let few = c.rule_arguments_are_few.ensures p admissible listed.0 listed.1 in
    let left = inv.left count.0 listed.0 count.1 listed.1 in
    let bound = few_steps count.0 (length listed.0) count.2 few in
    omega (arith, left, bound, c.steps-test.false)
