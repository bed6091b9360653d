-- How a machine goes on from step to step.
use Rattle.std.specs.Prelude.{◌≡◌, ℕ, zero, suc, ◌+◌, ◌-◌, ◌*◌, ◌^◌, ◌≤◌, min, List, length}
use Rattle.rand_pcg.specs.Lcg.{Lcg}
use Rattle.random_orders.specs.Draws.{after_draws}
use Rattle.adp_model.specs.Demand.{IsDemandedCount}
use Rattle.adp_model.specs.SplitArguments.{SplitArgument, AreRuleArguments}
use Rattle.adp_model.specs.ProblemFields.{IsAdmissible}
use Rattle.memo_model.specs.Memos.{Meaning}
use Rattle.memo_model.specs.Machines.{MachineState, IsMachine}
use Rattle.memo_model.specs.StepBound.{step_bound, remaining_bound}
use Rattle.cell_core.specs.MachineViews.{MachineView, IsNotedIn}

-- the machine has at most the steps of a fresh one left
abbrev pub HasStepsOfFresh : {Notes Pass Probe : Type 0} → Meaning Pass Probe → MachineState Notes Probe → Pass → Type 0
HasStepsOfFresh memo machine pass =
    (m : ℕ) (arguments : List SplitArgument) → IsDemandedCount machine.problem m
    → AreRuleArguments machine.problem arguments
    → remaining_bound memo m arguments machine pass ≤ step_bound m (length arguments)

-- the machine drew its orders in step with the frames that it opened: four draws for each
abbrev pub KeepsPace : {Probe : Type 0} → MachineView Probe → MachineView Probe → Type 0
KeepsPace before after =
    (first : Lcg) → before.orders ≡ after_draws (4 * before.machine.opened) first
    → after.orders ≡ after_draws (4 * after.machine.opened) first

-- the second pass is the first after so many steps
abbrev pub AreStepsApart : {Pass : Type 0} → (Pass → Pass → Type 0) → ℕ → Pass → Pass → Type 0
AreStepsApart goes_on zero first last = last ≡ first
AreStepsApart {Pass} goes_on (suc n) first last =
    (between : Pass) × AreStepsApart goes_on n first between × goes_on between last

module _ {Pass Probe : Type 0} (memo : Meaning Pass Probe) (IsOwn : Pass → Type 0) where
  -- the pass is the memo's, and the machine, which is of an admissible problem, is sound for it and has at most the
  -- steps of a fresh one left
  pub record CanGoOn (machine : MachineView Probe) (pass : Pass) : Type 0 where
    pub admissible : IsAdmissible machine.machine.problem
    pub own : IsOwn pass
    pub sound : IsMachine memo IsNotedIn machine.machine pass
    pub bound : HasStepsOfFresh memo machine.machine pass

  -- the second machine and pass are the first ones after some steps, which the machine counted
  pub record HasGoneOn (goes_on : Pass → Pass → Type 0) (before after : MachineView Probe)
      (pass pass' : Pass) : Type 0 where
    pub own : IsOwn pass'
    pub share : memo.share pass' ≡ memo.share pass
    pub problem : after.machine.problem ≡ before.machine.problem
    pub sound : IsMachine memo IsNotedIn after.machine pass'
    pub pace : KeepsPace before after
    pub wins : memo.wins pass ≡ before.machine.wins → memo.wins pass' ≡ after.machine.wins
    pub steps : ℕ
    pub apart : AreStepsApart goes_on steps pass pass'
    pub moves : (made : ℕ) → before.machine.moves ≡ min made (2 ^ 64 - 1)
        → after.machine.moves ≡ min (made + steps) (2 ^ 64 - 1)
