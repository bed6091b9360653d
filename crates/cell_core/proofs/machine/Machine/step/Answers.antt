use Rattle.std.proofs.Common.{◌≡◌, ◌+◌, ◌-◌, ◌^◌, ◌<◌, ℕ, List, if◌then◌else◌, min, refl, sym, subst, ap, ◌∙◌}
use Rattle.std.specs.Prelude.{IfSome}
use Rattle.adp_model.specs.Demand.{IsDemandedCount}
use Rattle.adp_model.specs.SplitArguments.{SplitArgument, AreRuleArguments}
use Rattle.memo_model.specs.StepsMade.{steps_made}
use Rattle.memo_model.specs.Machines.{IsUnderWay, IsMachine}
use Rattle.memo_model.specs.StepBound.{steps_left, remaining_bound}
use Rattle.cell_core.specs.Working.{frames_of, all_frames, work_left}
use Rattle.cell_core.specs.FrameChanges.{standing, ChangesFrames, GainsWins}
use Rattle.cell_core.specs.MachineViews.{MachineView, state_of, IsNotedIn, LoadsAsTold, looked_for, next_loads}
use Rattle.cell_core.proofs.Stepped.{sound_from, machine_from, machine_at_end}
use Rattle.cell_core.proofs.machine.Machine.step.Goals as goal

pub make_step-requires-clause-sound : goal.make_step-requires-clause-sound
make_step-requires-clause-sound g c =
    sound_from g.M.Memo.meaning c.self.inside.problem.now c.args.pass.now c.in-Some.notes c.self.inside.work
    (c.self.invariant.0 c.if-self.false).0
    (subst
    (λ notes.
    IsMachine g.M.Memo.meaning IsNotedIn (state_of c.self.inside.problem.now notes c.self.inside.work) c.args.pass.now)
    c.in-Some.is
    (subst (λ (view : MachineView _). IsMachine g.M.Memo.meaning IsNotedIn view.machine c.args.pass.now) (sym c.self.view_is)
    c.requires.machine))

pub make_step-requires-clause-memo : goal.make_step-requires-clause-memo
make_step-requires-clause-memo g c = c.requires.memo ∙ sym (ap (λ (view : MachineView _). view.machine.problem) c.self.view_is)

pub make_step-requires-clause-notes : goal.make_step-requires-clause-notes
make_step-requires-clause-notes g c =
    subst (λ notes. IfSome notes (λ notes. notes.problem ≡ c.self.inside.problem.now)) c.in-Some.is c.self.invariant.1

pub make_step-requires-clause-own : goal.make_step-requires-clause-own
make_step-requires-clause-own g c = c.requires.own

pub make_step-requires-clause-going : goal.make_step-requires-clause-going
make_step-requires-clause-going g c = c.if-self.false

pub make_step-requires-clause-under_way : goal.make_step-requires-clause-under_way
make_step-requires-clause-under_way g c =
    subst (λ (view : MachineView _). IsUnderWay view.machine.hand view.machine.ready view.machine.frames) (sym c.self.view_is)
    c.requires.machine.under_way

pub returns-then-not-self-clause-problem : goal.returns-then-not-self-clause-problem
returns-then-not-self-clause-problem g c = ap (λ (view : MachineView _). view.machine.problem) c.self.view_is

pub returns-then-not-self-clause-own : goal.returns-then-not-self-clause-own
returns-then-not-self-clause-own g c = c.make_step.ensures.own

pub returns-then-not-self-clause-share : goal.returns-then-not-self-clause-share
returns-then-not-self-clause-share g c = c.make_step.ensures.share

pub returns-then-not-self-clause-known : goal.returns-then-not-self-clause-known
returns-then-not-self-clause-known g c = c.make_step.ensures.known

pub returns-then-not-self-clause-machine : goal.returns-then-not-self-clause-machine
returns-then-not-self-clause-machine g c =
    machine_from g.M.Memo.meaning c.self.inside.problem.now c.make_step.new.pass c.make_step.new.notes c.make_step.new.work _
    c.make_step.ensures.sound c.make_step.ensures.under_way

pub returns-then-not-self-clause-steps : goal.returns-then-not-self-clause-steps
returns-then-not-self-clause-steps g c =
    subst
    (λ (view : MachineView _).
    steps_made c.make_step.new.steps
    ≡ (if view.machine.ended then steps_made c.args.steps.now else steps_made c.args.steps.now + 1)) c.self.view_is
    (subst
    (λ ended.
    steps_made c.make_step.new.steps ≡ (if ended then steps_made c.args.steps.now else steps_made c.args.steps.now + 1))
    (sym c.if-self.false) c.make_step.ensures.steps)

pub returns-then-not-self-clause-moves : goal.returns-then-not-self-clause-moves
returns-then-not-self-clause-moves g c =
    subst
    (λ (view : MachineView _).
    c.saturating_add-self-inside.result
    ≡ (if view.machine.ended then view.machine.moves else min (view.machine.moves + 1) (2 ^ 64 - 1))) c.self.view_is
    (subst
    (λ ended.
    c.saturating_add-self-inside.result
    ≡ (if ended then c.self.inside.work.moves else min (c.self.inside.work.moves + 1) (2 ^ 64 - 1))) (sym c.if-self.false)
    (c.saturating_add-self-inside.ensures ∙ ap (λ n. min (n + 1) (2 ^ 64 - 1)) c.make_step.ensures.moves))

pub returns-then-not-self-clause-wins : goal.returns-then-not-self-clause-wins
returns-then-not-self-clause-wins g c =
    subst
    (λ (view : MachineView _).
    GainsWins g.M.Memo.meaning c.args.pass.now c.make_step.new.pass view.machine.wins c.make_step.new.work.wins)
    c.self.view_is c.make_step.ensures.wins

pub returns-then-not-self-clause-frames : goal.returns-then-not-self-clause-frames
returns-then-not-self-clause-frames g c =
    subst
    (λ (view : MachineView _).
    ChangesFrames g.M.Memo.meaning view.machine.problem c.args.pass.now c.make_step.new.pass
    (standing view.machine.frames view.machine.opened view.orders)
    (standing (all_frames c.make_step.new.work) c.make_step.new.work.opened c.make_step.new.orders)) c.self.view_is
    c.make_step.ensures.frames

pub returns-then-not-self-clause-turn : goal.returns-then-not-self-clause-turn
returns-then-not-self-clause-turn g c = c.if-not-self.true

pub returns-then-not-self-clause-loads : goal.returns-then-not-self-clause-loads
returns-then-not-self-clause-loads g c = λ e.
    subst
    (λ (view : MachineView _).
    LoadsAsTold g.M.Memo.meaning c.make_step.new.pass (looked_for view.machine.problem view.machine.hand view.machine.ready)
    (next_loads g.M.Memo.meaning (g.M.Memo.fresh_loads c.args.memo.now) view.machine)) c.self.view_is
    c.make_step.ensures.loads

pub returns-then-not-self-clause-bound : goal.returns-then-not-self-clause-bound
returns-then-not-self-clause-bound g c = λ e.
    subst
    (λ (view : MachineView _). (m : ℕ) (arguments : List SplitArgument) → IsDemandedCount view.machine.problem m
    → AreRuleArguments view.machine.problem arguments
    → work_left g.M.Memo.meaning c.self.inside.problem.now m arguments c.make_step.new.work c.make_step.new.pass
    < remaining_bound g.M.Memo.meaning m arguments view.machine c.args.pass.now) c.self.view_is
    c.make_step.ensures.lower

pub returns-clause-problem : goal.returns-clause-problem
returns-clause-problem g c = ap (λ (view : MachineView _). view.machine.problem) c.self.view_is

pub returns-clause-own : goal.returns-clause-own
returns-clause-own g c = c.make_step.ensures.own

pub returns-clause-share : goal.returns-clause-share
returns-clause-share g c = c.make_step.ensures.share

pub returns-clause-known : goal.returns-clause-known
returns-clause-known g c = c.make_step.ensures.known

pub returns-clause-machine : goal.returns-clause-machine
returns-clause-machine g c =
    machine_at_end g.M.Memo.meaning c.self.inside.problem.now c.make_step.new.pass _ c.put_by.new.notes c.make_step.new.work
    c.saturating_add-self-inside.result c.put_by.new.below.items c.put_by.ensures.gone c.put_by.ensures.frames
    c.if-not-self.false c.make_step.ensures.sound c.make_step.ensures.under_way

pub returns-clause-steps : goal.returns-clause-steps
returns-clause-steps g c =
    subst
    (λ (view : MachineView _).
    steps_made c.make_step.new.steps
    ≡ (if view.machine.ended then steps_made c.args.steps.now else steps_made c.args.steps.now + 1)) c.self.view_is
    (subst
    (λ ended.
    steps_made c.make_step.new.steps ≡ (if ended then steps_made c.args.steps.now else steps_made c.args.steps.now + 1))
    (sym c.if-self.false) c.make_step.ensures.steps)

pub returns-clause-moves : goal.returns-clause-moves
returns-clause-moves g c =
    subst
    (λ (view : MachineView _).
    c.saturating_add-self-inside.result
    ≡ (if view.machine.ended then view.machine.moves else min (view.machine.moves + 1) (2 ^ 64 - 1))) c.self.view_is
    (subst
    (λ ended.
    c.saturating_add-self-inside.result
    ≡ (if ended then c.self.inside.work.moves else min (c.self.inside.work.moves + 1) (2 ^ 64 - 1))) (sym c.if-self.false)
    (c.saturating_add-self-inside.ensures ∙ ap (λ n. min (n + 1) (2 ^ 64 - 1)) c.make_step.ensures.moves))

pub returns-clause-wins : goal.returns-clause-wins
returns-clause-wins g c =
    subst
    (λ (view : MachineView _).
    GainsWins g.M.Memo.meaning c.args.pass.now c.make_step.new.pass view.machine.wins c.make_step.new.work.wins)
    c.self.view_is c.make_step.ensures.wins

pub returns-clause-frames : goal.returns-clause-frames
returns-clause-frames g c =
    subst
    (λ (view : MachineView _).
    ChangesFrames g.M.Memo.meaning view.machine.problem c.args.pass.now c.make_step.new.pass
    (standing view.machine.frames view.machine.opened view.orders)
    (standing (frames_of c.make_step.new.work.top c.put_by.new.below.items) c.make_step.new.work.opened
    c.make_step.new.orders)) c.self.view_is
    (subst
    (λ below.
    ChangesFrames g.M.Memo.meaning c.self.inside.problem.now c.args.pass.now c.make_step.new.pass
    (standing (all_frames c.self.inside.work) c.self.inside.work.opened c.self.inside.orders)
    (standing (frames_of c.make_step.new.work.top below) c.make_step.new.work.opened c.make_step.new.orders))
    (sym c.put_by.ensures.frames) c.make_step.ensures.frames)

pub returns-clause-turn : goal.returns-clause-turn
returns-clause-turn g c = (c.if-not-self.false, refl)

pub returns-clause-loads : goal.returns-clause-loads
returns-clause-loads g c = λ e.
    subst
    (λ (view : MachineView _).
    LoadsAsTold g.M.Memo.meaning c.make_step.new.pass (looked_for view.machine.problem view.machine.hand view.machine.ready)
    (next_loads g.M.Memo.meaning (g.M.Memo.fresh_loads c.args.memo.now) view.machine)) c.self.view_is
    c.make_step.ensures.loads

pub returns-clause-bound : goal.returns-clause-bound
returns-clause-bound g c = λ e.
    subst
    (λ (view : MachineView _). (m : ℕ) (arguments : List SplitArgument) → IsDemandedCount view.machine.problem m
    → AreRuleArguments view.machine.problem arguments
    → steps_left g.M.Memo.meaning c.self.inside.problem.now m arguments c.make_step.new.work.ended
    c.make_step.new.work.hand (frames_of c.make_step.new.work.top c.put_by.new.below.items) c.make_step.new.pass
    < remaining_bound g.M.Memo.meaning m arguments view.machine c.args.pass.now) c.self.view_is
    (subst
    (λ below. (m : ℕ) (arguments : List SplitArgument) → IsDemandedCount c.self.inside.problem.now m
    → AreRuleArguments c.self.inside.problem.now arguments
    → steps_left g.M.Memo.meaning c.self.inside.problem.now m arguments c.make_step.new.work.ended
    c.make_step.new.work.hand (frames_of c.make_step.new.work.top below) c.make_step.new.pass
    < work_left g.M.Memo.meaning c.self.inside.problem.now m arguments c.self.inside.work c.args.pass.now)
    (sym c.put_by.ensures.frames) c.make_step.ensures.lower)
