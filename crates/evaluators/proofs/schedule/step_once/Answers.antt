use Rattle.std.proofs.Common.{◌≡◌, ◌+◌, ◌-◌, ◌^◌, min, sym, ap, subst, ◌∙◌}
use Rattle.memo_words.specs.Passes.{IsPassOf}
use Rattle.memo_table.specs.declared.probe.Probe.{Probe}
use Rattle.memo_table.specs.Meanings.{table_meaning, StepsOn}
use Rattle.cell_core.specs.MachineViews.{MachineView}
use Rattle.evaluators.specs.Runs.{moves_of}
use Rattle.evaluators.specs.Working.{IsReady}
use Rattle.evaluators.proofs.GoingOn.{after_step, still_ready}
use Rattle.evaluators.proofs.Watching.{told_nothing, told_once, moved}
use Rattle.evaluators.proofs.schedule.step_once.Goals as goal

pub returns-clause-ready : goal.returns-clause-ready
returns-clause-ready g c =
    let now = c.step-turn.ensures in
    let law = c.draws_advance_the_generator.ensures in
    let it = c.args.worker.now in
    let words = c.args.table.now in
    let set = c.set_skips.new.self in
    let going = ap (λ (machine : MachineView Probe). machine.machine.ended) c.set_skips.ensures
    ∙ sym c.ended.ensures ∙ c.if-ended.false in
    still_ready words (record { machine = set; pass = it.pass; number = it.number; seed = it.seed })
    c.step-turn.new.self c.step-turn.new.pass
    (after_step table_meaning (IsPassOf words) StepsOn law.turns law.sum set c.step-turn.new.self it.pass c.step-turn.new.pass
    now.own now.share now.problem now.machine now.wins now.frames (now.on going)
    (moved set.machine.ended (moves_of set) (moves_of c.step-turn.new.self) now.moves going))
    (subst (λ (machine : MachineView Probe).
    IsReady words (record { machine = machine; pass = it.pass; number = it.number; seed = it.seed }))
    (sym c.set_skips.ensures) c.requires.ready)
    (now.bound going)

pub returns-then-ended-clause-told : goal.returns-then-ended-clause-told
returns-then-ended-clause-told g c =
    told_nothing c.args.number (moves_of c.args.worker.now.machine) (g.W.Watcher.told c.args.watcher.now)

pub returns-clause-told : goal.returns-clause-told
returns-clause-told g c =
    let was = c.args.worker.now.machine in
    let set = c.set_skips.new.self in
    let now = c.step-turn.new.self in
    told_once c.args.number (moves_of was) (moves_of now) (g.W.Watcher.told c.args.watcher.now)
    (g.W.Watcher.told c.stepped.new.self) c.stepped.ensures
    (subst (λ (machine : MachineView Probe). moves_of now ≡ min (moves_of machine + 1) (2 ^ 64 - 1)) c.set_skips.ensures
    (moved set.machine.ended (moves_of set) (moves_of now) c.step-turn.ensures.moves
    (ap (λ (machine : MachineView Probe). machine.machine.ended) c.set_skips.ensures ∙ sym c.ended.ensures
    ∙ c.if-ended.false)))
