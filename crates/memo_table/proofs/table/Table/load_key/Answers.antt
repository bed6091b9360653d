use Rattle.std.proofs.Common.{◌+◌, inl, sym, subst, ◌∙◌, arith}
use Rattle.memo_model.specs.declared.probe.Look.TheVariants.{Going}
use Rattle.memo_table.specs.declared.probe.Next.{Next}
use Rattle.memo_table.specs.Stepped.{IsLooked}
use Rattle.memo_table.proofs.Looks.{moved}
use Rattle.memo_table.proofs.KeyLooks.{loaded_here, few_here, next_turn, free_position, own_position, other_position}
use Rattle.memo_table.proofs.table.Table.load_key.Goals as goal

pub overflow_add-probe : goal.overflow_add-probe
overflow_add-probe g c =
    let e = c.key_load_step-found.ensures in
    let r = c.requires in
    let step = loaded_here c.self.inside.words c.args.self.now c.self.view_is c.args.pass.now
    c.key_load_step-found.new.pass _ _ r.own e.own e.view e.stays (_, _, e.marked) in
    let fits = next_turn c.self.inside.words c.args.self.now c.self.view_is c.args.pass.now
    c.key_load_step-found.new.pass c.args.probe.now r.own r.follows c.planned.ensures.planned
    c.planned.ensures.admissible e.keys c.other_cells_are_fewer.ensures.limit step.on (inl r.key) in
    omega arith

pub returns-then-found-eq0-clause-looked : goal.returns-then-found-eq0-clause-looked
returns-then-found-eq0-clause-looked g c =
    let e = c.key_load_step-found.ensures in
    let r = c.requires in
    let step = loaded_here c.self.inside.words c.args.self.now c.self.view_is c.args.pass.now
    c.key_load_step-found.new.pass _ _ r.own e.own e.view e.stays (_, _, e.marked) in
    let few = few_here c.self.inside.words c.args.self.now c.self.view_is c.args.pass.now
    c.key_load_step-found.new.pass c.args.probe.now r.own r.follows c.planned.ensures.planned
    e.keys c.other_cells_are_fewer.ensures.demanded in
    free_position c.args.self.now c.args.pass.now c.key_load_step-found.new.pass c.args.probe.now _ _ r.own
    r.follows c.position-position.ensures.position step few r.key

pub returns-then-found-cell_code-clause-looked : goal.returns-then-found-cell_code-clause-looked
returns-then-found-cell_code-clause-looked g c =
    let e = c.key_load_step-found.ensures in
    let r = c.requires in
    let step = loaded_here c.self.inside.words c.args.self.now c.self.view_is c.args.pass.now
    c.key_load_step-found.new.pass _ _ r.own e.own e.view e.stays (_, _, e.marked) in
    let few = few_here c.self.inside.words c.args.self.now c.self.view_is c.args.pass.now
    c.key_load_step-found.new.pass c.args.probe.now r.own r.follows c.planned.ensures.planned
    e.keys c.other_cells_are_fewer.ensures.demanded in
    own_position c.args.self.now c.args.pass.now c.key_load_step-found.new.pass c.args.probe.now _ _ r.own r.follows
    c.position-position.ensures.position step few (inl r.key)
    (c.if-found-cell_code.true ∙ c.cell_code.ensures)

pub returns-else-found-cell_code-clause-looked : goal.returns-else-found-cell_code-clause-looked
returns-else-found-cell_code-clause-looked g c =
    let e = c.key_load_step-found.ensures in
    let r = c.requires in
    let step = loaded_here c.self.inside.words c.args.self.now c.self.view_is c.args.pass.now
    c.key_load_step-found.new.pass _ _ r.own e.own e.view e.stays (_, _, e.marked) in
    let few = few_here c.self.inside.words c.args.self.now c.self.view_is c.args.pass.now
    c.key_load_step-found.new.pass c.args.probe.now r.own r.follows c.planned.ensures.planned
    e.keys c.other_cells_are_fewer.ensures.demanded in
    subst
    (λ (next : Next). IsLooked c.args.self.now c.args.pass.now c.key_load_step-found.new.pass c.args.probe.now
    (moved c.args.probe.now (c.args.probe.now.turn + 1) next) Going)
    (sym r.key)
    (other_position c.args.self.now c.args.pass.now c.key_load_step-found.new.pass c.args.probe.now _ _ r.own
    r.follows c.position-position.ensures.position step few (inl r.key)
    c.if-found-eq0.false (λ same. c.if-found-cell_code.false (same ∙ sym c.cell_code.ensures)))
