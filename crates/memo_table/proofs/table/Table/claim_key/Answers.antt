use Rattle.std.proofs.Common.{◌≡◌, true, false, inr, sym, ◌∙◌, arith, eq-eqb, eqb-true}
use Rattle.memo_table.proofs.Seeing.{if_equal, if_other}
use Rattle.memo_table.proofs.KeyLooks.{exchanged_here, few_here, next_turn, own_position, other_position}
use Rattle.memo_table.proofs.table.Table.claim_key.Goals as goal
use Rattle.memo_table.proofs.table.Table.claim_key.Goals.{then-found-eq0, else-found-eq0}

pub overflow_add-probe : goal.overflow_add-probe
overflow_add-probe g c =
    let e = c.key_exchange_step-found.ensures in
    let r = c.requires in
    let step = exchanged_here c.self.inside.words c.args.self.now c.self.view_is c.args.pass.now
    c.key_exchange_step-found.new.pass _ _ _ r.own e.own e.view e.stays (_, _, e.marked) in
    let fits = next_turn c.self.inside.words c.args.self.now c.self.view_is c.args.pass.now
    c.key_exchange_step-found.new.pass c.args.probe.now r.own r.follows c.planned.ensures.planned
    c.planned.ensures.admissible e.keys c.other_cells_are_fewer.ensures.limit step.on (inr r.claim) in
    omega arith

pub returns-then-found-cell_code-clause-looked : goal.returns-then-found-cell_code-clause-looked
returns-then-found-cell_code-clause-looked g c =
    let e = c.key_exchange_step-found.ensures in
    let r = c.requires in
    let step = exchanged_here c.self.inside.words c.args.self.now c.self.view_is c.args.pass.now
    c.key_exchange_step-found.new.pass _ _ _ r.own e.own e.view e.stays (_, _, e.marked) in
    let few = few_here c.self.inside.words c.args.self.now c.self.view_is c.args.pass.now
    c.key_exchange_step-found.new.pass c.args.probe.now r.own r.follows c.planned.ensures.planned
    e.keys c.other_cells_are_fewer.ensures.demanded in
    own_position c.args.self.now c.args.pass.now c.key_exchange_step-found.new.pass c.args.probe.now _ _ r.own
    r.follows c.position-position.ensures.position step few (inr r.claim)
    (elim c.if-found-eq0.branch [
      | then-found-eq0 w ↦ if_equal _ 0 _ _ w.if-found-eq0.true
      | else-found-eq0 w ↦
          if_other _ 0 _ _ w.if-found-eq0.false ∙ eqb-true _ _ (sym w.value-is ∙ c.if-found-cell_code.true)
          ∙ w.cell_code.ensures
    ])

pub returns-else-found-cell_code-clause-looked : goal.returns-else-found-cell_code-clause-looked
returns-else-found-cell_code-clause-looked g c =
    let e = c.key_exchange_step-found.ensures in
    let r = c.requires in
    let step = exchanged_here c.self.inside.words c.args.self.now c.self.view_is c.args.pass.now
    c.key_exchange_step-found.new.pass _ _ _ r.own e.own e.view e.stays (_, _, e.marked) in
    let few = few_here c.self.inside.words c.args.self.now c.self.view_is c.args.pass.now
    c.key_exchange_step-found.new.pass c.args.probe.now r.own r.follows c.planned.ensures.planned
    e.keys c.other_cells_are_fewer.ensures.demanded in
    other_position c.args.self.now c.args.pass.now c.key_exchange_step-found.new.pass c.args.probe.now _ _ r.own
    r.follows c.position-position.ensures.position step few (inr r.claim)
    (elim c.if-found-eq0.branch [
      | then-found-eq0 w ↦
          let both : true ≡ false = sym (eq-eqb _ 0 w.if-found-eq0.true) ∙ sym w.value-is ∙ c.if-found-cell_code.false
          in cc
      | else-found-eq0 w ↦ λ none. w.if-found-eq0.false (sym (if_other _ 0 _ _ w.if-found-eq0.false) ∙ none)
    ])
    (elim c.if-found-eq0.branch [
      | then-found-eq0 w ↦
          let both : true ≡ false = sym (eq-eqb _ 0 w.if-found-eq0.true) ∙ sym w.value-is ∙ c.if-found-cell_code.false
          in cc
      | else-found-eq0 w ↦ λ same.
          let equal = sym (if_other _ 0 _ _ w.if-found-eq0.false) ∙ same ∙ sym w.cell_code.ensures in
          let both : true ≡ false = sym (eq-eqb _ _ equal) ∙ sym w.value-is ∙ c.if-found-cell_code.false in cc
    ])
