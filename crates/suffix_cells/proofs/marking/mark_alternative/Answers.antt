use Rattle.std.proofs.Common.{◌≤◌, List, length, sym, ap, subst, arith, length-append}
use Rattle.adp_model.specs.declared.grammar.Arg.{Arg}
use Rattle.adp_model.specs.Parts.{arguments_of}
use Rattle.split_lines.specs.Laid.{Demands, DemandsBy}
use Rattle.split_lines.specs.Ways.{IsOpening}
use Rattle.cell_demands.specs.Rows.{AreMarkedInRows}
use Rattle.cell_demands.proofs.Fronts.{demanded_behind}
use Rattle.cell_demands.proofs.RowMarks.{rows_like, rows_none}
use Rattle.cell_demands.proofs.Splitting.{split_of_demands}
use Rattle.suffix_cells.specs.Straight.{IsStraight}
use Rattle.suffix_cells.proofs.RowSteps.{behind_front, straight_behind}
use Rattle.suffix_cells.proofs.marking.mark_alternative.Goals as goal
use Rattle.suffix_cells.proofs.marking.mark_alternative.Goals.{In-Some}

opened : (c : In-Some) → IsOpening c.args.lines.now c.args.alternative.now c.args.cell c.in-Some.end
opened c = c.in-Some.ensures

pub mark_rest-requires-clause-straight : goal.mark_rest-requires-clause-straight
mark_rest-requires-clause-straight c =
    let kept = c.args.alternative.now in
    straight_behind kept.front.now kept.others.now c.requires.alternative.in_front.fixed
    (subst IsStraight c.requires.alternative.arguments (c.requires.straight c.args.cell.rule c.args.alt c.requires.in_range))

pub mark_rest-requires-clause-counted : goal.mark_rest-requires-clause-counted
mark_rest-requires-clause-counted c = λ child demands.
    let at = (goal.at.mark_rest-requires-clause-counted c).In-Some in
    let p = c.args.lines.now in
    let kept = c.args.alternative.now in
    let cell = c.args.cell in
    let D : List Arg → Type 0 = λ arguments. Demands p arguments cell.from cell.to child in
    c.requires.counted child (
      (opened at).allowed c.args.alt c.requires.alternative,
      subst D (sym c.requires.alternative.arguments)
          (demanded_behind p kept.front.now kept.others.now cell.from cell.to c.requires.alternative.in_front.fixed
          c.in-Some.end (opened at).covers (opened at).only child demands),
    )

pub returns-in-Some-clause-marked : goal.returns-in-Some-clause-marked
returns-in-Some-clause-marked c =
    let at = (goal.at.returns-in-Some-clause-marked c).In-Some in
    let p = c.args.lines.now in
    let kept = c.args.alternative.now in
    let cell = c.args.cell in
    let old = c.args.visits.now.marks in
    let new = c.mark_rest.new.visits.marks in
    let M : List Arg → Type 0 = λ arguments. AreMarkedInRows old new (Demands p arguments cell.from cell.to) in
    let allowed = (opened at).allowed c.args.alt c.requires.alternative in
    rows_like old new (Demands p (arguments_of p.grammar cell.rule c.args.alt) cell.from cell.to) (DemandsBy p cell c.args.alt)
    (λ child demands. (allowed, demands)) (λ child demands. demands.1)
    (subst M (sym c.requires.alternative.arguments)
    (behind_front p kept.front.now kept.others.now cell.from cell.to c.requires.alternative.in_front.fixed c.in-Some.end (opened at).covers
    (opened at).only old new c.mark_rest.ensures.marked))

pub returns-in_default-clause-marked : goal.returns-in_default-clause-marked
returns-in_default-clause-marked c =
    let p = c.args.lines.now in
    let kept = c.args.alternative.now in
    let cell = c.args.cell in
    let is = c.requires.alternative in
    let few : length (arguments_of p.grammar cell.rule c.args.alt)
    ≤ 4 = omega (arith, is.few, ap length is.arguments, length-append kept.front.now kept.others.now) in
    rows_none c.args.visits.now.marks (DemandsBy p cell c.args.alt)
    (λ child demands. let split = split_of_demands p cell c.args.alt child c.requires.in_range few demands in
    c.in_default.ensures c.args.alt split.0 is split.1)
