use Rattle.std.proofs.Common.{◌≡◌, ◌<◌, ℕ, ◌+◌, ◌≤◌, List, [], ◌∷◌, length, get_or, subst, arith}
use Rattle.adp_model.specs.declared.cell.Cell.{Cell}
use Rattle.adp_model.specs.PosedProblem.{PosedProblem}
use Rattle.adp_model.specs.ProblemFields.{IsAdmissible}
use Rattle.adp_model.specs.Parts.{alternatives_of, arguments_of}
use Rattle.cell_tables.specs.Marks.{AreMarkedFrom}
use Rattle.split_lines.specs.Beginnings.{IsCandidate}
use Rattle.split_lines.specs.Laid.{DemandsBy}
use Rattle.cell_demands.proofs.Splitting.{child_of_demands}
use Rattle.cell_demands.proofs.LineDemands.{DemandsByFirst, one_more_alternative, all_alternatives, closed_demands, passed_over}
use Rattle.cell_demands.proofs.MarkSteps.{none_marked}
use Rattle.cell_demands.proofs.marking.mark_children_noting.Goals as goal
use Rattle.cell_demands.proofs.marking.mark_children_noting.Goals.{After-candidates-candidates}

admissible : (c : After-candidates-candidates) → IsAdmissible c.args.lines.now
admissible c = let A : PosedProblem → Type 0 = IsAdmissible in subst A c.problem.ensures c.admissible.ensures

few : (c : After-candidates-candidates) (alternative : ℕ) → length (arguments_of c.args.lines.now.grammar c.args.cell.rule alternative) ≤ 4
few c = c.arguments_are_few_and_known.ensures.few c.args.lines.now.grammar (admissible c).checked.well_formed c.args.cell.rule

by_item : {X Y : Type 0} (xs : List X) (k : ℕ) → k < length xs → (X → Y) → Y
by_item [] k l told = absurd (omega arith)
by_item (x ∷ xs) k l told = told x

-- the alternatives that are passed over demand nothing
none_between : (c : After-candidates-candidates) (first next : ℕ) → next ≤ length c.candidates-candidates.result.alternatives.now
    → ((other : ℕ) → first ≤ other → other < next → IsCandidate c.candidates-candidates.result other → ⊥)
    → (alternative : ℕ) → first ≤ alternative → alternative < next → (child : Cell) → DemandsBy c.args.lines.now c.args.cell alternative child → ⊥
none_between c first next within none alternative from before child demands =
    let told = c.candidates-candidates.ensures in
    let alternatives = c.candidates-candidates.result.alternatives.now in
    let there : alternative < length alternatives = omega arith in
    by_item alternatives alternative there (λ d.
    closed_demands c.args.lines.now c.args.cell (get_or alternatives alternative d) alternative (omega (arith, told.each)) (few c alternative)
    (told.are alternative d there) (told.others alternative d there (none alternative from before)) child demands)

pub overflow_cast-number : goal.overflow_cast-number
overflow_cast-number c =
    let at = (goal.at.overflow_cast-number c).After-candidates-candidates in
    omega (arith, at.candidates-candidates.ensures.few)

pub mark_alternative-requires-clause-counted : goal.mark_alternative-requires-clause-counted
mark_alternative-requires-clause-counted c = λ child demands.
    let at = (goal.at.mark_alternative-requires-clause-counted c).After-candidates-candidates in
    c.requires.counted child (child_of_demands c.args.lines.now c.args.cell c.loop-number.number child
    (omega (arith, at.candidates-candidates.ensures.each, c.loop-number-test.true))
    (few at c.loop-number.number) demands)

pub loop-number-init : goal.loop-number-init
loop-number-init c =
    let at = (goal.at.loop-number-init c).After-candidates-candidates in
    let p = c.args.lines.now in
    let cell = c.args.cell in
    let first = c.next-number.result in
    let none = none_marked cell.from c.args.marks.now (DemandsByFirst p cell 0) (λ child (alternative, l, demands). absurd (omega arith)) in
    record {
      within = c.next-number.ensures.within;
      marked = passed_over p cell cell.from 0 first c.args.marks.now c.args.marks.now (omega arith)
          (none_between at 0 first c.next-number.ensures.within c.next-number.ensures.none_before) none;
      noted = c.requires.noted;
    }

pub loop-number-preserved : goal.loop-number-preserved
loop-number-preserved c =
    let at = (goal.at.loop-number-preserved c).After-candidates-candidates in
    let p = c.args.lines.now in
    let cell = c.args.cell in
    let number = c.loop-number.number in
    let next = c.next-number-in-loop-number.result in
    let more = one_more_alternative p cell cell.from number c.args.marks.now c.loop-number.marks
    c.mark_alternative.new.marks c.loop-number.invariant.marked c.mark_alternative.ensures.marked in
    record {
      within = c.next-number-in-loop-number.ensures.within;
      marked = passed_over p cell cell.from (number + 1) next c.args.marks.now c.mark_alternative.new.marks
          c.next-number-in-loop-number.ensures.from_number
          (none_between at (number + 1) next c.next-number-in-loop-number.ensures.within
          c.next-number-in-loop-number.ensures.none_before) more;
      noted = c.mark_alternative.ensures.noted;
    }

pub loop-number-smaller : goal.loop-number-smaller
loop-number-smaller c = omega (arith, c.next-number-in-loop-number.ensures.from_number, c.loop-number-test.true)

pub returns-clause-marked : goal.returns-clause-marked
returns-clause-marked c =
    let at = (goal.at.returns-clause-marked c).After-candidates-candidates in
    let p = c.args.lines.now in
    let cell = c.args.cell in
    let whole : c.loop-number.number ≡ length (alternatives_of p.grammar cell.rule) =
    omega (
      arith,
      at.candidates-candidates.ensures.each,
      c.loop-number.invariant.within,
      c.loop-number-test.false,
    ) in
    let M : ℕ → Type 0 = λ count. AreMarkedFrom cell.from c.args.marks.now c.loop-number.marks (DemandsByFirst p cell count) in
    all_alternatives p cell (few at) cell.from c.args.marks.now c.loop-number.marks (subst M whole c.loop-number.invariant.marked)
