use Rattle.std.proofs.Common.{◌≡◌, ◌<◌, ℕ, ◌+◌, ◌≤◌, List, [], ◌∷◌, length, get_or, refl, ap, subst, ◌∙◌, arith}
use Rattle.adp_model.specs.declared.cell.Cell.{Cell}
use Rattle.adp_model.specs.PosedProblem.{PosedProblem}
use Rattle.adp_model.specs.ProblemFields.{IsAdmissible}
use Rattle.adp_model.specs.Parts.{alternatives_of, arguments_of}
use Rattle.adp_model.specs.Demand.{IsDemandedChild}
use Rattle.split_lines.specs.Beginnings.{IsCandidate}
use Rattle.split_lines.specs.Laid.{DemandsBy}
use Rattle.cell_demands.specs.Rows.{AreMarkedInRows}
use Rattle.cell_demands.proofs.LineDemands.{DemandsByFirst, closed_demands}
use Rattle.cell_demands.proofs.RowMarks.{rows_none}
use Rattle.cell_demands.proofs.Splitting.{child_of_demands}
use Rattle.suffix_cells.specs.Visits.{suffix_cell}
use Rattle.suffix_cells.proofs.RowSteps.{all_of_them, one_more, passed}
use Rattle.suffix_cells.proofs.marking.mark_children.Goals as goal
use Rattle.suffix_cells.proofs.marking.mark_children.Goals.{After-candidates-candidates}

-- the cell that is looked at
abbrev cell : (c : After-candidates-candidates) → Cell
cell c = record { rule = c.args.rule; from = c.args.from; to = length c.letters.result.now }

ends : (c : After-candidates-candidates) → length c.letters.result.now ≡ length c.args.lines.now.word
ends c = ap length c.letters.ensures.word ∙ ap (λ (p : PosedProblem). length p.word) c.problem-problem.ensures

same_cell : (c : After-candidates-candidates) → cell c ≡ suffix_cell c.args.lines.now c.args.rule c.args.from
same_cell c = λ k. record { rule = c.args.rule; from = c.args.from; to = ends c k }

admissible : (c : After-candidates-candidates) → IsAdmissible c.args.lines.now
admissible c = let A : PosedProblem → Type 0 = IsAdmissible in subst A c.problem-problem.ensures c.admissible.ensures

few : (c : After-candidates-candidates) (alternative : ℕ) → length (arguments_of c.args.lines.now.grammar c.args.rule alternative) ≤ 4
few c = c.arguments_are_few_and_known.ensures.few c.args.lines.now.grammar (admissible c).checked.well_formed c.args.rule

by_item : {X Y : Type 0} (xs : List X) (k : ℕ) → k < length xs → (X → Y) → Y
by_item [] k l told = absurd (omega arith)
by_item (x ∷ xs) k l told = told x

-- the alternatives that are passed over demand nothing
none_between : (c : After-candidates-candidates) (first next : ℕ) → next ≤ length c.candidates-candidates.result.alternatives.now
    → ((other : ℕ) → first ≤ other → other < next → IsCandidate c.candidates-candidates.result other → ⊥)
    → (alternative : ℕ) → first ≤ alternative → alternative < next → (child : Cell)
    → DemandsBy c.args.lines.now (cell c) alternative child → ⊥
none_between c first next within none alternative from before child demands =
    let told = c.candidates-candidates.ensures in
    let alternatives = c.candidates-candidates.result.alternatives.now in
    let there : alternative < length alternatives = omega (arith, within, before) in
    by_item alternatives alternative there (λ d.
    closed_demands c.args.lines.now (cell c) (get_or alternatives alternative d) alternative (omega (arith, told.each, there)) (few c alternative)
    (told.are alternative d there) (told.others alternative d there (none alternative from before)) child demands)

pub mark_alternative-requires-clause-counted : goal.mark_alternative-requires-clause-counted
mark_alternative-requires-clause-counted c = λ child demands.
    let at = (goal.at.mark_alternative-requires-clause-counted c).After-candidates-candidates in
    let p = c.args.lines.now in
    let is = child_of_demands p (cell at) c.loop-number.number child
    (omega (arith, c.candidates-candidates.ensures.each, c.loop-number-test.true)) (few at c.loop-number.number) demands in
    c.requires.counted child (subst (λ it. IsDemandedChild p it child) (same_cell at) is)

pub loop-number-init : goal.loop-number-init
loop-number-init c =
    let at = (goal.at.loop-number-init c).After-candidates-candidates in
    let p = c.args.lines.now in
    let marks = c.args.visits.now.marks in
    record {
      within = c.next-number.ensures.within;
      marked = passed p (cell at) 0 c.next-number.result marks marks (omega arith)
          (none_between at 0 c.next-number.result c.next-number.ensures.within c.next-number.ensures.none_before)
          (rows_none marks (DemandsByFirst p (cell at) 0) (λ child (alternative, l, demands). omega (arith, l)));
      order = refl;
    }

pub loop-number-preserved : goal.loop-number-preserved
loop-number-preserved c =
    let at = (goal.at.loop-number-preserved c).After-candidates-candidates in
    let p = c.args.lines.now in
    let number = c.loop-number.number in
    let old = c.args.visits.now.marks in
    let new = c.mark_alternative.new.visits.marks in
    let next = c.next-number-in-loop-number in
    record {
      within = next.ensures.within;
      marked = passed p (cell at) (number + 1) next.result old new next.ensures.from_number
          (none_between at (number + 1) next.result next.ensures.within next.ensures.none_before)
          (one_more p (cell at) number old c.loop-number.visits.marks new c.loop-number.invariant.marked c.mark_alternative.ensures.marked);
      order = c.mark_alternative.ensures.order ∙ c.loop-number.invariant.order;
    }

pub returns-clause-marked : goal.returns-clause-marked
returns-clause-marked c =
    let at = (goal.at.returns-clause-marked c).After-candidates-candidates in
    let p = c.args.lines.now in
    let old = c.args.visits.now.marks in
    let new = c.loop-number.visits.marks in
    let whole : c.loop-number.number ≡ length (alternatives_of p.grammar c.args.rule) =
    omega (arith, c.candidates-candidates.ensures.each, c.loop-number.invariant.within, c.loop-number-test.false) in
    let M : ℕ → Type 0 = λ count. AreMarkedInRows old new (DemandsByFirst p (cell at) count) in
    let C : Cell → Type 0 = λ it. AreMarkedInRows old new (IsDemandedChild p it) in
    subst C (same_cell at) (all_of_them p (cell at) (few at) old new (subst M whole c.loop-number.invariant.marked))
