use Rattle.std.proofs.Common.{◌≡◌, ◌↔◌, ℕ, ◌+◌, ◌*◌, ◌%◌, ◌^◌, ◌<◌, ◌≤◌, length, set, inl, ap, sym, subst, ◌∙◌, arith}
use Rattle.std.specs.Prelude.{bit_or, slice_index}
use Rattle.std.specs.Int.{bit_at}
use Rattle.std.proofs.lemmas.List.{get_or_read, length-set}
use Rattle.std.proofs.lemmas.Nat.Bits.{shr_and_one}
use Rattle.adp_model.specs.Cells.{IsCellBound, IsCounted}
use Rattle.adp_model.specs.PosedProblem.{PosedProblem}
use Rattle.cell_demands.specs.Rows.{AreMarkedInRows}
use Rattle.cell_tables.specs.Marks.{AreInRows, AreMarkedToo, CellMarks, IsMarkedInRow}
use Rattle.suffix_cells.specs.Visits.{AreNumbers, IsVisited, Visited, suffix_cell}
use Rattle.suffix_cells.proofs.CellNumbers.{next_cell, no_more_than}
use Rattle.suffix_cells.proofs.VisitSteps.{exact_now, not_marked, number_below, rows_now, still_in_rows, visited_before}
use Rattle.suffix_cells.proofs.visits.Visits.visit.Goals as goal
use Rattle.suffix_cells.proofs.visits.Visits.visit.Goals.{After-index-bits, After-mark}

-- the marks, and what is counted
same_marks : (c : After-index-bits) → c.self.inside.marks ≡ c.args.self.now.marks
same_marks c = ap (λ (visits : Visited). visits.marks) c.self.view_is

counted : (c : After-index-bits) → IsCounted c.self.inside.marks.problem.grammar (length c.self.inside.marks.problem.word)
    (suffix_cell c.self.inside.marks.problem c.args.rule c.args.from)
counted c =
    let C : CellMarks → Type 0 = λ marks. IsCounted marks.problem.grammar (length marks.problem.word) (suffix_cell marks.problem c.args.rule c.args.from) in
    subst C (sym (same_marks c)) c.requires

number_is : (c : After-index-bits) → c.index-number.result.now ≡ slice_index c.self.inside.numbers.items c.args.rule
number_is c =
    get_or_read c.self.inside.numbers.items c.args.rule c.index-number.result.now
    (omega (arith, (counted c).rule, c.self.invariant.numbers.each)) c.index-number.ensures 0

start_within : (c : After-index-bits) → c.args.from < length c.self.inside.bits.items
start_within c = omega (arith, (counted c).in_order, c.self.invariant.each_start)

bits_are : (c : After-index-bits) → c.index-bits.result.now ≡ slice_index c.self.inside.bits.items c.args.from
bits_are c = get_or_read c.self.inside.bits.items c.args.from c.index-bits.result.now (start_within c) c.index-bits.ensures 0

bit_read : (c : After-index-bits) → bit_at (slice_index c.self.inside.bits.items c.args.from) (slice_index c.self.inside.numbers.items c.args.rule) ≡ 1
    → bit_at c.index-bits.result.now c.index-number.result.now ≡ 1
bit_read c set =
    let B : ℕ → Type 0 = λ bits. bit_at bits (slice_index c.self.inside.numbers.items c.args.rule) ≡ 1 in
    let N : ℕ → Type 0 = λ number. bit_at c.index-bits.result.now number ≡ 1 in
    subst N (sym (number_is c)) (subst B (sym (bits_are c)) set)

-- the cell that is marked
to_is : (c : After-mark) → length c.letters.result.now ≡ length c.self.inside.marks.problem.word
to_is c = ap length c.letters.ensures.word ∙ ap (λ (p : PosedProblem). length p.word) c.self.invariant.problem

marked : (c : After-mark) → AreMarkedToo c.self.inside.marks c.mark.new.self
    (λ other. other ≡ suffix_cell c.self.inside.marks.problem c.args.rule c.args.from)
marked c =
    let M : ℕ → Type 0 = λ to. AreMarkedToo c.self.inside.marks c.mark.new.self
    (λ other. other ≡ record { rule = c.args.rule; from = c.args.from; to = to }) in
    subst M (to_is c) c.mark.ensures.marked

in_row : (c : After-mark) → AreInRows c.mark.new.self (λ other. other ≡ suffix_cell c.self.inside.marks.problem c.args.rule c.args.from)
in_row c =
    let R : ℕ → Type 0 = λ to. AreInRows c.mark.new.self (λ other. other ≡ record { rule = c.args.rule; from = c.args.from; to = to }) in
    subst R (to_is c) c.mark.ensures.in_row

pub returns-then-bits-number-eq1-clause-marked : goal.returns-then-bits-number-eq1-clause-marked
returns-then-bits-number-eq1-clause-marked c =
    let at = (goal.at.returns-then-bits-number-eq1-clause-marked c).After-index-bits in
    let it = c.self.inside in
    let M : CellMarks → Type 0 = λ marks. AreMarkedInRows marks marks (λ cell. cell ≡ suffix_cell marks.problem c.args.rule c.args.from) in
    let bit : bit_at c.index-bits.result.now c.index-number.result.now ≡ 1 =
    sym (shr_and_one c.index-bits.result.now c.index-number.result.now) ∙ c.if-bits-number-eq1.true in
    let B : ℕ → Type 0 = λ bits. bit_at bits (slice_index it.numbers.items c.args.rule) ≡ 1 in
    let N : ℕ → Type 0 = λ number. bit_at c.index-bits.result.now number ≡ 1 in
    subst M (same_marks at)
    (visited_before it.marks it.order.items it.numbers.items c.self.invariant.numbers it.bits.items c.self.invariant.exact c.args.rule c.args.from
    (counted at).rule (subst B (bits_are at) (subst N (number_is at) bit)))

pub overflow_shl-number : goal.overflow_shl-number
overflow_shl-number c =
    let at = (goal.at.overflow_shl-number c).After-index-bits in
    let it = c.self.inside in
    omega (
      arith,
      number_is at,
      number_below it.marks it.order.items it.numbers.items c.self.invariant.numbers it.bits.items c.self.invariant.exact
          c.args.rule c.args.from (counted at).rule,
    )

-- no more cells are marked than are counted
pub overflow_add-self : goal.overflow_add-self
overflow_add-self c =
    let it = c.self.inside in
    let B : PosedProblem → Type 0 = λ p. (count : ℕ) × IsCellBound p.grammar (length p.word) count × (count ≤ 2097152) in
    let bound = subst B c.self.invariant.problem c.admissible.ensures.limits.cells in
    let few = no_more_than (IsMarkedInRow it.marks) (IsCounted it.marks.problem.grammar (length it.marks.problem.word))
    (λ cell row. c.cells.ensures.counted cell (inl row)) it.cells bound.0 c.self.invariant.counted bound.1 in
    omega (arith, few, bound.2)

pub invariant_of-self : goal.invariant_of-self
invariant_of-self c =
    let at = (goal.at.invariant_of-self c).After-index-bits in
    let it = c.self.inside in
    let then = (goal.at.invariant_of-self c).After-mark in
    let new = c.mark.new.self in
    let problem = sym (marked then).problem in
    let N : PosedProblem → Type 0 = λ p. AreNumbers (length p.grammar.rules) it.order.items it.numbers.items in
    let old_word : ℕ → ℕ → ℕ = λ bits number. bit_or bits (1 * 2 ^ number % 2 ^ 128) in
    let word = old_word c.index-bits.result.now c.index-number.result.now in
    let same : old_word (slice_index it.bits.items c.args.from) (slice_index it.numbers.items c.args.rule) ≡ word =
    ap (λ bits. old_word bits (slice_index it.numbers.items c.args.rule)) (sym (bits_are at))
    ∙ ap (old_word c.index-bits.result.now) (sym (number_is at)) in
    let E : ℕ → Type 0 = λ word. (from number : ℕ) → bit_at (slice_index (set it.bits.items c.args.from word) from) number ≡ 1
    ↔ IsVisited (record { marks = new; order = it.order.items }) from number in
    record {
      problem = c.self.invariant.problem ∙ problem;
      numbers = subst N problem c.self.invariant.numbers;
      each_start = length-set it.bits.items c.args.from word ∙ c.self.invariant.each_start ∙ ap (λ (p : PosedProblem). length p.word + 1) problem;
      in_rows = still_in_rows it.marks it.order.items it.numbers.items c.self.invariant.numbers it.bits.items c.self.invariant.exact c.args.rule
          c.args.from (counted at).rule (start_within at) c.self.invariant.in_rows new (marked then) (in_row then);
      exact = subst E same
          (exact_now it.marks it.order.items it.numbers.items c.self.invariant.numbers it.bits.items c.self.invariant.exact c.args.rule
          c.args.from (counted at).rule (start_within at) c.self.invariant.in_rows new (marked then) (in_row then));
      counted = next_cell (IsMarkedInRow it.marks) (IsMarkedInRow new) (suffix_cell it.marks.problem c.args.rule c.args.from)
          (not_marked it.marks it.order.items it.numbers.items c.self.invariant.numbers it.bits.items c.self.invariant.exact c.args.rule
          c.args.from (counted at).rule (λ set. c.if-bits-number-eq1.false
          (shr_and_one c.index-bits.result.now c.index-number.result.now ∙ bit_read at set)))
          (rows_now it.marks it.order.items it.numbers.items c.self.invariant.numbers it.bits.items c.self.invariant.exact c.args.rule
          c.args.from (counted at).rule (start_within at) c.self.invariant.in_rows new (marked then) (in_row then))
          it.cells c.self.invariant.counted;
    }

pub returns-clause-marked : goal.returns-clause-marked
returns-clause-marked c =
    let at = (goal.at.returns-clause-marked c).After-index-bits in
    let then = (goal.at.returns-clause-marked c).After-mark in
    let M : CellMarks → Type 0 = λ marks. AreMarkedInRows marks c.mark.new.self (λ cell. cell ≡ suffix_cell marks.problem c.args.rule c.args.from) in
    subst M (same_marks at) (record { marked = marked then; in_rows = in_row then })
