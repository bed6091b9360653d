use Rattle.std.proofs.Common.{◌≡◌, ℕ, ◌+◌, ◌-◌, ◌≤◌, nat_abs, FitsSigned, w64, rules, List, length, take, sym, ap, subst, ◌∙◌, arith}
use Rattle.std.specs.List.{AllByRecursion}
use Rattle.std.proofs.lemmas.Int.{to_z-of_z}
use Rattle.adp_model.specs.declared.grammar.Arg.{Arg}
use Rattle.adp_model.specs.declared.cell.Cell.{Cell}
use Rattle.adp_model.specs.PosedProblem.{PosedProblem}
use Rattle.adp_model.specs.ProblemFields.{IsAdmissible}
use Rattle.adp_model.specs.Cells.{IsCounted}
use Rattle.adp_model.specs.Demand.{IsDemanded}
use Rattle.adp_model.specs.Parts.{arguments_of}
use Rattle.adp_model.specs.WellFormed.{IsKnown}
use Rattle.cell_answers.proofs.Alternatives.{TokensKeepBound, tokens_low}
use Rattle.cell_answers.proofs.Bounding.{AreTermLaws, best_within}
use Rattle.score_rows.specs.Raised.{AreHighest}
use Rattle.score_rows.specs.declared.totals.Window.{Window}
use Rattle.row_scores.specs.Ready.{AreReady, HasFront, HasWhole, IsWanted}
use Rattle.row_scores.specs.RowNumbers.{IsInRow}
use Rattle.row_scores.specs.RowRules.{IsRowAlternative}
use Rattle.row_scores.specs.Steps.{IsLowToken}
use Rattle.row_scores.specs.declared.rules.RowAlternative.{RowAlternative}
use Rattle.row_scores.proofs.Alternatives.{allowed_ends, row_more}
use Rattle.row_scores.proofs.Starting.{all_low, are_rows, at_start, ready_first}
use Rattle.row_scores.proofs.through.raise_by.Goals as goal

abbrev cell_of : ℕ → ℕ → ℕ → Cell
cell_of rule from to = record { rule = rule; from = from; to = to }

few_of : (p : PosedProblem) (it : RowAlternative) → ((rule number : ℕ) → length (arguments_of p.grammar rule number) ≤ 4)
    → (rule : ℕ) × (number : ℕ) × IsRowAlternative p rule number it → length it.arguments.now ≤ 4
few_of p it few (rule, number, is) = subst (λ (xs : List Arg). length xs ≤ 4) (sym is.arguments) (few rule number)

known_of : (p : PosedProblem) (it : RowAlternative) → ((rule number : ℕ) → AllByRecursion (IsKnown p.grammar) (arguments_of p.grammar rule number))
    → (rule : ℕ) × (number : ℕ) × IsRowAlternative p rule number it → AllByRecursion (IsKnown p.grammar) it.arguments.now
known_of p it known (rule, number, is) = subst (AllByRecursion (IsKnown p.grammar)) (sym is.arguments) (known rule number)

low_of : (p : PosedProblem) (it : RowAlternative) → IsAdmissible p → TokensKeepBound p
    → (rule : ℕ) × (number : ℕ) × IsRowAlternative p rule number it → AllByRecursion (IsLowToken p) it.arguments.now
low_of p it admissible bounded (rule, number, is) =
    subst (AllByRecursion (IsLowToken p)) (sym is.arguments)
    (all_low p (arguments_of p.grammar rule number) (λ token stands from to fits. tokens_low p admissible bounded rule number token from to stands fits))

pub overflow_cast-letters : goal.overflow_cast-letters
overflow_cast-letters g c = omega (arith, c.letters.ensures.few)

pub overflow_sub-letters : goal.overflow_sub-letters
overflow_sub-letters g c = omega (arith, c.requires.from, ap length c.letters.ensures.word, ap (λ p. length p.word) c.problem-problem.ensures)

pub overflow_add-letters : goal.overflow_add-letters
overflow_add-letters g c = omega (arith, c.letters.ensures.few)

pub overflow_add-ends : goal.overflow_add-ends
overflow_add-ends g c =
    omega (arith, c.min.ensures, c.letters.ensures.few, c.requires.from, ap length c.letters.ensures.word, ap (λ p. length p.word) c.problem-problem.ensures)

pub overflow_add-ends-2 : goal.overflow_add-ends-2
overflow_add-ends-2 g c =
    omega (arith, c.min-2.ensures, c.letters.ensures.few, c.requires.from, ap length c.letters.ensures.word, ap (λ p. length p.word) c.problem-problem.ensures)

pub overflow_add-ends-3 : goal.overflow_add-ends-3
overflow_add-ends-3 g c =
    omega (arith, c.min-2.ensures, c.letters.ensures.few, c.requires.from, ap length c.letters.ensures.word, ap (λ p. length p.word) c.problem-problem.ensures)

pub raise_at-requires-clause-few : goal.raise_at-requires-clause-few
raise_at-requires-clause-few g c =
    omega (arith, c.letters.ensures.few, c.requires.from, ap length c.letters.ensures.word, ap (λ p. length p.word) c.problem-problem.ensures)

pub raise_at-requires-clause-within : goal.raise_at-requires-clause-within
raise_at-requires-clause-within g c = omega (arith, c.requires.from, c.requires.room.reached_long)

pub shared_ref_as_front-factors : goal.shared_ref_as_front-factors
shared_ref_as_front-factors g c =
    let p = c.args.known.now.lines.now in
    let admissible : IsAdmissible p = subst IsAdmissible c.problem-problem.ensures c.admissible.ensures in
    few_of p c.args.alternative.now (c.arguments_are_few_and_known.ensures.few p.grammar admissible.checked.well_formed) c.requires.alternative

pub go_through-requires-clause-known : goal.go_through-requires-clause-known
go_through-requires-clause-known g c = c.requires.known

pub go_through-requires-clause-rows : goal.go_through-requires-clause-rows
go_through-requires-clause-rows g c =
    let p = c.args.known.now.lines.now in
    let admissible : IsAdmissible p = subst IsAdmissible c.problem-problem.ensures c.admissible.ensures in
    are_rows g.N.RowNumber.value c.args.known.now.table.now p g.N.RowNumber.width c.cells.ensures c.requires.known.same_problem admissible
    (c.bounds_are_sound.ensures.score p) (c.answer_is_unique.ensures p) c.mark.ensures.dead

pub go_through-requires-clause-arguments : goal.go_through-requires-clause-arguments
go_through-requires-clause-arguments g c =
    let p = c.args.known.now.lines.now in
    let admissible : IsAdmissible p = subst IsAdmissible c.problem-problem.ensures c.admissible.ensures in
    known_of p c.args.alternative.now (c.arguments_are_few_and_known.ensures.known p.grammar admissible.checked.well_formed) c.requires.alternative

pub go_through-requires-clause-low : goal.go_through-requires-clause-low
go_through-requires-clause-low g c =
    let p = c.args.known.now.lines.now in
    let admissible : IsAdmissible p = subst IsAdmissible c.problem-problem.ensures c.admissible.ensures in
    low_of p c.args.alternative.now admissible (c.words_keep_their_score_bound.ensures.token p) c.requires.alternative

pub go_through-requires-clause-long : goal.go_through-requires-clause-long
go_through-requires-clause-long g c =
    let room = c.requires.room in
    record { reached_long = c.raise_at.ensures.as_many ∙ room.reached_long; next_long = room.next_long; row_long = room.row_long }

pub go_through-requires-clause-clear : goal.go_through-requires-clause-clear
go_through-requires-clause-clear g c = c.requires.room.next_clear

pub returns-clause-row : goal.returns-clause-row
returns-clause-row g c rule number known is children row =
    let p = c.args.known.now.lines.now in
    let table = c.args.known.now.table.now in
    let width = g.N.RowNumber.width in
    let value = g.N.RowNumber.value in
    let it = c.args.alternative.now in
    let from = c.args.from in
    let letters = length c.letters.result.now - from in
    let word : length c.letters.result.now ≡ length p.word =
    ap length c.letters.ensures.word ∙ ap (λ (q : PosedProblem). length q.word) c.problem-problem.ensures in
    let admissible : IsAdmissible p = subst IsAdmissible c.problem-problem.ensures c.admissible.ensures in
    let laws : AreTermLaws = record { rises = c.magnitudes_rise.ensures; within = c.values_are_within_magnitudes.ensures } in
    let counted : (cell : Cell) → IsDemanded p cell → IsCounted p.grammar (length p.word) cell =
    c.demanded_cells_are_counted.ensures p admissible.checked.well_formed in
    let constant = it.sum.constant in
    let factors = take (length it.arguments.now) it.sum.factors in
    let fits : FitsSigned w64 constant = search rules in
    let exact : nat_abs constant ≤ width.limit → value c.of.result ≡ constant = simp to_z-of_z at c.of.ensures in
    let front = at_start p width laws c.requires.low counted rule number from constant factors is.scored is.in_range known in
    let ready = ready_first p width laws c.requires.low counted rule number from constant factors is.scored is.in_range known
    c.args.room.now.reached c.raise_at.new.self (value c.of.result) c.requires.room.reached_clear exact c.raise_at.ensures
    value table c.requires.known.same_problem (c.arguments_are_few_and_known.ensures.few p.grammar admissible.checked.well_formed rule number)
    c.requires.from c.requires.room.reached_long children in
    let window : Window = record { first = from + c.min.result; past = from + c.min-2.result + 1 } in
    let ends = allowed_ends p rule number from letters it.lengths window is.lengths (omega (arith, c.letters.ensures.few, word))
    (omega (arith, word, c.requires.from)) (ap (λ n. from + n) c.min.ensures) (ap (λ n. from + n + 1) c.min-2.ensures) in
    let through = c.go_through.ensures.raised front
    (λ end wanted. let cell = counted (cell_of rule from end) wanted.demanded in ends.all end cell.in_order cell.in_word wanted.allowed)
    (subst (λ xs. AreReady p width (IsInRow value table) (HasFront p front) (IsWanted p front) xs factors c.raise_at.new.self) (sym is.arguments) ready) in
    row_more p width laws c.requires.low counted rule number from constant factors is.scored is.in_range known
    (best_within p admissible (c.bounds_are_sound.ensures.score p)) window ends c.args.room.now.row c.go_through.new.row row
    (subst (λ xs. AreHighest width (HasWhole p (HasFront p front) xs factors) (IsWanted p front) c.args.room.now.row c.go_through.new.row) is.arguments through)
    c.go_through.ensures.others

pub returns-clause-room : goal.returns-clause-room
returns-clause-room g c =
    let long = c.go_through.ensures.long in
    let clear = c.go_through.ensures.clear in
    record { reached_long = long.reached_long; next_long = long.next_long; row_long = long.row_long; reached_clear = clear.0; next_clear = clear.1 }
