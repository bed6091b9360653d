use Rattle.std.proofs.Common.{◌≡◌, ◌+◌, ◌-◌, ◌<◌, ◌≤◌, ℕ, zero, suc, ℤ, true, false, List, [], ◌∷◌, ◌++◌, length}
use Rattle.std.proofs.Common.{get_or, refl, sym, ap, subst, ◌∙◌, arith, eqb-true}
use Rattle.std.specs.Prelude.{◌==◌}
use Rattle.std.specs.List.{AllByRecursion, Contains}
use Rattle.std.proofs.lemmas.Bool.{false≢true}
use Rattle.adp_model.specs.declared.grammar.Arg.{Arg}
use Rattle.adp_model.specs.declared.grammar.Arg.TheVariants.{Rule}
use Rattle.adp_model.specs.declared.cell.Cell.{Cell}
use Rattle.adp_model.specs.PosedProblem.{PosedProblem}
use Rattle.adp_model.specs.Splits.{AtRule}
use Rattle.adp_model.specs.Bellman.{HasBestScore}
use Rattle.viable_splits.specs.Placing.{on_span}
use Rattle.split_lines.specs.Laid.{IsFixed, LineParts, AreBoundaries}
use Rattle.split_lines.specs.Lines.{parts_by}
use Rattle.cell_answers.specs.Entries.{HasEntry, IsEntry}
use Rattle.cell_answers.specs.Rows.{HasEntryAt}
use Rattle.cell_answers.specs.ArgumentEntries.{entries_of}
use Rattle.cell_answers.specs.Opened.{parts_with}
use Rattle.cell_answers.specs.Totals.{HasTotal}
use Rattle.cell_answers.proofs.FirstEnds.{AreLaid, at_rule}
use Rattle.cell_answers.proofs.WholeLines.{IsWhole, IsFront, whole_front, position_within, first_entry, second_entry}
use Rattle.cell_answers.proofs.WholeLines.{none_without_position, entry_among, some_value_at, between_ends}
use Rattle.cell_answers.proofs.WholeLines.{first_stands, last_stands}
use Rattle.cell_answers.proofs.opened.open_line.Goals as goal
use Rattle.cell_answers.proofs.opened.open_line.Goals.{After-line_arguments-arguments}

parts_are : (c : After-line_arguments-arguments) → parts_by c.args.arguments.now c.args.line.between
    ≡ parts_with c.line_arguments-arguments.result c.line_arguments-arguments.result.tail.now
parts_are c =
    let first = sym c.line_arguments-arguments.ensures.first in
    let middle = sym c.line_arguments-arguments.ensures.middle in
    let second = sym c.line_arguments-arguments.ensures.second in
    let tail = sym c.line_arguments-arguments.ensures.tail in
    λ i. record { first = first i; middle = middle i; second = second i; tail = tail i }

arguments_are : (c : After-line_arguments-arguments)
    → c.args.arguments.now ≡ c.line_arguments-arguments.result.first.now
    ∷ (c.line_arguments-arguments.result.middle.now ++ c.line_arguments-arguments.result.second.now
    ∷ c.line_arguments-arguments.result.tail.now)
arguments_are c = c.requires.line.has_line.parts.are ∙ ap (λ (parts : LineParts). parts.first ∷ (parts.middle ++ parts.second ∷ parts.tail)) (parts_are c)

whole : (c : After-line_arguments-arguments)
    → IsWhole c.args.lines.now c.args.scores.now c.line_arguments-arguments.result c.args.from c.args.to
    c.boundary-boundary.result
whole c =
    let p = c.args.lines.now in
    let table = c.args.scores.now in
    let it = c.line_arguments-arguments.result in
    let boundary = c.boundary-boundary.result in
    let L : List Arg → Type 0 = λ arguments. AreLaid p table arguments
    (it.first_factor ∷ (it.middle_factors.now ++ it.second_factor ∷ it.tail_factors.now)) c.args.from c.args.to in
    let F : List ℤ → Type 0 = λ factors. AreLaid p table c.args.arguments.now factors c.args.from c.args.to in
    record {
      laid = subst L (arguments_are c)
          (subst F c.line_arguments-arguments.ensures.factors
          (record {
            weighted = c.requires.weighted;
            span = c.requires.span;
            scored = c.requires.scored;
            low = c.requires.low;
          }));
      each = c.line_arguments-arguments.ensures.middle_each;
      middle_fixed = subst (λ (parts : LineParts). AllByRecursion IsFixed parts.middle) (parts_are c) c.requires.line.has_line.parts.middle_fixed;
      tail_fixed = subst (λ (parts : LineParts). AllByRecursion IsFixed parts.tail) (parts_are c) c.requires.line.has_line.parts.tail_fixed;
      positions = subst (λ (parts : LineParts). AreBoundaries p parts c.args.from c.args.to boundary.letters
          boundary.last boundary.positions.now) (parts_are c) c.boundary-boundary.ensures.boundaries;
    }

abbrev Stands : After-line_arguments-arguments → ℕ → Type 0
Stands c position = Contains c.boundary-boundary.result.positions.now position

front : (c : After-line_arguments-arguments) (position : ℕ) → Stands c position
    → IsFront c.args.lines.now c.line_arguments-arguments.result c.args.from c.boundary-boundary.result
front c = whole_front c.args.lines.now c.args.scores.now c.line_arguments-arguments.result c.args.from c.args.to c.boundary-boundary.result (whole c)

within : (c : After-line_arguments-arguments) (position : ℕ) → Stands c position
    → (position + c.boundary-boundary.result.letters ≤ c.boundary-boundary.result.last)
    × (c.boundary-boundary.result.last ≤ length c.args.lines.now.word)
within c = position_within c.args.lines.now c.args.scores.now c.line_arguments-arguments.result c.args.from c.args.to c.boundary-boundary.result (whole c)

first_has : (c : After-line_arguments-arguments) (position : ℕ) → Stands c position → (rule : ℕ)
    → c.line_arguments-arguments.result.first.now ≡ Rule rule
    → HasEntry c.args.scores.now (record { rule = rule; from = c.args.from; to = position })
first_has c = first_entry c.args.lines.now c.args.scores.now c.line_arguments-arguments.result c.args.from c.args.to c.boundary-boundary.result (whole c)

second_has : (c : After-line_arguments-arguments) (position : ℕ) → Stands c position → (rule : ℕ)
    → c.line_arguments-arguments.result.second.now ≡ Rule rule
    → HasEntry c.args.scores.now (record {
      rule = rule;
      from = position + c.boundary-boundary.result.letters;
      to = c.boundary-boundary.result.last;
    })
second_has c = second_entry c.args.lines.now c.args.scores.now c.line_arguments-arguments.result c.args.from c.args.to c.boundary-boundary.result (whole c)

not_zero : (n : ℕ) → false ≡ (n == 0) → 0 < n
not_zero zero e = absurd (false≢true e)
not_zero (suc n) e = omega arith

low_stands : (c : After-line_arguments-arguments) → 0 < length c.boundary-boundary.result.positions.now
    → Stands c (get_or c.boundary-boundary.result.positions.now 0 0)
low_stands c = first_stands c.boundary-boundary.result.positions.now

high_stands : (c : After-line_arguments-arguments) → 0 < length c.boundary-boundary.result.positions.now
    → Stands c (get_or c.boundary-boundary.result.positions.now (length c.boundary-boundary.result.positions.now - 1) 0)
high_stands c = last_stands c.boundary-boundary.result.positions.now

few_letters : (c : After-line_arguments-arguments) → length c.args.lines.now.word ≤ 4000
few_letters c = omega (arith, c.admissible.ensures.limits.letters, ap (λ (p : PosedProblem). length p.word) c.problem.ensures)

pub returns-then-is_empty : goal.returns-then-is_empty
returns-then-is_empty c =
    let at = (goal.at.returns-then-is_empty c).After-line_arguments-arguments in
    let p = c.args.lines.now in
    let it = c.line_arguments-arguments.result in
    let empty : c.boundary-boundary.result.positions.now ≡ [] = is_none c.boundary-boundary.result.positions.now c.if-is_empty.ensures in
    subst (λ xs. (total : ℤ) → HasTotal p (HasBestScore p) xs c.args.factors.now c.args.from c.args.to total → ⊥) (sym (arguments_are at))
    (subst (λ ys. (total : ℤ) → HasTotal p (HasBestScore p)
    (it.first.now ∷ (it.middle.now ++ it.second.now ∷ it.tail.now)) ys c.args.from c.args.to total → ⊥)
    (sym c.line_arguments-arguments.ensures.factors)
    (none_without_position p c.args.scores.now it c.args.from c.args.to c.boundary-boundary.result (whole at) empty))
  where
    is_none : (positions : List ℕ) → true ≡ (length positions == 0) → positions ≡ []
    is_none [] e = refl
    is_none (position ∷ positions) e = absurd (let none : suc (length positions) ≡ 0 = eqb-true _ _ (sym e) in omega arith)

pub entries-row-requires-clause-short : goal.entries-row-requires-clause-short
entries-row-requires-clause-short c =
    let at = (goal.at.entries-row-requires-clause-short c).After-line_arguments-arguments in
    let l = within at _ (high_stands at (not_zero _ c.if-is_empty.ensures)) in
    omega (arith, l.0, l.1, few_letters at)

pub entries-row-requires-clause-there : goal.entries-row-requires-clause-there
entries-row-requires-clause-there c = λ rule is.
    let at = (goal.at.entries-row-requires-clause-there c).After-line_arguments-arguments in
    let some = not_zero _ c.if-is_empty.ensures in
    let low = first_has at _ (low_stands at some) rule is in
    let high = first_has at _ (high_stands at some) rule is in
    (some_value_at _ low.entry low.in_row, some_value_at _ high.entry high.in_row)

pub overflow_add-low : goal.overflow_add-low
overflow_add-low c =
    let at = (goal.at.overflow_add-low c).After-line_arguments-arguments in
    let l = within at _ (low_stands at (not_zero _ c.if-is_empty.ensures)) in
    omega (arith, l.0, l.1, few_letters at)

pub overflow_add-high : goal.overflow_add-high
overflow_add-high c =
    let at = (goal.at.overflow_add-high c).After-line_arguments-arguments in
    let l = within at _ (high_stands at (not_zero _ c.if-is_empty.ensures)) in
    omega (arith, l.0, l.1, few_letters at)

pub entries-column-requires-clause-short : goal.entries-column-requires-clause-short
entries-column-requires-clause-short c =
    let at = (goal.at.entries-column-requires-clause-short c).After-line_arguments-arguments in
    let l = within at _ (high_stands at (not_zero _ c.if-is_empty.ensures)) in
    omega (arith, l.0, l.1, few_letters at)

pub entries-column-requires-clause-there : goal.entries-column-requires-clause-there
entries-column-requires-clause-there c = λ rule is.
    let at = (goal.at.entries-column-requires-clause-there c).After-line_arguments-arguments in
    let some = not_zero _ c.if-is_empty.ensures in
    let low = second_has at _ (low_stands at some) rule is in
    let high = second_has at _ (high_stands at some) rule is in
    (some_value_at _ low.entry low.in_column, some_value_at _ high.entry high.in_column)

pub returns : goal.returns
returns c =
    let some = not_zero _ c.if-is_empty.ensures in
    let front = front at _ (low_stands at some) in
    record {
      opened = record {
        weighted = front.weighted;
        middle_each = c.line_arguments-arguments.ensures.middle_each;
        middle_fixed = (whole at).middle_fixed;
        boundary = front.positions;
        limits = c.boundary-boundary.ensures.limits;
        low = front.low;
        common = c.entries-column.ensures.first ∙ ap (λ first. first + c.boundary-boundary.result.letters) (sym c.entries-row.ensures.first);
        row = row;
        column = column;
        row_proper = c.entries-row.ensures.proper;
        column_proper = c.entries-column.ensures.proper;
      };
      arguments_are = arguments_are at;
      factors_are = c.line_arguments-arguments.ensures.factors;
      tail_fixed = (whole at).tail_fixed;
      begins = refl;
      boundary = (whole at).positions;
      some = some;
    }
  where
    at : After-line_arguments-arguments
    at = (goal.at.returns c).After-line_arguments-arguments

    p : PosedProblem
    p = c.args.lines.now

    row : (position : ℕ) → Stands at position
        → AtRule (HasEntryAt p (entries_of c.entries-row.result) c.entries-row.result.first position)
        (on_span c.line_arguments-arguments.result.first.now c.args.from position)
    row position stands =
        let scores = entries_of c.entries-row.result in
        let low = get_or c.boundary-boundary.result.positions.now 0 0 in
        let ends = between_ends c.boundary-boundary.result.positions.now position c.boundary-boundary.ensures.boundaries.rising stands in
        let N : ℕ → Type 0 = λ first. AtRule (HasEntryAt p scores first position) (on_span c.line_arguments-arguments.result.first.now c.args.from position) in
        subst N (sym c.entries-row.ensures.first)
        (at_rule (HasEntryAt p scores low position) c.line_arguments-arguments.result.first.now c.args.from position (λ rule is.
        let entry = first_has at position stands rule is in
        let cell : Cell = record { rule = rule; from = c.args.from; to = position } in
        entry_among p c.args.scores.now.rows rule c.args.from low position entry.entry scores cell ends.0
        (c.entries-row.ensures.values rule position is ends.0 ends.1)
        entry.in_row
        (subst (λ (problem : PosedProblem). IsEntry problem cell entry.entry) c.requires.same_problem entry.is_entry)))

    column : (position : ℕ) → Stands at position
        → AtRule (HasEntryAt p (entries_of c.entries-column.result) c.entries-column.result.first
        (position + c.boundary-boundary.result.letters))
        (on_span c.line_arguments-arguments.result.second.now (position + c.boundary-boundary.result.letters)
        c.boundary-boundary.result.last)
    column position stands =
        let scores = entries_of c.entries-column.result in
        let letters = c.boundary-boundary.result.letters in
        let last = c.boundary-boundary.result.last in
        let ends = between_ends c.boundary-boundary.result.positions.now position c.boundary-boundary.ensures.boundaries.rising stands in
        let begin : ℕ = get_or c.boundary-boundary.result.positions.now 0 0 + letters in
        let low : begin ≤ position + letters = omega (arith, ends.0) in
        let high : position + letters ≤ get_or c.boundary-boundary.result.positions.now
        (length c.boundary-boundary.result.positions.now - 1) 0 + letters = omega (arith, ends.1) in
        let N : ℕ → Type 0 = λ first. AtRule (HasEntryAt p scores first (position + letters))
        (on_span c.line_arguments-arguments.result.second.now (position + letters) last) in
        subst N (sym c.entries-column.ensures.first)
        (at_rule (HasEntryAt p scores begin (position + letters)) c.line_arguments-arguments.result.second.now (position + letters) last (λ rule is.
        let entry = second_has at position stands rule is in
        let cell : Cell = record { rule = rule; from = position + letters; to = last } in
        entry_among p c.args.scores.now.columns rule last begin (position + letters) entry.entry scores cell low
        (c.entries-column.ensures.values rule (position + letters) is low high)
        entry.in_column
        (subst (λ (problem : PosedProblem). IsEntry problem cell entry.entry) c.requires.same_problem entry.is_entry)))
