-- The sweep that marks the demanded cells of straight grammars, by starts upwards and at a start by numbers downwards.
use Rattle.std.proofs.Common.{◌≡◌, ◌↔◌, ℕ, ◌+◌, ◌-◌, ◌<◌, ◌≤◌, Some, List, length, slice_get, refl, sym, ap, subst, inl, inr, ⊎_elim, ◌∙◌, arith}
use Rattle.std.proofs.lemmas.Bool.{cases_lt, cases_eq}
use Rattle.std.proofs.lemmas.List.{get_or_read}
use Rattle.std.proofs.lemmas.Option.{get_or_from_slice_get, slice_get-get_or, slice_get_within}
use Rattle.adp_model.specs.declared.cell.Cell.{Cell}
use Rattle.adp_model.specs.PosedProblem.{PosedProblem, axiom_cell}
use Rattle.adp_model.specs.Sizes.{IsWithinSizes}
use Rattle.adp_model.specs.Cells.{IsCounted}
use Rattle.adp_model.specs.Demand.{IsDemandedChild, IsBelow, IsDemanded, Axiom, Child}
use Rattle.cell_tables.specs.Marks.{CellMarks, IsMarked, IsMarkedInRow}
use Rattle.cell_demands.specs.Rows.{AreMarkedInRows}
use Rattle.suffix_cells.specs.Ranks.{AreRanked}
use Rattle.suffix_cells.specs.Sweeping.{AreSwept, IsBeforeNumber, IsBeforeStart}
use Rattle.suffix_cells.specs.Visits.{IsVisited, Visited, suffix_cell}

abbrev pub Counted : PosedProblem → Cell → Type 0
Counted p cell = IsCounted p.grammar (length p.word) cell

-- ---- what is marked first: nothing, or the axiom's cell

module _ (p : PosedProblem) (first : CellMarks) (same : first.problem ≡ p) (none : (cell : Cell) → IsMarked first cell → ⊥) where
  pub swept_nothing : (IsDemanded p (axiom_cell p) → ⊥) → AreSwept p first (IsBeforeStart 0)
  swept_nothing undemanded = record {
    problem = same;
    in_rows = λ cell marked. absurd (none cell marked);
    demanded = λ cell marked. absurd (none cell marked);
    begun = λ demanded. absurd (undemanded demanded);
    settled = λ cell child before marked is. absurd (none cell marked);
  }

  pub swept_root : Counted p (axiom_cell p) → (second : CellMarks) → AreMarkedInRows first second (λ cell. cell ≡ axiom_cell p)
      → AreSwept p second (IsBeforeStart 0)
  swept_root counted second more =
      let whole : length p.word - 0 ≡ length p.word = omega arith in
      let demanded : IsDemanded p (axiom_cell p) = Axiom (subst (IsWithinSizes p.grammar p.grammar.axiom) whole counted.size) in
      record {
        problem = more.marked.problem ∙ same;
        in_rows = λ cell now. ⊎_elim (λ was. absurd (none cell was)) (λ e. more.in_rows cell e) ((more.marked.exact cell).0 now);
        demanded = λ cell now. ⊎_elim (λ was. absurd (none cell was)) (λ e. subst (IsDemanded p) (sym e) demanded) ((more.marked.exact cell).0 now);
        begun = λ _. (more.marked.exact (axiom_cell p)).1 (inr refl);
        settled = λ cell child before now is. absurd (omega arith);
      }

-- ---- the numbers of a start

module _ (p : PosedProblem) (counted : (cell : Cell) → IsDemanded p cell → Counted p cell)
    (ends : (cell : Cell) → IsDemanded p cell → cell.to ≡ length p.word) (order : List ℕ) (ranked : AreRanked p order) (from : ℕ) where
  stands_at : (rule : ℕ) → rule < length p.grammar.rules → (number : ℕ) × (slice_get order number ≡ Some rule)
  stands_at rule known =
      let stands = ranked.all rule known in
      let read = get_or_read order stands.0 rule stands.1 (sym stands.2) 0 in
      (stands.0, slice_get-get_or order stands.0 0 stands.1 ∙ ap (λ it. Some it) (sym read))

  -- behind the last number nothing stands
  pub swept_first : (marks : CellMarks) (past : ℕ) → length order ≤ past → AreSwept p marks (IsBeforeStart from)
      → AreSwept p marks (IsBeforeNumber order from past)
  swept_first marks past whole swept = record {
    problem = swept.problem;
    in_rows = swept.in_rows;
    demanded = swept.demanded;
    begun = swept.begun;
    settled = λ cell child before. swept.settled cell child (early_only cell before);
  }
    where
      early_only : (cell : Cell) → IsBeforeNumber order from past cell → IsBeforeStart from cell
      early_only cell (inl early) = early
      early_only cell (inr (begins, (number, high, stands))) =
          let within = slice_get_within order number cell.rule stands in absurd (omega (arith, within, whole, high))

  module _ (marks : CellMarks) (below : ℕ) (swept : AreSwept p marks (IsBeforeNumber order from below)) where
    abbrev visits : Visited
    visits = record { marks = marks; order = order }

    -- a marked cell of this start is told by its number
    visited : (cell : Cell) → cell.from ≡ from → IsMarked marks cell → (number : ℕ) → slice_get order number ≡ Some cell.rule → IsVisited visits from number
    visited cell begins marked number stands =
        let word : cell.to ≡ length marks.problem.word =
        ends cell (swept.demanded cell marked) ∙ ap (λ (q : PosedProblem). length q.word) (sym swept.problem) in
        let same : cell ≡ suffix_cell marks.problem cell.rule from = λ k. record { rule = cell.rule; from = begins k; to = word k } in
        record { rule = cell.rule; stands = stands; marked = subst (IsMarkedInRow marks) same (swept.in_rows cell marked) }

    -- none is visited between two numbers
    pub swept_down : (number : ℕ) → ((other : ℕ) → number < other → other < below → IsVisited visits from other → ⊥)
        → AreSwept p marks (IsBeforeNumber order from (number + 1))
    swept_down number none = record {
      problem = swept.problem;
      in_rows = swept.in_rows;
      demanded = swept.demanded;
      begun = swept.begun;
      settled = λ cell child before marked. swept.settled cell child (before_it cell marked before) marked;
    }
      where
        before_it : (cell : Cell) → IsMarked marks cell → IsBeforeNumber order from (number + 1) cell → IsBeforeNumber order from below cell
        before_it cell marked (inl early) = inl early
        before_it cell marked (inr (begins, (at, high, stands))) = elim (cases_lt at below) [
          | inl low ↦ absurd (none at (omega arith) low (visited cell begins marked at stands))
          | inr past ↦ inr (begins, (at, past, stands))
        ]

    -- none is visited before the number
    pub swept_start : ((other : ℕ) → other < below → IsVisited visits from other → ⊥) → AreSwept p marks (IsBeforeStart (from + 1))
    swept_start none = record {
      problem = swept.problem;
      in_rows = swept.in_rows;
      demanded = swept.demanded;
      begun = swept.begun;
      settled = λ cell child before marked. swept.settled cell child (before_it cell marked before) marked;
    }
      where
        before_it : (cell : Cell) → IsMarked marks cell → IsBeforeStart (from + 1) cell → IsBeforeNumber order from below cell
        before_it cell marked before = elim (cases_lt cell.from from) [
          | inl early ↦ inl early
          | inr late ↦
              let begins : cell.from ≡ from = omega (arith, before, late) in
              let stands = stands_at cell.rule (counted cell (swept.demanded cell marked)).rule in
              elim (cases_lt stands.0 below) [
                | inl low ↦ absurd (none stands.0 low (visited cell begins marked stands.0 stands.1))
                | inr past ↦ inr (begins, (stands.0, past, stands.1))
              ]
        ]

  -- one number more: the demanded children of its cell are marked
  module _ (ranks : List ℕ) (below : (cell child : Cell) → IsDemandedChild p cell child → IsBelow ranks child cell)
      (number rule : ℕ) (stands : slice_get order number ≡ Some rule) (first second : CellMarks)
      (swept : AreSwept p first (IsBeforeNumber order from (number + 1))) (row : IsMarkedInRow first (suffix_cell p rule from))
      (more : AreMarkedInRows first second (IsDemandedChild p (suffix_cell p rule from))) where
    abbrev cell : Cell
    cell = suffix_cell p rule from

    child_demanded : (child : Cell) → IsDemandedChild p cell child → IsDemanded p child
    child_demanded child is = Child cell child (swept.demanded cell (inl row)) is

    -- what is marked now was not settled
    not_before : (child : Cell) → IsDemandedChild p cell child → IsBeforeNumber order from number child → ⊥
    not_before child is (inl early) = let falls = below cell child is in omega (arith, falls.begins, early)
    not_before child is (inr (begins, (at, high, there))) =
        let first = ranked.children_first number at cell child (slice_get_within order number rule stands) (slice_get_within order at child.rule there)
        (get_or_from_slice_get order number rule 0 stands) (get_or_from_slice_get order at child.rule 0 there) begins
        (ends child (child_demanded child is)) is in
        omega (arith, first, high)

    -- what was marked is settled, or it is this cell
    settled_was : (it child : Cell) → IsBeforeNumber order from number it → IsMarked first it → IsDemandedChild p it child → IsMarked second child
    settled_was it child (inl early) marked is = (more.marked.exact child).1 (inl (swept.settled it child (inl early) marked is))
    settled_was it child (inr (begins, (at, high, there))) marked is = elim (cases_eq at number) [
      | inl same ↦
          let told : Some it.rule ≡ Some rule = sym there ∙ ap (slice_get order) same ∙ stands in
          let same_rule : it.rule ≡ rule = cc in
          let word = ends it (swept.demanded it marked) in
          let here : it ≡ cell = λ k. record { rule = same_rule k; from = begins k; to = word k } in
          (more.marked.exact child).1 (inr (subst (λ c. IsDemandedChild p c child) here is))
      | inr apart ↦
          (more.marked.exact child).1 (inl (swept.settled it child (inr (begins, (at, omega (arith, high, apart), there))) marked is))
    ]

    pub swept_number : AreSwept p second (IsBeforeNumber order from number)
    swept_number = record {
      problem = more.marked.problem ∙ swept.problem;
      in_rows = λ it marked. ⊎_elim (λ was. more.marked.rows_stay it (swept.in_rows it was)) (λ is. more.in_rows it is) ((more.marked.exact it).0 marked);
      demanded = λ it marked. ⊎_elim (swept.demanded it) (child_demanded it) ((more.marked.exact it).0 marked);
      begun = λ demanded. (more.marked.exact (axiom_cell p)).1 (inl (swept.begun demanded));
      settled = λ it child before marked is. ⊎_elim
          (λ was. settled_was it child before was is)
          (λ new. absurd (not_before it new before)) ((more.marked.exact it).0 marked);
    }

-- ---- the whole sweep

module _ (p : PosedProblem) (counted : (cell : Cell) → IsDemanded p cell → Counted p cell) (marks : CellMarks) (past : ℕ)
    (whole : length p.word < past) (swept : AreSwept p marks (IsBeforeStart past)) where
  demanded_marked : (cell : Cell) → IsDemanded p cell → IsMarked marks cell
  demanded_marked cell (Axiom sizes) = swept.begun (Axiom sizes)
  demanded_marked it (Child cell child demanded is) =
      let cell_counted = counted cell demanded in
      swept.settled cell child (omega (arith, cell_counted.in_order, cell_counted.in_word, whole)) (demanded_marked cell demanded) is

  pub all_in_rows : (cell : Cell) → IsMarkedInRow marks cell ↔ IsDemanded p cell
  all_in_rows cell = (λ row. swept.demanded cell (inl row), λ demanded. swept.in_rows cell (demanded_marked cell demanded))
