-- The sweep that fills in the scores of visited cells, start by start.
use Rattle.std.proofs.Common.{◌≡◌, ℕ, ◌+◌, ◌<◌, ◌≤◌, ℤ, Some, List, length, slice_get, sym, ap, subst, inl, inr, ⊎_elim, ◌∙◌, arith}
use Rattle.std.specs.List.{Contains}
use Rattle.std.proofs.lemmas.Bool.{cases_eq, cases_lt}
use Rattle.std.proofs.lemmas.List.{get_or_read}
use Rattle.std.proofs.lemmas.Option.{get_or_from_slice_get, slice_get-get_or, slice_get_within}
use Rattle.adp_model.specs.declared.cell.Cell.{Cell}
use Rattle.adp_model.specs.PosedProblem.{PosedProblem}
use Rattle.adp_model.specs.Demand.{IsDemandedChild, IsBelow, IsDemanded, Child}
use Rattle.cell_answers.specs.Entries.{HasEntry}
use Rattle.cell_tables.specs.Marks.{IsMarkedInRow}
use Rattle.cell_tables.specs.Tables.{Table}
use Rattle.row_scores.specs.Sweeps.{IsBeforeRow}
use Rattle.suffix_cells.specs.Visits.{IsFirstFrom, IsVisited, Visited, suffix_cell}
use Rattle.seq_reference.specs.Filling.{AreFilled, AreKept, IsFromStart}
use Rattle.seq_reference.specs.VisitedCells.{AreAllVisited}
use Rattle.seq_reference.proofs.Sweeps.{Counted}

module _ (p : PosedProblem) (counted : (cell : Cell) → IsDemanded p cell → Counted p cell)
    (at_end : (cell : Cell) → IsDemanded p cell → cell.to ≡ length p.word) (visits : Visited)
    (all : AreAllVisited p visits) (from : ℕ) where
  -- each demanded cell of the start has a number, which is visited
  record HasNumber (cell : Cell) : Type 0 where
    number : ℕ
    stands : slice_get visits.order number ≡ Some cell.rule
    visited : IsVisited visits from number

  marked_at : (cell : Cell) → cell.from ≡ from → IsDemanded p cell
      → IsMarkedInRow visits.marks (suffix_cell visits.marks.problem cell.rule from)
  marked_at cell begins demanded =
      let ends : cell.to ≡ length visits.marks.problem.word =
      at_end cell demanded ∙ ap (λ (q : PosedProblem). length q.word) (sym all.problem) in
      let same : cell ≡ suffix_cell visits.marks.problem cell.rule from =
      λ i. record { rule = cell.rule; from = begins i; to = ends i } in
      subst (IsMarkedInRow visits.marks) same ((all.marked cell).1 demanded)

  number_of : (cell : Cell) → cell.from ≡ from → IsDemanded p cell → HasNumber cell
  number_of cell begins demanded =
      let contains : Contains visits.order cell.rule = all.ranked.all cell.rule (counted cell demanded).rule in
      let read = get_or_read visits.order contains.0 cell.rule contains.1 (sym contains.2) 0 in
      let stands : slice_get visits.order contains.0 ≡ Some cell.rule =
      slice_get-get_or visits.order contains.0 0 contains.1 ∙ ap (λ it. Some it) (sym read) in
      record {
        number = contains.0;
        stands = stands;
        visited = record { rule = cell.rule; stands = stands; marked = marked_at cell begins demanded };
      }

  abbrev Filled : ℕ → Table ℤ → Type 0
  Filled least table = AreFilled p table (IsBeforeRow visits.order from least)

  pub none_filled : (table : Table ℤ) → AreFilled p table (IsFromStart (from + 1)) → Filled 0 table
  none_filled table filled = record {
    problem = filled.problem;
    entries = λ cell demanded before. ⊎_elim (λ late. filled.entries cell demanded (omega arith)) (λ here. absurd (omega (arith, here.1.1))) before;
  }

  -- nothing is visited from a number on
  pub start_filled : (least : ℕ) (table : Table ℤ) → ((other : ℕ) → least ≤ other → IsVisited visits from other → ⊥) → Filled least table
      → AreFilled p table (IsFromStart from)
  start_filled least table none filled = record {
    problem = filled.problem;
    entries = λ cell demanded low. elim (cases_lt from cell.from) [
      | inl late ↦ filled.entries cell demanded (inl late)
      | inr here ↦
          let begins : cell.from ≡ from = omega (arith, low, here) in
          let has = number_of cell begins demanded in
          elim (cases_lt has.number least) [
            | inl before ↦ filled.entries cell demanded (inr (begins, (has.number, before, has.stands)))
            | inr behind ↦ absurd (none has.number behind has.visited)
          ]
    ];
  }

  -- the first one that is visited from a number on
  module _ (least number rule : ℕ) (first : IsFirstFrom visits from least number) (there : slice_get visits.order number ≡ Some rule) where
    abbrev cell : Cell
    cell = record { rule = rule; from = from; to = length p.word }

    pub is_demanded : IsDemanded p cell
    is_demanded =
        let same_rule : first.visited.rule ≡ rule = let both : Some first.visited.rule ≡ Some rule = sym first.visited.stands ∙ there in cc in
        let same : suffix_cell visits.marks.problem first.visited.rule from ≡ cell =
        λ i. record { rule = same_rule i; from = from; to = length (all.problem i).word } in
        (all.marked cell).0 (subst (IsMarkedInRow visits.marks) same first.visited.marked)

    pub children_filled : (ranks : List ℕ) → ((cell child : Cell) → IsDemandedChild p cell child → IsBelow ranks child cell)
        → (table : Table ℤ) → Filled least table → (child : Cell) → IsDemandedChild p cell child → HasEntry table child
    children_filled ranks below table filled child is =
        let demanded = Child cell child is_demanded is in
        let falls = below cell child is in
        elim (cases_lt from child.from) [
          | inl late ↦ filled.entries child demanded (inl late)
          | inr not_late ↦
              let begins : child.from ≡ from = omega (arith, falls.begins, not_late) in
              let has = number_of child begins demanded in
              let before : has.number < number = rank_falls has begins demanded is in
              elim (cases_lt has.number least) [
                | inl filled_before ↦ filled.entries child demanded (inr (begins, (has.number, filled_before, has.stands)))
                | inr behind ↦ absurd (first.none_before has.number behind before has.visited)
              ]
        ]
      where
        rank_falls : (has : HasNumber child) → child.from ≡ from → IsDemanded p child → IsDemandedChild p cell child → has.number < number
        rank_falls has begins demanded is =
            all.ranked.children_first number has.number cell child (slice_get_within visits.order number rule there)
            (slice_get_within visits.order has.number child.rule has.stands) (get_or_from_slice_get visits.order number rule 0 there)
            (get_or_from_slice_get visits.order has.number child.rule 0 has.stands) begins (at_end child demanded) is

    pub one_more : (old new : Table ℤ) → Filled least old → new.problem ≡ old.problem → HasEntry new cell → AreKept old new → Filled (number + 1) new
    one_more old new filled same kept others = record {
      problem = same ∙ filled.problem;
      entries = λ other demanded before. by other demanded before;
    }
      where
        by : (other : Cell) → IsDemanded p other → IsBeforeRow visits.order from (number + 1) other → HasEntry new other
        by other demanded (inl late) = others other (filled.entries other demanded (inl late))
        by other demanded (inr (begins, (at, low, stands))) = elim (cases_lt at least) [
          | inl before ↦ others other (filled.entries other demanded (inr (begins, (at, before, stands))))
          | inr behind ↦ elim (cases_eq at number) [
            | inl here ↦
                let both : Some other.rule ≡ Some rule = sym stands ∙ ap (slice_get visits.order) here ∙ there in
                let same_rule : other.rule ≡ rule = cc in
                let ends = at_end other demanded in
                subst (HasEntry new) (λ i. record { rule = sym same_rule i; from = sym begins i; to = sym ends i }) kept
            | inr apart ↦ absurd (first.none_before at behind (omega (arith, low, apart)) (record { rule = other.rule; stands = stands; marked = marked_at other begins demanded }))
          ]
        ]
