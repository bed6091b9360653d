-- The sweep that marks the demanded cells, cell by cell, end by end and start by start.
use Rattle.std.proofs.Common.{◌≡◌, ◌↔◌, ◌⊎◌, ℕ, ◌+◌, ◌-◌, ◌<◌, List, length, refl, sym, ap, subst, inl, inr, ⊎_elim, ◌∙◌, arith}
use Rattle.std.specs.Prelude.{slice_index}
use Rattle.std.proofs.lemmas.Bool.{cases_lt}
use Rattle.std.proofs.lemmas.List.{get_or_read}
use Rattle.adp_model.specs.declared.cell.Cell.{Cell}
use Rattle.adp_model.specs.PosedProblem.{PosedProblem, axiom_cell}
use Rattle.adp_model.specs.Sizes.{IsWithinSizes}
use Rattle.adp_model.specs.Cells.{IsCounted}
use Rattle.adp_model.specs.Demand.{IsDemandedChild, IsBelow, IsDemanded, Axiom, Child}
use Rattle.cell_tables.specs.Marks.{CellMarks, IsMarked, IsMarkedInRow, IsSpanMarked, AreInRows, AreMarkedToo, AreMarkedFrom}
use Rattle.suffix_cells.specs.Ranks.{AreRanked}
use Rattle.seq_reference.specs.Sweeping.{IsBeforeStart, IsBeforeEnd, IsBeforeRule, AreGathered, IsSettled, AreSwept}

abbrev pub Counted : PosedProblem → Cell → Type 0
Counted p cell = IsCounted p.grammar (length p.word) cell

-- ---- what is settled stays settled

pub settled_later : (first second : CellMarks) (Holds : Cell → Type 0) → AreMarkedToo first second Holds → (cell : Cell) → IsSettled first cell → IsSettled second cell
settled_later first second Holds more cell settled = record {
  marked = more.rows_stay cell settled.marked;
  children = λ child is. (more.exact child).1 (inl (settled.children child (subst (λ p. IsDemandedChild p cell child) more.problem is)));
}

module _ (p : PosedProblem) (counted : (cell : Cell) → IsDemanded p cell → Counted p cell) where
  -- fewer counted cells are looked at
  pub swept_fewer : (marks : CellMarks) (Holds Other : Cell → Type 0) → ((cell : Cell) → Counted p cell → Other cell → Holds cell) → AreSwept p marks Holds → AreSwept p marks Other
  swept_fewer marks Holds Other fewer swept = record {
    problem = swept.problem;
    demanded = swept.demanded;
    begun = swept.begun;
    settled = λ cell other marked. swept.settled cell (fewer cell (counted cell (swept.demanded cell marked)) other) marked;
  }

  -- one more cell, which is not marked
  pub swept_past : (cell : Cell) (marks : CellMarks) (Holds Other : Cell → Type 0) → AreSwept p marks Holds → (IsMarked marks cell → ⊥) → ((other : Cell) → Other other → Holds other ⊎ (other ≡ cell)) → AreSwept p marks Other
  swept_past cell marks Holds Other swept none cases = record {
    problem = swept.problem;
    demanded = swept.demanded;
    begun = swept.begun;
    settled = λ other is marked. ⊎_elim (λ before. swept.settled other before marked) (λ e. absurd (none (subst (IsMarked marks) e marked))) (cases other is);
  }

  -- one more cell, which is marked in its row: its demanded children are marked
  module _ (cell : Cell) (first second : CellMarks) (Holds Other : Cell → Type 0) (swept : AreSwept p first Holds) (in_its_row : IsMarkedInRow first cell) (children : AreMarkedToo first second (IsDemandedChild p cell)) where
    cell_settled : IsSettled second cell
    cell_settled = record {
      marked = children.rows_stay cell in_its_row;
      children = λ child is. (children.exact child).1 (inr (subst (λ q. IsDemandedChild q cell child) (children.problem ∙ swept.problem) is));
    }

    pub swept_settled : ((other : Cell) → Other other → Holds other ⊎ (other ≡ cell)) → ((child : Cell) → Holds child → IsDemandedChild p cell child → ⊥) → AreSwept p second Other
    swept_settled cases none = record {
      problem = children.problem ∙ swept.problem;
      demanded = λ other marked. ⊎_elim (swept.demanded other) (λ child. Child cell other (swept.demanded cell (inl in_its_row)) child) ((children.exact other).0 marked);
      begun = λ demanded. (children.exact (axiom_cell p)).1 (inl (swept.begun demanded));
      settled = λ other is marked. ⊎_elim
          (λ before. ⊎_elim
          (λ was. settled_later first second (IsDemandedChild p cell) children other (swept.settled other before was))
          (λ child. absurd (none other before child)) ((children.exact other).0 marked))
          (λ e. subst (IsSettled second) (sym e) cell_settled) (cases other is);
    }

-- what is gathered at a start stays gathered while more is marked from there
pub still_gathered : (from : ℕ) (old new : CellMarks) (Holds : Cell → Type 0) → AreGathered old from → AreMarkedFrom from old new Holds → AreGathered new from
still_gathered from old new Holds gathered more cell begins marked =
    ⊎_elim (λ was. more.marked.rows_stay cell (gathered cell begins was)) (λ holds. more.begun cell begins holds) ((more.marked.exact cell).0 marked)

-- what is gathered changes nothing else
pub swept_gathered : (p : PosedProblem) (old new : CellMarks) (Holds : Cell → Type 0) → AreSwept p old Holds → AreMarkedToo old new (λ cell. ⊥) → AreSwept p new Holds
swept_gathered p old new Holds swept same =
    let was : (cell : Cell) → IsMarked new cell → IsMarked old cell = λ cell marked. ⊎_elim (λ before. before) (λ none. absurd none) ((same.exact cell).0 marked) in
    record {
      problem = same.problem ∙ swept.problem;
      demanded = λ cell marked. swept.demanded cell (was cell marked);
      begun = λ demanded. (same.exact (axiom_cell p)).1 (inl (swept.begun demanded));
      settled = λ cell holds marked. settled_later old new (λ it. ⊥) same cell (swept.settled cell holds (was cell marked));
    }

pub gathered_now : (from : ℕ) (old new : CellMarks) → AreMarkedToo old new (λ cell. ⊥) → AreInRows new (λ cell. (cell.from ≡ from) × IsMarked old cell) → AreGathered new from
gathered_now from old new same rows cell begins marked = rows cell (begins, ⊎_elim (λ before. before) (λ none. absurd none) ((same.exact cell).0 marked))

-- ---- the cells of a span

module _ (p : PosedProblem) (rules : List ℕ) (from to : ℕ) where
  abbrev pub visited : ℕ → Cell
  visited rule = record { rule = rule; from = from; to = to }

  pub rule_cases : (number rule : ℕ) → rule ≡ slice_index rules number → (other : Cell) → IsBeforeRule rules from to number other → IsBeforeRule rules from to (number + 1) other ⊎ (other ≡ visited rule)
  rule_cases number rule is other (inl ends_later) = inl (inl ends_later)
  rule_cases number rule is other (inr (begins, ends, (at, low, high, there))) =
      ⊎_elim
      (λ behind. inl (inr (begins, ends, (at, omega arith, high, there))))
      (λ before.
      let e : at ≡ number = omega arith in
      let same : other.rule ≡ rule = sym there ∙ ap (slice_index rules) e ∙ sym is in
      inr (λ k. record { rule = same k; from = begins k; to = ends k }))
      (cases_lt number at)

  -- a demanded child of the cell at hand was not looked at before
  pub not_before : (number rule : ℕ) → rule ≡ slice_index rules number → number < length rules → AreRanked p rules → (ranks : List ℕ) → ((cell child : Cell) → IsDemandedChild p cell child → IsBelow ranks child cell)
      → (child : Cell) → IsBeforeRule rules from to (number + 1) child → IsDemandedChild p (visited rule) child → ⊥
  not_before number rule is l ranked ranks below child (inl (inl early)) is_child = let falls = below (visited rule) child is_child in absurd (omega (arith, falls.begins))
  not_before number rule is l ranked ranks below child (inl (inr (begins, later))) is_child = let falls = below (visited rule) child is_child in absurd (omega (arith, falls.ends))
  not_before number rule is l ranked ranks below child (inr (begins, ends, (at, low, high, there))) is_child =
      absurd (omega (arith, ranked.children_first number at (visited rule) child l high (sym is) there begins ends is_child))

  pub none_behind : (cell : Cell) → IsBeforeRule rules from to (length rules) cell → IsBeforeEnd from (to + 1) cell
  none_behind cell (inl ends_later) = ends_later
  none_behind cell (inr (begins, ends, (at, low, high, there))) = absurd (omega arith)

  pub all_behind : AreRanked p rules → (cell : Cell) → Counted p cell → IsBeforeEnd from to cell → IsBeforeRule rules from to 0 cell
  all_behind ranked cell counted (inl early) = inl (inl early)
  all_behind ranked cell counted (inr (begins, later)) =
      ⊎_elim
      (λ behind. inl (inr (begins, omega arith)))
      (λ here.
      let stands = ranked.all cell.rule counted.rule in
      inr (begins, omega arith, (stands.0, omega arith, stands.1, sym (get_or_read rules stands.0 cell.rule stands.1 (sym stands.2) 0))))
      (cases_lt to cell.to)

-- ---- the ends of a start

module _ (p : PosedProblem) (counted : (cell : Cell) → IsDemanded p cell → Counted p cell) (marks : CellMarks) (rules : List ℕ) (from behind : ℕ) (ranked : AreRanked p rules) (gathered : AreGathered marks from) (swept : AreSwept p marks (IsBeforeEnd from behind)) where
  -- a marked cell that begins here is told by its span
  span_told : (cell : Cell) → cell.from ≡ from → IsMarked marks cell → IsSpanMarked marks rules from cell.to
  span_told cell begins marked =
      let M : ℕ → Type 0 = λ start. IsMarkedInRow marks (record { rule = cell.rule; from = start; to = cell.to }) in
      (cell.rule, ranked.all cell.rule (counted cell (swept.demanded cell marked)).rule, subst M begins (gathered cell begins marked))

  -- no cell that begins here is marked between two ends
  pub swept_down_to : (to : ℕ) → ((other : ℕ) → to < other → other < behind → IsSpanMarked marks rules from other → ⊥) → AreSwept p marks (IsBeforeEnd from (to + 1))
  swept_down_to to none = record {
    problem = swept.problem;
    demanded = swept.demanded;
    begun = swept.begun;
    settled = λ cell before marked. ⊎_elim
        (λ early. swept.settled cell (inl early) marked)
        (λ (begins, later). ⊎_elim
        (λ between. absurd (none cell.to (omega arith) between (span_told cell begins marked)))
        (λ past. swept.settled cell (inr (begins, past)) marked)
        (cases_lt cell.to behind)) before;
  }

  -- no cell that begins here is marked before the last end
  pub swept_start : ((to : ℕ) → to < behind → IsSpanMarked marks rules from to → ⊥) → AreSwept p marks (IsBeforeStart (from + 1))
  swept_start none = record {
    problem = swept.problem;
    demanded = swept.demanded;
    begun = swept.begun;
    settled = λ cell before marked. ⊎_elim
        (λ early. swept.settled cell (inl early) marked)
        (λ here.
        let begins : cell.from ≡ from = omega arith in
        ⊎_elim
        (λ low. absurd (none cell.to low (span_told cell begins marked)))
        (λ past. swept.settled cell (inr (begins, past)) marked)
        (cases_lt cell.to behind))
        (cases_lt cell.from from);
  }

-- behind the word nothing ends
pub swept_from_past : (p : PosedProblem) (counted : (cell : Cell) → IsDemanded p cell → Counted p cell) (marks : CellMarks) (from past : ℕ) → length p.word < past → AreSwept p marks (IsBeforeStart from) → AreSwept p marks (IsBeforeEnd from past)
swept_from_past p counted marks from past whole swept =
    swept_fewer p counted marks (IsBeforeStart from) (IsBeforeEnd from past)
    (λ cell is before. ⊎_elim (λ early. early) (λ (begins, later). absurd (omega (arith, later, is.in_word, whole))) before) swept

-- ---- the whole sweep

pub root_demanded : (p : PosedProblem) → Counted p (axiom_cell p) → IsDemanded p (axiom_cell p)
root_demanded p counted =
    let same : length p.word - 0 ≡ length p.word = omega arith in
    Axiom (subst (IsWithinSizes p.grammar p.grammar.axiom) same counted.size)

-- what is marked first: nothing, or the axiom's cell
pub swept_nothing : (p : PosedProblem) (marks : CellMarks) → marks.problem ≡ p → ((cell : Cell) → IsMarked marks cell → ⊥) → (IsDemanded p (axiom_cell p) → ⊥) → AreSwept p marks (IsBeforeStart 0)
swept_nothing p marks same none undemanded = record {
  problem = same;
  demanded = λ cell marked. absurd (none cell marked);
  begun = λ demanded. absurd (undemanded demanded);
  settled = λ cell before marked. absurd (none cell marked);
}

pub swept_root : (p : PosedProblem) (first second : CellMarks) → first.problem ≡ p → ((cell : Cell) → IsMarked first cell → ⊥) → Counted p (axiom_cell p) → AreMarkedToo first second (λ other. other ≡ axiom_cell p) → AreSwept p second (IsBeforeStart 0)
swept_root p first second same none counted marked = record {
  problem = marked.problem ∙ same;
  demanded = λ cell now. ⊎_elim (λ was. absurd (none cell was)) (λ e. subst (IsDemanded p) (sym e) (root_demanded p counted)) ((marked.exact cell).0 now);
  begun = λ _. (marked.exact (axiom_cell p)).1 (inr refl);
  settled = λ cell before now. absurd (omega arith);
}

module _ (p : PosedProblem) (counted : (cell : Cell) → IsDemanded p cell → Counted p cell) (marks : CellMarks) (past : ℕ) (whole : length p.word < past) (swept : AreSwept p marks (IsBeforeStart past)) where
  demanded_marked : (cell : Cell) → IsDemanded p cell → IsMarked marks cell
  demanded_marked cell (Axiom sizes) = swept.begun (Axiom sizes)
  demanded_marked it (Child cell child demanded is) =
      let cell_counted = counted cell demanded in
      (swept.settled cell (omega (arith, cell_counted.in_order, cell_counted.in_word)) (demanded_marked cell demanded)).children child (subst (λ q. IsDemandedChild q cell child) (sym swept.problem) is)

  pub all_in_rows : (cell : Cell) → IsMarkedInRow marks cell ↔ IsDemanded p cell
  all_in_rows cell = (
    λ row. swept.demanded cell (inl row),
    λ demanded.
        let cell_counted = counted cell demanded in
        (swept.settled cell (omega (arith, cell_counted.in_order, cell_counted.in_word)) (demanded_marked cell demanded)).marked,
  )
