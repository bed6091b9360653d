-- The sweep over the starts, and at a start over the rules: what is filled after one step more.
use Rattle.std.proofs.Common.{◌≡◌, ◌⊎◌, ℕ, ◌+◌, ◌<◌, ◌≤◌, ℤ, Some, List, length, slice_get, sym, ap, subst, ◌∙◌, inl, inr, arith}
use Rattle.std.specs.List.{Contains}
use Rattle.std.proofs.lemmas.Bool.{cases_eq, cases_lt}
use Rattle.std.proofs.lemmas.Option.{slice_get-get_or}
use Rattle.adp_model.specs.declared.cell.Cell.{Cell}
use Rattle.adp_model.specs.PosedProblem.{PosedProblem}
use Rattle.adp_model.specs.Cells.{AreCountedEnds, IsCounted}
use Rattle.adp_model.specs.Demand.{IsDemanded, IsDemandedChild, Child}
use Rattle.cell_tables.specs.Spans.{IsWritten, Spans, value_at}
use Rattle.cell_tables.specs.Tables.{Table}
use Rattle.score_numbers.specs.Packing.{IsProper, Width}
use Rattle.row_scores.specs.Order.{AreInRowOrder}
use Rattle.row_scores.specs.RowNumbers.{HasCellNumber, HaveChildren, IsNumberOf}
use Rattle.row_scores.specs.Sweeps.{AreFilled, AreKept, AreNumbers, AreOfWidth, IsAny, IsBeforeEnd, IsBeforeRow, IsFromStart, IsOfRow}

module _ {N : Type 0} (width : Width) (value : N → ℤ) where
  -- ---- one number is written

  written_here : (old new : Spans N) (rule near far : ℕ) (item : N) → IsWritten old new rule near far item
      → (rule' near' far' : ℕ) → ((value_at new rule' near' far' ≡ Some item) × (rule' ≡ rule) × (near' ≡ near) × (far' ≡ far))
      ⊎ ((value_at new rule' near' far' ≡ value_at old rule' near' far') × ((rule' ≡ rule) × (near' ≡ near) × (far' ≡ far) → ⊥))
  written_here old new rule near far item written rule' near' far' = go (cases_eq rule' rule) (cases_eq near' near) (cases_eq far' far)
    where
      go : ((rule' ≡ rule) ⊎ (rule' ≡ rule → ⊥)) → ((near' ≡ near) ⊎ (near' ≡ near → ⊥)) → ((far' ≡ far) ⊎ (far' ≡ far → ⊥))
          → ((value_at new rule' near' far' ≡ Some item) × (rule' ≡ rule) × (near' ≡ near) × (far' ≡ far))
          ⊎ ((value_at new rule' near' far' ≡ value_at old rule' near' far') × ((rule' ≡ rule) × (near' ≡ near) × (far' ≡ far) → ⊥))
      go (inl e) (inl e') (inl e'') = inl ((λ i. value_at new (e i) (e' i) (e'' i)) ∙ written.there, e, e', e'')
      go (inr apart) near far = inr (written.others rule' near' far' (λ all. apart all.0), λ all. apart all.0)
      go (inl e) (inr apart) far = inr (written.others rule' near' far' (λ all. apart all.1), λ all. apart all.1)
      go (inl e) (inl e') (inr apart) = inr (written.others rule' near' far' (λ all. apart all.2), λ all. apart all.2)

  width_written : (old new : Spans N) (rule near far : ℕ) (item : N) → IsWritten old new rule near far item → IsProper width (value item)
      → AreOfWidth width value old → AreOfWidth width value new
  width_written old new rule near far item written proper each rule' near' far' item' there =
      elim (written_here old new rule near far item written rule' near' far') [
        | inl (here, _, _, _) ↦
            let same : item ≡ item' = (let e : Some item ≡ Some item' = sym here ∙ there in cc) in
            subst (λ n. IsProper width (value n)) same proper
        | inr (was, apart) ↦ each rule' near' far' item' (sym was ∙ there)
      ]

  module _ (p : PosedProblem) (old new : Table N) (cell : Cell) (item : N) (problem : new.problem ≡ old.problem)
      (row : IsWritten old.rows new.rows cell.rule cell.from cell.to item) (column : IsWritten old.columns new.columns cell.rule cell.to cell.from item)
      (numbers : AreNumbers width value p old) (is : IsNumberOf width p cell (value item)) where
    proper : IsProper width (value item)
    proper = elim is [ inl (mark, none) ↦ inl mark | inr (low, best) ↦ inr low ]

    pub numbers_written : AreNumbers width value p new
    numbers_written = record {
      problem = problem ∙ numbers.problem;
      rows = width_written old.rows new.rows cell.rule cell.from cell.to item row proper numbers.rows;
      columns = width_written old.columns new.columns cell.rule cell.to cell.from item column proper numbers.columns;
    }

    pub number_written : HasCellNumber width value new cell
    number_written = record {
      item = item;
      in_row = row.there;
      in_column = column.there;
      is = subst (λ q. IsNumberOf width q cell (value item)) (sym (problem ∙ numbers.problem)) is;
    }

    pub numbers_kept : AreKept width value old new
    numbers_kept other has = elim (written_here old.rows new.rows cell.rule cell.from cell.to item row other.rule other.from other.to) [
      | inl (here, e, e', e'') ↦
          let same : cell ≡ other = λ k. record { rule = sym e k; from = sym e' k; to = sym e'' k } in
          subst (HasCellNumber width value new) same number_written
      | inr (was, apart) ↦ record {
        item = has.item;
        in_row = was ∙ has.in_row;
        in_column = column.others other.rule other.to other.from (λ (e, e', e''). apart (e, e'', e')) ∙ has.in_column;
        is = subst (λ q. IsNumberOf width q other (value has.item)) (sym problem) has.is;
      }
    ]

  -- ---- the ends of a row

  module _ (p : PosedProblem) (rule from : ℕ) where
    cases : (to : ℕ) (cell : Cell) → IsBeforeEnd rule from (to + 1) cell → IsBeforeEnd rule from to cell ⊎ (cell ≡ record { rule = rule; from = from; to = to })
    cases to cell ((e, e'), before) = elim (cases_lt cell.to to) [
      | inl earlier ↦ inl ((e, e'), earlier)
      | inr late ↦ let e'' : cell.to ≡ to = omega (arith, before, late) in inr (λ k. record { rule = e k; from = e' k; to = e'' k })
    ]

    -- the ends so far have their numbers, and cells that had theirs have them still
    pub record AreEndsFilled (first table : Table N) (to : ℕ) : Type 0 where
      pub filled : AreFilled width value p table (IsBeforeEnd rule from to)
      pub kept : AreKept width value first table

    pub end_filled : (first old new : Table N) (to : ℕ) (item : N) → AreEndsFilled first old to → new.problem ≡ old.problem
        → IsWritten old.rows new.rows rule from to item → IsWritten old.columns new.columns rule to from item
        → IsNumberOf width p (record { rule = rule; from = from; to = to }) (value item) → AreEndsFilled first new (to + 1)
    end_filled first old new to item before problem row column is =
        let cell : Cell = record { rule = rule; from = from; to = to } in
        let kept : AreKept width value old new = numbers_kept p old new cell item problem row column before.filled.numbers is in
        record {
          filled = record {
            numbers = numbers_written p old new cell item problem row column before.filled.numbers is;
            filled = λ other demanded here. elim (cases to other here) [
              | inl was ↦ kept other (before.filled.filled other demanded was)
              | inr same ↦ subst (HasCellNumber width value new) (sym same) (number_written p old new cell item problem row column before.filled.numbers is)
            ];
          };
          kept = λ other has. kept other (before.kept other has);
        }

    pub end_passed : (first table : Table N) (to : ℕ) → AreEndsFilled first table to → (IsDemanded p (record { rule = rule; from = from; to = to }) → ⊥)
        → AreEndsFilled first table (to + 1)
    end_passed first table to before none = record {
      filled = record {
        numbers = before.filled.numbers;
        filled = λ other demanded here. elim (cases to other here) [
          | inl was ↦ before.filled.filled other demanded was
          | inr same ↦ absurd (none (subst (IsDemanded p) same demanded))
        ];
      };
      kept = before.kept;
    }

  module _ (p : PosedProblem) (counted : (cell : Cell) → IsDemanded p cell → IsCounted p.grammar (length p.word) cell) where
    -- no end lies before the first one, and none behind the last one
    pub no_end : (rule from first past : ℕ) → AreCountedEnds p.grammar (length p.word) rule from first past → (table : Table N) → AreNumbers width value p table
        → AreFilled width value p table (IsBeforeEnd rule from first)
    no_end rule from first past ends table numbers = record {
      numbers = numbers;
      filled = λ cell demanded ((e, e'), before).
          let here : IsCounted p.grammar (length p.word) (record { rule = rule; from = from; to = cell.to }) =
          subst (IsCounted p.grammar (length p.word)) (λ k. record { rule = e k; from = e' k; to = cell.to }) (counted cell demanded) in
          absurd (omega (arith, ((ends cell.to).0 here).0, before));
    }

    pub all_ends : (rule from first past to : ℕ) → AreCountedEnds p.grammar (length p.word) rule from first past → past ≤ to → (table : Table N)
        → AreFilled width value p table (IsBeforeEnd rule from to) → AreFilled width value p table (IsOfRow rule from)
    all_ends rule from first past to ends behind table filled = record {
      numbers = filled.numbers;
      filled = λ cell demanded (e, e').
          let here : IsCounted p.grammar (length p.word) (record { rule = rule; from = from; to = cell.to }) =
          subst (IsCounted p.grammar (length p.word)) (λ k. record { rule = e k; from = e' k; to = cell.to }) (counted cell demanded) in
          filled.filled cell demanded ((e, e'), omega (arith, ((ends cell.to).0 here).1, behind));
    }

    -- ---- the rows of a start

    module _ (rules : List ℕ) (order : AreInRowOrder p rules) (from : ℕ) where
      pub first_row : (table : Table N) → AreFilled width value p table (IsFromStart (from + 1)) → AreFilled width value p table (IsBeforeRow rules from 0)
      first_row table filled = record {
        numbers = filled.numbers;
        filled = λ cell demanded before. elim before [
          | inl later ↦ filled.filled cell demanded (omega (arith, later))
          | inr (e, (other, none, there)) ↦ absurd (omega (arith, none))
        ];
      }

      pub children_before : (below : (cell child : Cell) → IsDemandedChild p cell child → cell.from ≤ child.from) (number rule : ℕ)
          → slice_get rules number ≡ Some rule
          → (table : Table N) → AreFilled width value p table (IsBeforeRow rules from number) → HaveChildren width value p table rule from
      children_before below number rule there table filled to child demanded is =
          let cell : Cell = record { rule = rule; from = from; to = to } in
          let low = below cell child is in
          filled.filled child (Child cell child demanded is) (elim (cases_lt from child.from) [
            | inl later ↦ inl later
            | inr late ↦ let here : child.from ≡ from = omega (arith, low, late) in inr (here, order.children_first number cell child there here is)
          ])

      pub row_more : (number rule : ℕ) → slice_get rules number ≡ Some rule → (old new : Table N) → AreFilled width value p old (IsBeforeRow rules from number)
          → AreKept width value old new → AreFilled width value p new (IsOfRow rule from) → AreFilled width value p new (IsBeforeRow rules from (number + 1))
      row_more number rule there old new before kept filled = record {
        numbers = filled.numbers;
        filled = λ cell demanded is. elim is [
          | inl later ↦ kept cell (before.filled cell demanded (inl later))
          | inr (e, (other, l, at)) ↦ elim (cases_lt other number) [
            | inl earlier ↦ kept cell (before.filled cell demanded (inr (e, (other, earlier, at))))
            | inr late ↦
                let here : other ≡ number = omega (arith, l, late) in
                let at' : slice_get rules number ≡ Some cell.rule = ap (slice_get rules) (sym here) ∙ at in
                let same : cell.rule ≡ rule = cc in
                filled.filled cell demanded (same, e)
          ]
        ];
      }

      pub all_rows : (number : ℕ) → length rules ≤ number → (table : Table N) → AreFilled width value p table (IsBeforeRow rules from number)
          → AreFilled width value p table (IsFromStart from)
      all_rows number whole table filled = record {
        numbers = filled.numbers;
        filled = λ cell demanded from_here.
            filled.filled cell demanded (elim (cases_lt from cell.from) [
              | inl later ↦ inl later
              | inr late ↦
                  let stands : Contains rules cell.rule = order.all cell.rule (counted cell demanded).rule in
                  let there = slice_get-get_or rules stands.0 cell.rule stands.1 ∙ ap Some stands.2 in
                  inr (omega (arith, from_here, late), (stands.0, omega (arith, stands.1, whole), there))
            ]);
      }

    -- ---- the starts

    pub no_start : (past : ℕ) → length p.word < past → (table : Table N) → AreNumbers width value p table → AreFilled width value p table (IsFromStart past)
    no_start past behind table numbers = record {
      numbers = numbers;
      filled = λ cell demanded late. let is = counted cell demanded in absurd (omega (arith, is.in_order, is.in_word, behind, late));
    }

  pub start_passed : (p : PosedProblem) (from next : ℕ) → next ≡ from + 1 → ((cell : Cell) → cell.from ≡ from → IsDemanded p cell → ⊥) → (table : Table N)
      → AreFilled width value p table (IsFromStart next) → AreFilled width value p table (IsFromStart from)
  start_passed p from next is none table filled = record {
    numbers = filled.numbers;
    filled = λ cell demanded low. elim (cases_lt from cell.from) [
      | inl later ↦ filled.filled cell demanded (omega (arith, later, is))
      | inr late ↦ absurd (none cell (omega (arith, low, late)) demanded)
    ];
  }

  pub all_starts : (p : PosedProblem) (from : ℕ) → from ≤ 0 → (table : Table N) → AreFilled width value p table (IsFromStart from)
      → AreFilled width value p table IsAny
  all_starts p from first table filled = record { numbers = filled.numbers; filled = λ cell demanded any. filled.filled cell demanded (omega (arith, first)) }
