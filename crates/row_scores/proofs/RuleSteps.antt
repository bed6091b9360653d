-- Steps by a rule: the numbers of its row, side by side.
use Rattle.std.proofs.Common.{◌≡◌, ℕ, ◌+◌, ◌-◌, ◌<◌, ◌≤◌, ℤ, ◌+ℤ◌, ◌*ℤ◌, nat_abs, Option, None, Some, IsSome, List, length, map, slice_get, sym, ap, subst, ◌∙◌, refl, arith}
use Rattle.std.specs.Option.{option_map}
use Rattle.std.proofs.lemmas.List.{length-map}
use Rattle.std.proofs.lemmas.Option.{slice_get-map}
use Rattle.adp_model.specs.declared.grammar.Arg.TheVariants.{Rule}
use Rattle.adp_model.specs.PosedProblem.{PosedProblem}
use Rattle.adp_model.specs.Cells.{AreCountedEnds, IsCounted}
use Rattle.adp_model.specs.Parts.{algebra_of}
use Rattle.cell_tables.specs.Spans.{value_at}
use Rattle.cell_tables.specs.Tables.{AreCells, Table}
use Rattle.score_numbers.specs.Packing.{AreProper, IsProper, Width}
use Rattle.score_numbers.specs.Turned.{turned}
use Rattle.score_rows.specs.Raised.{AreHighest, IsBeside}
use Rattle.score_rows.proofs.Highest.{rows_same, rows_still}
use Rattle.score_rows.proofs.Positions.{some_position}
use Rattle.row_scores.specs.RowNumbers.{IsInRow}
use Rattle.row_scores.specs.Steps.{AreLowSteps, HasStep}

mapped : {A B : Type 0} (f : A → B) (o : Option A) (b : B) → option_map f o ≡ Some b → (a : A) × (o ≡ Some a) × (b ≡ f a)
mapped f None b e = absurd cc
mapped f (Some a) b e = (a, refl, cc)

module _ {N : Type 0} (value : N → ℤ) (table : Table N) (q : PosedProblem) (rule position first past : ℕ)
    (cells : AreCells table) (same : table.problem ≡ q) (ends : AreCountedEnds q.grammar (length q.word) rule position first past) where
  pub row_counted : (k : ℕ) (number : ℤ) → IsInRow value table rule position k number
      → IsCounted q.grammar (length q.word) (record { rule = rule; from = position; to = k })
  row_counted k number (item, there, is) =
      let some : IsSome (value_at table.rows rule position k) = subst IsSome (sym there) refl in
      subst (λ (p : PosedProblem). IsCounted p.grammar (length p.word) (record { rule = rule; from = position; to = k })) same
      ((cells.rows_are (record { rule = rule; from = position; to = k })).0 some)

  pub counted_at : (k : ℕ) → first ≤ k → k < past → IsCounted q.grammar (length q.word) (record { rule = rule; from = position; to = k })
  counted_at k after before = (ends k).1 (after, before)

  pub some_at : (k : ℕ) → first ≤ k → k < past → IsSome (value_at table.rows rule position k)
  some_at k after before =
      (cells.rows_are (record { rule = rule; from = position; to = k })).1
      (subst (λ (p : PosedProblem). IsCounted p.grammar (length p.word) (record { rule = rule; from = position; to = k })) (sym same)
      (counted_at k after before))

  row_within : (k : ℕ) (number : ℤ) → IsInRow value table rule position k number → (first ≤ k) × (k < past)
  row_within k number there = (ends k).0 (row_counted k number there)

  -- where no end is counted there is no step
  pub no_steps : (width : Width) (factor before : ℤ) → past ≤ first → (row : List ℤ)
      → AreHighest width (HasStep q width (IsInRow value table) (Rule rule) factor position before)
      (AreLowSteps q width (IsInRow value table) (Rule rule) factor position before) row row
  no_steps width factor before none row =
      rows_still width (HasStep q width (IsInRow value table) (Rule rule) factor position before)
      (AreLowSteps q width (IsInRow value table) (Rule rule) factor position before) row
      (λ k sum (v, (number, there, scores, v_is), is). let it = row_within k number there in omega (arith, none, it.0, it.1))

  module _ (items : List N) (as_many : length items ≡ past - first)
      (are : (k : ℕ) → k < past - first → slice_get items k ≡ value_at table.rows rule position (first + k)) where
    beside_in_row : (k : ℕ) (other : ℤ) → IsBeside first (map value items) k other → IsInRow value table rule position k other
    beside_in_row k other (place, here, there) =
        let within : place < past - first = omega (arith, as_many, length-map items value, some_position (map value items) place other there) in
        let it = mapped value (slice_get items place) other (sym (slice_get-map value items place) ∙ there) in
        (it.0, ap (value_at table.rows rule position) here ∙ sym (are place within) ∙ it.1, it.2)

    in_row_beside : (k : ℕ) (other : ℤ) → IsInRow value table rule position k other → IsBeside first (map value items) k other
    in_row_beside k other (item, there, is) =
        let in_it = row_within k other (item, there, is) in
        let here : first + (k - first) ≡ k = omega (arith, in_it.0) in
        let at : slice_get items (k - first) ≡ Some item =
        are (k - first) (omega (arith, in_it.0, in_it.1)) ∙ ap (value_at table.rows rule position) here ∙ there in
        (k - first, sym here, slice_get-map value items (k - first) ∙ ap (option_map value) at ∙ ap Some (sym is))

    pub row_proper : (width : Width) → ((k : ℕ) (number : ℤ) → IsInRow value table rule position k number → IsProper width number)
        → AreProper width (map value items)
    row_proper width proper place number there = proper (first + place) number (beside_in_row (first + place) number (place, refl, there))

    -- the sums of the numbers side by side are those of steps
    pub row_steps : (width : Width) (factor before : ℤ) (Sum : ℤ → ℤ)
        → ((other : ℤ) → ((factor *ℤ turned (algebra_of q).goal other) +ℤ before) ≡ Sum other) → (old new : List ℤ)
        → AreHighest width (λ k sum. (other : ℤ) × IsBeside first (map value items) k other × (other ≡ width.mark → ⊥) × (sum ≡ Sum other))
        (λ k. (other : ℤ) → IsBeside first (map value items) k other
        → (nat_abs before ≤ width.limit) × ((other ≡ width.mark → ⊥) → nat_abs (Sum other) ≤ width.limit))
        old new
        → AreHighest width (HasStep q width (IsInRow value table) (Rule rule) factor position before)
        (AreLowSteps q width (IsInRow value table) (Rule rule) factor position before) old new
    row_steps width factor before Sum sums old new it =
        rows_same width (λ k sum. (other : ℤ) × IsBeside first (map value items) k other × (other ≡ width.mark → ⊥) × (sum ≡ Sum other))
        (HasStep q width (IsInRow value table) (Rule rule) factor position before)
        (λ k. (other : ℤ) → IsBeside first (map value items) k other
        → (nat_abs before ≤ width.limit) × ((other ≡ width.mark → ⊥) → nat_abs (Sum other) ≤ width.limit))
        (AreLowSteps q width (IsInRow value table) (Rule rule) factor position before) old new
        (λ k sum low (other, beside, scores, is).
        (turned (algebra_of q).goal other, (other, beside_in_row k other beside, scores, refl), is ∙ sym (sums other)))
        (λ k sum low (v, (other, there, scores, v_is), is).
        (other, in_row_beside k other there, scores, is ∙ ap (λ n. (factor *ℤ n) +ℤ before) v_is ∙ sums other))
        (λ k low other beside.
        let there = beside_in_row k other beside in
        let all = low (other, there) in (
          all.0,
          λ scores. subst (λ s. nat_abs s ≤ width.limit) (sums other)
              (all.1 ((factor *ℤ turned (algebra_of q).goal other) +ℤ before) (turned (algebra_of q).goal other, (other, there, scores, refl), refl)),
        ))
        it
