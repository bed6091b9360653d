-- Numbers of cells that are marked in their rows: those of a rule and a start, 64 ends at a time.
use Rattle.std.proofs.Common.{◌≡◌, ℕ, ◌+◌, ◌*◌, ◌/◌, ◌^◌, ◌<◌, ◌≤◌, length, inl, inr, sym, subst, ◌∙◌, arith}
use Rattle.std.specs.Prelude.{count_ones}
use Rattle.std.proofs.lemmas.Bool.{cases_lt}
use Rattle.adp_model.specs.declared.cell.Cell.{Cell}
use Rattle.adp_model.specs.Cells.{IsCounted, IsCountOf, AreCountedEnds}
use Rattle.cell_tables.specs.Bits.{IsBitIn, IsSet}
use Rattle.cell_tables.specs.Marks.{CellMarks, AreMarks, IsMarkedInRow}
use Rattle.cell_tables.proofs.SetSpans.{set_in_word, word_at}
use Rattle.cell_tables.proofs.CellCounts.{IsCellIn, joined_count, no_cells, same_count, word_cells}

module _ (marks : CellMarks) (rule from : ℕ) where
  -- the marked cells of the rule and the start, and those of the first numbers of 64 ends
  abbrev pub IsOfRow : Cell → Type 0
  IsOfRow cell = IsMarkedInRow marks cell × (cell.rule ≡ rule) × (cell.from ≡ from)

  abbrev pub IsEarly : ℕ → Cell → Type 0
  IsEarly number cell = IsMarkedInRow marks cell × (cell.rule ≡ rule) × (cell.from ≡ from) × (cell.to / 64 < number)

  module _ (are : AreMarks marks) (first past : ℕ) (ends : AreCountedEnds marks.problem.grammar (length marks.problem.word) rule from first past) where
    end_within : (cell : Cell) → IsOfRow cell → (first ≤ cell.to) × (cell.to < past)
    end_within cell (row, r, f) =
        let counted = are.counted cell (inl row) in
        let C : ℕ → ℕ → Type 0 = λ k n. IsCounted marks.problem.grammar (length marks.problem.word) (record { rule = k; from = n; to = cell.to }) in
        (ends cell.to).0 (subst (λ n. C rule n) f (subst (λ k. C k cell.from) r counted))

    pub none_early : IsCountOf (IsEarly (first / 64)) 0
    none_early = no_cells (IsEarly (first / 64)) (λ cell (row, r, f, low). let range = end_within cell (row, r, f) in omega (arith, range.0))

    pub all_early : (number count : ℕ) → past ≤ 64 * number → IsCountOf (IsEarly number) count → IsCountOf IsOfRow count
    all_early number count end = same_count (IsEarly number) IsOfRow (λ cell. (
      λ (row, r, f, low). (row, r, f),
      λ (row, r, f). let range = end_within cell (row, r, f) in (row, r, f, omega (arith, range.1)),
    )) count

  -- as many more as bits are set in the next number
  pub next_number : (number count word : ℕ) → word ≡ word_at marks.rows rule from number → word < 2 ^ 64 → IsCountOf (IsEarly number) count → IsCountOf (IsEarly (number + 1)) (count + count_ones word)
  next_number number count word is fits early =
      joined_count (IsEarly number) (IsCellIn word number rule from) (IsEarly (number + 1))
      (λ a b (row, r, f, low) (r', f', bit). inr (r ∙ sym r', inr (f ∙ sym f', omega (arith, bit.number_is))))
      (λ cell.
      let told = set_in_word marks.rows rule from number cell.to in
      let W : ℕ → Type 0 = λ n. IsBitIn n number cell.to in (
        λ (row, r, f, low). elim (cases_lt (cell.to / 64) number) [
          | inl before ↦ inl (row, r, f, before)
          | inr here ↦
              let set = subst (λ n. IsSet marks.rows rule n cell.to) f (subst (λ k. IsSet marks.rows k cell.from cell.to) r row) in
              inr (r, f, subst W (sym is) (told.1 (omega arith, set)))
        ],
        λ either. elim either [
          | inl (row, r, f, low) ↦ (row, r, f, omega arith)
          | inr (r, f, bit) ↦
              let set = (told.0 (subst W is bit)).1 in
              let row = subst (λ k. IsSet marks.rows k cell.from cell.to) (sym r) (subst (λ n. IsSet marks.rows rule n cell.to) (sym f) set) in
              (row, r, f, omega (arith, bit.number_is))
        ],
      ))
      count (count_ones word) early (word_cells word number rule from fits)
