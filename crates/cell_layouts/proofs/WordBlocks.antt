-- Blocks of numbers for blocks of far ends: one more of them, and that those of counted cells are there.
use Rattle.std.proofs.Common.{◌≡◌, ℕ, ◌+◌, ◌*◌, ◌<◌, ◌≤◌, List, [], ◌∷◌, ◌++◌, length, get_or, take, Result, Ok, Err, sym, refl, subst, inl, inr, arith}
use Rattle.std.specs.Prelude.{IfOk}
use Rattle.std.proofs.lemmas.Bool.{cases_lt}
use Rattle.std.proofs.lemmas.List.{length_push, get_or_append_left, get_or_push, take_more}
use Rattle.adp_model.specs.declared.grammar.Grammar.{Grammar}
use Rattle.adp_model.specs.Cells.{IsCounted}
use Rattle.cell_layouts.specs.declared.layout.Block.{Block}
use Rattle.cell_layouts.specs.declared.layout.Laid.{Laid}
use Rattle.cell_layouts.specs.declared.layout.Side.{Side}
use Rattle.cell_layouts.specs.declared.layout.Side.TheVariants.{Rows, Columns}
use Rattle.cell_layouts.specs.Layout.{cell_at, size_of, AreCountedBlocks, AreCountedWords, AreWordBlocks, IsWordBlock}
use Rattle.cell_layouts.proofs.CountedBlocks.{nothing, number_below, one_more_laid}

pub no_words : AreWordBlocks [] 0 []
no_words = record {
  as_many = refl;
  laid = record { placed = λ number d l. absurd (omega arith); all = refl };
  each = λ number d l. absurd (omega arith);
}

pub one_more_word : (fars words : List Block) (count : ℕ) (far block : Block) → AreWordBlocks fars count words → block.place ≡ count → IsWordBlock far block
    → AreWordBlocks (fars ++ far ∷ []) (count + size_of block) (words ++ block ∷ [])
one_more_word fars words count far block before here new = record {
  as_many = omega (arith, before.as_many, length_push fars far, length_push words block);
  laid = one_more_laid words count block before.laid here;
  each = λ number d l. elim (cases_lt number (length fars)) [
    | inl early ↦
        let old = get_or_append_left fars (far ∷ []) d number early in
        let now = get_or_append_left words (block ∷ []) d number (omega (arith, before.as_many)) in
        subst (λ x. IsWordBlock x (get_or (words ++ block ∷ []) number d)) (sym old) (subst (IsWordBlock (get_or fars number d)) (sym now) (before.each number d early))
    | inr late ↦
        let last : length fars ≡ number = omega (arith, length_push fars far) in
        let old = get_or_push fars far d number last in
        let now = get_or_push words block d number (omega (arith, before.as_many)) in
        subst (λ x. IsWordBlock x (get_or (words ++ block ∷ []) number d)) (sym old) (subst (IsWordBlock far) (sym now) new)
  ];
}

pub next_word : (fars words : List Block) (number count : ℕ) (other block : Block) → number < length fars → AreWordBlocks (take number fars) count words → block.place ≡ count → IsWordBlock (get_or fars number other) block
    → AreWordBlocks (take (number + 1) fars) (count + size_of block) (words ++ block ∷ [])
next_word fars words number count other block l before here new =
    subst (λ them. AreWordBlocks them (count + size_of block) (words ++ block ∷ [])) (sym (take_more fars number other l))
    (one_more_word (take number fars) words count (get_or fars number other) block before here new)

-- ---- the numbers of counted cells

near_within : (grammar : Grammar) (len : ℕ) (side : Side) (rule near far : ℕ) → IsCounted grammar len (cell_at side rule near far) → (rule < length grammar.rules) × (near ≤ len)
near_within grammar len Rows rule near far counted = (counted.rule, omega (arith, counted.in_order, counted.in_word))
near_within grammar len Columns rule near far counted = (counted.rule, counted.in_word)

pub words_counted : (grammar : Grammar) (len : ℕ) (side : Side) (count total : ℕ) (fars words : List Block) → AreCountedBlocks grammar len side count fars → AreWordBlocks fars total words → AreCountedWords grammar len side total words
words_counted grammar len side count total fars words counted are = record {
  each = omega (arith, are.as_many, counted.each);
  laid = are.laid;
  there = λ rule near far cell.
      let within = near_within grammar len side rule near far cell in
      let below = number_below grammar len rule near within.0 within.1 in
      let range = ((counted.are rule near within.1 below).fars far).0 cell in
      (are.each (rule * (len + 1) + near) nothing (omega (arith, counted.each, below))).there far range.0 range.1;
}

pub words_made : {E : Type 0} (made : Result Laid E) (grammar : Grammar) (len : ℕ) (side : Side) (count : ℕ) (fars : List Block) → AreCountedBlocks grammar len side count fars
    → IfOk made (λ laid. AreWordBlocks fars laid.count laid.blocks.items) → IfOk made (λ laid. AreCountedWords grammar len side laid.count laid.blocks.items)
words_made (Ok laid) grammar len side count fars counted are = words_counted grammar len side count laid.count fars laid.blocks.items counted are
words_made (Err e) grammar len side count fars counted are = tt
