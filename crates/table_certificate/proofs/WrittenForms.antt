-- The forms of a written certificate: a block for each problem, one behind the other, and each line is right.
use Rattle.std.proofs.Common.{◌≡◌, ℕ, zero, suc, ◌+◌, ◌<◌, ℤ, Option, Some, None, IfSome, List, [], ◌∷◌, ◌++◌, length, take, slice_get, slice_index_or, refl, sym, ap, subst, ◌∙◌, arith}
use Rattle.std.specs.List.{AllAdjacentBelow}
use Rattle.adp_model.specs.declared.cell.Cell.{Cell}
use Rattle.adp_model.specs.Cells.{CellPrecedes}
use Rattle.table_certificate.specs.CertificateLines.{LineForm, CertLine, WordLine, CellLine, Formless}
use Rattle.table_certificate.specs.LocalCertificate.{up_to_word_line, blocks_of, head_count, last_cell}
use Rattle.table_certificate.specs.WrittenCertificate.{cell_forms}

-- ---- places behind a list

plus_zero : (k : ℕ) → 0 + k ≡ k
plus_zero k = omega arith

plus_suc : (n k : ℕ) → suc n + k ≡ suc (n + k)
plus_suc n k = omega arith

pub take_past : (xs ys : List LineForm) (k : ℕ) → take (length xs + k) (xs ++ ys) ≡ xs ++ take k ys
take_past [] ys k = ap (λ n. take n ys) (plus_zero k)
take_past (x ∷ xs) ys k = ap (λ n. take n (x ∷ (xs ++ ys))) (plus_suc (length xs) k) ∙ ap (λ (rest : List LineForm). x ∷ rest) (take_past xs ys k)

pub get_past : (xs ys : List LineForm) (k : ℕ) → slice_get (xs ++ ys) (length xs + k) ≡ slice_get ys k
get_past [] ys k = ap (λ n. slice_get ys n) (plus_zero k)
get_past (x ∷ xs) ys k = ap (λ n. slice_get (x ∷ (xs ++ ys)) n) (plus_suc (length xs) k) ∙ get_past xs ys k

-- ---- heads and blocks behind a list

plus_head : (m n a : ℕ) → m ≡ n + a → suc m ≡ suc n + a
plus_head m n a h = omega arith

pub head_count-append : (xs ys : List LineForm) → head_count (xs ++ ys) ≡ head_count xs + head_count ys
head_count-append [] ys = sym (plus_zero (head_count ys))
head_count-append (WordLine number cells ∷ xs) ys = plus_head (head_count (xs ++ ys)) (head_count xs) (head_count ys) (head_count-append xs ys)
head_count-append (CertLine ∷ xs) ys = head_count-append xs ys
head_count-append (CellLine cell score ∷ xs) ys = head_count-append xs ys
head_count-append (Formless ∷ xs) ys = head_count-append xs ys

-- the block of a head has the lines up to the next one
pub block_of_head : (before : List LineForm) (number cells : ℕ) (rest : List LineForm)
    → slice_index_or (blocks_of (before ++ WordLine number cells ∷ rest)) (head_count before) [] ≡ up_to_word_line rest
block_of_head [] number cells rest = refl
block_of_head (WordLine other many ∷ before) number cells rest = block_of_head before number cells rest
block_of_head (CertLine ∷ before) number cells rest = block_of_head before number cells rest
block_of_head (CellLine cell score ∷ before) number cells rest = block_of_head before number cells rest
block_of_head (Formless ∷ before) number cells rest = block_of_head before number cells rest

pub last_cell-append : (earlier : Option Cell) (xs ys : List LineForm)
    → last_cell earlier (xs ++ ys) ≡ last_cell (last_cell earlier xs) ys
last_cell-append earlier [] ys = refl
last_cell-append earlier (WordLine number cells ∷ xs) ys = last_cell-append None xs ys
last_cell-append earlier (CellLine cell score ∷ xs) ys = last_cell-append (Some cell) xs ys
last_cell-append earlier (CertLine ∷ xs) ys = last_cell-append earlier xs ys
last_cell-append earlier (Formless ∷ xs) ys = last_cell-append earlier xs ys

-- ---- the lines of cells

pub up_to_block_end : (cells : List Cell) (scores : List (Option ℤ)) (others : List LineForm)
    → up_to_word_line others ≡ [] → up_to_word_line (cell_forms cells scores ++ others) ≡ cell_forms cells scores
up_to_block_end [] scores others end = end
up_to_block_end (cell ∷ cells) [] others end = end
up_to_block_end (cell ∷ cells) (score ∷ scores) others end = ap (λ (rest : List LineForm). CellLine cell score ∷ rest) (up_to_block_end cells scores others end)

pub no_heads : (cells : List Cell) (scores : List (Option ℤ)) (k : ℕ)
    → head_count (take k (cell_forms cells scores)) ≡ 0
no_heads [] scores zero = refl
no_heads [] scores (suc k) = refl
no_heads (cell ∷ cells) [] zero = refl
no_heads (cell ∷ cells) [] (suc k) = refl
no_heads (cell ∷ cells) (score ∷ scores) zero = refl
no_heads (cell ∷ cells) (score ∷ scores) (suc k) = no_heads cells scores k

-- each cell comes behind the one before it, the first behind an earlier one
abbrev pub AreRising : Option Cell → List Cell → Type 0
AreRising earlier [] = Unit {0}
AreRising earlier (cell ∷ cells) = IfSome earlier (λ before. CellPrecedes before cell) × AreRising (Some cell) cells

next_low : (k n : ℕ) → k + 1 < n → suc k + 1 < suc n
next_low k n h = omega arith

first_low : (n : ℕ) → 0 + 1 < suc (suc n)
first_low n = omega arith

rising_from : (cell : Cell) (cells : List Cell) → AllAdjacentBelow CellPrecedes (cell ∷ cells) (length (cell ∷ cells))
    → AreRising (Some cell) cells
rising_from cell [] order = tt
rising_from cell (next ∷ cells) order = (order 0 cell (first_low (length cells)), rising_from next cells (λ k d low. later k d low))
  where
    later : (k : ℕ) (d : Cell) → k + 1 < length (next ∷ cells)
        → CellPrecedes (slice_index_or (next ∷ cells) k d) (slice_index_or (next ∷ cells) (k + 1) d)
    later k d low = subst (λ n. CellPrecedes (slice_index_or (next ∷ cells) k d) (slice_index_or (cell ∷ next ∷ cells) n d)) (plus_suc k 1) (order (suc k) d (next_low k (length (next ∷ cells)) low))

pub rising : (cells : List Cell) → AllAdjacentBelow CellPrecedes cells (length cells) → AreRising None cells
rising [] order = tt
rising (cell ∷ cells) order = (tt, rising_from cell cells order)

same_line : (a b : Cell) (c d : Option ℤ) → Some (CellLine a c) ≡ Some (CellLine b d) → a ≡ b
same_line a b c d e = cc

pub no_line : (k : ℕ) (form : LineForm) → slice_get [] k ≡ Some form → ⊥
no_line k form e = cc

pub line_order : (earlier : Option Cell) (cells : List Cell) (scores : List (Option ℤ)) (k : ℕ) (cell : Cell) (score : Option ℤ)
    → AreRising earlier cells → slice_get (cell_forms cells scores) k ≡ Some (CellLine cell score)
    → IfSome (last_cell earlier (take k (cell_forms cells scores))) (λ before. CellPrecedes before cell)
line_order earlier [] scores k cell score order e = absurd (no_line k (CellLine cell score) e)
line_order earlier (first ∷ cells) [] k cell score order e = absurd (no_line k (CellLine cell score) e)
line_order earlier (first ∷ cells) (said ∷ scores) zero cell score order e =
    subst (λ x. IfSome earlier (λ before. CellPrecedes before x)) (same_line first cell said score e) order.0
line_order earlier (first ∷ cells) (said ∷ scores) (suc k) cell score order e = line_order (Some first) cells scores k cell score order.1 e
