-- A written certificate is locally right.
use Rattle.std.proofs.Common.{◌≡◌, ℕ, zero, suc, ◌+◌, ◌-◌, ◌<◌, ◌≤◌, ◌⊎◌, inl, inr, ℤ, Option, Some, None, List, [], ◌∷◌, ◌++◌, length, take, slice_get, slice_index_or, refl, sym, ap, subst, ◌∙◌, arith, append_assoc, length-append, Contains}
use Rattle.std.proofs.lemmas.List.{take-append-le}
use Rattle.adp_model.specs.declared.cell.Cell.{Cell}
use Rattle.adp_model.specs.PosedProblem.{PosedProblem}
use Rattle.adp_model.specs.Demand.{AreDemanded}
use Rattle.adp_model.specs.ProblemFields.{IsAdmissible}
use Rattle.table_certificate.specs.CertificateLines.{LineForm, CertLine, WordLine, CellLine}
use Rattle.table_certificate.specs.LocalCertificate.{up_to_word_line, blocks_of, head_count, block_number, block_lines, last_cell, problem_of, IsRight, IsRightInBlock, IsRightCellLine, IsLocallyRight}
use Rattle.table_certificate.specs.BestScores.{IsBestScore}
use Rattle.table_certificate.specs.WrittenCertificate.{cell_forms, AreBest, block_forms, AreBlockForms}
use Rattle.table_certificate.proofs.RightLines.{length-cell_forms}
use Rattle.table_certificate.proofs.WrittenRight.{AreLaws, right_cell, right_head}
use Rattle.table_certificate.proofs.WrittenForms.{take_past, get_past, head_count-append, block_of_head, last_cell-append, up_to_block_end, no_heads, rising, line_order, no_line}

-- ---- the line of a cell

pub record IsLineOf (p : PosedProblem) (cells : List Cell) (scores : List (Option ℤ)) (k : ℕ) : Type 0 where
  pub cell : Cell
  pub score : Option ℤ
  pub stands : slice_get (cell_forms cells scores) k ≡ Some (CellLine cell score)
  pub listed : Contains cells cell
  pub best : IsBestScore p cell score

no_place : (k : ℕ) → k < 0 → ⊥
no_place k h = omega arith

first_place : (n : ℕ) → 0 < suc n
first_place n = omega arith

lower : (k n : ℕ) → suc k < suc n → k < n
lower k n h = omega arith

higher : (k n : ℕ) → k < n → suc k < suc n
higher k n h = omega arith

pub line_of : (p : PosedProblem) (cells : List Cell) (scores : List (Option ℤ)) → AreBest p cells scores → (k : ℕ)
    → k < length cells → IsLineOf p cells scores k
line_of p [] scores best k low = absurd (no_place k low)
line_of p (cell ∷ cells) [] best k low = absurd best
line_of p (cell ∷ cells) (score ∷ scores) best zero low = record { cell = cell; score = score; stands = refl; listed = (zero, first_place (length cells), refl); best = best.0 }
line_of p (cell ∷ cells) (score ∷ scores) best (suc k) low =
    let found = line_of p cells scores best.1 k (lower k (length cells) low) in
    record { cell = found.cell; score = found.score; stands = found.stands; listed = (suc found.listed.0, higher found.listed.0 (length cells) found.listed.1, found.listed.2); best = found.best }

-- ---- one block, behind some lines

plus_suc : (n k : ℕ) → suc (n + k) ≡ n + suc k
plus_suc n k = omega arith

one_less : (n : ℕ) → suc n - 1 ≡ n
one_less n = omega arith

plus_one : (n : ℕ) → n + 1 ≡ suc n
plus_one n = omega arith

plus_heads : (a b n : ℕ) → b ≡ suc n → n ≡ 0 → a + b ≡ suc a
plus_heads a b n h k = omega arith

at_least : (n : ℕ) → 0 ≤ n
at_least n = omega arith

at_most : (k n : ℕ) → k < n → k ≤ n
at_most k n h = omega arith

no_place_zero : (n k : ℕ) → 0 ≡ suc n + k → ⊥
no_place_zero n k h = omega arith

le_or_lt : (m k : ℕ) → (m ≤ k) ⊎ (k < m)
le_or_lt m k = grind arith

one_plus : (k : ℕ) → 1 + k ≡ suc k
one_plus k = omega arith

one_more : (m n : ℕ) → m ≤ n → suc m ≤ 1 + n
one_more m n h = omega arith

get_left : (xs ys : List LineForm) (k : ℕ) (form : LineForm) → slice_get xs k ≡ Some form
    → slice_get (xs ++ ys) k ≡ Some form
get_left [] ys k form e = absurd (no_line k form e)
get_left (x ∷ xs) ys zero form e = e
get_left (x ∷ xs) ys (suc k) form e = get_left xs ys k form e

problem_behind : (problems : List PosedProblem) (p : PosedProblem) (others : List PosedProblem)
    → slice_get (problems ++ p ∷ others) (length problems) ≡ Some p
problem_behind [] p others = refl
problem_behind (first ∷ problems) p others = problem_behind problems p others

nothing_behind : (number : ℕ) (problems : List PosedProblem) (forms : List LineForm)
    → AreBlockForms number problems forms → up_to_word_line forms ≡ []
nothing_behind number [] forms none = ap up_to_word_line none
nothing_behind number (p ∷ problems) forms (cells, scores, others, demanded, best, behind, is) = ap up_to_word_line is

module _ (laws : AreLaws) (passed : List PosedProblem) (p : PosedProblem) (left : List PosedProblem)
    (admissible : IsAdmissible p) (earlier : List LineForm) (counted : head_count earlier ≡ length passed)
    (cells : List Cell) (scores : List (Option ℤ)) (others : List LineForm) (demanded : AreDemanded p cells)
    (best : AreBest p cells scores) (end : up_to_word_line others ≡ []) where
  abbrev own_number : ℕ
  own_number = suc (length passed)

  abbrev all_forms : List LineForm
  all_forms = (CertLine ∷ earlier) ++ (block_forms own_number cells scores ++ others)

  abbrev before : List LineForm
  before = CertLine ∷ earlier

  block_here : slice_index_or (blocks_of all_forms) (length passed) [] ≡ cell_forms cells scores
  block_here = subst (λ n. slice_index_or (blocks_of all_forms) n [] ≡ cell_forms cells scores) counted
      (block_of_head before own_number (length cells) (cell_forms cells scores ++ others) ∙ up_to_block_end cells scores others end)

  heads_here : (k : ℕ) → k ≤ length cells → block_number all_forms (length before + k) ≡ own_number
  heads_here k low =
      let short : k ≤ length (cell_forms cells scores) = subst (λ n. k ≤ n) (sym (length-cell_forms p cells scores best)) low in
      let front : take k (cell_forms cells scores ++ others) ≡ take k (cell_forms cells scores) = take-append-le k (cell_forms cells scores) others short in
      let none : head_count (take k (cell_forms cells scores ++ others)) ≡ 0 = ap head_count front ∙ no_heads cells scores k in
      ap (λ n. head_count (take n all_forms)) (plus_suc (length before) k)
      ∙ ap head_count (take_past before (block_forms own_number cells scores ++ others) (suc k))
      ∙ head_count-append before (take (suc k) (block_forms own_number cells scores ++ others))
      ∙ plus_heads (head_count before) (head_count (take (suc k) (block_forms own_number cells scores ++ others))) (head_count (take k (cell_forms cells scores ++ others))) refl none
      ∙ ap suc counted

  lines_here : block_lines all_forms own_number ≡ cell_forms cells scores
  lines_here = ap (λ n. slice_index_or (blocks_of all_forms) n []) (one_less (length passed)) ∙ block_here

  -- a line that is right in the block is right among all
  right_here : (k : ℕ) (form : LineForm) → k ≤ length cells → (place : ℕ) → place ≡ length before + k
      → slice_get all_forms place ≡ Some form
      → IsRightInBlock p (cell_forms cells scores) own_number (last_cell None (take place all_forms)) form
      → IsRight (passed ++ p ∷ left) all_forms place
  right_here k form low zero at stands right = absurd (no_place_zero (length earlier) k at)
  right_here k form low (suc place) at stands right =
      let heads : block_number all_forms (suc place) ≡ own_number = ap (λ n. block_number all_forms n) at ∙ heads_here k low in
      let owned : problem_of (passed ++ p ∷ left) (block_number all_forms (suc place)) ≡ Some p = ap (λ n. problem_of (passed ++ p ∷ left) n) heads ∙ problem_behind passed p left in
      let earlier_cell : Option Cell = last_cell None (take (suc place) all_forms) in
      let whole = subst (λ x. IsRightInBlock p x own_number earlier_cell form) (sym lines_here) right in
      (p, form, owned, stands, subst (λ n. IsRightInBlock p (block_lines all_forms n) n earlier_cell form) (sym heads) whole)

  pub head_is_right : (place : ℕ) → place ≡ length before + 0 → IsRight (passed ++ p ∷ left) all_forms place
  head_is_right place at =
      right_here 0 (WordLine own_number (length cells)) (at_least (length cells)) place at
      (ap (λ n. slice_get all_forms n) at ∙ get_past before (block_forms own_number cells scores ++ others) 0)
      (right_head laws p admissible cells demanded scores best own_number)

  pub cell_is_right : (k : ℕ) → k < length cells → (place : ℕ) → place ≡ length before + suc k
      → IsRight (passed ++ p ∷ left) all_forms place
  cell_is_right k low place at = by (line_of p cells scores best k low)
    where
      short : k ≤ length (cell_forms cells scores)
      short = subst (λ n. k ≤ n) (sym (length-cell_forms p cells scores best)) (at_most k (length cells) low)

      front : take k (cell_forms cells scores ++ others) ≡ take k (cell_forms cells scores)
      front = take-append-le k (cell_forms cells scores) others short

      passed_cells : last_cell None (take place all_forms) ≡ last_cell None (take k (cell_forms cells scores))
      passed_cells =
          ap (λ n. last_cell None (take n all_forms)) at
          ∙ ap (λ x. last_cell None x) (take_past before (block_forms own_number cells scores ++ others) (suc k))
          ∙ last_cell-append None before (take (suc k) (block_forms own_number cells scores ++ others))
          ∙ ap (λ x. last_cell None x) front

      by : IsLineOf p cells scores k → IsRight (passed ++ p ∷ left) all_forms place
      by line =
          let there : slice_get (cell_forms cells scores ++ others) k ≡ Some (CellLine line.cell line.score) = get_left (cell_forms cells scores) others k
          (CellLine line.cell line.score) line.stands in
          let order = line_order None cells scores k line.cell line.score (rising cells demanded.in_order) line.stands in
          right_here (suc k) (CellLine line.cell line.score) low place at
          (ap (λ n. slice_get all_forms n) at ∙ get_past before (block_forms own_number cells scores ++ others) (suc k) ∙ there)
          (subst (λ x. IsRightCellLine p (cell_forms cells scores) x line.cell line.score) (sym passed_cells)
          (right_cell laws p admissible cells demanded scores best line.cell line.score (last_cell None (take k (cell_forms cells scores))) line.listed line.best order))

-- ---- all blocks

low_or_behind : (m k : ℕ) → (k < m) ⊎ ((j : ℕ) × (k ≡ m + j))
low_or_behind m k = by (le_or_lt m k)
  where
    by : (m ≤ k) ⊎ (k < m) → (k < m) ⊎ ((j : ℕ) × (k ≡ m + j))
    by (inl h) = inr (k - m, omega arith)
    by (inr h) = inl h

block_heads : (number : ℕ) (cells : List Cell) (scores : List (Option ℤ))
    → head_count (block_forms number cells scores) ≡ 1
block_heads number cells scores = ap suc (heads_of cells scores)
  where
    heads_of : (cells : List Cell) (scores : List (Option ℤ)) → head_count (cell_forms cells scores) ≡ 0
    heads_of [] scores = refl
    heads_of (cell ∷ cells) [] = refl
    heads_of (cell ∷ cells) (score ∷ scores) = heads_of cells scores

suc_plus : (n m : ℕ) → suc n + m ≡ suc (n + m)
suc_plus n m = omega arith

in_lines : (k n m : ℕ) → suc k < suc n → n ≡ m → k < m
in_lines k n m h e = omega arith

left_behind : (m n j k : ℕ) → k ≡ m + j → k < m + n → j < n
left_behind m n j k e h = omega arith

further : (a b m j k place : ℕ) → place ≡ a + k → k ≡ m + j → b ≡ a + m → place ≡ b + j
further a b m j k place e f g = omega arith

-- a line of a block, and what the lines behind it are worth
in_or_behind : (laws : AreLaws) (left passed : List PosedProblem) (p : PosedProblem) (earlier : List LineForm) (cells : List Cell) (scores : List (Option ℤ)) (others : List LineForm)
    → IsAdmissible p → head_count earlier ≡ length passed → AreDemanded p cells → AreBest p cells scores
    → up_to_word_line others ≡ [] → (k place : ℕ) → place ≡ length (CertLine ∷ earlier) + k
    → k < length (block_forms (suc (length passed)) cells scores)
    → IsRight (passed ++ p ∷ left) ((CertLine ∷ earlier) ++ (block_forms (suc (length passed)) cells scores ++ others)) place
in_or_behind laws left passed p earlier cells scores others admissible counted demanded best end zero place at low =
    head_is_right laws passed p left admissible earlier counted cells scores others demanded best end place at
in_or_behind laws left passed p earlier cells scores others admissible counted demanded best end (suc k) place at low =
    cell_is_right laws passed p left admissible earlier counted cells scores others demanded best end k
    (in_lines k (length (cell_forms cells scores)) (length cells) low (length-cell_forms p cells scores best)) place at

heads_behind : (earlier : List LineForm) (number : ℕ) (cells : List Cell) (scores : List (Option ℤ)) (passed : List PosedProblem) (p : PosedProblem)
    → head_count earlier ≡ length passed
    → head_count (earlier ++ block_forms number cells scores) ≡ length (passed ++ p ∷ [])
heads_behind earlier number cells scores passed p counted =
    head_count-append earlier (block_forms number cells scores)
    ∙ ap (λ n. head_count earlier + n) (block_heads number cells scores)
    ∙ ap (λ n. n + 1) counted ∙ sym (length-append passed (p ∷ []))

one_behind : (passed : List PosedProblem) (p : PosedProblem) → suc (length passed) ≡ length (passed ++ p ∷ [])
one_behind passed p = sym (plus_one (length passed)) ∙ sym (length-append passed (p ∷ []))

-- ---- the certificate

pub all_right : AreLaws → (left passed : List PosedProblem) (earlier rest : List LineForm)
    → head_count earlier ≡ length passed
    → ((number : ℕ) (p : PosedProblem) → slice_get left number ≡ Some p → IsAdmissible p)
    → AreBlockForms (suc (length passed)) left rest → (k : ℕ) → k < length rest → (place : ℕ)
    → place ≡ length (CertLine ∷ earlier) + k → IsRight (passed ++ left) ((CertLine ∷ earlier) ++ rest) place
all_right laws [] passed earlier rest counted admissible none k low place at = absurd (no_place k (subst (λ (x : List LineForm). k < length x) none low))
all_right laws (p ∷ left) passed earlier rest counted admissible (cells, scores, others, demanded, best, behind, is) k low place at =
    let block : List LineForm = block_forms (suc (length passed)) cells scores in
    let end : up_to_word_line others ≡ [] = nothing_behind (suc (suc (length passed))) left others behind in
    let inner = all_right laws left (passed ++ p ∷ []) (earlier ++ block) others (heads_behind earlier (suc (length passed)) cells scores passed p counted)
    (λ number. admissible (suc number)) (subst (λ n. AreBlockForms (suc n) left others) (one_behind passed p) behind) in
    subst (λ (x : List LineForm). IsRight (passed ++ p ∷ left) ((CertLine ∷ earlier) ++ x) place) (sym is)
    (by inner end (low_or_behind (length block) k))
  where
    by : ((j : ℕ) → j < length others → (place : ℕ) → place ≡ length (CertLine ∷ (earlier ++ block_forms (suc (length passed)) cells scores)) + j → IsRight ((passed ++ p ∷ []) ++ left)
        ((CertLine ∷ (earlier ++ block_forms (suc (length passed)) cells scores)) ++ others) place)
        → up_to_word_line others ≡ []
        → (k < length (block_forms (suc (length passed)) cells scores)) ⊎ ((j : ℕ) × (k ≡ length (block_forms (suc (length passed)) cells scores) + j))
        → IsRight (passed ++ p ∷ left) ((CertLine ∷ earlier) ++ (block_forms (suc (length passed)) cells scores ++ others)) place
    by inner end (inl here) = in_or_behind laws left passed p earlier cells scores others (admissible zero p refl) counted demanded best end k place at here
    by inner end (inr (j, there)) =
        let whole : length rest ≡ length (block_forms (suc (length passed)) cells scores) + length others = ap length is ∙ length-append (block_forms (suc (length passed)) cells scores) others in
        let few : j < length others = left_behind (length (block_forms (suc (length passed)) cells scores)) (length others) j k there (subst (λ n. k < n) whole low) in
        let long : length (CertLine ∷ (earlier ++ block_forms (suc (length passed)) cells scores)) ≡ length (CertLine ∷ earlier) + length (block_forms (suc (length passed)) cells scores) =
        length-append (CertLine ∷ earlier) (block_forms (suc (length passed)) cells scores) in
        let found = inner j few place (further (length (CertLine ∷ earlier)) (length (CertLine ∷ (earlier ++ block_forms (suc (length passed)) cells scores))) (length (block_forms (suc
        (length passed)) cells scores)) j k place at there long) in
        subst (λ (x : List LineForm). IsRight (passed ++ p ∷ left) x place) (append_assoc (CertLine ∷ earlier) (block_forms (suc (length passed)) cells scores) others)
        (subst (λ (x : List PosedProblem). IsRight x ((CertLine ∷ (earlier ++ block_forms (suc (length passed)) cells scores)) ++ others) place) (append_assoc passed (p ∷ []) left) found)

enough_heads : (problems : List PosedProblem) (number : ℕ) (forms : List LineForm)
    → AreBlockForms number problems forms → length problems ≤ head_count forms
enough_heads [] number forms none = at_least (head_count forms)
enough_heads (p ∷ problems) number forms (cells, scores, others, demanded, best, behind, is) =
    let later : length problems ≤ head_count others = enough_heads problems (suc number) others behind in
    let heads : head_count (block_forms number cells scores ++ others) ≡ 1 + head_count others =
    head_count-append (block_forms number cells scores) others ∙ ap (λ n. n + head_count others) (block_heads number cells scores) in
    subst (λ (x : List LineForm). suc (length problems) ≤ head_count x) (sym is) (subst (λ n. suc (length problems) ≤ n) (sym heads) (one_more (length problems) (head_count others) later))

pub written_locally_right : AreLaws → (problems : List PosedProblem) (forms : List LineForm)
    → ((number : ℕ) (p : PosedProblem) → slice_get problems number ≡ Some p → IsAdmissible p)
    → AreBlockForms 1 problems forms → IsLocallyRight problems (CertLine ∷ forms)
written_locally_right laws problems forms admissible blocks = record {
  right = at_place;
  whole = record { begins = first_place (length forms); blocks = enough_heads problems 1 forms blocks };
}
  where
    at_place : (place : ℕ) → place < length (CertLine ∷ forms) → IsRight problems (CertLine ∷ forms) place
    at_place zero low = refl
    at_place (suc k) low = all_right laws problems [] [] forms refl admissible blocks k (lower k (length forms) low) (suc k) (sym (one_plus k))
