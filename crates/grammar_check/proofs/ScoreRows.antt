-- The row of score bounds: the greatest of the table's entries and the tokens' numbers, length by length.
use Rattle.std.proofs.Common.{◌≡◌, ℕ, zero, suc, ◌+◌, ◌<◌, ◌≤◌, max, ◌⊎◌, inl, inr, List, [], ◌∷◌, ◌++◌, length, slice_index, refl, sym, ap, ap₂, subst, ◌∙◌, arith}
use Rattle.std.proofs.lemmas.List.{get_or_append_left, get_or_push}
use Rattle.adp_model.specs.LimitFaults.{told}
use Rattle.grammar_check.specs.declared.table.Table.{Table}
use Rattle.grammar_check.specs.Tables.{entry}
use Rattle.grammar_check.specs.Plans.{greatest_from}
use Rattle.grammar_check.specs.TokenNumbers.{tokens_number, rules_number, score_number}
use Rattle.grammar_check.proofs.CutNumbers.{told-max}
use Rattle.grammar_check.specs.RuleValues.{Entry}

-- the greatest at so many lengths, from 0 on, cut
abbrev pub cut_number : Table → (ℕ → ℕ) → ℕ → ℕ
cut_number table tokens zero = 0
cut_number table tokens (suc len) = max (cut_number table tokens len) (max (greatest_from (λ row. entry table row len) 0 table.rows) (told (tokens len)))

greatest_cut : (bound : ℕ → ℕ → ℕ) (table : Table) (len count : ℕ) → ((rule : ℕ) → rule < count → entry table rule len ≡ told (bound rule len)) → greatest_from (λ row. entry table row len) 0 count ≡ told (greatest_from (λ rule. bound rule len) 0 count)
greatest_cut bound table len zero right = omega arith
greatest_cut bound table len (suc count) right =
    let rest = greatest_cut bound table len count (λ rule below. right rule (omega arith)) in
    let place : 0 + count ≡ count = omega arith in
    let here : entry table (0 + count) len ≡ told (bound (0 + count) len) = subst (λ n. entry table n len ≡ told (bound n len)) (sym place) (right count (omega arith)) in
    ap₂ (λ a b. max a b) rest here ∙ told-max (greatest_from (λ rule. bound rule len) 0 count) (bound (0 + count) len)

pub cut_number-told : (bound : ℕ → ℕ → ℕ) (table : Table) (plan : List (List Entry)) (most : ℕ) → ((rule len : ℕ) → rule < table.rows → len ≤ most → entry table rule len ≡ told (bound rule len)) → (len : ℕ) → len ≤ most → cut_number table (λ l. tokens_number l plan) (suc len) ≡ told (score_number bound table.rows plan len)
cut_number-told bound table plan most right zero short =
    let rules = greatest_cut bound table 0 table.rows (λ rule below. right rule 0 below short) in
    let first : max 0 (max (greatest_from (λ row. entry table row 0) 0 table.rows) (told (tokens_number 0 plan))) ≡ max (greatest_from (λ row. entry table row 0) 0 table.rows) (told (tokens_number 0 plan)) = omega arith in
    first ∙ ap (λ a. max a (told (tokens_number 0 plan))) rules ∙ told-max (rules_number bound table.rows 0) (tokens_number 0 plan)
cut_number-told bound table plan most right (suc len) short =
    let before = cut_number-told bound table plan most right len (omega arith) in
    let rules = greatest_cut bound table (suc len) table.rows (λ rule below. right rule (suc len) below short) in
    let here : max (greatest_from (λ row. entry table row (suc len)) 0 table.rows) (told (tokens_number (suc len) plan)) ≡ told (max (rules_number bound table.rows (suc len)) (tokens_number (suc len) plan)) =
    ap (λ a. max a (told (tokens_number (suc len) plan))) rules ∙ told-max (rules_number bound table.rows (suc len)) (tokens_number (suc len) plan) in
    ap₂ (λ a b. max a b) before here ∙ told-max (score_number bound table.rows plan len) (max (rules_number bound table.rows (suc len)) (tokens_number (suc len) plan))

pub cut_more : (table : Table) (number : ℕ → ℕ) (len greatest rules tokens most next : ℕ) → greatest ≡ cut_number table number len → rules ≡ greatest_from (λ row. entry table row len) 0 table.rows → tokens ≡ told (number len) → most ≡ max rules tokens → next ≡ max greatest most → next ≡ cut_number table number (len + 1)
cut_more table number len greatest rules tokens most next greatest_is rules_are tokens_are most_is next_is =
    let count : len + 1 ≡ suc len = omega arith in
    rw count (omega arith)

-- a row with one number more
pub row_more : (row : List ℕ) (len value : ℕ) (number : ℕ → ℕ) → length row ≡ len → ((at : ℕ) → at < len → slice_index row at ≡ number at) → value ≡ number len → (at : ℕ) → at < len + 1 → slice_index (row ++ value ∷ []) at ≡ number at
row_more row len value number each before here at below = by (order at len)
  where
    order : (m n : ℕ) → (m < n) ⊎ (n ≤ m)
    order m n = grind arith

    by : (at < len) ⊎ (len ≤ at) → slice_index (row ++ value ∷ []) at ≡ number at
    by (inl less) = get_or_append_left row (value ∷ []) 0 at (omega arith) ∙ before at less
    by (inr past) =
        let same : at ≡ length row = omega arith in
        let last : len ≡ at = omega arith in
        ap (λ n. slice_index (row ++ value ∷ []) n) same ∙ get_or_push row value 0 (length row) refl ∙ here ∙ ap number last

-- the same tokens have the same rows
pub cut_number-same : (table : Table) (tokens others : ℕ → ℕ) → ((len : ℕ) → tokens len ≡ others len) → (count : ℕ) → cut_number table tokens count ≡ cut_number table others count
cut_number-same table tokens others same zero = refl
cut_number-same table tokens others same (suc len) =
    ap₂ (λ a b. max a (max (greatest_from (λ row. entry table row len) 0 table.rows) (told b))) (cut_number-same table tokens others same len) (same len)
