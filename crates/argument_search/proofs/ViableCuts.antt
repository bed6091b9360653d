-- Cuts that were tested argument by argument are those of a viable split; and cuts that a place was put into.
use Rattle.std.proofs.Common.{◌≡◌, ℕ, zero, suc, ◌-◌, ◌<◌, ◌≤◌, ◌⊎◌, inl, inr, List, [], ◌∷◌, ◌++◌, length, take, drop, slice_index, slice_index_or, slice_set, refl, sym, subst, ◌∙◌, arith}
use Rattle.std.specs.List.{AllByRecursion}
use Rattle.std.proofs.lemmas.Bool.{cases_lt}
use Rattle.adp_model.specs.declared.grammar.Arg.{Arg}
use Rattle.adp_model.specs.declared.cell.Cell.{Cell}
use Rattle.adp_model.specs.PosedProblem.{PosedProblem}
use Rattle.adp_model.specs.Splits.{place, ends_by, FitsSpan}
use Rattle.viable_splits.specs.Placing.{on_span}
use Rattle.argument_search.proofs.LineOrder.{front_at}
use Rattle.argument_search.proofs.PlacedArguments.{length_ends}

-- each argument has the span from the end before it to its own
pub all_fit : (p : PosedProblem) (arguments : List Arg) (from : ℕ) (ends : List ℕ) (d : Arg)
    → length arguments ≤ length ends
    → ((k : ℕ) → k < length arguments
    → FitsSpan p (on_span (slice_index_or arguments k d) (slice_index (from ∷ ends) k) (slice_index ends k)))
    → AllByRecursion (FitsSpan p) (place arguments from ends)
all_fit p [] from ends d few each = tt
all_fit p (argument ∷ arguments) from [] d few each = absurd (omega arith)
all_fit p (argument ∷ arguments) from (to ∷ ends) d few each =
    (each 0 (omega arith), all_fit p arguments to ends d (omega arith) (λ k less. each (suc k) (omega arith)))

pub all_closed : (n to : ℕ) (ends : List ℕ) → ((k : ℕ) → n ≤ k → k < length ends → slice_index ends k ≡ to)
    → AllByRecursion (λ boundary. boundary ≡ to) (drop n ends)
all_closed n to [] each = none n
  where
    none : (n : ℕ) → AllByRecursion (λ boundary. boundary ≡ to) (drop n [])
    none zero = tt
    none (suc n) = tt
all_closed zero to (end ∷ ends) each = (
  each 0 (omega arith) (omega arith),
  all_closed zero to ends
      (λ k low less. each (suc k) (omega arith) (omega arith)),
)
all_closed (suc n) to (end ∷ ends) each = all_closed n to ends (λ k low less. each (suc k) (omega arith) (omega arith))

-- the last of the ends is the cell's
pub closed_end : (cuts : List ℕ) (to n : ℕ) → ((k : ℕ) → n ≤ k → k < length cuts → slice_index cuts k ≡ to)
    → (k : ℕ) → n ≤ k → k < length (cuts ++ to ∷ []) → slice_index (cuts ++ to ∷ []) k ≡ to
closed_end [] to n each zero low less = refl
closed_end [] to n each (suc k) low less = absurd (omega arith)
closed_end (cut ∷ cuts) to n each zero low less = each 0 low (omega arith)
closed_end (cut ∷ cuts) to n each (suc k) low less =
    closed_end cuts to (n - 1) (λ j low' less'. each (suc j) (omega arith) (omega arith)) k (omega arith) (omega arith)

-- ---- cuts that are moved

-- each argument of cuts that fit has the span from the end before it to its own
pub fit_at : (p : PosedProblem) (arguments : List Arg) (from : ℕ) (ends : List ℕ) (d : Arg)
    → length arguments ≤ length ends → AllByRecursion (FitsSpan p) (place arguments from ends)
    → (k : ℕ) → k < length arguments
    → FitsSpan p (on_span (slice_index_or arguments k d) (slice_index (from ∷ ends) k) (slice_index ends k))
fit_at p [] from ends d few fits k less = absurd (omega arith)
fit_at p (argument ∷ arguments) from [] d few fits k less = absurd (omega arith)
fit_at p (argument ∷ arguments) from (to ∷ ends) d few fits zero less = fits.0
fit_at p (argument ∷ arguments) from (to ∷ ends) d few fits (suc k) less =
    fit_at p arguments to ends d (omega arith) fits.1 k (omega arith)

-- the first ends are the same, and so are those from a later one on: only the arguments from the one to the other have
-- other spans
module _ (p : PosedProblem) (arguments : List Arg) (from : ℕ) (ends others : List ℕ) (d : Arg) (n m : ℕ)
    (front : (k : ℕ) → k < n → slice_index ends k ≡ slice_index others k)
    (behind : (k : ℕ) → m ≤ k → slice_index ends k ≡ slice_index others k) where
  abbrev Fits : List ℕ → ℕ → Type 0
  Fits ends k = FitsSpan p (on_span (slice_index_or arguments k d) (slice_index (from ∷ ends) k) (slice_index ends k))

  pub start_before : (k : ℕ) → k ≤ n → slice_index (from ∷ ends) k ≡ slice_index (from ∷ others) k
  start_before zero less = refl
  start_before (suc k) less = front k (omega arith)

  start_behind : (k : ℕ) → m < k → slice_index (from ∷ ends) k ≡ slice_index (from ∷ others) k
  start_behind zero less = absurd (omega arith)
  start_behind (suc k) less = behind k (omega arith)

  same_fits : (k a b : ℕ) → a ≡ slice_index (from ∷ others) k → b ≡ slice_index others k → Fits others k
      → FitsSpan p (on_span (slice_index_or arguments k d) a b)
  same_fits k a b start end fits =
      subst (λ x. FitsSpan p (on_span (slice_index_or arguments k d) x b)) (sym start)
      (subst (λ x. FitsSpan p (on_span (slice_index_or arguments k d) (slice_index (from ∷ others) k) x)) (sym end) fits)

  pub moved_fit : ((k : ℕ) → k < length arguments → Fits others k)
      → ((k : ℕ) → n ≤ k → k ≤ m → Fits ends k) → (k : ℕ) → k < length arguments → Fits ends k
  moved_fit old between k less = go (cases_lt k n) (cases_lt m k)
    where
      go : (k < n) ⊎ (n ≤ k) → (m < k) ⊎ (k ≤ m) → Fits ends k
      go (inl low) side = same_fits k (slice_index (from ∷ ends) k) (slice_index ends k) (start_before k (omega arith))
          (front k low) (old k less)
      go (inr high) (inl later) = same_fits k (slice_index (from ∷ ends) k) (slice_index ends k) (start_behind k later)
          (behind k (omega arith)) (old k less)
      go (inr high) (inr within) = between k high within

pub index_set : (xs : List ℕ) (k x : ℕ) → k < length xs → slice_index (slice_set xs k x) k ≡ x
index_set [] k x l = absurd (omega arith)
index_set (y ∷ ys) zero x l = refl
index_set (y ∷ ys) (suc k) x l = index_set ys k x (omega arith)

-- ---- cuts of a line

pub take_index : (xs ys : List ℕ) (n k : ℕ) → take n xs ≡ take n ys → k < n → slice_index xs k ≡ slice_index ys k
take_index xs ys zero k same less = absurd (omega arith)
take_index [] [] (suc n) k same less = refl
take_index [] (y ∷ ys) (suc n) k same less = absurd cc
take_index (x ∷ xs) [] (suc n) k same less = absurd cc
take_index (x ∷ xs) (y ∷ ys) (suc n) zero same less = cc
take_index (x ∷ xs) (y ∷ ys) (suc n) (suc k) same less =
    let later : take n xs ≡ take n ys = cc in take_index xs ys n k later (omega arith)

pub ends_kept : (xs ys : List ℕ) (to m : ℕ) → length xs ≡ length ys
    → ((k : ℕ) → m ≤ k → slice_index xs k ≡ slice_index ys k) → (k : ℕ) → m ≤ k
    → slice_index (xs ++ to ∷ []) k ≡ slice_index (ys ++ to ∷ []) k
ends_kept [] [] to m same each k low = refl
ends_kept [] (y ∷ ys) to m same each k low = absurd (omega arith)
ends_kept (x ∷ xs) [] to m same each k low = absurd (omega arith)
ends_kept (x ∷ xs) (y ∷ ys) to m same each zero low = each 0 low
ends_kept (x ∷ xs) (y ∷ ys) to m same each (suc k) low =
    ends_kept xs ys to (m - 1) (omega arith) (λ j l. each (suc j) (omega arith)) k (omega arith)

pub closed_at : (n to : ℕ) (ends : List ℕ) → AllByRecursion (λ boundary. boundary ≡ to) (drop n ends) → (k : ℕ)
    → n ≤ k → k < length ends → slice_index ends k ≡ to
closed_at n to [] closed k low less = absurd (omega arith)
closed_at zero to (end ∷ ends) closed zero low less = closed.0
closed_at zero to (end ∷ ends) closed (suc k) low less = closed_at zero to ends closed.1 k (omega arith) (omega arith)
closed_at (suc n) to (end ∷ ends) closed zero low less = absurd (omega arith)
closed_at (suc n) to (end ∷ ends) closed (suc k) low less = closed_at n to ends closed k (omega arith) (omega arith)

-- cuts that are moved along a line between its first argument and its second one
module _ (p : PosedProblem) (arguments : List Arg) (cell : Cell) (cuts old : List ℕ) (d : Arg) (n m start last : ℕ)
    (three : length cuts ≡ 3) (three_old : length old ≡ 3) (order : n < m) (within : m < length arguments)
    (few : length arguments ≤ 4) (front : take n cuts ≡ take n old)
    (behind : (k : ℕ) → m ≤ k → slice_index cuts k ≡ slice_index old k) where
  four : length (ends_by cell cuts) ≡ 4
  four = omega (arith, length_ends cuts cell.to, three)

  four_old : length (ends_by cell old) ≡ 4
  four_old = omega (arith, length_ends old cell.to, three_old)

  front_ends : (k : ℕ) → k < n → slice_index (ends_by cell cuts) k ≡ slice_index (ends_by cell old) k
  front_ends k less =
      front_at cuts cell.to k (omega (arith, three, order, within, few, less)) ∙ take_index cuts old n k front less
      ∙ sym (front_at old cell.to k (omega (arith, three_old, order, within, few, less)))

  behind_ends : (k : ℕ) → m ≤ k → slice_index (ends_by cell cuts) k ≡ slice_index (ends_by cell old) k
  behind_ends = ends_kept cuts old cell.to m (three ∙ sym three_old) behind

  abbrev Span : ℕ → ℕ → ℕ → Type 0
  Span k a b = FitsSpan p (on_span (slice_index_or arguments k d) a b)

  abbrev At : ℕ → Type 0
  At k = Span k (slice_index (cell.from ∷ ends_by cell cuts) k) (slice_index (ends_by cell cuts) k)

  pub line_fits : AllByRecursion (FitsSpan p) (place arguments cell.from (ends_by cell old))
      → FitsSpan p (on_span (slice_index_or arguments n d) (slice_index (cell.from ∷ ends_by cell old) n)
      (slice_index cuts n))
      → FitsSpan p (on_span (slice_index_or arguments m d) start last)
      → slice_index (cell.from ∷ ends_by cell cuts) m ≡ start → slice_index (ends_by cell cuts) m ≡ last
      → ((k : ℕ) → n < k → k < m → FitsSpan p (on_span (slice_index_or arguments k d)
      (slice_index (cell.from ∷ ends_by cell cuts) k) (slice_index (ends_by cell cuts) k)))
      → AllByRecursion (FitsSpan p) (place arguments cell.from (ends_by cell cuts))
  line_fits old_fits first second starts stops middle =
      all_fit p arguments cell.from (ends_by cell cuts) d (omega (arith, few, four))
      (moved_fit p arguments cell.from (ends_by cell cuts) (ends_by cell old) d n m front_ends behind_ends
      (fit_at p arguments cell.from (ends_by cell old) d (omega (arith, few, four_old)) old_fits)
      (λ k low high. go k (cases_lt n k) (cases_lt k m) low high))
    where
      first_at : At n
      first_at =
          subst (λ a. Span n a (slice_index (ends_by cell cuts) n))
          (sym (start_before p arguments cell.from (ends_by cell cuts) (ends_by cell old) d n m front_ends behind_ends n
          (omega arith)))
          (subst (λ b. Span n (slice_index (cell.from ∷ ends_by cell old) n) b)
          (sym (front_at cuts cell.to n (omega (arith, three, order, within, few)))) first)

      second_at : At m
      second_at =
          subst (λ a. Span m a (slice_index (ends_by cell cuts) m)) (sym starts)
          (subst (λ b. Span m start b) (sym stops) second)

      go : (k : ℕ) → (n < k) ⊎ (k ≤ n) → (k < m) ⊎ (m ≤ k) → n ≤ k → k ≤ m → At k
      go k (inl above) (inl below) low high = middle k above below
      go k (inr same) side low high = let e : n ≡ k = omega arith in subst At e first_at
      go k (inl above) (inr same) low high = let e : m ≡ k = omega arith in subst At e second_at

  pub line_closed : AllByRecursion (λ boundary. boundary ≡ cell.to) (drop (length arguments - 1) (ends_by cell old))
      → AllByRecursion (λ boundary. boundary ≡ cell.to) (drop (length arguments - 1) (ends_by cell cuts))
  line_closed closed =
      all_closed (length arguments - 1) cell.to (ends_by cell cuts)
      (λ k low less. behind_ends k (omega (arith, within, low))
      ∙ closed_at (length arguments - 1) cell.to (ends_by cell old) closed k low (omega (arith, less, four, four_old)))
