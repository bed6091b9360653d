-- A spread of spare letters is a way: the greatest over all spreads is the greatest over all lengths of the parts.
use Rattle.std.proofs.Common.{◌≡◌, ℕ, zero, suc, ◌+◌, ◌-◌, ◌<◌, ◌≤◌, min, max, List, [], ◌∷◌, sum, ◌⊎◌, inl, inr, refl, sym, ap, subst, ◌∙◌, arith}
use Rattle.grammar_check.specs.declared.part.Part.{Part}
use Rattle.grammar_check.specs.Plans.{worth_of, greatest_from, rooms, lows, spread}
use Rattle.grammar_check.proofs.Spreads.{added_by}
use Rattle.grammar_check.proofs.PartRanges.{AreInParts, sum-first}

-- what parts of these lengths add together
abbrev pub total_of : (ℕ → ℕ → ℕ) → List Part → List ℕ → ℕ
total_of bound [] lengths = 0
total_of bound (part ∷ parts) [] = 0
total_of bound (part ∷ parts) (len ∷ lengths) = worth_of bound part.worth len + total_of bound parts lengths

less_or_same : (a b : ℕ) → a ≤ b → (a < b) ⊎ (a ≡ b)
less_or_same a b order = grind arith

-- ---- the greatest of some numbers

pub greatest_above : (number : ℕ → ℕ) (first count k : ℕ) → k < count → number (first + k) ≤ greatest_from number first count
greatest_above number first zero k below = absurd (omega arith)
greatest_above number first (suc count) k below = by (less_or_same k count (omega arith))
    (λ less. greatest_above number first count k less)
  where
    by : (k < count) ⊎ (k ≡ count) → (k < count → number (first + k) ≤ greatest_from number first count) → number (first + k) ≤ max (greatest_from number first count) (number (first + count))
    by (inl less) rest = let low = rest less in omega arith
    by (inr same) rest = subst (λ n. number (first + n) ≤ max (greatest_from number first count) (number (first + count))) (sym same) (omega arith)

max_cases : (a b : ℕ) → (max a b ≡ a) ⊎ (max a b ≡ b)
max_cases a b = grind arith

-- one of them is the greatest
pub greatest_found : (number : ℕ → ℕ) (first count : ℕ) → 0 < count → (k : ℕ) × (k < count) × (greatest_from number first count ≡ number (first + k))
greatest_found number first zero some = absurd (omega arith)
greatest_found number first (suc zero) some = (0, omega arith, omega arith)
greatest_found number first (suc (suc count)) some = by (max_cases (greatest_from number first (suc count)) (number (first + suc count))) (greatest_found number first (suc count) (omega arith))
  where
    by : (max (greatest_from number first (suc count)) (number (first + suc count)) ≡ greatest_from number first (suc count)) ⊎ (max (greatest_from number first (suc count)) (number (first + suc count)) ≡ number (first + suc count))
        → (k : ℕ) × (k < suc count) × (greatest_from number first (suc count) ≡ number (first + k))
        → (k : ℕ) × (k < suc (suc count)) × (max (greatest_from number first (suc count)) (number (first + suc count)) ≡ number (first + k))
    by (inl e) rest = (rest.0, omega (arith, rest.1), e ∙ rest.2)
    by (inr e) rest = (suc count, omega arith, e)

-- ---- lengths and spreads

-- lengths of the parts, their sum between the least and the greatest, add no more than the greatest spread
pub record IsWithinSpread (bound : ℕ → ℕ → ℕ) (parts : List Part) (lengths : List ℕ) : Type 0 where
  pub low : lows parts ≤ sum lengths
  pub high : sum lengths ≤ lows parts + rooms parts
  pub adds : total_of bound parts lengths ≤ spread bound parts (sum lengths - lows parts)

pub within_spread : (bound : ℕ → ℕ → ℕ) (parts : List Part) (lengths : List ℕ) → AreInParts parts lengths → IsWithinSpread bound parts lengths
within_spread bound [] [] fits = record { low = omega arith; high = omega arith; adds = omega arith }
within_spread bound [] (len ∷ lengths) fits = absurd fits
within_spread bound (part ∷ parts) [] fits = absurd fits
within_spread bound (part ∷ parts) (len ∷ lengths) fits =
    let total = sum-first len lengths in
    let rest = within_spread bound parts lengths fits.1 in
    let spare = sum (len ∷ lengths) - (part.low + lows parts) in
    let more = len - part.low in
    let first = spare - rooms parts in
    let above = greatest_above (added_by bound part parts spare) first (min spare part.room + 1 - first) (more - first) (omega (arith, fits.0.0, fits.0.1, rest.low, rest.high)) in
    let place : first + (more - first) ≡ more = omega (arith, fits.0.0, rest.low, rest.high) in
    let at : added_by bound part parts spare (first + (more - first)) ≡ added_by bound part parts spare more = ap (added_by bound part parts spare) place in
    let long : part.low + more ≡ len = omega (arith, fits.0.0) in
    let left : spare - more ≡ sum lengths - lows parts = omega (arith, fits.0.0, rest.low) in
    let here : added_by bound part parts spare more ≡ worth_of bound part.worth len + spread bound parts (sum lengths - lows parts) =
    ap (λ l. worth_of bound part.worth l + spread bound parts (spare - more)) long ∙ ap (λ s. worth_of bound part.worth len + spread bound parts s) left in
    record {
      low = omega (arith, fits.0.0, rest.low);
      high = omega (arith, fits.0.1, rest.high);
      adds = omega (arith, rest.adds, above, at, here);
    }

-- lengths that add the greatest spread
pub record IsSpreadBy (bound : ℕ → ℕ → ℕ) (parts : List Part) (spare : ℕ) : Type 0 where
  pub lengths : List ℕ
  pub fit : AreInParts parts lengths
  pub sum_is : sum lengths ≡ lows parts + spare
  pub adds : spread bound parts spare ≡ total_of bound parts lengths

pub spread_found : (bound : ℕ → ℕ → ℕ) (parts : List Part) (spare : ℕ) → spare ≤ rooms parts → IsSpreadBy bound parts spare
spread_found bound [] spare few = record { lengths = []; fit = tt; sum_is = omega arith; adds = refl }
spread_found bound (part ∷ parts) spare few = by (greatest_found (added_by bound part parts spare) (spare - rooms parts) (min spare part.room + 1 - (spare - rooms parts)) (omega arith)) (λ more enough. spread_found bound parts (spare - more) enough)
  where
    by : (k : ℕ) × (k < min spare part.room + 1 - (spare - rooms parts)) × (greatest_from (added_by bound part parts spare) (spare - rooms parts) (min spare part.room + 1 - (spare - rooms parts)) ≡ added_by bound part parts spare ((spare - rooms parts) + k))
        → ((more : ℕ) → spare - more ≤ rooms parts → IsSpreadBy bound parts (spare - more)) → IsSpreadBy bound (part ∷ parts) spare
    by found others =
        let more = (spare - rooms parts) + found.0 in
        let rest = others more (omega arith) in
        let total = sum-first (part.low + more) rest.lengths in
        record {
          lengths = (part.low + more) ∷ rest.lengths;
          fit = ((omega arith, omega (arith, found.1)), rest.fit);
          sum_is = omega (arith, found.1, rest.sum_is);
          adds = found.2 ∙ ap (λ s. worth_of bound part.worth (part.low + more) + s) rest.adds;
        }
