-- Ranks of which one is greater by one.
use Rattle.std.proofs.Common.{◌≡◌, ℕ, zero, suc, ◌<◌, ◌≤◌, ◌⊎◌, inl, inr, List, [], ◌∷◌, length, refl, ap, arith, ⊎_elim}
use Rattle.std.specs.List.{AllZip}
use Rattle.std.proofs.lemmas.Bool.{cases_lt}
use Rattle.k_best.specs.Growing.{AreUnder, raised}
use Rattle.k_best.specs.RankedRows.{BeginWith}

-- ranks that are no greater are the same, or are still no greater with one of them raised
pub same_or_raised : (ranks others : List ℕ) → AllZip ◌≤◌ ranks others
    → (ranks ≡ others) ⊎ ((number : ℕ) × (number < length ranks) × AreUnder (raised number ranks) others)
same_or_raised [] [] low = inl refl
same_or_raised [] (y ∷ ys) low = absurd low
same_or_raised (x ∷ xs) [] low = absurd low
same_or_raised (x ∷ xs) (y ∷ ys) low =
    ⊎_elim
    (λ less. inr (zero, omega arith, (let l : suc x ≤ y = omega arith in l, under xs ys low.1)))
    (λ more. go (let e : x ≡ y = omega (arith, low.0) in e) (same_or_raised xs ys low.1))
    (cases_lt x y)
  where
    under : (xs ys : List ℕ) → AllZip ◌≤◌ xs ys → AreUnder xs ys
    under [] ys low = tt
    under (x ∷ xs) [] low = absurd low
    under (x ∷ xs) (y ∷ ys) low = (low.0, under xs ys low.1)

    go : x ≡ y → (xs ≡ ys) ⊎ ((number : ℕ) × (number < length xs) × AreUnder (raised number xs) ys)
        → (x ∷ xs ≡ y ∷ ys) ⊎ ((number : ℕ) × (number < length (x ∷ xs)) × AreUnder (raised number (x ∷ xs)) (y ∷ ys))
    go same (inl rest) = inl (λ i. same i ∷ rest i)
    go same (inr rest) = let l = rest.1 in inr (suc rest.0, omega arith, (omega (arith, same), rest.2))

-- they are greater
pub raised_above : (number : ℕ) (ranks : List ℕ) → AllZip ◌≤◌ ranks (raised number ranks)
raised_above number [] = tt
raised_above zero (x ∷ xs) = (omega arith, same xs)
  where
    same : (xs : List ℕ) → AllZip ◌≤◌ xs xs
    same [] = tt
    same (x ∷ xs) = (omega arith, same xs)
raised_above (suc number) (x ∷ xs) = (omega arith, raised_above number xs)

pub raised_differ : (number : ℕ) (ranks : List ℕ) → number < length ranks → raised number ranks ≡ ranks → ⊥
raised_differ number [] l e = omega arith
raised_differ zero (x ∷ xs) l e = let h : suc x ≡ x = cc in omega arith
raised_differ (suc number) (x ∷ xs) l e = raised_differ number xs (omega arith) (cc)

pub raised_length : (number : ℕ) (ranks : List ℕ) → length (raised number ranks) ≡ length ranks
raised_length number [] = refl
raised_length zero (x ∷ xs) = refl
raised_length (suc number) (x ∷ xs) = ap suc (raised_length number xs)

-- ranks of which all are begun by others that are as many are these
pub begun_same : (ranks others : List ℕ) → length ranks ≡ length others → BeginWith ranks others → ranks ≡ others
begun_same [] [] e b = refl
begun_same [] (y ∷ ys) e b = absurd (omega arith)
begun_same (x ∷ xs) [] e b = absurd b
begun_same (x ∷ xs) (y ∷ ys) e b = let rest = begun_same xs ys (omega arith) b.1 in λ i. b.0 i ∷ rest i
