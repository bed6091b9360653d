-- How many numbers below a bound there are of which something holds.
use Rattle.std.proofs.Common.{◌≡◌, ℕ, zero, suc, ◌<◌, ◌≤◌, ◌⊎◌, inl, inr, refl, sym, subst, arith}
use Rattle.std.proofs.lemmas.Bool.{cases_eq}
use Rattle.faultless_grammars.specs.Irrefutable.{IsIrrefutable}
use Rattle.faultless_grammars.proofs.Deciding.{it_holds, and_then, decided}

abbrev pub Counts : (ℕ → Type 0) → ℕ → ℕ → Type 0
Counts Holds zero count = count ≡ 0
Counts Holds (suc bound) count =
    (Holds bound × (fewer : ℕ) × (count ≡ suc fewer) × Counts Holds bound fewer)
    ⊎ ((Holds bound → ⊥) × Counts Holds bound count)

pub counted : (Holds : ℕ → Type 0) (bound : ℕ) → IsIrrefutable ((count : ℕ) × Counts Holds bound count)
counted Holds zero = it_holds _ (0, refl)
counted Holds (suc bound) =
    and_then _ _ (counted Holds bound) (λ fewer.
    and_then _ _ (decided (Holds bound)) (λ case. elim case [
      | inl here ↦ it_holds _ (suc fewer.0, inl (here, fewer.0, refl, fewer.1))
      | inr none ↦ it_holds _ (fewer.0, inr (none, fewer.1))
    ]))

-- as many at least where more holds
count_rises : (Holds Other : ℕ → Type 0) → ((n : ℕ) → Holds n → Other n) → (bound count more : ℕ)
    → Counts Holds bound count → Counts Other bound more → count ≤ more
count_rises Holds Other goes zero count more h k = omega (arith, h, k)
count_rises Holds Other goes (suc bound) count more (inl (here, fewer, is, h)) (inl (there, fewer', is', k)) =
    let low = count_rises Holds Other goes bound fewer fewer' h k in
    omega (arith, is, is', low)
count_rises Holds Other goes (suc bound) count more (inl (here, fewer, is, h)) (inr (none, k)) =
    absurd (none (goes bound here))
count_rises Holds Other goes (suc bound) count more (inr (none, h)) (inl (there, fewer', is', k)) =
    let low = count_rises Holds Other goes bound count fewer' h k in
    omega (arith, is', low)
count_rises Holds Other goes (suc bound) count more (inr (none, h)) (inr (none', k)) =
    count_rises Holds Other goes bound count more h k

-- one more bound, where what is looked for is the last number or stands before it
module _ (Holds Other : ℕ → Type 0) (goes : (n : ℕ) → Holds n → Other n) (at : ℕ) (none : Holds at → ⊥) (there : Other at)
  where
    abbrev Grows : ℕ → Type 0
    Grows bound =
        (count more : ℕ) → at < bound → Counts Holds bound count → Counts Other bound more → count < more

    grows_here : (bound count more : ℕ) → at ≡ bound → Counts Holds (suc bound) count → Counts Other (suc bound) more
        → count < more
    grows_here bound count more same (inl (here, fewer, is, h)) k = absurd (none (subst Holds (sym same) here))
    grows_here bound count more same (inr h) (inr (none', k)) = absurd (none' (subst Other same there))
    grows_here bound count more same (inr (none', h)) (inl (there', fewer, is, k)) =
        let few = count_rises Holds Other goes bound count fewer h k in
        omega (arith, is, few)

    grows_before : (bound count more : ℕ) → at < bound → Grows bound → Counts Holds (suc bound) count
        → Counts Other (suc bound) more → count < more
    grows_before bound count more low grows (inl (here, fewer, is, h)) (inl (there', fewer', is', k)) =
        let less = grows fewer fewer' low h k in
        omega (arith, is, is', less)
    grows_before bound count more low grows (inl (here, fewer, is, h)) (inr (none', k)) = absurd (none' (goes bound here))
    grows_before bound count more low grows (inr (none', h)) (inl (there', fewer', is', k)) =
        let less = grows count fewer' low h k in
        omega (arith, is', less)
    grows_before bound count more low grows (inr (none', h)) (inr (none'', k)) = grows count more low h k

    -- and more where the other holds of a number below the bound, of which the first doesn't
    pub count_grows : (bound count more : ℕ) → at < bound → Counts Holds bound count → Counts Other bound more
        → count < more
    count_grows zero count more low h k = absurd (omega (arith, low))
    count_grows (suc bound) count more low h k = elim (cases_eq at bound) [
      | inl same ↦ grows_here bound count more same h k
      | inr differs ↦ grows_before bound count more (grind (arith, low, differs)) (count_grows bound) h k
    ]

all_counted : (bound : ℕ) → Counts (λ n. Unit {0}) bound bound
all_counted zero = refl
all_counted (suc bound) = inl (tt, bound, refl, all_counted bound)

-- fewer than the bound, where it doesn't hold of one below the bound
pub count_below : (Holds : ℕ → Type 0) (at bound count : ℕ) → (Holds at → ⊥) → at < bound → Counts Holds bound count
    → count < bound
count_below Holds at bound count none low h =
    count_grows Holds (λ n. Unit {0}) (λ n is. tt) at none tt bound count bound low h (all_counted bound)
