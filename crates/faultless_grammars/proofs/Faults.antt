-- A grammar has a fault under a name, or has none under an algebra of that name: it can't be that neither is so.
use Rattle.std.proofs.Common.{ℕ, zero, suc, ◌<◌, ◌⊎◌, inl, inr, List, length, sym, subst, arith}
use Rattle.std.proofs.lemmas.Bool.{cases_eq}
use Rattle.adp_model.specs.declared.grammar.Grammar.{Grammar}
use Rattle.adp_model.specs.Lengths.{IsProductive}
use Rattle.adp_model.specs.Loops.{IsOnLoop}
use Rattle.adp_model.specs.GrammarSigns.{HasMonotoneTerm}
use Rattle.adp_model.specs.GrammarFaults.{IsNamed, IsFirstFaulty, IsUnproductive, IsOffLoops, HasOtherTerm, HasPossibleAlternatives, HasImpossibleAlternative, NoAlgebra, Unproductive, Loop, NotMonotone, Impossible}
use Rattle.faultless_grammars.specs.Irrefutable.{IsFaultyOrSound, IsIrrefutable}
use Rattle.faultless_grammars.proofs.Deciding.{and_then, decided, it_holds}

-- ---- the first that is faulty

abbrev AllSound : (ℕ → Type 0) → ℕ → Type 0
AllSound IsSound count = (n : ℕ) → n < count → IsSound n

abbrev pub FirstOrNone : (ℕ → Type 0) → (ℕ → Type 0) → ℕ → Type 0
FirstOrNone IsFaulty IsSound count = ((n : ℕ) × IsFirstFaulty IsFaulty IsSound count n) ⊎ AllSound IsSound count

module _ (IsFaulty IsSound : ℕ → Type 0) where
  one_more : (count : ℕ) → IsFaulty count ⊎ IsSound count → FirstOrNone IsFaulty IsSound count
      → FirstOrNone IsFaulty IsSound (suc count)
  one_more count case (inl (n, first)) =
      inl (n, record { in_range = omega (arith, first.in_range); faulty = first.faulty; before = first.before })
  one_more count (inl faulty) (inr all) = inl (count, record { in_range = omega arith; faulty = faulty; before = all })
  one_more count (inr sound) (inr all) = inr (λ n inside. elim (cases_eq n count) [
    | inl same ↦ subst IsSound (sym same) sound
    | inr differs ↦ all n (grind (arith, inside, differs))
  ])

  pub first_or_none : ((n : ℕ) → IsIrrefutable (IsFaulty n ⊎ IsSound n)) → (count : ℕ)
      → IsIrrefutable (FirstOrNone IsFaulty IsSound count)
  first_or_none each zero = it_holds _ (inr (λ n inside. absurd (omega (arith, inside))))
  first_or_none each (suc count) =
      and_then _ _ (first_or_none each count) (λ earlier.
      and_then _ _ (each count) (λ case.
      it_holds _ (one_more count case earlier)))

-- where nothing faulty is sound
swapped : (P : Type 0) → P ⊎ (P → ⊥) → (P → ⊥) ⊎ P
swapped P (inl is) = inr is
swapped P (inr none) = inl none

pub first_that_fails : (IsSound : ℕ → Type 0) (count : ℕ)
    → IsIrrefutable (FirstOrNone (λ n. IsSound n → ⊥) IsSound count)
first_that_fails IsSound count =
    first_or_none (λ n. IsSound n → ⊥) IsSound
    (λ n. and_then _ _ (decided (IsSound n)) (λ case. it_holds _ (swapped (IsSound n) case))) count

-- ---- the grammar

module _ (grammar : Grammar) (name : List ℕ) where
  abbrev Judged : Type 0
  Judged = IsFaultyOrSound grammar name

  named_judged : (algebra : ℕ) → IsNamed grammar name algebra → IsIrrefutable Judged
  named_judged algebra named =
      and_then _ _ (first_that_fails (IsProductive grammar) (length grammar.rules)) (λ productive.
      and_then _ _ (first_or_none (IsOnLoop grammar) (IsOffLoops grammar) (λ n. decided (IsOnLoop grammar n)) (length grammar.rules)) (λ off.
      and_then _ _ (first_that_fails (HasMonotoneTerm grammar algebra) (length grammar.signs)) (λ monotone.
      and_then _ _ (first_that_fails (HasPossibleAlternatives grammar) (length grammar.rules)) (λ possible.
      it_holds _ (by productive off monotone possible)))))
    where
      by : FirstOrNone (IsUnproductive grammar) (IsProductive grammar) (length grammar.rules)
          → FirstOrNone (IsOnLoop grammar) (IsOffLoops grammar) (length grammar.rules)
          → FirstOrNone (HasOtherTerm grammar algebra) (HasMonotoneTerm grammar algebra) (length grammar.signs)
          → FirstOrNone (HasImpossibleAlternative grammar) (HasPossibleAlternatives grammar) (length grammar.rules)
          → Judged
      by (inl (rule, first)) off monotone possible = inl (_, Unproductive algebra rule named first)
      by (inr productive) (inl (rule, first)) monotone possible = inl (_, Loop algebra rule named productive first)
      by (inr productive) (inr off) (inl (sign, first)) possible =
          inl (_, NotMonotone algebra sign named productive off first)
      by (inr productive) (inr off) (inr monotone) (inl (rule, first)) =
          inl (_, Impossible algebra rule named productive off monotone first)
      by (inr productive) (inr off) (inr monotone) (inr possible) = inr (
        algebra,
        record { named = named; productive = productive; no_loop = off; monotone = monotone; possible = possible },
      )

  pub judged : IsIrrefutable Judged
  judged =
      and_then _ _ (decided ((algebra : ℕ) × IsNamed grammar name algebra)) (λ case. elim case [
        | inl found ↦ named_judged found.0 found.1
        | inr none ↦ it_holds _ (inl (_, NoAlgebra (λ algebra named. none (algebra, named))))
      ])
