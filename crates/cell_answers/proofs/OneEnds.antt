-- Totals of arguments the first of which may end at one position alone: a token of fixed length, or the last of all
-- arguments.
use Rattle.std.proofs.Common.{◌≡◌, ℕ, ℤ, pos, ◌+ℤ◌, ◌*ℤ◌, Some, None, List, [], ◌∷◌, length, refl, subst, arith}
use Rattle.std.proofs.lemmas.Int.{ints}
use Rattle.adp_model.specs.declared.grammar.Arg.{Arg}
use Rattle.adp_model.specs.declared.grammar.Arg.TheVariants.{Rule, Literal, Letter, Run}
use Rattle.adp_model.specs.declared.cell.Cell.{Cell}
use Rattle.adp_model.specs.PosedProblem.{PosedProblem}
use Rattle.adp_model.specs.Tokens.{letters_between, token_value}
use Rattle.adp_model.specs.Splits.{FitsSpan}
use Rattle.adp_model.specs.FirstSplit.{IsValue}
use Rattle.viable_splits.specs.Placing.{on_span, Cover}
use Rattle.split_lines.specs.Laid.{IsFixed}
use Rattle.cell_answers.specs.Through.{HasTotalAt}
use Rattle.cell_answers.specs.Totals.{HasTotal}
use Rattle.score_numbers.specs.Greatest.{IsGreatestOf}
use Rattle.cell_answers.proofs.Dividing.{cover_forward}
use Rattle.cell_answers.proofs.Greatest.{greatest_same}
use Rattle.cell_answers.proofs.Totalling.{OneScore, values_cover, total_at, at_total, greatest_at}
use Rattle.split_lines.specs.Ends.{IsEndTold}

-- ---- no end

module _ (p : PosedProblem) (argument : Arg) (others : List Arg) (from to : ℕ)
    (none : (end : ℕ) → FitsSpan p (on_span argument from end) → Cover p others end to → ⊥) where
  pub total_nowhere : (HasScore : Cell → ℤ → Type 0) (factor : ℤ) (factors : List ℤ)
      → IsGreatestOf (HasTotal p HasScore (argument ∷ others) (factor ∷ factors) from to) None
  total_nowhere HasScore factor factors number total =
      let cover = values_cover p HasScore (argument ∷ others) from to total.0 total.1 in
      none cover.0 cover.1 cover.2

-- ---- one end

module _ (p : PosedProblem) (argument : Arg) (others : List Arg) (from to end : ℕ)
    (fits : FitsSpan p (on_span argument from end)) (only : (other : ℕ) → FitsSpan p (on_span argument from other)
    → Cover p others other to → other ≡ end) where
  module _ (HasScore : Cell → ℤ → Type 0) (factor : ℤ) (factors : List ℤ) where
    at_end : (total : ℤ) → HasTotal p HasScore (argument ∷ others) (factor ∷ factors) from to total
        → HasTotalAt p HasScore argument others factor factors from end to total
    at_end total has =
        let it = total_at p HasScore argument others factor factors from to total has in
        let cover = values_cover p HasScore others it.0 to it.1.have_others.0 it.1.have_others.1 in
        subst (λ at. HasTotalAt p HasScore argument others factor factors from at to total) (only it.0 it.1.fits cover) it.1

    pub greatest_from : OneScore HasScore → (value rest : ℤ) → IsValue p HasScore (on_span argument from end) value
        → IsGreatestOf (HasTotal p HasScore others factors end to) (Some rest)
        → IsGreatestOf (HasTotal p HasScore (argument ∷ others) (factor ∷ factors) from to) (Some ((factor *ℤ value) +ℤ rest))
    greatest_from one value rest is_value greatest =
        greatest_same (HasTotalAt p HasScore argument others factor factors from end to)
        (HasTotal p HasScore (argument ∷ others) (factor ∷ factors) from to) (Some ((factor *ℤ value) +ℤ rest))
        (λ total at. at_total p HasScore argument others factor factors from to end total at) at_end
        (greatest_at p HasScore argument others factor factors from to one end value rest fits is_value greatest)

    pub none_from : IsGreatestOf (HasTotal p HasScore others factors end to) None
        → IsGreatestOf (HasTotal p HasScore (argument ∷ others) (factor ∷ factors) from to) None
    none_from none total has = let it = at_end total has in none it.others it.have_others

    pub unvalued_from : ((value : ℤ) → IsValue p HasScore (on_span argument from end) value → ⊥)
        → IsGreatestOf (HasTotal p HasScore (argument ∷ others) (factor ∷ factors) from to) None
    unvalued_from none total has = let it = at_end total has in none it.value it.is_value

-- ---- a token of fixed length

module _ (p : PosedProblem) (token : Arg) (others : List Arg) (from to : ℕ) where
  pub none_ends : IsEndTold p token from to None → (end : ℕ) → FitsSpan p (on_span token from end) → Cover p others end to → ⊥
  none_ends told end fits cover = let e = (told end).1 (cover_forward p others end to cover, fits) in absurd cc

  pub one_ends : (end : ℕ) → IsEndTold p token from to (Some end) → (other : ℕ) → FitsSpan p (on_span token from other) → Cover p others other to → other ≡ end
  one_ends end told other fits cover = let e = (told other).1 (cover_forward p others other to cover, fits) in cc

pub fixed_value : (p : PosedProblem) (HasScore : Cell → ℤ → Type 0) (token : Arg) (from to : ℕ) → IsFixed token
    → IsValue p HasScore (on_span token from to) (token_value p.grammar token (letters_between p.word from to))
fixed_value p HasScore (Rule rule) from to fixed = absurd fixed
fixed_value p HasScore (Literal text) from to fixed = refl
fixed_value p HasScore (Letter class) from to fixed = refl
fixed_value p HasScore (Run class low high) from to fixed = absurd fixed

-- ---- nothing behind

pub empty_without : {X : Type 0} (xs : List X) → length xs ≡ 0 → xs ≡ []
empty_without [] l = refl
empty_without (x ∷ xs) l = absurd (omega arith)

pub nothing_more : (a : ℤ) → (a +ℤ pos 0) ≡ a
nothing_more a = omega (arith, ints)

pub total_of_none : (p : PosedProblem) (HasScore : Cell → ℤ → Type 0) (factors : List ℤ) (at : ℕ) → length factors ≡ 0
    → IsGreatestOf (HasTotal p HasScore [] factors at at) (Some (pos 0))
total_of_none p HasScore [] at l = (([], refl, refl), λ number (values, have, is). omega (arith, ints))
total_of_none p HasScore (factor ∷ factors) at l = absurd (omega arith)

-- ---- the last argument

module _ (p : PosedProblem) (argument : Arg) (from to : ℕ) where
  pub last_misses : (FitsSpan p (on_span argument from to) → ⊥) → (end : ℕ) → FitsSpan p (on_span argument from end) → Cover p [] end to → ⊥
  last_misses none end fits cover = none (subst (λ at. FitsSpan p (on_span argument from at)) cover fits)
