use Rattle.std.proofs.Common.{◌≡◌, ◌⊎◌, ℤ, Option, Some, FitsSigned, w64, to_z, of_z, inl, inr, sym, ap, ◌∙◌, arith, rules}
use Rattle.std.specs.Int.{int_max}
use Rattle.std.proofs.lemmas.Int.{ints, int_max_is, to_z-of_z}
use Rattle.score_numbers.specs.Greatest.{IsGreatestOf}
use Rattle.score_numbers.proofs.LargestSums.{max_cases}
use Rattle.score_numbers.proofs.numbers.greater.Goals as goal

greater_is : (first second : Option ℤ) (a b greatest : ℤ) → first ≡ Some a → second ≡ Some b → greatest ≡ int_max a b → IsGreatestOf (λ number. (first ≡ Some number) ⊎ (second ≡ Some number)) (Some greatest)
greater_is first second a b greatest is is' e = (
  elim (max_cases a b) [ inl it ↦ inl (is ∙ ap Some (sym (e ∙ it.0))) | inr it ↦ inr (is' ∙ ap Some (sym (e ∙ it.0))) ],
  λ number h. elim h [
    | inl x ↦ (let same : number ≡ a = cc in omega (arith, ints, int_max_is a b))
    | inr x ↦ (let same : number ≡ b = cc in omega (arith, ints, int_max_is a b))
  ],
)

pub returns-in-Some-Some : goal.returns-in-Some-Some
returns-in-Some-Some c =
    let fits_a : FitsSigned w64 c.in-Some-Some.a = search rules in
    let fits_b : FitsSigned w64 c.in-Some-Some.b = search rules in
    let fits : FitsSigned w64 c.max.result = search rules in
    let max : c.max.result ≡ int_max c.in-Some-Some.a c.in-Some-Some.b = simp to_z-of_z at c.max.ensures.value in
    greater_is c.args.first c.args.second c.in-Some-Some.a c.in-Some-Some.b (to_z w64 (of_z w64 c.max.result)) c.in-Some-Some.is-0 c.in-Some-Some.is-1 (to_z-of_z w64 c.max.result fits ∙ max)
