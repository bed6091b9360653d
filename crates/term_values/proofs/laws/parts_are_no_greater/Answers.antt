use Rattle.std.proofs.Common.{◌≡◌, ℕ, ◌*◌, ◌≤◌, max, inl, inr, List, ap, arith}
use Rattle.std.proofs.Math.Nat.{mul-le-mul}
use Rattle.adp_model.specs.WideForm as wide
use Rattle.adp_model.specs.WideForm.{Number, Value, Sum, Difference, Product, Greater, Lesser}
use Rattle.adp_model.specs.Terms.{wide_magnitude}
use Rattle.term_values.specs.TermParts.{IsPartOf}
use Rattle.term_values.proofs.laws.parts_are_no_greater.Goals as goal

left_factor : (m n : ℕ) → m ≤ max 1 m * max 1 n
left_factor m n = let h : m * 1 ≤ max 1 m * max 1 n = mul-le-mul (omega arith) (omega arith) in omega (arith, h)

right_factor : (m n : ℕ) → n ≤ max 1 m * max 1 n
right_factor m n = let h : 1 * n ≤ max 1 m * max 1 n = mul-le-mul (omega arith) (omega arith) in omega (arith, h)

module _ (part : wide.WideForm) (numbers : List ℕ) where
  same : (term : wide.WideForm) → part ≡ term → wide_magnitude part numbers ≤ wide_magnitude term numbers
  same term h = let e = ap (λ t. wide_magnitude t numbers) h in omega (arith, e)

  no_greater : (term : wide.WideForm) → IsPartOf part term → wide_magnitude part numbers ≤ wide_magnitude term numbers
  no_greater (Number number) h = same (Number number) h
  no_greater (Value place) h = same (Value place) h
  no_greater (Sum left right) (inl h) = same (Sum left right) h
  no_greater (Sum left right) (inr (inl h)) = omega (arith, no_greater left h)
  no_greater (Sum left right) (inr (inr h)) = omega (arith, no_greater right h)
  no_greater (Difference left right) (inl h) = same (Difference left right) h
  no_greater (Difference left right) (inr (inl h)) = omega (arith, no_greater left h)
  no_greater (Difference left right) (inr (inr h)) = omega (arith, no_greater right h)
  no_greater (Product left right) (inl h) = same (Product left right) h
  no_greater (Product left right) (inr (inl h)) =
      let inner = no_greater left h in
      let outer = left_factor (wide_magnitude left numbers) (wide_magnitude right numbers) in omega (arith, inner, outer)
  no_greater (Product left right) (inr (inr h)) =
      let inner = no_greater right h in
      let outer = right_factor (wide_magnitude left numbers) (wide_magnitude right numbers) in omega (arith, inner, outer)
  no_greater (Greater left right) (inl h) = same (Greater left right) h
  no_greater (Greater left right) (inr (inl h)) = omega (arith, no_greater left h)
  no_greater (Greater left right) (inr (inr h)) = omega (arith, no_greater right h)
  no_greater (Lesser left right) (inl h) = same (Lesser left right) h
  no_greater (Lesser left right) (inr (inl h)) = omega (arith, no_greater left h)
  no_greater (Lesser left right) (inr (inr h)) = omega (arith, no_greater right h)

pub returns : goal.returns
returns c = λ part term h numbers. no_greater part numbers term h
