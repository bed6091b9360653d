-- What parts of a wide term come to at numbers side by side.
use Rattle.std.proofs.Common.{◌≡◌, ℕ, ◌*◌, max, ◌≤◌, ℤ, pos, ◌+ℤ◌, ◌-ℤ◌, ◌*ℤ◌, nat_abs, Some, List, length, map, replicate, get_or, slice_get, ap, sym, subst, ◌∙◌, arith}
use Rattle.std.specs.Int.{int_max, int_min}
use Rattle.std.proofs.lemmas.List.{get_or-set_other}
use Rattle.std.proofs.Math.ListN.{get_or-map}
use Rattle.std.proofs.Math.Nat.{mul-le-mul}
use Rattle.adp_model.specs.WideForm as wide
use Rattle.adp_model.specs.WideForm.{WideForm}
use Rattle.adp_model.specs.declared.grammar.Term.{Term}
use Rattle.adp_model.specs.declared.grammar.Term.TheVariants as terms
use Rattle.adp_model.specs.Terms.{magnitude, term_value, wide_magnitude, wide_value}
use Rattle.score_numbers.specs.declared.term_lines.TermLine.{TermLine}
use Rattle.score_numbers.specs.Lanes.{AreCombined}
use Rattle.score_numbers.specs.TermLines.{HoldsValues, values_at}
use Rattle.score_numbers.proofs.Combined.{replicate_at}
use Rattle.score_numbers.proofs.LargestSums.{some_position}

-- values are within magnitudes
abbrev pub AreWithin : Type 0
AreWithin = (term : Term) (values : List ℤ) → nat_abs (term_value term values) ≤ magnitude term (map nat_abs values)

left_of_product : (m n : ℕ) → m ≤ max 1 m * max 1 n
left_of_product m n = let all : max 1 m * 1 ≤ max 1 m * max 1 n = mul-le-mul (omega arith) (omega arith) in omega (arith, all)

right_of_product : (m n : ℕ) → n ≤ max 1 m * max 1 n
right_of_product m n = let all : 1 * max 1 n ≤ max 1 m * max 1 n = mul-le-mul (omega arith) (omega arith) in omega (arith, all)

abs_at : (values : List ℤ) (place : ℕ) → get_or (map nat_abs values) place 0 ≡ nat_abs (get_or values place (pos 0))
abs_at values place = get_or-map nat_abs values place (pos 0)

module _ (limit : ℕ) (line : TermLine) (befores behinds numbers : List ℤ) (as_many : length befores ≤ 64) where
  -- the same number everywhere
  pub number_held : (number : ℤ) → (nat_abs number ≤ limit → numbers ≡ replicate 64 number) → HoldsValues limit line (wide.Number number) befores behinds numbers
  number_held number is k before behind there there' low =
      ap (λ xs. slice_get xs k) (is low) ∙ replicate_at 64 k number (omega (arith, as_many, some_position befores k before there))

  -- an argument that is none of the two
  pub fixed_held : (place : ℕ) (number : ℤ) → (place ≡ line.before → ⊥) → (place ≡ line.behind → ⊥) → number ≡ get_or line.values.now place (pos 0) → (nat_abs number ≤ limit → numbers ≡ replicate 64 number)
      → HoldsValues limit line (wide.Value place) befores behinds numbers
  fixed_held place number apart apart' is all k before behind there there' low =
      let same : get_or (values_at line before behind) place (pos 0) ≡ number =
      get_or-set_other _ line.behind place _ (pos 0) apart' ∙ get_or-set_other line.values.now line.before place _ (pos 0) apart ∙ sym is in
      let within : nat_abs number ≤ limit = subst (λ n. nat_abs n ≤ limit) same (subst (λ n. n ≤ limit) (abs_at (values_at line before behind) place) low) in
      number_held number all k before behind there there' within ∙ ap Some (sym same)

module _ (within : AreWithin) (limit : ℕ) (line : TermLine) (left right : WideForm) (befores behinds ones others numbers : List ℤ)
    (lefts : HoldsValues limit line left befores behinds ones) (rights : HoldsValues limit line right befores behinds others) where
  pub sum_held : AreCombined limit (λ one other. one +ℤ other) ones others numbers → HoldsValues limit line (wide.Sum left right) befores behinds numbers
  sum_held combined k before behind there there' low =
      let bound = within (terms.Wide (wide.Sum left right)) (values_at line before behind) in
      combined k (wide_value left (values_at line before behind)) (wide_value right (values_at line before behind)) (lefts k before behind there there' (omega (arith, low))) (rights k before behind there there' (omega (arith, low))) (omega (arith, bound, low))

  pub difference_held : AreCombined limit (λ one other. one -ℤ other) ones others numbers → HoldsValues limit line (wide.Difference left right) befores behinds numbers
  difference_held combined k before behind there there' low =
      let bound = within (terms.Wide (wide.Difference left right)) (values_at line before behind) in
      combined k (wide_value left (values_at line before behind)) (wide_value right (values_at line before behind)) (lefts k before behind there there' (omega (arith, low))) (rights k before behind there there' (omega (arith, low))) (omega (arith, bound, low))

  pub product_held : AreCombined limit (λ one other. one *ℤ other) ones others numbers → HoldsValues limit line (wide.Product left right) befores behinds numbers
  product_held combined k before behind there there' low =
      let values = values_at line before behind in
      let bound = within (terms.Wide (wide.Product left right)) values in
      let l = left_of_product (wide_magnitude left (map nat_abs values)) (wide_magnitude right (map nat_abs values)) in
      let r = right_of_product (wide_magnitude left (map nat_abs values)) (wide_magnitude right (map nat_abs values)) in
      combined k (wide_value left values) (wide_value right values) (lefts k before behind there there' (omega (arith, low, l))) (rights k before behind there there' (omega (arith, low, r))) (omega (arith, bound, low))

  pub greater_held : AreCombined limit (λ one other. int_max one other) ones others numbers → HoldsValues limit line (wide.Greater left right) befores behinds numbers
  greater_held combined k before behind there there' low =
      let bound = within (terms.Wide (wide.Greater left right)) (values_at line before behind) in
      combined k (wide_value left (values_at line before behind)) (wide_value right (values_at line before behind)) (lefts k before behind there there' (omega (arith, low))) (rights k before behind there there' (omega (arith, low))) (omega (arith, bound, low))

  pub lesser_held : AreCombined limit (λ one other. int_min one other) ones others numbers → HoldsValues limit line (wide.Lesser left right) befores behinds numbers
  lesser_held combined k before behind there there' low =
      let bound = within (terms.Wide (wide.Lesser left right)) (values_at line before behind) in
      combined k (wide_value left (values_at line before behind)) (wide_value right (values_at line before behind)) (lefts k before behind there there' (omega (arith, low))) (rights k before behind there there' (omega (arith, low))) (omega (arith, bound, low))
