-- The leaves of a wide term tell which values stand in it.
use Rattle.std.proofs.Common.{ℕ, ◌≤◌, ◌++◌, List, [], ◌∷◌, sym, arith}
use Rattle.std.specs.List.{AllByRecursion}
use Rattle.adp_model.specs.WideForm as wide
use Rattle.adp_model.specs.WideForm.{Number, Value, Sum, Difference, Product, Greater, Lesser}
use Rattle.adp_model.specs.declared.grammar.Term.{Term}
use Rattle.adp_model.specs.declared.grammar.Term.TheVariants.{Linear, Wide}
use Rattle.adp_model.specs.Terms.{leaves}
use Rattle.adp_model.specs.TermForms.{IsLeafFor, IsTermFor}
use Rattle.term_values.specs.Lowering.{IsForFew, most_arguments}
use Rattle.term_values.specs.Values.{HasWideValues, HasValues}

all_first : {A : Type 0} (P : A → Type 0) (xs ys : List A) → AllByRecursion P (xs ++ ys) → AllByRecursion P xs
all_first P [] ys h = tt
all_first P (x ∷ xs) ys h = (h.0, all_first P xs ys h.1)

all_second : {A : Type 0} (P : A → Type 0) (xs ys : List A) → AllByRecursion P (xs ++ ys) → AllByRecursion P ys
all_second P [] ys h = h
all_second P (x ∷ xs) ys h = all_second P xs ys h.1

wide_values : (count : ℕ) (term : wide.WideForm) → AllByRecursion (IsLeafFor count) (leaves term) → HasWideValues count term
wide_values count (Number number) h = tt
wide_values count (Value place) h = h.0
wide_values count (Sum left right) h = (wide_values count left (all_first _ _ _ h), wide_values count right (all_second _ (leaves left) _ h))
wide_values count (Difference left right) h = (wide_values count left (all_first _ _ _ h), wide_values count right (all_second _ (leaves left) _ h))
wide_values count (Product left right) h = (wide_values count left (all_first _ _ _ h), wide_values count right (all_second _ (leaves left) _ h))
wide_values count (Greater left right) h = (wide_values count left (all_first _ _ _ h), wide_values count right (all_second _ (leaves left) _ h))
wide_values count (Lesser left right) h = (wide_values count left (all_first _ _ _ h), wide_values count right (all_second _ (leaves left) _ h))

pub values_of_term : (count : ℕ) (term : Term) → IsTermFor count term → HasValues count term
values_of_term count (Linear term) h = sym h.factors
values_of_term count (Wide term) h = wide_values count term h.right

more_values : (count more : ℕ) (term : wide.WideForm) → count ≤ more → HasWideValues count term → HasWideValues more term
more_values count more (Number number) h has = tt
more_values count more (Value place) h has = omega arith
more_values count more (Sum left right) h has = (more_values count more left h has.0, more_values count more right h has.1)
more_values count more (Difference left right) h has = (more_values count more left h has.0, more_values count more right h has.1)
more_values count more (Product left right) h has = (more_values count more left h has.0, more_values count more right h has.1)
more_values count more (Greater left right) h has = (more_values count more left h has.0, more_values count more right h has.1)
more_values count more (Lesser left right) h has = (more_values count more left h has.0, more_values count more right h has.1)

pub few_values : (term : wide.WideForm) → IsForFew (Wide term) → HasWideValues most_arguments term
few_values term is = more_values is.count most_arguments term is.few (values_of_term is.count (Wide term) is.fits)
