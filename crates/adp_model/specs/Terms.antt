-- Terms of an algebra: their value at the values of a sign's arguments, their magnitude, and what it means that they keep
-- the order of scores.
use Rattle.std.specs.Prelude.{ℕ, ◌+◌, ◌*◌, ◌≡◌, max, ℤ, pos, ◌+ℤ◌, ◌-ℤ◌, ◌*ℤ◌, ◌≤ℤ◌, ◌<ℤ◌, ◌⊎◌, nat_abs, List, [], ◌∷◌, ◌++◌, slice_index, slice_index_or}
use Rattle.std.specs.Int.{int_max, int_min}
use Rattle.adp_model.specs.declared.grammar.Kind.{Kind}
use Rattle.adp_model.specs.declared.grammar.Kind.TheVariants.{Score, Token}
use Rattle.adp_model.specs.declared.grammar.Linear as linear
use Rattle.adp_model.specs.WideForm as wide
use Rattle.adp_model.specs.WideForm.{Number, Value, Sum, Difference, Product, Greater, Lesser}
use Rattle.adp_model.specs.declared.grammar.Term.{Term}
use Rattle.adp_model.specs.declared.grammar.Term.TheVariants.{Linear, Wide}

-- each factor times its value, added up
abbrev pub weighted_sum : List ℤ → List ℤ → ℤ
weighted_sum [] values = pos 0
weighted_sum (factor ∷ factors) [] = pos 0
weighted_sum (factor ∷ factors) (value ∷ values) = (factor *ℤ value) +ℤ weighted_sum factors values

-- the value of a linear term, where its arguments have these values
abbrev pub linear_value : linear.Linear → List ℤ → ℤ
linear_value term values = term.constant +ℤ weighted_sum term.factors values

-- the value of a wide term, by its form
abbrev pub wide_value : wide.WideForm → List ℤ → ℤ
wide_value (Number number) values = number
wide_value (Value place) values = slice_index_or values place (pos 0)
wide_value (Sum left right) values = wide_value left values +ℤ wide_value right values
wide_value (Difference left right) values = wide_value left values -ℤ wide_value right values
wide_value (Product left right) values = wide_value left values *ℤ wide_value right values
wide_value (Greater left right) values = int_max (wide_value left values) (wide_value right values)
wide_value (Lesser left right) values = int_min (wide_value left values) (wide_value right values)

-- the value of a term, where its arguments have these values
abbrev pub term_value : Term → List ℤ → ℤ
term_value (Linear term) values = linear_value term values
term_value (Wide term) values = wide_value term values

-- each factor's absolute value times its number, added up
abbrev pub weighted_total : List ℤ → List ℕ → ℕ
weighted_total [] numbers = 0
weighted_total (factor ∷ factors) [] = 0
weighted_total (factor ∷ factors) (number ∷ numbers) = nat_abs factor * number + weighted_total factors numbers

-- how great a linear term can become in absolute value, where its arguments are at most these numbers
abbrev pub linear_magnitude : linear.Linear → List ℕ → ℕ
linear_magnitude term numbers = nat_abs term.constant + weighted_total term.factors numbers

-- how great a wide term can become, by its form; each side of a product counts as 1 at least, so that no part can become
-- greater than the whole
abbrev pub wide_magnitude : wide.WideForm → List ℕ → ℕ
wide_magnitude (Number number) numbers = nat_abs number
wide_magnitude (Value place) numbers = slice_index numbers place
wide_magnitude (Sum left right) numbers = wide_magnitude left numbers + wide_magnitude right numbers
wide_magnitude (Difference left right) numbers = wide_magnitude left numbers + wide_magnitude right numbers
wide_magnitude (Product left right) numbers =
    max 1 (wide_magnitude left numbers) * max 1 (wide_magnitude right numbers)
wide_magnitude (Greater left right) numbers = max (wide_magnitude left numbers) (wide_magnitude right numbers)
wide_magnitude (Lesser left right) numbers = max (wide_magnitude left numbers) (wide_magnitude right numbers)

-- how great a term can become in absolute value, where its arguments are at most these numbers
abbrev pub magnitude : Term → List ℕ → ℕ
magnitude (Linear term) numbers = linear_magnitude term numbers
magnitude (Wide term) numbers = wide_magnitude term numbers

-- the leaves of a wide term, its numbers and its values of arguments, from left to right
abbrev pub leaves : wide.WideForm → List wide.WideForm
leaves (Number number) = Number number ∷ []
leaves (Value place) = Value place ∷ []
leaves (Sum left right) = leaves left ++ leaves right
leaves (Difference left right) = leaves left ++ leaves right
leaves (Product left right) = leaves left ++ leaves right
leaves (Greater left right) = leaves left ++ leaves right
leaves (Lesser left right) = leaves left ++ leaves right

-- of the values of a sign's arguments, each score is at most its counterpart, and each token's value is its counterpart
abbrev pub AreAtMost : List Kind → List ℤ → List ℤ → Type 0
AreAtMost [] [] [] = Unit {0}
AreAtMost (Score ∷ kinds) (value ∷ values) (value' ∷ values') = (value ≤ℤ value') × AreAtMost kinds values values'
AreAtMost (Token ∷ kinds) (value ∷ values) (value' ∷ values') = (value ≡ value') × AreAtMost kinds values values'
AreAtMost kinds values values' = ⊥

-- one value for each kind, each one that an argument of its kind can have
abbrev pub AreValues : (Kind → ℤ → Type 0) → List Kind → List ℤ → Type 0
AreValues CanHave [] [] = Unit {0}
AreValues CanHave [] (value ∷ values) = ⊥
AreValues CanHave (kind ∷ kinds) [] = ⊥
AreValues CanHave (kind ∷ kinds) (value ∷ values) = CanHave kind value × AreValues CanHave kinds values

-- arguments can have any value
abbrev pub CanHaveAny : Kind → ℤ → Type 0
CanHaveAny kind value = Unit {0}

-- greater scores give no lesser value, and so no worse scores give no worse value, whatever the goal; this is asked of
-- the values that arguments can have
abbrev pub KeepsOrder : (Kind → ℤ → Type 0) → Term → List Kind → Type 0
KeepsOrder CanHave term kinds =
    (values values' : List ℤ) → AreValues CanHave kinds values → AreValues CanHave kinds values'
    → AreAtMost kinds values values' → term_value term values ≤ℤ term_value term values'

-- some score is less than its counterpart
abbrev pub SomeScoreIsLess : List Kind → List ℤ → List ℤ → Type 0
SomeScoreIsLess (Score ∷ kinds) (value ∷ values) (value' ∷ values') =
    (value <ℤ value') ⊎ SomeScoreIsLess kinds values values'
SomeScoreIsLess (Token ∷ kinds) (value ∷ values) (value' ∷ values') = SomeScoreIsLess kinds values values'
SomeScoreIsLess kinds values values' = ⊥

-- greater scores, one of them greater in truth, give a greater value
abbrev pub KeepsStrictOrder : (Kind → ℤ → Type 0) → Term → List Kind → Type 0
KeepsStrictOrder CanHave term kinds =
    (values values' : List ℤ) → AreValues CanHave kinds values → AreValues CanHave kinds values'
    → AreAtMost kinds values values' → SomeScoreIsLess kinds values values'
    → term_value term values <ℤ term_value term values'
