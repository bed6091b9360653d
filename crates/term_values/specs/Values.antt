-- For how many values a term can be evaluated.
use Rattle.std.specs.Prelude.{◌≡◌, ℕ, ◌<◌, length}
use Rattle.adp_model.specs.WideForm as wide
use Rattle.adp_model.specs.WideForm.{Number, Value, Sum, Difference, Product, Greater, Lesser}
use Rattle.adp_model.specs.declared.grammar.Term.{Term}
use Rattle.adp_model.specs.declared.grammar.Term.TheVariants.{Linear, Wide}

-- each value that stands in the wide term is one of so many
abbrev pub HasWideValues : ℕ → wide.WideForm → Type 0
HasWideValues count (Number number) = Unit {0}
HasWideValues count (Value place) = place < count
HasWideValues count (Sum left right) = HasWideValues count left × HasWideValues count right
HasWideValues count (Difference left right) = HasWideValues count left × HasWideValues count right
HasWideValues count (Product left right) = HasWideValues count left × HasWideValues count right
HasWideValues count (Greater left right) = HasWideValues count left × HasWideValues count right
HasWideValues count (Lesser left right) = HasWideValues count left × HasWideValues count right

-- there are a value for each factor of a linear term, and all values that stand in a wide one
abbrev pub HasValues : ℕ → Term → Type 0
HasValues count (Linear term) = count ≡ length term.factors
HasValues count (Wide term) = HasWideValues count term
