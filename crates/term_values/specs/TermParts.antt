-- The parts of a wide term.
use Rattle.std.specs.Prelude.{◌≡◌, ◌⊎◌}
use Rattle.adp_model.specs.WideForm as wide
use Rattle.adp_model.specs.WideForm.{Number, Value, Sum, Difference, Product, Greater, Lesser}

-- it is the term itself, or a part of one of its sides
abbrev pub IsPartOf : wide.WideForm → wide.WideForm → Type 0
IsPartOf part (Number number) = part ≡ Number number
IsPartOf part (Value place) = part ≡ Value place
IsPartOf part (Sum left right) =
    (part ≡ Sum left right) ⊎ (IsPartOf part left ⊎ IsPartOf part right)
IsPartOf part (Difference left right) =
    (part ≡ Difference left right) ⊎ (IsPartOf part left ⊎ IsPartOf part right)
IsPartOf part (Product left right) =
    (part ≡ Product left right) ⊎ (IsPartOf part left ⊎ IsPartOf part right)
IsPartOf part (Greater left right) =
    (part ≡ Greater left right) ⊎ (IsPartOf part left ⊎ IsPartOf part right)
IsPartOf part (Lesser left right) =
    (part ≡ Lesser left right) ⊎ (IsPartOf part left ⊎ IsPartOf part right)
