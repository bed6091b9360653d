-- The leaves of a wide term, by which its spelling ends.
use Rattle.std.proofs.Common.{◌≡◌, ℕ, ◌+◌, ◌<◌, ◌++◌, length, refl, arith, length-append}
use Rattle.adp_model.specs.WideForm.{WideForm, Number, Value, Sum, Difference, Product, Greater, Lesser}
use Rattle.adp_model.specs.WideTerms.{form_of}
use Rattle.adp_model.specs.Terms.{leaves}
use Rattle.adp_model.specs.declared.grammar.Wide.{Wide}

-- how many leaves a term has
abbrev pub leaf_count : Wide → ℕ
leaf_count term = length (leaves (form_of term))

-- a term has a leaf
some_leaf-form : (form : WideForm) → 0 < length (leaves form)
some_leaf-form (Number number) = omega arith
some_leaf-form (Value place) = omega arith
some_leaf-form (Sum left right) = rw length-append (omega (arith, some_leaf-form left))
some_leaf-form (Difference left right) = rw length-append (omega (arith, some_leaf-form left))
some_leaf-form (Product left right) = rw length-append (omega (arith, some_leaf-form left))
some_leaf-form (Greater left right) = rw length-append (omega (arith, some_leaf-form left))
some_leaf-form (Lesser left right) = rw length-append (omega (arith, some_leaf-form left))

pub some_leaf : (term : Wide) → 0 < leaf_count term
some_leaf term = some_leaf-form (form_of term)

-- a term whose leaves are those of both its sides
pub both_sides : (term left right : Wide) → leaves (form_of term) ≡ leaves (form_of left) ++ leaves (form_of right) → leaf_count term ≡ leaf_count left + leaf_count right
both_sides term left right e = rw (e, length-append) refl
