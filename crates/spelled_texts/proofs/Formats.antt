-- What a grammar of a format keeps: the form of its terms, and sizes in the second format alone.
use Rattle.std.proofs.Common.{◌≡◌, ℕ, Bool, true, false, ◌&&◌, ◌||◌, ◌==◌, codes, List, [], ◌∷◌, refl, sym, subst, arith, eqb-true}
use Rattle.std.specs.List.{list_all}
use Rattle.std.specs.Fmt.{decimal}
use Rattle.std.proofs.lemmas.Bool.{and_parts}
use Rattle.std.proofs.lemmas.Fmt.{decimal_digit}
use Rattle.adp_model.specs.declared.grammar.Term.{Term}
use Rattle.adp_model.specs.declared.grammar.Term.TheVariants.{Linear, Wide}
use Rattle.adp_model.specs.declared.grammar.Algebra.{Algebra}
use Rattle.adp_model.specs.declared.grammar.Rule as rules
use Rattle.adp_model.specs.declared.grammar.Grammar.{Grammar}
use Rattle.adp_model.specs.WellFormed.{has_linear_terms, has_no_sizes, has_wide_terms, is_of_version}
use Rattle.spelled_texts.proofs.HeaderOf.{IsFormat}
use Rattle.spelled_texts.proofs.Terms.{is_of_form}
use Rattle.spelled_texts.proofs.RuleLines.{sizes_stand}
use Rattle.spelled_texts.proofs.GrammarParts.{has_form}

pub record IsOfFormat (version : ℕ) (grammar : Grammar) : Type 0 where
  pub line : IsFormat version
  pub terms : list_all (has_form version) grammar.algebras ≡ true
  pub sizes : list_all (sizes_stand version) grammar.rules ≡ true

-- a grammar of algebras alone
abbrev with_algebras : List Algebra → Grammar
with_algebras algebras = record { classes = []; signs = []; algebras = algebras; rules = []; «axiom» = 0 }

abbrev with_terms : Algebra → List Term → Algebra
with_terms algebra terms = record { name = algebra.name; goal = algebra.goal; terms = terms }

linear_first : (algebra : Algebra) (terms : List Term) (algebras : List Algebra) → has_linear_terms (with_algebras (with_terms algebra terms ∷ algebras)) ≡ true
    → (list_all (is_of_form 1) terms ≡ true) × (has_linear_terms (with_algebras algebras) ≡ true)
linear_first algebra [] algebras h = (refl, h)
linear_first algebra (Linear term ∷ terms) algebras h = linear_first algebra terms algebras h
linear_first algebra (Wide term ∷ terms) algebras h = absurd cc

linear_forms : (algebras : List Algebra) → has_linear_terms (with_algebras algebras) ≡ true → list_all (has_form 1) algebras ≡ true
linear_forms [] h = refl
linear_forms (algebra ∷ algebras) h =
    let parts = linear_first algebra algebra.terms algebras h in
    rw (parts.0, linear_forms algebras parts.1) refl

wide_first : (algebra : Algebra) (terms : List Term) (algebras : List Algebra) → has_wide_terms (with_algebras (with_terms algebra terms ∷ algebras)) ≡ true
    → (list_all (is_of_form 2) terms ≡ true) × (has_wide_terms (with_algebras algebras) ≡ true)
wide_first algebra [] algebras h = (refl, h)
wide_first algebra (Linear term ∷ terms) algebras h = absurd cc
wide_first algebra (Wide term ∷ terms) algebras h = wide_first algebra terms algebras h

wide_forms : (algebras : List Algebra) → has_wide_terms (with_algebras algebras) ≡ true → list_all (has_form 2) algebras ≡ true
wide_forms [] h = refl
wide_forms (algebra ∷ algebras) h =
    let parts = wide_first algebra algebra.terms algebras h in
    rw (parts.0, wide_forms algebras parts.1) refl

all_sized : (rules : List rules.Rule) → list_all (sizes_stand 2) rules ≡ true
all_sized [] = refl
all_sized (rule ∷ rules) = all_sized rules

first_line_said : IsFormat 1
first_line_said =
    let digit : decimal 1 ≡ codes "1" = decimal_digit 1 (omega arith) in
    record { printable = rw digit refl; first = rw digit refl; said = rw digit refl }

second_line_said : IsFormat 2
second_line_said =
    let digit : decimal 2 ≡ codes "2" = decimal_digit 2 (omega arith) in
    record { printable = rw digit refl; first = rw digit refl; said = rw digit refl }

first_format : (grammar : Grammar) → has_linear_terms grammar ≡ true → has_no_sizes grammar ≡ true → IsOfFormat 1 grammar
first_format grammar linear unsized = record { line = first_line_said; terms = linear_forms grammar.algebras linear; sizes = unsized }

second_format : (grammar : Grammar) → has_wide_terms grammar ≡ true → IsOfFormat 2 grammar
second_format grammar wide = record { line = second_line_said; terms = wide_forms grammar.algebras wide; sizes = all_sized grammar.rules }

by_tests : (version : ℕ) (grammar : Grammar) (first second : Bool) → (version == 1 && has_linear_terms grammar && has_no_sizes grammar) ≡ first → (version == 2 && has_wide_terms grammar) ≡ second
    → (first || second) ≡ true → IsOfFormat version grammar
by_tests version grammar true second e f h =
    let last = and_parts (version == 1 && has_linear_terms grammar) (has_no_sizes grammar) e in
    let front = and_parts (version == 1) (has_linear_terms grammar) last.0 in
    let is : version ≡ 1 = eqb-true _ _ front.0 in
    subst (λ (n : ℕ). IsOfFormat n grammar) (sym is) (first_format grammar front.1 last.1)
by_tests version grammar false true e f h =
    let parts = and_parts (version == 2) (has_wide_terms grammar) f in
    let is : version ≡ 2 = eqb-true _ _ parts.0 in
    subst (λ (n : ℕ). IsOfFormat n grammar) (sym is) (second_format grammar parts.1)
by_tests version grammar false false e f h = cc

pub of_format : (version : ℕ) (grammar : Grammar) → is_of_version version grammar ≡ true → IsOfFormat version grammar
of_format version grammar h = by_tests version grammar _ _ refl refl h
