-- The compiled algebra of two algebras of a grammar, and the numbers that are new in it.
use Rattle.std.specs.Prelude.{ℕ, ◌+◌, ◌*◌, ℤ, nat_abs, Bool, max, List, [], ◌∷◌, slice_set}
use Rattle.adp_model.specs.declared.grammar.Kind.{Kind}
use Rattle.adp_model.specs.declared.grammar.Kind.TheVariants.{Score, Token}
use Rattle.adp_model.specs.declared.grammar.Linear as linear
use Rattle.adp_model.specs.declared.grammar.Sign.{Sign}
use Rattle.adp_model.specs.declared.grammar.Term.{Term}
use Rattle.adp_model.specs.declared.grammar.Term.TheVariants.{Linear}
use Rattle.adp_model.specs.declared.grammar.Algebra.{Algebra}
use Rattle.adp_model.specs.declared.grammar.Grammar.{Grammar}
use Rattle.adp_model.specs.PosedProblem.{PosedProblem}
use Rattle.adp_model.specs.Parts.{algebra_at}
use Rattle.lex_product.specs.CompiledTerms.{joined, is_same_goal, joined_terms}

-- twice the second algebra's score bound, and one more: more than any two of its scores differ
abbrev pub multiplier_of : ℕ → ℕ
multiplier_of bound = 2 * bound + 1

-- both algebras have one goal
abbrev pub has_same_goal : Grammar → ℕ → ℕ → Bool
has_same_goal grammar first second = is_same_goal (algebra_at grammar first).goal (algebra_at grammar second).goal

-- the first algebra with both algebras' terms as one
abbrev pub compiled_algebra : Grammar → ℕ → ℕ → ℕ → Algebra
compiled_algebra grammar first second multiplier = record {
  name = (algebra_at grammar first).name;
  goal = (algebra_at grammar first).goal;
  terms = joined_terms multiplier (has_same_goal grammar first second) grammar.signs
      (algebra_at grammar first).terms (algebra_at grammar second).terms;
}

-- the grammar with the compiled algebra in the first one's place
abbrev pub compiled_grammar : Grammar → ℕ → ℕ → ℕ → Grammar
compiled_grammar grammar first second multiplier = record {
  classes = grammar.classes;
  signs = grammar.signs;
  algebras = slice_set grammar.algebras first (compiled_algebra grammar first second multiplier);
  rules = grammar.rules;
  «axiom» = grammar.axiom;
}

-- what is asked, under the compiled algebra
abbrev pub compiled_problem : PosedProblem → ℕ → ℕ → PosedProblem
compiled_problem p second multiplier =
    record { grammar = compiled_grammar p.grammar p.algebra second multiplier; algebra = p.algebra; word = p.word }

-- the greatest absolute value of the token factors of two terms as one; 0 where there is none
abbrev pub greatest_factor : ℕ → Bool → List Kind → List ℤ → List ℤ → ℕ
greatest_factor multiplier same [] factors factors' = 0
greatest_factor multiplier same (kind ∷ kinds) [] factors' = 0
greatest_factor multiplier same (kind ∷ kinds) (factor ∷ factors) [] = 0
greatest_factor multiplier same (Score ∷ kinds) (factor ∷ factors) (factor' ∷ factors') =
    greatest_factor multiplier same kinds factors factors'
greatest_factor multiplier same (Token ∷ kinds) (factor ∷ factors) (factor' ∷ factors') =
    max (nat_abs (joined multiplier same (factor, factor'))) (greatest_factor multiplier same kinds factors factors')

-- the greatest absolute value of the constant and the token factors of two linear terms as one
abbrev pub greatest_of_linear : ℕ → Bool → List Kind → linear.Linear → linear.Linear → ℕ
greatest_of_linear multiplier same kinds term term' =
    max (nat_abs (joined multiplier same (term.constant, term'.constant)))
    (greatest_factor multiplier same kinds term.factors term'.factors)

-- the same of two terms; those of a pair are linear
abbrev pub greatest_of_term : ℕ → Bool → List Kind → Term → Term → ℕ
greatest_of_term multiplier same kinds (Linear term) (Linear term') =
    greatest_of_linear multiplier same kinds term term'
greatest_of_term multiplier same kinds term term' = 0

-- the greatest over all signs' terms
abbrev pub greatest_number : ℕ → Bool → List Sign → List Term → List Term → ℕ
greatest_number multiplier same [] terms terms' = 0
greatest_number multiplier same (sign ∷ signs) [] terms' = 0
greatest_number multiplier same (sign ∷ signs) (term ∷ terms) [] = 0
greatest_number multiplier same (sign ∷ signs) (term ∷ terms) (term' ∷ terms') =
    max (greatest_of_term multiplier same sign.kinds term term') (greatest_number multiplier same signs terms terms')

-- the greatest of the compiled algebra's constants and token factors in absolute value
abbrev pub greatest_compiled : Grammar → ℕ → ℕ → ℕ → ℕ
greatest_compiled grammar first second multiplier =
    greatest_number multiplier (has_same_goal grammar first second) grammar.signs
    (algebra_at grammar first).terms (algebra_at grammar second).terms
