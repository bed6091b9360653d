-- The compiled score of a derived tree is its two scores in one.
use Rattle.std.proofs.Common.{◌≡◌, ◌<◌, ℕ, ℤ, pos, ◌+ℤ◌, ◌*ℤ◌, Bool, List, [], ◌∷◌, length, refl, sym, ap, subst, ◌∙◌, arith}
use Rattle.std.proofs.Math.IntN.{one, *ℤ-one, *ℤ_comm}
use Rattle.adp_model.specs.declared.grammar.Kind.{Kind}
use Rattle.adp_model.specs.declared.grammar.Kind.TheVariants.{Score, Token}
use Rattle.adp_model.specs.declared.grammar.Arg.{Arg}
use Rattle.adp_model.specs.declared.grammar.Arg.TheVariants.{Rule, Literal, Letter, Run}
use Rattle.adp_model.specs.declared.grammar.Term.{Term}
use Rattle.adp_model.specs.declared.grammar.Term.TheVariants.{Linear, Wide}
use Rattle.adp_model.specs.declared.cell.Cell.{Cell}
use Rattle.adp_model.specs.PosedProblem.{PosedProblem}
use Rattle.adp_model.specs.Parts.{alternatives_of, alternative_at, arguments_of, algebra_at, sign_at, term_for}
use Rattle.adp_model.specs.Terms.{weighted_sum, term_value}
use Rattle.adp_model.specs.Tokens.{token_value, letters_between}
use Rattle.adp_model.specs.Tree.{Tree, Leaf, Node, Trees, Nil, Cons, start_of, end_of}
use Rattle.adp_model.specs.Derivation.{Derives, DeriveArguments}
use Rattle.adp_model.specs.Scores.{score_of, values_of}
use Rattle.lex_product.specs.CompiledTerms.{joined, joined_factors, joined_term}
use Rattle.lex_product.specs.CompiledGrammar.{compiled_problem, has_same_goal}
use Rattle.lex_product.specs.FittingTerms.{AreFactorsOf, AreTermsOf}
use Rattle.lex_product.specs.PairFaults.{HaveUnitScores, IsAdding, AllAddScores}
use Rattle.lex_product.specs.PairOrder.{under}
use Rattle.lex_product.proofs.Joined.{sum_joined, times_joined, none_joined}
use Rattle.lex_product.proofs.Compiled.{compiled_term}
use Rattle.lex_product.proofs.FittingArguments.{AreFit, others_fit, first_fits}

one_time : (f z : ℤ) → f ≡ pos 1 → f *ℤ z ≡ z
unfolding one
one_time f z e = ap (λ x. x *ℤ z) e ∙ *ℤ_comm (pos 1) z ∙ *ℤ-one z

score_step : (m : ℕ) (same : Bool) (f f' sc sp sq rc rp rq : ℤ) → f ≡ pos 1 → f' ≡ pos 1 → sc ≡ joined m same (sp, sq) → rc ≡ joined m same (rp, rq)
    → (pos 1 *ℤ sc) +ℤ rc ≡ joined m same ((f *ℤ sp) +ℤ rp, (f' *ℤ sq) +ℤ rq)
score_step m same f f' sc sp sq rc rp rq u u' s r =
    ap (λ x. x +ℤ rc) (one_time (pos 1) sc refl ∙ s) ∙ ap (λ x. joined m same (sp, sq) +ℤ x) r ∙ sum_joined m same sp sq rp rq
    ∙ ap (λ x. joined m same (x +ℤ rp, sq +ℤ rq)) (sym (one_time f sp u)) ∙ ap (λ x. joined m same ((f *ℤ sp) +ℤ rp, x +ℤ rq)) (sym (one_time f' sq u'))

token_step : (m : ℕ) (same : Bool) (f f' v rc rp rq : ℤ) → rc ≡ joined m same (rp, rq) → (joined m same (f, f') *ℤ v) +ℤ rc ≡ joined m same ((f *ℤ v) +ℤ rp, (f' *ℤ v) +ℤ rq)
token_step m same f f' v rc rp rq r =
    ap (λ x. x +ℤ rc) (times_joined m same f f' v) ∙ ap (λ x. joined m same (f *ℤ v, f' *ℤ v) +ℤ x) r ∙ sum_joined m same (f *ℤ v) (f' *ℤ v) rp rq

-- two terms as one have both values in one, where their sums do
terms_joined : (m : ℕ) (same : Bool) (kinds : List Kind) (term term' : Term) (values values' both : List ℤ) → AreFactorsOf kinds term → AreFactorsOf kinds term'
    → IsAdding term kinds → IsAdding term' kinds
    → ((factors factors' : List ℤ) → HaveUnitScores factors kinds → HaveUnitScores factors' kinds → length factors ≡ length kinds → length factors' ≡ length kinds
    → weighted_sum (joined_factors m same kinds factors factors') both ≡ joined m same (weighted_sum factors values, weighted_sum factors' values'))
    → term_value (joined_term m same kinds term term') both ≡ joined m same (term_value term values, term_value term' values')
terms_joined m same kinds (Linear term) (Linear term') values values' both fit fit' u u' sums =
    ap (λ x. joined m same (term.constant, term'.constant) +ℤ x) (sums term.factors term'.factors u u' fit fit')
    ∙ sum_joined m same term.constant term'.constant (weighted_sum term.factors values) (weighted_sum term'.factors values')
terms_joined m same kinds (Linear term) (Wide term') values values' both fit fit' u u' sums = absurd fit'
terms_joined m same kinds (Wide term) term' values values' both fit fit' u u' sums = absurd fit

-- what is known of the grammar and its two algebras
pub record ArePaired (p : PosedProblem) (second : ℕ) : Type 0 where
  pub known : p.algebra < length p.grammar.algebras
  pub terms : AreTermsOf p.grammar.signs (algebra_at p.grammar p.algebra).terms
  pub terms' : AreTermsOf p.grammar.signs (algebra_at p.grammar second).terms
  pub adding : AllAddScores p.grammar p.algebra second
  pub signs : (rule alternative : ℕ) → alternative < length (alternatives_of p.grammar rule) → (alternative_at p.grammar rule alternative).sign < length p.grammar.signs
  pub fit : (rule alternative : ℕ) → alternative < length (alternatives_of p.grammar rule)
      → AreFit p.grammar (sign_at p.grammar (alternative_at p.grammar rule alternative).sign).kinds (arguments_of p.grammar rule alternative)

module _ (p : PosedProblem) (second m : ℕ) (paired : ArePaired p second) where
  abbrev same : Bool
  same = has_same_goal p.grammar p.algebra second

  abbrev c : PosedProblem
  c = compiled_problem p second m

  abbrev q : PosedProblem
  q = under second p

  mutual
    pub score_joined : (cell : Cell) (tree : Tree) → Derives p cell tree → score_of c tree ≡ joined m same (score_of p tree, score_of q tree)
    score_joined cell (Leaf from to) derived = absurd derived
    score_joined cell (Node rule alternative from to children) derived =
        let g = p.grammar in
        let inside : alternative < length (alternatives_of g rule) = subst (λ r. alternative < length (alternatives_of g r)) (sym derived.0) derived.4 in
        let sign = (alternative_at g rule alternative).sign in
        let known = paired.signs rule alternative inside in
        let kinds = (sign_at g sign).kinds in
        let term = term_for g p.algebra sign in
        let term' = term_for g second sign in
        let below = subst (λ r. DeriveArguments p (arguments_of g r alternative) cell.from cell.to children) (sym derived.0) derived.5 in
        let arguments = arguments_of g rule alternative in
        ap (λ (t : Term). term_value t (values_of c arguments children)) (compiled_term g p.algebra second m paired.known paired.terms paired.terms' sign known)
        ∙ terms_joined m same kinds term term' (values_of p arguments children) (values_of q arguments children) (values_of c arguments children)
        (paired.terms.fit sign known) (paired.terms'.fit sign known) (paired.adding sign known).0 (paired.adding sign known).1
        (λ factors factors' u u' e e'. values_joined kinds arguments factors factors' cell.from cell.to children (paired.fit rule alternative inside) u u' e e' below)

    values_joined : (kinds : List Kind) (arguments : List Arg) (factors factors' : List ℤ) (from to : ℕ) (children : Trees) → AreFit p.grammar kinds arguments
        → HaveUnitScores factors kinds → HaveUnitScores factors' kinds → length factors ≡ length kinds → length factors' ≡ length kinds → DeriveArguments p arguments from to children
        → weighted_sum (joined_factors m same kinds factors factors') (values_of c arguments children) ≡ joined m same
        (weighted_sum factors (values_of p arguments children), weighted_sum factors' (values_of q arguments children))
    values_joined [] [] [] [] from to children fit u u' e e' h = sym (none_joined m same)
    values_joined [] [] [] (factor' ∷ factors') from to children fit u u' e e' h = absurd (omega arith)
    values_joined [] [] (factor ∷ factors) factors' from to children fit u u' e e' h = absurd (omega arith)
    values_joined [] (argument ∷ arguments) factors factors' from to children fit u u' e e' h = let count = fit.count in absurd (omega arith)
    values_joined (kind ∷ kinds) [] factors factors' from to children fit u u' e e' h = let count = fit.count in absurd (omega arith)
    values_joined (kind ∷ kinds) (argument ∷ arguments) [] factors' from to children fit u u' e e' h = absurd (omega arith)
    values_joined (kind ∷ kinds) (argument ∷ arguments) (factor ∷ factors) [] from to children fit u u' e e' h = absurd (omega arith)
    values_joined (kind ∷ kinds) (argument ∷ arguments) (factor ∷ factors) (factor' ∷ factors') from to Nil fit u u' e e' h = absurd h
    values_joined (Score ∷ kinds) (Rule rule ∷ arguments) (factor ∷ factors) (factor' ∷ factors') from to (Cons first others) fit u u' e e' h =
        score_step m same factor factor' _ _ _ _ _ _ u.0 u'.0 (score_joined (record { rule = rule; from = from; to = end_of first }) first h.0)
        (values_joined kinds arguments factors factors' (end_of first) to others (others_fit p.grammar Score kinds (Rule rule) arguments fit) u.1 u'.1 (omega arith) (omega arith) h.1)
    values_joined (Score ∷ kinds) (Literal text ∷ arguments) (factor ∷ factors) (factor' ∷ factors') from to (Cons first others) fit u u' e e' h =
        let no = first_fits p.grammar Score kinds (Literal text) arguments fit in absurd (cc)
    values_joined (Score ∷ kinds) (Letter class ∷ arguments) (factor ∷ factors) (factor' ∷ factors') from to (Cons first others) fit u u' e e' h =
        let no = first_fits p.grammar Score kinds (Letter class) arguments fit in absurd (cc)
    values_joined (Score ∷ kinds) (Run class low high ∷ arguments) (factor ∷ factors) (factor' ∷ factors') from to (Cons first others) fit u u' e e' h =
        let no = first_fits p.grammar Score kinds (Run class low high) arguments fit in absurd (cc)
    values_joined (Token ∷ kinds) (Rule rule ∷ arguments) (factor ∷ factors) (factor' ∷ factors') from to (Cons first others) fit u u' e e' h =
        let no = first_fits p.grammar Token kinds (Rule rule) arguments fit in absurd (cc)
    values_joined (Token ∷ kinds) (Literal text ∷ arguments) (factor ∷ factors) (factor' ∷ factors') from to (Cons first others) fit u u' e e' h =
        token_step m same factor factor' (token_value p.grammar (Literal text) (letters_between p.word (start_of first) (end_of first))) _ _ _
        (values_joined kinds arguments factors factors' (end_of first) to others (others_fit p.grammar Token kinds (Literal text) arguments fit) u u' (omega arith) (omega arith) h.1)
    values_joined (Token ∷ kinds) (Letter class ∷ arguments) (factor ∷ factors) (factor' ∷ factors') from to (Cons first others) fit u u' e e' h =
        token_step m same factor factor' (token_value p.grammar (Letter class) (letters_between p.word (start_of first) (end_of first))) _ _ _
        (values_joined kinds arguments factors factors' (end_of first) to others (others_fit p.grammar Token kinds (Letter class) arguments fit) u u' (omega arith) (omega arith) h.1)
    values_joined (Token ∷ kinds) (Run class low high ∷ arguments) (factor ∷ factors) (factor' ∷ factors') from to (Cons first others) fit u u' e e' h =
        token_step m same factor factor' (token_value p.grammar (Run class low high) (letters_between p.word (start_of first) (end_of first))) _ _ _
        (values_joined kinds arguments factors factors' (end_of first) to others (others_fit p.grammar Token kinds (Run class low high) arguments fit) u u' (omega arith) (omega arith) h.1)
