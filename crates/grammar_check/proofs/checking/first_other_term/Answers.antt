use Rattle.std.proofs.Common.{◌≡◌, Bool, ℕ, ◌<◌, List, length, slice_index_or, pos, [], true, false, refl, sym, ap, subst, ◌∙◌, arith}
use Rattle.std.proofs.lemmas.List.{get_or_read}
use borrow.Author.Count.{below_none, below_more}
use Rattle.adp_model.specs.declared.grammar.Algebra.{Algebra}
use Rattle.adp_model.specs.declared.grammar.Goal.TheVariants.{Least}
use Rattle.adp_model.specs.declared.grammar.Grammar.{Grammar}
use Rattle.adp_model.specs.declared.grammar.Kind.{Kind}
use Rattle.adp_model.specs.declared.grammar.Term.{Term}
use Rattle.adp_model.specs.declared.grammar.Term.TheVariants.{Linear}
use Rattle.adp_model.specs.declared.grammar.Sign.{Sign}
use Rattle.adp_model.specs.GrammarSigns.{has_no_negative_weight, has_no_negative_score, known_signs, HasMonotoneTerm}
use Rattle.adp_model.specs.Parts.{algebra_at, sign_at, term_for}
use Rattle.adp_model.specs.TermSigns.{IsMonotone, known_by}
use Rattle.grammar_check.proofs.checking.first_other_term.Goals as goal

terms_read : (grammar : Grammar) (algebra : ℕ) (algebras : List Algebra) (found : Algebra) (terms : List Term) → algebra < length grammar.algebras → algebras ≡ grammar.algebras → found ≡ slice_index_or algebras algebra found → terms ≡ (slice_index_or algebras algebra found).terms → terms ≡ (algebra_at grammar algebra).terms
terms_read grammar algebra algebras found terms inside same found_is terms_are =
    terms_are ∙ ap (λ (a : Algebra). a.terms) (sym found_is ∙ get_or_read grammar.algebras algebra found inside (subst (λ as'. found ≡ slice_index_or as' algebra found) same found_is) (record { name = []; goal = Least; terms = [] }))

-- the term and the kinds that the loop reads are the sign's
both_read : (grammar : Grammar) (algebra sign : ℕ) (terms : List Term) (term : Term) (signs : List Sign) (found : Sign) (kinds : List Kind) → length (algebra_at grammar algebra).terms ≡ length grammar.signs → sign < length signs → terms ≡ (algebra_at grammar algebra).terms → term ≡ slice_index_or terms sign term → signs ≡ grammar.signs → found ≡ slice_index_or signs sign found → kinds ≡ (slice_index_or signs sign found).kinds → (term ≡ term_for grammar algebra sign) × (kinds ≡ (sign_at grammar sign).kinds)
both_read grammar algebra sign terms term signs found kinds each inside terms_are term_is signs_are found_is kinds_are =
    let known : sign < length grammar.signs = omega (arith, ap length signs_are) in (
      get_or_read (algebra_at grammar algebra).terms sign term (omega arith) (subst (λ ts. term ≡ slice_index_or ts sign term) terms_are term_is) (Linear (record { constant = pos 0; factors = [] })),
      kinds_are ∙ ap (λ (s : Sign). s.kinds) (sym found_is ∙ get_or_read grammar.signs sign found known (subst (λ ss. found ≡ slice_index_or ss sign found) signs_are found_is) (record { name = []; kinds = [] })),
    )

-- the same is judged of the same
judged : (grammar : Grammar) (algebra sign : ℕ) (tokens scores : Bool) (term : Term) (kinds : List Kind) → tokens ≡ has_no_negative_weight grammar
    → scores ≡ has_no_negative_score grammar algebra → term ≡ term_for grammar algebra sign → kinds ≡ (sign_at grammar sign).kinds
    → IsMonotone (known_by tokens scores) term kinds ≡ HasMonotoneTerm grammar algebra sign
judged grammar algebra sign tokens scores term kinds tokens_are scores_are term_is kinds_are =
    ap (λ t. IsMonotone (known_by t scores) term kinds) tokens_are
    ∙ ap (λ s. IsMonotone (known_by (has_no_negative_weight grammar) s) term kinds) scores_are
    ∙ ap (λ t. IsMonotone (known_signs grammar algebra) t kinds) term_is
    ∙ ap (λ k. IsMonotone (known_signs grammar algebra) (term_for grammar algebra sign) k) kinds_are

pub loop-sign-init : goal.loop-sign-init
loop-sign-init c = below_none (HasMonotoneTerm c.args.grammar.now c.args.algebra)

pub bounds-terms-sign : goal.bounds-terms-sign
bounds-terms-sign c =
    let each = c.terms_fit_their_signs.ensures.terms c.args.grammar.now c.requires.well_formed c.args.algebra c.requires.algebra in
    let terms = terms_read c.args.grammar.now c.args.algebra c.as_slice.result.now c.index-as_slice-algebra.result c.as_slice-terms.result.now c.requires.algebra c.as_slice.ensures c.index-as_slice-algebra.is c.as_slice-terms.ensures in
    omega (arith, ap length c.as_slice-signs.ensures, ap length terms, each, c.loop-sign-test.true)

pub returns-then-not-monotone : goal.returns-then-not-monotone
returns-then-not-monotone c =
    let grammar = c.args.grammar.now in
    let algebra = c.args.algebra in
    let sign = c.loop-sign.sign in
    let each = c.terms_fit_their_signs.ensures.terms grammar c.requires.well_formed algebra c.requires.algebra in
    let terms = terms_read grammar algebra c.as_slice.result.now c.index-as_slice-algebra.result c.as_slice-terms.result.now c.requires.algebra c.as_slice.ensures c.index-as_slice-algebra.is c.as_slice-terms.ensures in
    let both = both_read grammar algebra sign c.as_slice-terms.result.now c.index-terms-sign.result c.as_slice-signs.result.now c.index-signs-sign.result c.as_slice-kinds.result.now each c.loop-sign-test.true terms c.index-terms-sign.is c.as_slice-signs.ensures c.index-signs-sign.is c.as_slice-kinds.ensures in
    let same = judged grammar algebra sign _ _ _ _ c.known_signs-known.ensures.tokens c.known_signs-known.ensures.scores both.0 both.1 in
    record {
      in_range = omega (arith, ap length c.as_slice-signs.ensures, c.loop-sign-test.true);
      faulty = λ h. (let no : false ≡ true = c.if-not-monotone.ensures.1 (subst (λ t. t) (sym same) h) in cc);
      before = c.loop-sign.invariant;
    }

pub loop-sign-preserved : goal.loop-sign-preserved
loop-sign-preserved c =
    let grammar = c.args.grammar.now in
    let algebra = c.args.algebra in
    let sign = c.loop-sign.sign in
    let each = c.terms_fit_their_signs.ensures.terms grammar c.requires.well_formed algebra c.requires.algebra in
    let terms = terms_read grammar algebra c.as_slice.result.now c.index-as_slice-algebra.result c.as_slice-terms.result.now c.requires.algebra c.as_slice.ensures c.index-as_slice-algebra.is c.as_slice-terms.ensures in
    let both = both_read grammar algebra sign c.as_slice-terms.result.now c.index-terms-sign.result c.as_slice-signs.result.now c.index-signs-sign.result c.as_slice-kinds.result.now each c.loop-sign-test.true terms c.index-terms-sign.is c.as_slice-signs.ensures c.index-signs-sign.is c.as_slice-kinds.ensures in
    let same = judged grammar algebra sign _ _ _ _ c.known_signs-known.ensures.tokens c.known_signs-known.ensures.scores both.0 both.1 in
    below_more (HasMonotoneTerm grammar algebra) sign c.loop-sign.invariant (subst (λ t. t) same (c.if-not-monotone.ensures.0 refl))
