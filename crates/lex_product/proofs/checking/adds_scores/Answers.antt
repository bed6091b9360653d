use Rattle.std.proofs.Common.{◌≡◌, ◌<◌, ◌↔◌, ℕ, List, IsTrue, length, slice_index_or, pos, [], sym, ap, subst, ◌∙◌, arith}
use Rattle.std.proofs.lemmas.List.{get_or_read}
use Rattle.adp_model.specs.declared.grammar.Algebra.{Algebra}
use Rattle.adp_model.specs.declared.grammar.Goal.TheVariants.{Least}
use Rattle.adp_model.specs.declared.grammar.Grammar.{Grammar}
use Rattle.adp_model.specs.declared.grammar.Kind.{Kind}
use Rattle.adp_model.specs.declared.grammar.Sign.{Sign}
use Rattle.adp_model.specs.declared.grammar.Term.{Term}
use Rattle.adp_model.specs.declared.grammar.Term.TheVariants.{Linear}
use Rattle.adp_model.specs.Parts.{algebra_at, sign_at, term_for}
use Rattle.adp_model.specs.TermForms.{IsTermFor}
use Rattle.lex_product.specs.PairFaults.{IsAdding}
use Rattle.lex_product.proofs.checking.adds_scores.Goals as goal

term_read : (grammar : Grammar) (algebra sign : ℕ) (algebras : List Algebra) (found : Algebra) (terms : List Term) (term : Term)
    → algebra < length grammar.algebras → length (algebra_at grammar algebra).terms ≡ length grammar.signs → sign < length grammar.signs
    → algebras ≡ grammar.algebras → found ≡ slice_index_or algebras algebra found → terms ≡ found.terms → term ≡ slice_index_or terms sign term
    → term ≡ term_for grammar algebra sign
term_read grammar algebra sign algebras found terms term known each inside algebras_are found_is terms_are term_is =
    let which : found ≡ algebra_at grammar algebra = get_or_read grammar.algebras algebra found known (subst (λ as'. found ≡ slice_index_or as' algebra found) algebras_are found_is)
    (record { name = []; goal = Least; terms = [] }) in
    let all : terms ≡ (algebra_at grammar algebra).terms = terms_are ∙ ap (λ (a : Algebra). a.terms) which in
    get_or_read (algebra_at grammar algebra).terms sign term (omega arith) (subst (λ ts. term ≡ slice_index_or ts sign term) all term_is) (Linear (record { constant = pos 0; factors = [] }))

kinds_read : (grammar : Grammar) (sign : ℕ) (signs : List Sign) (found : Sign) (kinds : List Kind) → sign < length grammar.signs → signs ≡ grammar.signs
    → found ≡ slice_index_or signs sign found → kinds ≡ (slice_index_or signs sign found).kinds → kinds ≡ (sign_at grammar sign).kinds
kinds_read grammar sign signs found kinds inside signs_are found_is kinds_are =
    kinds_are ∙ ap (λ (s : Sign). s.kinds) (sym found_is ∙ get_or_read grammar.signs sign found inside (subst (λ ss. found ≡ slice_index_or ss sign found) signs_are found_is)
    (record { name = []; kinds = [] }))

pub is_adding-requires : goal.is_adding-requires
is_adding-requires c =
    let grammar = c.args.grammar.now in
    let each = c.terms_fit_their_signs.ensures.terms grammar c.requires.well_formed c.args.algebra c.requires.algebra in
    let term = term_read grammar c.args.algebra c.args.sign c.as_slice.result.now c.index-as_slice-algebra.result c.as_slice-2.result.now c.index-as_slice-sign.result c.requires.algebra each
    c.requires.sign c.as_slice.ensures c.index-as_slice-algebra.is c.as_slice-2.ensures c.index-as_slice-sign.is in
    let kinds = kinds_read grammar c.args.sign c.as_slice-3.result.now c.index-as_slice-sign-2.result c.as_slice-kinds.result.now c.requires.sign c.as_slice-3.ensures c.index-as_slice-sign-2.is
    c.as_slice-kinds.ensures in
    subst (λ ks. IsTermFor (length ks) c.index-as_slice-sign.result) (sym kinds)
    (subst (IsTermFor (length (sign_at grammar c.args.sign).kinds)) (sym term)
    (c.terms_fit_their_signs.ensures.fit grammar c.requires.well_formed c.args.algebra c.args.sign c.requires.algebra c.requires.sign))

told : (is : Type 0) (term term' : Term) (kinds kinds' : List Kind) → term ≡ term' → kinds ≡ kinds' → is ↔ IsAdding term kinds → is ↔ IsAdding term' kinds'
told is term term' kinds kinds' t k h = subst (λ x. is ↔ IsAdding x kinds') t (subst (λ x. is ↔ IsAdding term x) k h)

pub returns : goal.returns
returns c =
    let grammar = c.args.grammar.now in
    let each = c.terms_fit_their_signs.ensures.terms grammar c.requires.well_formed c.args.algebra c.requires.algebra in
    let term = term_read grammar c.args.algebra c.args.sign c.as_slice.result.now c.index-as_slice-algebra.result c.as_slice-2.result.now c.index-as_slice-sign.result c.requires.algebra each
    c.requires.sign c.as_slice.ensures c.index-as_slice-algebra.is c.as_slice-2.ensures c.index-as_slice-sign.is in
    let kinds = kinds_read grammar c.args.sign c.as_slice-3.result.now c.index-as_slice-sign-2.result c.as_slice-kinds.result.now c.requires.sign c.as_slice-3.ensures c.index-as_slice-sign-2.is
    c.as_slice-kinds.ensures in
    told (IsTrue c.is_adding.result) _ _ _ _ term kinds c.is_adding.ensures
