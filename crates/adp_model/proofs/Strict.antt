-- Where every term keeps the order of scores strictly, the preferred tree is the first in grammar order among the
-- derived trees of its score.
use Rattle.std.proofs.Common.{◌≡◌, ℕ, ◌⊎◌, inl, inr, ℤ, pos, ◌+ℤ◌, ◌≤ℤ◌, IsTrue, List, [], ◌∷◌, length, refl, sym, ap, subst, ◌∙◌, arith}
use Rattle.std.specs.Prelude.{◌<ℤ◌}
use Rattle.std.proofs.lemmas.Int.{ints}
use Rattle.adp_model.specs.declared.grammar.Arg.{Arg}
use Rattle.adp_model.specs.declared.grammar.Arg.TheVariants.{Rule, Literal, Letter, Run}
use Rattle.adp_model.specs.declared.grammar.Goal.{Goal}
use Rattle.adp_model.specs.declared.grammar.Goal.TheVariants.{Least, Greatest}
use Rattle.adp_model.specs.declared.grammar.Grammar.{Grammar}
use Rattle.adp_model.specs.declared.grammar.Kind.{Kind}
use Rattle.adp_model.specs.declared.grammar.Kind.TheVariants.{Score, Token}
use Rattle.adp_model.specs.declared.grammar.Term.{Term}
use Rattle.adp_model.specs.declared.grammar.Term.TheVariants.{Linear, Wide}
use Rattle.adp_model.specs.declared.cell.Cell.{Cell}
use Rattle.adp_model.specs.PosedProblem.{PosedProblem}
use Rattle.adp_model.specs.Parts.{algebra_of, alternative_at, arguments_of, sign_at, term_of}
use Rattle.adp_model.specs.Tokens.{letters_between, token_value}
use Rattle.adp_model.specs.Terms.{weighted_sum, term_value, AreAtMost, SomeScoreIsLess, CanHaveAny, KeepsStrictOrder}
use Rattle.adp_model.specs.TermSigns.{ScoreFactorsFrom, IsStrict}
use Rattle.adp_model.specs.TermForms.{IsTermFor}
use Rattle.adp_model.specs.Checks.{KeepsStrictOrders}
use Rattle.adp_model.specs.Tree.{Tree, Leaf, Node, Trees, Nil, Cons, start_of, end_of, ends_of}
use Rattle.adp_model.specs.Derivation.{Derives, DeriveArguments, IsMatchingLeaf}
use Rattle.adp_model.specs.Scores.{score_of, values_of, IsBetter}
use Rattle.adp_model.specs.Preference.{cuts_of, FirstDifferencePrecedes, IsEarlierInGrammar, IsPreferred}
use Rattle.adp_model.specs.Bellman.{ArePreferred, Bellman}
use Rattle.adp_model.specs.WellFormed.{is_well_formed}
use Rattle.adp_model.proofs.Derived.{HasFewArguments, ends-derived_unique, leaf_unique}
use Rattle.adp_model.proofs.WellFormedParts.{HasFewArguments-formed, IsSigned, IsSigned-at}
use Rattle.adp_model.proofs.Order.{Trichotomy, IsBetter_irrefl, IsBetter_total, IsPreferred-best}
use Rattle.adp_model.proofs.StrictWide.{times_less, wide_less}
use Rattle.adp_model.proofs.Premises.{AreAsGood}
use Rattle.adp_model.proofs.Replacement.{preferred_at_least, IsAsGood-at_least}
use Rattle.adp_model.proofs.Monotone.{times_at_most, same_times, weighted_at_most, AreFit, others_fit, at_most_least, turned, length-values, AreValues-derived}

-- ---- factors

plus_less_left : (a b c d : ℤ) → a <ℤ b → c ≤ℤ d → (a +ℤ c) <ℤ (b +ℤ d)
plus_less_left a b c d h k = omega (arith, ints)

plus_less_right : (a b c d : ℤ) → a ≤ℤ b → c <ℤ d → (a +ℤ c) <ℤ (b +ℤ d)
plus_less_right a b c d h k = omega (arith, ints)

from_one : (factor : ℤ) → pos 1 ≤ℤ factor → pos 0 ≤ℤ factor
from_one factor h = omega (arith, ints)

monotone_from_strict : (factors : List ℤ) (kinds : List Kind) → ScoreFactorsFrom (pos 1) factors kinds → ScoreFactorsFrom (pos 0) factors kinds
monotone_from_strict [] kinds h = tt
monotone_from_strict (factor ∷ factors) [] h = tt
monotone_from_strict (factor ∷ factors) (Score ∷ kinds) h = (from_one factor h.0, monotone_from_strict factors kinds h.1)
monotone_from_strict (factor ∷ factors) (Token ∷ kinds) h = monotone_from_strict factors kinds h

weighted_less : (factors : List ℤ) (kinds : List Kind) (values values' : List ℤ) → length factors ≡ length kinds → ScoreFactorsFrom (pos 1) factors kinds → AreAtMost kinds values values' → SomeScoreIsLess kinds values values' → weighted_sum factors values <ℤ weighted_sum factors values'
weighted_less factors [] values values' count m h some = absurd some
weighted_less [] (kind ∷ kinds) values values' count m h some = absurd (omega arith)
weighted_less (factor ∷ factors) (Score ∷ kinds) [] values' count m h some = absurd h
weighted_less (factor ∷ factors) (Token ∷ kinds) [] values' count m h some = absurd h
weighted_less (factor ∷ factors) (Score ∷ kinds) (value ∷ values) [] count m h some = absurd h
weighted_less (factor ∷ factors) (Token ∷ kinds) (value ∷ values) [] count m h some = absurd h
weighted_less (factor ∷ factors) (Score ∷ kinds) (value ∷ values) (value' ∷ values') count m h (inl less) =
    plus_less_left _ _ _ _ (times_less factor value value' m.0 less) (weighted_at_most factors kinds values values' (monotone_from_strict factors kinds m.1) h.1)
weighted_less (factor ∷ factors) (Score ∷ kinds) (value ∷ values) (value' ∷ values') count m h (inr some) =
    plus_less_right _ _ _ _ (times_at_most factor value value' (from_one factor m.0) h.0) (weighted_less factors kinds values values' (omega arith) m.1 h.1 some)
weighted_less (factor ∷ factors) (Token ∷ kinds) (value ∷ values) (value' ∷ values') count m h some =
    plus_less_right _ _ _ _ (same_times factor value value' h.0) (weighted_less factors kinds values values' (omega arith) m h.1 some)

-- where each score factor is at least 1, or the term rises with each score
pub KeepsStrictOrder-strict : (CanHave : Kind → ℤ → Type 0) (term : Term) (kinds : List Kind) → IsTermFor (length kinds) term → IsStrict term kinds → KeepsStrictOrder CanHave term kinds
KeepsStrictOrder-strict CanHave (Linear term) kinds fits m values values' can can' h some =
    plus_less_right term.constant term.constant _ _ (omega (arith, ints)) (weighted_less term.factors kinds values values' fits.factors m h some)
KeepsStrictOrder-strict CanHave (Wide term) kinds fits m values values' can can' h some = wide_less term kinds values values' fits.once m h some

-- ---- values of which one is better

-- the value of some rule argument is better than its counterpart
abbrev SomeIsBetter : Goal → List Arg → List ℤ → List ℤ → Type 0
SomeIsBetter goal (Rule rule ∷ arguments) (value ∷ values) (value' ∷ values') = IsBetter goal value value' ⊎ SomeIsBetter goal arguments values values'
SomeIsBetter goal (token ∷ arguments) (value ∷ values) (value' ∷ values') = SomeIsBetter goal arguments values values'
SomeIsBetter goal arguments values values' = ⊥

some_less : (grammar : Grammar) (kinds : List Kind) (arguments : List Arg) (values values' : List ℤ) → AreFit grammar kinds arguments → SomeIsBetter Least arguments values values' → SomeScoreIsLess kinds values values'
some_less grammar kinds [] values values' fit some = absurd some
some_less grammar [] (argument ∷ arguments) values values' fit some = let count = fit.count in absurd (omega arith)
some_less grammar (kind ∷ kinds) (Rule rule ∷ arguments) [] values' fit some = absurd some
some_less grammar (kind ∷ kinds) (Literal text ∷ arguments) [] values' fit some = absurd some
some_less grammar (kind ∷ kinds) (Letter class ∷ arguments) [] values' fit some = absurd some
some_less grammar (kind ∷ kinds) (Run class low high ∷ arguments) [] values' fit some = absurd some
some_less grammar (kind ∷ kinds) (Rule rule ∷ arguments) (value ∷ values) [] fit some = absurd some
some_less grammar (kind ∷ kinds) (Literal text ∷ arguments) (value ∷ values) [] fit some = absurd some
some_less grammar (kind ∷ kinds) (Letter class ∷ arguments) (value ∷ values) [] fit some = absurd some
some_less grammar (kind ∷ kinds) (Run class low high ∷ arguments) (value ∷ values) [] fit some = absurd some
some_less grammar (Score ∷ kinds) (Rule rule ∷ arguments) (value ∷ values) (value' ∷ values') fit (inl less) = inl less
some_less grammar (Score ∷ kinds) (Rule rule ∷ arguments) (value ∷ values) (value' ∷ values') fit (inr some) =
    inr (some_less grammar kinds arguments values values' (others_fit grammar Score kinds (Rule rule) arguments fit) some)
some_less grammar (Score ∷ kinds) (Literal text ∷ arguments) (value ∷ values) (value' ∷ values') fit some = let e = fit.fit in absurd (cc)
some_less grammar (Score ∷ kinds) (Letter class ∷ arguments) (value ∷ values) (value' ∷ values') fit some = let e = fit.fit in absurd (cc)
some_less grammar (Score ∷ kinds) (Run class low high ∷ arguments) (value ∷ values) (value' ∷ values') fit some = let e = fit.fit in absurd (cc)
some_less grammar (Token ∷ kinds) (Rule rule ∷ arguments) (value ∷ values) (value' ∷ values') fit some = let e = fit.fit in absurd (cc)
some_less grammar (Token ∷ kinds) (Literal text ∷ arguments) (value ∷ values) (value' ∷ values') fit some =
    some_less grammar kinds arguments values values' (others_fit grammar Token kinds (Literal text) arguments fit) some
some_less grammar (Token ∷ kinds) (Letter class ∷ arguments) (value ∷ values) (value' ∷ values') fit some =
    some_less grammar kinds arguments values values' (others_fit grammar Token kinds (Letter class) arguments fit) some
some_less grammar (Token ∷ kinds) (Run class low high ∷ arguments) (value ∷ values) (value' ∷ values') fit some =
    some_less grammar kinds arguments values values' (others_fit grammar Token kinds (Run class low high) arguments fit) some

some_turned : (arguments : List Arg) (values values' : List ℤ) → SomeIsBetter Greatest arguments values values' → SomeIsBetter Least arguments values' values
some_turned [] values values' some = absurd some
some_turned (Rule rule ∷ arguments) [] values' some = absurd some
some_turned (Literal text ∷ arguments) [] values' some = absurd some
some_turned (Letter class ∷ arguments) [] values' some = absurd some
some_turned (Run class low high ∷ arguments) [] values' some = absurd some
some_turned (Rule rule ∷ arguments) (value ∷ values) [] some = absurd some
some_turned (Literal text ∷ arguments) (value ∷ values) [] some = absurd some
some_turned (Letter class ∷ arguments) (value ∷ values) [] some = absurd some
some_turned (Run class low high ∷ arguments) (value ∷ values) [] some = absurd some
some_turned (Rule rule ∷ arguments) (value ∷ values) (value' ∷ values') (inl less) = inl less
some_turned (Rule rule ∷ arguments) (value ∷ values) (value' ∷ values') (inr some) = inr (some_turned arguments values values' some)
some_turned (Literal text ∷ arguments) (value ∷ values) (value' ∷ values') some = some_turned arguments values values' some
some_turned (Letter class ∷ arguments) (value ∷ values) (value' ∷ values') some = some_turned arguments values values' some
some_turned (Run class low high ∷ arguments) (value ∷ values) (value' ∷ values') some = some_turned arguments values values' some

-- children that are as good, one of them better, give a better value
better_value : (p : PosedProblem) (term : Term) (kinds : List Kind) (arguments : List Arg) → KeepsStrictOrder CanHaveAny term kinds → AreFit p.grammar kinds arguments → (goal : Goal) (from to : ℕ) (ts us : Trees) → DeriveArguments p arguments from to ts → DeriveArguments p arguments from to us → AreAsGood goal arguments (values_of p arguments ts) (values_of p arguments us) → SomeIsBetter goal arguments (values_of p arguments ts) (values_of p arguments us) → IsBetter goal (term_value term (values_of p arguments ts)) (term_value term (values_of p arguments us))
better_value p term kinds arguments keeps fit Least from to ts us h k good some =
    keeps (values_of p arguments ts) (values_of p arguments us)
    (AreValues-derived p CanHaveAny (λ cell tree d. tt) (λ token letters matches. tt) kinds arguments from to ts fit h) (AreValues-derived p CanHaveAny (λ cell tree d. tt) (λ token letters matches. tt) kinds arguments from to us fit k)
    (at_most_least p.grammar kinds arguments (values_of p arguments ts) (values_of p arguments us) fit (length-values p arguments from to ts h) (length-values p arguments from to us k) good)
    (some_less p.grammar kinds arguments (values_of p arguments ts) (values_of p arguments us) fit some)
better_value p term kinds arguments keeps fit Greatest from to ts us h k good some =
    keeps (values_of p arguments us) (values_of p arguments ts)
    (AreValues-derived p CanHaveAny (λ cell tree d. tt) (λ token letters matches. tt) kinds arguments from to us fit k) (AreValues-derived p CanHaveAny (λ cell tree d. tt) (λ token letters matches. tt) kinds arguments from to ts fit h)
    (at_most_least p.grammar kinds arguments (values_of p arguments us) (values_of p arguments ts) fit (length-values p arguments from to us k) (length-values p arguments from to ts h) (turned arguments (values_of p arguments ts) (values_of p arguments us) good))
    (some_less p.grammar kinds arguments (values_of p arguments us) (values_of p arguments ts) fit (some_turned arguments (values_of p arguments ts) (values_of p arguments us) some))

-- ---- trees

-- preferred children are as good as any others
preferred_good : (p : PosedProblem) → HasFewArguments p.grammar → (arguments : List Arg) (from to : ℕ) (ts us : Trees) → DeriveArguments p arguments from to ts → DeriveArguments p arguments from to us → ArePreferred p arguments from ts → ends_of ts ≡ ends_of us → AreAsGood (algebra_of p).goal arguments (values_of p arguments ts) (values_of p arguments us)
preferred_good p few [] from to ts us h k preferred same = refl
preferred_good p few (argument ∷ arguments) from to Nil us h k preferred same = absurd h
preferred_good p few (argument ∷ arguments) from to (Cons t ts) Nil h k preferred same = absurd k
preferred_good p few (Rule rule ∷ arguments) from to (Cons t ts) (Cons u us) h k preferred same =
    let end : end_of t ≡ end_of u = cc in
    let others : ends_of ts ≡ ends_of us = cc in
    let derived : Derives p (record { rule = rule; from = from; to = end_of t }) u = subst (λ x. Derives p (record { rule = rule; from = from; to = x }) u) (sym end) k.0 in (
      IsAsGood-at_least p t u (preferred_at_least p few (record { rule = rule; from = from; to = end_of t }) t u preferred.0 derived),
      preferred_good p few arguments (end_of t) to ts us h.1 (subst (λ x. DeriveArguments p arguments x to us) (sym end) k.1) preferred.1 others,
    )
preferred_good p few (token ∷ arguments) from to (Cons t ts) (Cons u us) h k preferred same =
    let end : end_of t ≡ end_of u = cc in
    let others : ends_of ts ≡ ends_of us = cc in (
      ap (λ tree. token_value p.grammar token (letters_between p.word (start_of tree) (end_of tree))) (leaf_unique p token from t u h.0 k.0 end),
      preferred_good p few arguments (end_of t) to ts us h.1 (subst (λ x. DeriveArguments p arguments x to us) (sym end) k.1) preferred others,
    )

abbrev Earlier : Trees → Trees → Type 0
Earlier us ts = FirstDifferencePrecedes (λ _ _. ⊥) (λ _. pos 0) us ts

-- a preferred tree is better than a tree of its cell that is earlier in grammar order
better_child : (p : PosedProblem) (cell : Cell) (t u : Tree) → IsPreferred p cell t → Derives p cell u → (score_of p u ≡ score_of p t → ⊥) → IsBetter (algebra_of p).goal (score_of p t) (score_of p u)
better_child p cell t u preferred derived differ = go (IsBetter_total (algebra_of p).goal (score_of p t) (score_of p u))
  where
    go : Trichotomy (score_of p t ≡ score_of p u) (IsBetter (algebra_of p).goal (score_of p t) (score_of p u)) (IsBetter (algebra_of p).goal (score_of p u) (score_of p t)) → IsBetter (algebra_of p).goal (score_of p t) (score_of p u)
    go (inl same) = absurd (differ (sym same))
    go (inr (inl better)) = better
    go (inr (inr worse)) = absurd (IsPreferred-best p cell t u preferred derived worse)

leaves_never : (p : PosedProblem) (token : Arg) (from : ℕ) (u t : Tree) → IsMatchingLeaf p token from u → IsEarlierInGrammar u t → ⊥
leaves_never p token from (Leaf start end) t leaf earlier = earlier
leaves_never p token from (Node rule alternative from' to' children) t leaf earlier = leaf

first_or_behind : {First Second A B : Type 0} → (First → A) → (Second → B) → First ⊎ Second → A ⊎ B
first_or_behind f g (inl x) = inl (f x)
first_or_behind f g (inr y) = inr (g y)

only_behind : {First Same Second B : Type 0} → (First → ⊥) → (Second → B) → First ⊎ (Same × Second) → B
only_behind never g (inl x) = absurd (never x)
only_behind never g (inr (same, y)) = g y

-- how a preferred tree and a tree of its score that is earlier in grammar order differ at the root
root_never : (p : PosedProblem) → Bellman p → IsTrue (is_well_formed p.grammar) → KeepsStrictOrders p.grammar p.algebra → (cell : Cell) (rule alternative from to : ℕ) (ts : Trees) (rule' alternative' from' to' : ℕ) (us : Trees) → IsPreferred p cell (Node rule alternative from to ts) → Derives p cell (Node rule' alternative' from' to' us) → score_of p (Node rule' alternative' from' to' us) ≡ score_of p (Node rule alternative from to ts)
    → ((arguments : List Arg) → DeriveArguments p arguments cell.from cell.to ts → DeriveArguments p arguments cell.from cell.to us → ArePreferred p arguments cell.from ts → ends_of ts ≡ ends_of us → Earlier us ts → SomeIsBetter (algebra_of p).goal arguments (values_of p arguments ts) (values_of p arguments us))
    → IsEarlierInGrammar (Node rule' alternative' from' to' us) (Node rule alternative from to ts) → ⊥
root_never p bellman formed strict cell rule alternative from to ts rule' alternative' from' to' us preferred d same by_children (inl never) = never
root_never p bellman formed strict cell rule alternative from to ts rule' alternative' from' to' us preferred d same by_children (inr (_, inl less)) = preferred.first (Node rule' alternative' from' to' us) d (inr (same, inl less))
root_never p bellman formed strict cell rule alternative from to ts rule' alternative' from' to' us preferred d same by_children (inr (_, inr (one, inl less))) = preferred.first (Node rule' alternative' from' to' us) d (inr (same, inr (one, inl less)))
root_never p bellman formed strict cell rule alternative from to ts rule' alternative' from' to' us preferred d same by_children (inr (_, inr (one, inr (cuts, children)))) =
    let few : HasFewArguments p.grammar = HasFewArguments-formed p.grammar formed in
    let h = preferred.derived in
    let arguments : List Arg = arguments_of p.grammar cell.rule alternative in
    let k : DeriveArguments p arguments cell.from cell.to us = subst (λ a. DeriveArguments p (arguments_of p.grammar cell.rule a) cell.from cell.to us) one d.5 in
    let are : ArePreferred p arguments cell.from ts = bellman.children cell rule alternative from to ts preferred in
    let cuts' : cuts_of cell.to ts ≡ cuts_of cell.to us = sym (ap (λ x. cuts_of x ts) h.2) ∙ sym cuts ∙ ap (λ x. cuts_of x us) d.2 in
    let ends : ends_of ts ≡ ends_of us = ends-derived_unique p arguments cell.from cell.to ts us (few cell.rule alternative) h.5 k cuts' in
    let signed : IsSigned p.grammar (alternative_at p.grammar cell.rule alternative) = IsSigned-at p.grammar formed cell.rule alternative h.4 in
    let sign : ℕ = (alternative_at p.grammar cell.rule alternative).sign in
    let better = better_value p (term_of p cell.rule alternative) (sign_at p.grammar sign).kinds arguments (strict sign signed.known) (record { count = signed.count; fit = signed.fit }) (algebra_of p).goal cell.from cell.to ts us h.5 k
    (preferred_good p few arguments cell.from cell.to ts us h.5 k are ends)
    (by_children arguments h.5 k are ends children) in
    let mine : score_of p (Node rule alternative from to ts) ≡ term_value (term_of p cell.rule alternative) (values_of p arguments ts) = ap (λ r. term_value (term_of p r alternative) (values_of p (arguments_of p.grammar r alternative) ts)) h.0 in
    let other : score_of p (Node rule' alternative' from' to' us) ≡ term_value (term_of p cell.rule alternative) (values_of p arguments us) =
    ap (λ r. term_value (term_of p r alternative') (values_of p (arguments_of p.grammar r alternative') us)) d.0 ∙ ap (λ a. term_value (term_of p cell.rule a) (values_of p (arguments_of p.grammar cell.rule a) us)) one in
    let equal : term_value (term_of p cell.rule alternative) (values_of p arguments us) ≡ term_value (term_of p cell.rule alternative) (values_of p arguments ts) = sym other ∙ same ∙ mine in
    IsBetter_irrefl (algebra_of p).goal _ (subst (IsBetter (algebra_of p).goal (term_value (term_of p cell.rule alternative) (values_of p arguments ts))) equal better)

module _ (p : PosedProblem) (bellman : Bellman p) (formed : IsTrue (is_well_formed p.grammar)) (strict : KeepsStrictOrders p.grammar p.algebra) where
  mutual
    pub never_earlier : (cell : Cell) (t u : Tree) → IsPreferred p cell t → Derives p cell u → score_of p u ≡ score_of p t → IsEarlierInGrammar u t → ⊥
    never_earlier cell (Leaf from to) u preferred d same earlier = absurd preferred.derived
    never_earlier cell (Node rule alternative from to ts) (Leaf from' to') preferred d same earlier = absurd d
    never_earlier cell (Node rule alternative from to ts) (Node rule' alternative' from' to' us) preferred d same earlier =
        root_never p bellman formed strict cell rule alternative from to ts rule' alternative' from' to' us preferred d same (λ arguments. some_better arguments cell.from cell.to ts us) earlier

    some_better : (arguments : List Arg) (from to : ℕ) (ts us : Trees) → DeriveArguments p arguments from to ts → DeriveArguments p arguments from to us → ArePreferred p arguments from ts → ends_of ts ≡ ends_of us → Earlier us ts → SomeIsBetter (algebra_of p).goal arguments (values_of p arguments ts) (values_of p arguments us)
    some_better [] from to ts Nil h k preferred same earlier = absurd earlier
    some_better [] from to ts (Cons u us) h k preferred same earlier = absurd k
    some_better (argument ∷ arguments) from to Nil us h k preferred same earlier = absurd h
    some_better (argument ∷ arguments) from to (Cons t ts) Nil h k preferred same earlier = absurd k
    some_better (Rule rule ∷ arguments) from to (Cons t ts) (Cons u us) h k preferred same earlier =
        let end : end_of t ≡ end_of u = cc in
        let others : ends_of ts ≡ ends_of us = cc in
        let cell : Cell = record { rule = rule; from = from; to = end_of t } in
        let derived : Derives p cell u = subst (λ x. Derives p (record { rule = rule; from = from; to = x }) u) (sym end) k.0 in
        first_or_behind
        (λ (first : IsEarlierInGrammar u t). better_child p cell t u preferred.0 derived (λ equal. never_earlier cell t u preferred.0 derived equal first))
        (λ (behind : (u ≡ t) × Earlier us ts). some_better arguments (end_of t) to ts us h.1 (subst (λ x. DeriveArguments p arguments x to us) (sym end) k.1) preferred.1 others behind.1)
        earlier
    some_better (token ∷ arguments) from to (Cons t ts) (Cons u us) h k preferred same earlier =
        let end : end_of t ≡ end_of u = cc in
        let others : ends_of ts ≡ ends_of us = cc in
        only_behind (leaves_never p token from u t k.0)
        (some_better arguments (end_of t) to ts us h.1 (subst (λ x. DeriveArguments p arguments x to us) (sym end) k.1) preferred others)
        earlier
