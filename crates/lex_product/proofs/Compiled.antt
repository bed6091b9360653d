-- The compiled grammar: what stands in it, that it is well-formed, and that it passes the checks.
use Rattle.std.proofs.Common.{◌≡◌, ◌<◌, ◌≤◌, ◌^◌, ◌-◌, ◌&&◌, ◌==◌, ℕ, zero, suc, ℤ, pos, nat_abs, Bool, true, false, IsTrue, Option, List, [], ◌∷◌, length, map, slice_index_or, slice_set, refl, sym, ap, subst, ◌∙◌, arith, eq-eqb}
use Rattle.std.proofs.lemmas.Bool.{lt-ltb}
use Rattle.std.proofs.lemmas.List.{length-set, get_or-set_same, set-get_or, set-set}
use Rattle.std.proofs.lemmas.Int.{ints}
use Rattle.std.specs.List.{list_all, zip}
use Rattle.adp_model.specs.declared.grammar.Algebra.{Algebra}
use Rattle.adp_model.specs.declared.grammar.Goal.TheVariants.{Least}
use Rattle.adp_model.specs.declared.grammar.Grammar.{Grammar}
use Rattle.adp_model.specs.declared.grammar.Kind.{Kind}
use Rattle.adp_model.specs.declared.grammar.Kind.TheVariants.{Score, Token}
use Rattle.adp_model.specs.declared.grammar.Linear as linear
use Rattle.adp_model.specs.declared.grammar.Sign.{Sign}
use Rattle.adp_model.specs.declared.grammar.Term.{Term}
use Rattle.adp_model.specs.declared.grammar.Term.TheVariants.{Linear, Wide}
use Rattle.adp_model.specs.Checks.{IsChecked}
use Rattle.adp_model.specs.Parts.{algebra_at, sign_at, term_for}
use Rattle.adp_model.specs.ProblemFields.{greatest_score}
use Rattle.adp_model.specs.Terms.{KeepsOrder}
use Rattle.adp_model.specs.TermForms.{IsTermFor}
use Rattle.adp_model.specs.TermSigns.{IsMonotone, ScoreFactorsFrom}
use Rattle.adp_model.specs.GrammarSigns.{CanHave, known_signs}
use Rattle.adp_model.specs.WellFormed.{is_name, is_class, is_sign, is_in_range, is_term, is_algebra, is_rule, counts_fit, names_differ, parts_fit, is_well_formed}
use Rattle.grammar_check.specs.CheckedGrammar.{CheckedGrammar, PassesChecks}
use Rattle.lex_product.specs.CompiledTerms.{joined, joined_factors, joined_linear, joined_term, joined_terms}
use Rattle.lex_product.specs.CompiledGrammar.{compiled_algebra, compiled_grammar, greatest_compiled, greatest_factor, greatest_of_linear, greatest_of_term, greatest_number, has_same_goal, multiplier_of}
use Rattle.lex_product.specs.FittingTerms.{kinds_at, term_in, AreFactorsOf, AreTermsOf}
use Rattle.lex_product.specs.PairFaults.{AddsScores, IsAdding}
use Rattle.lex_product.specs.PairAnswers.{IsButForAlgebra, IsPair, compiled_pair, with_algebra}
use Rattle.lex_product.proofs.Pairs.{MonotoneKeeps}
use Rattle.lex_product.proofs.OtherAlgebras.{least_moved, greatest_moved, edge_moved, left_moved, right_moved}

-- ---- lists

map_set : {X Y : Type 0} (f : X → Y) (xs : List X) (i : ℕ) (y d : X) → f y ≡ f (slice_index_or xs i d) → map f (slice_set xs i y) ≡ map f xs
map_set f [] i y d same = refl
map_set f (x ∷ xs) zero y d same = ap (λ z. z ∷ map f xs) same
map_set f (x ∷ xs) (suc i) y d same = ap (λ zs. f x ∷ zs) (map_set f xs i y d same)

and_true : (a b : Bool) → a ≡ true → b ≡ true → (a && b) ≡ true
and_true true b e f = f
and_true false b e f = absurd (cc)

pub and_first : (a b : Bool) → (a && b) ≡ true → a ≡ true
and_first true b h = refl
and_first false b h = h

pub and_second : (a b : Bool) → (a && b) ≡ true → b ≡ true
and_second true b h = h
and_second false b h = absurd (cc)

all_set : {X : Type 0} (test : X → Bool) (xs : List X) (i : ℕ) (y : X) → list_all test xs ≡ true → test y ≡ true → list_all test (slice_set xs i y) ≡ true
all_set test [] i y all one = refl
all_set test (x ∷ xs) zero y all one = and_true (test y) (list_all test xs) one (and_second (test x) (list_all test xs) all)
all_set test (x ∷ xs) (suc i) y all one = and_true (test x) (list_all test (slice_set xs i y)) (and_first (test x) (list_all test xs) all)
    (all_set test xs i y (and_second (test x) (list_all test xs) all) one)

pub all_at : {X : Type 0} (test : X → Bool) (xs : List X) (i : ℕ) (d : X) → list_all test xs ≡ true → i < length xs → test (slice_index_or xs i d) ≡ true
all_at test [] i d all inside = absurd (omega arith)
all_at test (x ∷ xs) zero d all inside = and_first (test x) (list_all test xs) all
all_at test (x ∷ xs) (suc i) d all inside = all_at test xs i d (and_second (test x) (list_all test xs) all) (omega arith)

-- ---- terms

pub length-joined_factors : (m : ℕ) (same : Bool) (kinds : List Kind) (factors factors' : List ℤ) → length factors ≡ length kinds → length factors' ≡ length kinds
    → length (joined_factors m same kinds factors factors') ≡ length kinds
length-joined_factors m same [] factors factors' e f = refl
length-joined_factors m same (kind ∷ kinds) [] factors' e f = absurd (omega arith)
length-joined_factors m same (kind ∷ kinds) (factor ∷ factors) [] e f = absurd (omega arith)
length-joined_factors m same (Score ∷ kinds) (factor ∷ factors) (factor' ∷ factors') e f = let r = length-joined_factors m same kinds factors factors' (omega arith) (omega arith) in omega arith
length-joined_factors m same (Token ∷ kinds) (factor ∷ factors) (factor' ∷ factors') e f = let r = length-joined_factors m same kinds factors factors' (omega arith) (omega arith) in omega arith

joined_factors_monotone : (m : ℕ) (same : Bool) (kinds : List Kind) (factors factors' : List ℤ) → ScoreFactorsFrom (pos 0) (joined_factors m same kinds factors factors') kinds
joined_factors_monotone m same [] factors factors' = tt
joined_factors_monotone m same (kind ∷ kinds) [] factors' = tt
joined_factors_monotone m same (kind ∷ kinds) (factor ∷ factors) [] = tt
joined_factors_monotone m same (Score ∷ kinds) (factor ∷ factors) (factor' ∷ factors') = (omega (arith, ints), joined_factors_monotone m same kinds factors factors')
joined_factors_monotone m same (Token ∷ kinds) (factor ∷ factors) (factor' ∷ factors') = joined_factors_monotone m same kinds factors factors'

-- what terms come to that add scores as they are is monotone, whatever is known of signs
pub joined_monotone : (m : ℕ) (same : Bool) (known : Kind → Bool) (kinds : List Kind) (term term' : Term) → AreFactorsOf kinds term → AreFactorsOf kinds term'
    → IsMonotone known (joined_term m same kinds term term') kinds
joined_monotone m same known kinds (Linear term) (Linear term') fit fit' = joined_factors_monotone m same kinds term.factors term'.factors
joined_monotone m same known kinds (Linear term) (Wide term') fit fit' = absurd fit'
joined_monotone m same known kinds (Wide term) term' fit fit' = absurd fit

in_range : (number : ℤ) → nat_abs number ≤ 2 ^ 62 - 1 → is_in_range number ≡ true
in_range number low = lt-ltb (nat_abs number) (2 ^ 62) (omega arith)

factors_in_range : (m : ℕ) (same : Bool) (kinds : List Kind) (factors factors' : List ℤ) → greatest_factor m same kinds factors factors' ≤ 2 ^ 62 - 1
    → list_all is_in_range (joined_factors m same kinds factors factors') ≡ true
factors_in_range m same [] factors factors' low = refl
factors_in_range m same (kind ∷ kinds) [] factors' low = refl
factors_in_range m same (kind ∷ kinds) (factor ∷ factors) [] low = refl
factors_in_range m same (Score ∷ kinds) (factor ∷ factors) (factor' ∷ factors') low =
    and_true (is_in_range (pos 1)) _ refl (factors_in_range m same kinds factors factors' low)
factors_in_range m same (Token ∷ kinds) (factor ∷ factors) (factor' ∷ factors') low =
    and_true (is_in_range (joined m same (factor, factor'))) _ (in_range (joined m same (factor, factor')) (omega arith)) (factors_in_range m same kinds factors factors' (omega arith))

linear_formed : (m : ℕ) (same : Bool) (sign : Sign) (term term' : linear.Linear) → length term.factors ≡ length sign.kinds → length term'.factors ≡ length sign.kinds
    → greatest_of_linear m same sign.kinds term term' ≤ 2 ^ 62 - 1 → is_term (sign, Linear (joined_linear m same sign.kinds term term')) ≡ true
linear_formed m same sign term term' fit fit' low =
    and_true (is_in_range (joined m same (term.constant, term'.constant)) && list_all is_in_range (joined_factors m same sign.kinds term.factors term'.factors)) _
    (and_true (is_in_range (joined m same (term.constant, term'.constant))) _ (in_range (joined m same (term.constant, term'.constant)) (omega arith))
    (factors_in_range m same sign.kinds term.factors term'.factors (omega arith)))
    (eq-eqb _ _ (length-joined_factors m same sign.kinds term.factors term'.factors fit fit'))

term_formed : (m : ℕ) (same : Bool) (sign : Sign) (term term' : Term) → AreFactorsOf sign.kinds term → AreFactorsOf sign.kinds term' → greatest_of_term m same sign.kinds term term' ≤ 2 ^ 62 - 1
    → is_term (sign, joined_term m same sign.kinds term term') ≡ true
term_formed m same sign (Linear term) (Linear term') fit fit' low = linear_formed m same sign term term' fit fit' low
term_formed m same sign (Linear term) (Wide term') fit fit' low = absurd fit'
term_formed m same sign (Wide term) term' fit fit' low = absurd fit

-- a term for each sign, from place to place
others_fit : (sign : Sign) (signs : List Sign) (term : Term) (terms : List Term) → AreTermsOf (sign ∷ signs) (term ∷ terms) → AreTermsOf signs terms
others_fit sign signs term terms h =
    let e = h.each in
    record { each = omega arith; fit = λ place inside. h.fit (suc place) (omega arith) }

pub terms_formed : (m : ℕ) (same : Bool) (signs : List Sign) (terms terms' : List Term) → AreTermsOf signs terms → AreTermsOf signs terms' → greatest_number m same signs terms terms' ≤ 2 ^ 62 - 1
    → list_all is_term (zip signs (joined_terms m same signs terms terms')) ≡ true
terms_formed m same [] terms terms' fit fit' low = refl
terms_formed m same (sign ∷ signs) [] terms' fit fit' low = refl
terms_formed m same (sign ∷ signs) (term ∷ terms) [] fit fit' low = refl
terms_formed m same (sign ∷ signs) (term ∷ terms) (term' ∷ terms') fit fit' low =
    and_true (is_term (sign, joined_term m same sign.kinds term term')) _
    (term_formed m same sign term term' (fit.fit 0 (omega arith)) (fit'.fit 0 (omega arith)) (omega arith))
    (terms_formed m same signs terms terms' (others_fit sign signs term terms fit) (others_fit sign signs term' terms' fit') (omega arith))

pub length-joined_terms : (m : ℕ) (same : Bool) (signs : List Sign) (terms terms' : List Term) → length terms ≡ length signs → length terms' ≡ length signs
    → length (joined_terms m same signs terms terms') ≡ length signs
length-joined_terms m same [] terms terms' e f = refl
length-joined_terms m same (sign ∷ signs) [] terms' e f = absurd (omega arith)
length-joined_terms m same (sign ∷ signs) (term ∷ terms) [] e f = absurd (omega arith)
length-joined_terms m same (sign ∷ signs) (term ∷ terms) (term' ∷ terms') e f = let r = length-joined_terms m same signs terms terms' (omega arith) (omega arith) in omega arith

pub joined_at : (m : ℕ) (same : Bool) (signs : List Sign) (terms terms' : List Term) (i : ℕ) → length terms ≡ length signs → length terms' ≡ length signs → i < length signs
    → term_in (joined_terms m same signs terms terms') i ≡ joined_term m same (kinds_at signs i) (term_in terms i) (term_in terms' i)
joined_at m same [] terms terms' i e f inside = absurd (omega arith)
joined_at m same (sign ∷ signs) [] terms' i e f inside = absurd (omega arith)
joined_at m same (sign ∷ signs) (term ∷ terms) [] i e f inside = absurd (omega arith)
joined_at m same (sign ∷ signs) (term ∷ terms) (term' ∷ terms') zero e f inside = refl
joined_at m same (sign ∷ signs) (term ∷ terms) (term' ∷ terms') (suc i) e f inside = joined_at m same signs terms terms' i (omega arith) (omega arith) (omega arith)

-- ---- the grammar

module _ (g : Grammar) (first second m : ℕ) (known : first < length g.algebras) (fit : AreTermsOf g.signs (algebra_at g first).terms) (fit' : AreTermsOf g.signs (algebra_at g second).terms) where
  pub compiled_at : algebra_at (compiled_grammar g first second m) first ≡ compiled_algebra g first second m
  compiled_at = get_or-set_same g.algebras first (compiled_algebra g first second m) _ known

  -- the compiled term of a sign
  pub compiled_term : (sign : ℕ) → sign < length g.signs
      → term_for (compiled_grammar g first second m) first sign ≡ joined_term m (has_same_goal g first second) (sign_at g sign).kinds (term_for g first sign) (term_for g second sign)
  compiled_term sign inside =
      ap (λ (a : Algebra). term_in a.terms sign) compiled_at
      ∙ joined_at m (has_same_goal g first second) g.signs (algebra_at g first).terms (algebra_at g second).terms sign fit.each fit'.each inside

  pub compiled_formed : IsTrue (is_well_formed g) → greatest_compiled g first second m ≤ greatest_score → IsTrue (is_well_formed (compiled_grammar g first second m))
  compiled_formed formed low =
      let own = compiled_algebra g first second m in
      let algebras = slice_set g.algebras first own in
      let counts = and_first (counts_fit g) (names_differ g) (and_first (counts_fit g && names_differ g) (parts_fit g) formed) in
      let names = and_second (counts_fit g) (names_differ g) (and_first (counts_fit g && names_differ g) (parts_fit g) formed) in
      let parts = and_second (counts_fit g && names_differ g) (parts_fit g) formed in
      let classes_signs = list_all is_class g.classes && list_all is_sign g.signs in
      let rules = list_all (is_rule g) g.rules in
      let all_algebras = list_all (is_algebra g.signs) g.algebras in
      let sound = and_second classes_signs all_algebras (and_first (classes_signs && all_algebras) rules parts) in
      let own_formed : is_algebra g.signs own ≡ true =
      and_true (is_name own.name && length own.terms == length g.signs) (list_all is_term (zip g.signs own.terms))
      (and_true (is_name own.name) (length own.terms == length g.signs)
      (own_name sound)
      (eq-eqb _ _ (length-joined_terms m (has_same_goal g first second) g.signs (algebra_at g first).terms (algebra_at g second).terms fit.each fit'.each)))
      (terms_formed m (has_same_goal g first second) g.signs (algebra_at g first).terms (algebra_at g second).terms fit fit' low) in
      and_true (counts_fit (compiled_grammar g first second m) && names_differ (compiled_grammar g first second m)) (parts_fit (compiled_grammar g first second m))
      (and_true (counts_fit (compiled_grammar g first second m)) (names_differ (compiled_grammar g first second m)) (counts_kept counts) (names_kept names))
      (and_true (classes_signs && list_all (is_algebra g.signs) algebras) rules
      (and_true classes_signs (list_all (is_algebra g.signs) algebras) (and_first classes_signs all_algebras (and_first (classes_signs && all_algebras) rules parts))
      (all_set (is_algebra g.signs) g.algebras first own sound own_formed))
      (and_second (classes_signs && all_algebras) rules parts))
    where
      own_name : list_all (is_algebra g.signs) g.algebras ≡ true → is_name (algebra_at g first).name ≡ true
      own_name sound =
          let one = all_at (is_algebra g.signs) g.algebras first (record { name = []; goal = Least; terms = [] }) sound known in
          let own = algebra_at g first in
          and_first (is_name own.name) (length own.terms == length g.signs)
          (and_first (is_name own.name && length own.terms == length g.signs) (list_all is_term (zip g.signs own.terms)) one)

      counts_kept : counts_fit g ≡ true → counts_fit (compiled_grammar g first second m) ≡ true
      counts_kept h = simp length-set h

      names_kept : names_differ g ≡ true → names_differ (compiled_grammar g first second m) ≡ true
      names_kept h =
          simp (map_set (λ (a : Algebra). a.name) g.algebras first (compiled_algebra g first second m) (record { name = []; goal = Least; terms = [] }) refl) h

-- ---- the checks

-- what the checks find is the same under the compiled algebra
pub IsChecked-compiled : (g : Grammar) (first second m : ℕ) (least : List ℕ) (greatest : List (Option ℕ)) (ranks : List ℕ)
    → IsChecked g first least greatest ranks → AreTermsOf g.signs (algebra_at g first).terms
    → AreTermsOf g.signs (algebra_at g second).terms
    → MonotoneKeeps
    → greatest_compiled g first second m ≤ greatest_score → IsChecked (compiled_grammar g first second m) first least greatest ranks
IsChecked-compiled g first second m least greatest ranks found fit fit' keeps low =
    let algebras = slice_set g.algebras first (compiled_algebra g first second m) in
    record {
      well_formed = compiled_formed g first second m found.algebra_known fit fit' found.well_formed low;
      algebra_known = omega (arith, found.algebra_known, length-set g.algebras first (compiled_algebra g first second m));
      least_each = found.least_each;
      greatest_each = found.greatest_each;
      ranks_each = found.ranks_each;
      least_are = λ rule inside. least_moved g algebras rule _ (found.least_are rule inside);
      greatest_are = λ rule inside. greatest_moved g algebras rule _ (found.greatest_are rule inside);
      ranks_fall = λ rule other edge. found.ranks_fall rule other (edge_moved (compiled_grammar g first second m) g.algebras rule other edge);
      ranks_fit = found.ranks_fit;
      possible = found.possible;
      orderly = λ sign inside. subst (λ t. KeepsOrder (CanHave (compiled_grammar g first second m) first) t (sign_at g sign).kinds)
          (sym (compiled_term g first second m found.algebra_known fit fit' sign inside))
          (keeps (known_signs (compiled_grammar g first second m) first) _ (sign_at g sign).kinds
          (joined_monotone m (has_same_goal g first second) (known_signs (compiled_grammar g first second m) first) (sign_at g sign).kinds (term_for g first sign) (term_for g second sign)
          (fit.fit sign inside) (fit'.fit sign inside)));
    }

pub PassesChecks-compiled : (first : CheckedGrammar) (second m : ℕ) → PassesChecks first → AreTermsOf first.grammar.signs (algebra_at first.grammar first.algebra).terms
    → AreTermsOf first.grammar.signs (algebra_at first.grammar second).terms
    → MonotoneKeeps
    → greatest_compiled first.grammar first.algebra second m ≤ greatest_score → PassesChecks (record first { grammar = compiled_grammar first.grammar first.algebra second m })
PassesChecks-compiled first second m passes fit fit' keeps low =
    let g = first.grammar in
    let algebras = slice_set g.algebras first.algebra (compiled_algebra g first.algebra second m) in
    record {
      found = IsChecked-compiled g first.algebra second m _ _ _ passes.found fit fit' keeps low;
      anchored = record {
        left = left_moved g algebras first.anchors.left passes.anchored.left;
        right = right_moved g algebras first.anchors.right passes.anchored.right;
      };
    }

-- ---- what the code makes, where it reads the grammar and the algebras of a pair

-- what the laws on well-formed grammars say of terms
abbrev pub TermsFit : Type 0
TermsFit = (grammar : Grammar) → IsTrue (is_well_formed grammar) → (algebra : ℕ) → algebra < length grammar.algebras → length (algebra_at grammar algebra).terms ≡ length grammar.signs

abbrev pub EachFits : Type 0
EachFits = (grammar : Grammar) → IsTrue (is_well_formed grammar) → (algebra sign : ℕ) → algebra < length grammar.algebras → sign < length grammar.signs
    → IsTermFor (length (sign_at grammar sign).kinds) (term_for grammar algebra sign)

adding_fits : (term : Term) (kinds : List Kind) → IsTermFor (length kinds) term → IsAdding term kinds → AreFactorsOf kinds term
adding_fits (Linear term) kinds fits adding = fits.factors
adding_fits (Wide term) kinds fits adding = absurd adding

-- all terms of the algebra add scores as they are
abbrev pub Adds : Grammar → ℕ → Type 0
Adds grammar algebra = (sign : ℕ) → sign < length grammar.signs → AddsScores grammar algebra sign

pub fitting_terms : TermsFit → EachFits → (grammar : Grammar) → IsTrue (is_well_formed grammar) → (algebra : ℕ) → algebra < length grammar.algebras → Adds grammar algebra
    → AreTermsOf grammar.signs (algebra_at grammar algebra).terms
fitting_terms terms fits grammar formed algebra known adding = record {
  each = terms grammar formed algebra known;
  fit = λ sign inside. adding_fits (term_for grammar algebra sign) (sign_at grammar sign).kinds (fits grammar formed algebra sign known inside) (adding sign inside);
}

pub second_known : (first second : CheckedGrammar) → IsPair first second → PassesChecks second → second.algebra < length first.grammar.algebras
second_known first second pair passes = subst (λ (g : Grammar). second.algebra < length g.algebras) (ap (λ (k : CheckedGrammar). k.grammar) pair.other) passes.found.algebra_known

pub compiled_is : (first : CheckedGrammar) (second : ℕ) (g : Grammar) (own other m m' : ℕ) → g ≡ first.grammar → own ≡ first.algebra → other ≡ second → m ≡ m'
    → compiled_algebra g own other m ≡ compiled_algebra first.grammar first.algebra second m'
compiled_is first second g own other m m' g_is own_is other_is m_is =
    ap (λ x. compiled_algebra x own other m) g_is ∙ ap (λ x. compiled_algebra first.grammar x other m) own_is
    ∙ ap (λ x. compiled_algebra first.grammar first.algebra x m) other_is ∙ ap (compiled_algebra first.grammar first.algebra second) m_is

-- one algebra in the place of another
pub recompiled : (first second compiled : CheckedGrammar) (bound : ℕ) (algebra : Algebra) → IsButForAlgebra first compiled
    → algebra ≡ compiled_algebra first.grammar first.algebra second.algebra (multiplier_of bound) → with_algebra compiled algebra ≡ compiled_pair first second bound
recompiled first second compiled bound algebra (other, is) algebra_is =
    ap (λ (k : CheckedGrammar). with_algebra k algebra) is
    ∙ ap (λ xs. record first { grammar = record first.grammar { algebras = xs } }) (set-set first.grammar.algebras first.algebra other algebra)
    ∙ ap (with_algebra first) algebra_is

-- nothing is another
pub same_whole : (first : CheckedGrammar) (grammar : Grammar) (own : ℕ) → grammar ≡ first.grammar → own ≡ first.algebra
    → record first { grammar = grammar; algebra = own } ≡ first
same_whole first grammar own grammar_is own_is = λ i. record first { grammar = grammar_is i; algebra = own_is i }

-- the grammar is itself but for its algebra
pub but_for_own : (first other : CheckedGrammar) → other ≡ first → IsButForAlgebra first other
but_for_own first other is = (
  algebra_at first.grammar first.algebra,
  is ∙ ap (λ xs. record first { grammar = record first.grammar { algebras = xs } }) (sym (set-get_or first.grammar.algebras first.algebra _)),
)

pub greatest_is : (first : CheckedGrammar) (second : ℕ) (g : Grammar) (own other m m' : ℕ) → g ≡ first.grammar → own ≡ first.algebra → other ≡ second → m ≡ m'
    → greatest_compiled g own other m ≡ greatest_compiled first.grammar first.algebra second m'
greatest_is first second g own other m m' g_is own_is other_is m_is =
    ap (λ x. greatest_compiled x own other m) g_is ∙ ap (λ x. greatest_compiled first.grammar x other m) own_is
    ∙ ap (λ x. greatest_compiled first.grammar first.algebra x m) other_is ∙ ap (greatest_compiled first.grammar first.algebra second) m_is

pub PassesChecks-made : (first second : CheckedGrammar) (m own : ℕ) (copy : Grammar) → TermsFit → EachFits
    → MonotoneKeeps
    → PassesChecks first → PassesChecks second → IsPair first second → greatest_compiled first.grammar first.algebra second.algebra m ≤ greatest_score
    → copy ≡ compiled_grammar first.grammar first.algebra second.algebra m → own ≡ first.algebra → PassesChecks (record first { grammar = copy; algebra = own })
PassesChecks-made first second m own copy terms fits keeps passes passes' pair low copy_is own_is =
    subst (λ a. PassesChecks (record first { grammar = copy; algebra = a })) (sym own_is)
    (subst (λ g. PassesChecks (record first { grammar = g })) (sym copy_is)
    (PassesChecks-compiled first second.algebra m passes
    (fitting_terms terms fits first.grammar passes.found.well_formed first.algebra passes.found.algebra_known (λ sign inside. (pair.adding sign inside).0))
    (fitting_terms terms fits first.grammar passes.found.well_formed second.algebra (second_known first second pair passes') (λ sign inside. (pair.adding sign inside).1))
    keeps low))
