-- The compiled scores order trees as the pairs do.
use Rattle.std.proofs.Common.{◌≡◌, ◌<◌, ◌≤◌, ◌*◌, ◌↔◌, ◌⊎◌, inl, inr, ℕ, ℤ, nat_abs, ◌<ℤ◌, Bool, true, false, IsTrue, Option, List, length, sym, ap, subst, ◌∙◌, arith}
use Rattle.std.proofs.lemmas.Int.{ints}
use Rattle.adp_model.specs.declared.grammar.Algebra.{Algebra}
use Rattle.adp_model.specs.declared.grammar.Goal.{Goal}
use Rattle.adp_model.specs.declared.grammar.Goal.TheVariants.{Least, Greatest}
use Rattle.adp_model.specs.declared.grammar.Grammar.{Grammar}
use Rattle.adp_model.specs.declared.cell.Cell.{Cell}
use Rattle.adp_model.specs.PosedProblem.{PosedProblem}
use Rattle.adp_model.specs.Parts.{algebra_of, alternatives_of, alternative_at}
use Rattle.adp_model.specs.Bounds.{IsScoreBound}
use Rattle.adp_model.specs.Checks.{IsChecked}
use Rattle.adp_model.specs.ProblemFields.{most_letters}
use Rattle.adp_model.specs.Tree.{Tree}
use Rattle.adp_model.specs.Derivation.{Derives}
use Rattle.adp_model.specs.Scores.{score_of, IsBetter}
use Rattle.adp_model.specs.Preference.{IsBefore, IsPreferred}
use Rattle.adp_model.specs.WellFormed.{is_well_formed}
use Rattle.lex_product.specs.CompiledTerms.{joined, is_same_goal, IsJoinedFrom}
use Rattle.lex_product.specs.CompiledGrammar.{compiled_problem, has_same_goal, multiplier_of}
use Rattle.lex_product.specs.Compilable.{IsCompilable}
use Rattle.lex_product.specs.PairOrder.{under, scores_of, IsBetterPair, IsPairBefore, IsPairPreferred}
use Rattle.lex_product.proofs.Joined.{part_of, nat_abs-part_of, joined-parts, sums_apart, sums_less, wholes_less, parts_less}
use Rattle.lex_product.proofs.Compiled.{compiled_at, fitting_terms, TermsFit, EachFits}
use Rattle.lex_product.proofs.FittingArguments.{AreFit-formed}
use Rattle.lex_product.proofs.CompiledScores.{ArePaired, score_joined}
use Rattle.lex_product.proofs.OtherAlgebras.{derived_moved}
use Rattle.lex_product.proofs.SoundTrees.{IsDerived, sound, before_moved}

-- ---- pairs and their numbers

pub pairs_equal : (m : ℕ) (same : Bool) (pair pair' : ℤ × ℤ) → 2 * nat_abs pair.1 < m → 2 * nat_abs pair'.1 < m → joined m same pair ≡ joined m same pair' → pair ≡ pair'
pairs_equal m same pair pair' small small' e =
    let parts = sums_apart m pair.0 (part_of same pair.1) pair'.0 (part_of same pair'.1) (omega (arith, nat_abs-part_of same pair.1, nat_abs-part_of same pair'.1))
    (sym (joined-parts m same pair) ∙ e ∙ joined-parts m same pair') in
    ap (λ x. (x, pair.1)) parts.0 ∙ ap (λ y. (pair'.0, y)) (part_apart same pair.1 pair'.1 parts.1)
  where
    part_apart : (which : Bool) (b b' : ℤ) → part_of which b ≡ part_of which b' → b ≡ b'
    part_apart true b b' h = h
    part_apart false b b' h = omega (arith, ints, h)

module _ (m : ℕ) (a b a' b' : ℤ) (small : 2 * nat_abs b < m) (small' : 2 * nat_abs b' < m) where
  -- the numbers in order are the pairs in order
  less_pairs : (same : Bool) → joined m same (a, b) <ℤ joined m same (a', b') → (a <ℤ a') ⊎ ((a ≡ a') × (part_of same b <ℤ part_of same b'))
  less_pairs same h =
      sums_less m a (part_of same b) a' (part_of same b') (omega (arith, nat_abs-part_of same b, nat_abs-part_of same b'))
      (omega (arith, ints, joined-parts m same (a, b), joined-parts m same (a', b'), h))

  pairs_less : (same : Bool) → (a <ℤ a') ⊎ ((a ≡ a') × (part_of same b <ℤ part_of same b')) → joined m same (a, b) <ℤ joined m same (a', b')
  pairs_less same (inl less) =
      let h = wholes_less m a (part_of same b) a' (part_of same b') (omega (arith, nat_abs-part_of same b, nat_abs-part_of same b')) less in
      omega (arith, ints, joined-parts m same (a, b), joined-parts m same (a', b'), h)
  pairs_less same (inr (one, less)) =
      let h = parts_less m a (part_of same b) a' (part_of same b') one less in
      omega (arith, ints, joined-parts m same (a, b), joined-parts m same (a', b'), h)

-- the better number has the better pair
pub better_pair : (goal goal' : Goal) (m : ℕ) (pair pair' : ℤ × ℤ) → 2 * nat_abs pair.1 < m → 2 * nat_abs pair'.1 < m
    → IsBetter goal (joined m (is_same_goal goal goal') pair) (joined m (is_same_goal goal goal') pair') → IsBetterPair goal goal' pair pair'
better_pair Least Least m pair pair' small small' h = less_pairs m pair.0 pair.1 pair'.0 pair'.1 small small' true h
better_pair Least Greatest m pair pair' small small' h = turned (less_pairs m pair.0 pair.1 pair'.0 pair'.1 small small' false h)
  where
    turned : (pair.0 <ℤ pair'.0) ⊎ ((pair.0 ≡ pair'.0) × (part_of false pair.1 <ℤ part_of false pair'.1)) → IsBetterPair Least Greatest pair pair'
    turned (inl less) = inl less
    turned (inr (one, less)) = inr (one, omega (arith, ints, less))
better_pair Greatest Least m pair pair' small small' h = turned (less_pairs m pair'.0 pair'.1 pair.0 pair.1 small' small false h)
  where
    turned : (pair'.0 <ℤ pair.0) ⊎ ((pair'.0 ≡ pair.0) × (part_of false pair'.1 <ℤ part_of false pair.1)) → IsBetterPair Greatest Least pair pair'
    turned (inl less) = inl less
    turned (inr (one, less)) = inr (sym one, omega (arith, ints, less))
better_pair Greatest Greatest m pair pair' small small' h = turned (less_pairs m pair'.0 pair'.1 pair.0 pair.1 small' small true h)
  where
    turned : (pair'.0 <ℤ pair.0) ⊎ ((pair'.0 ≡ pair.0) × (part_of true pair'.1 <ℤ part_of true pair.1)) → IsBetterPair Greatest Greatest pair pair'
    turned (inl less) = inl less
    turned (inr (one, less)) = inr (sym one, less)

pub better_number : (goal goal' : Goal) (m : ℕ) (pair pair' : ℤ × ℤ) → 2 * nat_abs pair.1 < m → 2 * nat_abs pair'.1 < m
    → IsBetterPair goal goal' pair pair' → IsBetter goal (joined m (is_same_goal goal goal') pair) (joined m (is_same_goal goal goal') pair')
better_number Least Least m pair pair' small small' h = pairs_less m pair.0 pair.1 pair'.0 pair'.1 small small' true h
better_number Least Greatest m pair pair' small small' (inl h) = pairs_less m pair.0 pair.1 pair'.0 pair'.1 small small' false (inl h)
better_number Least Greatest m pair pair' small small' (inr (one, h)) = pairs_less m pair.0 pair.1 pair'.0 pair'.1 small small' false (inr (one, omega (arith, ints, h)))
better_number Greatest Least m pair pair' small small' (inl h) = pairs_less m pair'.0 pair'.1 pair.0 pair.1 small' small false (inl h)
better_number Greatest Least m pair pair' small small' (inr (one, h)) = pairs_less m pair'.0 pair'.1 pair.0 pair.1 small' small false (inr (sym one, omega (arith, ints, h)))
better_number Greatest Greatest m pair pair' small small' (inl h) = pairs_less m pair'.0 pair'.1 pair.0 pair.1 small' small true (inl h)
better_number Greatest Greatest m pair pair' small small' (inr (one, h)) = pairs_less m pair'.0 pair'.1 pair.0 pair.1 small' small true (inr (sym one, h))

-- ---- the laws

-- what the laws of the model say of bounds, signs and terms
pub record ModelLaws : Type 0 where
  pub bounded : (p : PosedProblem) (least : List ℕ) (greatest : List (Option ℕ)) (ranks : List ℕ)
      → IsChecked p.grammar p.algebra least greatest ranks → length p.word ≤ most_letters
      → (number : ℕ) → IsScoreBound p.grammar p.algebra (length p.word) number
      → (cell : Cell) (tree : Tree) → Derives p cell tree → nat_abs (score_of p tree) ≤ number
  pub rules : (grammar : Grammar) (rule alternative : ℕ) → alternative < length (alternatives_of grammar rule) → rule < length grammar.rules
  pub signs : (grammar : Grammar) → IsTrue (is_well_formed grammar) → (rule alternative : ℕ) → alternative < length (alternatives_of grammar rule)
      → (alternative_at grammar rule alternative).sign < length grammar.signs
  pub terms : TermsFit
  pub fits : EachFits

module _ (laws : ModelLaws) (p : PosedProblem) (second bound : ℕ) (can : IsCompilable p second bound) where
  abbrev m : ℕ
  m = multiplier_of bound

  abbrev same : Bool
  same = has_same_goal p.grammar p.algebra second

  abbrev c : PosedProblem
  c = compiled_problem p second m

  paired : ArePaired p second
  paired =
      let formed = can.checked.well_formed in
      record {
        known = can.checked.algebra_known;
        terms = fitting_terms laws.terms laws.fits p.grammar formed p.algebra can.checked.algebra_known (λ sign inside. (can.adding sign inside).0);
        terms' = fitting_terms laws.terms laws.fits p.grammar formed second can.second_checked.algebra_known (λ sign inside. (can.adding sign inside).1);
        adding = can.adding;
        signs = laws.signs p.grammar formed;
        fit = λ rule alternative inside. AreFit-formed p.grammar formed rule alternative (laws.rules p.grammar rule alternative inside) inside;
      }

  pub both_scores : (cell : Cell) (tree : Tree) → Derives p cell tree → IsJoinedFrom m same (score_of c tree) (scores_of p second tree)
  both_scores cell tree derived =
      let low = laws.bounded (under second p) can.least can.greatest can.ranks can.second_checked can.short bound can.bounded cell tree (derived_moved p p.grammar.algebras second cell tree derived) in
      record { is = score_joined p second m paired cell tree derived; small = omega arith }

  goal_is : (algebra_of c).goal ≡ (algebra_of p).goal
  goal_is = ap (λ (a : Algebra). a.goal) (compiled_at p.grammar p.algebra second m can.checked.algebra_known paired.terms paired.terms')

  to_pair : (t u : Tree) → IsDerived p t → IsDerived p u → IsBetter (algebra_of c).goal (score_of c t) (score_of c u)
      → IsBetterPair (algebra_of p).goal (algebra_of (under second p)).goal (scores_of p second t) (scores_of p second u)
  to_pair t u d d' h =
      let s = both_scores d.0 t d.1 in
      let s' = both_scores d'.0 u d'.1 in
      better_pair (algebra_of p).goal (algebra_of (under second p)).goal m (scores_of p second t) (scores_of p second u) s.small s'.small
      (subst (λ x. IsBetter (algebra_of p).goal x (joined m same (scores_of p second u))) s.is
      (subst (IsBetter (algebra_of p).goal (score_of c t)) s'.is (subst (λ g. IsBetter g (score_of c t) (score_of c u)) goal_is h)))

  to_number : (t u : Tree) → IsDerived p t → IsDerived p u
      → IsBetterPair (algebra_of p).goal (algebra_of (under second p)).goal (scores_of p second t) (scores_of p second u) → IsBetter (algebra_of c).goal (score_of c t) (score_of c u)
  to_number t u d d' h =
      let s = both_scores d.0 t d.1 in
      let s' = both_scores d'.0 u d'.1 in
      let good = better_number (algebra_of p).goal (algebra_of (under second p)).goal m (scores_of p second t) (scores_of p second u) s.small s'.small h in
      subst (λ g. IsBetter g (score_of c t) (score_of c u)) (sym goal_is)
      (subst (λ x. IsBetter (algebra_of p).goal x (score_of c u)) (sym s.is) (subst (IsBetter (algebra_of p).goal (joined m same (scores_of p second t))) (sym s'.is) good))

  same_pair : (t u : Tree) → IsDerived p t → IsDerived p u → score_of c t ≡ score_of c u → scores_of p second t ≡ scores_of p second u
  same_pair t u d d' h =
      let s = both_scores d.0 t d.1 in
      let s' = both_scores d'.0 u d'.1 in
      pairs_equal m same (scores_of p second t) (scores_of p second u) s.small s'.small (sym s.is ∙ h ∙ s'.is)

  same_number : (t u : Tree) → IsDerived p t → IsDerived p u → scores_of p second t ≡ scores_of p second u → score_of c t ≡ score_of c u
  same_number t u d d' h =
      let s = both_scores d.0 t d.1 in
      let s' = both_scores d'.0 u d'.1 in
      s.is ∙ ap (joined m same) h ∙ sym s'.is

  pub before_pairs : (cell : Cell) (t u : Tree) → Derives p cell t → Derives p cell u → IsBefore c t u ↔ IsPairBefore p second t u
  before_pairs cell t u d d' = (
    (λ h. before_moved p (IsBetter (algebra_of c).goal) (score_of c) (IsBetterPair (algebra_of p).goal (algebra_of (under second p)).goal) (scores_of p second) to_pair same_pair t u
        (sound p cell t d) (sound p cell u d') h),
    (λ h. before_moved p (IsBetterPair (algebra_of p).goal (algebra_of (under second p)).goal) (scores_of p second) (IsBetter (algebra_of c).goal) (score_of c) to_number same_number t u
        (sound p cell t d) (sound p cell u d') h),
  )

  pub preferred_pairs : (cell : Cell) (tree : Tree) → IsPreferred c cell tree ↔ IsPairPreferred p second cell tree
  preferred_pairs cell tree = (
    (λ preferred. let d = derived_moved c p.grammar.algebras p.algebra cell tree preferred.derived in record {
      derived = d;
      first = λ other derived before. preferred.first other (derived_moved p c.grammar.algebras p.algebra cell other derived) ((before_pairs cell other tree derived d).1 before);
    }),
    (λ preferred. record {
      derived = derived_moved p c.grammar.algebras p.algebra cell tree preferred.derived;
      first = λ other derived before. let d = derived_moved c p.grammar.algebras p.algebra cell other derived in preferred.first other d ((before_pairs cell other tree d preferred.derived).0 before);
    }),
  )
