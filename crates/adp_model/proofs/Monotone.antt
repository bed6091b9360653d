-- Terms that keep the order of scores: by the signs of their factors, and at the values of derived children.
use Rattle.std.proofs.Common.{◌≡◌, ℕ, suc, ◌*◌, ◌≤◌, ℤ, pos, negsuc, ◌+ℤ◌, ◌*ℤ◌, ◌≤ℤ◌, true, List, [], ◌∷◌, length, refl, sym, subst, arith, mul-le-mul_left}
use Rattle.std.proofs.lemmas.Int.{ints}
use Rattle.std.specs.List.{list_all, zip}
use Rattle.adp_model.specs.declared.grammar.Arg.{Arg}
use Rattle.adp_model.specs.declared.grammar.Arg.TheVariants.{Rule, Literal, Letter, Run}
use Rattle.adp_model.specs.declared.grammar.Goal.{Goal}
use Rattle.adp_model.specs.declared.grammar.Goal.TheVariants.{Least, Greatest}
use Rattle.adp_model.specs.declared.grammar.Grammar.{Grammar}
use Rattle.adp_model.specs.declared.grammar.Kind.{Kind}
use Rattle.adp_model.specs.declared.grammar.Kind.TheVariants.{Score, Token}
use Rattle.adp_model.specs.declared.grammar.Linear as linear
use Rattle.adp_model.specs.declared.grammar.Term.{Term}
use Rattle.adp_model.specs.declared.cell.Cell.{Cell}
use Rattle.adp_model.specs.PosedProblem.{PosedProblem}
use Rattle.adp_model.specs.Tokens.{Matches, letters_between, token_value}
use Rattle.adp_model.specs.Terms.{weighted_sum, linear_value, term_value, AreAtMost, AreValues, KeepsOrder}
use Rattle.adp_model.specs.TermSigns.{ScoreFactorsFrom}
use Rattle.adp_model.specs.Tree.{Tree, Leaf, Node, Trees, Nil, Cons, start_of, end_of}
use Rattle.adp_model.specs.Derivation.{Derives, DeriveArguments, IsMatchingLeaf}
use Rattle.adp_model.specs.Scores.{score_of, values_of}
use Rattle.adp_model.specs.WellFormed.{is_argument}
use Rattle.adp_model.proofs.WellFormedParts.{and_second}
use Rattle.adp_model.proofs.Premises.{IsAsGood, AreAsGood}

-- ---- factors

pub times_at_most : (factor a b : ℤ) → pos 0 ≤ℤ factor → a ≤ℤ b → (factor *ℤ a) ≤ℤ (factor *ℤ b)
times_at_most (pos n) (pos a) (pos b) h k = let m : n * a ≤ n * b = mul-le-mul_left n (omega (arith, ints)) in omega (arith, ints)
times_at_most (pos n) (pos a) (negsuc b) h k = absurd k.le
times_at_most (pos n) (negsuc a) (pos b) h k = omega (arith, ints)
times_at_most (pos n) (negsuc a) (negsuc b) h k = let m : n * suc b ≤ n * suc a = mul-le-mul_left n (omega (arith, ints)) in omega (arith, ints)
times_at_most (negsuc n) a b h k = absurd h.le

pub plus_at_most : (a b c d : ℤ) → a ≤ℤ b → c ≤ℤ d → (a +ℤ c) ≤ℤ (b +ℤ d)
plus_at_most a b c d h k = omega (arith, ints)

at_most_refl : (a : ℤ) → a ≤ℤ a
at_most_refl a = omega (arith, ints)

pub same_times : (factor a b : ℤ) → a ≡ b → (factor *ℤ a) ≤ℤ (factor *ℤ b)
same_times factor a b e = subst (λ x. (factor *ℤ a) ≤ℤ (factor *ℤ x)) e (at_most_refl _)

pub weighted_at_most : (factors : List ℤ) (kinds : List Kind) (values values' : List ℤ) → ScoreFactorsFrom (pos 0) factors kinds → AreAtMost kinds values values' → weighted_sum factors values ≤ℤ weighted_sum factors values'
weighted_at_most [] kinds values values' m h = at_most_refl (pos 0)
weighted_at_most (factor ∷ factors) [] [] [] m h = at_most_refl (pos 0)
weighted_at_most (factor ∷ factors) [] [] (value' ∷ values') m h = absurd h
weighted_at_most (factor ∷ factors) [] (value ∷ values) values' m h = absurd h
weighted_at_most (factor ∷ factors) (Score ∷ kinds) [] values' m h = absurd h
weighted_at_most (factor ∷ factors) (Token ∷ kinds) [] values' m h = absurd h
weighted_at_most (factor ∷ factors) (Score ∷ kinds) (value ∷ values) [] m h = absurd h
weighted_at_most (factor ∷ factors) (Token ∷ kinds) (value ∷ values) [] m h = absurd h
weighted_at_most (factor ∷ factors) (Score ∷ kinds) (value ∷ values) (value' ∷ values') m h =
    plus_at_most _ _ _ _ (times_at_most factor value value' m.0 h.0) (weighted_at_most factors kinds values values' m.1 h.1)
weighted_at_most (factor ∷ factors) (Token ∷ kinds) (value ∷ values) (value' ∷ values') m h =
    plus_at_most _ _ _ _ (same_times factor value value' h.0) (weighted_at_most factors kinds values values' m h.1)

-- where no score factor is negative
pub linear_rises : (term : linear.Linear) (kinds : List Kind) (values values' : List ℤ) → ScoreFactorsFrom (pos 0) term.factors kinds → AreAtMost kinds values values' → linear_value term values ≤ℤ linear_value term values'
linear_rises term kinds values values' m h =
    plus_at_most term.constant term.constant _ _ (at_most_refl term.constant) (weighted_at_most term.factors kinds values values' m h)

-- ---- kinds and arguments

-- kinds that arguments fit
pub record AreFit (grammar : Grammar) (kinds : List Kind) (arguments : List Arg) : Type 0 where
  pub count : length arguments ≡ length kinds
  pub fit : list_all (is_argument grammar) (zip kinds arguments) ≡ true

pub others_fit : (grammar : Grammar) (kind : Kind) (kinds : List Kind) (argument : Arg) (arguments : List Arg) → AreFit grammar (kind ∷ kinds) (argument ∷ arguments) → AreFit grammar kinds arguments
others_fit grammar kind kinds argument arguments h =
    let count = h.count in
    record { count = omega arith; fit = and_second (is_argument grammar (kind, argument)) (list_all (is_argument grammar) (zip kinds arguments)) h.fit }

pub at_most_least : (grammar : Grammar) (kinds : List Kind) (arguments : List Arg) (values values' : List ℤ) → AreFit grammar kinds arguments → length values ≡ length arguments → length values' ≡ length arguments → AreAsGood Least arguments values values' → AreAtMost kinds values values'
at_most_least grammar kinds [] (value ∷ values) values' fit n n' h = absurd (omega arith)
at_most_least grammar kinds [] [] (value' ∷ values') fit n n' h = absurd (omega arith)
at_most_least grammar [] [] [] [] fit n n' h = tt
at_most_least grammar (kind ∷ kinds) [] [] [] fit n n' h = let count = fit.count in absurd (omega arith)
at_most_least grammar kinds (argument ∷ arguments) [] values' fit n n' h = absurd (omega arith)
at_most_least grammar kinds (argument ∷ arguments) (value ∷ values) [] fit n n' h = absurd (omega arith)
at_most_least grammar [] (argument ∷ arguments) (value ∷ values) (value' ∷ values') fit n n' h = let count = fit.count in absurd (omega arith)
at_most_least grammar (Score ∷ kinds) (Rule rule ∷ arguments) (value ∷ values) (value' ∷ values') fit n n' h =
    (h.0, at_most_least grammar kinds arguments values values' (others_fit grammar Score kinds (Rule rule) arguments fit) (omega arith) (omega arith) h.1)
at_most_least grammar (Score ∷ kinds) (Literal text ∷ arguments) (value ∷ values) (value' ∷ values') fit n n' h = let e = fit.fit in absurd (cc)
at_most_least grammar (Score ∷ kinds) (Letter class ∷ arguments) (value ∷ values) (value' ∷ values') fit n n' h = let e = fit.fit in absurd (cc)
at_most_least grammar (Score ∷ kinds) (Run class low high ∷ arguments) (value ∷ values) (value' ∷ values') fit n n' h = let e = fit.fit in absurd (cc)
at_most_least grammar (Token ∷ kinds) (Rule rule ∷ arguments) (value ∷ values) (value' ∷ values') fit n n' h = let e = fit.fit in absurd (cc)
at_most_least grammar (Token ∷ kinds) (Literal text ∷ arguments) (value ∷ values) (value' ∷ values') fit n n' h =
    (h.0, at_most_least grammar kinds arguments values values' (others_fit grammar Token kinds (Literal text) arguments fit) (omega arith) (omega arith) h.1)
at_most_least grammar (Token ∷ kinds) (Letter class ∷ arguments) (value ∷ values) (value' ∷ values') fit n n' h =
    (h.0, at_most_least grammar kinds arguments values values' (others_fit grammar Token kinds (Letter class) arguments fit) (omega arith) (omega arith) h.1)
at_most_least grammar (Token ∷ kinds) (Run class low high ∷ arguments) (value ∷ values) (value' ∷ values') fit n n' h =
    (h.0, at_most_least grammar kinds arguments values values' (others_fit grammar Token kinds (Run class low high) arguments fit) (omega arith) (omega arith) h.1)

-- as good under the one goal is as good the other way round under the other
pub turned : (arguments : List Arg) (values values' : List ℤ) → AreAsGood Greatest arguments values values' → AreAsGood Least arguments values' values
turned [] values values' h = sym h
turned (argument ∷ arguments) [] [] h = tt
turned (argument ∷ arguments) [] (value' ∷ values') h = absurd h
turned (argument ∷ arguments) (value ∷ values) [] h = absurd h
turned (Rule rule ∷ arguments) (value ∷ values) (value' ∷ values') h = (h.0, turned arguments values values' h.1)
turned (token ∷ arguments) (value ∷ values) (value' ∷ values') h = (sym h.0, turned arguments values values' h.1)

-- ---- the values of derived children

pub length-values : (p : PosedProblem) (arguments : List Arg) (from to : ℕ) (children : Trees) → DeriveArguments p arguments from to children → length (values_of p arguments children) ≡ length arguments
length-values p [] from to children h = refl
length-values p (argument ∷ arguments) from to Nil h = absurd h
length-values p (Rule rule ∷ arguments) from to (Cons first others) h = let e = length-values p arguments (end_of first) to others h.1 in omega arith
length-values p (token ∷ arguments) from to (Cons first others) h = let e = length-values p arguments (end_of first) to others h.1 in omega arith

module _ (p : PosedProblem) (CanHave : Kind → ℤ → Type 0) (scores : (cell : Cell) (tree : Tree) → Derives p cell tree → CanHave Score (score_of p tree)) (tokens : (token : Arg) (letters : List ℕ) → Matches p.grammar token letters → CanHave Token (token_value p.grammar token letters)) where
  leaf_can : (token : Arg) (from : ℕ) (tree : Tree) → IsMatchingLeaf p token from tree → CanHave Token (token_value p.grammar token (letters_between p.word (start_of tree) (end_of tree)))
  leaf_can token from (Leaf start end) leaf = tokens token (letters_between p.word start end) leaf.2
  leaf_can token from (Node rule alternative from' to' children) leaf = absurd leaf

  pub AreValues-derived : (kinds : List Kind) (arguments : List Arg) (from to : ℕ) (children : Trees) → AreFit p.grammar kinds arguments → DeriveArguments p arguments from to children → AreValues CanHave kinds (values_of p arguments children)
  AreValues-derived [] [] from to children fit h = tt
  AreValues-derived (kind ∷ kinds) [] from to children fit h = let count = fit.count in absurd (omega arith)
  AreValues-derived [] (argument ∷ arguments) from to children fit h = let count = fit.count in absurd (omega arith)
  AreValues-derived (kind ∷ kinds) (argument ∷ arguments) from to Nil fit h = absurd h
  AreValues-derived (Score ∷ kinds) (Rule rule ∷ arguments) from to (Cons first others) fit h =
      (scores _ first h.0, AreValues-derived kinds arguments (end_of first) to others (others_fit p.grammar Score kinds (Rule rule) arguments fit) h.1)
  AreValues-derived (Score ∷ kinds) (Literal text ∷ arguments) from to (Cons first others) fit h = let e = fit.fit in absurd (cc)
  AreValues-derived (Score ∷ kinds) (Letter class ∷ arguments) from to (Cons first others) fit h = let e = fit.fit in absurd (cc)
  AreValues-derived (Score ∷ kinds) (Run class low high ∷ arguments) from to (Cons first others) fit h = let e = fit.fit in absurd (cc)
  AreValues-derived (Token ∷ kinds) (Rule rule ∷ arguments) from to (Cons first others) fit h = let e = fit.fit in absurd (cc)
  AreValues-derived (Token ∷ kinds) (Literal text ∷ arguments) from to (Cons first others) fit h =
      (leaf_can (Literal text) from first h.0, AreValues-derived kinds arguments (end_of first) to others (others_fit p.grammar Token kinds (Literal text) arguments fit) h.1)
  AreValues-derived (Token ∷ kinds) (Letter class ∷ arguments) from to (Cons first others) fit h =
      (leaf_can (Letter class) from first h.0, AreValues-derived kinds arguments (end_of first) to others (others_fit p.grammar Token kinds (Letter class) arguments fit) h.1)
  AreValues-derived (Token ∷ kinds) (Run class low high ∷ arguments) from to (Cons first others) fit h =
      (leaf_can (Run class low high) from first h.0, AreValues-derived kinds arguments (end_of first) to others (others_fit p.grammar Token kinds (Run class low high) arguments fit) h.1)

  -- children whose values are as good give a value that is as good
  pub orderly-derived : (term : Term) (kinds : List Kind) (arguments : List Arg) → KeepsOrder CanHave term kinds → AreFit p.grammar kinds arguments → (goal : Goal) (from to : ℕ) (ts us : Trees) → DeriveArguments p arguments from to ts → DeriveArguments p arguments from to us → AreAsGood goal arguments (values_of p arguments ts) (values_of p arguments us) → IsAsGood goal (term_value term (values_of p arguments ts)) (term_value term (values_of p arguments us))
  orderly-derived term kinds arguments keeps fit Least from to ts us h k good =
      keeps (values_of p arguments ts) (values_of p arguments us) (AreValues-derived kinds arguments from to ts fit h) (AreValues-derived kinds arguments from to us fit k)
      (at_most_least p.grammar kinds arguments (values_of p arguments ts) (values_of p arguments us) fit (length-values p arguments from to ts h) (length-values p arguments from to us k) good)
  orderly-derived term kinds arguments keeps fit Greatest from to ts us h k good =
      keeps (values_of p arguments us) (values_of p arguments ts) (AreValues-derived kinds arguments from to us fit k) (AreValues-derived kinds arguments from to ts fit h)
      (at_most_least p.grammar kinds arguments (values_of p arguments us) (values_of p arguments ts) fit (length-values p arguments from to us k) (length-values p arguments from to ts h) (turned arguments (values_of p arguments ts) (values_of p arguments us) good))
