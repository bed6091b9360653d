-- The bounds bound: the magnitude at a derived tree's root, its score, and its number of nodes.
use Rattle.std.proofs.Common.{◌≡◌, ℕ, ◌+◌, ◌-◌, ◌*◌, ◌<◌, ◌≤◌, max, ℤ, pos, ◌+ℤ◌, ◌*ℤ◌, nat_abs, Option, Some, None, Bool, true, false, nat_eq, cond, List, [], ◌∷◌, length, map, sum, ◌⊎◌, inl, inr, refl, subst, sym, arith}
use Rattle.std.specs.List.{Contains}
use Rattle.std.proofs.Math.Nat.{mul-le-mul_left}
use Rattle.std.proofs.lemmas.Int.{ints, unsigned_abs-mul}
use Rattle.adp_model.specs.declared.grammar.Arg.{Arg}
use Rattle.adp_model.specs.declared.grammar.Arg.TheVariants.{Rule, Literal, Letter, Run}
use Rattle.adp_model.specs.declared.grammar.Term.{Term}
use Rattle.adp_model.specs.declared.grammar.Term.TheVariants.{Linear, Wide}
use Rattle.adp_model.specs.declared.grammar.Grammar.{Grammar}
use Rattle.adp_model.specs.declared.cell.Cell.{Cell}
use Rattle.adp_model.specs.PosedProblem.{PosedProblem, IsSpan}
use Rattle.adp_model.specs.Parts.{letters_of, alternatives_of, arguments_of, term_of}
use Rattle.adp_model.specs.Tokens.{letters_between, weight_of, total_weight, Matches, token_value}
use Rattle.adp_model.specs.Terms.{weighted_sum, term_value, weighted_total, magnitude}
use Rattle.adp_model.specs.Tree.{Tree, Leaf, Node, Trees, Nil, Cons, start_of, end_of, node_count, node_counts}
use Rattle.adp_model.specs.Derivation.{IsMatchingLeaf, Derives, DeriveArguments}
use Rattle.adp_model.specs.Scores.{score_of, values_of, root_magnitude}
use Rattle.adp_model.specs.Lengths.{AdmitsLength}
use Rattle.adp_model.specs.Checks.{IsChecked}
use Rattle.adp_model.specs.ProblemFields.{most_letters}
use Rattle.adp_model.specs.Bounds.{AreInRange, IsWay, greatest_weight, token_bound, argument_bounds, nodes_within, IsMagnitude, IsNodeNumber, IsGreatest, AreScoreBounds, AreNodeBounds, IsRuleBound, IsTokenBound, IsScoreBound}
use Rattle.adp_model.proofs.WideTerms.{AreUpTo, wide_grows, wide_within}
use Rattle.adp_model.proofs.Ways.{sum-first}
use Rattle.adp_model.proofs.Derived.{IsSpan-derived}
use Rattle.adp_model.proofs.Sized.{length-letters_between, AdmitsLength-matched, within_from_derived}
use Rattle.adp_model.proofs.KnownRules.{rule_known}

-- ---- facts of terms

total_grows : (factors : List ℤ) (numbers others : List ℕ) → AreUpTo numbers others → weighted_total factors numbers ≤ weighted_total factors others
total_grows [] numbers others up_to = omega arith
total_grows (factor ∷ factors) [] others up_to = omega arith
total_grows (factor ∷ factors) (number ∷ numbers) [] up_to = absurd up_to
total_grows (factor ∷ factors) (number ∷ numbers) (other ∷ others) up_to =
    let rest = total_grows factors numbers others up_to.1 in
    let first = mul-le-mul_left (nat_abs factor) up_to.0 in
    omega (arith, first)

-- greater numbers give no lesser magnitude
pub magnitude_grows : (term : Term) (numbers others : List ℕ) → AreUpTo numbers others → magnitude term numbers ≤ magnitude term others
magnitude_grows (Linear term) numbers others up_to = omega (arith, total_grows term.factors numbers others up_to)
magnitude_grows (Wide term) numbers others up_to = wide_grows term numbers others up_to

nat_abs-sum : (a b : ℤ) → nat_abs (a +ℤ b) ≤ nat_abs a + nat_abs b
nat_abs-sum a b = omega (arith, ints)

sum_within : (factors values : List ℤ) → nat_abs (weighted_sum factors values) ≤ weighted_total factors (map nat_abs values)
sum_within [] values = omega arith
sum_within (factor ∷ factors) [] = omega arith
sum_within (factor ∷ factors) (value ∷ values) =
    let rest = sum_within factors values in
    let both = nat_abs-sum (factor *ℤ value) (weighted_sum factors values) in
    let first = unsigned_abs-mul factor value in
    omega (arith, both, first)

-- a term's value is within its magnitude
pub value_within : (term : Term) (values : List ℤ) → nat_abs (term_value term values) ≤ magnitude term (map nat_abs values)
value_within (Linear term) values =
    let both = nat_abs-sum term.constant (weighted_sum term.factors values) in
    let rest = sum_within term.factors values in
    omega (arith, both, rest)
value_within (Wide term) values = wide_within term values

-- ---- tokens

weight_within : (class : List (ℕ × ℤ)) (letter : ℕ) (weight : ℤ) → weight_of class letter ≡ Some weight → nat_abs weight ≤ greatest_weight class
weight_within [] letter weight e = absurd cc
weight_within (entry ∷ entries) letter weight e = by (nat_eq entry.0 letter) e (weight_within entries letter weight)
  where
    by : (same : Bool) → cond same (Some entry.1) (weight_of entries letter) ≡ Some weight → (weight_of entries letter ≡ Some weight → nat_abs weight ≤ greatest_weight entries) → nat_abs weight ≤ greatest_weight (entry ∷ entries)
    by true h others = let one : entry.1 ≡ weight = cc in subst (λ w. nat_abs w ≤ max (nat_abs entry.1) (greatest_weight entries)) one (omega arith)
    by false h others = let rest = others h in omega arith

total_within : (class : List (ℕ × ℤ)) (letters : List ℕ) → nat_abs (total_weight class letters) ≤ greatest_weight class * length letters
total_within class [] = omega arith
total_within class (letter ∷ letters) = by (weight_of class letter) refl (total_within class letters)
  where
    by : (found : Option ℤ) → weight_of class letter ≡ found → nat_abs (total_weight class letters) ≤ greatest_weight class * length letters → nat_abs (total_weight class (letter ∷ letters)) ≤ greatest_weight class * length (letter ∷ letters)
    by None e rest = rw e (let both = nat_abs-sum (pos 0) (total_weight class letters) in grind arith)
    by (Some weight) e rest = rw e (let both = nat_abs-sum weight (total_weight class letters) in let one = weight_within class letter weight e in grind arith)

token_within : (grammar : Grammar) (word : List ℕ) (token : Arg) (from to : ℕ) → IsSpan word from to → nat_abs (token_value grammar token (letters_between word from to)) ≤ token_bound grammar token (to - from)
token_within grammar word (Rule rule) from to span = omega arith
token_within grammar word (Literal text) from to span = omega arith
token_within grammar word (Letter class) from to span =
    subst (λ n. nat_abs (total_weight (letters_of grammar class) (letters_between word from to)) ≤ greatest_weight (letters_of grammar class) * n) (length-letters_between word from to span) (total_within (letters_of grammar class) (letters_between word from to))
token_within grammar word (Run class low high) from to span =
    subst (λ n. nat_abs (total_weight (letters_of grammar class) (letters_between word from to)) ≤ greatest_weight (letters_of grammar class) * n) (length-letters_between word from to span) (total_within (letters_of grammar class) (letters_between word from to))

token_length : (grammar : Grammar) (word : List ℕ) (token : Arg) (from to : ℕ) → IsSpan word from to → Matches grammar token (letters_between word from to) → AdmitsLength token (to - from)
token_length grammar word token from to span matches =
    subst (AdmitsLength token) (length-letters_between word from to span) (AdmitsLength-matched grammar token (letters_between word from to) matches)

-- a leaf of a token: its span, its length, and how great its value is
record IsLeafOf (p : PosedProblem) (token : Arg) (from : ℕ) (leaf : Tree) : Type 0 where
  starts : start_of leaf ≡ from
  span : IsSpan p.word from (end_of leaf)
  admits : AdmitsLength token (end_of leaf - from)
  value : nat_abs (token_value p.grammar token (letters_between p.word (start_of leaf) (end_of leaf))) ≤ token_bound p.grammar token (end_of leaf - from)

leaf_facts : (p : PosedProblem) (token : Arg) (from : ℕ) (leaf : Tree) → IsMatchingLeaf p token from leaf → IsLeafOf p token from leaf
leaf_facts p token from (Leaf start to) matching =
    let span : IsSpan p.word from to = subst (λ s. IsSpan p.word s to) matching.0 matching.1 in
    record {
      starts = matching.0;
      span = span;
      admits = token_length p.grammar p.word token from to span (subst (λ s. Matches p.grammar token (letters_between p.word s to)) matching.0 matching.2);
      value = subst (λ s. nat_abs (token_value p.grammar token (letters_between p.word s to)) ≤ token_bound p.grammar token (to - from)) (sym matching.0) (token_within p.grammar p.word token from to span);
    }
leaf_facts p token from (Node rule alternative start to children) matching = absurd matching

-- ---- soundness

-- the lengths of the children
abbrev pub lengths_of : ℕ → Trees → List ℕ
lengths_of from Nil = []
lengths_of from (Cons first others) = (end_of first - from) ∷ lengths_of (end_of first) others

-- what holds below the greatest holds of none else
below_greatest : (Holds : ℕ → Type 0) (number a : ℕ) → IsGreatest Holds number → Holds a → a ≤ number
below_greatest Holds number a (inl greatest) h = greatest.1 a h
below_greatest Holds number a (inr none) h = absurd (none.1 a h)

no_nodes : (p : PosedProblem) (token : Arg) (from : ℕ) (leaf : Tree) → IsMatchingLeaf p token from leaf → node_count leaf ≡ 0
no_nodes p token from (Leaf start to) matching = refl
no_nodes p token from (Node rule alternative start to children) matching = absurd matching

module _ (p : PosedProblem) (least : List ℕ) (greatest : List (Option ℕ)) (ranks : List ℕ) (checked : IsChecked p.grammar p.algebra least greatest ranks) (short : length p.word ≤ most_letters) where
  children_fit : (arguments : List Arg) (from to : ℕ) (children : Trees) → DeriveArguments p arguments from to children → AreInRange p.grammar arguments (lengths_of from children)
  children_fit [] from to Nil derived = tt
  children_fit [] from to (Cons first others) derived = absurd derived
  children_fit (argument ∷ arguments) from to Nil derived = absurd derived
  children_fit (Rule rule ∷ arguments) from to (Cons first others) derived =
      (within_from_derived p least greatest ranks checked (record { rule = rule; from = from; to = end_of first }) first derived.0, children_fit arguments (end_of first) to others derived.1)
  children_fit (Literal text ∷ arguments) from to (Cons first others) derived =
      ((leaf_facts p (Literal text) from first derived.0).admits, children_fit arguments (end_of first) to others derived.1)
  children_fit (Letter class ∷ arguments) from to (Cons first others) derived =
      ((leaf_facts p (Letter class) from first derived.0).admits, children_fit arguments (end_of first) to others derived.1)
  children_fit (Run class low high ∷ arguments) from to (Cons first others) derived =
      ((leaf_facts p (Run class low high) from first derived.0).admits, children_fit arguments (end_of first) to others derived.1)

  children_add_up : (arguments : List Arg) (from to : ℕ) (children : Trees) → DeriveArguments p arguments from to children → (from ≤ to) × (sum (lengths_of from children) ≡ to - from)
  children_add_up [] from to Nil derived = (omega (arith, derived), omega (arith, derived))
  children_add_up [] from to (Cons first others) derived = absurd derived
  children_add_up (argument ∷ arguments) from to Nil derived = absurd derived
  children_add_up (Rule rule ∷ arguments) from to (Cons first others) derived =
      let span = IsSpan-derived p (record { rule = rule; from = from; to = end_of first }) first derived.0 in
      let order = span.in_order in
      let rest = children_add_up arguments (end_of first) to others derived.1 in
      let total = sum-first (end_of first - from) (lengths_of (end_of first) others) in
      (omega (arith, rest.0), omega (arith, rest.0, rest.1))
  children_add_up (token ∷ arguments) from to (Cons first others) derived =
      let span = (leaf_facts p token from first derived.0).span in
      let order = span.in_order in
      let rest = children_add_up arguments (end_of first) to others derived.1 in
      let total = sum-first (end_of first - from) (lengths_of (end_of first) others) in
      (omega (arith, rest.0), omega (arith, rest.0, rest.1))

  -- the children of a derived node are a way
  way_derived : (cell : Cell) (alternative : ℕ) (children : Trees) → alternative < length (alternatives_of p.grammar cell.rule) → DeriveArguments p (arguments_of p.grammar cell.rule alternative) cell.from cell.to children → IsWay p.grammar cell.rule (cell.to - cell.from) alternative (lengths_of cell.from children)
  way_derived cell alternative children in_range derived = record {
    in_range = in_range;
    fit = children_fit (arguments_of p.grammar cell.rule alternative) cell.from cell.to children derived;
    sum_is = (children_add_up (arguments_of p.grammar cell.rule alternative) cell.from cell.to children derived).1;
  }

  score_within_root : (tree : Tree) → nat_abs (score_of p tree) ≤ root_magnitude p tree
  score_within_root (Leaf from to) = omega arith
  score_within_root (Node rule alternative from to children) = value_within (term_of p rule alternative) (values_of p (arguments_of p.grammar rule alternative) children)

  module _ (bound : ℕ → ℕ → ℕ) (table : AreScoreBounds p.grammar p.algebra bound) where
    mutual
      pub magnitude_sound : (cell : Cell) (tree : Tree) → Derives p cell tree → root_magnitude p tree ≤ bound cell.rule (cell.to - cell.from)
      magnitude_sound cell (Leaf from to) derived = absurd derived
      magnitude_sound cell (Node rule alternative from to children) derived =
          let arguments = arguments_of p.grammar cell.rule alternative in
          let lengths = lengths_of cell.from children in
          let within = magnitude_grows (term_of p cell.rule alternative) (map nat_abs (values_of p arguments children)) (argument_bounds p.grammar bound arguments lengths) (values_sound arguments cell.from cell.to children derived.5) in
          let top = below_greatest (IsMagnitude p.grammar p.algebra bound cell.rule (cell.to - cell.from)) (bound cell.rule (cell.to - cell.from)) (magnitude (term_of p cell.rule alternative) (argument_bounds p.grammar bound arguments lengths)) (table cell.rule (cell.to - cell.from)) (alternative, lengths, way_derived cell alternative children derived.4 derived.5, refl) in
          subst (λ r. magnitude (term_of p r alternative) (map nat_abs (values_of p (arguments_of p.grammar r alternative) children)) ≤ bound cell.rule (cell.to - cell.from)) (sym derived.0) (omega (arith, within, top))

      values_sound : (arguments : List Arg) (from to : ℕ) (children : Trees) → DeriveArguments p arguments from to children → AreUpTo (map nat_abs (values_of p arguments children)) (argument_bounds p.grammar bound arguments (lengths_of from children))
      values_sound [] from to Nil derived = tt
      values_sound [] from to (Cons first others) derived = absurd derived
      values_sound (argument ∷ arguments) from to Nil derived = absurd derived
      values_sound (Rule rule ∷ arguments) from to (Cons first others) derived =
          let root = magnitude_sound (record { rule = rule; from = from; to = end_of first }) first derived.0 in
          let score = score_within_root first in
          (omega (arith, root, score), values_sound arguments (end_of first) to others derived.1)
      values_sound (token ∷ arguments) from to (Cons first others) derived =
          ((leaf_facts p token from first derived.0).value, values_sound arguments (end_of first) to others derived.1)

    pub score_sound : (cell : Cell) (tree : Tree) → Derives p cell tree → nat_abs (score_of p tree) ≤ bound cell.rule (cell.to - cell.from)
    score_sound cell tree derived = omega (arith, magnitude_sound cell tree derived, score_within_root tree)

  module _ (nodes : ℕ → ℕ → ℕ) (table : AreNodeBounds p.grammar nodes) where
    mutual
      pub nodes_sound : (cell : Cell) (tree : Tree) → Derives p cell tree → node_count tree ≤ nodes cell.rule (cell.to - cell.from)
      nodes_sound cell (Leaf from to) derived = absurd derived
      nodes_sound cell (Node rule alternative from to children) derived =
          let arguments = arguments_of p.grammar cell.rule alternative in
          let lengths = lengths_of cell.from children in
          let within = node_counts_sound arguments cell.from cell.to children derived.5 in
          let top = below_greatest (IsNodeNumber p.grammar nodes cell.rule (cell.to - cell.from)) (nodes cell.rule (cell.to - cell.from)) (1 + nodes_within nodes arguments lengths) (table cell.rule (cell.to - cell.from)) (alternative, lengths, way_derived cell alternative children derived.4 derived.5, refl) in
          omega (arith, within, top)

      node_counts_sound : (arguments : List Arg) (from to : ℕ) (children : Trees) → DeriveArguments p arguments from to children → node_counts children ≤ nodes_within nodes arguments (lengths_of from children)
      node_counts_sound [] from to Nil derived = omega arith
      node_counts_sound [] from to (Cons first others) derived = absurd derived
      node_counts_sound (argument ∷ arguments) from to Nil derived = absurd derived
      node_counts_sound (Rule rule ∷ arguments) from to (Cons first others) derived =
          let one = nodes_sound (record { rule = rule; from = from; to = end_of first }) first derived.0 in
          let rest = node_counts_sound arguments (end_of first) to others derived.1 in
          omega arith
      node_counts_sound (token ∷ arguments) from to (Cons first others) derived =
          let rest = node_counts_sound arguments (end_of first) to others derived.1 in
          let none = no_nodes p token from first derived.0 in
          omega arith

  -- ---- the word's score bound

  module _ (number : ℕ) (is_bound : IsScoreBound p.grammar p.algebra (length p.word) number) where
    known_rule : (cell : Cell) (tree : Tree) → Derives p cell tree → cell.rule < length p.grammar.rules
    known_rule cell (Leaf from to) derived = absurd derived
    known_rule cell (Node rule alternative from to children) derived = rule_known p.grammar cell.rule alternative derived.4

    pub magnitude_kept : (cell : Cell) (tree : Tree) → Derives p cell tree → root_magnitude p tree ≤ number
    magnitude_kept cell tree derived =
        let span = IsSpan-derived p cell tree derived in
        let inside = span.in_word in
        let low : cell.to - cell.from ≤ length p.word = omega arith in
        let one = magnitude_sound is_bound.0 is_bound.1 cell tree derived in
        let top = below_greatest (λ other. IsRuleBound p.grammar is_bound.0 (length p.word) other ⊎ IsTokenBound p.grammar (length p.word) other) number (is_bound.0 cell.rule (cell.to - cell.from)) is_bound.2
        (inl (cell.rule, cell.to - cell.from, known_rule cell tree derived, low, refl)) in
        omega (arith, one, top)

    pub score_kept : (cell : Cell) (tree : Tree) → Derives p cell tree → nat_abs (score_of p tree) ≤ number
    score_kept cell tree derived = omega (arith, magnitude_kept cell tree derived, score_within_root tree)

    pub token_kept : (rule alternative : ℕ) (token : Arg) (from to : ℕ) → Contains (arguments_of p.grammar rule alternative) token → IsSpan p.word from to → Matches p.grammar token (letters_between p.word from to) → nat_abs (token_value p.grammar token (letters_between p.word from to)) ≤ number
    token_kept rule alternative token from to stands span matches =
        let inside = span.in_word in
        let low : to - from ≤ length p.word = omega arith in
        let one = token_within p.grammar p.word token from to span in
        let top = below_greatest (λ other. IsRuleBound p.grammar is_bound.0 (length p.word) other ⊎ IsTokenBound p.grammar (length p.word) other) number (token_bound p.grammar token (to - from)) is_bound.2
        (inr (rule, alternative, token, to - from, stands, token_length p.grammar p.word token from to span matches, low, refl)) in
        omega (arith, one, top)
