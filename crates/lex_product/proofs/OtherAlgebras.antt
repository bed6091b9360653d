-- Grammars that differ in their algebras alone have the same lengths, sizes, edges and anchors, and derive the same
-- trees.
use Rattle.std.proofs.Common.{inl, inr, ℕ, Bool, true, false, MatchBool, Option, Some, List, [], ◌∷◌, ◌≡◌, ◌-◌, ◌++◌, length, refl, ap, ◌∙◌}
use Rattle.std.specs.List.{AllByRecursion}
use Rattle.adp_model.specs.declared.grammar.Algebra.{Algebra}
use Rattle.adp_model.specs.declared.grammar.Arg.{Arg}
use Rattle.adp_model.specs.declared.grammar.Arg.TheVariants.{Rule, Literal, Letter, Run}
use Rattle.adp_model.specs.declared.grammar.Grammar.{Grammar}
use Rattle.adp_model.specs.declared.cell.Cell.{Cell}
use Rattle.adp_model.specs.Parts.{alternative_at, arguments_of, sign_at}
use Rattle.adp_model.specs.PosedProblem.{PosedProblem}
use Rattle.adp_model.specs.Lengths.{HasLength, ByAlternative, HaveLength, NoArguments, FirstRule, FirstToken}
use Rattle.adp_model.specs.Ascii.{closing_bracket, comma, opening_bracket}
use Rattle.adp_model.specs.Demand.{IsDemanded, Axiom, Child, IsDemandedCount}
use Rattle.adp_model.specs.Splits.{Placed, placed, FitsSpan, IsViable}
use Rattle.adp_model.specs.TreeText.{tree_text, children_text, further_text}
use Rattle.adp_model.specs.Sizes.{IsWithinSizes, IsLeastSize, AreStableSizes, AreGreatestSizes, IsGreatestSize}
use Rattle.adp_model.specs.Loops.{CanBeEmpty, AreEmptyBut, IsEdge}
use Rattle.adp_model.specs.Anchors.{IsReachedRule, TheAxiom, Named, CanBeNonempty, IsNamedBehind, SomeCanBeNonempty, IsNamedBefore, IsLeftFree, Behind, LeftOf, IsRightFree, Before, RightOf, IsLeftAnchored, IsRightAnchored}
use Rattle.adp_model.specs.ProblemFields.{AreLeftAnchors, AreRightAnchors}
use Rattle.adp_model.specs.Tree.{Tree, Leaf, Node, Trees, Nil, Cons, end_of}
use Rattle.adp_model.specs.Derivation.{IsMatchingLeaf, Derives, DeriveArguments}

-- the grammar with these algebras
abbrev pub with_algebras : Grammar → List Algebra → Grammar
with_algebras g xs = record { classes = g.classes; signs = g.signs; algebras = xs; rules = g.rules; «axiom» = g.axiom }

mutual
  pub length_moved : (g : Grammar) (ys : List Algebra) (rule len : ℕ) → HasLength g rule len → HasLength (with_algebras g ys) rule len
  length_moved g ys _ _ (ByAlternative rule alternative sum len known lengths within is) =
      ByAlternative rule alternative sum len known (lengths_moved g ys (arguments_of g rule alternative) sum lengths) within is

  pub lengths_moved : (g : Grammar) (ys : List Algebra) (arguments : List Arg) (len : ℕ) → HaveLength g arguments len → HaveLength (with_algebras g ys) arguments len
  lengths_moved g ys _ _ NoArguments = NoArguments
  lengths_moved g ys _ _ (FirstRule rule len arguments others has have) =
      FirstRule rule len arguments others (length_moved g ys rule len has) (lengths_moved g ys arguments others have)
  lengths_moved g ys _ _ (FirstToken token len arguments others admits have) =
      FirstToken token len arguments others admits (lengths_moved g ys arguments others have)

pub least_moved : (g : Grammar) (ys : List Algebra) (rule size : ℕ) → IsLeastSize g rule size → IsLeastSize (with_algebras g ys) rule size
least_moved g ys rule size h = (h.0, length_moved g ys rule h.0 h.1, (λ len has. h.2 len (length_moved (with_algebras g ys) g.algebras rule len has)), h.3)

stable_moved : (g : Grammar) (ys : List Algebra) (sizes : List (Option ℕ)) → AreStableSizes g sizes → AreStableSizes (with_algebras g ys) sizes
stable_moved g ys sizes h = record { each = h.each; stable = h.stable }

greatest_sizes_moved : (g : Grammar) (ys : List Algebra) (sizes : List (Option ℕ)) → AreGreatestSizes g sizes → AreGreatestSizes (with_algebras g ys) sizes
greatest_sizes_moved g ys sizes h = record {
  are = stable_moved g ys sizes h.are;
  least = λ others stable. h.least others (stable_moved (with_algebras g ys) g.algebras others stable);
}

pub greatest_moved : (g : Grammar) (ys : List Algebra) (rule : ℕ) (size : Option ℕ) → IsGreatestSize g rule size → IsGreatestSize (with_algebras g ys) rule size
greatest_moved g ys rule size h = (h.0, greatest_sizes_moved g ys h.0 h.1, h.2, h.3)

-- ---- edges

pub empty_moved : (g : Grammar) (ys : List Algebra) (argument : Arg) → CanBeEmpty g argument → CanBeEmpty (with_algebras g ys) argument
empty_moved g ys (Rule rule) h = length_moved g ys rule 0 h
empty_moved g ys (Literal text) h = h
empty_moved g ys (Letter class) h = h
empty_moved g ys (Run class low high) h = h

all_empty_moved : (g : Grammar) (ys : List Algebra) (arguments : List Arg) → AllByRecursion (CanBeEmpty g) arguments → AllByRecursion (CanBeEmpty (with_algebras g ys)) arguments
all_empty_moved g ys [] h = h
all_empty_moved g ys (argument ∷ arguments) h = (empty_moved g ys argument h.0, all_empty_moved g ys arguments h.1)

empty_but_moved : (g : Grammar) (ys : List Algebra) (rule : ℕ) (arguments : List Arg) → AreEmptyBut g rule arguments → AreEmptyBut (with_algebras g ys) rule arguments
empty_but_moved g ys rule [] h = h
empty_but_moved g ys rule (argument ∷ arguments) (inl here) = inl (here.0, all_empty_moved g ys arguments here.1)
empty_but_moved g ys rule (argument ∷ arguments) (inr behind) = inr (empty_moved g ys argument behind.0, empty_but_moved g ys rule arguments behind.1)

pub edge_moved : (g : Grammar) (ys : List Algebra) (rule other : ℕ) → IsEdge g rule other → IsEdge (with_algebras g ys) rule other
edge_moved g ys rule other h = (h.0, h.1, empty_but_moved g ys other (arguments_of g rule h.0) h.2)

-- ---- anchors

nonempty_moved : (g : Grammar) (ys : List Algebra) (argument : Arg) → CanBeNonempty g argument → CanBeNonempty (with_algebras g ys) argument
nonempty_moved g ys (Rule rule) h = λ is. h (greatest_moved (with_algebras g ys) g.algebras rule (Some 0) is)
nonempty_moved g ys (Literal text) h = h
nonempty_moved g ys (Letter class) h = h
nonempty_moved g ys (Run class low high) h = h

some_nonempty_moved : (g : Grammar) (ys : List Algebra) (arguments : List Arg) → SomeCanBeNonempty g arguments → SomeCanBeNonempty (with_algebras g ys) arguments
some_nonempty_moved g ys [] h = h
some_nonempty_moved g ys (argument ∷ arguments) (inl here) = inl (nonempty_moved g ys argument here)
some_nonempty_moved g ys (argument ∷ arguments) (inr behind) = inr (some_nonempty_moved g ys arguments behind)

behind_moved : (g : Grammar) (ys : List Algebra) (rule : ℕ) (arguments : List Arg) → IsNamedBehind g rule arguments → IsNamedBehind (with_algebras g ys) rule arguments
behind_moved g ys rule [] h = h
behind_moved g ys rule (argument ∷ arguments) (inl here) = inl (nonempty_moved g ys argument here.0, here.1)
behind_moved g ys rule (argument ∷ arguments) (inr behind) = inr (behind_moved g ys rule arguments behind)

before_moved : (g : Grammar) (ys : List Algebra) (rule : ℕ) (arguments : List Arg) → IsNamedBefore g rule arguments → IsNamedBefore (with_algebras g ys) rule arguments
before_moved g ys rule [] h = h
before_moved g ys rule (argument ∷ arguments) (inl here) = inl (here.0, some_nonempty_moved g ys arguments here.1)
before_moved g ys rule (argument ∷ arguments) (inr behind) = inr (before_moved g ys rule arguments behind)

reached_moved : (g : Grammar) (ys : List Algebra) (rule : ℕ) → IsReachedRule g rule → IsReachedRule (with_algebras g ys) rule
reached_moved g ys _ TheAxiom = TheAxiom
reached_moved g ys _ (Named rule other reached names) = Named rule other (reached_moved g ys rule reached) names

left_free_moved : (g : Grammar) (ys : List Algebra) (rule : ℕ) → IsLeftFree g rule → IsLeftFree (with_algebras g ys) rule
left_free_moved g ys _ (Behind rule some) =
    Behind rule (some.0, some.1, reached_moved g ys some.0 some.2, some.3, behind_moved g ys rule (arguments_of g some.0 some.1) some.4)
left_free_moved g ys _ (LeftOf rule other reached free names) = LeftOf rule other (reached_moved g ys rule reached) (left_free_moved g ys rule free) names

right_free_moved : (g : Grammar) (ys : List Algebra) (rule : ℕ) → IsRightFree g rule → IsRightFree (with_algebras g ys) rule
right_free_moved g ys _ (Before rule some) =
    Before rule (some.0, some.1, reached_moved g ys some.0 some.2, some.3, before_moved g ys rule (arguments_of g some.0 some.1) some.4)
right_free_moved g ys _ (RightOf rule other reached free names) = RightOf rule other (reached_moved g ys rule reached) (right_free_moved g ys rule free) names

told_moved : {P P' Q Q' : Type 0} (flag : Bool) → (P → P') → (Q → Q') → MatchBool flag P Q → MatchBool flag P' Q'
told_moved true keep turn h = keep h
told_moved false keep turn h = turn h

pub left_moved : (g : Grammar) (ys : List Algebra) (flags : List Bool) → AreLeftAnchors g flags → AreLeftAnchors (with_algebras g ys) flags
left_moved g ys flags h = record {
  each = h.each;
  told = λ rule known. told_moved {P = IsLeftAnchored g rule} {P' = IsLeftAnchored (with_algebras g ys) rule} _
      (λ anchored free. anchored (left_free_moved (with_algebras g ys) g.algebras rule free)) (left_free_moved g ys rule) (h.told rule known);
}

pub right_moved : (g : Grammar) (ys : List Algebra) (flags : List Bool) → AreRightAnchors g flags → AreRightAnchors (with_algebras g ys) flags
right_moved g ys flags h = record {
  each = h.each;
  told = λ rule known. told_moved {P = IsRightAnchored g rule} {P' = IsRightAnchored (with_algebras g ys) rule} _
      (λ anchored free. anchored (right_free_moved (with_algebras g ys) g.algebras rule free)) (right_free_moved g ys rule) (h.told rule known);
}

-- ---- trees

-- what is asked of the word under an algebra of these
abbrev pub posed : PosedProblem → List Algebra → ℕ → PosedProblem
posed p ys algebra = record { grammar = with_algebras p.grammar ys; algebra = algebra; word = p.word }

pub leaf_moved : (p : PosedProblem) (ys : List Algebra) (algebra : ℕ) (token : Arg) (start : ℕ) (tree : Tree) → IsMatchingLeaf p token start tree → IsMatchingLeaf (posed p ys algebra) token start tree
leaf_moved p ys algebra (Rule rule) start (Leaf from to) h = h
leaf_moved p ys algebra (Literal text) start (Leaf from to) h = h
leaf_moved p ys algebra (Letter class) start (Leaf from to) h = h
leaf_moved p ys algebra (Run class low high) start (Leaf from to) h = h
leaf_moved p ys algebra token start (Node rule alternative from to children) h = h

mutual
  pub derived_moved : (p : PosedProblem) (ys : List Algebra) (algebra : ℕ) (cell : Cell) (tree : Tree) → Derives p cell tree → Derives (posed p ys algebra) cell tree
  derived_moved p ys algebra cell (Leaf from to) h = h
  derived_moved p ys algebra cell (Node rule alternative from to children) h =
      (h.0, h.1, h.2, h.3, h.4, children_moved p ys algebra (arguments_of p.grammar cell.rule alternative) cell.from cell.to children h.5, h.6)

  pub children_moved : (p : PosedProblem) (ys : List Algebra) (algebra : ℕ) (arguments : List Arg) (from to : ℕ) (children : Trees) → DeriveArguments p arguments from to children
      → DeriveArguments (posed p ys algebra) arguments from to children
  children_moved p ys algebra [] from to Nil h = h
  children_moved p ys algebra [] from to (Cons first others) h = h
  children_moved p ys algebra (argument ∷ arguments) from to Nil h = absurd h
  children_moved p ys algebra (Rule rule ∷ arguments) from to (Cons first others) h =
      (derived_moved p ys algebra (record { rule = rule; from = from; to = end_of first }) first h.0, children_moved p ys algebra arguments (end_of first) to others h.1)
  children_moved p ys algebra (Literal text ∷ arguments) from to (Cons first others) h =
      (leaf_moved p ys algebra (Literal text) from first h.0, children_moved p ys algebra arguments (end_of first) to others h.1)
  children_moved p ys algebra (Letter class ∷ arguments) from to (Cons first others) h =
      (leaf_moved p ys algebra (Letter class) from first h.0, children_moved p ys algebra arguments (end_of first) to others h.1)
  children_moved p ys algebra (Run class low high ∷ arguments) from to (Cons first others) h =
      (leaf_moved p ys algebra (Run class low high) from first h.0, children_moved p ys algebra arguments (end_of first) to others h.1)

-- ---- demanded cells

within_moved : (g : Grammar) (ys : List Algebra) (rule len : ℕ) → IsWithinSizes g rule len → IsWithinSizes (with_algebras g ys) rule len
within_moved g ys rule len h = (h.0, h.1, least_moved g ys rule h.0 h.2, greatest_moved g ys rule h.1 h.3, h.4, h.5)

fit_moved : (p : PosedProblem) (ys : List Algebra) (algebra : ℕ) (argument : Arg) (from to : ℕ)
    → FitsSpan p (record { argument = argument; from = from; to = to }) → FitsSpan (posed p ys algebra) (record { argument = argument; from = from; to = to })
fit_moved p ys algebra (Rule rule) from to h = (h.0, within_moved p.grammar ys rule (to - from) h.1)
fit_moved p ys algebra (Literal text) from to h = h
fit_moved p ys algebra (Letter class) from to h = h
fit_moved p ys algebra (Run class low high) from to h = h

fits_moved : (p : PosedProblem) (ys : List Algebra) (algebra : ℕ) (all : List Placed) → AllByRecursion (FitsSpan p) all → AllByRecursion (FitsSpan (posed p ys algebra)) all
fits_moved p ys algebra [] h = h
fits_moved p ys algebra (one ∷ others) h = (fit_moved p ys algebra one.argument one.from one.to h.0, fits_moved p ys algebra others h.1)

viable_moved : (p : PosedProblem) (ys : List Algebra) (algebra : ℕ) (cell : Cell) (alternative : ℕ) (cuts : List ℕ)
    → IsViable p cell alternative cuts → IsViable (posed p ys algebra) cell alternative cuts
viable_moved p ys algebra cell alternative cuts h = record {
  in_range = h.in_range;
  allowed = h.allowed;
  three = h.three;
  last = h.last;
  fits = fits_moved p ys algebra (placed p cell alternative cuts) h.fits;
}

pub demanded_moved : (p : PosedProblem) (ys : List Algebra) (algebra : ℕ) (cell : Cell) → IsDemanded p cell → IsDemanded (posed p ys algebra) cell
demanded_moved p ys algebra _ (Axiom within) = Axiom (within_moved p.grammar ys p.grammar.axiom (length p.word) within)
demanded_moved p ys algebra _ (Child cell child demanded asked) =
    Child cell child (demanded_moved p ys algebra cell demanded) (asked.0, asked.1, viable_moved p ys algebra cell asked.0 asked.1 asked.2, asked.3)

pub count_moved : (p : PosedProblem) (ys : List Algebra) (algebra count : ℕ) → IsDemandedCount p count → IsDemandedCount (posed p ys algebra) count
count_moved p ys algebra count h = (
  h.0,
  record {
    in_order = h.1.in_order;
    each = λ cell contained. demanded_moved p ys algebra cell (h.1.each cell contained);
    all = λ cell demanded. h.1.all cell (demanded_moved (posed p ys algebra) p.grammar.algebras p.algebra cell demanded);
  },
  h.2,
)

-- ---- texts of trees

mutual
  pub text_same : (p : PosedProblem) (ys : List Algebra) (algebra : ℕ) (tree : Tree) → tree_text (posed p ys algebra) tree ≡ tree_text p tree
  text_same p ys algebra (Leaf from to) = refl
  text_same p ys algebra (Node rule alternative from to children) =
      ap (λ text. (sign_at p.grammar (alternative_at p.grammar rule alternative).sign).name ++ opening_bracket ∷ text ++ closing_bracket ∷ []) (children_same p ys algebra children)

  children_same : (p : PosedProblem) (ys : List Algebra) (algebra : ℕ) (children : Trees) → children_text (posed p ys algebra) children ≡ children_text p children
  children_same p ys algebra Nil = refl
  children_same p ys algebra (Cons first others) =
      ap (λ text. text ++ further_text (posed p ys algebra) others) (text_same p ys algebra first) ∙ ap (λ text. tree_text p first ++ text) (further_same p ys algebra others)

  further_same : (p : PosedProblem) (ys : List Algebra) (algebra : ℕ) (children : Trees) → further_text (posed p ys algebra) children ≡ further_text p children
  further_same p ys algebra Nil = refl
  further_same p ys algebra (Cons first others) =
      ap (λ text. comma ∷ text ++ further_text (posed p ys algebra) others) (text_same p ys algebra first)
      ∙ ap (λ text. comma ∷ tree_text p first ++ text) (further_same p ys algebra others)
