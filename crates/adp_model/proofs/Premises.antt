-- What the proof of Bellman's principle rests on, and the trees that it speaks of.
use Rattle.std.proofs.Common.{◌≡◌, ℕ, ◌-◌, ◌<◌, ◌≤◌, ℤ, ◌≤ℤ◌, ◌⊎◌, List, [], ◌∷◌, length}
use Rattle.std.specs.List.{AllByRecursion}
use Rattle.adp_model.specs.declared.grammar.Arg.{Arg}
use Rattle.adp_model.specs.declared.grammar.Arg.TheVariants.{Rule}
use Rattle.adp_model.specs.declared.grammar.Goal.{Goal}
use Rattle.adp_model.specs.declared.grammar.Goal.TheVariants.{Least, Greatest}
use Rattle.adp_model.specs.declared.cell.Cell.{Cell}
use Rattle.adp_model.specs.PosedProblem.{PosedProblem, IsSpan}
use Rattle.adp_model.specs.Parts.{algebra_of, alternatives_of, arguments_of, term_of}
use Rattle.adp_model.specs.Terms.{term_value}
use Rattle.adp_model.specs.Tree.{Tree, Leaf, Node, Trees}
use Rattle.adp_model.specs.Derivation.{Derives, DeriveArguments}
use Rattle.adp_model.specs.Scores.{values_of}
use Rattle.adp_model.specs.Preference.{IsPreferred}
use Rattle.adp_model.specs.Answers.{HasNoTree}
use Rattle.adp_model.specs.Sizes.{IsWithinSizes}
use Rattle.adp_model.specs.Splits.{Placed, AtRule, placed, IsViable}
use Rattle.adp_model.specs.FirstSplit.{AreArgumentValues}
use Rattle.adp_model.specs.Bellman.{HasBestScore, ArePreferred}
use Rattle.adp_model.proofs.Ends.{IsFew}

-- the first value is as good as the second
abbrev pub IsAsGood : Goal → ℤ → ℤ → Type 0
IsAsGood Least a b = a ≤ℤ b
IsAsGood Greatest a b = b ≤ℤ a

-- of the arguments' values, those of rules are as good, the others are the same
abbrev pub AreAsGood : Goal → List Arg → List ℤ → List ℤ → Type 0
AreAsGood goal [] values values' = values ≡ values'
AreAsGood goal (argument ∷ arguments) [] [] = Unit {0}
AreAsGood goal (argument ∷ arguments) [] (value' ∷ values') = ⊥
AreAsGood goal (argument ∷ arguments) (value ∷ values) [] = ⊥
AreAsGood goal (Rule rule ∷ arguments) (value ∷ values) (value' ∷ values') = IsAsGood goal value value' × AreAsGood goal arguments values values'
AreAsGood goal (token ∷ arguments) (value ∷ values) (value' ∷ values') = (value ≡ value') × AreAsGood goal arguments values values'

-- alternatives have from one to four arguments, children that are as good give a value that is, a derived tree's length
-- is within its rule's sizes, it can be told which lengths are, and a measure falls from a cell to the cells of the rule
-- arguments of its viable splits
pub record IsSolvable (p : PosedProblem) (measure : Cell → ℕ) : Type 0 where
  pub few : (rule alternative : ℕ) → length (arguments_of p.grammar rule alternative) ≤ 4
  pub some : (rule alternative : ℕ) → alternative < length (alternatives_of p.grammar rule) → 1 ≤ length (arguments_of p.grammar rule alternative)
  pub orderly : (rule alternative from to : ℕ) (ts us : Trees) → alternative < length (alternatives_of p.grammar rule)
      → DeriveArguments p (arguments_of p.grammar rule alternative) from to ts → DeriveArguments p (arguments_of p.grammar rule alternative) from to us
      → AreAsGood (algebra_of p).goal (arguments_of p.grammar rule alternative) (values_of p (arguments_of p.grammar rule alternative) ts) (values_of p (arguments_of p.grammar rule alternative) us)
      → IsAsGood (algebra_of p).goal (term_value (term_of p rule alternative) (values_of p (arguments_of p.grammar rule alternative) ts)) (term_value (term_of p rule alternative) (values_of p (arguments_of p.grammar rule alternative) us))
  pub sound : (cell : Cell) (tree : Tree) → Derives p cell tree → IsWithinSizes p.grammar cell.rule (cell.to - cell.from)
  pub decided : (rule len : ℕ) → IsWithinSizes p.grammar rule len ⊎ (IsWithinSizes p.grammar rule len → ⊥)
  pub falls : (cell : Cell) (alternative : ℕ) (cuts : List ℕ) → IsSpan p.word cell.from cell.to → IsViable p cell alternative cuts → AllByRecursion (AtRule (λ child. measure child < measure cell)) (placed p cell alternative cuts)

-- the values of arguments at the best scores of their cells
abbrev pub AreBestValues : PosedProblem → List Placed → List ℤ → Type 0
AreBestValues p = AreArgumentValues p (HasBestScore p)

-- an alternative has few arguments
pub IsFew-arguments : (p : PosedProblem) (measure : Cell → ℕ) → IsSolvable p measure → (rule alternative : ℕ) → alternative < length (alternatives_of p.grammar rule) → IsFew (length (arguments_of p.grammar rule alternative))
IsFew-arguments p measure solvable rule alternative in_range = record { one = solvable.some rule alternative in_range; four = solvable.few rule alternative }

-- the cell has a preferred tree, or none at all
abbrev pub IsSolved : PosedProblem → Cell → Type 0
IsSolved p cell = HasNoTree p cell ⊎ ((tree : Tree) × IsPreferred p cell tree)

-- each child of a rule argument at the root is the preferred tree of its cell
abbrev pub AreRootPreferred : PosedProblem → Cell → Tree → Type 0
AreRootPreferred p cell (Leaf from to) = ⊥
AreRootPreferred p cell (Node rule alternative from to children) = ArePreferred p (arguments_of p.grammar cell.rule alternative) cell.from children

-- a tree of the cell whose rule children are preferred
pub record IsComposed (p : PosedProblem) (cell : Cell) (tree : Tree) : Type 0 where
  pub derived : Derives p cell tree
  pub preferred : AreRootPreferred p cell tree
