-- The tree at a place of a cell's list, and the entry that stands there.
use Rattle.std.proofs.Common.{◌≡◌, ℕ, zero, suc, ◌+◌, ◌<◌, ◌≤◌, List, [], ◌∷◌, ◌++◌, get_or, length, take, refl, sym, ap, subst, ◌∙◌, arith, append_assoc}
use Rattle.std.specs.Prelude.{slice_get}
use Rattle.std.specs.List.{AllZip}
use Rattle.adp_model.specs.declared.cell.Cell.{Cell}
use Rattle.adp_model.specs.PosedProblem.{PosedProblem}
use Rattle.adp_model.specs.Tree.{Tree, Leaf, Node}
use Rattle.adp_model.specs.Scores.{score_of}
use Rattle.adp_model.specs.Answers.{HasNoTree}
use Rattle.adp_model.specs.Report.{line, tree_lines}
use Rattle.first_trees.specs.FirstTrees.{AreFirst, HasPlace, IsAt}
use Rattle.first_trees.specs.Entries.{Entry, IsEntry}
use Rattle.first_trees.specs.ListReport.{lines_of}
use Rattle.k_best.proofs.InOrder.{nothing_at, some_one}

module _ (p : PosedProblem) (k : ℕ) where
  pub entry_stands : (trees : List Tree) (list : List Entry) (place : ℕ) (tree : Tree) (d : Entry)
      → AllZip (IsEntry p k) trees list → IsAt trees place tree
      → (place < length list) × IsEntry p k tree (get_or list place d)
  entry_stands [] list place tree d zip at = absurd (nothing_at tree at)
  entry_stands (x ∷ xs) [] place tree d zip at = absurd zip
  entry_stands (x ∷ xs) (y ∷ ys) zero tree d zip at = (omega arith, subst (λ t. IsEntry p k t y) (some_one x tree at) zip.0)
  entry_stands (x ∷ xs) (y ∷ ys) (suc place) tree d zip at =
      let rest = entry_stands xs ys place tree d zip.1 at in
      let l = rest.0 in (omega arith, rest.1)

  pub tree_stands : (trees : List Tree) (list : List Entry) (place : ℕ) (entry : Entry)
      → AllZip (IsEntry p k) trees list → IsAt list place entry → (tree : Tree) × IsAt trees place tree × IsEntry p k tree entry
  tree_stands [] [] place entry zip at = absurd (nothing_at entry at)
  tree_stands [] (y ∷ ys) place entry zip at = absurd zip
  tree_stands (x ∷ xs) [] place entry zip at = absurd zip
  tree_stands (x ∷ xs) (y ∷ ys) zero entry zip at = (x, refl, subst (IsEntry p k x) (some_one y entry at) zip.0)
  tree_stands (x ∷ xs) (y ∷ ys) (suc place) entry zip at = tree_stands xs ys place entry zip.1 at

  pub as_many : (trees : List Tree) (list : List Entry) → AllZip (IsEntry p k) trees list → length trees ≡ length list
  as_many [] [] zip = refl
  as_many [] (y ∷ ys) zip = absurd zip
  as_many (x ∷ xs) [] zip = absurd zip
  as_many (x ∷ xs) (y ∷ ys) zip = ap suc (as_many xs ys zip.1)

  pub score_stands : (tree : Tree) (entry : Entry) → IsEntry p k tree entry → entry.score ≡ score_of p tree
  score_stands (Leaf from to) entry is = absurd is
  score_stands (Node rule alternative from to children) entry is = is.0

  -- one tree stands at a place
  pub same_place : ((cell : Cell) (k : ℕ) (trees others : List Tree) → AreFirst p cell k trees → AreFirst p cell k others → trees ≡ others)
      → (cell : Cell) (tree other : Tree) (place : ℕ) → HasPlace p k cell tree place → HasPlace p k cell other place → tree ≡ other
  same_place one cell tree other place has has' =
      some_one tree other (sym has.2 ∙ ap (λ (trees : List Tree). slice_get trees place) (one cell k has.0 has'.0 has.1 has'.1) ∙ has'.2)

-- ---- the lines of trees, tree by tree

pub nothing_more : (xs : List ℕ) → xs ++ [] ≡ xs
nothing_more [] = refl
nothing_more (x ∷ xs) = ap (λ ys. x ∷ ys) (nothing_more xs)

lines_suc : (p : PosedProblem) (trees : List Tree) (place : ℕ) (tree : Tree) → IsAt trees place tree
    → lines_of p (take (suc place) trees) ≡ lines_of p (take place trees) ++ tree_lines p tree
lines_suc p [] place tree at = absurd (nothing_at tree at)
lines_suc p (x ∷ trees) zero tree at = nothing_more (tree_lines p x) ∙ ap (tree_lines p) (some_one x tree at)
lines_suc p (x ∷ trees) (suc place) tree at =
    ap (λ (rest : List ℕ). tree_lines p x ++ rest) (lines_suc p trees place tree at)
    ∙ sym (append_assoc (tree_lines p x) (lines_of p (take place trees)) (tree_lines p tree))

pub lines_more : (p : PosedProblem) (trees : List Tree) (place : ℕ) (tree : Tree) → IsAt trees place tree
    → lines_of p (take (place + 1) trees) ≡ lines_of p (take place trees) ++ tree_lines p tree
lines_more p trees place tree at =
    let e : place + 1 ≡ suc place = omega arith in
    ap (λ (n : ℕ). lines_of p (take n trees)) e ∙ lines_suc p trees place tree at

pub all_taken_up : {X : Type 0} (items : List X) (count : ℕ) → length items ≤ count → take count items ≡ items
all_taken_up [] zero few = refl
all_taken_up [] (suc count) few = refl
all_taken_up (x ∷ items) zero few = absurd (omega arith)
all_taken_up (x ∷ items) (suc count) few = ap (λ rest. x ∷ rest) (all_taken_up items count (omega arith))

pub lines_written : (old score_word score tree_word text one two three four new : List ℕ)
    → one ≡ old ++ score_word → two ≡ one ++ score → three ≡ two ++ 10 ∷ tree_word → four ≡ three ++ text → new ≡ four ++ 10 ∷ []
    → new ≡ old ++ (line (score_word ++ score) ++ line (tree_word ++ text))
lines_written old score_word score tree_word text one two three four new a b c d e =
    e ∙ ap (λ x. x ++ 10 ∷ []) (d ∙ ap (λ x. x ++ text) (c ∙ ap (λ x. x ++ 10 ∷ tree_word) (b ∙ ap (λ x. x ++ score) a))) ∙ simp append_assoc

-- a cell without a tree has the empty list
pub none_first : (p : PosedProblem) (cell : Cell) (k : ℕ) → HasNoTree p cell → AreFirst p cell k []
none_first p cell k none = record { few = omega arith; hold = tt; in_order = tt; others = λ tree derived. absurd (none tree derived) }
