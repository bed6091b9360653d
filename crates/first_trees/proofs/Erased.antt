-- Lists of first nested trees are those of the plain grammar, erased, and have the same report.
use Rattle.std.proofs.Common.{◌≡◌, ◌↔◌, ℕ, ◌∙◌, List, [], ◌∷◌, ◌++◌, codes, length, map, refl, sym, ap, ap₂}
use Rattle.std.proofs.lemmas.List.{length-map}
use Rattle.std.specs.Fmt.{decimal, signed_decimal}
use Rattle.std.specs.List.{AllByRecursion}
use Rattle.adp_model.specs.declared.grammar.Arg.TheVariants.{Rule}
use Rattle.adp_model.specs.declared.cell.Cell.{Cell}
use Rattle.adp_model.specs.PosedProblem.{PosedProblem, axiom_cell}
use Rattle.adp_model.specs.Tree.{Tree}
use Rattle.adp_model.specs.Derivation.{Derives}
use Rattle.adp_model.specs.Scores.{score_of}
use Rattle.adp_model.specs.Preference.{IsBefore}
use Rattle.adp_model.specs.TreeText.{tree_text}
use Rattle.adp_model.specs.Report.{line, tree_lines}
use Rattle.nested_trees.specs.Patterns.{HidesRules, NestedProblem, Pattern, Patterns, Plain}
use Rattle.nested_trees.specs.NestedTree.{NestedTree}
use Rattle.nested_trees.specs.NestedDerivation.{DerivesNested}
use Rattle.nested_trees.specs.NestedPreference.{IsNestedBefore}
use Rattle.nested_trees.specs.NestedReport.{nested_tree_lines}
use Rattle.nested_trees.specs.NestedScores.{nested_score}
use Rattle.nested_trees.specs.NestedText.{nested_text}
use Rattle.nested_trees.specs.Erasure.{erased}
use Rattle.first_trees.specs.FirstTrees.{AreFirst}
use Rattle.first_trees.specs.ListReport.{IsListReport, lines_of}
use Rattle.first_trees.specs.NestedListReport.{AreFirstNested, IsNestedListReport, nested_lines_of}
use Rattle.first_trees.proofs.Mapped.{first_mapped, first_unmapped}

-- what is known of erased trees under these patterns
pub record ErasingLaws (q : NestedProblem) (hidden : ℕ) : Type 0 where
  pub derived : (cell : Cell) (tree : Tree) → Derives q.plain cell tree
      → DerivesNested q cell (erased q.plain.grammar hidden tree)
  pub one : (cell : Cell) (t u : Tree) → Derives q.plain cell t → Derives q.plain cell u
      → erased q.plain.grammar hidden t ≡ erased q.plain.grammar hidden u → t ≡ u
  pub onto : (cell : Cell) (nested : NestedTree) → DerivesNested q cell nested
      → (tree : Tree) × Derives q.plain cell tree × (nested ≡ erased q.plain.grammar hidden tree)
  pub order : (cell : Cell) (t u : Tree) → Derives q.plain cell t → Derives q.plain cell u
      → IsBefore q.plain t u
      ↔ IsNestedBefore q cell (erased q.plain.grammar hidden t) (erased q.plain.grammar hidden u)
  pub score : (pattern : Pattern) (cell : Cell) (tree : Tree) → Derives q.plain cell tree
      → nested_score q pattern (erased q.plain.grammar hidden tree) ≡ score_of q.plain tree
  pub text : (tree : Tree) → nested_text q.plain (erased q.plain.grammar hidden tree) ≡ tree_text q.plain tree

module _ (q : NestedProblem) (hidden : ℕ) (laws : ErasingLaws q hidden) where
  abbrev erase : Tree → NestedTree
  erase = erased q.plain.grammar hidden

  same_lines : (cell : Cell) (tree : Tree) → Derives q.plain cell tree
      → nested_tree_lines q (erase tree) ≡ tree_lines q.plain tree
  same_lines cell tree is = λ i.
      line (codes "score " ++ signed_decimal (laws.score (Plain (Rule q.plain.grammar.axiom)) cell tree is i))
      ++ line (codes "tree " ++ laws.text tree i)

  all_lines : (cell : Cell) (trees : List Tree) → AllByRecursion (Derives q.plain cell) trees
      → nested_lines_of q (map erase trees) ≡ lines_of q.plain trees
  all_lines cell [] all = refl
  all_lines cell (tree ∷ trees) all = ap₂ (λ a b. a ++ b) (same_lines cell tree all.0) (all_lines cell trees all.1)

  same_report : (number : ℕ) (trees : List Tree) → AllByRecursion (Derives q.plain (axiom_cell q.plain)) trees
      → line (codes "word " ++ decimal number) ++ nested_lines_of q (map erase trees)
      ++ line (codes "listed " ++ decimal (length (map erase trees)))
      ≡ line (codes "word " ++ decimal number) ++ lines_of q.plain trees
      ++ line (codes "listed " ++ decimal (length trees))
  same_report number trees all = λ i.
      line (codes "word " ++ decimal number) ++ all_lines (axiom_cell q.plain) trees all i
      ++ line (codes "listed " ++ decimal (length-map trees erase i))

  pub first_erased : (cell : Cell) (k : ℕ) (trees : List Tree) → AreFirst q.plain cell k trees
      → AreFirstNested q cell k (map erase trees)
  first_erased cell k trees =
      first_mapped erase (IsBefore q.plain) (IsNestedBefore q cell) (Derives q.plain cell) (DerivesNested q cell)
      (laws.derived cell) (laws.one cell) (laws.onto cell) (laws.order cell) k trees

  pub first_restored : (cell : Cell) (k : ℕ) (nested : List NestedTree) → AreFirstNested q cell k nested
      → (trees : List Tree) × AreFirst q.plain cell k trees × (map erase trees ≡ nested)
  first_restored cell k nested =
      first_unmapped erase (IsBefore q.plain) (IsNestedBefore q cell) (Derives q.plain cell) (DerivesNested q cell)
      (laws.derived cell) (laws.one cell) (laws.onto cell) (laws.order cell) k nested

pub list_erased : (p : PosedProblem) (hidden : ℕ) (patterns : ℕ → ℕ → Patterns)
    → HidesRules (record { plain = p; patterns = patterns }) hidden
    → ErasingLaws (record { plain = p; patterns = patterns }) hidden → (number k : ℕ) (report : List ℕ)
    → IsListReport number p k report → IsNestedListReport number p hidden k report
list_erased p hidden patterns hides laws number k report (trees, first, is) =
    let q : NestedProblem = record { plain = p; patterns = patterns } in (
      patterns,
      hides,
      map (erased p.grammar hidden) trees,
      first_erased q hidden laws (axiom_cell p) k trees first,
      is ∙ sym (same_report q hidden laws number trees first.hold),
    )

pub list_restored : (p : PosedProblem) (hidden : ℕ)
    → ((patterns : ℕ → ℕ → Patterns) → HidesRules (record { plain = p; patterns = patterns }) hidden
    → ErasingLaws (record { plain = p; patterns = patterns }) hidden) → (number k : ℕ) (report : List ℕ)
    → IsNestedListReport number p hidden k report → IsListReport number p k report
list_restored p hidden laws number k report (patterns, hides, nested, first, is) =
    let q : NestedProblem = record { plain = p; patterns = patterns } in
    let own = laws patterns hides in
    let found = first_restored q hidden own (axiom_cell p) k nested first in
    let told : report ≡ line (codes "word " ++ decimal number) ++ nested_lines_of q (map (erased p.grammar hidden) found.0)
    ++ line (codes "listed " ++ decimal (length (map (erased p.grammar hidden) found.0))) =
    is ∙ sym (ap (λ (trees : List NestedTree). line (codes "word " ++ decimal number) ++ nested_lines_of q trees
    ++ line (codes "listed " ++ decimal (length trees))) found.2) in
    (found.0, found.1, told ∙ same_report q hidden own number found.0 found.1.hold)
