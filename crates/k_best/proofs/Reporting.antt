-- Reports of first trees, put together from their lines.
use Rattle.std.proofs.Common.{◌≡◌, ℕ, ℤ, ◌⊎◌, inl, inr, List, [], ◌∷◌, ◌++◌, codes, refl, sym, ap, ◌∙◌}
use Rattle.std.specs.Fmt.{decimal}
use Rattle.adp_model.specs.PosedProblem.{PosedProblem, axiom_cell}
use Rattle.adp_model.specs.Answers.{HasNoTree}
use Rattle.adp_model.specs.Preference.{IsPreferred}
use Rattle.adp_model.specs.Report.{line, tree_lines}
use Rattle.adp_model.specs.Scores.{score_of}
use Rattle.adp_model.specs.Tree.{Tree}
use Rattle.first_trees.specs.ListReport.{IsPreferredReport}
use Rattle.traceback.specs.declared.tree_nodes.NodeAt.{NodeAt}
use Rattle.traceback.specs.Preorder.{IsPreorder, nodes_of}
use Rattle.k_best.specs.ListedNodes.{AreScoredNodes}

abbrev word_line : ℕ → List ℕ
word_line number = line (codes "word " ++ decimal number)

abbrev listed_line : ℕ → List ℕ
listed_line count = line (codes "listed " ++ decimal count)

module _ (number n count : ℕ) (empty head middle whole text : List ℕ) (none : empty ≡ []) (same : n ≡ number)
    (first : head ≡ empty ++ word_line n) (then : middle ≡ head ++ text) (last : whole ≡ middle ++ listed_line count) where
  pub three_parts : (many : ℕ) → count ≡ many → whole ≡ word_line number ++ text ++ listed_line many
  three_parts many is =
      last
      ∙ ap (λ x. x ++ listed_line count) (then ∙ ap (λ x. x ++ text) (first ∙ ap (λ x. x ++ word_line n) none ∙ ap word_line same))
      ∙ ap (λ m. (word_line number ++ text) ++ listed_line m) is

-- what a word's preferred tree adds to the first line
abbrev pub IsPreferredPart : PosedProblem → List ℕ → List ℕ → ℕ → Type 0
IsPreferredPart p old new count =
    ((tree : Tree) × IsPreferred p (axiom_cell p) tree × (new ≡ old ++ tree_lines p tree) × (count ≡ 1))
    ⊎ (HasNoTree p (axiom_cell p) × (new ≡ old) × (count ≡ 0))

nothing_more : (xs : List ℕ) → xs ++ [] ≡ xs
nothing_more [] = refl
nothing_more (x ∷ xs) = ap (λ ys. x ∷ ys) (nothing_more xs)

pub preferred_whole : (p : PosedProblem) (number n count : ℕ) (empty head middle whole : List ℕ) → empty ≡ [] → n ≡ number
    → head ≡ empty ++ word_line n → IsPreferredPart p head middle count → whole ≡ middle ++ listed_line count
    → IsPreferredReport number p whole
preferred_whole p number n count empty head middle whole none same first (inl (tree, preferred, then, one)) last =
    inl (tree, preferred, three_parts number n count empty head middle whole (tree_lines p tree) none same first then last 1 one)
preferred_whole p number n count empty head middle whole none same first (inr (treeless, then, zero)) last =
    inr (
      treeless,
      three_parts number n count empty head middle whole [] none same first (then ∙ sym (nothing_more head)) last 0 zero
          ∙ ap (λ x. x ++ listed_line 0) (nothing_more (word_line number)),
    )

-- the nodes of the preferred tree, with its score
pub best_nodes : (p : PosedProblem) → ((t u : Tree) → IsPreferred p (axiom_cell p) t → IsPreferred p (axiom_cell p) u → t ≡ u)
    → (tree : Tree) (score : ℤ) (nodes : List NodeAt) → IsPreferred p (axiom_cell p) tree → score ≡ score_of p tree
    → IsPreorder p nodes → AreScoredNodes p tree score nodes
best_nodes p one tree score nodes preferred scored (inl (other, preferred', are)) =
    record {
      derived = preferred.derived;
      scored = scored;
      nodes_are = are ∙ ap nodes_of (one other tree preferred' preferred);
    }
best_nodes p one tree score nodes preferred scored (inr (none, are)) = absurd (none tree preferred.derived)
