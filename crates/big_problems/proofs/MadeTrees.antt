-- A tree for each word that is made: each letter is skipped.
use Rattle.std.proofs.Common.{◌≡◌, ℕ, zero, suc, ◌+◌, ◌-◌, ◌<◌, List, [], ◌∷◌, length, get_or, take, drop, refl, subst, sym, ap, ◌∙◌, arith, zero-le}
use Rattle.std.proofs.lemmas.List.{drop_more}
use Rattle.adp_model.specs.declared.cell.Cell.{Cell}
use Rattle.adp_model.specs.declared.grammar.Arg.TheVariants.{Literal, Letter}
use Rattle.adp_model.specs.PosedProblem.{PosedProblem, axiom_cell, IsSpan}
use Rattle.adp_model.specs.Tokens.{letters_between, Matches}
use Rattle.adp_model.specs.Tree.{Tree, Leaf, Node, Nil, Cons, end_of}
use Rattle.adp_model.specs.Derivation.{Derives, IsMatchingLeaf}
use Rattle.adp_model.specs.BigReport.{pairs_grammar, made_word, made_problem}
use Rattle.big_problems.proofs.MadeLetters.{made_paired, in_class, length_made}

-- the cell of the rule that covers the word from here on
abbrev rest_cell : ℕ → ℕ → Cell
rest_cell from to = record { rule = 0; from = from; to = to }

none_between : (word : List ℕ) (from : ℕ) → letters_between word from from ≡ []
none_between word from =
    let nothing : from - from ≡ 0 = omega arith in
    ap (λ n. take n (drop from word)) nothing

one_between : (word : List ℕ) (from : ℕ) → from < length word
    → letters_between word from (suc from) ≡ get_or word from 0 ∷ []
one_between word from below =
    let one : suc from - from ≡ 1 = omega arith in
    ap (λ n. take n (drop from word)) one ∙ ap (take 1) (drop_more word from 0 below)

module _ (seed size : ℕ) where
  abbrev p : PosedProblem
  p = made_problem seed size

  letter_matches : (from : ℕ) → from < size
      → Matches pairs_grammar (Letter 0) (letters_between (made_word seed size) from (suc from))
  letter_matches from below =
      let long = length_made seed size in
      let here : letters_between (made_word seed size) from (suc from) ≡ get_or (made_word seed size) from 0 ∷ [] =
      one_between (made_word seed size) from (omega arith) in
      subst (Matches pairs_grammar (Letter 0)) (sym here)
      (refl, (in_class (get_or (made_word seed size) from 0) (made_paired seed size from 0 below), tt))

  -- a tree of the rest of the word
  record HasTree (from : ℕ) : Type 0 where
    tree : Tree
    ends : end_of tree ≡ size
    derived : Derives p (rest_cell from size) tree

  nil_tree : HasTree size
  nil_tree =
      let long = length_made seed size in
      let span : IsSpan (made_word seed size) size size = record { in_order = omega arith; in_word = omega arith } in
      let leaf : IsMatchingLeaf p (Literal []) size (Leaf size size) =
      (refl, span, none_between (made_word seed size) size) in
      record {
        tree = Node 0 0 size size (Cons (Leaf size size) Nil);
        ends = refl;
        derived = (refl, refl, refl, span, omega arith, (leaf, refl), (zero-le, tt));
      }

  skip_tree : (from : ℕ) → from < size → HasTree (suc from) → HasTree from
  skip_tree from below rest =
      let long = length_made seed size in
      let one : IsSpan (made_word seed size) from (suc from) =
      record { in_order = omega arith; in_word = omega arith } in
      let leaf : IsMatchingLeaf p (Letter 0) from (Leaf from (suc from)) =
      (refl, one, letter_matches from below) in
      let span : IsSpan (made_word seed size) from size = record { in_order = omega arith; in_word = omega arith } in
      let child : Derives p (rest_cell (suc from) (end_of rest.tree)) rest.tree =
      subst (λ to. Derives p (rest_cell (suc from) to) rest.tree) (sym rest.ends) rest.derived in
      record {
        tree = Node 0 1 from size (Cons (Leaf from (suc from)) (Cons rest.tree Nil));
        ends = refl;
        derived = (refl, refl, refl, span, omega arith, (leaf, (child, rest.ends)), (zero-le, tt));
      }

  rest_tree : (left from : ℕ) → from + left ≡ size → HasTree from
  rest_tree zero from all = subst HasTree (omega arith) nil_tree
  rest_tree (suc left) from all = skip_tree from (omega arith) (rest_tree left (suc from) (omega arith))

  pub has_tree : (tree : Tree) × Derives p (axiom_cell p) tree
  has_tree =
      let whole = rest_tree size 0 (omega arith) in
      (whole.tree, subst (λ to. Derives p (rest_cell 0 to) whole.tree) (sym (length_made seed size)) whole.derived)
