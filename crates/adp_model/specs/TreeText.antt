-- The text of a tree: signs with their children in brackets, leaves as quoted letters.
use Rattle.std.specs.Prelude.{ℕ, List, [], ◌∷◌, ◌++◌, if◌then◌else◌, ◌==◌, ◌||◌}
use Rattle.std.specs.List.{flat_map}
use Rattle.adp_model.specs.Ascii.{backslash, closing_bracket, comma, opening_bracket, quote}
use Rattle.adp_model.specs.PosedProblem.{PosedProblem}
use Rattle.adp_model.specs.Parts.{alternative_at, sign_at}
use Rattle.adp_model.specs.Tokens.{letters_between}
use Rattle.adp_model.specs.Tree.{Tree, Leaf, Node, Trees, Nil, Cons}

-- a letter between quotes: `"` and `\` have a `\` before them
abbrev pub escaped : ℕ → List ℕ
escaped letter = if letter == quote || letter == backslash then backslash ∷ letter ∷ [] else letter ∷ []

-- letters in double quotes
abbrev pub quoted : List ℕ → List ℕ
quoted letters = quote ∷ flat_map escaped letters ++ quote ∷ []

abbrev mutual
  -- a leaf is its letters in quotes; a node is its sign's name and its children, `name(first,second)`
  pub tree_text : PosedProblem → Tree → List ℕ
  tree_text p (Leaf from to) = quoted (letters_between p.word from to)
  tree_text p (Node rule alternative from to children) =
      (sign_at p.grammar (alternative_at p.grammar rule alternative).sign).name
      ++ opening_bracket ∷ children_text p children ++ closing_bracket ∷ []

  -- the children's texts with a comma between two
  pub children_text : PosedProblem → Trees → List ℕ
  children_text p Nil = []
  children_text p (Cons first others) = tree_text p first ++ further_text p others

  pub further_text : PosedProblem → Trees → List ℕ
  further_text p Nil = []
  further_text p (Cons first others) = comma ∷ tree_text p first ++ further_text p others
