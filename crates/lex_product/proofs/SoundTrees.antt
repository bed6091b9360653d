-- Orders of trees that agree on the scores of derived trees agree on derived trees.
use Rattle.std.proofs.Common.{◌≡◌, inl, inr, ℕ, List, [], ◌∷◌}
use Rattle.adp_model.specs.declared.grammar.Arg.{Arg}
use Rattle.adp_model.specs.declared.grammar.Arg.TheVariants.{Rule, Literal, Letter, Run}
use Rattle.adp_model.specs.declared.cell.Cell.{Cell}
use Rattle.adp_model.specs.PosedProblem.{PosedProblem}
use Rattle.adp_model.specs.Parts.{arguments_of}
use Rattle.adp_model.specs.Tree.{Tree, Leaf, Node, Trees, Nil, Cons, end_of}
use Rattle.adp_model.specs.Derivation.{IsMatchingLeaf, Derives, DeriveArguments}
use Rattle.adp_model.specs.Preference.{Precedes, FirstDifferencePrecedes}

-- the tree is derived for some cell
abbrev pub IsDerived : PosedProblem → Tree → Type 0
IsDerived p tree = (cell : Cell) × Derives p cell tree

abbrev mutual
  -- each node of the tree is derived for some cell
  pub IsSound : PosedProblem → Tree → Type 0
  IsSound p (Leaf from to) = Unit {0}
  IsSound p (Node rule alternative from to children) = IsDerived p (Node rule alternative from to children) × AreSound p children

  pub AreSound : PosedProblem → Trees → Type 0
  AreSound p Nil = Unit {0}
  AreSound p (Cons first others) = IsSound p first × AreSound p others

leaf_sound : (p : PosedProblem) (token : Arg) (start : ℕ) (tree : Tree) → IsMatchingLeaf p token start tree → IsSound p tree
leaf_sound p token start (Leaf from to) h = tt
leaf_sound p token start (Node rule alternative from to children) h = absurd h

mutual
  pub sound : (p : PosedProblem) (cell : Cell) (tree : Tree) → Derives p cell tree → IsSound p tree
  sound p cell (Leaf from to) h = tt
  sound p cell (Node rule alternative from to children) h = ((cell, h), all_sound p (arguments_of p.grammar cell.rule alternative) cell.from cell.to children h.5)

  all_sound : (p : PosedProblem) (arguments : List Arg) (from to : ℕ) (children : Trees) → DeriveArguments p arguments from to children → AreSound p children
  all_sound p arguments from to Nil h = tt
  all_sound p [] from to (Cons first others) h = absurd h
  all_sound p (Rule rule ∷ arguments) from to (Cons first others) h = (sound p (record { rule = rule; from = from; to = end_of first }) first h.0, all_sound p arguments (end_of first) to others h.1)
  all_sound p (Literal text ∷ arguments) from to (Cons first others) h = (leaf_sound p (Literal text) from first h.0, all_sound p arguments (end_of first) to others h.1)
  all_sound p (Letter class ∷ arguments) from to (Cons first others) h = (leaf_sound p (Letter class) from first h.0, all_sound p arguments (end_of first) to others h.1)
  all_sound p (Run class low high ∷ arguments) from to (Cons first others) h = (leaf_sound p (Run class low high) from first h.0, all_sound p arguments (end_of first) to others h.1)

module _ {S S' : Type 0} (p : PosedProblem) (better : S → S → Type 0) (score : Tree → S) (better' : S' → S' → Type 0) (score' : Tree → S')
    (as_good : (t u : Tree) → IsDerived p t → IsDerived p u → better (score t) (score u) → better' (score' t) (score' u))
    (as_equal : (t u : Tree) → IsDerived p t → IsDerived p u → score t ≡ score u → score' t ≡ score' u) where
  mutual
    pub before_moved : (t u : Tree) → IsSound p t → IsSound p u → Precedes better score t u → Precedes better' score' t u
    before_moved (Leaf from to) u s s' h = h
    before_moved (Node rule alternative from to children) (Leaf from' to') s s' h = h
    before_moved (Node rule alternative from to children) (Node rule' alternative' from' to' children') s s' (inl good) =
        inl (as_good (Node rule alternative from to children) (Node rule' alternative' from' to' children') s.0 s'.0 good)
    before_moved (Node rule alternative from to children) (Node rule' alternative' from' to' children') s s' (inr (equal, inl earlier)) =
        inr (as_equal (Node rule alternative from to children) (Node rule' alternative' from' to' children') s.0 s'.0 equal, inl earlier)
    before_moved (Node rule alternative from to children) (Node rule' alternative' from' to' children') s s' (inr (equal, inr (one, inl less))) =
        inr (as_equal (Node rule alternative from to children) (Node rule' alternative' from' to' children') s.0 s'.0 equal, inr (one, inl less))
    before_moved (Node rule alternative from to children) (Node rule' alternative' from' to' children') s s' (inr (equal, inr (one, inr (cuts, first)))) =
        inr (as_equal (Node rule alternative from to children) (Node rule' alternative' from' to' children') s.0 s'.0 equal, inr (one, inr (cuts, firsts_moved children children' s.1 s'.1 first)))

    firsts_moved : (ts us : Trees) → AreSound p ts → AreSound p us → FirstDifferencePrecedes better score ts us → FirstDifferencePrecedes better' score' ts us
    firsts_moved Nil us s s' h = h
    firsts_moved (Cons t ts) Nil s s' h = h
    firsts_moved (Cons t ts) (Cons u us) s s' (inl h) = inl (before_moved t u s.0 s'.0 h)
    firsts_moved (Cons t ts) (Cons u us) s s' (inr (same, h)) = inr (same, firsts_moved ts us s.1 s'.1 h)
