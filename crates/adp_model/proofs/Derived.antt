-- What is known of a derived tree: its root, its span, and how many children it has.
use Rattle.std.proofs.Common.{◌≡◌, ℕ, ◌≤◌, List, [], ◌∷◌, ◌++◌, length, take, zero, suc, length-take, length-append, refl, arith}
use Rattle.adp_model.specs.declared.grammar.Arg.{Arg}
use Rattle.adp_model.specs.declared.grammar.Arg.TheVariants.{Rule, Literal, Letter, Run}
use Rattle.adp_model.specs.declared.grammar.Grammar.{Grammar}
use Rattle.adp_model.specs.declared.cell.Cell.{Cell}
use Rattle.adp_model.specs.PosedProblem.{PosedProblem, IsSpan}
use Rattle.adp_model.specs.Parts.{arguments_of}
use Rattle.adp_model.specs.Tree.{Tree, Leaf, Node, Trees, Nil, Cons, start_of, end_of, ends_of}
use Rattle.adp_model.specs.Derivation.{Derives, DeriveArguments, IsMatchingLeaf}
use Rattle.adp_model.specs.Preference.{cuts_of}

-- the tree begins where the cell begins
pub start-derived : (p : PosedProblem) (cell : Cell) (tree : Tree) → Derives p cell tree → start_of tree ≡ cell.from
start-derived p cell (Leaf from to) derived = absurd derived
start-derived p cell (Node rule alternative from to children) derived = derived.1

-- the tree ends where the cell ends
pub end-derived : (p : PosedProblem) (cell : Cell) (tree : Tree) → Derives p cell tree → end_of tree ≡ cell.to
end-derived p cell (Leaf from to) derived = absurd derived
end-derived p cell (Node rule alternative from to children) derived = derived.2

-- the cell is a span of the word
pub IsSpan-derived : (p : PosedProblem) (cell : Cell) (tree : Tree) → Derives p cell tree → IsSpan p.word cell.from cell.to
IsSpan-derived p cell (Leaf from to) derived = absurd derived
IsSpan-derived p cell (Node rule alternative from to children) derived = derived.3

-- the tree is a node of the cell
pub node-derived : (p : PosedProblem) (cell : Cell) (tree : Tree) → Derives p cell tree → (alternative : ℕ) × (children : Trees) × (tree ≡ Node cell.rule alternative cell.from cell.to children)
node-derived p cell (Leaf from to) derived = absurd derived
node-derived p cell (Node rule alternative from to children) derived =
    (alternative, children, cc (derived.0, derived.1, derived.2))

-- ---- children

-- past the first argument
pub others-derived : (p : PosedProblem) (argument : Arg) (arguments : List Arg) (from to : ℕ) (first : Tree) (others : Trees) → DeriveArguments p (argument ∷ arguments) from to (Cons first others) → DeriveArguments p arguments (end_of first) to others
others-derived p (Rule rule) arguments from to first others derived = derived.1
others-derived p (Literal text) arguments from to first others derived = derived.1
others-derived p (Letter class) arguments from to first others derived = derived.1
others-derived p (Run class low high) arguments from to first others derived = derived.1

-- there is one child for each argument
pub length-derived : (p : PosedProblem) (arguments : List Arg) (from to : ℕ) (children : Trees) → DeriveArguments p arguments from to children → length (ends_of children) ≡ length arguments
length-derived p [] from to Nil derived = refl
length-derived p [] from to (Cons first others) derived = absurd derived
length-derived p (argument ∷ arguments) from to Nil derived = absurd derived
length-derived p (argument ∷ arguments) from to (Cons first others) derived =
    let rest = length-derived p arguments (end_of first) to others (others-derived p argument arguments from to first others derived) in
    omega arith

-- the last of the ends is this one
abbrev pub LastIs : ℕ → List ℕ → Type 0
LastIs to [] = Unit {0}
LastIs to (end ∷ []) = end ≡ to
LastIs to (end ∷ next ∷ ends) = LastIs to (next ∷ ends)

-- the last child ends where the arguments end
pub last-derived : (p : PosedProblem) (arguments : List Arg) (from to : ℕ) (children : Trees) → DeriveArguments p arguments from to children → LastIs to (ends_of children)
last-derived p [] from to Nil derived = tt
last-derived p [] from to (Cons first others) derived = absurd derived
last-derived p (argument ∷ arguments) from to Nil derived = absurd derived
last-derived p (argument ∷ []) from to (Cons first Nil) derived = others-derived p argument [] from to first Nil derived
last-derived p (argument ∷ next ∷ arguments) from to (Cons first Nil) derived = absurd (others-derived p argument (next ∷ arguments) from to first Nil derived)
last-derived p (argument ∷ arguments) from to (Cons first (Cons second others)) derived =
    last-derived p arguments (end_of first) to (Cons second others) (others-derived p argument arguments from to first (Cons second others) derived)

-- ends whose last is known are those that the others and a filling tell
ends_unique : (count : ℕ) (to : ℕ) (filling xs ys : List ℕ) → length xs ≤ suc count → length xs ≡ length ys → LastIs to xs → LastIs to ys → take count (xs ++ filling) ≡ take count (ys ++ filling) → xs ≡ ys
ends_unique count to filling [] [] few len last last' same = refl
ends_unique count to filling [] (y ∷ ys) few len last last' same = absurd (omega arith)
ends_unique count to filling (x ∷ xs) [] few len last last' same = absurd (omega arith)
ends_unique count to filling (x ∷ []) (y ∷ []) few len last last' same = cc
ends_unique count to filling (x ∷ []) (y ∷ y' ∷ ys) few len last last' same = absurd (omega arith)
ends_unique count to filling (x ∷ x' ∷ xs) (y ∷ []) few len last last' same = absurd (omega arith)
ends_unique zero to filling (x ∷ x' ∷ xs) (y ∷ y' ∷ ys) few len last last' same = absurd (omega arith)
ends_unique (suc count) to filling (x ∷ x' ∷ xs) (y ∷ y' ∷ ys) few len last last' same =
    let head : x ≡ y = cc in
    let others : take count ((x' ∷ xs) ++ filling) ≡ take count ((y' ∷ ys) ++ filling) = cc in
    let rest : x' ∷ xs ≡ y' ∷ ys = ends_unique count to filling (x' ∷ xs) (y' ∷ ys) (omega arith) (omega arith) last last' others in
    cc

-- equal cuts of the same arguments are equal ends
pub ends-derived_unique : (p : PosedProblem) (arguments : List Arg) (from to : ℕ) (children children' : Trees) → length arguments ≤ 4 → DeriveArguments p arguments from to children → DeriveArguments p arguments from to children' → cuts_of to children ≡ cuts_of to children' → ends_of children ≡ ends_of children'
ends-derived_unique p arguments from to children children' few derived derived' same =
    let count = length-derived p arguments from to children derived in
    let count' = length-derived p arguments from to children' derived' in
    ends_unique 3 to (to ∷ to ∷ to ∷ []) (ends_of children) (ends_of children') (omega arith) (omega arith) (last-derived p arguments from to children derived) (last-derived p arguments from to children' derived') same

-- there are three cuts
pub length-cuts_of : (to : ℕ) (children : Trees) → length (cuts_of to children) ≡ 3
length-cuts_of to children =
    omega (arith, length-take 3 (ends_of children ++ to ∷ to ∷ to ∷ []), length-append (ends_of children) (to ∷ to ∷ to ∷ []))

-- leaves with one start and one end are one
pub leaf_unique : (p : PosedProblem) (token : Arg) (start : ℕ) (t u : Tree) → IsMatchingLeaf p token start t → IsMatchingLeaf p token start u → end_of t ≡ end_of u → t ≡ u
leaf_unique p token start (Leaf from to) (Leaf from' to') h k same = cc (h.0, k.0)
leaf_unique p token start (Leaf from to) (Node rule alternative from' to' children) h k same = absurd k
leaf_unique p token start (Node rule alternative from to children) u h k same = absurd h

-- no alternative has more than four arguments
abbrev pub HasFewArguments : Grammar → Type 0
HasFewArguments grammar = (rule alternative : ℕ) → length (arguments_of grammar rule alternative) ≤ 4

pub ruleset derived_facts = (start-derived, end-derived, IsSpan-derived, node-derived)
