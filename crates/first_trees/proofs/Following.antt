-- What is known of the children of a derived tree: there is one for each argument, and cuts tell where they end.
use Rattle.std.proofs.Common.{◌≡◌, ℕ, List, [], ◌∷◌, ◌++◌, length, refl, sym, ap, ap₂, subst, ◌∙◌, arith}
use Rattle.adp_model.specs.declared.grammar.Arg.{Arg}
use Rattle.adp_model.specs.declared.grammar.Arg.TheVariants.{Rule, Literal, Letter, Run}
use Rattle.adp_model.specs.PosedProblem.{PosedProblem}
use Rattle.adp_model.specs.Parts.{arguments_of}
use Rattle.adp_model.specs.Tree.{Tree, Leaf, Node, Trees, Nil, Cons, end_of, ends_of}
use Rattle.adp_model.specs.Derivation.{DeriveArguments, IsMatchingLeaf}
use Rattle.adp_model.specs.Preference.{cuts_of}
use Rattle.adp_model.specs.Splits.{Placed, place}

-- past the first argument
pub others_derived : (p : PosedProblem) (argument : Arg) (arguments : List Arg) (from to : ℕ) (first : Tree)
    (others : Trees) → DeriveArguments p (argument ∷ arguments) from to (Cons first others)
    → DeriveArguments p arguments (end_of first) to others
others_derived p (Rule rule) arguments from to first others derived = derived.1
others_derived p (Literal text) arguments from to first others derived = derived.1
others_derived p (Letter class) arguments from to first others derived = derived.1
others_derived p (Run class low high) arguments from to first others derived = derived.1

-- there is one child for each argument
pub length_derived : (p : PosedProblem) (arguments : List Arg) (from to : ℕ) (children : Trees)
    → DeriveArguments p arguments from to children → length (ends_of children) ≡ length arguments
length_derived p [] from to Nil derived = refl
length_derived p [] from to (Cons first others) derived = absurd derived
length_derived p (argument ∷ arguments) from to Nil derived = absurd derived
length_derived p (argument ∷ arguments) from to (Cons first others) derived =
    let rest =
    length_derived p arguments (end_of first) to others
    (others_derived p argument arguments from to first others derived) in
    omega arith

-- leaves with one start and one end are one
pub leaf_unique : (p : PosedProblem) (token : Arg) (start : ℕ) (t u : Tree) → IsMatchingLeaf p token start t
    → IsMatchingLeaf p token start u → end_of t ≡ end_of u → t ≡ u
leaf_unique p token start (Leaf from to) (Leaf from' to') h k same = cc (h.0, k.0)
leaf_unique p token start (Leaf from to) (Node rule alternative from' to' children) h k same = absurd k
leaf_unique p token start (Node rule alternative from to children) u h k same = absurd h

-- the spans of arguments tell their ends
ends_placed : (arguments : List Arg) (from : ℕ) (xs ys : List ℕ) → length xs ≡ length arguments
    → length ys ≡ length arguments → place arguments from xs ≡ place arguments from ys → xs ≡ ys
ends_placed [] from [] [] count count' same = refl
ends_placed [] from [] (y ∷ ys) count count' same = absurd (omega arith)
ends_placed [] from (x ∷ xs) ys count count' same = absurd (omega arith)
ends_placed (argument ∷ arguments) from [] ys count count' same = absurd (omega arith)
ends_placed (argument ∷ arguments) from (x ∷ xs) [] count count' same = absurd (omega arith)
ends_placed (argument ∷ arguments) from (x ∷ xs) (y ∷ ys) count count' same =
    let first : Placed = record { argument = argument; from = from; to = x } in
    let other : Placed = record { argument = argument; from = from; to = y } in
    let heads : first ≡ other = cc in
    let tails : place arguments x xs ≡ place arguments y ys = cc in
    let end : x ≡ y = ap (λ (laid : Placed). laid.to) heads in
    ap₂ (λ z zs. z ∷ zs) end
    (ends_placed arguments x xs ys (omega arith) (omega arith)
    (subst (λ z. place arguments x xs ≡ place arguments z ys) (sym end) tails))

-- the cuts of a node and its end give the spans of its children
abbrev pub ArePlaced : PosedProblem → Type 0
ArePlaced p =
    (rule alternative from to : ℕ) (children : Trees)
    → DeriveArguments p (arguments_of p.grammar rule alternative) from to children
    → place (arguments_of p.grammar rule alternative) from (cuts_of to children ++ to ∷ [])
    ≡ place (arguments_of p.grammar rule alternative) from (ends_of children)

-- equal cuts are equal ends
pub ends_unique : (p : PosedProblem) → ArePlaced p → (rule alternative from to : ℕ) (ts us : Trees)
    → DeriveArguments p (arguments_of p.grammar rule alternative) from to ts
    → DeriveArguments p (arguments_of p.grammar rule alternative) from to us
    → cuts_of to ts ≡ cuts_of to us → ends_of ts ≡ ends_of us
ends_unique p placed rule alternative from to ts us h k same =
    let arguments : List Arg = arguments_of p.grammar rule alternative in
    ends_placed arguments from (ends_of ts) (ends_of us) (length_derived p arguments from to ts h)
    (length_derived p arguments from to us k)
    (sym (placed rule alternative from to ts h) ∙ ap (λ cuts. place arguments from (cuts ++ to ∷ [])) same
    ∙ placed rule alternative from to us k)
