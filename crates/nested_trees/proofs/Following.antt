-- Children and what they follow: an argument of the plain grammar, or a pattern of the nested one.
use Rattle.std.proofs.Common.{◌≡◌, ℕ, List, ◌∷◌, Bool, true, false, if◌then◌else◌, refl}
use Rattle.adp_model.specs.declared.grammar.Arg.{Arg}
use Rattle.adp_model.specs.declared.grammar.Arg.TheVariants.{Rule, Literal, Letter, Run}
use Rattle.adp_model.specs.PosedProblem.{PosedProblem}
use Rattle.adp_model.specs.Tree as plain
use Rattle.adp_model.specs.Derivation as derivation
use Rattle.nested_trees.specs.Patterns.{Pattern, Plain, Nested, Patterns, FirstPattern, NestedProblem}
use Rattle.nested_trees.specs.NestedTree.{NestedTree, NestedTrees, Cons, end_of}
use Rattle.nested_trees.specs.NestedDerivation.{DerivesNested, IsMatchingLeaf, MeetsSign, MeetPatterns}

-- the tree begins here, as the argument's child
abbrev pub IsChildOf : PosedProblem → Arg → ℕ → plain.Tree → Type 0
IsChildOf p (Rule rule) from tree =
    derivation.Derives p (record { rule = rule; from = from; to = plain.end_of tree }) tree
IsChildOf p token from tree = derivation.IsMatchingLeaf p token from tree

-- the nested tree begins here, and meets the pattern
abbrev pub Meets : NestedProblem → Pattern → ℕ → NestedTree → Type 0
Meets q (Nested sign inner) from tree = MeetsSign q sign inner from tree
Meets q (Plain (Rule rule)) from tree = DerivesNested q (record { rule = rule; from = from; to = end_of tree }) tree
Meets q (Plain token) from tree = IsMatchingLeaf q token from tree

pub child_first : (p : PosedProblem) (argument : Arg) (arguments : List Arg) (from to : ℕ) (first : plain.Tree)
    (others : plain.Trees)
    → derivation.DeriveArguments p (argument ∷ arguments) from to (plain.Cons first others)
    → IsChildOf p argument from first × derivation.DeriveArguments p arguments (plain.end_of first) to others
child_first p (Rule rule) arguments from to first others h = h
child_first p (Literal text) arguments from to first others h = h
child_first p (Letter class) arguments from to first others h = h
child_first p (Run class low high) arguments from to first others h = h

pub first_child : (p : PosedProblem) (argument : Arg) (arguments : List Arg) (from to : ℕ) (first : plain.Tree)
    (others : plain.Trees)
    → IsChildOf p argument from first → derivation.DeriveArguments p arguments (plain.end_of first) to others
    → derivation.DeriveArguments p (argument ∷ arguments) from to (plain.Cons first others)
first_child p (Rule rule) arguments from to first others h k = (h, k)
first_child p (Literal text) arguments from to first others h k = (h, k)
first_child p (Letter class) arguments from to first others h k = (h, k)
first_child p (Run class low high) arguments from to first others h k = (h, k)

pub met_first : (q : NestedProblem) (pattern : Pattern) (ps : Patterns) (from to : ℕ) (first : NestedTree)
    (others : NestedTrees)
    → MeetPatterns q (FirstPattern pattern ps) from to (Cons first others) → Meets q pattern from first
    × MeetPatterns q ps (end_of first) to others
met_first q (Nested sign inner) ps from to first others h = h
met_first q (Plain (Rule rule)) ps from to first others h = h
met_first q (Plain (Literal text)) ps from to first others h = h
met_first q (Plain (Letter class)) ps from to first others h = h
met_first q (Plain (Run class low high)) ps from to first others h = h

pub first_met : (q : NestedProblem) (pattern : Pattern) (ps : Patterns) (from to : ℕ) (first : NestedTree)
    (others : NestedTrees)
    → Meets q pattern from first → MeetPatterns q ps (end_of first) to others
    → MeetPatterns q (FirstPattern pattern ps) from to (Cons first others)
first_met q (Nested sign inner) ps from to first others h k = (h, k)
first_met q (Plain (Rule rule)) ps from to first others h k = (h, k)
first_met q (Plain (Literal text)) ps from to first others h k = (h, k)
first_met q (Plain (Letter class)) ps from to first others h k = (h, k)
first_met q (Plain (Run class low high)) ps from to first others h k = (h, k)

-- ---- tests

pub if_true : {A : Type 0} (test : Bool) (x y : A) → test ≡ true → (if test then x else y) ≡ x
if_true true x y e = refl
if_true false x y e = absurd (cc)

pub if_false : {A : Type 0} (test : Bool) (x y : A) → test ≡ false → (if test then x else y) ≡ y
if_false true x y e = absurd (cc)
if_false false x y e = refl
