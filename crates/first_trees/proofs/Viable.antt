-- The root of a derived tree is a viable split, so its rule children stand in demanded children of the cell.
use Rattle.std.proofs.Common.{◌≡◌, ℕ, zero, suc, ◌-◌, ◌<◌, List, [], ◌∷◌, ◌++◌, length, take, drop, length-take, length-append, refl, sym, subst, arith}
use Rattle.std.specs.List.{AllByRecursion, Contains}
use Rattle.adp_model.specs.declared.grammar.Arg.{Arg}
use Rattle.adp_model.specs.declared.grammar.Arg.TheVariants.{Rule, Literal, Letter, Run}
use Rattle.adp_model.specs.declared.cell.Cell.{Cell}
use Rattle.adp_model.specs.PosedProblem.{PosedProblem, IsSpan}
use Rattle.adp_model.specs.Parts.{alternatives_of, alternative_at, arguments_of}
use Rattle.adp_model.specs.Lengths.{AllowsLength}
use Rattle.adp_model.specs.Sizes.{IsWithinSizes}
use Rattle.adp_model.specs.Tree.{Tree, Leaf, Node, Trees, Nil, Cons, end_of, ends_of}
use Rattle.adp_model.specs.Derivation.{Derives, DeriveArguments}
use Rattle.adp_model.specs.Preference.{cuts_of}
use Rattle.adp_model.specs.Splits.{Placed, AtRule, place, placed, FitsSpan, IsViable}
use Rattle.adp_model.specs.Demand.{IsDemandedChild}
use Rattle.first_trees.proofs.Lists.{all_taken}
use Rattle.first_trees.proofs.Following.{ArePlaced, others_derived, length_derived}

-- ---- ends

-- the last of the ends is this one
abbrev LastIs : ℕ → List ℕ → Type 0
LastIs to [] = Unit {0}
LastIs to (end ∷ []) = end ≡ to
LastIs to (end ∷ next ∷ ends) = LastIs to (next ∷ ends)

last_derived : (p : PosedProblem) (arguments : List Arg) (from to : ℕ) (children : Trees)
    → DeriveArguments p arguments from to children → LastIs to (ends_of children)
last_derived p [] from to Nil derived = tt
last_derived p [] from to (Cons first others) derived = absurd derived
last_derived p (argument ∷ arguments) from to Nil derived = absurd derived
last_derived p (argument ∷ []) from to (Cons first Nil) derived =
    others_derived p argument [] from to first Nil derived
last_derived p (argument ∷ next ∷ arguments) from to (Cons first Nil) derived =
    absurd (others_derived p argument (next ∷ arguments) from to first Nil derived)
last_derived p (argument ∷ arguments) from to (Cons first (Cons second others)) derived =
    last_derived p arguments (end_of first) to (Cons second others)
    (others_derived p argument arguments from to first (Cons second others) derived)

all_dropped : (P : ℕ → Type 0) (count : ℕ) (xs : List ℕ) → AllByRecursion P xs → AllByRecursion P (drop count xs)
all_dropped P zero xs all = all
all_dropped P (suc count) [] all = tt
all_dropped P (suc count) (x ∷ xs) all = all_dropped P count xs all.1

all_pushed : (P : ℕ → Type 0) (xs : List ℕ) (x : ℕ) → AllByRecursion P xs → P x → AllByRecursion P (xs ++ x ∷ [])
all_pushed P [] x all holds = (holds, tt)
all_pushed P (y ∷ xs) x all holds = (all.0, all_pushed P xs x all.1 holds)

-- from the last end on all boundaries are the end
last_boundaries : (count to : ℕ) (ends filling : List ℕ) → LastIs to ends
    → AllByRecursion (λ boundary. boundary ≡ to) filling
    → AllByRecursion (λ boundary. boundary ≡ to) (drop (length ends - 1) (take count (ends ++ filling) ++ to ∷ []))
last_boundaries count to [] filling last filled =
    all_pushed (λ boundary. boundary ≡ to) (take count filling) to
    (all_taken (λ boundary. boundary ≡ to) count filling filled) refl
last_boundaries count to (end ∷ []) filling last filled =
    all_pushed (λ boundary. boundary ≡ to) (take count (end ∷ filling)) to
    (all_taken (λ boundary. boundary ≡ to) count (end ∷ filling) (last, filled)) refl
last_boundaries zero to (end ∷ next ∷ ends) filling last filled =
    all_dropped (λ boundary. boundary ≡ to) (length (end ∷ next ∷ ends) - 1) (to ∷ []) (refl, tt)
last_boundaries (suc count) to (end ∷ next ∷ ends) filling last filled =
    let fewer : suc (length (next ∷ ends) - 1) ≡ length (end ∷ next ∷ ends) - 1 = omega arith in
    subst
    (λ n. AllByRecursion (λ boundary. boundary ≡ to) (drop n (take (suc count) ((end ∷ next ∷ ends) ++ filling) ++ to ∷ [])))
    fewer (last_boundaries count to (next ∷ ends) filling last filled)

three_cuts : (to : ℕ) (children : Trees) → length (cuts_of to children) ≡ 3
three_cuts to children =
    omega (
      arith,
      length-take 3 (ends_of children ++ to ∷ to ∷ to ∷ []),
      length-append (ends_of children) (to ∷ to ∷ to ∷ []),
    )

-- ---- spans

pub span_derived : (p : PosedProblem) (cell : Cell) (tree : Tree) → Derives p cell tree → IsSpan p.word cell.from cell.to
span_derived p cell (Leaf from to) derived = absurd derived
span_derived p cell (Node rule alternative from to children) derived = derived.3

module _ (p : PosedProblem) (sound : (cell : Cell) (tree : Tree) → Derives p cell tree
    → IsWithinSizes p.grammar cell.rule (cell.to - cell.from)) where
  fits_derived : (arguments : List Arg) (from to : ℕ) (children : Trees) → DeriveArguments p arguments from to children
      → AllByRecursion (FitsSpan p) (place arguments from (ends_of children))
  fits_derived [] from to children h = tt
  fits_derived (argument ∷ arguments) from to Nil h = absurd h
  fits_derived (Rule rule ∷ arguments) from to (Cons first others) h =
      let cell : Cell = record { rule = rule; from = from; to = end_of first } in
      ((span_derived p cell first h.0, sound cell first h.0), fits_derived arguments (end_of first) to others h.1)
  fits_derived (token ∷ arguments) from to (Cons (Leaf from' to') others) h = (
    subst (λ x. FitsSpan p (record { argument = token; from = x; to = to' })) h.0.0 (h.0.1, h.0.2),
    fits_derived arguments to' to others h.1,
  )
  fits_derived (token ∷ arguments) from to (Cons (Node rule alternative from' to' children) others) h = absurd h.0

  module _ (laid : ArePlaced p) where
    pub viable_derived : (cell : Cell) (alternative : ℕ) (children : Trees)
        → alternative < length (alternatives_of p.grammar cell.rule)
        → AllowsLength (alternative_at p.grammar cell.rule alternative) (cell.to - cell.from)
        → DeriveArguments p (arguments_of p.grammar cell.rule alternative) cell.from cell.to children
        → IsViable p cell alternative (cuts_of cell.to children)
    viable_derived cell alternative children in_range allowed h =
        let arguments : List Arg = arguments_of p.grammar cell.rule alternative in
        record {
          in_range = in_range;
          allowed = allowed;
          three = three_cuts cell.to children;
          last = subst (λ n. AllByRecursion (λ boundary. boundary ≡ cell.to) (drop (n - 1) (cuts_of cell.to children ++ cell.to ∷ [])))
              (length_derived p arguments cell.from cell.to children h)
              (last_boundaries 3 cell.to (ends_of children) (cell.to ∷ cell.to ∷ cell.to ∷ [])
              (last_derived p arguments cell.from cell.to children h) (refl, (refl, (refl, tt))));
          fits = subst (AllByRecursion (FitsSpan p)) (sym (laid cell.rule alternative cell.from cell.to children h))
              (fits_derived arguments cell.from cell.to children h);
        }

    -- ---- demanded children

    all_contained : {X : Type 0} (P : X → Type 0) (xs : List X) → ((x : X) → Contains xs x → P x)
        → AllByRecursion P xs
    all_contained P [] each = tt
    all_contained P (x ∷ xs) each = (
      each x (zero, omega arith, refl),
      all_contained P xs (λ y c. each y (suc c.0, (let less : c.0 < length xs = c.1 in omega arith), c.2)),
    )

    -- a number that falls from a cell to its demanded children falls to the cells of the root's children
    pub falls_derived : (measure : Cell → ℕ)
        → ((cell child : Cell) → IsDemandedChild p cell child → measure child < measure cell)
        → (cell : Cell) (alternative : ℕ) (children : Trees)
        → alternative < length (alternatives_of p.grammar cell.rule)
        → AllowsLength (alternative_at p.grammar cell.rule alternative) (cell.to - cell.from)
        → DeriveArguments p (arguments_of p.grammar cell.rule alternative) cell.from cell.to children
        → AllByRecursion (AtRule (λ child. measure child < measure cell))
        (place (arguments_of p.grammar cell.rule alternative) cell.from (ends_of children))
    falls_derived measure falls cell alternative children in_range allowed h =
        subst (AllByRecursion (AtRule (λ child. measure child < measure cell)))
        (laid cell.rule alternative cell.from cell.to children h)
        (all_contained (AtRule (λ child. measure child < measure cell)) spans (λ at. go at.argument at.from at.to))
      where
        spans : List Placed
        spans = placed p cell alternative (cuts_of cell.to children)

        go : (argument : Arg) (from to : ℕ)
            → Contains (placed p cell alternative (cuts_of cell.to children))
            (record { argument = argument; from = from; to = to })
            → AtRule (λ child. measure child < measure cell) (record { argument = argument; from = from; to = to })
        go (Rule rule) from to contained =
            falls cell (record { rule = rule; from = from; to = to })
            (alternative, cuts_of cell.to children, viable_derived cell alternative children in_range allowed h, contained)
        go (Literal text) from to contained = tt
        go (Letter class) from to contained = tt
        go (Run class low high) from to contained = tt
