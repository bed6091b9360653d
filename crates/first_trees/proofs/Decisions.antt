-- Whether a tree is derived for a cell is decided.
use Rattle.std.proofs.Common.{◌≡◌, ℕ, ◌-◌, ◌<◌, ◌≤◌, ℤ, ◌⊎◌, inl, inr, Option, Some, None, IfSome, IsSome, List, [], ◌∷◌, length, refl, ap₂, arith}
use Rattle.std.specs.List.{AllByRecursion}
use Rattle.adp_model.specs.declared.grammar.Arg.{Arg}
use Rattle.adp_model.specs.declared.grammar.Arg.TheVariants.{Rule, Literal, Letter, Run}
use Rattle.adp_model.specs.declared.grammar.Alt.{Alt}
use Rattle.adp_model.specs.declared.grammar.Grammar.{Grammar}
use Rattle.adp_model.specs.declared.cell.Cell.{Cell}
use Rattle.adp_model.specs.PosedProblem.{PosedProblem, IsSpan}
use Rattle.adp_model.specs.Parts.{letters_of, alternatives_of, alternative_at, arguments_of}
use Rattle.adp_model.specs.Tokens.{letters_between, weight_of, IsIn, Matches}
use Rattle.adp_model.specs.Lengths.{low_of, high_of, AllowsLength}
use Rattle.adp_model.specs.Tree.{Tree, Leaf, Node, Trees, Nil, Cons, end_of}
use Rattle.adp_model.specs.Derivation.{Derives, DeriveArguments, IsMatchingLeaf}

-- it holds, or it does not
abbrev pub Decided : Type 0 → Type 0
Decided A = A ⊎ (A → ⊥)

both : {A B : Type 0} → Decided A → Decided B → Decided (A × B)
both (inl a) (inl b) = inl (a, b)
both (inl a) (inr wrong) = inr (λ h. wrong h.1)
both (inr wrong) d = inr (λ h. wrong h.0)

changed : {A B : Type 0} → (A → B) → (B → A) → Decided A → Decided B
changed to back (inl a) = inl (to a)
changed to back (inr wrong) = inr (λ b. wrong (back b))

for_all : {X : Type 0} (P : X → Type 0) → ((x : X) → Decided (P x)) → (xs : List X) → Decided (AllByRecursion P xs)
for_all P each [] = inl tt
for_all P each (x ∷ xs) = both (each x) (for_all P each xs)

same_number : (m n : ℕ) → Decided (m ≡ n)
same_number m n = grind arith

at_most : (m n : ℕ) → Decided (m ≤ n)
at_most m n = grind arith

less : (m n : ℕ) → Decided (m < n)
less m n = grind arith

within_high : (high : Option ℕ) (n : ℕ) → Decided (IfSome high (λ most. n ≤ most))
within_high None n = inl tt
within_high (Some most) n = at_most n most

same_list : (xs ys : List ℕ) → Decided (xs ≡ ys)
same_list [] [] = inl refl
same_list [] (y ∷ ys) = inr (λ e. cc)
same_list (x ∷ xs) [] = inr (λ e. cc)
same_list (x ∷ xs) (y ∷ ys) = go (same_number x y) (same_list xs ys)
  where
    go : Decided (x ≡ y) → Decided (xs ≡ ys) → Decided (x ∷ xs ≡ y ∷ ys)
    go (inl e) (inl f) = inl (ap₂ (λ a l. a ∷ l) e f)
    go (inl e) (inr wrong) = inr (λ g. wrong (cc))
    go (inr wrong) d = inr (λ g. wrong (cc))

some_or_none : (o : Option ℤ) → Decided (IsSome o)
some_or_none None = inr (λ e. cc)
some_or_none (Some x) = inl refl

in_class : (class : List (ℕ × ℤ)) (letter : ℕ) → Decided (IsIn class letter)
in_class class letter = some_or_none (weight_of class letter)

token_matches : (grammar : Grammar) (token : Arg) (letters : List ℕ) → Decided (Matches grammar token letters)
token_matches grammar (Rule rule) letters = inr (λ h. h)
token_matches grammar (Literal text) letters = same_list letters text
token_matches grammar (Letter class) letters =
    both (same_number (length letters) 1)
    (for_all (IsIn (letters_of grammar class)) (in_class (letters_of grammar class)) letters)
token_matches grammar (Run class low high) letters =
    changed (λ h. (h.0.0, h.0.1, h.1)) (λ h. ((h.0, h.1), h.2))
    (both (both (at_most low (length letters)) (within_high high (length letters)))
    (for_all (IsIn (letters_of grammar class)) (in_class (letters_of grammar class)) letters))

is_span : (word : List ℕ) (from to : ℕ) → Decided (IsSpan word from to)
is_span word from to =
    changed (λ h. record { in_order = h.0; in_word = h.1 }) (λ h. (h.in_order, h.in_word))
    (both (at_most from to) (at_most to (length word)))

allows : (alternative : Alt) (len : ℕ) → Decided (AllowsLength alternative len)
allows alternative len = both (at_most (low_of alternative.size) len) (within_high (high_of alternative.size) len)

matching_leaf : (p : PosedProblem) (token : Arg) (start : ℕ) (tree : Tree) → Decided (IsMatchingLeaf p token start tree)
matching_leaf p token start (Leaf from to) =
    changed (λ h. (h.0.0, h.0.1, h.1)) (λ h. ((h.0, h.1), h.2))
    (both (both (same_number from start) (is_span p.word from to))
    (token_matches p.grammar token (letters_between p.word from to)))
matching_leaf p token start (Node rule alternative from to children) = inr (λ h. h)

mutual
  pub derived_or_not : (p : PosedProblem) (cell : Cell) (tree : Tree) → Decided (Derives p cell tree)
  derived_or_not p cell (Leaf from to) = inr (λ h. h)
  derived_or_not p cell (Node rule alternative from to children) =
      changed (λ h. (h.0.0.0, h.0.0.1, h.0.1.0, h.0.1.1, h.1.0.0, h.1.0.1, h.1.1))
      (λ h. (((h.0, h.1), (h.2, h.3)), ((h.4, h.5), h.6)))
      (both
      (both (both (same_number rule cell.rule) (same_number from cell.from))
      (both (same_number to cell.to) (is_span p.word cell.from cell.to)))
      (both
      (both (less alternative (length (alternatives_of p.grammar cell.rule)))
      (arguments_or_not p (arguments_of p.grammar cell.rule alternative) cell.from cell.to children))
      (allows (alternative_at p.grammar cell.rule alternative) (cell.to - cell.from))))

  arguments_or_not : (p : PosedProblem) (arguments : List Arg) (from to : ℕ) (children : Trees)
      → Decided (DeriveArguments p arguments from to children)
  arguments_or_not p [] from to Nil = same_number from to
  arguments_or_not p [] from to (Cons first others) = inr (λ h. h)
  arguments_or_not p (argument ∷ arguments) from to Nil = inr (λ h. h)
  arguments_or_not p (Rule rule ∷ arguments) from to (Cons first others) =
      both (derived_or_not p (record { rule = rule; from = from; to = end_of first }) first)
      (arguments_or_not p arguments (end_of first) to others)
  arguments_or_not p (token ∷ arguments) from to (Cons first others) =
      both (matching_leaf p token from first) (arguments_or_not p arguments (end_of first) to others)
