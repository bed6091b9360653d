-- What the steps of a tree show and build.
use Rattle.std.proofs.Common.{◌≡◌, ℕ, Bool, true, false, ◌&&◌, ◌||◌, not, nat_eq, Option, Some, None, Ok, Err, List, [], ◌∷◌, ◌++◌, map, refl, sym, ◌∙◌, ap, append_assoc, append-nil}
use Rattle.std.specs.List.{list_all, list_any, filter, flat_map}
use Rattle.std.specs.Option.{option_map}
use Rattle.std.proofs.lemmas.List.Folds.{list_all-append}
use Rattle.std.proofs.lemmas.Grind.{flat_map-append}
use lib.Pointwise.{pointwise}
use Rattle.adp_model.specs.WellFormed.{are_distinct}
use Rattle.adp_model.specs.WideForm.{WideForm}
use Rattle.job_texts.specs.LineTokens.{line_tokens}
use Rattle.job_texts.specs.TermText.{begins_number}
use Rattle.job_texts.specs.WideText as texts
use Rattle.job_texts.specs.WideText.{TermTree, Leaf, Join, OtherShape, WideFault, joined, leaf_words, leaves_are_declared, leaves_are_names, leaves_are_numbers, names_variable_twice, text_tree, tree_of, wide_of, wide_of_tree, wide_reading}
use Rattle.algebra_terms.specs.declared.lexer.Token as spans
use Rattle.algebra_terms.specs.declared.wide_steps.Operation.{Operation}
use Rattle.algebra_terms.specs.Tokens.{placed, said}
use Rattle.algebra_terms.specs.WideSteps.{Step, Leaf', Join', operation_in, operation_of, steps_of}
use Rattle.algebra_terms.specs.WideReading.{built_on, is_declared, is_leaf_of, is_named, is_numbered, repeats, top_of, wide_of_steps, word_of, words_of}
use Rattle.algebra_terms.proofs.Firsts.{same_text}
use Rattle.algebra_terms.proofs.Readings.{said_of_placed}

-- ---- leaves

and_true : (a b : Bool) → (a && b && true) ≡ (a && b)
and_true true true = refl
and_true true false = refl
and_true false b = refl

-- a test of the leaves alone
tests_leaves : (of_step : Step → Bool) (of_word : List ℕ → Bool) → ((word : List ℕ) → of_step (Leaf' word) ≡ of_word word) → ((operation : Operation) → of_step (Join' operation) ≡ true)
    → (tree : TermTree) → list_all of_step (steps_of tree) ≡ list_all of_word (leaf_words tree)
tests_leaves of_step of_word leaf join (Leaf word) = ap (λ (b : Bool). b && true) (leaf word)
tests_leaves of_step of_word leaf join (Join operation left right) =
    list_all-append of_step (steps_of left ++ steps_of right) (Join' (operation_in operation) ∷ [])
    ∙ rw (list_all-append of_step (steps_of left) (steps_of right), join (operation_in operation), tests_leaves of_step of_word leaf join left, tests_leaves of_step of_word leaf join right)
    (and_true (list_all of_word (leaf_words left)) (list_all of_word (leaf_words right)))
    ∙ sym (list_all-append of_word (leaf_words left) (leaf_words right))

words_are : (tree : TermTree) → words_of (steps_of tree) ≡ leaf_words tree
words_are (Leaf word) = refl
words_are (Join operation left right) =
    flat_map-append word_of (steps_of left ++ steps_of right) (Join' (operation_in operation) ∷ [])
    ∙ append-nil (flat_map word_of (steps_of left ++ steps_of right))
    ∙ flat_map-append word_of (steps_of left) (steps_of right)
    ∙ rw (words_are left, words_are right) refl

-- ---- variables that stand twice

abbrev is_variable : List ℕ → Bool
is_variable word = not (begins_number word)

abbrev variables_of : List Step → List (List ℕ)
variables_of steps = filter is_variable (words_of steps)

variable_first : (word : List ℕ) (words : List (List ℕ)) → begins_number word ≡ false → filter is_variable (word ∷ words) ≡ word ∷ filter is_variable words
variable_first word words h = rw h refl

number_first : (word : List ℕ) (words : List (List ℕ)) → begins_number word ≡ true → filter is_variable (word ∷ words) ≡ filter is_variable words
number_first word words h = rw h refl

other_word : (word other : List ℕ) → begins_number word ≡ false → begins_number other ≡ true → pointwise nat_eq word other ≡ false
other_word word other h h' = step (pointwise nat_eq word other) refl
  where
    step : (b : Bool) → pointwise nat_eq word other ≡ b → pointwise nat_eq word other ≡ false
    step true e = absurd (let same = ap begins_number (same_text word other e) in cc)
    step false e = e

any_leaf : (word : List ℕ) → begins_number word ≡ false → (steps : List Step) → list_any (is_leaf_of word) steps ≡ list_any (pointwise nat_eq word) (variables_of steps)
any_leaf word h [] = refl
any_leaf word h (Join' operation ∷ steps) = any_leaf word h steps
any_leaf word h (Leaf' other ∷ steps) = step (begins_number other) refl (any_leaf word h steps)
  where
    step : (b : Bool) → begins_number other ≡ b → list_any (is_leaf_of word) steps ≡ list_any (pointwise nat_eq word) (variables_of steps)
        → list_any (is_leaf_of word) (Leaf' other ∷ steps) ≡ list_any (pointwise nat_eq word) (variables_of (Leaf' other ∷ steps))
    step true e others = rw (number_first other (words_of steps) e, other_word word other h e) others
    step false e others = rw (variable_first other (words_of steps) e) (ap (λ (b : Bool). pointwise nat_eq word other || b) others)

or_not : (a b : Bool) → (a || not b) ≡ not (not a && b)
or_not true b = refl
or_not false b = refl

repeats_are : (steps : List Step) → repeats steps ≡ not (are_distinct (variables_of steps))
repeats_are [] = refl
repeats_are (Join' operation ∷ steps) = repeats_are steps
repeats_are (Leaf' word ∷ steps) = step (begins_number word) refl (repeats_are steps)
  where
    step : (b : Bool) → begins_number word ≡ b → repeats steps ≡ not (are_distinct (variables_of steps)) → repeats (Leaf' word ∷ steps) ≡ not (are_distinct (variables_of (Leaf' word ∷ steps)))
    step true e others = rw (number_first word (words_of steps) e, e) others
    step false e others =
        rw (variable_first word (words_of steps) e, e, any_leaf word e steps, others) (or_not (list_any (pointwise nat_eq word) (variables_of steps)) (are_distinct (variables_of steps)))

-- ---- terms

same_operation : (operation : texts.Operation) → operation_of (operation_in operation) ≡ operation
same_operation texts.Sum = refl
same_operation texts.Difference = refl
same_operation texts.Product = refl
same_operation texts.Greater = refl
same_operation texts.Lesser = refl

builds : (variables : List (List ℕ)) (tree : TermTree) (pile : List WideForm) (steps : List Step)
    → built_on variables pile (steps_of tree ++ steps) ≡ built_on variables (wide_of variables tree ∷ pile) steps
builds variables (Leaf word) pile steps = refl
builds variables (Join operation left right) pile steps =
    let join = Join' (operation_in operation) in
    ap (built_on variables pile) (append_assoc (steps_of left ++ steps_of right) (join ∷ []) steps ∙ append_assoc (steps_of left) (steps_of right) (join ∷ steps))
    ∙ builds variables left pile (steps_of right ++ (join ∷ steps))
    ∙ builds variables right (wide_of variables left ∷ pile) (join ∷ steps)
    ∙ ap (λ (same : texts.Operation). built_on variables (joined same (wide_of variables left) (wide_of variables right) ∷ pile) steps) (same_operation operation)

builds_alone : (variables : List (List ℕ)) (tree : TermTree) → top_of (built_on variables [] (steps_of tree)) ≡ Ok (wide_of variables tree)
builds_alone variables tree =
    ap (λ (steps : List Step). top_of (built_on variables [] steps)) (sym (append-nil (steps_of tree)))
    ∙ ap top_of (builds variables tree [] [])

-- the verdict on the steps of a tree is that on the tree
pub verdict_is : (variables : List (List ℕ)) (tree : TermTree) → wide_of_steps variables (steps_of tree) ≡ wide_of_tree variables tree
verdict_is variables tree =
    rw (
      tests_leaves is_named _ (λ word. refl) (λ operation. refl) tree,
      tests_leaves is_numbered _ (λ word. refl) (λ operation. refl) tree,
      tests_leaves (is_declared variables) _ (λ word. refl) (λ operation. refl) tree,
      repeats_are (steps_of tree),
      words_are tree,
      builds_alone variables tree,
    )
    refl

-- ---- texts

tree_is : (line : List ℕ) (tokens : List spans.Token) → line_tokens line ≡ Ok (map (placed line) tokens) → text_tree line ≡ tree_of (map (said line) tokens)
tree_is line tokens found = rw (found, said_of_placed) refl

no_tree : (tree : Option TermTree) → None ≡ option_map steps_of tree → tree ≡ None
no_tree None h = refl
no_tree (Some tree) h = absurd cc

pub a_tree : (steps : List Step) (found : Option TermTree) → Some steps ≡ option_map steps_of found → (tree : TermTree) × (found ≡ Some tree) × (steps ≡ steps_of tree)
a_tree steps None h = absurd cc
a_tree steps (Some tree) h = (tree, refl, cc)

pub not_read : (line : List ℕ) (variables : List (List ℕ)) (tokens : List spans.Token) → line_tokens line ≡ Ok (map (placed line) tokens)
    → None ≡ option_map steps_of (tree_of (map (said line) tokens))
    → wide_reading line variables ≡ Err OtherShape
not_read line variables tokens found none = rw (tree_is line tokens found ∙ no_tree (tree_of (map (said line) tokens)) none) refl

read_tree : (line : List ℕ) (variables : List (List ℕ)) (tree : TermTree) → text_tree line ≡ Some tree → wide_reading line variables ≡ wide_of_tree variables tree
read_tree line variables tree found = rw found refl

pub is_read : (line : List ℕ) (variables : List (List ℕ)) (tokens : List spans.Token) (steps : List Step) → line_tokens line ≡ Ok (map (placed line) tokens)
    → Some steps ≡ option_map steps_of (tree_of (map (said line) tokens)) → wide_reading line variables ≡ wide_of_steps variables steps
is_read line variables tokens steps found some =
    let tree = a_tree steps (tree_of (map (said line) tokens)) some in
    read_tree line variables tree.0 (tree_is line tokens found ∙ tree.1) ∙ sym (verdict_is variables tree.0) ∙ ap (wide_of_steps variables) (sym tree.2)
