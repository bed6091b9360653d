-- The canonical spelling of a wide term is read as that term.
use Rattle.std.proofs.Common.{codes, ◌≡◌, ◌≢◌, ℕ, zero, suc, ◌+◌, ◌^◌, ◌<◌, ◌≤◌, ℤ, pos, negsuc, int_le, Bool, true, false, ◌&&◌, ◌||◌, not, nat_eq, nat_le, Option, Some, Result, Ok, List, [], ◌∷◌, ◌++◌, length, map, refl, sym, ◌∙◌, ap, append_assoc, append-nil, add-zero, is_some, arith, unwrap_or}
use Rattle.std.specs.List.{list_all, list_any, filter, position}
use Rattle.std.specs.Option.{option_map}
use Rattle.std.specs.Fmt.{decimal, signed_decimal}
use Rattle.std.proofs.lemmas.List.Folds.{list_all-append}
use Rattle.std.proofs.lemmas.List.{length-map, map-append}
use lib.Pointwise.{pointwise}
use Rattle.adp_model.specs.declared.grammar.Kind.{Kind}
use Rattle.adp_model.specs.WideForm.{WideForm, Number, Value, Sum, Difference, Product, Greater, Lesser}
use Rattle.adp_model.specs.Terms.{leaves}
use Rattle.adp_model.specs.WellFormed.{are_distinct, has_no_value_twice, is_in_range, is_leaf, is_name, is_same_value, is_wide, is_word_byte, most_leaves}
use Rattle.job_texts.specs.Spelling.{part_text, variables, wide_text}
use Rattle.job_texts.specs.LineTokens.{Token, Word, OpenBracket, CloseBracket, Comma, Plus, Minus, Times, Offence, before_tokens, begins_word, is_one_of, mark_of, tokens_of}
use Rattle.job_texts.specs.TermText.{begins_number, is_among, number_among, number_of}
use Rattle.job_texts.specs.WideText as texts
use Rattle.job_texts.specs.WideText.{TermTree, Leaf, Join, leaf_words, tree_of, text_tree, wide_of, wide_of_tree, wide_reading}
use Rattle.algebra_terms.specs.declared.wide_steps.Open.{Open}
use Rattle.algebra_terms.specs.declared.wide_steps.Open.TheVariants as opens
use Rattle.algebra_terms.specs.declared.wide_steps.Next.TheVariants as next
use Rattle.algebra_terms.specs.WideSteps.{Step, Join', at_start, begins_bracket, behind_atom, operation_in, read_on, reading, steps_of}
use Rattle.algebra_terms.specs.WideReading.{wide_of_steps}
use Rattle.algebra_terms.proofs.Ranges.{both}
use Rattle.algebra_terms.proofs.Firsts.{first_no, first_yes, list_same}
use Rattle.algebra_terms.proofs.Spelled.{decimal_is_word, number_of_decimal, variable_word, variable_is_word, word_then}
use Rattle.algebra_terms.proofs.SpelledTerms.{among_variables, other_variable, variable_is_name}
use Rattle.algebra_terms.proofs.WideGrammar.{join_steps, reading_is_grammar}
use Rattle.algebra_terms.proofs.WideTrees.{a_tree, verdict_is}

-- ---- the tokens and the tree of a spelling

abbrev leaf_word : WideForm → List ℕ
leaf_word (Number number) = signed_decimal number
leaf_word (Value place) = variable_word (place + 1)
leaf_word other = []

abbrev pub tree_spelled : WideForm → TermTree
tree_spelled (Number number) = Leaf (signed_decimal number)
tree_spelled (Value place) = Leaf (variable_word (place + 1))
tree_spelled (Sum left right) = Join texts.Sum (tree_spelled left) (tree_spelled right)
tree_spelled (Difference left right) = Join texts.Difference (tree_spelled left) (tree_spelled right)
tree_spelled (Product left right) = Join texts.Product (tree_spelled left) (tree_spelled right)
tree_spelled (Greater left right) = Join texts.Greater (tree_spelled left) (tree_spelled right)
tree_spelled (Lesser left right) = Join texts.Lesser (tree_spelled left) (tree_spelled right)

-- two parts with a token between them, and a bracket behind
abbrev closed_pair : List Token → Token → List Token → List Token
closed_pair left mark right = left ++ (mark ∷ (right ++ (CloseBracket ∷ [])))

abbrev part_tokens : WideForm → List Token
part_tokens (Number number) = Word (signed_decimal number) ∷ []
part_tokens (Value place) = Word (variable_word (place + 1)) ∷ []
part_tokens (Sum left right) = OpenBracket ∷ closed_pair (part_tokens left) Plus (part_tokens right)
part_tokens (Difference left right) = OpenBracket ∷ closed_pair (part_tokens left) Minus (part_tokens right)
part_tokens (Product left right) = OpenBracket ∷ closed_pair (part_tokens left) Times (part_tokens right)
part_tokens (Greater left right) = Word (codes "max") ∷ OpenBracket ∷ closed_pair (part_tokens left) Comma (part_tokens right)
part_tokens (Lesser left right) = Word (codes "min") ∷ OpenBracket ∷ closed_pair (part_tokens left) Comma (part_tokens right)

abbrev root_tokens : WideForm → List Token
root_tokens (Sum left right) = part_tokens left ++ (Plus ∷ part_tokens right)
root_tokens (Difference left right) = part_tokens left ++ (Minus ∷ part_tokens right)
root_tokens (Product left right) = part_tokens left ++ (Times ∷ part_tokens right)
root_tokens term = part_tokens term

-- ---- leaves that fit

module _ (count : ℕ) where
  abbrev HasLeaves : WideForm → Type 0
  HasLeaves term = list_all (is_leaf count) (leaves term) ≡ true

  sides : (left right : WideForm) → list_all (is_leaf count) (leaves left ++ leaves right) ≡ true → HasLeaves left × HasLeaves right
  sides left right h =
      let split = both (list_all (is_leaf count) (leaves left)) (list_all (is_leaf count) (leaves right)) (sym (list_all-append (is_leaf count) (leaves left) (leaves right)) ∙ h) in
      (split.0, split.1)

  leaf_alone : (leaf : WideForm) → (is_leaf count leaf && true) ≡ true → is_leaf count leaf ≡ true
  leaf_alone leaf h = (both (is_leaf count leaf) true h).0

  number_fits : (n : ℕ) → is_leaf count (Number (pos n)) ≡ true → n < 2 ^ 62
  number_fits n h = let range = (both (int_le (pos 0) (pos n)) (is_in_range (pos n)) h).1 in grind (arith, range)

  place_fits : (place : ℕ) → is_leaf count (Value place) ≡ true → place < count
  place_fits place h = grind (arith, h)

-- ---- reading the tokens

sum_is_atom : (term : WideForm) (open' : List Open) (steps : List Step) (tokens : List Token)
    → read_on (reading next.Sum open' steps) (part_tokens term ++ tokens) ≡ read_on (reading next.Atom open' steps) (part_tokens term ++ tokens)
sum_is_atom (Number number) open' steps tokens = refl
sum_is_atom (Value place) open' steps tokens = refl
sum_is_atom (Sum left right) open' steps tokens = refl
sum_is_atom (Difference left right) open' steps tokens = refl
sum_is_atom (Product left right) open' steps tokens = refl
sum_is_atom (Greater left right) open' steps tokens = refl
sum_is_atom (Lesser left right) open' steps tokens = refl

-- a part is read as the steps of its tree
abbrev IsReadAs : WideForm → Type 0
IsReadAs term =
    (open' : List Open) (steps : List Step) (tokens : List Token) → begins_bracket tokens ≡ false
    → read_on (reading next.Atom open' steps) (part_tokens term ++ tokens) ≡ read_on (behind_atom open' (steps ++ steps_of (tree_spelled term))) tokens

leaf_is_read : (word : List ℕ) (open' : List Open) (steps : List Step) (tokens : List Token) → begins_bracket tokens ≡ false
    → read_on (reading next.Atom open' steps) (Word word ∷ tokens) ≡ read_on (behind_atom open' (steps ++ steps_of (Leaf word))) tokens
leaf_is_read word open' steps tokens ends = rw ends refl

regroup : (left right tokens : List Token) (mark : Token) → closed_pair left mark right ++ tokens ≡ left ++ (mark ∷ (right ++ (CloseBracket ∷ tokens)))
regroup left right tokens mark = simp append_assoc

sum_side : (term : WideForm) → IsReadAs term → (open' : List Open) (steps : List Step) (tokens : List Token) → begins_bracket tokens ≡ false
    → read_on (reading next.Sum open' steps) (part_tokens term ++ tokens) ≡ read_on (behind_atom open' (steps ++ steps_of (tree_spelled term))) tokens
sum_side term reads open' steps tokens ends = sum_is_atom term open' steps tokens ∙ reads open' steps tokens ends

-- an operation in brackets
operation_is_read : (left right : WideForm) (mark : Token) (waits : Open) (operation : texts.Operation) (open' : List Open) (steps : List Step) (tokens : List Token) → IsReadAs left → IsReadAs right
    → ((all : List Step) (behind : List Token) → read_on (reading next.Behind (opens.Bracket ∷ open') all) (mark ∷ behind) ≡ read_on (reading next.Atom (waits ∷ opens.Bracket ∷ open') all) behind)
    → begins_bracket (mark ∷ []) ≡ false → ((behind : List Token) → begins_bracket (mark ∷ behind) ≡ begins_bracket (mark ∷ []))
    → ((all : List Step) → read_on (behind_atom (waits ∷ opens.Bracket ∷ open') all) (CloseBracket ∷ tokens) ≡ read_on (behind_atom open' (all ++ Join' (operation_in operation) ∷ [])) tokens)
    → read_on (reading next.Sum (opens.Bracket ∷ open') steps) (closed_pair (part_tokens left) mark (part_tokens right) ++ tokens)
    ≡ read_on (behind_atom open' (steps ++ steps_of (Join operation (tree_spelled left) (tree_spelled right)))) tokens
operation_is_read left right mark waits operation open' steps tokens reads_left reads_right opens_it no_bracket same closes =
    ap (read_on (reading next.Sum (opens.Bracket ∷ open') steps)) (regroup (part_tokens left) (part_tokens right) tokens mark)
    ∙ sum_side left reads_left (opens.Bracket ∷ open') steps (mark ∷ (part_tokens right ++ (CloseBracket ∷ tokens))) (same _ ∙ no_bracket)
    ∙ opens_it (steps ++ steps_of (tree_spelled left)) (part_tokens right ++ (CloseBracket ∷ tokens))
    ∙ reads_right (waits ∷ opens.Bracket ∷ open') (steps ++ steps_of (tree_spelled left)) (CloseBracket ∷ tokens) refl
    ∙ closes ((steps ++ steps_of (tree_spelled left)) ++ steps_of (tree_spelled right))
    ∙ ap (λ (all : List Step). read_on (behind_atom open' all) tokens) (join_steps steps (steps_of (tree_spelled left)) (steps_of (tree_spelled right)) (Join' (operation_in operation) ∷ []))

function_is_read : (left right : WideForm) (operation : texts.Operation) (open' : List Open) (steps : List Step) (tokens : List Token) → IsReadAs left → IsReadAs right
    → read_on (reading next.Sum (opens.First (operation_in operation) ∷ open') steps) (closed_pair (part_tokens left) Comma (part_tokens right) ++ tokens)
    ≡ read_on (behind_atom open' (steps ++ steps_of (Join operation (tree_spelled left) (tree_spelled right)))) tokens
function_is_read left right operation open' steps tokens reads_left reads_right =
    ap (read_on (reading next.Sum (opens.First (operation_in operation) ∷ open') steps)) (regroup (part_tokens left) (part_tokens right) tokens Comma)
    ∙ sum_side left reads_left (opens.First (operation_in operation) ∷ open') steps (Comma ∷ (part_tokens right ++ (CloseBracket ∷ tokens))) refl
    ∙ sum_side right reads_right (opens.Second (operation_in operation) ∷ open') (steps ++ steps_of (tree_spelled left)) (CloseBracket ∷ tokens) refl
    ∙ ap (λ (all : List Step). read_on (behind_atom open' all) tokens) (join_steps steps (steps_of (tree_spelled left)) (steps_of (tree_spelled right)) (Join' (operation_in operation) ∷ []))

part_is_read : (term : WideForm) → IsReadAs term
part_is_read (Number number) open' steps tokens ends = leaf_is_read (signed_decimal number) open' steps tokens ends
part_is_read (Value place) open' steps tokens ends = leaf_is_read (variable_word (place + 1)) open' steps tokens ends
part_is_read (Sum left right) open' steps tokens ends =
    operation_is_read left right Plus opens.Plus texts.Sum open' steps tokens (part_is_read left) (part_is_read right) (λ all behind. refl) refl (λ behind. refl) (λ all. refl)
part_is_read (Difference left right) open' steps tokens ends =
    operation_is_read left right Minus opens.Minus texts.Difference open' steps tokens (part_is_read left) (part_is_read right) (λ all behind. refl) refl (λ behind. refl) (λ all. refl)
part_is_read (Product left right) open' steps tokens ends =
    operation_is_read left right Times opens.Times texts.Product open' steps tokens (part_is_read left) (part_is_read right) (λ all behind. refl) refl (λ behind. refl) (λ all. refl)
part_is_read (Greater left right) open' steps tokens ends = function_is_read left right texts.Greater open' steps tokens (part_is_read left) (part_is_read right)
part_is_read (Lesser left right) open' steps tokens ends = function_is_read left right texts.Lesser open' steps tokens (part_is_read left) (part_is_read right)

-- an operation at the root
root_operation : (left right : WideForm) (mark : Token) (waits : Open) (operation : texts.Operation)
    → ((all : List Step) (behind : List Token) → read_on (reading next.Behind [] all) (mark ∷ behind) ≡ read_on (reading next.Atom (waits ∷ []) all) behind)
    → ((behind : List Token) → begins_bracket (mark ∷ behind) ≡ false)
    → ((all : List Step) → read_on (behind_atom (waits ∷ []) all) [] ≡ Some (all ++ Join' (operation_in operation) ∷ []))
    → read_on at_start (part_tokens left ++ (mark ∷ part_tokens right)) ≡ Some (steps_of (Join operation (tree_spelled left) (tree_spelled right)))
root_operation left right mark waits operation opens_it no_bracket ends =
    sum_side left (part_is_read left) [] [] (mark ∷ part_tokens right) (no_bracket (part_tokens right))
    ∙ opens_it (steps_of (tree_spelled left)) (part_tokens right)
    ∙ ap (read_on (reading next.Atom (waits ∷ []) (steps_of (tree_spelled left)))) (sym (append-nil (part_tokens right)))
    ∙ part_is_read right (waits ∷ []) (steps_of (tree_spelled left)) [] refl
    ∙ ends (steps_of (tree_spelled left) ++ steps_of (tree_spelled right))

root_part : (term : WideForm) → read_on at_start (part_tokens term) ≡ Some (steps_of (tree_spelled term))
root_part term = ap (read_on at_start) (sym (append-nil (part_tokens term))) ∙ sum_side term (part_is_read term) [] [] [] refl

root_is_read : (term : WideForm) → read_on at_start (root_tokens term) ≡ Some (steps_of (tree_spelled term))
root_is_read (Sum left right) = root_operation left right Plus opens.Plus texts.Sum (λ all behind. refl) (λ behind. refl) (λ all. refl)
root_is_read (Difference left right) = root_operation left right Minus opens.Minus texts.Difference (λ all behind. refl) (λ behind. refl) (λ all. refl)
root_is_read (Product left right) = root_operation left right Times opens.Times texts.Product (λ all behind. refl) (λ behind. refl) (λ all. refl)
root_is_read (Number number) = root_part (Number number)
root_is_read (Value place) = root_part (Value place)
root_is_read (Greater left right) = root_part (Greater left right)
root_is_read (Lesser left right) = root_part (Lesser left right)

-- ---- the term of the tree

words_of_sides : (left right : WideForm) → leaf_words (tree_spelled left) ≡ map leaf_word (leaves left) → leaf_words (tree_spelled right) ≡ map leaf_word (leaves right)
    → leaf_words (tree_spelled left) ++ leaf_words (tree_spelled right) ≡ map leaf_word (leaves left ++ leaves right)
words_of_sides left right l r = rw (l, r) (sym (map-append leaf_word (leaves left) (leaves right)))

words_of_leaves : (term : WideForm) → leaf_words (tree_spelled term) ≡ map leaf_word (leaves term)
words_of_leaves (Number number) = refl
words_of_leaves (Value place) = refl
words_of_leaves (Sum left right) = words_of_sides left right (words_of_leaves left) (words_of_leaves right)
words_of_leaves (Difference left right) = words_of_sides left right (words_of_leaves left) (words_of_leaves right)
words_of_leaves (Product left right) = words_of_sides left right (words_of_leaves left) (words_of_leaves right)
words_of_leaves (Greater left right) = words_of_sides left right (words_of_leaves left) (words_of_leaves right)
words_of_leaves (Lesser left right) = words_of_sides left right (words_of_leaves left) (words_of_leaves right)

-- a test that holds of numbers in range and of the variables
module _ (count : ℕ) (test : List ℕ → Bool) (numbers : (n : ℕ) → n < 2 ^ 62 → test (decimal n) ≡ true) (places : (place : ℕ) → place < count → test (variable_word (place + 1)) ≡ true) where
  word_passes : (leaf : WideForm) → is_leaf count leaf ≡ true → test (leaf_word leaf) ≡ true
  word_passes (Number (pos n)) h = numbers n (number_fits count n h)
  word_passes (Number (negsuc n)) h = absurd cc
  word_passes (Value place) h = places place (place_fits count place h)
  word_passes leaf h = absurd cc

  words_pass : (all : List WideForm) → list_all (is_leaf count) all ≡ true → list_all test (map leaf_word all) ≡ true
  words_pass [] h = refl
  words_pass (leaf ∷ all) h =
      let split = both (is_leaf count leaf) (list_all (is_leaf count) all) h in
      rw (word_passes leaf split.0, words_pass all split.1) refl

-- variables stand twice where values do
abbrev is_variable : List ℕ → Bool
is_variable word = not (begins_number word)

number_word : (n : ℕ) → n < 2 ^ 62 → begins_number (decimal n) ≡ true
number_word n small = (decimal_is_word n (omega arith)).begins

same_value : (place other : ℕ) → place < 2 ^ 62 → other < 2 ^ 62 → pointwise nat_eq (variable_word (place + 1)) (variable_word (other + 1)) ≡ nat_eq place other
same_value place other small small' = step (nat_eq place other) refl
  where
    step : (b : Bool) → nat_eq place other ≡ b → pointwise nat_eq (variable_word (place + 1)) (variable_word (other + 1)) ≡ nat_eq place other
    step true e = let is : place ≡ other = grind (arith, e) in rw (is, list_same (variable_word (other + 1))) (let same : nat_eq other other ≡ true = grind arith in sym same)
    step false e = let differ : place + 1 ≢ other + 1 = (λ same. let is : place ≡ other = omega (arith, same) in absurd (let no : nat_eq place other ≡ true = grind (arith, is) in cc)) in
        other_variable (place + 1) (other + 1) (omega arith) (omega arith) differ ∙ sym e

module _ (count : ℕ) (few : count < 2 ^ 62) where
  same_values : (place : ℕ) → place < count → (all : List WideForm) → list_all (is_leaf count) all ≡ true
      → list_any (pointwise nat_eq (variable_word (place + 1))) (filter is_variable (map leaf_word all)) ≡ list_any (is_same_value (Value place)) all
  same_values place inside [] h = refl
  same_values place inside (Number (pos n) ∷ all) h =
      let split = both (is_leaf count (Number (pos n))) (list_all (is_leaf count) all) h in
      rw (number_word n (number_fits count n split.0)) (same_values place inside all split.1)
  same_values place inside (Number (negsuc n) ∷ all) h = absurd cc
  same_values place inside (Value other ∷ all) h =
      let split = both (is_leaf count (Value other)) (list_all (is_leaf count) all) h in
      let known = place_fits count other split.0 in
      rw (same_value place other (omega arith) (omega arith), same_values place inside all split.1) refl
  same_values place inside (leaf ∷ all) h = absurd cc

  no_number_twice : (number : ℤ) (all : List WideForm) → list_any (is_same_value (Number number)) all ≡ false
  no_number_twice number [] = refl
  no_number_twice number (leaf ∷ all) = no_number_twice number all

  distinct_values : (all : List WideForm) → list_all (is_leaf count) all ≡ true → are_distinct (filter is_variable (map leaf_word all)) ≡ has_no_value_twice all
  distinct_values [] h = refl
  distinct_values (Number (pos n) ∷ all) h =
      let split = both (is_leaf count (Number (pos n))) (list_all (is_leaf count) all) h in
      rw (number_word n (number_fits count n split.0), no_number_twice (pos n) all) (distinct_values all split.1)
  distinct_values (Number (negsuc n) ∷ all) h = absurd cc
  distinct_values (Value place ∷ all) h =
      let split = both (is_leaf count (Value place)) (list_all (is_leaf count) all) h in
      rw (same_values place (place_fits count place split.0) all split.1, distinct_values all split.1) refl
  distinct_values (leaf ∷ all) h = absurd cc

-- the place of a variable among the variables
place_of : (number : ℕ) (kinds : List Kind) (place : ℕ) → place < length kinds → number + length kinds < 2 ^ 62
    → position (pointwise nat_eq (variable_word (number + place))) (variables number kinds) ≡ Some place
place_of number [] place inside few = absurd (omega arith)
place_of number (kind ∷ kinds) zero inside few =
    first_yes (pointwise nat_eq (variable_word (number + 0))) (variable_word number) (variables (number + 1) kinds) (rw add-zero (list_same (variable_word number)))
place_of number (kind ∷ kinds) (suc place) inside few =
    let differ : pointwise nat_eq (variable_word (number + suc place)) (variable_word number) ≡ false =
    other_variable (number + suc place) number (omega arith) (omega arith) (λ same. omega (arith, same)) in
    let others = place_of (number + 1) kinds place (omega arith) (omega arith) in
    let shifted : number + suc place ≡ (number + 1) + place = omega arith in
    let behind : position (pointwise nat_eq (variable_word (number + suc place))) (variables (number + 1) kinds) ≡ Some place =
    ap (λ (n : ℕ). position (pointwise nat_eq (variable_word n)) (variables (number + 1) kinds)) shifted ∙ others in
    first_no (pointwise nat_eq (variable_word (number + suc place))) (variable_word number) (variables (number + 1) kinds) differ ∙ ap (option_map (λ n. suc n)) behind

term_is : (kinds : List Kind) (term : WideForm) → length kinds < 2 ^ 61 → list_all (is_leaf (length kinds)) (leaves term) ≡ true → wide_of (variables 1 kinds) (tree_spelled term) ≡ term
term_is kinds (Number (pos n)) few h =
    let small = number_fits (length kinds) n (leaf_alone (length kinds) (Number (pos n)) h) in
    rw (number_word n small, number_of_decimal n small) refl
term_is kinds (Number (negsuc n)) few h = absurd cc
term_is kinds (Value place) few h =
    let inside = place_fits (length kinds) place (leaf_alone (length kinds) (Value place) h) in
    let shifted : place + 1 ≡ 1 + place = omega arith in
    let found : number_among (variables 1 kinds) (variable_word (place + 1)) ≡ place =
    ap (λ (n : ℕ). number_among (variables 1 kinds) (variable_word n)) shifted ∙ ap (λ (n : Option ℕ). unwrap_or n 0) (place_of 1 kinds place inside (omega arith)) in
    ap Value found
term_is kinds (Sum left right) few h = let fits = sides (length kinds) left right h in rw (term_is kinds left few fits.0, term_is kinds right few fits.1) refl
term_is kinds (Difference left right) few h = let fits = sides (length kinds) left right h in rw (term_is kinds left few fits.0, term_is kinds right few fits.1) refl
term_is kinds (Product left right) few h = let fits = sides (length kinds) left right h in rw (term_is kinds left few fits.0, term_is kinds right few fits.1) refl
term_is kinds (Greater left right) few h = let fits = sides (length kinds) left right h in rw (term_is kinds left few fits.0, term_is kinds right few fits.1) refl
term_is kinds (Lesser left right) few h = let fits = sides (length kinds) left right h in rw (term_is kinds left few fits.0, term_is kinds right few fits.1) refl

tree_verdict : (kinds : List Kind) (term : WideForm) → length kinds ≤ 4 → is_wide (length kinds) term ≡ true → wide_of_tree (variables 1 kinds) (tree_spelled term) ≡ Ok term
tree_verdict kinds term few h =
    let count = length kinds in
    let parts = both (nat_le (length (leaves term)) most_leaves && list_all (is_leaf count) (leaves term)) (has_no_value_twice (leaves term)) h in
    let fits = both (nat_le (length (leaves term)) most_leaves) (list_all (is_leaf count) (leaves term)) parts.0 in
    let words = words_of_leaves term in
    let names = words_pass count (λ word. begins_number word || is_name word) (λ n small. rw (number_word n small) refl)
    (λ place inside. rw (variable_is_name (place + 1) (omega arith)) refl) (leaves term) fits.1 in
    let numbers = words_pass count (λ word. not (begins_number word) || is_some (number_of word)) (λ n small. rw (number_word n small, number_of_decimal n small) refl)
    (λ place inside. refl) (leaves term) fits.1 in
    let declared = words_pass count (λ word. begins_number word || is_among (variables 1 kinds) word) (λ n small. rw (number_word n small) refl)
    (λ place inside. among_variables 1 kinds (place + 1) (omega arith) (omega arith)) (leaves term) fits.1 in
    let once : are_distinct (filter is_variable (map leaf_word (leaves term))) ≡ true = distinct_values count (omega arith) (leaves term) fits.1 ∙ parts.1 in
    let size : length (map leaf_word (leaves term)) ≡ length (leaves term) = length-map (leaves term) leaf_word in
    rw (words, names, numbers, declared, size, fits.0, once, term_is kinds term (omega arith) fits.1) refl

-- ---- the tokens of the text

abbrev before_all : List Token → Result (List Token) Offence → Result (List Token) Offence
before_all [] rest = rest
before_all (token ∷ tokens) rest = before_tokens token (before_all tokens rest)

before_both : (front back : List Token) (rest : Result (List Token) Offence) → before_all (front ++ back) rest ≡ before_all front (before_all back rest)
before_both [] back rest = refl
before_both (token ∷ front) back rest = ap (before_tokens token) (before_both front back rest)

before_nothing : (tokens : List Token) → before_all tokens (Ok []) ≡ Ok tokens
before_nothing [] = refl
before_nothing (token ∷ tokens) = ap (before_tokens token) (before_nothing tokens)

module _
    (words : (first : ℕ) (others text : List ℕ) → list_all is_word_byte (first ∷ others) ≡ true → begins_word text ≡ false
    → tokens_of ((first ∷ others) ++ text) ≡ before_tokens (Word (first ∷ others)) (tokens_of text))
    (marks : (byte : ℕ) (mark : Token) (text : List ℕ) → mark_of byte ≡ Some mark → tokens_of (byte ∷ text) ≡ before_tokens mark (tokens_of text))
    (spaces : (byte : ℕ) (text : List ℕ) → is_one_of (codes " ") byte ≡ true → tokens_of (byte ∷ text) ≡ tokens_of text)
    (count : ℕ) (few : count < 2 ^ 61)
  where
    abbrev HasTokens : WideForm → Type 0
    HasTokens term = (text : List ℕ) → begins_word text ≡ false → tokens_of (part_text term ++ text) ≡ before_all (part_tokens term) (tokens_of text)

    regrouped : (left right : WideForm) (mark text : List ℕ) → ((((codes "(" ++ part_text left) ++ mark) ++ part_text right) ++ codes ")") ++ text
        ≡ 40 ∷ (part_text left ++ (mark ++ (part_text right ++ (41 ∷ text))))
    regrouped left right mark text = simp append_assoc

    regrouped_function : (left right : WideForm) (name text : List ℕ)
        → ((((name ++ part_text left) ++ codes ", ") ++ part_text right) ++ codes ")") ++ text ≡ name ++ (part_text left ++ (44 ∷ 32 ∷ (part_text right ++ (41 ∷ text))))
    regrouped_function left right name text = simp append_assoc

    -- two parts with a mark between spaces, and what follows
    between : (left right : WideForm) (byte : ℕ) (mark : Token) (text : List ℕ) → mark_of byte ≡ Some mark → HasTokens left → HasTokens right → begins_word text ≡ false
        → tokens_of (part_text left ++ (32 ∷ byte ∷ 32 ∷ (part_text right ++ text))) ≡ before_all (part_tokens left) (before_tokens mark (before_all (part_tokens right) (tokens_of text)))
    between left right byte mark text is left_has right_has ends =
        left_has (32 ∷ byte ∷ 32 ∷ (part_text right ++ text)) refl
        ∙ ap (before_all (part_tokens left))
        (spaces 32 (byte ∷ 32 ∷ (part_text right ++ text)) refl ∙ marks byte mark (32 ∷ (part_text right ++ text)) is
        ∙ ap (before_tokens mark) (spaces 32 (part_text right ++ text) refl ∙ right_has text ends))

    -- two parts with a comma between, and what follows
    apart : (left right : WideForm) (text : List ℕ) → HasTokens left → HasTokens right → begins_word text ≡ false
        → tokens_of (part_text left ++ (44 ∷ 32 ∷ (part_text right ++ text))) ≡ before_all (part_tokens left) (before_tokens Comma (before_all (part_tokens right) (tokens_of text)))
    apart left right text left_has right_has ends =
        left_has (44 ∷ 32 ∷ (part_text right ++ text)) refl
        ∙ ap (before_all (part_tokens left))
        (marks 44 Comma (32 ∷ (part_text right ++ text)) refl
        ∙ ap (before_tokens Comma) (spaces 32 (part_text right ++ text) refl ∙ right_has text ends))

    pair_tokens : (left right : List Token) (mark : Token) (rest : Result (List Token) Offence)
        → before_all left (before_tokens mark (before_all right (before_tokens CloseBracket rest))) ≡ before_all (closed_pair left mark right) rest
    pair_tokens left right mark rest = sym (before_both left (mark ∷ (right ++ (CloseBracket ∷ []))) rest
        ∙ ap (λ (behind : Result (List Token) Offence). before_all left (before_tokens mark behind)) (before_both right (CloseBracket ∷ []) rest))

    in_brackets : (left right : WideForm) (byte : ℕ) (mark : Token) (text : List ℕ) → mark_of byte ≡ Some mark → HasTokens left → HasTokens right
        → tokens_of (40 ∷ (part_text left ++ (32 ∷ byte ∷ 32 ∷ (part_text right ++ (41 ∷ text))))) ≡ before_all (OpenBracket ∷ closed_pair (part_tokens left) mark (part_tokens right)) (tokens_of text)
    in_brackets left right byte mark text is left_has right_has =
        marks 40 OpenBracket (part_text left ++ (32 ∷ byte ∷ 32 ∷ (part_text right ++ (41 ∷ text)))) refl
        ∙ ap (before_tokens OpenBracket)
        (between left right byte mark (41 ∷ text) is left_has right_has refl
        ∙ ap (λ (behind : Result (List Token) Offence). before_all (part_tokens left) (before_tokens mark (before_all (part_tokens right) behind))) (marks 41 CloseBracket text refl)
        ∙ pair_tokens (part_tokens left) (part_tokens right) mark (tokens_of text))

    of_function : (left right : WideForm) (first : ℕ) (others text : List ℕ) → list_all is_word_byte (first ∷ others) ≡ true → HasTokens left → HasTokens right
        → tokens_of ((first ∷ others) ++ (40 ∷ (part_text left ++ (44 ∷ 32 ∷ (part_text right ++ (41 ∷ text))))))
        ≡ before_all (Word (first ∷ others) ∷ OpenBracket ∷ closed_pair (part_tokens left) Comma (part_tokens right)) (tokens_of text)
    of_function left right first others text is left_has right_has =
        words first others (40 ∷ (part_text left ++ (44 ∷ 32 ∷ (part_text right ++ (41 ∷ text))))) is refl
        ∙ ap (before_tokens (Word (first ∷ others)))
        (marks 40 OpenBracket (part_text left ++ (44 ∷ 32 ∷ (part_text right ++ (41 ∷ text)))) refl
        ∙ ap (before_tokens OpenBracket)
        (apart left right (41 ∷ text) left_has right_has refl
        ∙ ap (λ (behind : Result (List Token) Offence). before_all (part_tokens left) (before_tokens Comma (before_all (part_tokens right) behind))) (marks 41 CloseBracket text refl)
        ∙ pair_tokens (part_tokens left) (part_tokens right) Comma (tokens_of text)))

    part_has_tokens : (term : WideForm) → list_all (is_leaf count) (leaves term) ≡ true → HasTokens term
    part_has_tokens (Number (pos n)) h text ends =
        let word = decimal_is_word n (let small = number_fits count n (leaf_alone count (Number (pos n)) h) in omega arith) in
        word_then words marks spaces (decimal n) text word.nonempty word.in_word ends
    part_has_tokens (Number (negsuc n)) h text ends = absurd cc
    part_has_tokens (Value place) h text ends =
        let inside = place_fits count place (leaf_alone count (Value place) h) in
        word_then words marks spaces (variable_word (place + 1)) text (omega arith) (variable_is_word (place + 1) (omega arith)).0 ends
    part_has_tokens (Sum left right) h text ends = let fits = sides count left right h in
        ap tokens_of (regrouped left right (codes " + ") text) ∙ (in_brackets left right 43 Plus text refl (part_has_tokens left fits.0) (part_has_tokens right fits.1))
    part_has_tokens (Difference left right) h text ends = let fits = sides count left right h in
        ap tokens_of (regrouped left right (codes " - ") text) ∙ (in_brackets left right 45 Minus text refl (part_has_tokens left fits.0) (part_has_tokens right fits.1))
    part_has_tokens (Product left right) h text ends = let fits = sides count left right h in
        ap tokens_of (regrouped left right (codes " * ") text) ∙ (in_brackets left right 42 Times text refl (part_has_tokens left fits.0) (part_has_tokens right fits.1))
    part_has_tokens (Greater left right) h text ends = let fits = sides count left right h in
        ap tokens_of (regrouped_function left right (codes "max(") text) ∙ (of_function left right 109 (97 ∷ 120 ∷ []) text refl (part_has_tokens left fits.0) (part_has_tokens right fits.1))
    part_has_tokens (Lesser left right) h text ends = let fits = sides count left right h in
        ap tokens_of (regrouped_function left right (codes "min(") text) ∙ (of_function left right 109 (105 ∷ 110 ∷ []) text refl (part_has_tokens left fits.0) (part_has_tokens right fits.1))

    root_between : (left right : WideForm) (byte : ℕ) (mark : Token) → mark_of byte ≡ Some mark → HasTokens left → HasTokens right
        → tokens_of ((part_text left ++ (32 ∷ byte ∷ 32 ∷ [])) ++ part_text right) ≡ Ok (part_tokens left ++ (mark ∷ part_tokens right))
    root_between left right byte mark is left_has right_has =
        let regroup : (part_text left ++ (32 ∷ byte ∷ 32 ∷ [])) ++ part_text right ≡ part_text left ++ (32 ∷ byte ∷ 32 ∷ (part_text right ++ [])) =
        append_assoc (part_text left) (32 ∷ byte ∷ 32 ∷ []) (part_text right) ∙ ap (λ (behind : List ℕ). part_text left ++ (32 ∷ byte ∷ 32 ∷ behind)) (sym (append-nil (part_text right))) in
        ap tokens_of regroup ∙ between left right byte mark [] is left_has right_has refl
        ∙ sym (before_both (part_tokens left) (mark ∷ part_tokens right) (Ok [])) ∙ before_nothing (part_tokens left ++ (mark ∷ part_tokens right))

    root_alone : (term : WideForm) → HasTokens term → tokens_of (part_text term) ≡ Ok (part_tokens term)
    root_alone term has = ap tokens_of (sym (append-nil (part_text term))) ∙ has [] refl ∙ before_nothing (part_tokens term)

    root_has_tokens : (term : WideForm) → list_all (is_leaf count) (leaves term) ≡ true → tokens_of (wide_text term) ≡ Ok (root_tokens term)
    root_has_tokens (Sum left right) h = let fits = sides count left right h in root_between left right 43 Plus refl (part_has_tokens left fits.0) (part_has_tokens right fits.1)
    root_has_tokens (Difference left right) h = let fits = sides count left right h in root_between left right 45 Minus refl (part_has_tokens left fits.0) (part_has_tokens right fits.1)
    root_has_tokens (Product left right) h = let fits = sides count left right h in root_between left right 42 Times refl (part_has_tokens left fits.0) (part_has_tokens right fits.1)
    root_has_tokens (Number number) h = root_alone (Number number) (part_has_tokens (Number number) h)
    root_has_tokens (Value place) h = root_alone (Value place) (part_has_tokens (Value place) h)
    root_has_tokens (Greater left right) h = root_alone (Greater left right) (part_has_tokens (Greater left right) h)
    root_has_tokens (Lesser left right) h = root_alone (Lesser left right) (part_has_tokens (Lesser left right) h)

    text_has_tree : (term : WideForm) → list_all (is_leaf count) (leaves term) ≡ true → text_tree (wide_text term) ≡ tree_of (root_tokens term)
    text_has_tree term h = rw (root_has_tokens term h) refl

read_as : (text : List ℕ) (variables : List (List ℕ)) (tree : TermTree) → text_tree text ≡ Some tree → wide_reading text variables ≡ wide_of_tree variables tree
read_as text variables tree found = rw found refl

module _
    (words : (first : ℕ) (others text : List ℕ) → list_all is_word_byte (first ∷ others) ≡ true → begins_word text ≡ false
    → tokens_of ((first ∷ others) ++ text) ≡ before_tokens (Word (first ∷ others)) (tokens_of text))
    (marks : (byte : ℕ) (mark : Token) (text : List ℕ) → mark_of byte ≡ Some mark → tokens_of (byte ∷ text) ≡ before_tokens mark (tokens_of text))
    (spaces : (byte : ℕ) (text : List ℕ) → is_one_of (codes " ") byte ≡ true → tokens_of (byte ∷ text) ≡ tokens_of text)
  where
    -- a wide term is read from its spelling
    pub wide_is_read : (kinds : List Kind) (term : WideForm) → length kinds ≤ 4 → is_wide (length kinds) term ≡ true → wide_reading (wide_text term) (variables 1 kinds) ≡ Ok term
    wide_is_read kinds term few h =
        let count = length kinds in
        let parts = both (nat_le (length (leaves term)) most_leaves && list_all (is_leaf count) (leaves term)) (has_no_value_twice (leaves term)) h in
        let fits = both (nat_le (length (leaves term)) most_leaves) (list_all (is_leaf count) (leaves term)) parts.0 in
        let tree = a_tree (steps_of (tree_spelled term)) (tree_of (root_tokens term)) (sym (root_is_read term) ∙ reading_is_grammar (root_tokens term)) in
        read_as (wide_text term) (variables 1 kinds) tree.0 (text_has_tree words marks spaces count (omega arith) term fits.1 ∙ tree.1)
        ∙ sym (verdict_is (variables 1 kinds) tree.0) ∙ ap (wide_of_steps (variables 1 kinds)) (sym tree.2) ∙ verdict_is (variables 1 kinds) (tree_spelled term)
        ∙ tree_verdict kinds term few h
