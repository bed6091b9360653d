-- A wide term that a tree without fault spells is one for its variables.
use Rattle.std.proofs.Common.{◌≡◌, ℕ, ◌^◌, ℤ, pos, int_le, Bool, true, false, ◌||◌, not, nat_eq, nat_lt, nat_le, Option, Some, None, IfSome, is_some, unwrap_or, List, [], ◌∷◌, ◌++◌, length, map, get_or, refl, sym, ◌∙◌, ap, arith}
use Rattle.std.specs.List.{list_all, list_any, filter, position}
use Rattle.std.proofs.lemmas.Bool.{and_parts, and_from, lt-ltb}
use Rattle.std.proofs.lemmas.List.{length-map, map-append}
use Rattle.std.proofs.lemmas.List.Quantifiers.{position-Some}
use lib.Pointwise.{pointwise}
use Rattle.adp_model.specs.WideForm.{WideForm, Number, Value}
use Rattle.adp_model.specs.Terms.{leaves}
use Rattle.adp_model.specs.WellFormed.{are_distinct, has_no_value_twice, is_in_range, is_leaf, is_same_value, is_wide, most_leaves}
use Rattle.job_texts.specs.TermText.{begins_number, is_among, number_among, number_of}
use Rattle.job_texts.specs.WideText.{Operation, Sum, Difference, Product, Greater, Lesser, TermTree, Leaf, Join, joined, leaf_count, leaf_words, leaves_are_declared, leaves_are_numbers, names_variable_twice, wide_of}
use Rattle.grammar_text.proofs.Firsts.{among_first}
use Rattle.grammar_text.proofs.Sorts.{number_within, own_text, same_text}
use Rattle.grammar_text.proofs.TermsInRange.{number_small}

module _ (variables : List (List ℕ)) where
  abbrev leaf_of : List ℕ → WideForm
  leaf_of word = wide_of variables (Leaf word)

  number_leaf : (word : List ℕ) → begins_number word ≡ true → leaf_of word ≡ Number (pos (unwrap_or (number_of word) 0))
  number_leaf word h = rw h refl

  variable_leaf : (word : List ℕ) → begins_number word ≡ false → leaf_of word ≡ Value (number_among variables word)
  variable_leaf word h = rw h refl

  sides : (operation : Operation) (left right : WideForm) → leaves (joined operation left right) ≡ leaves left ++ leaves right
  sides Sum left right = refl
  sides Difference left right = refl
  sides Product left right = refl
  sides Greater left right = refl
  sides Lesser left right = refl

  leaf_alone : (word : List ℕ) (number : Bool) → begins_number word ≡ number → leaves (leaf_of word) ≡ leaf_of word ∷ []
  leaf_alone word true e = rw e refl
  leaf_alone word false e = rw e refl

  leaves_are : (tree : TermTree) → leaves (wide_of variables tree) ≡ map leaf_of (leaf_words tree)
  leaves_are (Leaf word) = leaf_alone word (begins_number word) refl
  leaves_are (Join operation left right) =
      sides operation (wide_of variables left) (wide_of variables right) ∙ rw (leaves_are left, leaves_are right) (sym (map-append leaf_of (leaf_words left) (leaf_words right)))

  -- ---- each leaf is right

  abbrev is_numbered : List ℕ → Bool
  is_numbered word = not (begins_number word) || is_some (number_of word)

  abbrev is_known : List ℕ → Bool
  is_known word = begins_number word || is_among variables word

  number_right : (found : Option ℕ) → IfSome found (λ n. nat_lt n (2 ^ 62) ≡ true) → is_some found ≡ true → is_leaf (length variables) (Number (pos (unwrap_or found 0))) ≡ true
  number_right None small some = cc
  number_right (Some n) small some = and_from (int_le (pos 0) (pos n)) (is_in_range (pos n)) (grind arith) small

  leaf_right : (word : List ℕ) (number : Bool) → begins_number word ≡ number → is_numbered word ≡ true → is_known word ≡ true → is_leaf (length variables) (leaf_of word) ≡ true
  leaf_right word true e numbered known =
      let some : is_some (number_of word) ≡ true = rw e at numbered in
      rw (number_leaf word e) (number_right (number_of word) (number_small word) some)
  leaf_right word false e numbered known =
      let among : is_among variables word ≡ true = rw e at known in
      rw (variable_leaf word e) (lt-ltb (number_among variables word) (length variables) (number_within variables word among))

  all_right : (words : List (List ℕ)) → list_all is_numbered words ≡ true → list_all is_known words ≡ true → list_all (is_leaf (length variables)) (map leaf_of words) ≡ true
  all_right [] numbered known = refl
  all_right (word ∷ words) numbered known =
      let n = and_parts (is_numbered word) (list_all is_numbered words) numbered in
      let k = and_parts (is_known word) (list_all is_known words) known in
      and_from (is_leaf (length variables) (leaf_of word)) (list_all (is_leaf (length variables)) (map leaf_of words)) (leaf_right word (begins_number word) refl n.0 k.0) (all_right words n.1 k.1)

  -- ---- no value twice

  abbrev is_variable : List ℕ → Bool
  is_variable word = not (begins_number word)

  -- the variable at the number of a name is the name
  at_number : (word : List ℕ) → is_among variables word ≡ true → word ≡ get_or variables (number_among variables word) []
  at_number word among = step (position (pointwise nat_eq word) variables) refl (among_first variables word ∙ among)
    where
      step : (found : Option ℕ) → position (pointwise nat_eq word) variables ≡ found → is_some (position (pointwise nat_eq word) variables) ≡ true → word ≡ get_or variables (number_among variables word) []
      step None e some = absurd (let none = rw e at some in cc)
      step (Some k) e some = rw e (same_text word (get_or variables k []) (position-Some (pointwise nat_eq word) variables k [] e).1)

  same_number : (word other : List ℕ) → is_among variables word ≡ true → is_among variables other ≡ true → nat_eq (number_among variables word) (number_among variables other) ≡ pointwise nat_eq word other
  same_number word other among among' = step (pointwise nat_eq word other) refl (nat_eq (number_among variables word) (number_among variables other)) refl
    where
      step : (same : Bool) → pointwise nat_eq word other ≡ same → (equal : Bool) → nat_eq (number_among variables word) (number_among variables other) ≡ equal → nat_eq (number_among variables word) (number_among variables other) ≡ pointwise nat_eq word other
      step true e true k = k ∙ sym e
      step false e false k = k ∙ sym e
      step true e false k = absurd (
          let is : number_among variables word ≡ number_among variables other = ap (number_among variables) (same_text word other e) in
          let no : nat_eq (number_among variables word) (number_among variables other) ≡ true = grind (arith, is) in
          cc)
      step false e true k = absurd (
          let is : number_among variables word ≡ number_among variables other = grind (arith, k) in
          let text : word ≡ other = at_number word among ∙ ap (λ (n : ℕ). get_or variables n []) is ∙ sym (at_number other among') in
          let yes : pointwise nat_eq word other ≡ true = ap (pointwise nat_eq word) (sym text) ∙ own_text word in
          cc)

  no_number_twice : (number : ℤ) (all : List WideForm) → list_any (is_same_value (Number number)) all ≡ false
  no_number_twice number [] = refl
  no_number_twice number (leaf ∷ all) = no_number_twice number all

  stands_in : (word : List ℕ) → is_among variables word ≡ true → (words : List (List ℕ)) → list_all is_known words ≡ true
      → list_any (is_same_value (Value (number_among variables word))) (map leaf_of words) ≡ list_any (pointwise nat_eq word) (filter is_variable words)
  stands_in word among [] known = refl
  stands_in word among (other ∷ words) known = step (begins_number other) refl (stands_in word among words (and_parts (is_known other) (list_all is_known words) known).1)
    where
      step : (number : Bool) → begins_number other ≡ number → list_any (is_same_value (Value (number_among variables word))) (map leaf_of words) ≡ list_any (pointwise nat_eq word) (filter is_variable words)
          → list_any (is_same_value (Value (number_among variables word))) (map leaf_of (other ∷ words)) ≡ list_any (pointwise nat_eq word) (filter is_variable (other ∷ words))
      step true e others = rw e others
      step false e others =
          let k = and_parts (is_known other) (list_all is_known words) known in
          let among' : is_among variables other ≡ true = rw e at k.0 in
          rw (e, same_number word other among among', others) refl

  once : (words : List (List ℕ)) → list_all is_known words ≡ true → has_no_value_twice (map leaf_of words) ≡ are_distinct (filter is_variable words)
  once [] known = refl
  once (word ∷ words) known = step (begins_number word) refl (once words (and_parts (is_known word) (list_all is_known words) known).1)
    where
      step : (number : Bool) → begins_number word ≡ number → has_no_value_twice (map leaf_of words) ≡ are_distinct (filter is_variable words) → has_no_value_twice (map leaf_of (word ∷ words)) ≡ are_distinct (filter is_variable (word ∷ words))
      step true e others = rw (e, no_number_twice (pos (unwrap_or (number_of word) 0)) (map leaf_of words)) others
      step false e others =
          let k = and_parts (is_known word) (list_all is_known words) known in
          let among : is_among variables word ≡ true = rw e at k.0 in
          rw (e, stands_in word among words k.1, others) refl

  not_twice : (distinct : Bool) → not distinct ≡ false → distinct ≡ true
  not_twice true h = refl
  not_twice false h = cc

  pub wide_fits : (tree : TermTree) → leaves_are_numbers tree ≡ true → leaves_are_declared variables tree ≡ true → nat_le (leaf_count tree) most_leaves ≡ true → names_variable_twice tree ≡ false
      → is_wide (length variables) (wide_of variables tree) ≡ true
  wide_fits tree numbered known few twice =
      let words = leaf_words tree in
      let right = all_right words numbered known in
      let apart : has_no_value_twice (map leaf_of words) ≡ true = once words known ∙ not_twice (are_distinct (filter is_variable words)) twice in
      rw (leaves_are tree, length-map words leaf_of, few, right, apart) refl
