-- The grammar of a text without a fault is one of the text's format: linear terms and no sizes in the first, wide terms
-- in the second.
use Rattle.std.proofs.Common.{◌≡◌, ℕ, Bool, true, false, cond, ◌||◌, nat_eq, Option, Some, None, is_none, IfSome, List, [], ◌∷◌, ◌++◌, map, refl, sym, ◌∙◌}
use Rattle.std.specs.Prelude.{codes}
use Rattle.std.specs.List.{list_all, filter_map, position_or_len, AllByRecursion}
use Rattle.std.specs.Option.{option_map, option_and_then}
use Rattle.std.proofs.lemmas.Bool.{and_parts, and_from, not-false}
use lib.Pointwise.{pointwise}
use Rattle.adp_model.specs.declared.grammar.Linear as Linears
use Rattle.adp_model.specs.WideForm.{WideForm}
use Rattle.adp_model.specs.declared.grammar.Term.{Term}
use Rattle.adp_model.specs.declared.grammar.Term.TheVariants.{Linear, Wide}
use Rattle.adp_model.specs.declared.grammar.Algebra as algebras
use Rattle.adp_model.specs.declared.grammar.Alt.{Alt}
use Rattle.adp_model.specs.declared.grammar.Rule as rules
use Rattle.adp_model.specs.WellFormed.{has_linear_terms, has_no_sizes, is_of_version}
use Rattle.job_texts.specs.LineTokens.{Token, Word, Equals, OpenBracket}
use Rattle.job_texts.specs.TermText.{Part, is_among, is_word, linear_of}
use Rattle.job_texts.specs.TermParts.{parts_of}
use Rattle.job_texts.specs.WideText.{TermTree, tree_of, wide_of}
use Rattle.job_texts.specs.LetTerms.{LetTerm, Parts, Tree, is_second, term_of, term_of_tokens}
use Rattle.job_texts.specs.Declarations.{Alternative, SizeWords, Declaration, Class, Sign, Algebra, Let, Rule, Axiom, Words, LetTokens, allowed, alternatives_of, items_of, class_of, kinds_of, sign_of, goal_of, algebra_of, let_tokens, let_of, rule_of, axiom_of, nothing_more, behind_word, declaration_of}
use Rattle.job_texts.specs.DeclaredNames.{is_algebra_line, section_of, let_signs, sign_names}
use Rattle.job_texts.specs.JobText.{alternative_of, declared_algebras, declared_grammar, declared_rule, size_of, term_in}
use Rattle.grammar_text.proofs.Faultless.{Each, IsFaultless}
use Rattle.grammar_text.proofs.Sorts.{all_take, either_order}

-- ---- what lines say

abbrev is_tree : LetTerm → Bool
is_tree (Parts parts) = false
is_tree (Tree tree) = true

abbrev are_unsized : List Alternative → Bool
are_unsized alternatives = list_all (λ (alternative : Alternative). is_none alternative.size) alternatives

-- what a line of this format says: a term is one of the format, and the first has no sizes
abbrev pub IsOfFormat : ℕ → Declaration → Type 0
IsOfFormat version (Let sign variables term) = is_tree term ≡ is_second version
IsOfFormat version (Rule name alternatives) = (is_second version || are_unsized alternatives) ≡ true
IsOfFormat version declaration = Unit {0}

module _ (version : ℕ) where
  abbrev Formed : Option Declaration → Type 0
  Formed says = IfSome says (IsOfFormat version)

  all_formed : {X : Type 0} (says : X → Declaration) (found : Option X) → ((x : X) → IsOfFormat version (says x)) → Formed (option_map says found)
  all_formed says None h = tt
  all_formed says (Some found) h = h found

  class_of-formed : (tokens : List Token) → Formed (class_of tokens)
  class_of-formed (Word name ∷ Equals ∷ tokens) = all_formed (λ items. Class name items) (items_of tokens) (λ items. tt)
  class_of-formed tokens = tt

  sign_of-formed : (tokens : List Token) → Formed (sign_of tokens)
  sign_of-formed (Word name ∷ OpenBracket ∷ tokens) = all_formed (λ kinds. Sign name kinds) (kinds_of tokens) (λ kinds. tt)
  sign_of-formed tokens = tt

  algebra_of-formed : (tokens : List Token) → Formed (algebra_of tokens)
  algebra_of-formed (Word name ∷ Word goal ∷ []) = all_formed (λ goal. Algebra name goal) (goal_of goal) (λ goal. tt)
  algebra_of-formed tokens = tt

  term_formed : (sign : List ℕ) (variables : List (List ℕ)) (second : Bool) (trees : Option TermTree) (parts : Option (List Part)) → is_second version ≡ second
      → Formed (option_map (λ term. Let sign variables term) (cond second (option_map (λ tree. Tree tree) trees) (option_map (λ parts. Parts parts) parts)))
  term_formed sign variables true (Some tree) parts e = sym e
  term_formed sign variables true None parts e = tt
  term_formed sign variables false trees (Some parts) e = sym e
  term_formed sign variables false trees None e = tt

  abbrev with_term : List ℕ → LetTokens → Option Declaration
  with_term sign found = option_map (λ term. Let sign found.variables term) (term_of_tokens version found.term)

  let_formed : (sign : List ℕ) (found : Option LetTokens) → Formed (option_and_then (with_term sign) found)
  let_formed sign None = tt
  let_formed sign (Some found) = term_formed sign found.variables (is_second version) (tree_of found.term) (parts_of found.term) refl

  let_of-formed : (tokens : List Token) → Formed (let_of version tokens)
  let_of-formed (Word sign ∷ OpenBracket ∷ tokens) = let_formed sign (let_tokens tokens)
  let_of-formed tokens = tt

  rule_formed : (name : List ℕ) (alternatives : Option (List Alternative)) → Formed (option_map (λ those. Rule name those) (option_and_then (allowed version) alternatives))
  rule_formed name None = tt
  rule_formed name (Some alternatives) = by_test (is_second version || are_unsized alternatives) refl
    where
      by_test : (fits : Bool) → (is_second version || are_unsized alternatives) ≡ fits → Formed (option_map (λ those. Rule name those) (cond fits (Some alternatives) None))
      by_test true e = e
      by_test false e = tt

  rule_of-formed : (tokens : List Token) → Formed (rule_of version tokens)
  rule_of-formed (Word name ∷ Equals ∷ tokens) = rule_formed name (alternatives_of tokens)
  rule_of-formed tokens = tt

  axiom_of-formed : (tokens : List Token) → Formed (axiom_of tokens)
  axiom_of-formed (Word rule ∷ []) = tt
  axiom_of-formed tokens = tt

  nothing_more-formed : (tokens : List Token) → Formed (nothing_more tokens)
  nothing_more-formed [] = tt
  nothing_more-formed (token ∷ tokens) = tt

  either_formed : (b : Bool) (says other : Option Declaration) → Formed says → Formed other → Formed (cond b says other)
  either_formed true says other h k = h
  either_formed false says other h k = k

  behind_word-formed : (word : List ℕ) (tokens : List Token) → Formed (behind_word version word tokens)
  behind_word-formed word tokens =
      either_formed (is_word (codes "class") word) (class_of tokens) _ (class_of-formed tokens)
      (either_formed (is_word (codes "sign") word) (sign_of tokens) _ (sign_of-formed tokens)
      (either_formed (is_word (codes "algebra") word) (algebra_of tokens) _ (algebra_of-formed tokens)
      (either_formed (is_word (codes "let") word) (let_of version tokens) _ (let_of-formed tokens)
      (either_formed (is_word (codes "rule") word) (rule_of version tokens) _ (rule_of-formed tokens)
      (either_formed (is_word (codes "grammar") word) (axiom_of tokens) _ (axiom_of-formed tokens)
      (either_formed (is_word (codes "words") word) (nothing_more tokens) None (nothing_more-formed tokens) tt))))))

  pub declaration_of-formed : (tokens : List Token) → Formed (declaration_of version tokens)
  declaration_of-formed (Word word ∷ tokens) = behind_word-formed word tokens
  declaration_of-formed tokens = tt

-- ---- terms

-- a test that all terms of a format pass
module _ (version : ℕ) (test : Term → Bool) (linear : is_second version ≡ false → (term : Linears.Linear) → test (Linear term) ≡ true)
    (wide : is_second version ≡ true → (term : WideForm) → test (Wide term) ≡ true) where
  passes : (variables : List (List ℕ)) (term : LetTerm) → is_tree term ≡ is_second version → test (term_of variables term) ≡ true
  passes variables (Parts parts) e = linear (sym e) (linear_of variables parts)
  passes variables (Tree tree) e = wide (sym e) (wide_of variables tree)

  term_passes : (section : List Declaration) (sign : List ℕ) → AllByRecursion (IsOfFormat version) section → is_among (let_signs section) sign ≡ true → test (term_in section sign) ≡ true
  term_passes [] sign formed h = absurd cc
  term_passes (Let name variables term ∷ section) sign formed h = here (pointwise nat_eq sign name) refl (term_passes section sign formed.1)
    where
      here : (same : Bool) → pointwise nat_eq sign name ≡ same → (is_among (let_signs section) sign ≡ true → test (term_in section sign) ≡ true)
          → test (term_in (Let name variables term ∷ section) sign) ≡ true
      here true e others = rw e (passes variables term formed.0)
      here false e others =
          let apart : pointwise nat_eq name sign ≡ false = either_order name sign ∙ e in
          rw e (others (rw apart at h))
  term_passes (Class name items ∷ section) sign formed h = term_passes section sign formed.1 h
  term_passes (Sign name kinds ∷ section) sign formed h = term_passes section sign formed.1 h
  term_passes (Algebra name goal ∷ section) sign formed h = term_passes section sign formed.1 h
  term_passes (Rule name alternatives ∷ section) sign formed h = term_passes section sign formed.1 h
  term_passes (Axiom rule ∷ section) sign formed h = term_passes section sign formed.1 h
  term_passes (Words ∷ section) sign formed h = term_passes section sign formed.1 h

  terms_pass : (section : List Declaration) (signs : List (List ℕ)) → AllByRecursion (IsOfFormat version) section → list_all (is_among (let_signs section)) signs ≡ true
      → list_all test (map (term_in section) signs) ≡ true
  terms_pass section [] formed h = refl
  terms_pass section (sign ∷ signs) formed h =
      let parts = and_parts (is_among (let_signs section) sign) (list_all (is_among (let_signs section)) signs) h in
      and_from (test (term_in section sign)) (list_all test (map (term_in section) signs)) (term_passes section sign formed parts.0) (terms_pass section signs formed parts.1)

  algebras_pass : (all above below : List Declaration) → Each (IsFaultless all) above below → AllByRecursion (IsOfFormat version) below
      → list_all (λ (algebra : algebras.Algebra). list_all test algebra.terms) (declared_algebras (sign_names all) below) ≡ true
  algebras_pass all above [] h formed = refl
  algebras_pass all above (Algebra name goal ∷ below) h formed =
      let complete : list_all (is_among (let_signs (section_of below))) (sign_names all) ≡ true = not-false (list_all (is_among (let_signs (section_of below))) (sign_names all)) h.0.complete in
      let section = all_take (IsOfFormat version) (position_or_len is_algebra_line below) below formed.1 in
      and_from (list_all test (map (term_in (section_of below)) (sign_names all))) (list_all (λ (algebra : algebras.Algebra). list_all test algebra.terms) (declared_algebras (sign_names all) below))
      (terms_pass (section_of below) (sign_names all) section complete) (algebras_pass all (above ++ Algebra name goal ∷ []) below h.1 formed.1)
  algebras_pass all above (Class name items ∷ below) h formed = algebras_pass all (above ++ Class name items ∷ []) below h.1 formed.1
  algebras_pass all above (Sign name kinds ∷ below) h formed = algebras_pass all (above ++ Sign name kinds ∷ []) below h.1 formed.1
  algebras_pass all above (Let name variables term ∷ below) h formed = algebras_pass all (above ++ Let name variables term ∷ []) below h.1 formed.1
  algebras_pass all above (Rule name alternatives ∷ below) h formed = algebras_pass all (above ++ Rule name alternatives ∷ []) below h.1 formed.1
  algebras_pass all above (Axiom rule ∷ below) h formed = algebras_pass all (above ++ Axiom rule ∷ []) below h.1 formed.1
  algebras_pass all above (Words ∷ below) h formed = algebras_pass all (above ++ Words ∷ []) below h.1 formed.1

-- ---- sizes

abbrev has_no_size : Alt → Bool
has_no_size alternative = is_none alternative.size

no_size : (size : Option SizeWords) → is_none size ≡ true → is_none (option_map size_of size) ≡ true
no_size None h = refl
no_size (Some size) h = cc

no_sizes : (all : List Declaration) (alternatives : List Alternative) → are_unsized alternatives ≡ true → list_all has_no_size (map (alternative_of all) alternatives) ≡ true
no_sizes all [] h = refl
no_sizes all (alternative ∷ alternatives) h =
    let parts = and_parts (is_none alternative.size) (are_unsized alternatives) h in
    and_from (is_none (option_map size_of alternative.size)) (list_all has_no_size (map (alternative_of all) alternatives)) (no_size alternative.size parts.0) (no_sizes all alternatives parts.1)

rules_unsized : (all below : List Declaration) → AllByRecursion (IsOfFormat 1) below → list_all (λ (rule : rules.Rule). list_all has_no_size rule.alts) (filter_map (declared_rule all) below) ≡ true
rules_unsized all [] formed = refl
rules_unsized all (Rule name alternatives ∷ below) formed =
    and_from (list_all has_no_size (map (alternative_of all) alternatives)) (list_all (λ (rule : rules.Rule). list_all has_no_size rule.alts) (filter_map (declared_rule all) below))
    (no_sizes all alternatives formed.0) (rules_unsized all below formed.1)
rules_unsized all (Class name items ∷ below) formed = rules_unsized all below formed.1
rules_unsized all (Sign name kinds ∷ below) formed = rules_unsized all below formed.1
rules_unsized all (Algebra name goal ∷ below) formed = rules_unsized all below formed.1
rules_unsized all (Let name variables term ∷ below) formed = rules_unsized all below formed.1
rules_unsized all (Axiom rule ∷ below) formed = rules_unsized all below formed.1
rules_unsized all (Words ∷ below) formed = rules_unsized all below formed.1

-- ---- the grammar

abbrev is_linear : Term → Bool
is_linear (Linear term) = true
is_linear (Wide term) = false

abbrev is_wide : Term → Bool
is_wide (Linear term) = false
is_wide (Wide term) = true

pub of_first : (all : List Declaration) → Each (IsFaultless all) [] all → AllByRecursion (IsOfFormat 1) all → is_of_version 1 (declared_grammar all) ≡ true
of_first all h formed =
    let linear_terms : has_linear_terms (declared_grammar all) ≡ true = algebras_pass 1 is_linear (λ first term. refl) (λ second term. cc) all [] all h formed in
    let unsized : has_no_sizes (declared_grammar all) ≡ true = rules_unsized all all formed in
    rw (linear_terms, unsized) refl

pub of_second : (all : List Declaration) → Each (IsFaultless all) [] all → AllByRecursion (IsOfFormat 2) all → is_of_version 2 (declared_grammar all) ≡ true
of_second all h formed = algebras_pass 2 is_wide (λ first term. cc) (λ second term. refl) all [] all h formed
