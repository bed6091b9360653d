-- What the reading of a term shows of what spells it.
use Rattle.std.proofs.Common.{◌≡◌, ℕ, Bool, true, false, ◌&&◌, nat_le, Option, Some, None, Result, Ok, Err, IsSome, List, refl, sym, ◌∙◌, ap, subst}
use Rattle.std.specs.Option.{option_and_then, option_map}
use Rattle.std.specs.Result.{result_ok}
use Rattle.adp_model.specs.WellFormed.{most_leaves}
use Rattle.adp_model.specs.WideForm.{WideForm}
use Rattle.adp_model.specs.declared.grammar.Linear as linear
use Rattle.adp_model.specs.declared.grammar.Term.{Term}
use Rattle.adp_model.specs.declared.grammar.Term.TheVariants.{Linear, Wide}
use Rattle.job_texts.specs.LineTokens.{Token, tokens_of}
use Rattle.job_texts.specs.TermText.{Part, are_names, are_numbers, totals_fit, are_declared, linear_of, term_of_parts, TermFault, Name, Number, Unknown}
use Rattle.job_texts.specs.TermParts.{parts_of, term_parts, term_reading}
use Rattle.job_texts.specs.WideText.{TermTree, WideFault, NoName, NoNumber, Undeclared, TooMany, Twice, leaf_count, leaves_are_declared, leaves_are_names, leaves_are_numbers, names_variable_twice, text_tree, tree_of, wide_of, wide_of_tree, wide_reading}
use Rattle.job_texts.specs.LetTerms.{LetTerm, Parts, Tree, is_second, term_of_text, term_of_tokens}
use Rattle.algebra_terms.specs.declared.wide_error.WideError.{WideError}
use Rattle.algebra_terms.specs.declared.wide_error.WideError.TheVariants as errors
use Rattle.grammar_text.specs.Judged.{GivesFirst, GivesSecond, IsJudged}
use Rattle.grammar_text.specs.Seen.{term_seen}

-- ---- linear terms

by_tests : (variables : List (List ℕ)) (parts : List Part) (names numbers declared : Bool)
    → are_names parts ≡ names → (are_numbers parts && totals_fit parts) ≡ numbers → are_declared variables parts ≡ declared
    → (result : Result Term WideError) → GivesFirst (term_of_parts variables parts) result → IsJudged variables (Parts parts) result
by_tests variables parts names numbers declared e f g (Err errors.Memory) h = tt
by_tests variables parts names numbers declared e f g (Err (errors.Count leaves)) h = absurd h
by_tests variables parts names numbers declared e f g (Err errors.Twice) h = absurd h
by_tests variables parts names numbers declared e f g (Ok (Wide term)) h = absurd h
by_tests variables parts false numbers declared e f g (Err errors.Name) h = e
by_tests variables parts false numbers declared e f g result h =
    let reading : term_of_parts variables parts ≡ Err Name = rw e refl in
    cc
by_tests variables parts true false declared e f g (Err errors.Number) h = (e, f)
by_tests variables parts true false declared e f g result h =
    let reading : term_of_parts variables parts ≡ Err Number = rw (e, f) refl in
    cc
by_tests variables parts true true false e f g (Err errors.Unknown) h = (e, f, g)
by_tests variables parts true true false e f g result h =
    let reading : term_of_parts variables parts ≡ Err Unknown = rw (e, f, g) refl in
    cc
by_tests variables parts true true true e f g (Ok (Linear term)) h =
    let reading : term_of_parts variables parts ≡ Ok (linear_of variables parts) = rw (e, f, g) refl in
    ((e, f, g), refl, refl, ap (λ (found : linear.Linear). Linear found) (let same : term ≡ linear_of variables parts = cc in same))
by_tests variables parts true true true e f g (Err error) h =
    let reading : term_of_parts variables parts ≡ Ok (linear_of variables parts) = rw (e, f, g) refl in
    cc

-- ---- wide terms

wide_by_tests : (variables : List (List ℕ)) (tree : TermTree) (names numbers declared few twice : Bool)
    → leaves_are_names tree ≡ names → leaves_are_numbers tree ≡ numbers → leaves_are_declared variables tree ≡ declared → nat_le (leaf_count tree) most_leaves ≡ few → names_variable_twice tree ≡ twice
    → (result : Result Term WideError) → GivesSecond (wide_of_tree variables tree) result → IsJudged variables (Tree tree) result
wide_by_tests variables tree names numbers declared few twice e f g k l (Err errors.Memory) h = tt
wide_by_tests variables tree names numbers declared few twice e f g k l (Ok (Linear term)) h = absurd h
wide_by_tests variables tree false numbers declared few twice e f g k l (Err errors.Name) h = e
wide_by_tests variables tree false numbers declared few twice e f g k l result h =
    let reading : wide_of_tree variables tree ≡ Err NoName = rw e refl in
    cc
wide_by_tests variables tree true false declared few twice e f g k l (Err errors.Number) h = (e, f)
wide_by_tests variables tree true false declared few twice e f g k l result h =
    let reading : wide_of_tree variables tree ≡ Err NoNumber = rw (e, f) refl in
    cc
wide_by_tests variables tree true true false few twice e f g k l (Err errors.Unknown) h = (e, f, g)
wide_by_tests variables tree true true false few twice e f g k l result h =
    let reading : wide_of_tree variables tree ≡ Err Undeclared = rw (e, f, g) refl in
    cc
wide_by_tests variables tree true true true false twice e f g k l (Err (errors.Count leaves)) h =
    let reading : wide_of_tree variables tree ≡ Err (TooMany (leaf_count tree)) = rw (e, f, g, k) refl in
    ((e, f, g), k, cc)
wide_by_tests variables tree true true true false twice e f g k l result h =
    let reading : wide_of_tree variables tree ≡ Err (TooMany (leaf_count tree)) = rw (e, f, g, k) refl in
    cc
wide_by_tests variables tree true true true true true e f g k l (Err errors.Twice) h = ((e, f, g), k, l)
wide_by_tests variables tree true true true true true e f g k l result h =
    let reading : wide_of_tree variables tree ≡ Err Twice = rw (e, f, g, k, l) refl in
    cc
wide_by_tests variables tree true true true true false e f g k l (Ok (Wide term)) h =
    let reading : wide_of_tree variables tree ≡ Ok (wide_of variables tree) = rw (e, f, g, k, l) refl in
    ((e, f, g), k, l, (let same : term ≡ wide_of variables tree = cc in ap (λ (found : WideForm). Wide found) same))
wide_by_tests variables tree true true true true false e f g k l (Err error) h =
    let reading : wide_of_tree variables tree ≡ Ok (wide_of variables tree) = rw (e, f, g, k, l) refl in
    cc

-- ---- texts

not_none : IsSome {T = LetTerm} None → ⊥
not_none h = cc

-- what spells a term of the second format has a tree, and in the first it has parts
tokens_have_tree : (version : ℕ) (tokens : Option (List Token)) → is_second version ≡ true → option_and_then (term_of_tokens version) tokens ≡ option_map (λ tree. Tree tree) (option_and_then tree_of tokens)
tokens_have_tree version None second = refl
tokens_have_tree version (Some tokens) second = rw second refl

tokens_have_parts : (version : ℕ) (tokens : Option (List Token)) → is_second version ≡ false → option_and_then (term_of_tokens version) tokens ≡ option_map (λ parts. Parts parts) (option_and_then parts_of tokens)
tokens_have_parts version None first = refl
tokens_have_parts version (Some tokens) first = rw first refl

seen_of : (version : ℕ) (text : List ℕ) (term : LetTerm) → term_of_text version text ≡ Some term → term_seen version text ≡ term
seen_of version text term is = rw is refl

module _ (version : ℕ) (text : List ℕ) (variables names : List (List ℕ)) (some : IsSome (term_of_text version text)) (same : names ≡ variables) where
  pub judged_linear : (result : Result Term WideError) → is_second version ≡ false → GivesFirst (term_reading text names) result → IsJudged variables (term_seen version text) result
  judged_linear result first gives = step (term_parts text) refl
    where
      step : (parts : Option (List Part)) → term_parts text ≡ parts → IsJudged variables (term_seen version text) result
      step None e = let none : IsSome {T = LetTerm} None = subst (λ (term : Option LetTerm). IsSome term) (tokens_have_parts version (result_ok (tokens_of text)) first ∙ ap (option_map (λ parts. Parts parts)) e) some in absurd (not_none none)
      step (Some parts) e =
          let seen : term_seen version text ≡ Parts parts = seen_of version text (Parts parts) (tokens_have_parts version (result_ok (tokens_of text)) first ∙ ap (option_map (λ parts. Parts parts)) e) in
          let reading : term_reading text names ≡ term_of_parts variables parts = rw (e, same) refl in
          subst (λ (term : LetTerm). IsJudged variables term result) (sym seen)
          (by_tests variables parts (are_names parts) (are_numbers parts && totals_fit parts) (are_declared variables parts) refl refl refl result (subst (λ (found : Result linear.Linear TermFault). GivesFirst found result) reading gives))

  wide_reading_is : (tree : TermTree) → text_tree text ≡ Some tree → wide_reading text names ≡ wide_of_tree variables tree
  wide_reading_is tree e = rw (e, same) refl

  wide_seen : (tree : TermTree) → is_second version ≡ true → text_tree text ≡ Some tree → term_seen version text ≡ Tree tree
  wide_seen tree second e = seen_of version text (Tree tree) (tokens_have_tree version (result_ok (tokens_of text)) second ∙ ap (option_map (λ tree. Tree tree)) e)

  no_tree : is_second version ≡ true → text_tree text ≡ None → ⊥
  no_tree second e = not_none (subst (λ (term : Option LetTerm). IsSome term) (tokens_have_tree version (result_ok (tokens_of text)) second ∙ ap (option_map (λ tree. Tree tree)) e) some)

  pub judged_wide : (result : Result Term WideError) → is_second version ≡ true → GivesSecond (wide_reading text names) result → IsJudged variables (term_seen version text) result
  judged_wide result second gives = step (text_tree text) refl
    where
      step : (tree : Option TermTree) → text_tree text ≡ tree → IsJudged variables (term_seen version text) result
      step None e = absurd (no_tree second e)
      step (Some tree) e =
          subst (λ (seen : LetTerm). IsJudged variables seen result) (sym (wide_seen tree second e))
          (wide_by_tests variables tree _ _ _ _ _ refl refl refl refl refl result (subst (λ (found : Result WideForm WideFault). GivesSecond found result) (wide_reading_is tree e) gives))
