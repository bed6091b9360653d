-- No kind of fault stands at the spelled lines of terms.
use Rattle.std.proofs.Common.{◌≡◌, ℕ, ◌+◌, ◌^◌, ◌<◌, Bool, true, false, ◌==◌, nat_eq, Option, Some, None, List, [], ◌∷◌, ◌++◌, length, map, cond, refl, sym, ◌∙◌, arith, eq-eqb}
use Rattle.std.specs.List.{list_all, list_any, zip, AllByRecursion}
use Rattle.std.specs.Option.{option_map, option_or}
use Rattle.std.proofs.lemmas.Bool.{and_parts, le-ltb}
use lib.Pointwise.{pointwise}
use Rattle.adp_model.specs.declared.grammar.Kind.{Kind}
use Rattle.adp_model.specs.declared.grammar.Sign.{Sign}
use Rattle.adp_model.specs.declared.grammar.Term.{Term}
use Rattle.adp_model.specs.WellFormed.{is_name, are_distinct, is_sign, is_term}
use Rattle.job_texts.specs.Spelling.{variables}
use Rattle.job_texts.specs.LetTerms.{counted_leaves}
use Rattle.job_texts.specs.Declarations.{Declaration}
use Rattle.job_texts.specs.DeclaredNames.{is_algebra_line, since_algebra, let_sign_of, let_signs}
use Rattle.spelled_texts.proofs.Numbers.{variable_word, variable_is_name, other_variable}
use Rattle.spelled_texts.proofs.Contents.{spelled_term, let_declaration}
use Rattle.spelled_texts.proofs.SignLines.{IsSign, sign_parts}
use Rattle.spelled_texts.proofs.Terms.{TermLaws, IsTerm, is_of_form, term_known}
use Rattle.spelled_texts.proofs.GrammarParts.{name_of_sign}
use Rattle.spelled_texts.proofs.DeclaredSigns.{IsDeclared}
use Rattle.spelled_texts.proofs.Faultless.{IsFaultless, AreFaultless}
use Rattle.spelled_texts.proofs.FreshNames.{IsFresh, AreFresh, first_fresh, others_fresh}

-- ---- variables

variables_named : (number : ℕ) (kinds : List Kind) → number + length kinds < 2 ^ 64 → list_all is_name (variables number kinds) ≡ true
variables_named number [] small = refl
variables_named number (kind ∷ kinds) small = rw (variable_is_name number (omega arith), variables_named (number + 1) kinds (omega arith)) refl

none_equals : (number from : ℕ) (kinds : List Kind) → number < from → from + length kinds < 2 ^ 64 → list_any (pointwise nat_eq (variable_word number)) (variables from kinds) ≡ false
none_equals number from [] before small = refl
none_equals number from (kind ∷ kinds) before small =
    rw (other_variable number from (omega arith) (omega arith) (λ same. omega (arith, same)), none_equals number (from + 1) kinds (omega arith) (omega arith)) refl

variables_distinct : (number : ℕ) (kinds : List Kind) → number + length kinds < 2 ^ 64 → are_distinct (variables number kinds) ≡ true
variables_distinct number [] small = refl
variables_distinct number (kind ∷ kinds) small =
    rw (none_equals number (number + 1) kinds (omega arith) (omega arith), variables_distinct (number + 1) kinds (omega arith)) refl

length-variables : (number : ℕ) (kinds : List Kind) → length (variables number kinds) ≡ length kinds
length-variables number [] = refl
length-variables number (kind ∷ kinds) = rw (length-variables (number + 1) kinds) refl

-- ---- the section above

later_line : (found : Option (List Declaration)) (starts : Bool) (above : List Declaration) (declaration : Declaration)
    → option_or (option_map (λ (section : List Declaration). section ++ declaration ∷ []) found) (cond starts (Some (above ++ declaration ∷ [])) None)
    ≡ option_map (λ (section : List Declaration). section ++ declaration ∷ []) (option_or found (cond starts (Some above) None))
later_line None true above declaration = refl
later_line None false above declaration = refl
later_line (Some section) starts above declaration = refl

-- a line that begins no section belongs to the one above
pub since-append : (above : List Declaration) (declaration : Declaration) → is_algebra_line declaration ≡ false
    → since_algebra (above ++ declaration ∷ []) ≡ option_map (λ (section : List Declaration). section ++ declaration ∷ []) (since_algebra above)
since-append [] declaration other = rw other refl
since-append (first ∷ above) declaration other = rw (since-append above declaration other) (later_line (since_algebra above) (is_algebra_line first) above declaration)

pub since_start : (above : List Declaration) (declaration : Declaration) → is_algebra_line declaration ≡ true → since_algebra (above ++ declaration ∷ []) ≡ Some []
since_start [] declaration starts = rw starts refl
since_start (first ∷ above) declaration starts = rw (since_start above declaration starts) refl

-- ---- the lines of a section

let_faultless : (version : ℕ) (all above below section : List Declaration) (entry : Sign × Term) → IsSign entry.0 → IsTerm version entry → IsDeclared all entry.0 → since_algebra above ≡ Some section
    → IsFresh (let_signs section) entry.0.name 256 → IsFaultless all above (let_declaration entry) below
let_faultless version all above below section entry sign term declared since fresh =
    let few = sign.few in
    let kinds = entry.0.kinds in
    let as_many : (length kinds == length (variables 1 kinds)) ≡ true = eq-eqb _ _ (sym (length-variables 1 kinds)) in
    record {
      named = rw (sign.named, variables_named 1 kinds (omega arith), term.text.named) refl;
      numbered = rw term.text.numbered refl;
      fresh = rw (variables_distinct 1 kinds (omega arith)) refl;
      lettered = refl;
      placed = rw (since, fresh.other) refl;
      one_axiom = refl;
      known = rw (declared.among, term.text.declared) refl;
      fit = rw (declared.kinds, as_many) refl;
      uncrossed = refl;
      complete = refl;
      counted = rw (le-ltb 32 (counted_leaves (spelled_term entry.1)) term.text.counted) refl;
      once = term.text.once;
    }

pub lets_faultless : TermLaws → (version : ℕ) (all above section : List Declaration) (signs : List Sign) (terms : List Term) (tail : List Declaration) → list_all is_sign signs ≡ true
    → list_all is_term (zip signs terms) ≡ true → list_all (is_of_form version) terms ≡ true
    → AllByRecursion (IsDeclared all) signs → since_algebra above ≡ Some section → AreFresh (let_signs section) (map name_of_sign signs) 256
    → AreFaultless all above (map let_declaration (zip signs terms)) tail
lets_faultless term_laws version all above section [] terms tail h fit formed declared since fresh = tt
lets_faultless term_laws version all above section (sign ∷ signs) [] tail h fit formed declared since fresh = tt
lets_faultless term_laws version all above section (sign ∷ signs) (term ∷ terms) tail h fit formed declared since fresh =
    let parts = and_parts (is_sign sign) (list_all is_sign signs) h in
    let fits = and_parts (is_term (sign, term)) (list_all is_term (zip signs terms)) fit in
    let forms = and_parts (is_of_form version term) (list_all (is_of_form version) terms) formed in
    let entry : Sign × Term = (sign, term) in
    let own = first_fresh (let_signs section) sign.name (map name_of_sign signs) 256 fresh in
    let since_more : since_algebra (above ++ let_declaration entry ∷ []) ≡ Some (section ++ let_declaration entry ∷ []) = since-append above (let_declaration entry) refl ∙ rw since refl in (
      let_faultless version all above (map let_declaration (zip signs terms) ++ tail) section entry (sign_parts sign parts.0)
          (term_known term_laws version entry parts.0 fits.0 forms.0) declared.0 since own,
      lets_faultless term_laws version all (above ++ let_declaration entry ∷ []) (section ++ let_declaration entry ∷ []) signs terms tail parts.1 fits.1 forms.1 declared.1 since_more
          (others_fresh let_sign_of section (let_declaration entry) sign.name (map name_of_sign signs) 256 refl fresh),
    )
