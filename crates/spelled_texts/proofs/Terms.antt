-- The spelling of a term as a part of a line: its tokens, what they spell, and its bytes.
use Rattle.std.proofs.Common.{◌≡◌, ℕ, zero, suc, ◌+◌, ◌^◌, ◌<◌, ◌≤◌, ℤ, pos, negsuc, Bool, true, false, ◌&&◌, not, cond, ◌==◌, nat_le, int_le, codes, IsTrue, Option, Some, None, Result, Ok, Err, List, [], ◌∷◌, ◌++◌, length, refl, sym, ◌∙◌, ap, arith, eqb-true, leb-true, ltb-true}
use Rattle.std.specs.List.{list_all}
use Rattle.std.specs.Fmt.{decimal}
use Rattle.std.proofs.lemmas.Bool.{and_parts}
use Rattle.std.proofs.lemmas.List.Folds.{list_all-append}
use Rattle.adp_model.specs.declared.grammar.Sign.{Sign}
use Rattle.adp_model.specs.declared.grammar.Linear as linear
use Rattle.adp_model.specs.declared.grammar.Term.{Term}
use Rattle.adp_model.specs.declared.grammar.Term.TheVariants.{Linear, Wide}
use Rattle.adp_model.specs.WideForm as forms
use Rattle.adp_model.specs.WideForm.{WideForm}
use Rattle.adp_model.specs.Terms.{leaves}
use Rattle.adp_model.specs.Printable.{is_printable_byte}
use Rattle.adp_model.specs.WellFormed.{is_in_range, is_leaf, is_linear, is_sign, is_term, is_wide, has_no_value_twice}
use Rattle.job_texts.specs.Spelling.{variables, factors_text, linear_text, part_text, wide_text, term_text}
use Rattle.job_texts.specs.LineTokens.{Token, Offence, tokens_of}
use Rattle.job_texts.specs.TermText.{Part, TermFault, Name, Number, Unknown, are_names, are_numbers, totals_fit, are_declared, linear_of, term_of_parts}
use Rattle.job_texts.specs.TermParts.{parts_of, term_reading}
use Rattle.job_texts.specs.WideText.{TermTree, WideFault, NoName, NoNumber, Undeclared, TooMany, Twice, leaf_count, leaves_are_declared, leaves_are_names, leaves_are_numbers, names_variable_twice, tree_of, wide_of, wide_of_tree, wide_reading}
use Rattle.job_texts.specs.LetTerms.{LetTerm, Parts, Tree, counted_leaves, has_names, has_numbers, has_variables, is_second, names_twice, term_of, term_of_tokens}
use Rattle.spelled_texts.proofs.ReadTokens.{Reads}
use Rattle.spelled_texts.proofs.Printing.{Prints, literal_prints, prints-append, word_prints}
use Rattle.spelled_texts.proofs.Numbers.{decimal_prints, signed_prints, variable_word, variable_is_word}
use Rattle.spelled_texts.proofs.SignLines.{sign_parts}
use Rattle.spelled_texts.proofs.Contents.{spelled_term}

-- spelled terms are read back
pub record TermLaws : Type 0 where
  pub linear : (sign : Sign) (term : linear.Linear) → IsTrue (is_sign sign) → IsTrue (is_linear (length sign.kinds) term)
      → term_reading (linear_text term) (variables 1 sign.kinds) ≡ Ok term
  pub wide : (sign : Sign) (term : WideForm) → IsTrue (is_sign sign) → IsTrue (is_wide (length sign.kinds) term)
      → wide_reading (wide_text term) (variables 1 sign.kinds) ≡ Ok term

-- the form of the terms of this format: linear in the first, wide in the second
abbrev pub is_of_form : ℕ → Term → Bool
is_of_form version (Linear term) = not (is_second version)
is_of_form version (Wide term) = is_second version

-- a text whose tokens spell this in a format, without a fault, and which is read as this term
pub record IsTermText (version : ℕ) (text : List ℕ) (names : List (List ℕ)) (term : Term) (spelled : LetTerm) : Type 0 where
  pub tokens : List Token
  pub reads : Reads text tokens
  pub spells : term_of_tokens version tokens ≡ Some spelled
  pub named : has_names spelled ≡ true
  pub numbered : has_numbers spelled ≡ true
  pub declared : has_variables names spelled ≡ true
  pub counted : counted_leaves spelled ≤ 32
  pub once : names_twice spelled ≡ false
  pub back : term_of names spelled ≡ term

-- ---- linear terms

-- what is known of the parts of a term that is read
record IsMade (names : List (List ℕ)) (term : linear.Linear) (parts : List Part) : Type 0 where
  named : are_names parts ≡ true
  numbered : (are_numbers parts && totals_fit parts) ≡ true
  declared : are_declared names parts ≡ true
  sum : linear_of names parts ≡ term

judged : (names : List (List ℕ)) (term : linear.Linear) (parts : List Part) (named numbered declared : Bool) → are_names parts ≡ named → (are_numbers parts && totals_fit parts) ≡ numbered
    → are_declared names parts ≡ declared
    → ◌≡◌ {A = Result linear.Linear TermFault} (cond (not named) (Err Name) (cond (not numbered) (Err Number) (cond (not declared) (Err Unknown) (Ok (linear_of names parts))))) (Ok term)
    → IsMade names term parts
judged names term parts false numbered declared e f g h = cc
judged names term parts true false declared e f g h = cc
judged names term parts true true false e f g h = cc
judged names term parts true true true e f g h = record { named = e; numbered = f; declared = g; sum = cc }

made_parts : (names : List (List ℕ)) (term : linear.Linear) (parts : List Part) → term_of_parts names parts ≡ Ok term → IsMade names term parts
made_parts names term parts h = judged names term parts (are_names parts) (are_numbers parts && totals_fit parts) (are_declared names parts) refl refl refl h

linear_spells : (version : ℕ) (term other : linear.Linear) (names : List (List ℕ)) → is_second version ≡ false → term_reading (linear_text term) names ≡ Ok other
    → IsTermText version (linear_text term) names (Linear other) (spelled_term (Linear term))
linear_spells version term other names first h = by_tokens (tokens_of (linear_text term)) refl
  where
    by_parts : (tokens : List Token) → tokens_of (linear_text term) ≡ Ok tokens → (parts : Option (List Part)) → parts_of tokens ≡ parts
        → IsTermText version (linear_text term) names (Linear other) (spelled_term (Linear term))
    by_parts tokens e None f = cc (rw (e, f) at h)
    by_parts tokens e (Some parts) f =
        let same : spelled_term (Linear term) ≡ Parts parts = rw (e, f) refl in
        let made : IsMade names other parts = made_parts names other parts (rw (e, f) at h) in
        rw same (record {
          tokens = tokens;
          reads = record { are = e };
          spells = rw (first, f) refl;
          named = made.named;
          numbered = made.numbered;
          declared = made.declared;
          counted = omega arith;
          once = refl;
          back = ap Linear made.sum;
        })

    by_tokens : (tokens : Result (List Token) Offence) → tokens_of (linear_text term) ≡ tokens → IsTermText version (linear_text term) names (Linear other) (spelled_term (Linear term))
    by_tokens (Err offence) e = cc (rw e at h)
    by_tokens (Ok tokens) e = by_parts tokens e (parts_of tokens) refl

-- ---- wide terms

-- what is known of the tree of a term that is read
record IsMadeWide (names : List (List ℕ)) (term : WideForm) (tree : TermTree) : Type 0 where
  named : leaves_are_names tree ≡ true
  numbered : leaves_are_numbers tree ≡ true
  declared : leaves_are_declared names tree ≡ true
  counted : leaf_count tree ≤ 32
  once : names_variable_twice tree ≡ false
  made : wide_of names tree ≡ term

judged_tree : (names : List (List ℕ)) (term : WideForm) (tree : TermTree) (named numbered declared few twice : Bool) → leaves_are_names tree ≡ named → leaves_are_numbers tree ≡ numbered
    → leaves_are_declared names tree ≡ declared → nat_le (leaf_count tree) 32 ≡ few → names_variable_twice tree ≡ twice
    → ◌≡◌ {A = Result WideForm WideFault}
    (cond (not named) (Err NoName) (cond (not numbered) (Err NoNumber)
    (cond (not declared) (Err Undeclared) (cond (not few) (Err (TooMany (leaf_count tree))) (cond twice (Err Twice) (Ok (wide_of names tree)))))))
    (Ok term)
    → IsMadeWide names term tree
judged_tree names term tree false numbered declared few twice e f g i j h = cc
judged_tree names term tree true false declared few twice e f g i j h = cc
judged_tree names term tree true true false few twice e f g i j h = cc
judged_tree names term tree true true true false twice e f g i j h = cc
judged_tree names term tree true true true true true e f g i j h = cc
judged_tree names term tree true true true true false e f g i j h = record { named = e; numbered = f; declared = g; counted = leb-true _ _ i; once = j; made = cc }

made_tree : (names : List (List ℕ)) (term : WideForm) (tree : TermTree) → wide_of_tree names tree ≡ Ok term → IsMadeWide names term tree
made_tree names term tree h =
    judged_tree names term tree (leaves_are_names tree) (leaves_are_numbers tree) (leaves_are_declared names tree) (nat_le (leaf_count tree) 32) (names_variable_twice tree) refl refl refl refl refl h

wide_spells : (version : ℕ) (term other : WideForm) (names : List (List ℕ)) → is_second version ≡ true → wide_reading (wide_text term) names ≡ Ok other
    → IsTermText version (wide_text term) names (Wide other) (spelled_term (Wide term))
wide_spells version term other names second h = by_tokens (tokens_of (wide_text term)) refl
  where
    by_tree : (tokens : List Token) → tokens_of (wide_text term) ≡ Ok tokens → (tree : Option TermTree) → tree_of tokens ≡ tree
        → IsTermText version (wide_text term) names (Wide other) (spelled_term (Wide term))
    by_tree tokens e None f = cc (rw (e, f) at h)
    by_tree tokens e (Some tree) f =
        let same : spelled_term (Wide term) ≡ Tree tree = rw (e, f) refl in
        let made : IsMadeWide names other tree = made_tree names other tree (rw (e, f) at h) in
        rw same (record {
          tokens = tokens;
          reads = record { are = e };
          spells = rw (second, f) refl;
          named = made.named;
          numbered = made.numbered;
          declared = made.declared;
          counted = made.counted;
          once = made.once;
          back = ap Wide made.made;
        })

    by_tokens : (tokens : Result (List Token) Offence) → tokens_of (wide_text term) ≡ tokens → IsTermText version (wide_text term) names (Wide other) (spelled_term (Wide term))
    by_tokens (Err offence) e = cc (rw e at h)
    by_tokens (Ok tokens) e = by_tree tokens e (tree_of tokens) refl

-- ---- bytes of linear terms

multiple_prints : (symbol : List ℕ) (factor number : ℕ) → list_all is_printable_byte symbol ≡ true → factor < 2 ^ 64 → number < 2 ^ 64
    → Prints (((symbol ++ decimal factor) ++ codes "*x") ++ decimal number)
multiple_prints symbol factor number h small small' =
    prints-append (prints-append (prints-append (literal_prints symbol h) (decimal_prints factor small)) (literal_prints (codes "*x") refl)) (decimal_prints number small')

factors_print : (number : ℕ) (factors : List ℤ) → list_all is_in_range factors ≡ true → number + length factors < 2 ^ 64 → Prints (factors_text number factors)
factors_print number [] fit small = literal_prints [] refl
factors_print number (pos zero ∷ factors) fit small = factors_print (number + 1) factors fit (omega arith)
factors_print number (pos (suc n) ∷ factors) fit small =
    let range = and_parts (is_in_range (pos (suc n))) (list_all is_in_range factors) fit in
    let below : suc n < 2 ^ 62 = grind (arith, range.0) in
    prints-append (multiple_prints (codes " + ") (suc n) number refl (omega arith) (omega arith)) (factors_print (number + 1) factors range.1 (omega arith))
factors_print number (negsuc n ∷ factors) fit small =
    let range = and_parts (is_in_range (negsuc n)) (list_all is_in_range factors) fit in
    let below : suc n < 2 ^ 62 = grind (arith, range.0) in
    prints-append (multiple_prints (codes " - ") (suc n) number refl (omega arith) (omega arith)) (factors_print (number + 1) factors range.1 (omega arith))

linear_prints : (count : ℕ) (term : linear.Linear) → is_linear count term ≡ true → count ≤ 4 → Prints (linear_text term)
linear_prints count term h few =
    let last = and_parts (is_in_range term.constant && list_all is_in_range term.factors) (length term.factors == count) h in
    let first = and_parts (is_in_range term.constant) (list_all is_in_range term.factors) last.0 in
    let counted : length term.factors ≡ count = eqb-true _ _ last.1 in
    prints-append (signed_prints term.constant first.0) (factors_print 1 term.factors first.1 (omega arith))

-- ---- bytes of wide terms

sides_print : (before left between right : List ℕ) → list_all is_printable_byte before ≡ true → list_all is_printable_byte between ≡ true → Prints left → Prints right
    → Prints ((((before ++ left) ++ between) ++ right) ++ codes ")")
sides_print before left between right h h' first second =
    prints-append (prints-append (prints-append (prints-append (literal_prints before h) first) (literal_prints between h')) second) (literal_prints (codes ")") refl)

-- the leaves of both sides are right
both_sides : (count : ℕ) (left right : List WideForm) → list_all (is_leaf count) (left ++ right) ≡ true → (list_all (is_leaf count) left ≡ true) × (list_all (is_leaf count) right ≡ true)
both_sides count left right h = and_parts (list_all (is_leaf count) left) (list_all (is_leaf count) right) (sym (list_all-append (is_leaf count) left right) ∙ h)

part_prints : (count : ℕ) (term : WideForm) → count ≤ 4 → list_all (is_leaf count) (leaves term) ≡ true → Prints (part_text term)
part_prints count (forms.Number number) few h =
    let leaf = and_parts (is_leaf count (forms.Number number)) true h in
    signed_prints number (and_parts (int_le (pos 0) number) (is_in_range number) leaf.0).1
part_prints count (forms.Value place) few h =
    let leaf = and_parts (is_leaf count (forms.Value place)) true h in
    let inside : place < count = ltb-true _ _ leaf.0 in
    word_prints (variable_word (place + 1)) (variable_is_word (place + 1) (omega arith))
part_prints count (forms.Sum left right) few h =
    let sides = both_sides count (leaves left) (leaves right) h in
    sides_print (codes "(") (part_text left) (codes " + ") (part_text right) refl refl (part_prints count left few sides.0) (part_prints count right few sides.1)
part_prints count (forms.Difference left right) few h =
    let sides = both_sides count (leaves left) (leaves right) h in
    sides_print (codes "(") (part_text left) (codes " - ") (part_text right) refl refl (part_prints count left few sides.0) (part_prints count right few sides.1)
part_prints count (forms.Product left right) few h =
    let sides = both_sides count (leaves left) (leaves right) h in
    sides_print (codes "(") (part_text left) (codes " * ") (part_text right) refl refl (part_prints count left few sides.0) (part_prints count right few sides.1)
part_prints count (forms.Greater left right) few h =
    let sides = both_sides count (leaves left) (leaves right) h in
    sides_print (codes "max(") (part_text left) (codes ", ") (part_text right) refl refl (part_prints count left few sides.0) (part_prints count right few sides.1)
part_prints count (forms.Lesser left right) few h =
    let sides = both_sides count (leaves left) (leaves right) h in
    sides_print (codes "min(") (part_text left) (codes ", ") (part_text right) refl refl (part_prints count left few sides.0) (part_prints count right few sides.1)

root_prints : (count : ℕ) (left right : WideForm) (between : List ℕ) → count ≤ 4 → list_all is_printable_byte between ≡ true → list_all (is_leaf count) (leaves left ++ leaves right) ≡ true
    → Prints ((part_text left ++ between) ++ part_text right)
root_prints count left right between few printable h =
    let sides = both_sides count (leaves left) (leaves right) h in
    prints-append (prints-append (part_prints count left few sides.0) (literal_prints between printable)) (part_prints count right few sides.1)

wide_prints : (count : ℕ) (term : WideForm) → count ≤ 4 → list_all (is_leaf count) (leaves term) ≡ true → Prints (wide_text term)
wide_prints count (forms.Number number) few h = part_prints count (forms.Number number) few h
wide_prints count (forms.Value place) few h = part_prints count (forms.Value place) few h
wide_prints count (forms.Sum left right) few h = root_prints count left right (codes " + ") few refl h
wide_prints count (forms.Difference left right) few h = root_prints count left right (codes " - ") few refl h
wide_prints count (forms.Product left right) few h = root_prints count left right (codes " * ") few refl h
wide_prints count (forms.Greater left right) few h = part_prints count (forms.Greater left right) few h
wide_prints count (forms.Lesser left right) few h = part_prints count (forms.Lesser left right) few h

-- ---- well-formed terms

-- the spelling of a sign's term in a format
pub record IsTerm (version : ℕ) (entry : Sign × Term) : Type 0 where
  pub text : IsTermText version (term_text entry.1) (variables 1 entry.0.kinds) entry.1 (spelled_term entry.1)
  pub prints : Prints (term_text entry.1)

term_of_sign : TermLaws → (version : ℕ) (sign : Sign) (term : Term) → is_sign sign ≡ true → is_term (sign, term) ≡ true → is_of_form version term ≡ true → IsTerm version (sign, term)
term_of_sign laws version sign (Linear term) sign_fits h form =
    let names = variables 1 sign.kinds in record {
      text = linear_spells version term term names (not_true (is_second version) form) (laws.linear sign term sign_fits h);
      prints = linear_prints (length sign.kinds) term h (sign_parts sign sign_fits).few;
    }
  where
    not_true : (b : Bool) → not b ≡ true → b ≡ false
    not_true true e = cc
    not_true false e = refl
term_of_sign laws version sign (Wide term) sign_fits h form =
    let count = length sign.kinds in
    let few_leaves = nat_le (length (leaves term)) 32 in
    let last = and_parts (few_leaves && list_all (is_leaf count) (leaves term)) (has_no_value_twice (leaves term)) h in
    let first = and_parts few_leaves (list_all (is_leaf count) (leaves term)) last.0 in record {
      text = wide_spells version term term (variables 1 sign.kinds) form (laws.wide sign term sign_fits h);
      prints = wide_prints count term (sign_parts sign sign_fits).few first.1;
    }

pub term_known : TermLaws → (version : ℕ) (entry : Sign × Term) → is_sign entry.0 ≡ true → is_term entry ≡ true → is_of_form version entry.1 ≡ true → IsTerm version entry
term_known laws version entry sign_fits h form = term_of_sign laws version entry.0 entry.1 sign_fits h form
