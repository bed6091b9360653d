-- What a declaration shows by its own words, by what the reading of its term gives.
use Rattle.std.proofs.Common.{◌≡◌, ℕ, Bool, true, false, cond, ◌&&◌, not, nat_le, Some, None, Result, Ok, Err, List, [], ◌∷◌, sym, ◌∙◌, ap, subst}
use Rattle.std.specs.List.{list_all}
use Rattle.std.specs.Option.{option_map}
use Rattle.std.proofs.lemmas.Bool.{and_from, not-false, leb-true, leb-false, le-ltb, lt-ltb}
use Rattle.adp_model.specs.declared.grammar.Term.{Term}
use Rattle.adp_model.specs.WellFormed.{is_name, most_leaves}
use Rattle.job_texts.specs.LetTerms.{LetTerm, counted_leaves, has_names}
use Rattle.job_texts.specs.Declarations.{Declaration, Let}
use Rattle.job_texts.specs.TextFaults.{Counted, limited, misnames, name_words}
use Rattle.algebra_terms.specs.declared.wide_error.WideError.{WideError}
use Rattle.algebra_terms.specs.declared.wide_error.WideError.TheVariants as errors
use Rattle.grammar_text.specs.declared.reader.faults.OwnWords.TheVariants.{Misnamed, Misnumbered, Unknown, Many, Twice, Right}
use Rattle.grammar_text.specs.Judged.{IsJudged, IsRight, has_other_name}
use Rattle.grammar_text.specs.LineTests.{AreOwnWords, IsRightBut}
use Rattle.grammar_text.specs.Names.{first_passing}

-- ---- names

others_named : (declaration : Declaration) → has_other_name declaration ≡ false → list_all is_name (name_words declaration) ≡ true
others_named declaration h = not-false (list_all is_name (name_words declaration)) h

both_named : (others inside : Bool) → others ≡ true → inside ≡ true → not (others && inside) ≡ false
both_named others inside h k = ap not (and_from others inside h k)

inside_misnamed : (others inside : Bool) → others ≡ true → inside ≡ false → not (others && inside) ≡ true
inside_misnamed true inside h k = ap not k
inside_misnamed false inside h k = absurd cc

-- ---- counts

few_leaves : (leaves : ℕ) → nat_le leaves most_leaves ≡ true → first_passing (limited leaves most_leaves ∷ []) ≡ None
few_leaves leaves h = ap (λ b. option_map (λ (counted : Counted). counted.count) (cond b (Some (limited leaves most_leaves)) None)) (le-ltb most_leaves leaves (leb-true leaves most_leaves h))

many_leaves : (leaves : ℕ) → nat_le leaves most_leaves ≡ false → first_passing (limited leaves most_leaves ∷ []) ≡ Some leaves
many_leaves leaves h = ap (λ b. option_map (λ (counted : Counted). counted.count) (cond b (Some (limited leaves most_leaves)) None)) (lt-ltb most_leaves leaves (leb-false leaves most_leaves h))

-- ---- a `let`

-- what the reading of a line's term tells of the line
abbrev pub Tells : Declaration → Result Term WideError → Type 0
Tells line (Ok found) = AreOwnWords line Right
Tells line (Err errors.Shape) = ⊥
Tells line (Err errors.Name) = AreOwnWords line Misnamed
Tells line (Err errors.Number) = AreOwnWords line Misnumbered
Tells line (Err errors.Unknown) = AreOwnWords line Unknown
Tells line (Err (errors.Count leaves)) = AreOwnWords line (Many leaves)
Tells line (Err errors.Twice) = AreOwnWords line Twice
Tells line (Err errors.Memory) = Unit {0}

module _ (sign : List ℕ) (variables : List (List ℕ)) (term : LetTerm) (named : has_other_name (Let sign variables term) ≡ false) where
  names_right : has_names term ≡ true → misnames (Let sign variables term) ≡ false
  names_right h = both_named (list_all is_name (sign ∷ variables)) (has_names term) (others_named (Let sign variables term) named) h

  right_but : IsRight variables term → IsRightBut (Let sign variables term)
  right_but h = (names_right h.0, ap not h.1, h.2)

  own_let : (result : Result Term WideError) → IsJudged variables term result → Tells (Let sign variables term) result
  own_let (Ok found) h = (right_but h.0, few_leaves (counted_leaves term) h.1, h.2)
  own_let (Err errors.Shape) h = h
  own_let (Err errors.Name) h = inside_misnamed (list_all is_name (sign ∷ variables)) (has_names term) (others_named (Let sign variables term) named) h
  own_let (Err errors.Number) h = (names_right h.0, ap not h.1)
  own_let (Err errors.Unknown) h = (names_right h.0, ap not h.1, h.2)
  own_let (Err (errors.Count leaves)) h = (right_but h.0, many_leaves (counted_leaves term) h.1 ∙ ap (λ n. Some n) h.2)
  own_let (Err errors.Twice) h = (right_but h.0, few_leaves (counted_leaves term) h.1, h.2)
  own_let (Err errors.Memory) h = tt

pub own_told : (line : Declaration) (sign : List ℕ) (variables : List (List ℕ)) (term : LetTerm) → line ≡ Let sign variables term → has_other_name line ≡ false
    → (result : Result Term WideError) → IsJudged variables term result → Tells line result
own_told line sign variables term is named result judged =
    subst (λ (d : Declaration). Tells d result) (sym is) (own_let sign variables term (subst (λ (d : Declaration). has_other_name d ≡ false) is named) result judged)
