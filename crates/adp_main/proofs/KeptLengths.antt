-- A word keeps the limits by its length alone, and what is kept for lengths.
use Rattle.std.proofs.Common.{◌≡◌, ℕ, ◌+◌, ◌<◌, ◌≤◌, inl, inr, ◌⊎◌, Option, None, Some, IsSome, List, [], length, take, set, get_or, slice_index_or, refl, ◌∙◌, sym, ap, subst, arith}
use Rattle.std.proofs.lemmas.Bool.{cases_eq, false≢true}
use Rattle.std.proofs.lemmas.Option.{none-some}
use Rattle.std.proofs.lemmas.List.{get_or-set_other, get_or-set_same, get_or_read, take_all}
use Rattle.adp_model.specs.declared.grammar.Grammar.{Grammar}
use Rattle.adp_model.specs.ProblemFields.{KeepsLimits}
use Rattle.lex_product.specs.PairLimits.{KeepsPairLimits}
use Rattle.verdicts.specs.SecondAlgebra.{IsAdmissibleWith}
use Rattle.adp_main.specs.KeptLengths.{AreKeptLengths, HasKept, HaveKept, IsCompiledBound, IsFound, IsKeptBound}
use Rattle.verdicts.specs.Posed.{posed_word}

module _ (grammar : Grammar) (algebra : ℕ) where
  pub admissible_by_length : (second : Option (List ℕ)) (word other : List ℕ) → length other ≡ length word
      → IsAdmissibleWith second (posed_word grammar algebra word)
      → IsAdmissibleWith second (posed_word grammar algebra other)
  admissible_by_length None word other same is = record {
    least = is.least;
    greatest = is.greatest;
    ranks = is.ranks;
    checked = is.checked;
    limits = subst (KeepsLimits grammar algebra) (sym same) is.limits;
  }
  admissible_by_length (Some name) word other same is = (
    is.0,
    is.1,
    record {
      least = is.2.least;
      greatest = is.2.greatest;
      ranks = is.2.ranks;
      checked = is.2.checked;
      limits = subst (KeepsPairLimits grammar algebra is.0) (sym same) is.2.limits;
    },
  )

  -- where nothing is kept, nothing is to be shown
  pub nothing_kept : (second : Option (List ℕ)) (kept : List (Option ℕ))
      → ((len : ℕ) → slice_index_or kept len None ≡ None) → AreKeptLengths second grammar algebra kept
  nothing_kept second kept none word =
      subst (IsKeptBound second grammar algebra word) (sym (none (length word))) tt

  -- what is kept for a word
  pub kept_before : (second : Option (List ℕ)) (word : List ℕ) (kept : Option ℕ) → IsSome kept
      → IsKeptBound second grammar algebra word kept
      → IsAdmissibleWith second (posed_word grammar algebra word) × IsFound second grammar algebra (length word) kept
  kept_before second word None some is = absurd (false≢true some)
  kept_before second word (Some number) some is = is

  -- one bound more is kept
  module _ (second : Option (List ℕ)) (kept : List (Option ℕ)) (word : List ℕ) (number : ℕ)
      (inside : length word < length kept) (found : IsFound second grammar algebra (length word) (Some number)) where
    abbrev pub more : List (Option ℕ)
    more = set kept (length word) (Some number)

    at_word : (len : ℕ) → len ≡ length word → slice_index_or more len None ≡ Some number
    at_word len same =
        subst (λ n. slice_index_or more n None ≡ Some number) (sym same)
        (get_or-set_same kept (length word) (Some number) None inside)

    elsewhere : (len : ℕ) → (len ≡ length word → ⊥) → slice_index_or more len None ≡ slice_index_or kept len None
    elsewhere len apart = get_or-set_other kept (length word) len (Some number) None apart

    pub one_more_length : AreKeptLengths second grammar algebra kept
        → IsAdmissibleWith second (posed_word grammar algebra word) → AreKeptLengths second grammar algebra more
    one_more_length before here other = go (cases_eq (length other) (length word)) where
      go : (length other ≡ length word) ⊎ (length other ≡ length word → ⊥)
          → IsKeptBound second grammar algebra other (slice_index_or more (length other) None)
      go (inl same) =
          subst (IsKeptBound second grammar algebra other) (sym (at_word (length other) same)) (
            admissible_by_length second word other same here,
            subst (λ n. IsFound second grammar algebra n (Some number)) (sym same) found,
          )
      go (inr apart) =
          subst (IsKeptBound second grammar algebra other) (sym (elsewhere (length other) apart)) (before other)

    pub there : HasKept second grammar algebra more (length word)
    there = subst (IsFound second grammar algebra (length word)) (sym (at_word (length word) refl)) found

    pub others_stay : (len : ℕ) → HasKept second grammar algebra kept len → HasKept second grammar algebra more len
    others_stay len before = go (cases_eq len (length word)) where
      go : (len ≡ length word) ⊎ (len ≡ length word → ⊥) → HasKept second grammar algebra more len
      go (inl same) = subst (HasKept second grammar algebra more) (sym same) there
      go (inr apart) = subst (IsFound second grammar algebra len) (sym (elsewhere len apart)) before

  -- one word more has its bound kept
  pub one_more_word : (second : Option (List ℕ)) (before after : List (Option ℕ)) (words : List (List ℕ)) (place : ℕ)
      (word : List ℕ) → place < length words → word ≡ get_or words place word
      → ((len : ℕ) → HasKept second grammar algebra before len → HasKept second grammar algebra after len)
      → HasKept second grammar algebra after (length word)
      → ((at : ℕ) → at < place → HasKept second grammar algebra before (length (get_or words at [])))
      → (at : ℕ) → at < place + 1 → HasKept second grammar algebra after (length (get_or words at []))
  one_more_word second before after words place word inside is stay here earlier at below = go (cases_eq at place) where
    go : (at ≡ place) ⊎ (at ≡ place → ⊥) → HasKept second grammar algebra after (length (get_or words at []))
    go (inl same) =
        subst (λ (w : List ℕ). HasKept second grammar algebra after (length w))
        (get_or_read words place word inside is [] ∙ ap (λ n. get_or words n []) (sym same)) here
    go (inr apart) = stay (length (get_or words at [])) (earlier at (omega (arith, apart, below)))

  -- the first words, where these are all
  pub have_all : (second : Option (List ℕ)) (kept : List (Option ℕ)) (words : List (List ℕ)) (count done : ℕ)
      → count ≡ length words → length (take count words) ≤ done
      → ((at : ℕ) → at < done → HasKept second grammar algebra kept (length (get_or (take count words) at [])))
      → HaveKept second grammar algebra kept words
  have_all second kept words count done all through first =
      subst (HaveKept second grammar algebra kept) (take_all count words (omega (arith, all)))
      (λ place inside. first place (omega (arith, inside, through)))

  -- a word among those whose bounds are kept
  pub kept_at : (second : Option (List ℕ)) (kept : List (Option ℕ)) (words : List (List ℕ)) (place : ℕ) (word : List ℕ)
      → place < length words → word ≡ get_or words place word → HaveKept second grammar algebra kept words
      → HasKept second grammar algebra kept (length word)
  kept_at second kept words place word inside is have =
      subst (λ (w : List ℕ). HasKept second grammar algebra kept (length w))
      (sym (get_or_read words place word inside is [])) (have place inside)

  -- what was found where a second algebra is asked for
  pub found_there : (second : Option (List ℕ)) (len : ℕ) → IsSome second → IsFound second grammar algebra len None → ⊥
  found_there None len some is = absurd (false≢true some)
  found_there (Some name) len some is = is

  pub found_bound : (second : Option (List ℕ)) (len number : ℕ) → IsFound second grammar algebra len (Some number)
      → IsCompiledBound second grammar algebra len number
  found_bound None len number is = absurd (none-some number (sym is))
  found_bound (Some name) len number is = is
