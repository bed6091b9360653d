-- The header of a text, line by line up to the `words` line.
use Rattle.std.proofs.Common.{◌≡◌, ℕ, ◌+◌, ◌<◌, true, false, List, [], ◌∷◌, ◌++◌, length, map, drop, get_or, refl, sym, ◌∙◌, ap, append_assoc}
use Rattle.std.specs.Borrow.{Bor}
use Rattle.std.proofs.lemmas.List.{drop_more}
use Rattle.job_texts.specs.JobLines.{up_to_words_line}
use Rattle.job_texts.specs.Declarations as forms
use Rattle.grammar_text.specs.Seen.{words_seen}
use Rattle.grammar_text.specs.Collecting.{is_last}
use Rattle.grammar_text.proofs.WordsLines.{last_is_words}

module _ (version : ℕ) where
  -- the header lines from the i-th on
  abbrev pub heading_from : List (Bor (List ℕ)) → ℕ → List forms.HeaderLine
  heading_from lines i = map (forms.header_line version) (up_to_words_line (words_seen (drop i lines)))

  -- the `words` line is the last
  heading_ends : (lines : List (Bor (List ℕ))) (i : ℕ) (d : Bor (List ℕ)) → i < length lines → is_last ((forms.header_line version) (get_or lines i d).now) ≡ true
      → heading_from lines i ≡ (forms.header_line version) (get_or lines i d).now ∷ []
  heading_ends lines i d inside last =
      rw (drop_more lines i d inside)
      (rw (sym (last_is_words version (get_or lines i d).now) ∙ last) refl)

  -- behind any other line the others follow
  heading_goes_on : (lines : List (Bor (List ℕ))) (i : ℕ) (d : Bor (List ℕ)) → i < length lines → is_last ((forms.header_line version) (get_or lines i d).now) ≡ false
      → heading_from lines i ≡ (forms.header_line version) (get_or lines i d).now ∷ heading_from lines (i + 1)
  heading_goes_on lines i d inside last =
      rw (drop_more lines i d inside)
      (rw (sym (last_is_words version (get_or lines i d).now) ∙ last) refl)

  -- what is seen, with the `words` line last
  pub seen_ends : (seen all : List forms.HeaderLine) (found : forms.HeaderLine) (lines : List (Bor (List ℕ))) (i : ℕ) (d : Bor (List ℕ)) → i < length lines
      → found ≡ (forms.header_line version) (get_or lines i d).now → is_last found ≡ true
      → seen ++ heading_from lines i ≡ all → seen ++ found ∷ [] ≡ all
  seen_ends seen all found lines i d inside is last so_far =
      ap (λ (line : forms.HeaderLine). seen ++ line ∷ []) is
      ∙ ap (λ (rest : List forms.HeaderLine). seen ++ rest) (sym (heading_ends lines i d inside (ap is_last (sym is) ∙ last))) ∙ so_far

  -- what is seen, with one line more
  pub seen_goes_on : (seen all : List forms.HeaderLine) (found : forms.HeaderLine) (lines : List (Bor (List ℕ))) (i : ℕ) (d : Bor (List ℕ)) → i < length lines
      → found ≡ (forms.header_line version) (get_or lines i d).now → is_last found ≡ false
      → seen ++ heading_from lines i ≡ all → (seen ++ found ∷ []) ++ heading_from lines (i + 1) ≡ all
  seen_goes_on seen all found lines i d inside is last so_far =
      append_assoc seen (found ∷ []) (heading_from lines (i + 1))
      ∙ ap (λ (line : forms.HeaderLine). seen ++ line ∷ heading_from lines (i + 1)) is
      ∙ ap (λ (rest : List forms.HeaderLine). seen ++ rest) (sym (heading_goes_on lines i d inside (ap is_last (sym is) ∙ last))) ∙ so_far
