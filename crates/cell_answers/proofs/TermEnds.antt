-- The first ends with which a term comes to its greatest at the values of laid arguments.
use Rattle.std.proofs.Common.{◌≡◌, ℕ, ◌+◌, ◌<◌, ◌≤◌, ℤ, Some, None, List, [], ◌∷◌, ◌++◌, length, take, sym, ap, subst, ◌∙◌, inl, inr, arith}
use Rattle.std.specs.List.{AllByRecursion}
use Rattle.std.specs.declared.ops.Range.{Range}
use Rattle.std.proofs.lemmas.Bool.{cases_lt}
use Rattle.std.proofs.lemmas.Int.{ints}
use Rattle.adp_model.specs.declared.grammar.Arg.{Arg}
use Rattle.adp_model.specs.declared.grammar.Term.{Term}
use Rattle.adp_model.specs.PosedProblem.{PosedProblem}
use Rattle.adp_model.specs.Parts.{algebra_of}
use Rattle.adp_model.specs.Preference.{LexicographicallyLess}
use Rattle.adp_model.specs.Terms.{term_value}
use Rattle.adp_model.specs.Splits.{AtRule, FitsSpan}
use Rattle.adp_model.specs.FirstSplit.{IsValue}
use Rattle.adp_model.specs.Bellman.{HasBestScore}
use Rattle.viable_splits.specs.Placing.{on_span, ArePositions}
use Rattle.score_numbers.specs.Greatest.{IsGreatestOf}
use Rattle.score_numbers.specs.Turned.{turned}
use Rattle.cell_tables.specs.Tables.{Table}
use Rattle.cell_answers.specs.Entries.{HasEntry}
use Rattle.cell_answers.specs.TermScores.{AreFirstTermEnds, HasTermScore, HasTermScoreBy, HaveValuesBy}
use Rattle.cell_answers.specs.Totals.{HaveValues}
use Rattle.cell_answers.proofs.FirstEnds.{AreSound}
use Rattle.cell_answers.proofs.LaidEnds.{all_there, none_less}
use Rattle.cell_answers.proofs.TermScores.{AreTermLaid, HasTermScoreAt, at_score, cover_behind, first_known_entry, greatest_here, more_before, score_at}
use Rattle.cell_answers.proofs.Totalling.{value_unique, values_cover}

-- ---- no arguments

module _ (p : PosedProblem) (term : Term) (before : List ℤ) (from to : ℕ) (number : ℤ) where
  nothing_laid : (ends : List ℕ) → HasTermScore p term before [] from to number → AllByRecursion (λ end. end ≡ to) ends
      → AreFirstTermEnds p term before [] from to number ends
  nothing_laid ends ([], have, is) all = record { have = ([], (have, all), is); first = first }
    where
      first : (others : List ℕ) → HasTermScoreBy p term before [] from to number others → LexicographicallyLess others ends → ⊥
      first others ([], have', is') less = none_less to others ends have'.1 all less
      first others (value ∷ values, have', is') less = have'
  nothing_laid ends (value ∷ values, have, is) all = absurd have

pub no_ends : (p : PosedProblem) (term : Term) (before : List ℤ) (arguments : List Arg) (from to : ℕ) (number : ℤ)
    (room : ℕ) → length arguments ≡ 0 → HasTermScore p term before arguments from to number
    → AreFirstTermEnds p term before arguments from to number (take room (to ∷ to ∷ to ∷ to ∷ []))
no_ends p term before [] from to number room none has = nothing_laid p term before from to number (take room (to ∷ to ∷ to ∷ to ∷ [])) has (all_there to room)
no_ends p term before (argument ∷ arguments) from to number room none has = absurd (omega (arith, none))

-- ---- one end before others

pub values_by : (p : PosedProblem) (arguments : List Arg) (from to : ℕ) (values : List ℤ) (ends : List ℕ)
    → HaveValuesBy p arguments from to values ends → HaveValues p (HasBestScore p) arguments from to values
values_by p [] from to [] ends have = have.0
values_by p [] from to (value ∷ values) ends have = absurd have
values_by p (argument ∷ arguments) from to [] ends have = absurd have
values_by p (argument ∷ arguments) from to (value ∷ values) [] have = absurd have
values_by p (argument ∷ arguments) from to (value ∷ values) (end ∷ ends) have = (end, have.0, have.1, values_by p arguments end to values ends have.2)

module _ (p : PosedProblem) (term : Term) (before : List ℤ) (argument : Arg) (others : List Arg) (from to : ℕ) (number : ℤ) where
  abbrev At : ℕ → Type 0
  At end = HasTermScoreAt p term before argument others from to end number

  moved : (value : ℤ) (values : List ℤ) → turned (algebra_of p).goal (term_value term (before ++ value ∷ values))
      ≡ turned (algebra_of p).goal (term_value term ((before ++ value ∷ []) ++ values))
  moved value values = ap (λ them. turned (algebra_of p).goal (term_value term them)) (sym (more_before before value values))

  at_by : (end : ℕ) (value : ℤ) (values : List ℤ) (ends : List ℕ)
      → HaveValuesBy p (argument ∷ others) from to (value ∷ values) (end ∷ ends)
      → number ≡ turned (algebra_of p).goal (term_value term (before ++ value ∷ values)) → At end
  at_by end value values ends have is =
      record { fits = have.0; value = value; is_value = have.1; behind = (values, values_by p others end to values ends have.2, is ∙ moved value values) }

  -- the first end with the first ends of the others
  pub first_more : AreSound p → (end : ℕ) (value : ℤ) → FitsSpan p (on_span argument from end)
      → IsValue p (HasBestScore p) (on_span argument from end) value → ((other : ℕ) → At other → end ≤ other)
      → (ends : List ℕ) → AreFirstTermEnds p term (before ++ value ∷ []) others end to number ends
      → AreFirstTermEnds p term before (argument ∷ others) from to number (end ∷ ends)
  first_more sound end value fits is_value none_before ends later = record {
    have = (value ∷ later.have.0, (fits, is_value, later.have.1), later.have.2 ∙ sym (moved value later.have.0));
    first = first;
  }
    where
      first : (found : List ℕ) → HasTermScoreBy p term before (argument ∷ others) from to number found → LexicographicallyLess found (end ∷ ends) → ⊥
      first found ([], have, is) less = have
      first [] (value' ∷ values, have, is) less = have
      first (other ∷ found) (value' ∷ values, have, is) (inl earlier) =
          let l = none_before other (at_by other value' values found have is) in absurd (omega arith)
      first (other ∷ found) (value' ∷ values, have, is) (inr (same, less)) =
          let is_value' = subst (λ at. IsValue p (HasBestScore p) (on_span argument from at) value') same have.1 in
          let one : value' ≡ value = value_unique p (HasBestScore p) sound.one argument from end value' value is_value' is_value in
          let behind : HaveValuesBy p others end to values found = subst (λ at. HaveValuesBy p others at to values found) same have.2 in
          let score : number ≡ turned (algebra_of p).goal (term_value term ((before ++ value ∷ []) ++ values)) =
          subst (λ v. number ≡ turned (algebra_of p).goal (term_value term ((before ++ v ∷ []) ++ values))) one (is ∙ moved value' values) in
          later.first found (values, behind, score) less

  -- ---- ends tried one after another

  -- no end before the bound gives the number
  abbrev pub HasScoreNowhere : ℕ → Type 0
  HasScoreNowhere bound = (end : ℕ) → end < bound → HasTermScoreAt p term before argument others from to end number → ⊥

  one_more : (bound : ℕ) → HasScoreNowhere bound → (At bound → ⊥) → HasScoreNowhere (bound + 1)
  one_more bound nowhere none end l at =
      elim (cases_lt end bound) [
        | inl less ↦ nowhere end less at
        | inr more ↦
            let same : end ≡ bound = omega arith in
            none (subst At same at)
      ]

  module _ (table : Table ℤ) (laid : AreTermLaid p table term before (argument ∷ others) from to) (bound : ℕ)
      (nowhere : HasScoreNowhere bound) (fits : FitsSpan p (on_span argument from bound)) where
    pub none_valued : (AtRule (HasEntry table) (on_span argument from bound) → (value : ℤ)
        → IsValue p (HasBestScore p) (on_span argument from bound) value → ⊥) → HasScoreNowhere (bound + 1)
    none_valued none =
        one_more bound nowhere
        (λ at. none (first_known_entry p term before argument others from to table laid bound fits
        (cover_behind p term before argument others from to bound number at)) at.value at.is_value)

    module _ (sound : AreSound p) (value : ℤ) (told : AtRule (HasEntry table) (on_span argument from bound)
        → IsValue p (HasBestScore p) (on_span argument from bound) value) where
      pub none_scored : IsGreatestOf (HasTermScore p term (before ++ value ∷ []) others bound to) None → HasScoreNowhere (bound + 1)
      none_scored none =
          one_more bound nowhere (λ at. greatest_here p term before argument others from to table laid bound fits sound value told None none number at)

      module _ (greatest : IsGreatestOf (HasTermScore p term before (argument ∷ others) from to) (Some number))
          (best : ℤ) (it : IsGreatestOf (HasTermScore p term (before ++ value ∷ []) others bound to) (Some best)) where
        pub none_so_great : (best ≡ number → ⊥) → HasScoreNowhere (bound + 1)
        none_so_great differs =
            one_more bound nowhere
            (λ at.
            let here = greatest_here p term before argument others from to table laid bound fits sound value told (Some best) it in
            let l = here.1 number at in
            let m = greatest.1 best (at_score p term before argument others from to bound best here.0) in
            differs (omega (arith, ints)))

        pub found_here : best ≡ number → (ends : List ℕ) → AreFirstTermEnds p term (before ++ value ∷ []) others bound
            to number ends → AreFirstTermEnds p term before (argument ∷ others) from to number (bound ∷ ends)
        found_here same ends later =
            let cover = values_cover p (HasBestScore p) others bound to it.0.0 it.0.1 in
            let is_value = told (first_known_entry p term before argument others from to table laid bound fits cover) in
            first_more sound bound value fits is_value
            (λ other at. elim (cases_lt other bound)
            [ inl less ↦ absurd (nowhere other less at) | inr more ↦ more ]) ends later

  module _ (positions : Range ℕ) (are : ArePositions p argument others from to positions) where
    pub none_at_first : HasScoreNowhere positions.start
    none_at_first end l at =
        let missed = are.none_missed end at.fits (cover_behind p term before argument others from to end number at) in
        omega (arith, missed.0)

    -- where all ends were tried one was found
    pub not_all_tried : HasTermScore p term before (argument ∷ others) from to number → (bound : ℕ) → positions.end ≤ bound → HasScoreNowhere bound → ⊥
    not_all_tried has bound l nowhere =
        let it = score_at p term before argument others from to number has in
        let missed = are.none_missed it.0 it.1.fits (cover_behind p term before argument others from to it.0 number it.1) in
        nowhere it.0 (omega (arith, missed.1)) it.1
