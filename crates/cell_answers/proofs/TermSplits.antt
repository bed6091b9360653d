-- Splits of a cell by an alternative that is scored by its term: the first ends with the greatest score are the cuts of
-- the cell's answer.
use Rattle.std.proofs.Common.{◌≡◌, ℕ, ◌+◌, ◌-◌, ◌<◌, ◌≤◌, ℤ, List, [], ◌∷◌, ◌++◌, length, drop, refl, sym, ap, subst, ◌∙◌, arith}
use Rattle.std.specs.List.{AllByRecursion}
use Rattle.adp_model.specs.declared.grammar.Arg.{Arg}
use Rattle.adp_model.specs.declared.grammar.Goal.{Goal}
use Rattle.adp_model.specs.declared.cell.Answer.TheVariants.{Best}
use Rattle.adp_model.specs.declared.cell.Cell.{Cell}
use Rattle.adp_model.specs.PosedProblem.{PosedProblem, IsSpan}
use Rattle.adp_model.specs.Parts.{algebra_of, alternatives_of, arguments_of, term_of}
use Rattle.adp_model.specs.Terms.{term_value}
use Rattle.adp_model.specs.Splits.{FitsSpan, IsViable, place, placed}
use Rattle.adp_model.specs.FirstSplit.{AreArgumentValues, IsScoredSplit}
use Rattle.adp_model.specs.Answers.{IsAnswer}
use Rattle.adp_model.specs.Bellman.{HasBestScore, Bellman}
use Rattle.score_numbers.specs.Turned.{turned}
use Rattle.cell_answers.specs.CellBest.{IsCellBest}
use Rattle.cell_answers.specs.TermScores.{AreFirstTermEnds, HasTermScoreBy, HaveValuesBy}
use Rattle.cell_answers.proofs.BestSplits.{answer_by_cuts, best_allowed}
use Rattle.cell_answers.proofs.LaidSplits.{last_all, last_of, lex_more}
use Rattle.cell_answers.proofs.Scoring.{turned_twice}
use Rattle.cell_answers.proofs.Splitting.{length_ends}

-- ---- laid by ends, as splits are told

module _ (p : PosedProblem) where
  -- the arguments are placed by the ends, with these values
  record ArePlacedBy (argument : Arg) (arguments : List Arg) (from to : ℕ) (values : List ℤ) (ends : List ℕ) : Type 0 where
    fits : AllByRecursion (FitsSpan p) (place (argument ∷ arguments) from ends)
    closed : AllByRecursion (λ boundary. boundary ≡ to) (drop (length arguments) ends)
    are : AreArgumentValues p (HasBestScore p) (place (argument ∷ arguments) from ends) values

  placed_by : (argument : Arg) (arguments : List Arg) (from to : ℕ) (values : List ℤ) (ends : List ℕ)
      → HaveValuesBy p (argument ∷ arguments) from to values ends → ArePlacedBy argument arguments from to values ends
  placed_by argument arguments from to [] ends have = absurd have
  placed_by argument arguments from to (value ∷ values) [] have = absurd have
  placed_by argument [] from to (value ∷ []) (end ∷ ends) (fits, is_value, (here, closed)) =
      record { fits = (fits, tt); closed = (here, closed); are = (is_value, tt) }
  placed_by argument [] from to (value ∷ other ∷ values) (end ∷ ends) (fits, is_value, have) = absurd have
  placed_by argument (next ∷ arguments) from to (value ∷ values) (end ∷ ends) (fits, is_value, have) =
      let later = placed_by next arguments end to values ends have in
      record { fits = (fits, later.fits); closed = later.closed; are = (is_value, later.are) }

  by_placed : (argument : Arg) (arguments : List Arg) (from to : ℕ) (values : List ℤ) (ends : List ℕ) → length arguments + 1 ≤ length ends
      → AllByRecursion (FitsSpan p) (place (argument ∷ arguments) from ends)
      → AllByRecursion (λ boundary. boundary ≡ to) (drop (length arguments) ends)
      → AreArgumentValues p (HasBestScore p) (place (argument ∷ arguments) from ends) values
      → HaveValuesBy p (argument ∷ arguments) from to values ends
  by_placed argument arguments from to values [] many fits closed are = absurd (omega arith)
  by_placed argument arguments from to [] (end ∷ ends) many fits closed are = absurd are
  by_placed argument [] from to (value ∷ []) (end ∷ ends) many fits closed are = (fits.0, are.0, closed)
  by_placed argument [] from to (value ∷ other ∷ values) (end ∷ ends) many fits closed are = absurd are.1
  by_placed argument (next ∷ arguments) from to (value ∷ values) (end ∷ ends) many fits closed are =
      (fits.0, are.0, by_placed next arguments end to values ends (omega arith) fits.1 closed are.1)

-- ends that are as many as the arguments, or more, come to the last position
last_at : (p : PosedProblem) (arguments : List Arg) (from to : ℕ) (values : List ℤ) (x : ℕ) (xs : List ℕ)
    → length arguments ≤ length (x ∷ xs) → HaveValuesBy p arguments from to values (x ∷ xs) → last_of x xs ≡ to
last_at p [] from to [] x xs l have = last_all to x xs have.1
last_at p [] from to (value ∷ values) x xs l have = absurd have
last_at p (argument ∷ arguments) from to [] x xs l have = absurd have
last_at p (argument ∷ []) from to (value ∷ []) x [] l have = have.2.0
last_at p (argument ∷ []) from to (value ∷ other ∷ values) x [] l have = absurd have.2
last_at p (argument ∷ next ∷ arguments) from to (value ∷ values) x [] l have = absurd (omega arith)
last_at p (argument ∷ arguments) from to (value ∷ values) x (y ∷ ys) l have = last_at p arguments x to values y ys (omega arith) have.2

-- ---- the splits of an alternative

module _ (p : PosedProblem) (bellman : Bellman p) (cell : Cell) (span : IsSpan p.word cell.from cell.to)
    (some : (alternative : ℕ) → alternative < length (alternatives_of p.grammar cell.rule) → 1 ≤ length (arguments_of p.grammar cell.rule alternative))
    (few : (alternative : ℕ) → length (arguments_of p.grammar cell.rule alternative) ≤ 4)
    (alternative : ℕ) (in_range : alternative < length (alternatives_of p.grammar cell.rule))
    (best : ℤ) (given : IsCellBest p cell best alternative) where
  abbrev goal : Goal
  goal = (algebra_of p).goal

  abbrev Scored : List ℕ → Type 0
  Scored cuts = IsScoredSplit p (HasBestScore p) cell best (record { alt = alternative; cuts = cuts })

  abbrev Laid : List Arg → List ℕ → Type 0
  Laid arguments ends = HasTermScoreBy p (term_of p cell.rule alternative) [] arguments cell.from cell.to (turned goal best) ends

  -- ends with the best score are the cuts of a split
  scored_by : (cuts : List ℕ) → length cuts ≡ 3 → Laid (arguments_of p.grammar cell.rule alternative) (cuts ++ cell.to ∷ []) → Scored cuts
  scored_by cuts three laid = by (arguments_of p.grammar cell.rule alternative) refl laid
    where
      by : (arguments : List Arg) → arguments_of p.grammar cell.rule alternative ≡ arguments → Laid arguments (cuts ++ cell.to ∷ []) → Scored cuts
      by [] e laid = absurd (let l = some alternative in_range in omega (arith, ap length e))
      by (argument ∷ arguments) e (values, have, is) =
          let it = placed_by p argument arguments cell.from cell.to values (cuts ++ cell.to ∷ []) have in
          let fewer : length arguments ≡ length (arguments_of p.grammar cell.rule alternative) - 1 = omega (arith, ap length e) in
          let ends = cuts ++ cell.to ∷ [] in
          let viable : IsViable p cell alternative cuts = record {
            in_range = in_range;
            allowed = best_allowed p bellman cell span some few alternative in_range best given;
            three = three;
            last = subst (λ n. AllByRecursion (λ boundary. boundary ≡ cell.to) (drop n ends)) fewer it.closed;
            fits = subst (λ them. AllByRecursion (FitsSpan p) (place them cell.from ends)) (sym e) it.fits;
          } in
          let are : AreArgumentValues p (HasBestScore p) (placed p cell alternative cuts) values =
          subst (λ them. AreArgumentValues p (HasBestScore p) (place them cell.from ends) values) (sym e) it.are in
          let score : best ≡ term_value (term_of p cell.rule alternative) values =
          sym (turned_twice goal best) ∙ ap (turned goal) is ∙ turned_twice goal (term_value (term_of p cell.rule alternative) values) in
          record { viable = viable; values = values; are_values = are; scored = score }

  -- and the cuts of a split with the score are such ends
  by_scored : (cuts : List ℕ) → Scored cuts → Laid (arguments_of p.grammar cell.rule alternative) (cuts ++ cell.to ∷ [])
  by_scored cuts scored = (scored.values, by (arguments_of p.grammar cell.rule alternative) refl, ap (turned goal) scored.scored)
    where
      ends : List ℕ
      ends = cuts ++ cell.to ∷ []

      by : (arguments : List Arg) → arguments_of p.grammar cell.rule alternative ≡ arguments
          → HaveValuesBy p (arguments_of p.grammar cell.rule alternative) cell.from cell.to scored.values ends
      by [] e = absurd (let l = some alternative in_range in omega (arith, ap length e))
      by (argument ∷ arguments) e =
          let fewer : length (arguments_of p.grammar cell.rule alternative) - 1 ≡ length arguments = omega (arith, ap length e) in
          let four = few alternative in
          let closed = subst (λ n. AllByRecursion (λ boundary. boundary ≡ cell.to) (drop n ends)) fewer scored.viable.last in
          let fits = subst (λ them. AllByRecursion (FitsSpan p) (place them cell.from ends)) e scored.viable.fits in
          let are = subst (λ them. AreArgumentValues p (HasBestScore p) (place them cell.from ends) scored.values) e scored.are_values in
          subst (λ them. HaveValuesBy p them cell.from cell.to scored.values ends) (sym e)
          (by_placed p argument arguments cell.from cell.to scored.values ends
          (omega (arith, four, ap length e, scored.viable.three, length_ends p cuts cell.to)) fits closed are)

  abbrev AreFirst : List ℕ → Type 0
  AreFirst ends =
      AreFirstTermEnds p (term_of p cell.rule alternative) [] (arguments_of p.grammar cell.rule alternative) cell.from cell.to (turned goal best) ends

  -- the first ends are the cuts of the answer
  answer_by : (cuts : List ℕ) → length cuts ≡ 3 → AreFirst (cuts ++ cell.to ∷ []) → IsAnswer p cell (Best best (record { alt = alternative; cuts = cuts }))
  answer_by cuts three first =
      answer_by_cuts p bellman cell span some few alternative in_range best given cuts (scored_by cuts three first.have)
      (λ others has less. first.first (others ++ cell.to ∷ []) (by_scored others has) (lex_more others cuts (cell.to ∷ []) (cell.to ∷ []) less))

  -- the same of four ends, the last of which is that of the cell
  pub answer_by_term_ends : (a b c d : ℕ) → AreFirst (a ∷ b ∷ c ∷ d ∷ []) → IsAnswer p cell (Best best (record { alt = alternative; cuts = a ∷ b ∷ c ∷ [] }))
  answer_by_term_ends a b c d first =
      let last : d ≡ cell.to = last_at p (arguments_of p.grammar cell.rule alternative) cell.from cell.to first.have.0 a
      (b ∷ c ∷ d ∷ []) (few alternative) first.have.1 in
      answer_by (a ∷ b ∷ c ∷ []) refl (subst (λ at. AreFirst (a ∷ b ∷ c ∷ at ∷ [])) last first)
