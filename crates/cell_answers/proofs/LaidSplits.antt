-- Splits of a cell by an alternative, as arguments laid by ends: the first ends with the greatest total are the cuts of
-- the cell's answer.
use Rattle.std.proofs.Common.{◌≡◌, ℕ, ◌+◌, ◌-◌, ◌<◌, ◌≤◌, ℤ, ◌+ℤ◌, ◌*ℤ◌, ◌≤ℤ◌, Some, List, [], ◌∷◌, ◌++◌, length, drop}
use Rattle.std.proofs.Common.{refl, sym, ap, subst, ◌∙◌, inl, inr, arith}
use Rattle.std.specs.List.{AllByRecursion}
use Rattle.std.proofs.lemmas.Int.{ints}
use Rattle.adp_model.specs.declared.grammar.Arg.{Arg}
use Rattle.adp_model.specs.declared.grammar.Goal.{Goal}
use Rattle.adp_model.specs.declared.cell.Answer.TheVariants.{Best}
use Rattle.adp_model.specs.declared.cell.Cell.{Cell}
use Rattle.adp_model.specs.PosedProblem.{PosedProblem, IsSpan}
use Rattle.adp_model.specs.Parts.{algebra_of, alternatives_of, arguments_of, term_of}
use Rattle.adp_model.specs.Preference.{LexicographicallyLess}
use Rattle.adp_model.specs.Terms.{weighted_sum, term_value}
use Rattle.adp_model.specs.Splits.{FitsSpan, IsViable, place, placed}
use Rattle.adp_model.specs.FirstSplit.{AreArgumentValues, IsScoredSplit}
use Rattle.adp_model.specs.Answers.{IsAnswer}
use Rattle.adp_model.specs.Bellman.{HasBestScore, Bellman}
use Rattle.score_numbers.specs.Greatest.{IsGreatestOf}
use Rattle.score_numbers.specs.Turned.{turned}
use Rattle.cell_answers.specs.LaidBy.{HasTotalBy, AreFirstEnds}
use Rattle.cell_answers.specs.CellBest.{IsCellBest}
use Rattle.split_lines.specs.Kept.{IsScoredBy}
use Rattle.cell_answers.specs.Totals.{HasTotal, HasTurnedScore, HaveValues}
use Rattle.cell_answers.proofs.BestSplits.{answer_by_cuts, best_allowed, first_split, not_greater}
use Rattle.cell_answers.proofs.LaidEnds.{weighted_none}
use Rattle.cell_answers.proofs.Scoring.{turned_twice, scored_in, turned_in}
use Rattle.cell_answers.proofs.Splitting.{length_ends, values_of_split}
use Rattle.cell_answers.proofs.Totalling.{values_length}

pub lex_more : (xs ys zs ws : List ℕ) → LexicographicallyLess xs ys → LexicographicallyLess (xs ++ zs) (ys ++ ws)
lex_more [] ys zs ws less = absurd less
lex_more (x ∷ xs) [] zs ws less = absurd less
lex_more (x ∷ xs) (y ∷ ys) zs ws (inl less) = inl less
lex_more (x ∷ xs) (y ∷ ys) zs ws (inr (same, less)) = inr (same, lex_more xs ys zs ws less)

-- ---- laid by ends, as splits are told

module _ (p : PosedProblem) where
  -- the arguments are placed by the ends, at these values
  record ArePlacedBy (argument : Arg) (arguments : List Arg) (factors : List ℤ) (from to : ℕ) (total : ℤ) (ends : List ℕ) : Type 0 where
    fits : AllByRecursion (FitsSpan p) (place (argument ∷ arguments) from ends)
    closed : AllByRecursion (λ boundary. boundary ≡ to) (drop (length arguments) ends)
    values : List ℤ
    are : AreArgumentValues p (HasBestScore p) (place (argument ∷ arguments) from ends) values
    is : total ≡ weighted_sum factors values

  placed_by : (argument : Arg) (arguments : List Arg) (factors : List ℤ) (from to : ℕ) (total : ℤ) (ends : List ℕ)
      → HasTotalBy p (HasBestScore p) (argument ∷ arguments) factors from to total ends
      → ArePlacedBy argument arguments factors from to total ends
  placed_by argument arguments [] from to total ends has = absurd has
  placed_by argument arguments (factor ∷ factors) from to total [] has = absurd has
  placed_by argument [] (factor ∷ factors) from to total (end ∷ ends) (value, rest, fits, is_value, (here, closed, none), is) = record {
    fits = (fits, tt);
    closed = (here, closed);
    values = value ∷ [];
    are = (is_value, tt);
    is = is ∙ ap (λ (r : ℤ). (factor *ℤ value) +ℤ r) (none ∙ sym (weighted_none factors));
  }
  placed_by argument (next ∷ arguments) (factor ∷ factors) from to total (end ∷ ends) (value, rest, fits, is_value, has, is) =
      let later = placed_by next arguments factors end to rest ends has in
      record {
        fits = (fits, later.fits);
        closed = later.closed;
        values = value ∷ later.values;
        are = (is_value, later.are);
        is = is ∙ ap (λ (r : ℤ). (factor *ℤ value) +ℤ r) later.is;
      }

  by_placed : (argument : Arg) (arguments : List Arg) (factors : List ℤ) (from to : ℕ) (ends : List ℕ) (values : List ℤ)
      → length factors ≡ length (argument ∷ arguments) → length arguments + 1 ≤ length ends
      → AllByRecursion (FitsSpan p) (place (argument ∷ arguments) from ends)
      → AllByRecursion (λ boundary. boundary ≡ to) (drop (length arguments) ends)
      → AreArgumentValues p (HasBestScore p) (place (argument ∷ arguments) from ends) values
      → HasTotalBy p (HasBestScore p) (argument ∷ arguments) factors from to (weighted_sum factors values) ends
  by_placed argument arguments [] from to ends values each many fits closed are = absurd (omega (arith, each))
  by_placed argument arguments (factor ∷ factors) from to [] values each many fits closed are = absurd (omega arith)
  by_placed argument arguments (factor ∷ factors) from to (end ∷ ends) [] each many fits closed are = absurd are
  by_placed argument [] (factor ∷ factors) from to (end ∷ ends) (value ∷ []) each many fits closed are =
      (value, weighted_sum factors [], fits.0, are.0, (closed.0, closed.1, weighted_none factors), refl)
  by_placed argument [] (factor ∷ factors) from to (end ∷ ends) (value ∷ other ∷ values) each many fits closed are = absurd are.1
  by_placed argument (next ∷ arguments) (factor ∷ factors) from to (end ∷ ends) (value ∷ values) each many fits closed are = (
    value,
    weighted_sum factors values,
    fits.0,
    are.0,
    by_placed next arguments factors end to ends values
        (omega (arith, each)) (omega arith) fits.1 closed are.1,
    refl,
  )

-- ---- the last end

abbrev pub last_of : ℕ → List ℕ → ℕ
last_of x [] = x
last_of x (y ∷ ys) = last_of y ys

pub last_all : (to x : ℕ) (xs : List ℕ) → AllByRecursion (λ end. end ≡ to) (x ∷ xs) → last_of x xs ≡ to
last_all to x [] all = all.0
last_all to x (y ∷ ys) all = last_all to y ys all.1

-- ends that are as many as the arguments, or more, come to the last position
last_at : (p : PosedProblem) (arguments : List Arg) (factors : List ℤ) (from to : ℕ) (total : ℤ) (x : ℕ) (xs : List ℕ)
    → length arguments ≤ length (x ∷ xs) → HasTotalBy p (HasBestScore p) arguments factors from to total (x ∷ xs)
    → last_of x xs ≡ to
last_at p [] factors from to total x xs l has = last_all to x xs has.1
last_at p (argument ∷ arguments) [] from to total x xs l has = absurd has
last_at p (argument ∷ []) (factor ∷ factors) from to total x [] l (value, rest, fits, is_value, has, is) = has.0
last_at p (argument ∷ next ∷ arguments) (factor ∷ factors) from to total x [] l has = absurd (omega arith)
last_at p (argument ∷ arguments) (factor ∷ factors) from to total x (y ∷ ys) l (value, rest, fits, is_value, has, is) =
    last_at p arguments factors x to rest y ys (omega arith) has

-- ---- the splits of an alternative

module _ (p : PosedProblem) (bellman : Bellman p) (cell : Cell) (span : IsSpan p.word cell.from cell.to)
    (some : (alternative : ℕ) → alternative < length (alternatives_of p.grammar cell.rule) → 1 ≤ length (arguments_of p.grammar cell.rule alternative))
    (few : (alternative : ℕ) → length (arguments_of p.grammar cell.rule alternative) ≤ 4)
    (alternative : ℕ) (in_range : alternative < length (alternatives_of p.grammar cell.rule))
    (constant : ℤ) (factors : List ℤ) (is_scored : IsScoredBy p cell.rule alternative constant factors)
    (best : ℤ) (given : IsCellBest p cell best alternative) where
  abbrev goal : Goal
  goal = (algebra_of p).goal

  abbrev Scored : ℤ → List ℕ → Type 0
  Scored score cuts = IsScoredSplit p (HasBestScore p) cell score (record { alt = alternative; cuts = cuts })

  abbrev Laid : ℤ → List ℕ → Type 0
  Laid total ends = HasTotalBy p (HasBestScore p) (arguments_of p.grammar cell.rule alternative) factors cell.from cell.to total ends

  turned_value : (values : List ℤ) → HaveValues p (HasBestScore p) (arguments_of p.grammar cell.rule alternative) cell.from cell.to values
      → turned goal (term_value (term_of p cell.rule alternative) values) ≡ (constant +ℤ weighted_sum factors values)
  turned_value values have =
      is_scored.value values (values_length p (HasBestScore p) (arguments_of p.grammar cell.rule alternative) cell.from cell.to values have)

  -- the same of the values of a split
  split_value : (cuts : List ℕ) (values : List ℤ) → IsViable p cell alternative cuts
      → AreArgumentValues p (HasBestScore p) (placed p cell alternative cuts) values
      → turned goal (term_value (term_of p cell.rule alternative) values) ≡ (constant +ℤ weighted_sum factors values)
  split_value cuts values viable are =
      turned_value values (values_of_split p (HasBestScore p) cell alternative cuts values (some alternative in_range) (few alternative) viable are)

  -- ends with a total are the cuts of a split
  scored_by : (total : ℤ) (cuts : List ℕ) → length cuts ≡ 3 → Laid total (cuts ++ cell.to ∷ []) → Scored (turned goal (constant +ℤ total)) cuts
  scored_by total cuts three laid = by (arguments_of p.grammar cell.rule alternative) refl laid
    where
      by : (arguments : List Arg) → arguments_of p.grammar cell.rule alternative ≡ arguments
          → HasTotalBy p (HasBestScore p) arguments factors cell.from cell.to total (cuts ++ cell.to ∷ [])
          → Scored (turned goal (constant +ℤ total)) cuts
      by [] e laid = absurd (let l = some alternative in_range in omega (arith, ap length e))
      by (argument ∷ arguments) e laid =
          let it = placed_by p argument arguments factors cell.from cell.to total (cuts ++ cell.to ∷ []) laid in
          let fewer : length arguments ≡ length (arguments_of p.grammar cell.rule alternative) - 1 = omega (arith, ap length e) in
          let ends = cuts ++ cell.to ∷ [] in
          let viable : IsViable p cell alternative cuts = record {
            in_range = in_range;
            allowed = best_allowed p bellman cell span some few alternative in_range best given;
            three = three;
            last = subst (λ n. AllByRecursion (λ boundary. boundary ≡ cell.to) (drop n ends)) fewer it.closed;
            fits = subst (λ them. AllByRecursion (FitsSpan p) (place them cell.from ends)) (sym e) it.fits;
          } in
          let are : AreArgumentValues p (HasBestScore p) (placed p cell alternative cuts) it.values =
          subst (λ them. AreArgumentValues p (HasBestScore p) (place them cell.from ends) it.values) (sym e) it.are in
          let score : turned goal (constant +ℤ total) ≡ term_value (term_of p cell.rule alternative) it.values =
          ap (λ (t : ℤ). turned goal (constant +ℤ t)) it.is ∙ ap (turned goal) (sym (split_value cuts it.values viable are))
          ∙ turned_twice goal (term_value (term_of p cell.rule alternative) it.values) in
          record { viable = viable; values = it.values; are_values = are; scored = score }

  -- and the cuts of a split with the score are such ends
  by_scored : (total score : ℤ) (cuts : List ℕ) → turned goal score ≡ (constant +ℤ total) → Scored score cuts → Laid total (cuts ++ cell.to ∷ [])
  by_scored total score cuts told scored = by (arguments_of p.grammar cell.rule alternative) refl
    where
      ends : List ℕ
      ends = cuts ++ cell.to ∷ []

      by : (arguments : List Arg) → arguments_of p.grammar cell.rule alternative ≡ arguments → Laid total ends
      by [] e = absurd (let l = some alternative in_range in omega (arith, ap length e))
      by (argument ∷ arguments) e =
          let fewer : length (arguments_of p.grammar cell.rule alternative) - 1 ≡ length arguments = omega (arith, ap length e) in
          let four = few alternative in
          let closed = subst (λ n. AllByRecursion (λ boundary. boundary ≡ cell.to) (drop n ends)) fewer scored.viable.last in
          let fits = subst (λ them. AllByRecursion (FitsSpan p) (place them cell.from ends)) e scored.viable.fits in
          let are = subst (λ them. AreArgumentValues p (HasBestScore p) (place them cell.from ends) scored.values) e scored.are_values in
          let long : length factors ≡ length (argument ∷ arguments) = is_scored.each ∙ ap length e in
          let laid = by_placed p argument arguments factors cell.from cell.to ends scored.values long
          (omega (arith, four, ap length e, scored.viable.three, length_ends p cuts cell.to)) fits closed are in
          let same : (constant +ℤ weighted_sum factors scored.values) ≡ (constant +ℤ total) =
          sym (split_value cuts scored.values scored.viable scored.are_values)
          ∙ ap (turned goal) (sym scored.scored) ∙ told in
          let total_is : weighted_sum factors scored.values ≡ total = omega (arith, ints) in
          subst (λ them. HasTotalBy p (HasBestScore p) them factors cell.from cell.to total ends) (sym e)
          (subst (λ t. HasTotalBy p (HasBestScore p) (argument ∷ arguments) factors cell.from cell.to t ends)
          total_is laid)

  -- what the best score leaves for the arguments is their greatest total
  pub total_greatest : (total : ℤ) → turned goal best ≡ (constant +ℤ total)
      → IsGreatestOf (HasTotal p (HasBestScore p) (arguments_of p.grammar cell.rule alternative) factors cell.from
      cell.to) (Some total)
  total_greatest total told =
      let scored = scored_in p bellman cell span some few best (record { alt = alternative; cuts = given.0 })
      (first_split p bellman cell span some few alternative in_range best given).0 in
      let has = scored.1 in
      let same : (constant +ℤ weighted_sum factors has.0) ≡ (constant +ℤ total) = sym (turned_value has.0 has.1) ∙ sym has.2 ∙ told in
      ((has.0, has.1, omega (arith, ints)), λ number it. below number it)
    where
      below : (number : ℤ) → HasTotal p (HasBestScore p) (arguments_of p.grammar cell.rule alternative) factors cell.from cell.to number → number ≤ℤ total
      below number (values, have, is) =
          let score : HasTurnedScore p cell alternative (constant +ℤ number) = (
            best_allowed p bellman cell span some few alternative in_range best given,
            (values, have, ap (λ (t : ℤ). constant +ℤ t) is ∙ sym (turned_value values have)),
          ) in
          let split = turned_in p bellman cell span some few (constant +ℤ number) alternative in_range score in
          let l = not_greater p bellman cell span some few alternative in_range best given (constant +ℤ number)
          (λ better. (first_split p bellman cell span some few alternative in_range best given).1
          (turned goal (constant +ℤ number)) (record { alt = alternative; cuts = split.0 }) split.1 (inl better)) in
          omega (arith, ints)

  -- the first ends are the cuts of the answer
  pub answer_by : (total : ℤ) → turned goal best ≡ (constant +ℤ total) → (cuts : List ℕ) → length cuts ≡ 3
      → AreFirstEnds p (arguments_of p.grammar cell.rule alternative) factors cell.from cell.to total
      (cuts ++ cell.to ∷ [])
      → IsAnswer p cell (Best best (record { alt = alternative; cuts = cuts }))
  answer_by total told cuts three first =
      answer_by_cuts p bellman cell span some few alternative in_range best given cuts
      (subst (λ score. Scored score cuts) score_is (scored_by total cuts three first.have))
      (λ others has less. first.first (others ++ cell.to ∷ []) (by_scored total best others told has) (lex_more others cuts (cell.to ∷ []) (cell.to ∷ []) less))
    where
      score_is : turned goal (constant +ℤ total) ≡ best
      score_is = ap (turned goal) (sym told) ∙ turned_twice goal best

  -- the same of four ends, the last of which is that of the cell
  pub answer_by_ends : (total : ℤ) → turned goal best ≡ (constant +ℤ total) → (a b c d : ℕ)
      → AreFirstEnds p (arguments_of p.grammar cell.rule alternative) factors cell.from cell.to total
      (a ∷ b ∷ c ∷ d ∷ [])
      → IsAnswer p cell (Best best (record { alt = alternative; cuts = a ∷ b ∷ c ∷ [] }))
  answer_by_ends total told a b c d first =
      let last : d ≡ cell.to = last_at p (arguments_of p.grammar cell.rule alternative) factors cell.from cell.to total
      a (b ∷ c ∷ d ∷ []) (few alternative) first.have in
      answer_by total told (a ∷ b ∷ c ∷ []) refl
      (subst (λ at. AreFirstEnds p (arguments_of p.grammar cell.rule alternative) factors cell.from cell.to total
      (a ∷ b ∷ c ∷ at ∷ [])) last first)
