use Rattle.std.proofs.Common.{◌≡◌, ◌≤◌, ℕ, ℤ, pos, ◌+ℤ◌, Option, Some, List, [], ◌∷◌, ◌++◌, length, get_or, FitsSigned}
use Rattle.std.proofs.Common.{to_z, of_z, w64, nat_abs, sym, ap, subst, ◌∙◌, arith, rules}
use Rattle.std.proofs.lemmas.List.{get_or_default}
use Rattle.adp_model.specs.declared.grammar.Arg.{Arg}
use Rattle.std.proofs.lemmas.Int.{to_z-of_z}
use Rattle.adp_model.specs.PosedProblem.{PosedProblem}
use Rattle.adp_model.specs.ProblemFields.{greatest_score, IsAdmissible}
use Rattle.adp_model.specs.Bellman.{HasBestScore}
use Rattle.adp_model.specs.declared.cell.Cell.{Cell}
use Rattle.split_lines.specs.declared.kept.KeptAlternative.{KeptAlternative}
use Rattle.split_lines.specs.declared.kept.WeightedSum.{WeightedSum}
use Rattle.split_lines.specs.Kept.{IsAlternative, IsSummed, factors_behind}
use Rattle.cell_answers.specs.Tails.{IsTail}
use Rattle.cell_answers.proofs.TailFactors.{whole_tail}
use Rattle.cell_answers.specs.Totals.{HasLaidScore, HasTotal, AreLow, AreWeighted}
use Rattle.score_numbers.specs.Greatest.{IsGreatestOf}
use Rattle.cell_answers.proofs.Alternatives.{TokensKeepBound, alternative_laid}
use Rattle.cell_answers.proofs.Bounding.{AreTermLaws}
use Rattle.cell_answers.proofs.FirstEnds.{AreLaid, AreSound}
use Rattle.cell_answers.proofs.FrontScores.{both, front_factors, other_factors, others_each, to_kept, no_score, score_is, all_low}
use Rattle.cell_answers.proofs.Fronts.{others_laid, front_weighted, front_low, total_without_others, greatest_with_front, both_low}
use Rattle.cell_answers.proofs.Lists.{one_alone}
use Rattle.cell_answers.proofs.OneEnds.{total_of_none}
use Rattle.cell_answers.proofs.Soundness.{fits_below, sound_of}
use Rattle.cell_answers.proofs.filling.score_by_sum.Goals as goal
use Rattle.cell_answers.proofs.filling.score_by_sum.Goals.{After-arguments_are_few_and_known, After-front_factors, in-Front, in-Last, in-Several}

admissible : (c : After-arguments_are_few_and_known) → IsAdmissible c.args.lines.now
admissible c = let A : PosedProblem → Type 0 = IsAdmissible in subst A c.problem.ensures c.admissible.ensures

bounded : (c : After-arguments_are_few_and_known) → TokensKeepBound c.args.lines.now
bounded c = c.words_keep_their_score_bound.ensures.token c.args.lines.now

sound : (c : After-arguments_are_few_and_known) → AreSound c.args.lines.now
sound c = sound_of c.args.lines.now (admissible c) (c.bounds_are_sound.ensures.score c.args.lines.now) (c.answer_is_unique.ensures c.args.lines.now)

term_laws : After-arguments_are_few_and_known → AreTermLaws
term_laws c = record { rises = c.magnitudes_rise.ensures; within = c.values_are_within_magnitudes.ensures }

-- the factors that are kept
abbrev in_front : After-arguments_are_few_and_known → List ℤ
in_front c = front_factors c.args.lines.now c.args.cell c.args.alt c.args.alternative.now c.requires.alternative c.args.sum.now c.requires.sum

abbrev behind : After-arguments_are_few_and_known → List ℤ
behind c = other_factors c.args.lines.now c.args.cell c.args.alt c.args.alternative.now c.requires.alternative c.args.sum.now c.requires.sum

laid : (c : After-arguments_are_few_and_known)
    → AreLaid c.args.lines.now c.args.scores.now (both c.args.lines.now c.args.cell c.args.alt c.args.alternative.now
    c.requires.alternative) (in_front c ++ behind c) c.args.cell.from c.args.cell.to
laid c =
    let p = c.args.lines.now in
    let cell = c.args.cell in
    let kept = c.args.alternative.now in
    let is = c.requires.alternative in
    let laws = c.arguments_are_few_and_known.ensures in
    let formed = (admissible c).checked.well_formed in
    to_kept p cell c.args.alt kept is (λ arguments. AreLaid p c.args.scores.now arguments (in_front c ++ behind c) cell.from cell.to)
    (alternative_laid (term_laws c) p (admissible c) cell c.args.alt c.args.sum.now.constant (in_front c ++ behind c)
    c.requires.sum.scored c.requires.in_word c.requires.rule c.requires.in_range
    (bounded c) c.args.scores.now (laws.known p.grammar formed cell.rule c.args.alt)
    (laws.few p.grammar formed cell.rule c.args.alt) (c.requires.opening.allowed c.args.alt is) c.requires.scored)

others : (c : After-arguments_are_few_and_known)
    → AreLaid c.args.lines.now c.args.scores.now c.args.alternative.now.others.now (behind c) c.args.from c.args.cell.to
others c =
    others_laid c.args.lines.now c.args.scores.now c.args.alternative.now.front.now c.args.alternative.now.others.now
    (in_front c) (behind c) c.args.cell.from c.args.from c.args.cell.to
    c.requires.alternative.in_front.fixed c.requires.sum.front_each (laid c) c.requires.opening.within c.requires.opening.covers c.requires.opening.only

-- ---- the arguments behind the tokens in front

-- this is the greatest total of these arguments
abbrev IsFoundBehind : PosedProblem → KeptAlternative → WeightedSum → ℕ → ℕ → Option ℤ → Type 0
IsFoundBehind p kept sum from to = IsGreatestOf (HasTotal p (HasBestScore p) kept.others.now (factors_behind kept sum) from to)

each_behind : (c : After-arguments_are_few_and_known) → length (behind c) ≡ length c.args.alternative.now.others.now
each_behind c = (others c).weighted.factors_each

-- there are none
found_without : (p : PosedProblem) (cell : Cell) (alt : ℕ) (kept : KeptAlternative)
    (is : IsAlternative p cell.rule alt kept) (sum : WeightedSum) (summed : IsSummed p cell.rule alt kept sum)
    (from to : ℕ) → kept.others.now ≡ []
    → (length kept.others.now ≡ 0 → from ≡ to) → IsFoundBehind p kept sum from to (Some (pos 0))
found_without p cell alt kept is sum summed from to none whole =
    let long : length kept.others.now ≡ 0 = ap length none in
    let T : List Arg → ℕ → Type 0 = λ arguments to. IsGreatestOf (HasTotal p (HasBestScore p) arguments (factors_behind kept sum) from to) (Some (pos 0)) in
    subst (λ arguments. T arguments to) (sym none)
    (subst (T []) (whole long) (total_of_none p (HasBestScore p) (factors_behind kept sum) from
    (others_each p cell alt kept is sum summed ∙ long)))

-- the only argument, and its factor as it is read
module _ (others : List Arg) (factors behind : List ℤ) (argument : Arg) (read : ℤ) (one : others ≡ argument ∷ [])
    (are : factors ≡ behind) (each : length behind ≡ length others)
    (read_is : read ≡ get_or factors 0 (pos 0)) where
  factor_is : behind ≡ read ∷ []
  factor_is =
      let factor = get_or factors 0 (pos 0) in
      let long : length factors ≡ 1 = omega (arith, ap length are, each, ap length one) in
      sym are ∙ one_alone factors factor long (get_or_default factors 0 (pos 0) factor (omega (arith, long))) ∙ ap (λ it. it ∷ []) (sym read_is)

  to_alone : (R : List Arg → List ℤ → Type 0) → R others behind → R (argument ∷ []) (read ∷ [])
  to_alone R it = subst (R (argument ∷ [])) factor_is (subst (λ arguments. R arguments behind) one it)

  from_alone : (R : List Arg → List ℤ → Type 0) → R (argument ∷ []) (read ∷ []) → R others behind
  from_alone R it = subst (λ arguments. R arguments behind) (sym one) (subst (R (argument ∷ [])) (sym factor_is) it)

last_laid : (c : After-arguments_are_few_and_known) (argument : Arg) (factors : List ℤ) (read : ℤ)
    → c.args.alternative.now.others.now ≡ argument ∷ [] → factors ≡ behind c
    → read ≡ get_or factors 0 (pos 0)
    → AreLaid c.args.lines.now c.args.scores.now (argument ∷ []) (read ∷ []) c.args.from c.args.cell.to
last_laid c argument factors read one are read_is =
    to_alone c.args.alternative.now.others.now factors (behind c) argument read one are (each_behind c) read_is
    (λ arguments factors. AreLaid c.args.lines.now c.args.scores.now arguments factors c.args.from c.args.cell.to) (others c)

pub last_total-rest-requires-clause-weighted : goal.last_total-rest-requires-clause-weighted
last_total-rest-requires-clause-weighted c =
    let at = (goal.at.last_total-rest-requires-clause-weighted c).After-arguments_are_few_and_known in
    let factor = get_or c.other_factors-factors.result.now 0 (pos 0) in
    (last_laid at c.in-Last.argument.now c.other_factors-factors.result.now (to_z w64 (of_z w64 factor)) c.in-Last.ensures c.other_factors-factors.ensures
    (to_z-of_z w64 factor (search rules))).weighted

pub last_total-rest-requires-clause-scored : goal.last_total-rest-requires-clause-scored
last_total-rest-requires-clause-scored c =
    let at = (goal.at.last_total-rest-requires-clause-scored c).After-arguments_are_few_and_known in
    let factor = get_or c.other_factors-factors.result.now 0 (pos 0) in
    (last_laid at c.in-Last.argument.now c.other_factors-factors.result.now (to_z w64 (of_z w64 factor))
    c.in-Last.ensures c.other_factors-factors.ensures (to_z-of_z w64 factor (search rules))).scored

pub last_total-rest-requires-clause-low : goal.last_total-rest-requires-clause-low
last_total-rest-requires-clause-low c =
    let at = (goal.at.last_total-rest-requires-clause-low c).After-arguments_are_few_and_known in
    let factor = get_or c.other_factors-factors.result.now 0 (pos 0) in
    (last_laid at c.in-Last.argument.now c.other_factors-factors.result.now (to_z w64 (of_z w64 factor))
    c.in-Last.ensures c.other_factors-factors.ensures (to_z-of_z w64 factor (search rules))).low

-- several arguments, with the factors as they are read
several_laid : (c : After-arguments_are_few_and_known) (factors : List ℤ) → factors ≡ behind c
    → AreLaid c.args.lines.now c.args.scores.now c.args.alternative.now.others.now factors c.args.from c.args.cell.to
several_laid c factors are =
    subst (λ factors. AreLaid c.args.lines.now c.args.scores.now c.args.alternative.now.others.now factors c.args.from c.args.cell.to) (sym are) (others c)

pub total_of_several-rest-requires-clause-weighted : goal.total_of_several-rest-requires-clause-weighted
total_of_several-rest-requires-clause-weighted c =
    (several_laid (goal.at.total_of_several-rest-requires-clause-weighted c).After-arguments_are_few_and_known
    c.other_factors-factors.result.now c.other_factors-factors.ensures).weighted

pub total_of_several-rest-requires-clause-scored : goal.total_of_several-rest-requires-clause-scored
total_of_several-rest-requires-clause-scored c =
    (several_laid (goal.at.total_of_several-rest-requires-clause-scored c).After-arguments_are_few_and_known
    c.other_factors-factors.result.now c.other_factors-factors.ensures).scored

pub total_of_several-rest-requires-clause-low : goal.total_of_several-rest-requires-clause-low
total_of_several-rest-requires-clause-low c =
    (several_laid (goal.at.total_of_several-rest-requires-clause-low c).After-arguments_are_few_and_known
    c.other_factors-factors.result.now c.other_factors-factors.ensures).low

-- in each way it is found
module _ (p : PosedProblem) (cell : Cell) (alt : ℕ) (kept : KeptAlternative) (is : IsAlternative p cell.rule alt kept)
    (sum : WeightedSum) (summed : IsSummed p cell.rule alt kept sum) (from to : ℕ) (rest : Option ℤ) where
  by_front : kept.others.now ≡ [] → (length kept.others.now ≡ 0 → from ≡ to) → rest ≡ Some (pos 0) → IsFoundBehind p kept sum from to rest
  by_front none whole rest_is = subst (IsFoundBehind p kept sum from to) (sym rest_is) (found_without p cell alt kept is sum summed from to none whole)

  by_last : (argument : Arg) (factors : List ℤ) (read : ℤ) (found : Option ℤ) → kept.others.now ≡ argument ∷ []
      → factors ≡ factors_behind kept sum → read ≡ get_or factors 0 (pos 0)
      → IsGreatestOf (HasTotal p (HasBestScore p) (argument ∷ []) (read ∷ []) from to) found → rest ≡ found → IsFoundBehind p kept sum from to rest
  by_last argument factors read found one are read_is greatest rest_is =
      subst (IsFoundBehind p kept sum from to) (sym rest_is)
      (from_alone kept.others.now factors (factors_behind kept sum) argument read one are (others_each p cell alt kept is sum summed) read_is
      (λ arguments factors. IsGreatestOf (HasTotal p (HasBestScore p) arguments factors from to) found) greatest)

  by_several : (factors : List ℤ) (found : Option ℤ) → factors ≡ factors_behind kept sum
      → IsGreatestOf (HasTotal p (HasBestScore p) kept.others.now factors from to) found → rest ≡ found
      → IsFoundBehind p kept sum from to rest
  by_several factors found are greatest rest_is =
      subst (IsFoundBehind p kept sum from to) (sym rest_is)
      (subst (λ factors. IsGreatestOf (HasTotal p (HasBestScore p) kept.others.now factors from to) found)
      are greatest)

rest_is : (c : After-front_factors) → IsFoundBehind c.args.lines.now c.args.alternative.now c.args.sum.now c.args.from c.args.cell.to c.match-way.rest
rest_is c =
    let p = c.args.lines.now in
    let kept = c.args.alternative.now in
    let is = c.requires.alternative in
    let factor = get_or c.other_factors-factors.result.now 0 (pos 0) in
    elim c.match-way.branch [
      | in-Front w ↦ by_front p c.args.cell c.args.alt kept is c.args.sum.now c.requires.sum c.args.from c.args.cell.to
          c.match-way.rest w.in-Front.ensures c.requires.opening.whole w.rest-is
      | in-Last w ↦
          by_last p c.args.cell c.args.alt kept is c.args.sum.now c.requires.sum c.args.from c.args.cell.to
          c.match-way.rest w.in-Last.argument.now c.other_factors-factors.result.now (to_z w64 (of_z w64 factor))
          w.last_total-rest.result
          w.in-Last.ensures c.other_factors-factors.ensures (to_z-of_z w64 factor (search rules)) w.last_total-rest.ensures w.rest-is
      | in-Several w ↦
          by_several p c.args.cell c.args.alt kept is c.args.sum.now c.requires.sum c.args.from c.args.cell.to
          c.match-way.rest c.other_factors-factors.result.now
          w.total_of_several-rest.result c.other_factors-factors.ensures w.total_of_several-rest.ensures.greatest w.rest-is
    ]

pub returns-in_default-clause-greatest : goal.returns-in_default-clause-greatest
returns-in_default-clause-greatest c =
    let at = (goal.at.returns-in_default-clause-greatest c).After-arguments_are_few_and_known in
    let p = c.args.lines.now in
    let kept = c.args.alternative.now in
    let cell = c.args.cell in
    let is = c.requires.alternative in
    let factor = get_or c.other_factors-factors.result.now 0 (pos 0) in
    let rest : IsFoundBehind p kept c.args.sum.now c.args.from cell.to c.match-way.rest = elim c.match-way.branch [
      | in-Front w ↦ by_front p cell c.args.alt kept is c.args.sum.now c.requires.sum c.args.from cell.to
          c.match-way.rest w.in-Front.ensures c.requires.opening.whole w.rest-is
      | in-Last w ↦
          by_last p cell c.args.alt kept is c.args.sum.now c.requires.sum c.args.from cell.to c.match-way.rest
          w.in-Last.argument.now c.other_factors-factors.result.now (to_z w64 (of_z w64 factor))
          w.last_total-rest.result
          w.in-Last.ensures c.other_factors-factors.ensures (to_z-of_z w64 factor (search rules)) w.last_total-rest.ensures w.rest-is
      | in-Several w ↦
          by_several p cell c.args.alt kept is c.args.sum.now c.requires.sum c.args.from cell.to c.match-way.rest c.other_factors-factors.result.now
          w.total_of_several-rest.result c.other_factors-factors.ensures w.total_of_several-rest.ensures.greatest w.rest-is
    ] in
    no_score p cell c.args.alt kept is c.args.sum.now c.requires.sum
    (total_without_others p c.args.scores.now kept.front.now kept.others.now (in_front at) (behind at) cell.from
    c.args.from cell.to is.in_front.fixed c.requires.sum.front_each (laid at)
    c.requires.opening.within c.requires.opening.covers c.requires.opening.only
    (subst (IsFoundBehind p kept c.args.sum.now c.args.from cell.to) c.in_default.is rest))

pub between_total-front-requires-clause-weighted : goal.between_total-front-requires-clause-weighted
between_total-front-requires-clause-weighted c =
    let at = (goal.at.between_total-front-requires-clause-weighted c).After-arguments_are_few_and_known in
    let kept = c.args.alternative.now in
    let is = c.requires.alternative in
    let W : List ℤ → Type 0 = AreWeighted c.args.lines.now kept.front.now in
    subst W (sym c.front_factors.ensures)
    (front_weighted c.args.lines.now c.args.scores.now kept.front.now kept.others.now (in_front at) (behind at)
    c.args.cell.from c.args.from c.args.cell.to is.in_front.fixed c.requires.sum.front_each (laid at)
    c.requires.opening.within c.requires.opening.covers c.requires.opening.only)

pub between_total-front-requires-clause-low : goal.between_total-front-requires-clause-low
between_total-front-requires-clause-low c =
    let at = (goal.at.between_total-front-requires-clause-low c).After-arguments_are_few_and_known in
    let p = c.args.lines.now in
    let kept = c.args.alternative.now in
    let is = c.requires.alternative in
    let has = (subst (IsFoundBehind c.args.lines.now c.args.alternative.now c.args.sum.now c.args.from c.args.cell.to) c.in-Some.is
    (rest_is (goal.at.between_total-front-requires-clause-low c).After-front_factors)).0 in
    let L : List ℤ → Type 0 = λ factors. AreLow p kept.front.now factors c.args.cell.from c.args.from in
    subst L (sym c.front_factors.ensures)
    (front_low p c.args.scores.now kept.front.now kept.others.now (in_front at) (behind at) c.args.cell.from c.args.from
    c.args.cell.to is.in_front.fixed c.requires.sum.front_each (laid at)
    c.requires.opening.within c.requires.opening.covers c.requires.opening.only c.in-Some.rest has)

-- the total of all arguments
record AreFound (c : After-arguments_are_few_and_known) (front rest : ℤ) : Type 0 where
  greatest : IsGreatestOf (HasTotal c.args.lines.now (HasBestScore c.args.lines.now)
      (both c.args.lines.now c.args.cell c.args.alt c.args.alternative.now c.requires.alternative)
      (in_front c ++ behind c) c.args.cell.from c.args.cell.to) (Some (front +ℤ rest))
  total_low : nat_abs (front +ℤ rest) ≤ greatest_score
  score_low : nat_abs (c.args.sum.now.constant +ℤ (front +ℤ rest)) ≤ greatest_score

found : (c : After-arguments_are_few_and_known) (front_slice : List ℤ) (front rest : ℤ) → front_slice ≡ in_front c
    → HasTotal c.args.lines.now (HasBestScore c.args.lines.now) c.args.alternative.now.front.now front_slice
    c.args.cell.from c.args.from front
    → IsGreatestOf (HasTotal c.args.lines.now (HasBestScore c.args.lines.now) c.args.alternative.now.others.now
    (behind c) c.args.from c.args.cell.to) (Some rest) → AreFound c front rest
found c front_slice front rest same has greatest =
    let p = c.args.lines.now in
    let kept = c.args.alternative.now in
    let cell = c.args.cell in
    let is = c.requires.alternative in
    let behind_greatest = greatest in
    let F : List ℤ → Type 0 = λ factors. HasTotal p (HasBestScore p) kept.front.now factors cell.from c.args.from front in
    let front_has : F (in_front c) = subst F same has in
    let all = greatest_with_front p c.args.scores.now kept.front.now kept.others.now (in_front c) (behind c) cell.from
    c.args.from cell.to is.in_front.fixed c.requires.sum.front_each (laid c)
    c.requires.opening.within c.requires.opening.covers c.requires.opening.only front rest front_has behind_greatest in
    record {
      greatest = all;
      total_low =
          both_low p c.args.scores.now kept.front.now kept.others.now (in_front c) (behind c) cell.from c.args.from
          cell.to is.in_front.fixed c.requires.sum.front_each (laid c)
          c.requires.opening.within c.requires.opening.covers c.requires.opening.only (sound c) front rest front_has behind_greatest.0;
      score_low = all_low p cell c.args.alt kept is c.args.sum.now c.requires.sum (term_laws c) (admissible c) (sound c)
          (front +ℤ rest) c.requires.in_word c.requires.rule c.requires.in_range all.0;
    }

pub overflow_add-result : goal.overflow_add-result
overflow_add-result c =
    let at = (goal.at.overflow_add-result c).After-arguments_are_few_and_known in
    let it = found at c.front_factors.result.now c.between_total-front.result c.in-Some.rest c.front_factors.ensures c.between_total-front.ensures
    (subst (IsFoundBehind c.args.lines.now c.args.alternative.now c.args.sum.now c.args.from c.args.cell.to)
    c.in-Some.is (rest_is (goal.at.overflow_add-result c).After-front_factors)) in
    let fits_front : FitsSigned w64 c.between_total-front.result = search rules in
    let fits_rest : FitsSigned w64 c.in-Some.rest = search rules in
    simp to_z-of_z (fits_below (c.between_total-front.result +ℤ c.in-Some.rest) it.total_low)

pub overflow_add-result-2 : goal.overflow_add-result-2
overflow_add-result-2 c =
    let at = (goal.at.overflow_add-result-2 c).After-arguments_are_few_and_known in
    let it = found at c.front_factors.result.now c.between_total-front.result c.in-Some.rest c.front_factors.ensures c.between_total-front.ensures
    (subst (IsFoundBehind c.args.lines.now c.args.alternative.now c.args.sum.now c.args.from c.args.cell.to)
    c.in-Some.is (rest_is (goal.at.overflow_add-result-2 c).After-front_factors)) in
    let fits_front : FitsSigned w64 c.between_total-front.result = search rules in
    let fits_rest : FitsSigned w64 c.in-Some.rest = search rules in
    let fits_constant : FitsSigned w64 c.args.sum.now.constant = search rules in
    let fits_total : FitsSigned w64 (c.between_total-front.result +ℤ c.in-Some.rest) =
    fits_below (c.between_total-front.result +ℤ c.in-Some.rest) it.total_low in
    simp to_z-of_z (fits_below (c.args.sum.now.constant +ℤ (c.between_total-front.result +ℤ c.in-Some.rest)) it.score_low)

pub returns-clause-greatest : goal.returns-clause-greatest
returns-clause-greatest c =
    let at = (goal.at.returns-clause-greatest c).After-arguments_are_few_and_known in
    let it = found at c.front_factors.result.now c.between_total-front.result c.in-Some.rest c.front_factors.ensures c.between_total-front.ensures
    (subst (IsFoundBehind c.args.lines.now c.args.alternative.now c.args.sum.now c.args.from c.args.cell.to)
    c.in-Some.is (rest_is (goal.at.returns-clause-greatest c).After-front_factors)) in
    let fits_front : FitsSigned w64 c.between_total-front.result = search rules in
    let fits_rest : FitsSigned w64 c.in-Some.rest = search rules in
    let fits_constant : FitsSigned w64 c.args.sum.now.constant = search rules in
    let fits_total : FitsSigned w64 (c.between_total-front.result +ℤ c.in-Some.rest) =
    fits_below (c.between_total-front.result +ℤ c.in-Some.rest) it.total_low in
    let fits_score : FitsSigned w64 (c.args.sum.now.constant +ℤ (c.between_total-front.result +ℤ c.in-Some.rest)) =
    fits_below (c.args.sum.now.constant +ℤ (c.between_total-front.result +ℤ c.in-Some.rest)) it.score_low in
    let score : IsGreatestOf (HasLaidScore c.args.lines.now c.args.cell c.args.alt)
    (Some (c.args.sum.now.constant +ℤ (c.between_total-front.result +ℤ c.in-Some.rest))) =
    score_is c.args.lines.now c.args.cell c.args.alt c.args.alternative.now c.requires.alternative c.args.sum.now
    c.requires.sum (c.between_total-front.result +ℤ c.in-Some.rest) it.greatest in
    simp to_z-of_z score

-- what is noted is of the same problem
tails_same : (c : After-front_factors) → c.match-way.tails ≡ c.args.tails.now
tails_same c = elim c.match-way.branch [
  | in-Front w ↦ w.tails-is
  | in-Last w ↦ w.tails-is
  | in-Several w ↦ w.tails-is ∙ w.total_of_several-rest.ensures.same
]

pub returns-clause-same : goal.returns-clause-same
returns-clause-same c = tails_same (goal.at.returns-clause-same c).After-front_factors

pub returns-in_default-clause-same : goal.returns-in_default-clause-same
returns-in_default-clause-same c = elim c.match-way.branch [
  | in-Front w ↦ w.tails-is
  | in-Last w ↦ w.tails-is
  | in-Several w ↦ w.tails-is ∙ w.total_of_several-rest.ensures.same
]

pub total_of_several-rest-requires-clause-owner : goal.total_of_several-rest-requires-clause-owner
total_of_several-rest-requires-clause-owner c =
    let p = c.args.lines.now in
    let kept = c.args.alternative.now in
    let F : List ℤ → Type 0 = IsTail p (record { rule = c.args.cell.rule; alt = c.args.alt; count = length kept.others.now }) kept.others.now in
    subst F (sym c.other_factors-factors.ensures) (whole_tail p c.args.cell c.args.alt kept c.requires.alternative c.args.sum.now c.requires.sum)
