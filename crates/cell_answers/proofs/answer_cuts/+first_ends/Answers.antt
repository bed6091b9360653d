use Rattle.std.proofs.Common.{◌≡◌, ◌-◌, ◌≤◌, ℕ, suc, ℤ, ◌+ℤ◌, ◌-ℤ◌, ◌*ℤ◌, Some, List, [], ◌∷◌, length, get_or, take}
use Rattle.std.proofs.Common.{drop, ap, FitsSigned, w64, to_z, of_z, sym, subst, ◌∙◌, arith, rules}
use Rattle.std.specs.Prelude.{IfSome}
use Rattle.std.proofs.lemmas.Int.{ints, to_z-of_z}
use Rattle.adp_model.specs.declared.grammar.Arg.{Arg}
use Rattle.split_lines.specs.Lines.{IsLine}
use Rattle.adp_model.specs.Splits.{AtRule, FitsSpan}
use Rattle.adp_model.specs.FirstSplit.{IsValue}
use Rattle.adp_model.specs.Bellman.{HasBestScore}
use Rattle.viable_splits.specs.Placing.{on_span}
use Rattle.cell_answers.specs.Entries.{HasEntry}
use Rattle.cell_answers.specs.LaidBy.{AreFirstEnds, IsFirstEnd}
use Rattle.cell_answers.specs.Tails.{IsOwner}
use Rattle.cell_answers.specs.Totals.{HasTotal}
use Rattle.score_numbers.specs.Greatest.{IsGreatestOf}
use Rattle.cell_answers.proofs.FirstEnds.{AreLaid, AreSound, first_low, first_known_entry, rest_laid, parts_low}
use Rattle.cell_answers.proofs.Totalling.{values_cover}
use Rattle.cell_answers.proofs.Dividing.{cover_forward}
use Rattle.cell_answers.proofs.LaidEnds.{IsFirstEndOf, end_of_first, first_more, front_same, none_here, rest_greatest}
use Rattle.cell_answers.proofs.TailFactors.{shorter_owner}
use Rattle.cell_answers.proofs.Soundness.{fits_below, sound_by}
use Rattle.cell_answers.proofs.answer_cuts.+first_ends.Goals as goal
use Rattle.cell_answers.proofs.answer_cuts.+first_ends.Goals.{After-answer_is_unique, After-first_end-end}

pub returns-in_default-clause-first : goal.returns-in_default-clause-first
returns-in_default-clause-first t c room l m =
    let none : length c.args.arguments.now ≡ 0 = omega (arith, c.requires.weighted.factors_each, c.in_default.ensures'.cases) in
    none_here c.args.known.now.lines.now c.args.arguments.now c.args.factors.now c.args.from c.args.to c.args.total room none c.requires.greatest.0

pub returns-in_default-2-clause-first : goal.returns-in_default-2-clause-first
returns-in_default-2-clause-first t c room l m =
    none_here c.args.known.now.lines.now c.args.arguments.now c.args.factors.now c.args.from c.args.to c.args.total room
    c.in_default.ensures.cases c.requires.greatest.0

-- the arguments, from the first one on
laid : (t : ℕ) (c : After-answer_is_unique t) → AreLaid c.args.known.now.lines.now c.args.known.now.scores.now
    (c.in-Some-Some.argument.now ∷ c.in-Some-Some.others.now) (c.in-Some-Some.factor.now ∷ c.in-Some-Some.more.now)
    c.args.from c.args.to
laid t c =
    let p = c.args.known.now.lines.now in
    let table = c.args.known.now.scores.now in
    let A : List Arg → Type 0 = λ arguments. AreLaid p table arguments (c.in-Some-Some.factor.now ∷ c.in-Some-Some.more.now) c.args.from c.args.to in
    let F : List ℤ → Type 0 = λ factors. AreLaid p table c.args.arguments.now factors c.args.from c.args.to in
    subst A c.in-Some-Some.ensures.cases.0 (subst F c.in-Some-Some.ensures'.cases.0
    (record { weighted = c.requires.weighted; span = c.requires.span; scored = c.requires.scored; low = c.requires.low }))

greatest : (t : ℕ) (c : After-answer_is_unique t)
    → IsGreatestOf (HasTotal c.args.known.now.lines.now (HasBestScore c.args.known.now.lines.now)
    (c.in-Some-Some.argument.now ∷ c.in-Some-Some.others.now) (c.in-Some-Some.factor.now ∷ c.in-Some-Some.more.now)
    c.args.from c.args.to) (Some c.args.total)
greatest t c =
    let p = c.args.known.now.lines.now in
    let A : List Arg → Type 0 = λ arguments. IsGreatestOf (HasTotal p (HasBestScore p) arguments
    (c.in-Some-Some.factor.now ∷ c.in-Some-Some.more.now) c.args.from c.args.to) (Some c.args.total) in
    let F : List ℤ → Type 0 = λ factors. IsGreatestOf (HasTotal p (HasBestScore p) c.args.arguments.now factors c.args.from c.args.to) (Some c.args.total) in
    subst A c.in-Some-Some.ensures.cases.0 (subst F c.in-Some-Some.ensures'.cases.0 c.requires.greatest)

sound : (t : ℕ) (c : After-answer_is_unique t) → AreSound c.args.known.now.lines.now
sound t c =
    sound_by c.problem.result.now c.args.known.now.lines.now c.problem.ensures c.admissible.ensures
    (c.bounds_are_sound.ensures.score c.args.known.now.lines.now)
    (c.answer_is_unique.ensures c.args.known.now.lines.now)

-- the alternative whose last arguments the others are
owner_behind : (t : ℕ) (c : After-answer_is_unique t) → IsOwner c.args.known.now.lines.now c.args.known.now.owner
    c.in-Some-Some.others.now c.in-Some-Some.more.now
owner_behind t c =
    let p = c.args.known.now.lines.now in
    let owner = c.args.known.now.owner in
    let A : List Arg → Type 0 = λ arguments. IsOwner p owner arguments (c.in-Some-Some.factor.now ∷ c.in-Some-Some.more.now) in
    let F : List ℤ → Type 0 = λ factors. IsOwner p owner c.args.arguments.now factors in
    shorter_owner p owner c.in-Some-Some.argument.now c.in-Some-Some.others.now c.in-Some-Some.factor.now c.in-Some-Some.more.now
    (subst A c.in-Some-Some.ensures.cases.0 (subst F c.in-Some-Some.ensures'.cases.0 c.requires.owner))

-- the first end that was found
first_end : (t : ℕ) (c : After-first_end-end t) → IsFirstEndOf c.args.known.now.lines.now c.in-Some-Some.argument.now
    c.in-Some-Some.others.now c.in-Some-Some.factor.now c.in-Some-Some.more.now c.args.from c.args.to c.args.total
    c.first_end-end.result
first_end t c =
    let p = c.args.known.now.lines.now in
    let E : ℕ → Type 0 = λ end. IsFirstEnd p c.args.arguments.now c.args.factors.now c.args.from c.args.to c.args.total end in
    let fits : FitsSigned w64 c.args.total = search rules in
    let found : E c.first_end-end.result = simp to_z-of_z at c.first_end-end.ensures.first in
    end_of_first p c.args.arguments.now c.args.factors.now c.in-Some-Some.argument.now c.in-Some-Some.others.now
    c.in-Some-Some.factor.now c.in-Some-Some.more.now c.args.from c.args.to c.args.total c.first_end-end.result
    c.in-Some-Some.ensures.cases.0 c.in-Some-Some.ensures'.cases.0 found

fits_end : (t : ℕ) (c : After-first_end-end t) → FitsSpan c.args.known.now.lines.now (on_span c.in-Some-Some.argument.now c.args.from c.first_end-end.result)
fits_end t c = (first_end t c).there.fits

pub argument_value-requires-clause-low : goal.argument_value-requires-clause-low
argument_value-requires-clause-low t c =
    let begun = (goal.at.argument_value-requires-clause-low t c).After-answer_is_unique in
    first_low c.args.known.now.lines.now c.args.known.now.scores.now c.in-Some-Some.argument.now
    c.in-Some-Some.others.now c.in-Some-Some.factor.now c.in-Some-Some.more.now c.args.from c.args.to (laid t begun)
    c.first_end-end.result (fits_end t (goal.at.argument_value-requires-clause-low t c).After-first_end-end)

pub argument_value-requires-clause-fits : goal.argument_value-requires-clause-fits
argument_value-requires-clause-fits t c = fits_end t (goal.at.argument_value-requires-clause-fits t c).After-first_end-end

-- the first argument's cell has its entry
entry : (t : ℕ) (c : After-answer_is_unique t) (end : ℕ)
    → IsFirstEndOf c.args.known.now.lines.now c.in-Some-Some.argument.now c.in-Some-Some.others.now
    c.in-Some-Some.factor.now c.in-Some-Some.more.now c.args.from c.args.to c.args.total end
    → AtRule (HasEntry c.args.known.now.scores.now) (on_span c.in-Some-Some.argument.now c.args.from end)
entry t c end it =
    first_known_entry c.args.known.now.lines.now c.args.known.now.scores.now c.in-Some-Some.argument.now
    c.in-Some-Some.others.now c.in-Some-Some.factor.now c.in-Some-Some.more.now c.args.from c.args.to (laid t c) end
    it.there.fits
    (values_cover c.args.known.now.lines.now (HasBestScore c.args.known.now.lines.now) c.in-Some-Some.others.now end
    c.args.to it.there.have_others.0 it.there.have_others.1)

pub unreachable-requires : goal.unreachable-requires
unreachable-requires t c =
    let begun = (goal.at.unreachable-requires t c).After-answer_is_unique in
    let joined = (goal.at.unreachable-requires t c).After-first_end-end in
    let it = first_end t joined in
    c.in_default-argument_value.ensures (entry t begun c.first_end-end.result it) it.there.value it.there.is_value

-- what is left for the others
record IsLeft (t : ℕ) (c : After-answer_is_unique t) (end : ℕ) (value : ℤ) : Type 0 where
  is_value : IsValue c.args.known.now.lines.now (HasBestScore c.args.known.now.lines.now) (on_span c.in-Some-Some.argument.now c.args.from end) value
  product_fits : FitsSigned w64 (c.in-Some-Some.factor.now *ℤ value)
  rest_fits : FitsSigned w64 (c.args.total -ℤ (c.in-Some-Some.factor.now *ℤ value))
  is_rest : IsGreatestOf (HasTotal c.args.known.now.lines.now (HasBestScore c.args.known.now.lines.now)
      c.in-Some-Some.others.now c.in-Some-Some.more.now end c.args.to)
      (Some (c.args.total -ℤ (c.in-Some-Some.factor.now *ℤ value)))

total_parts : (total product : ℤ) → total ≡ (product +ℤ (total -ℤ product))
total_parts total product = omega (arith, ints)

left : (t : ℕ) (c : After-answer_is_unique t) (end : ℕ)
    → IsFirstEndOf c.args.known.now.lines.now c.in-Some-Some.argument.now c.in-Some-Some.others.now
    c.in-Some-Some.factor.now c.in-Some-Some.more.now c.args.from c.args.to c.args.total end → (value : ℤ)
    → (AtRule (HasEntry c.args.known.now.scores.now) (on_span c.in-Some-Some.argument.now c.args.from end)
    → IsValue c.args.known.now.lines.now (HasBestScore c.args.known.now.lines.now)
    (on_span c.in-Some-Some.argument.now c.args.from end) value) → IsLeft t c end value
left t c end it value told =
    let p = c.args.known.now.lines.now in
    let table = c.args.known.now.scores.now in
    let product = c.in-Some-Some.factor.now *ℤ value in
    let rest = c.args.total -ℤ product in
    let is_value = told (entry t c end it) in
    let greatest_rest = rest_greatest p (sound t c) c.in-Some-Some.argument.now c.in-Some-Some.others.now
    c.in-Some-Some.factor.now c.in-Some-Some.more.now c.args.from c.args.to c.args.total end it.there value rest
    is_value (total_parts c.args.total product) (greatest t c) in
    let low = parts_low p table c.in-Some-Some.argument.now c.in-Some-Some.others.now c.in-Some-Some.factor.now
    c.in-Some-Some.more.now c.args.from c.args.to (laid t c) end it.there.fits (sound t c) value told rest
    greatest_rest.0 in
    record { is_value = is_value; product_fits = fits_below product low.0; rest_fits = fits_below rest low.1; is_rest = greatest_rest }

-- the rest, as its bits are read
wrapped : (total factor value : ℤ) → FitsSigned w64 total → FitsSigned w64 factor → FitsSigned w64 value
    → FitsSigned w64 (factor *ℤ value) → FitsSigned w64 (total -ℤ (factor *ℤ value))
    → to_z w64 (of_z w64 (to_z w64 (of_z w64 total) -ℤ to_z w64
    (of_z w64 (to_z w64 (of_z w64 factor) *ℤ to_z w64 (of_z w64 value))))) ≡ (total -ℤ (factor *ℤ value))
wrapped total factor value fits_total fits_factor fits_value fits_product fits_rest =
    ap (λ a. to_z w64 (of_z w64 (a -ℤ to_z w64 (of_z w64 (to_z w64 (of_z w64 factor) *ℤ to_z w64 (of_z w64 value)))))) (to_z-of_z w64 total fits_total)
    ∙ ap (λ a. to_z w64 (of_z w64 (total -ℤ to_z w64 (of_z w64 (a *ℤ to_z w64 (of_z w64 value)))))) (to_z-of_z w64 factor fits_factor)
    ∙ ap (λ a. to_z w64 (of_z w64 (total -ℤ to_z w64 (of_z w64 (factor *ℤ a))))) (to_z-of_z w64 value fits_value)
    ∙ ap (λ a. to_z w64 (of_z w64 (total -ℤ a))) (to_z-of_z w64 (factor *ℤ value) fits_product)
    ∙ to_z-of_z w64 (total -ℤ (factor *ℤ value)) fits_rest

pub overflow_mul-rest : goal.overflow_mul-rest
overflow_mul-rest t c =
    let begun = (goal.at.overflow_mul-rest t c).After-answer_is_unique in
    let joined = (goal.at.overflow_mul-rest t c).After-first_end-end in
    let value = c.in-Some.value in
    let it = left t begun c.first_end-end.result (first_end t joined) value (λ entry. c.in-Some.ensures entry) in
    let fits_factor : FitsSigned w64 c.in-Some-Some.factor.now = search rules in
    let fits_value : FitsSigned w64 value = search rules in
    simp to_z-of_z it.product_fits

pub overflow_sub-rest : goal.overflow_sub-rest
overflow_sub-rest t c =
    let begun = (goal.at.overflow_sub-rest t c).After-answer_is_unique in
    let joined = (goal.at.overflow_sub-rest t c).After-first_end-end in
    let value = c.in-Some.value in
    let it = left t begun c.first_end-end.result (first_end t joined) value (λ entry. c.in-Some.ensures entry) in
    let fits_total : FitsSigned w64 c.args.total = search rules in
    let fits_factor : FitsSigned w64 c.in-Some-Some.factor.now = search rules in
    let fits_value : FitsSigned w64 value = search rules in
    let fits_product : FitsSigned w64 (c.in-Some-Some.factor.now *ℤ value) = it.product_fits in
    simp to_z-of_z it.rest_fits

pub first_ends-requires : goal.first_ends-requires
first_ends-requires t c =
    let begun = (goal.at.first_ends-requires t c).After-answer_is_unique in
    let joined = (goal.at.first_ends-requires t c).After-first_end-end in
    let p = c.args.known.now.lines.now in
    let end = c.first_end-end.result in
    let value = c.in-Some.value in
    let first = first_end t joined in
    let it = left t begun end first value (λ entry. c.in-Some.ensures entry) in
    let fits_total : FitsSigned w64 c.args.total = search rules in
    let fits_factor : FitsSigned w64 c.in-Some-Some.factor.now = search rules in
    let fits_value : FitsSigned w64 value = search rules in
    let G : ℤ → Type 0 = λ rest. IsGreatestOf (HasTotal p (HasBestScore p) c.in-Some-Some.others.now c.in-Some-Some.more.now end c.args.to) (Some rest) in
    let is_rest = subst G (sym (wrapped c.args.total c.in-Some-Some.factor.now value fits_total fits_factor fits_value
    it.product_fits it.rest_fits)) it.is_rest in
    let cover = values_cover p (HasBestScore p) c.in-Some-Some.others.now end c.args.to first.there.have_others.0 first.there.have_others.1 in
    let within : end ≤ c.args.to = cover_forward p c.in-Some-Some.others.now end c.args.to cover in
    let rest = rest_laid p c.args.known.now.scores.now c.in-Some-Some.argument.now c.in-Some-Some.others.now
    c.in-Some-Some.factor.now c.in-Some-Some.more.now c.args.from c.args.to (laid t begun) end
    first.there.fits within in
    let fewer = c.in-Some-Some.ensures.cases.1 in
    let same : drop 1 c.args.arguments.now ≡ c.in-Some-Some.others.now = ap (drop 1) c.in-Some-Some.ensures.cases.0 in
    let L : List Arg → Type 0 = λ them. IfSome c.line_left-later.result.0 (λ it. IsLine p (drop c.line_left-later.result.1 them) it) in
    let line = subst L same (c.line_left-later.ensures p c.args.arguments.now c.requires.line) in (
      search rules,
      (
        c.requires.same_problem,
        (
          c.first_end-end.ensures.same ∙ c.requires.same_tails,
          (owner_behind t begun, (line, (rest.weighted, (rest.span, (rest.scored, (rest.low, is_rest)))))),
        ),
      ),
    )

pub returns-clause-first : goal.returns-clause-first
returns-clause-first t c room l m =
    let begun = (goal.at.returns-clause-first t c).After-answer_is_unique in
    let joined = (goal.at.returns-clause-first t c).After-first_end-end in
    let p = c.args.known.now.lines.now in
    let end = c.first_end-end.result in
    let value = c.in-Some.value in
    let first = first_end t joined in
    let it = left t begun end first value (λ entry. c.in-Some.ensures entry) in
    let fits_total : FitsSigned w64 c.args.total = search rules in
    let fits_factor : FitsSigned w64 c.in-Some-Some.factor.now = search rules in
    let fits_value : FitsSigned w64 value = search rules in
    let product = c.in-Some-Some.factor.now *ℤ value in
    let fewer : room - 1 ≤ 3 = omega arith in
    let long : length c.in-Some-Some.others.now ≤ room - 1 = omega (arith, ap length c.in-Some-Some.ensures.cases.0) in
    let next : room ≡ suc (room - 1) = omega (arith, ap length c.in-Some-Some.ensures.cases.0) in
    let L : ℤ → List ℕ → Type 0 = λ rest ends. AreFirstEnds p c.in-Some-Some.others.now c.in-Some-Some.more.now end c.args.to rest ends in
    let later = subst (λ rest. L rest (take (room - 1) c.first_ends.result))
    (wrapped c.args.total c.in-Some-Some.factor.now value fits_total fits_factor fits_value it.product_fits
    it.rest_fits)
    (c.first_ends.ensures.first (room - 1) long (omega arith)) in
    let four : length c.first_ends.result ≡ 4 = search rules in
    let read = subst (L (c.args.total -ℤ product)) (sym (front_same c.first_ends.result (room - 1) four fewer)) later in
    let found = first_more p (sound t begun) c.in-Some-Some.argument.now c.in-Some-Some.others.now
    c.in-Some-Some.factor.now c.in-Some-Some.more.now c.args.from c.args.to c.args.total end first.there value
    (c.args.total -ℤ product) it.is_value (total_parts c.args.total product) first.first
    (take (room - 1) (get_or c.first_ends.result 0 0 ∷ get_or c.first_ends.result 1 0 ∷ get_or c.first_ends.result 2 0 ∷ [])) read in
    let ends = end ∷ get_or c.first_ends.result 0 0 ∷ get_or c.first_ends.result 1 0 ∷ get_or c.first_ends.result 2 0 ∷ [] in
    let A : List Arg → List ℤ → List ℕ → Type 0 = λ arguments factors ends. AreFirstEnds p arguments factors c.args.from c.args.to c.args.total ends in
    let all = c.in-Some-Some.argument.now ∷ c.in-Some-Some.others.now in
    subst (λ factors. A c.args.arguments.now factors (take room ends)) (sym c.in-Some-Some.ensures'.cases.0)
    (subst (λ arguments. A arguments (c.in-Some-Some.factor.now ∷ c.in-Some-Some.more.now) (take room ends)) (sym c.in-Some-Some.ensures.cases.0)
    (subst (λ n. A all (c.in-Some-Some.factor.now ∷ c.in-Some-Some.more.now) (take n ends)) (sym next) found))

pub returns-clause-same : goal.returns-clause-same
returns-clause-same t c = c.first_ends.ensures.same ∙ c.first_end-end.ensures.same
