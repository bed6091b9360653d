use Rattle.std.proofs.Common.{◌≡◌, ◌+◌, ◌≤◌, pos, ◌*ℤ◌, ◌+ℤ◌, [], ◌∷◌, FitsSigned, w64, nat_abs, refl, sym, ap, subst, ◌∙◌, arith, rules}
use Rattle.std.proofs.lemmas.Int.{ints, to_z-of_z}
use Rattle.adp_model.specs.ProblemFields.{greatest_score}
use Rattle.adp_model.specs.Tokens.{letters_between, token_value}
use Rattle.adp_model.specs.Bellman.{HasBestScore}
use Rattle.split_lines.specs.Matching.{fixed_length}
use Rattle.cell_answers.specs.Totals.{HasTotal}
use Rattle.cell_answers.proofs.FixedTotals.{rest_covers, token_total, token_parts_low}
use Rattle.cell_answers.proofs.Soundness.{fits_below}
use Rattle.cell_answers.proofs.along.one_total.Goals as goal
use Rattle.cell_answers.proofs.along.one_total.Goals.{After-token_value}

-- the value is that of the letters up to the token's end
value_is : (c : After-token_value) → c.token_value.result ≡ token_value c.args.lines.now.grammar c.args.token.now
    (letters_between c.args.lines.now.word c.args.from (c.args.from + fixed_length c.args.token.now))
value_is c =
    let p = c.args.lines.now in
    let ends = rest_covers p c.args.token.now [] c.args.factor [] c.args.from c.args.to c.requires.weighted c.requires.fixed c.requires.covers c.requires.low in
    c.token_value.ensures ∙ ap (λ end. token_value p.grammar c.args.token.now (letters_between p.word c.args.from end)) (sym ends)

rest_has : (c : After-token_value) → HasTotal c.args.lines.now (HasBestScore c.args.lines.now) [] []
    (c.args.from + fixed_length c.args.token.now) c.args.to (pos 0)
rest_has c = (
  [],
  rest_covers c.args.lines.now c.args.token.now [] c.args.factor [] c.args.from c.args.to c.requires.weighted
      c.requires.fixed c.requires.covers c.requires.low,
  refl,
)

product_low : (c : After-token_value) → nat_abs (c.args.factor *ℤ c.token_value.result) ≤ greatest_score
product_low c =
    (token_parts_low c.args.lines.now c.args.token.now [] c.args.factor [] c.args.from c.args.to c.requires.weighted
    c.requires.fixed c.requires.covers c.requires.low
    (HasBestScore c.args.lines.now) c.token_value.result (pos 0) (value_is c) (rest_has c)).0

pub overflow_mul-result : goal.overflow_mul-result
overflow_mul-result c =
    let at = (goal.at.overflow_mul-result c).After-token_value in
    let fits_factor : FitsSigned w64 c.args.factor = search rules in
    let fits_value : FitsSigned w64 c.token_value.result = search rules in
    simp to_z-of_z (fits_below (c.args.factor *ℤ c.token_value.result) (product_low at))

pub returns : goal.returns
returns c =
    let at = (goal.at.returns c).After-token_value in
    let p = c.args.lines.now in
    let fits_factor : FitsSigned w64 c.args.factor = search rules in
    let fits_value : FitsSigned w64 c.token_value.result = search rules in
    let fits_product : FitsSigned w64 (c.args.factor *ℤ c.token_value.result) = fits_below (c.args.factor *ℤ c.token_value.result) (product_low at) in
    let all = token_total p c.args.token.now [] c.args.factor [] c.args.from c.args.to c.requires.weighted c.requires.fixed c.requires.covers c.requires.low
    (HasBestScore p) c.token_value.result (pos 0) (value_is at) (rest_has at) in
    let nothing : (c.args.factor *ℤ c.token_value.result) +ℤ pos 0 ≡ c.args.factor *ℤ c.token_value.result = grind (arith, ints) in
    simp to_z-of_z (subst (HasTotal p (HasBestScore p) (c.args.token.now ∷ []) (c.args.factor ∷ []) c.args.from c.args.to) nothing all)
