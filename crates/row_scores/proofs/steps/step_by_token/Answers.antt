use Rattle.std.proofs.Common.{◌≡◌, ◌<◌, ◌≤◌, ◌^◌, ℤ, ◌+ℤ◌, ◌*ℤ◌, nat_abs, FitsSigned, w64, to_z, of_z, rules, length, sym, ap, subst, ◌∙◌, arith}
use Rattle.std.proofs.lemmas.Int.{ints, to_z-of_z}
use Rattle.adp_model.specs.Tokens.{letters_between, token_value}
use Rattle.score_numbers.specs.Packing.{Width}
use Rattle.row_scores.specs.RowNumbers.{IsInRow}
use Rattle.row_scores.proofs.TokenSteps.{IsStepped, all_stepped, none_stepped, stepped_more}
use Rattle.row_scores.proofs.steps.step_by_token.Goals as goal

-- the sum is found from parts that fit
exact_sum : (width : Width) (factor value value' product product' before number : ℤ) → width.limit ≤ 2 ^ 60 → value' ≡ value
    → (nat_abs (factor *ℤ value') < 2 ^ 63 → product ≡ (factor *ℤ value')) → product' ≡ product
    → (nat_abs (before +ℤ product') ≤ width.limit → number ≡ (before +ℤ product'))
    → nat_abs before ≤ width.limit → nat_abs ((factor *ℤ value) +ℤ before) ≤ width.limit → number ≡ ((factor *ℤ value) +ℤ before)
exact_sum width factor value value' product product' before number narrow same times same' plus low low_sum =
    let all : (factor *ℤ value') ≡ (factor *ℤ value) = ap (λ v. factor *ℤ v) same in
    let small : nat_abs (factor *ℤ value) < 2 ^ 63 = omega (arith, ints, narrow, low, low_sum) in
    let product_is : product' ≡ (factor *ℤ value) = same' ∙ times (subst (λ n. nat_abs n < 2 ^ 63) (sym all) small) ∙ all in
    let low' : nat_abs (before +ℤ product') ≤ width.limit = omega (arith, ints, product_is, low_sum) in
    let number_is = plus low' in
    omega (arith, ints, number_is, product_is)

pub loop-end-init : goal.loop-end-init
loop-end-init g c =
    let known = c.args.known.now in
    let ends = c.argument_ends-ends.ensures in
    let long = ap length c.letters-last.ensures.word in
    let long' = ap (λ p. length p.word) c.problem.ensures in
    none_stepped known.lines.now g.N.RowNumber.width (IsInRow g.N.RowNumber.value known.table.now) c.args.token.now (to_z w64 (of_z w64 c.args.factor))
    c.args.position (g.N.RowNumber.value c.args.number) c.requires.token c.argument_ends-ends.result.start
    (λ end fits. ((ends.exact end (omega (arith, fits.0.in_word, long, long'))).0 fits).0) c.args.next.now

pub token_value-value-requires-clause-low : goal.token_value-value-requires-clause-low
token_value-value-requires-clause-low g c =
    let ends = c.argument_ends-ends.ensures in
    let end = c.loop-end.end in
    c.requires.low c.args.position end
    ((ends.exact end (omega (arith, ends.up_to_last, c.loop-end-test.true))).1 (c.loop-end.auto.end, c.loop-end-test.true))

pub loop-end-preserved : goal.loop-end-preserved
loop-end-preserved g c =
    let known = c.args.known.now in
    let ends = c.argument_ends-ends.ensures in
    let end = c.loop-end.end in
    let factor = to_z w64 (of_z w64 c.args.factor) in
    let value = c.token_value-value.result in
    let product = c.product.result in
    let fits : FitsSigned w64 value = search rules in
    let fits' : FitsSigned w64 product = search rules in
    let worth = token_value known.lines.now.grammar c.args.token.now (letters_between known.lines.now.word c.args.position end) in
    let before = g.N.RowNumber.value c.args.number in
    stepped_more known.lines.now g.N.RowNumber.width (IsInRow g.N.RowNumber.value known.table.now) c.args.token.now factor c.args.position before
    c.requires.token c.args.next.now c.loop-end.next c.raise_at.new.self end (g.N.RowNumber.value c.with.result)
    ((ends.exact end (omega (arith, ends.up_to_last, c.loop-end-test.true))).1 (c.loop-end.auto.end, c.loop-end-test.true))
    (exact_sum g.N.RowNumber.width factor worth (to_z w64 (of_z w64 value)) product (to_z w64 (of_z w64 product)) before (g.N.RowNumber.value c.with.result)
    c.is_narrow.ensures (to_z-of_z w64 value fits ∙ c.token_value-value.ensures) c.product.ensures (to_z-of_z w64 product fits') c.with.ensures)
    c.loop-end.invariant c.raise_at.ensures

pub returns : goal.returns
returns g c =
    let known = c.args.known.now in
    let ends = c.argument_ends-ends.ensures in
    let fits : FitsSigned w64 c.args.factor = search rules in
    let long = ap length c.letters-last.ensures.word in
    let long' = ap (λ p. length p.word) c.problem.ensures in
    let width = g.N.RowNumber.width in
    let InRow = IsInRow g.N.RowNumber.value known.table.now in
    let before = g.N.RowNumber.value c.args.number in
    all_stepped known.lines.now width InRow c.args.token.now c.args.factor c.args.position before c.requires.token c.loop-end.end
    (λ end fits. let it = (ends.exact end (omega (arith, fits.0.in_word, long, long'))).0 fits in
    omega (arith, it.1, c.loop-end-test.false))
    c.args.next.now c.loop-end.next
    (subst (λ factor. IsStepped known.lines.now width InRow c.args.token.now factor c.args.position before c.args.next.now c.loop-end.next c.loop-end.end)
    (to_z-of_z w64 c.args.factor fits) c.loop-end.invariant)
