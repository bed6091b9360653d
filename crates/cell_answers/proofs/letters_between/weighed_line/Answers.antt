use Rattle.std.proofs.Common.{◌≡◌, ◌-◌, ◌≤◌, FitsSigned, w64, length, take, drop, ap, arith, rules}
use Rattle.std.proofs.lemmas.Int.{to_z-of_z}
use Rattle.std.proofs.lemmas.List.{take_rest}
use Rattle.adp_model.specs.PosedProblem.{PosedProblem}
use Rattle.cell_answers.proofs.LetterWeights.{class_known, weight_is, weight_low, weight_small, weight_small_behind, weight_within}
use Rattle.cell_answers.proofs.letters_between.weighed_line.Goals as goal

pub sums-sums-requires : goal.sums-sums-requires
sums-sums-requires c = class_known c.args.lines.now c.args.line.now c.requires c.in-Some-one_letter.class c.in-Some-one_letter.ensures.0

pub returns : goal.returns
returns c =
    let p = c.args.lines.now in
    let line = c.args.line.now in
    let scales = c.in-Some.scales in
    let scaled = c.in-Some.ensures in
    let class = c.in-Some-one_letter.class in
    let token = c.in-Some-one_letter.ensures.0 in
    let sums = c.sums-sums.result.now in
    let are = c.sums-sums.ensures in
    let begin = c.min-first.result in
    let short : length p.word ≤ 4000 = omega (arith, c.admissible.ensures.limits.letters, ap (λ (p : PosedProblem). length p.word) c.problem.ensures) in
    let begin_is : line.row.first ≤ length sums → begin ≡ line.row.first = λ l. omega (arith, l, c.min-first.ensures) in
    let numbers = take (length sums - begin) (drop begin sums) in
    let numbers_are : numbers ≡ drop begin sums = take_rest sums begin in
    let fits_factor : FitsSigned w64 c.in-Some-one_letter.factor = search rules in
    simp to_z-of_z (record {
      scaled = scaled;
      class = class;
      token = token;
      factor = c.in-Some-one_letter.ensures.1;
      have = λ position stands. record {
        within = weight_within p line c.requires class token scales.before scaled.before sums are short begin begin_is numbers numbers_are position stands;
        small = weight_small p line c.requires class token scales.before scaled.before sums are short begin begin_is numbers numbers_are position stands;
        small_behind = weight_small_behind p line c.requires class token scales.before scaled.before sums are short
            begin begin_is numbers numbers_are position stands;
        low = weight_low p line c.requires class token scales.before scaled.before sums are short begin begin_is numbers numbers_are position stands;
      };
      are = λ position stands. weight_is p line c.requires class token scales.before scaled.before sums are short begin
          begin_is numbers numbers_are position stands;
    })
