use Rattle.std.proofs.Common.{◌≡◌, ℕ, Some, List, length, slice_get, sym, ap, subst, ◌∙◌, arith}
use Rattle.adp_model.specs.PosedProblem.{PosedProblem}
use Rattle.viable_splits.specs.Placing.{Cover}
use Rattle.split_lines.specs.Matching.{HaveLetters}
use Rattle.split_lines.proofs.MakingReady.{letter_stands, within_word}
use Rattle.split_lines.proofs.TokenSpans.{cover_within}
use Rattle.split_lines.proofs.matches.match_nowhere.Goals as goal

pub returns-then-not-occurs : goal.returns-then-not-occurs
returns-then-not-occurs c = λ from to cover.
    let p = c.args.tables.now in
    let letter = c.in-Some.letter in
    let word_is : c.letters-word.result.now ≡ p.word = c.letters-word.ensures.word ∙ ap (λ (p : PosedProblem). p.word) c.problem-problem.ensures in
    let S : List ℕ → Type 0 = λ word. slice_get word from ≡ Some letter in
    c.occurs.ensures c.if-not-occurs.true from (subst S (sym word_is) (letter_stands p c.args.tokens.now letter from to c.in-Some.ensures cover))

pub returns : goal.returns
returns c = λ from to cover.
    let p = c.args.tables.now in
    let tokens = c.args.tokens.now in
    let width = c.fixed_letters-width.result in
    let word_is : c.letters-word.result.now ≡ p.word = c.letters-word.ensures.word ∙ ap (λ (p : PosedProblem). p.word) c.problem-problem.ensures in
    let long : length c.letters-word.result.now ≡ length p.word = ap (λ (word : List ℕ). length word) word_is in
    let inside = within_word p.word from c.in-Some.letter (letter_stands p tokens c.in-Some.letter from to c.in-Some.ensures cover) in
    let within = cover_within p tokens from to (omega (arith, inside)) cover in
    let letters : HaveLetters p tokens width = c.fixed_letters-width.ensures.letters p (omega (arith, long, c.letters-word.ensures.few)) in
    let end = letters from to cover in
    c.loop-position.invariant from (omega (arith, c.saturating_sub-position-end.ensures, c.loop-position-test.false, end, within, long)) (subst (Cover p tokens from) end cover)
