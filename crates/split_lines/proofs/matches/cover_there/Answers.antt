use Rattle.std.proofs.Common.{◌≡◌, ℕ, Option, Some, List, slice_get, sym, ap, subst, ◌∙◌}
use Rattle.std.specs.Prelude.{IfSome}
use Rattle.std.proofs.lemmas.Bool.{false≢true}
use Rattle.adp_model.specs.PosedProblem.{PosedProblem}
use Rattle.split_lines.specs.Kept.{BeginWith}
use Rattle.split_lines.proofs.MakingReady.{letter_stands}
use Rattle.split_lines.proofs.matches.cover_there.Goals as goal

pub returns-then-not-stands : goal.returns-then-not-stands
returns-then-not-stands c = (
  λ e. absurd (false≢true e),
  λ cover.
      let p = c.args.tables.now in
      let F : Option ℕ → Type 0 = λ first. IfSome first (BeginWith c.args.tokens.now) in
      let begins : BeginWith c.args.tokens.now c.in-Some.letter = subst F c.in-Some.is c.requires.first in
      let S : List ℕ → Type 0 = λ word. slice_get word c.args.from ≡ Some c.in-Some.letter in
      let word_is : c.letters.result.now ≡ p.word = c.letters.ensures.word ∙ ap (λ (p : PosedProblem). p.word) c.problem.ensures in
      let yes = c.stands.ensures.1 (subst S (sym word_is) (letter_stands p c.args.tokens.now c.in-Some.letter c.args.from c.args.to begins cover)) in
      absurd (false≢true (sym c.if-not-stands.true ∙ yes)),
)
