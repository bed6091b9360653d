use Rattle.std.proofs.Common.{◌+◌, ◌≤◌, arith, ◌≡◌, ◌↔◌, ℕ, Option, Some, List, [], ◌∷◌, slice_get, ap, subst, sym, ◌∙◌}
use Rattle.std.specs.List.{AllByRecursion}
use Rattle.std.specs.Prelude.{IfSome}
use Rattle.std.proofs.lemmas.Bool.{false≢true}
use Rattle.adp_model.specs.declared.grammar.Arg.{Arg}
use Rattle.adp_model.specs.declared.grammar.Arg.TheVariants.{Letter}
use Rattle.adp_model.specs.PosedProblem.{PosedProblem}
use Rattle.adp_model.specs.WellFormed.{IsKnown}
use Rattle.viable_splits.specs.Placing.{Cover}
use Rattle.split_lines.specs.Kept.{AreOneOfClass, BeginWith}
use Rattle.split_lines.proofs.MakingReady.{letter_stands, letter_covers}
use Rattle.split_lines.proofs.kept.front_end.Goals as goal
use Rattle.split_lines.proofs.kept.front_end.Goals.{After-letters, In-Some}

word_is : (c : After-letters) → c.letters.result.now ≡ c.args.tables.now.word
word_is c = c.letters.ensures.word ∙ ap (λ (p : PosedProblem). p.word) c.problem.ensures

begins : (c : After-letters) → BeginWith c.args.alternative.now.front.now c.in-Some-first.letter
begins c =
    let F : Option ℕ → Type 0 = λ first. IfSome first (BeginWith c.args.alternative.now.front.now) in
    subst F c.in-Some-first.is c.requires.front.first

pub returns-then-not-stands : goal.returns-then-not-stands
returns-then-not-stands c = λ end. (
  λ e. absurd cc,
  λ it.
      let at = (goal.at.returns-then-not-stands c).After-letters in
      let S : List ℕ → Type 0 = λ word. slice_get word c.args.from ≡ Some c.in-Some-first.letter in
      let yes = c.stands.ensures.1 (subst S (sym (word_is at)) (letter_stands c.args.tables.now c.args.alternative.now.front.now c.in-Some-first.letter c.args.from end (begins at) it.1)) in
      absurd (false≢true (sym c.if-not-stands.true ∙ yes)),
)

pub returns-then-alternative : goal.returns-then-alternative
returns-then-alternative c =
    let at = (goal.at.returns-then-alternative c).After-letters in
    let p = c.args.tables.now in
    let kept = c.args.alternative.now in
    let front = kept.front.now in
    let from = c.args.from in
    let S : List ℕ → Type 0 = λ word. slice_get word from ≡ Some c.in-Some-first.letter in
    let stands = subst S (word_is at) (c.stands.ensures.0 c.if-not-stands.false) in
    let covers = letter_covers p front c.in-Some-first.letter from (begins at) (c.requires.front.alone c.if-alternative.true) stands in
    let one : from + 1 ≡ from + kept.letters = c.requires.front.letters from (from + 1) covers in
    let E : ℕ → Type 0 = λ end. (end ≤ c.args.to) × Cover p front from end in
    let here : E (from + kept.letters) = (omega arith, subst (Cover p front from) one covers) in
    λ end. (
      λ e. let same : from + kept.letters ≡ end = cc in subst E same here,
      λ it. ap Some (sym (c.requires.front.letters from end it.1)),
    )

-- ---- a letter of a class alone

alone_is : (c : In-Some) → c.args.alternative.now.front.now ≡ Letter c.in-Some.class ∷ []
alone_is c =
    let F : Option ℕ → Type 0 = λ class. IfSome class (AreOneOfClass c.args.alternative.now.front.now) in
    subst F c.in-Some.is c.requires.front.class

pub letter_end-requires-clause-known : goal.letter_end-requires-clause-known
letter_end-requires-clause-known c =
    let K : List Arg → Type 0 = AllByRecursion (IsKnown c.args.tables.now.grammar) in
    (subst K (alone_is c) c.requires.front.known).0

pub returns-in-Some : goal.returns-in-Some
returns-in-Some c =
    let at = (goal.at.returns-in-Some c).In-Some in
    let T : List Arg → Type 0 = λ front. (end : ℕ) → (c.letter_end.result ≡ Some end) ↔ ((end ≤ c.args.to) × Cover c.args.tables.now front c.args.from end) in
    subst T (sym (alone_is at)) c.letter_end.ensures
