use Rattle.std.proofs.Common.{ℕ, ◌<◌, ℤ, get_or, FitsSigned, w64, to_z, of_z, sym, ap, subst, ◌∙◌, arith, inl, inr, rules, below_more}
use Rattle.std.proofs.lemmas.Bool.{cases_lt}
use Rattle.std.proofs.lemmas.List.{get_or_default}
use Rattle.std.proofs.lemmas.List.Elements.{Contains-get_or}
use Rattle.std.proofs.lemmas.Int.{to_z-of_z}
use Rattle.cell_answers.specs.Through.{HasLineTotal}
use Rattle.cell_answers.proofs.Soundness.{same_bits}
use Rattle.cell_answers.proofs.answer_cuts.first_valued.Goals as goal
use Rattle.cell_answers.proofs.answer_cuts.first_valued.Goals.{After-are_worthless-weigh, in-Some+else-found-total, in_default}

abbrev Through : After-are_worthless-weigh → ℤ → ℕ → Type 0
Through c total position = HasLineTotal c.args.lines.now c.args.line.now position total

-- at none of the positions before this number is it the total
abbrev IsNoneBefore : After-are_worthless-weigh → ℤ → ℕ → Type 0
IsNoneBefore c total count = (number : ℕ) → number < count → Through c total (get_or c.args.line.now.boundary.positions.now number 0) → ⊥

pub total_through-through-requires-clause-stands : goal.total_through-through-requires-clause-stands
total_through-through-requires-clause-stands c =
    Contains-get_or c.args.line.now.boundary.positions.now c.loop-position.position-index 0 c.loop-position-test.true

pub returns-then-found-total : goal.returns-then-found-total
returns-then-found-total c =
    let at = (goal.at.returns-then-found-total c).After-are_worthless-weigh in
    let positions = c.args.line.now.boundary.positions.now in
    let count = c.loop-position.position-index in
    let position = get_or positions count 0 in
    let fits_total : FitsSigned w64 c.args.total = search rules in
    let fits_found : FitsSigned w64 c.in-Some.found = search rules in
    let same = same_bits c.in-Some.found c.args.total fits_found fits_total c.if-found-total.true in
    let none : IsNoneBefore at (to_z w64 (of_z w64 c.args.total)) count = c.loop-position.invariant in
    let none' : IsNoneBefore at c.args.total count = subst (λ total. IsNoneBefore at total count) (to_z-of_z w64 c.args.total fits_total) none in
    let there : Through at c.in-Some.found position = c.in-Some.ensures.greatest.0 in
    let before = c.lesser_positions_stand_before.ensures positions c.requires.opened.boundary.rising count c.loop-position-test.true in
    record {
      stands = Contains-get_or positions count 0 c.loop-position-test.true;
      holds = subst (λ total. Through at total position) same there;
      first = λ other stands holds. elim (cases_lt other position) [
        | inl less ↦ let it = before other stands less in absurd (none' it.0 it.1 (subst (Through at c.args.total) (sym it.2) holds))
        | inr up ↦ up
      ];
    }

pub loop-position-preserved : goal.loop-position-preserved
loop-position-preserved c =
    let at = (goal.at.loop-position-preserved c).After-are_worthless-weigh in
    let position = get_or c.args.line.now.boundary.positions.now c.loop-position.position-index 0 in
    let fits_total : FitsSigned w64 c.args.total = search rules in
    let H : ℤ → Type 0 = λ total. Through at total position in
    let here : H (to_z w64 (of_z w64 c.args.total)) → H c.args.total = subst H (to_z-of_z w64 c.args.total fits_total) in
    below_more _ _ c.loop-position.invariant
    (elim c.match-through.branch [
      | in-Some+else-found-total w ↦ λ through. w.if-found-total.false (ap (of_z w64) (sym (w.in-Some.ensures.only c.args.total (here through))))
      | in_default w ↦ λ through. w.in_default.ensures.greatest c.args.total (here through)
    ])

pub returns : goal.returns
returns c = λ position stands through.
    let at = (goal.at.returns c).After-are_worthless-weigh in
    let positions = c.args.line.now.boundary.positions.now in
    let fits_total : FitsSigned w64 c.args.total = search rules in
    let none : IsNoneBefore at (to_z w64 (of_z w64 c.args.total)) c.loop-position.position-index = c.loop-position.invariant in
    let there = sym (get_or_default positions stands.0 0 position stands.1 ∙ stands.2) in
    subst (λ total. IsNoneBefore at total c.loop-position.position-index) (to_z-of_z w64 c.args.total fits_total) none
    stands.0 (omega (arith, stands.1, c.loop-position-test.false)) (subst (Through at c.args.total) there through)
