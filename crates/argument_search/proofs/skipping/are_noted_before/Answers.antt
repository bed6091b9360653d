use Rattle.std.proofs.Common.{◌≡◌, ℕ, ◌+◌, inl, inr, sym, subst, arith}
use Rattle.std.proofs.lemmas.Bool.{cases_lt}
use Rattle.adp_model.specs.declared.cell.Cell.{Cell}
use Rattle.memo_model.specs.declared.visit.Position.{Position}
use Rattle.adp_model.specs.PosedProblem.{PosedProblem}
use Rattle.adp_model.specs.SplitArguments.{AsksFor}
use Rattle.memo_model.specs.Visits.{argument_at}
use Rattle.argument_search.specs.Skipping.{AreNotedBefore}
use Rattle.argument_search.proofs.SeekSteps.{asks_one}
use Rattle.argument_search.proofs.skipping.are_noted_before.Goals as goal
use Rattle.argument_search.proofs.skipping.are_noted_before.Goals.{in-Some+else-not-has, in_default}

one_more : (p : PosedProblem) (Noted : Cell → Type 0) (cell : Cell) (at there : Position) (n : ℕ)
    → there ≡ record { alternative = at.alternative; cuts = at.cuts; number = n } → AreNotedBefore p Noted cell at n
    → ((child : Cell) → AsksFor p (argument_at cell there) child → Noted child) → AreNotedBefore p Noted cell at (n + 1)
one_more p Noted cell at there n is before here number child less asks =
    elim (cases_lt number n) [
      | inl earlier ↦ before number child earlier asks
      | inr not ↦
          let same : number ≡ n = omega arith in
          here child
          (subst (λ (b : Position). AsksFor p (argument_at cell b) child) (sym is)
          (subst
          (λ k. AsksFor p (record { cell = cell; alternative = at.alternative; cuts = at.cuts; number = k })
          child) same asks))
    ]

pub returns : goal.returns
returns g c = λ number child less asks.
    c.loop-number.invariant.noted number child (let l = c.loop-number-test.false in omega arith) asks

pub loop-number-preserved : goal.loop-number-preserved
loop-number-preserved g c =
    let p = c.args.problem.now in
    let Noted = g.N.NotedCells.is_noted c.args.noted.now in
    record {
      noted = one_more p Noted c.args.cell c.args.at c.at_number.result c.loop-number.number c.at_number.ensures
          c.loop-number.invariant.noted
          (elim c.match-asked.branch [
            | in-Some+else-not-has w ↦ λ child asks. subst Noted
                (asks_one p (argument_at c.args.cell c.at_number.result) w.in-Some.child child w.in-Some.ensures asks)
                (w.has.ensures.0 w.if-not-has.false)
            | in_default w ↦ λ child asks. absurd (w.in_default.ensures child asks)
          ]);
    }
