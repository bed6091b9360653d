use Rattle.std.proofs.Common.{refl, sym, subst, arith}
use Rattle.adp_model.specs.PosedProblem.{PosedProblem}
use Rattle.adp_model.specs.Splits.{IsViable}
use Rattle.adp_model.specs.Walk.{IsFirstVisited}
use Rattle.memo_model.specs.declared.visit.Position.{Position}
use Rattle.argument_search.specs.Seeking.{AreAllNoted, IsEntry}
use Rattle.argument_search.proofs.walk.first_left.Goals as goal

pub returns-in_default : goal.returns-in_default
returns-in_default g c =
    subst (λ (q : PosedProblem). AreAllNoted q (g.N.NotedCells.is_noted c.args.noted.now) c.args.cell c.args.alt)
    c.requires.same c.in_default.ensures

pub returns-in-Some-only_split : goal.returns-in-Some-only_split
returns-in-Some-only_split g c =
    subst (λ (q : PosedProblem). IsEntry q c.args.cell c.args.alt c.args.turns c.in-Some-only_split.at)
    c.requires.same (c.in-Some-only_split.ensures c.args.turns)

pub returns-then-first_viable : goal.returns-then-first_viable
returns-then-first_viable g c =
    let p = c.args.problem.now in
    let first = subst
    (λ (q : PosedProblem). IsFirstVisited q c.args.cell c.args.alt c.args.turns c.first_viable.new.cuts.at)
    c.requires.same c.if-first_viable.ensures.first in
    subst (λ (at : Position). IsEntry p c.args.cell c.args.alt c.args.turns at) (sym c.first_of.ensures)
    (record {
      here = refl;
      first = first;
      within = c.alternatives_fit.ensures.arguments p.grammar c.admissible.ensures.checked.well_formed c.args.cell.rule
          c.args.alt c.requires.alternative;
      tokens = λ number child none. absurd (omega arith);
    })

pub returns : goal.returns
returns g c = λ cuts number child asks.
    absurd
    (c.if-first_viable.ensures.none cuts
    (subst (λ (q : PosedProblem). IsViable q c.args.cell c.args.alt cuts) (sym c.requires.same) asks.viable))
