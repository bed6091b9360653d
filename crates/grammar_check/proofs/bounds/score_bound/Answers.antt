use Rattle.std.proofs.Common.{slice_index, sym, subst, arith}
use Rattle.grammar_check.specs.ToldBounds.{IsToldScoreBound}
use Rattle.grammar_check.proofs.bounds.score_bound.Goals as goal

pub returns : goal.returns
returns c =
    let checked = c.args.checked.now in
    subst (λ row. IsToldScoreBound checked.grammar checked.algebra c.args.n (slice_index row c.args.n)) (sym c.as_slice.ensures) (c.in_ok-rows.ensures.rows.scores_are c.args.n (omega (arith, c.in_ok-rows.ensures.longest)))
