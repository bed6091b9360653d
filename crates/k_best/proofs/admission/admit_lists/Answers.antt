use Rattle.std.proofs.Common.{◌≡◌, ◌<◌, ◌≤◌, ◌*◌, length, sym, ap, subst, arith}
use Rattle.adp_model.specs.PosedProblem.{PosedProblem}
use Rattle.adp_model.specs.Cells.{IsCellBound}
use Rattle.first_trees.specs.ListLimits.{IsListLimitFault, ManyListed, ManyListedNodes, most_listed}
use Rattle.k_best.proofs.admission.admit_lists.Goals as goal

pub returns-then-entries-gt-MOST_LISTED : goal.returns-then-entries-gt-MOST_LISTED
returns-then-entries-gt-MOST_LISTED c =
    let p = c.args.problem.now in
    let cells = c.problem.inside.cells in
    let bound : IsCellBound p.grammar (length p.word) cells =
    subst (λ (q : PosedProblem). IsCellBound q.grammar (length q.word) cells) c.problem.view_is c.problem.invariant.cells in
    let same : cells * c.args.k ≡ cells * c.from.result = ap (λ n. cells * n) (sym c.from.ensures) in
    let more : most_listed < cells * c.args.k = omega (arith, c.if-entries-gt-MOST_LISTED.true, same) in
    subst (λ n. IsListLimitFault p.grammar (length p.word) c.args.k (record { kind = 5; number = n })) same (ManyListed cells bound more)

pub returns-then-listed-gt-MOST_LISTED : goal.returns-then-listed-gt-MOST_LISTED
returns-then-listed-gt-MOST_LISTED c =
    let p = c.args.problem.now in
    let cells = c.problem.inside.cells in
    let bound : IsCellBound p.grammar (length p.word) cells =
    subst (λ (q : PosedProblem). IsCellBound q.grammar (length q.word) cells) c.problem.view_is c.problem.invariant.cells in
    let same_cells : cells * c.args.k ≡ cells * c.from.result = ap (λ n. cells * n) (sym c.from.ensures) in
    let few : cells * c.args.k ≤ most_listed = omega (arith, c.if-entries-gt-MOST_LISTED.false, same_cells) in
    let same : c.args.nodes * c.args.k ≡ c.args.nodes * c.from-2.result = ap (λ n. c.args.nodes * n) (sym c.from-2.ensures) in
    let more : most_listed < c.args.nodes * c.args.k = omega (arith, c.if-listed-gt-MOST_LISTED.true, same) in
    subst (λ n. IsListLimitFault p.grammar (length p.word) c.args.k (record { kind = 6; number = n })) same
    (ManyListedNodes c.args.nodes (cells, bound, few) c.requires.node_bound more)

pub returns : goal.returns
returns c =
    let p = c.args.problem.now in
    let cells = c.problem.inside.cells in
    let bound : IsCellBound p.grammar (length p.word) cells =
    subst (λ (q : PosedProblem). IsCellBound q.grammar (length q.word) cells) c.problem.view_is c.problem.invariant.cells in
    let same_cells : cells * c.args.k ≡ cells * c.from.result = ap (λ n. cells * n) (sym c.from.ensures) in
    let same : c.args.nodes * c.args.k ≡ c.args.nodes * c.from-2.result = ap (λ n. c.args.nodes * n) (sym c.from-2.ensures) in
    record {
      cells = (cells, bound, omega (arith, c.if-entries-gt-MOST_LISTED.false, same_cells));
      nodes = (c.args.nodes, c.requires.node_bound, omega (arith, c.if-listed-gt-MOST_LISTED.false, same));
    }
