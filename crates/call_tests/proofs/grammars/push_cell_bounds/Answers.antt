use Rattle.call_tests.proofs.grammars.push_cell_bounds.Goals as goal

pub cell_bound-bound-requires-clause-sizes : goal.cell_bound-bound-requires-clause-sizes
cell_bound-bound-requires-clause-sizes c =
    let inside = c.checked.inside in
    c.checked_sizes_are_the_sizes.ensures inside.grammar inside.algebra inside.sizes.least inside.sizes.greatest inside.ranks c.checked.invariant.found
