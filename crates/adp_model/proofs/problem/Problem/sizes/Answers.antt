use Rattle.std.proofs.Common.{◌<◌, ◌↔◌, length, subst, sym}
use Rattle.adp_model.specs.PosedProblem.{PosedProblem}
use Rattle.adp_model.specs.Sizes.{IsWithinSizes, IsBetween}
use Rattle.adp_model.proofs.problem.Problem.sizes.Goals as goal

pub returns : goal.returns
returns c = λ len.
    let inside = c.self.inside in
    let in_range : c.args.rule < length inside.grammar.now.rules =
    subst (λ (p : PosedProblem). c.args.rule < length p.grammar.rules) (sym c.self.view_is) c.requires in
    let numbers = c.sizes_are_the_checked_numbers.ensures inside.grammar.now inside.algebra inside.least.now
    inside.greatest.now inside.ranks.now c.self.invariant.checked c.args.rule len in_range in
    rw (c.as_slice.ensures, c.as_slice-2.ensures)
    (subst (λ (p : PosedProblem).
    IsWithinSizes p.grammar c.args.rule len ↔ IsBetween inside.least.now inside.greatest.now c.args.rule len)
    c.self.view_is numbers)
