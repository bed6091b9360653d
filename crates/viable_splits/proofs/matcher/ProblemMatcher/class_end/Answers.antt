use Rattle.std.proofs.Common.{◌-◌, take, drop, ap}
use Rattle.viable_splits.proofs.EndPositions.{class_end_at}
use Rattle.viable_splits.proofs.matcher.ProblemMatcher.class_end.Goals as goal

pub returns : goal.returns
returns c =
    let from = c.args.from in
    let last = c.args.last in
    class_end_at c.args.self.now c.args.class from last c.reach.result (take (last - from) (drop from c.letters.result.now)) c.requires.span (ap (λ xs. take (last - from) (drop from xs)) c.letters.ensures.word) c.reach.ensures.within (rw c.class_letters.ensures at c.reach.ensures.reach)
