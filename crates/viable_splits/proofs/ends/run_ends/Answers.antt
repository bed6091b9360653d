use Rattle.viable_splits.proofs.EndPositions.{run_ends_at}
use Rattle.viable_splits.proofs.ends.run_ends.Goals as goal

pub returns : goal.returns
returns g c =
    let most = c.last_end-most.result in
    run_ends_at (g.M.Matcher.posed c.args.matcher.now) c.args.class c.args.low c.args.from c.args.last most c.class_end.result c.args.high c.requires.span c.last_end-most.ensures.after c.last_end-most.ensures.within c.last_end-most.ensures.exact c.class_end.ensures
