use Rattle.split_lines.proofs.ExtentPositions.{extent_ends}
use Rattle.split_lines.proofs.extents.Extent.ends.Goals as goal

pub returns : goal.returns
returns c = λ argument is.
    extent_ends c.args.tables.now argument c.args.self c.args.from c.args.last c.min-most.result c.class_end-end.result is c.requires.span c.requires.short c.min-most.ensures c.class_end-end.ensures.within c.class_end-end.ensures.exact
