use Rattle.std.proofs.Common.{max, ap, ◌∙◌}
use Rattle.split_lines.proofs.ExtentPositions.{extent_starts}
use Rattle.split_lines.proofs.extents.Extent.starts.Goals as goal

pub returns : goal.returns
returns c = λ argument is.
    extent_starts c.args.tables.now argument c.args.self c.args.first c.args.to c.max-longest.result c.class_start-start.result c.saturating_sub-2.result is c.requires.span c.requires.short (c.max-longest.ensures ∙ ap (max c.args.first) c.saturating_sub.ensures) c.class_start-start.ensures.from_first c.class_start-start.ensures.exact c.saturating_sub-2.ensures
