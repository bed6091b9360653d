use Rattle.std.proofs.Common.{length}
use Rattle.k_best.proofs.Reporting.{three_parts}
use Rattle.first_trees.specs.ListReport.{lines_of}
use Rattle.k_best.proofs.grown_report.report_of.Goals as goal

pub returns : goal.returns
returns c =
    let trees = rw c.in-Some.is at c.in_ok-count.ensures in (
      trees.0,
      trees.1,
      three_parts c.args.number c.from.result c.in-Some.count c.new-out.result.items c.push_number_line.new.out.items c.push_grown_list.new.out.items
          c.push_number_line-2.new.out.items (lines_of c.args.basis.now.lines.now trees.0) c.new-out.ensures.items c.from.ensures c.in_ok-push_number_line.ensures trees.2
          c.in_ok-push_number_line-2.ensures (length trees.0) trees.3,
    )
