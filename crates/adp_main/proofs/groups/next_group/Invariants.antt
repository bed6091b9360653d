-- The problems are those of the first words, and the words behind them are still to come.
use Rattle.std.proofs.Common.{◌≡◌, ◌≤◌, ◌+◌, ◌++◌, List, drop, length, take}
use Rattle.std.specs.List.{AllZip}
use Rattle.std.specs.Option.{option_copied}
use Rattle.adp_model.specs.PosedProblem.{PosedProblem}
use Rattle.adp_model.specs.ProblemFields.{most_cells, most_nodes}
use Rattle.verdicts.specs.Posed.{posed_words}
use Rattle.adp_main.specs.Groups.{HaveCells, HaveNodes, IsSolvedFor}
use Rattle.adp_main.proofs.groups.next_group.Given as goal

abbrev pub invariant-loop-at : goal.invariant-loop-at
invariant-loop-at l = record {
  few : length l.problems.items ≤ 1024;
  together : HaveCells l.problems.items l.cells;
  small : l.cells ≤ most_cells;
  reached : l.at ≡ l.place + length l.problems.items;
  trees : HaveNodes l.job.checked.grammar (take (length l.problems.items) (drop l.place l.job.words)) l.nodes;
  light : l.nodes ≤ most_nodes;
  first : (asked : List PosedProblem) × AllZip (IsSolvedFor l.command (option_copied l.made)) asked l.problems.items
      × (asked ++ drop l.at (posed_words l.job.checked.grammar l.job.checked.algebra l.job.words)
      ≡ drop l.place (posed_words l.job.checked.grammar l.job.checked.algebra l.job.words));
}
