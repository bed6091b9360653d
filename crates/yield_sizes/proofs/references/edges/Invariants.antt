use Rattle.std.proofs.Common.{◌≡◌, length, take}
use Rattle.std.specs.List.{list_any}
use Rattle.yield_sizes.specs.ArgumentTests.{is_edge}
use Rattle.yield_sizes.proofs.ArgumentFacts.{answers_of}
use Rattle.yield_sizes.proofs.references.edges.Given as goal

abbrev pub invariant-loop-rule : goal.invariant-loop-rule
invariant-loop-rule l = l.rows.items ≡ answers_of (λ other alternatives. list_any (is_edge l.least other) alternatives) (length l.rules) (take l.rule-index l.rules)
