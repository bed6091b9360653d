use Rattle.std.proofs.Common.{◌+◌, ◌*◌}
use Rattle.grammar_text.proofs.Leaves.{leaf_count}
use Rattle.grammar_text.proofs.writer.algebras.+part.Given as goal

abbrev pub decreases-push_part : goal.decreases-push_part
decreases-push_part l = 3 * leaf_count l.term.now + 2

abbrev pub decreases-push_between : goal.decreases-push_between
decreases-push_between l = 3 * (leaf_count l.left.now + leaf_count l.right.now)

abbrev pub decreases-push_pair : goal.decreases-push_pair
decreases-push_pair l = 3 * (leaf_count l.left.now + leaf_count l.right.now) + 1
