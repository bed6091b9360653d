use Rattle.viable_splits.proofs.EndPositions.{literal_ends_at, literal_ends_nowhere}
use Rattle.viable_splits.proofs.ends.literal_ends.Goals as goal

pub returns-then-begins_with : goal.returns-then-begins_with
returns-then-begins_with c =
    literal_ends_at c.args.problem.now c.args.text.now c.args.from c.args.last _ c.requires.span (rw c.letters.ensures.word at c.begins_with.ensures) c.if-begins_with.true

pub returns-else-begins_with : goal.returns-else-begins_with
returns-else-begins_with c =
    literal_ends_nowhere c.args.problem.now c.args.text.now c.args.from c.args.last _ c.requires.span (rw c.letters.ensures.word at c.begins_with.ensures) c.if-begins_with.false
