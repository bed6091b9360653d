use Rattle.std.proofs.Common.{sym, ◌∙◌}
use Rattle.job_texts.specs.TextFaults.{is_unknown_argument}
use Rattle.grammar_text.specs.Seen.{argument_seen}
use Rattle.grammar_text.proofs.Scans.{one_passes_at, one_more_fails_at, none_passes}
use Rattle.grammar_text.proofs.reader.names.has_unknown_argument.Goals as goal

pub returns-then-is_unknown : goal.returns-then-is_unknown
returns-then-is_unknown c = λ all are.
    sym (one_passes_at argument_seen (is_unknown_argument all) c.args.arguments.now c.loop-argument.argument-index _
    c.loop-argument-test.true (sym (c.is_unknown.ensures all are) ∙ c.if-is_unknown.true) (c.loop-argument.invariant all are))

pub loop-argument-preserved : goal.loop-argument-preserved
loop-argument-preserved c = λ all are.
    one_more_fails_at argument_seen (is_unknown_argument all) c.args.arguments.now c.loop-argument.argument-index _
    c.loop-argument-test.true (sym (c.is_unknown.ensures all are) ∙ c.if-is_unknown.false) (c.loop-argument.invariant all are)

pub returns : goal.returns
returns c = λ all are. sym (none_passes argument_seen (is_unknown_argument all) c.args.arguments.now c.loop-argument.argument-index c.loop-argument-test.false (c.loop-argument.invariant all are))
