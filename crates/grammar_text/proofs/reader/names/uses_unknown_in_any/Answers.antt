use Rattle.std.proofs.Common.{sym, ◌∙◌}
use Rattle.job_texts.specs.TextFaults.{is_unknown_alternative}
use Rattle.grammar_text.specs.Seen.{alternative_seen}
use Rattle.grammar_text.proofs.Scans.{one_passes, one_more_fails, none_passes}
use Rattle.grammar_text.proofs.reader.names.uses_unknown_in_any.Goals as goal

pub returns-then-uses_unknown_in : goal.returns-then-uses_unknown_in
returns-then-uses_unknown_in c = λ all are.
    sym (one_passes alternative_seen (is_unknown_alternative all) c.args.alternatives.now c.loop-alternative.alternative-index c.alternative-item.result
    c.loop-alternative-test.true c.alternative-item.is (sym (c.uses_unknown_in.ensures all are) ∙ c.if-uses_unknown_in.true) (c.loop-alternative.invariant all are))

pub loop-alternative-preserved : goal.loop-alternative-preserved
loop-alternative-preserved c = λ all are.
    one_more_fails alternative_seen (is_unknown_alternative all) c.args.alternatives.now c.loop-alternative.alternative-index c.alternative-item.result
    c.loop-alternative-test.true c.alternative-item.is (sym (c.uses_unknown_in.ensures all are) ∙ c.if-uses_unknown_in.false) (c.loop-alternative.invariant all are)

pub returns : goal.returns
returns c = λ all are. sym (none_passes alternative_seen (is_unknown_alternative all) c.args.alternatives.now c.loop-alternative.alternative-index c.loop-alternative-test.false (c.loop-alternative.invariant all are))
