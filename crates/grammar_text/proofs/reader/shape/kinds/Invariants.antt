use Rattle.std.proofs.Common.{◌≡◌, ◌-◌, ◌≤◌, length, drop}
use Rattle.job_texts.specs.Declarations as forms
use Rattle.grammar_text.specs.Seen.{tokens_seen}
use Rattle.grammar_text.proofs.Fronts.{with_front}
use Rattle.grammar_text.proofs.reader.shape.kinds.Given as goal

abbrev pub invariant-loop-kind : goal.invariant-loop-kind
invariant-loop-kind l = record {
  within : l.at ≤ length l.said;
  seen : with_front l.kinds.items (forms.kinds_of (tokens_seen (drop l.at l.said))) ≡ forms.kinds_of (tokens_seen l.said);
}

abbrev pub decreases-loop-kind : goal.decreases-loop-kind
decreases-loop-kind l = length l.said - l.at
