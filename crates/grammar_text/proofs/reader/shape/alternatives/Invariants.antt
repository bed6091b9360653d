use Rattle.std.proofs.Common.{◌≡◌, ◌-◌, ◌≤◌, length, map, drop}
use Rattle.job_texts.specs.Declarations as forms
use Rattle.grammar_text.specs.Seen.{tokens_seen, alternative_seen}
use Rattle.grammar_text.proofs.Fronts.{with_front}
use Rattle.grammar_text.proofs.reader.shape.alternatives.Given as goal

abbrev pub invariant-loop-sign : goal.invariant-loop-sign
invariant-loop-sign l = record {
  within : l.at ≤ length l.said;
  seen : with_front (map alternative_seen l.alternatives.items) (forms.alternatives_of (tokens_seen (drop l.at l.said))) ≡ forms.alternatives_of (tokens_seen l.said);
}

abbrev pub decreases-loop-sign : goal.decreases-loop-sign
decreases-loop-sign l = length l.said - l.at
