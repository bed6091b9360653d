use Rattle.std.proofs.Common.{◌≡◌, ◌-◌, ◌≤◌, length, map, drop}
use Rattle.job_texts.specs.Declarations as forms
use Rattle.grammar_text.specs.Seen.{tokens_seen, argument_seen, with_arguments}
use Rattle.grammar_text.proofs.reader.shape.arguments.Given as goal

abbrev pub invariant-loop-argument : goal.invariant-loop-argument
invariant-loop-argument l = record {
  within : l.at ≤ length l.said;
  seen : with_arguments (map argument_seen l.arguments.items) (forms.arguments_of (tokens_seen (drop l.at l.said))) ≡ forms.arguments_of (tokens_seen l.said);
}

abbrev pub decreases-loop-argument : goal.decreases-loop-argument
decreases-loop-argument l = length l.said - l.at
