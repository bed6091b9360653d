use Rattle.std.proofs.Common.{◌≡◌, ◌-◌, ◌≤◌, length, map, drop}
use Rattle.job_texts.specs.Declarations as forms
use Rattle.grammar_text.specs.Seen.{tokens_seen, item_seen}
use Rattle.grammar_text.proofs.Fronts.{with_front}
use Rattle.grammar_text.proofs.reader.shape.items.Given as goal

abbrev pub invariant-loop-at : goal.invariant-loop-at
invariant-loop-at l = record {
  within : l.at ≤ length l.said;
  seen : with_front (map item_seen l.items.items) (forms.further_items (tokens_seen (drop l.at l.said))) ≡ forms.further_items (tokens_seen l.said);
}

abbrev pub decreases-loop-at : goal.decreases-loop-at
decreases-loop-at l = length l.said - l.at
