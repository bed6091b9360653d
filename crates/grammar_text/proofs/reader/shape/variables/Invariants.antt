use Rattle.std.proofs.Common.{◌≡◌, ◌*◌, ◌-◌, ◌≤◌, length, drop}
use Rattle.job_texts.specs.Declarations as forms
use Rattle.grammar_text.specs.Seen.{tokens_seen, words_seen}
use Rattle.grammar_text.proofs.Fronts.{with_variables}
use Rattle.grammar_text.proofs.reader.shape.variables.Given as goal

abbrev pub invariant-loop-variable : goal.invariant-loop-variable
invariant-loop-variable l = record {
  within : l.at ≤ length l.said;
  seen : with_variables (words_seen l.variables.items) (forms.let_tokens (tokens_seen (drop l.at l.said))) ≡ forms.let_tokens (tokens_seen l.said);
  place : l.at ≡ 2 * length l.variables.items;
}

abbrev pub decreases-loop-variable : goal.decreases-loop-variable
decreases-loop-variable l = length l.said - l.at
