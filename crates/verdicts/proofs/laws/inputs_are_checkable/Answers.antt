use Rattle.verdicts.proofs.Checkable.{checkable}
use Rattle.verdicts.proofs.laws.inputs_are_checkable.Goals as goal

pub returns : goal.returns
returns c = checkable (record {
  faultless = c.faultless_grammars_have_sizes_and_ranks.ensures;
  one_grammar = c.asked_grammar_is_unique.ensures.grammar;
  one_algebra = c.asked_grammar_is_unique.ensures.algebra;
  once = c.right_certificates_part_at_job.ensures.once;
})
