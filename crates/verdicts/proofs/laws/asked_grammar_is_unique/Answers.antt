use Rattle.verdicts.proofs.OneVerdict.{TextLaws, asked_grammar, asked_algebra}
use Rattle.verdicts.proofs.laws.asked_grammar_is_unique.Goals as goal

texts : (c : goal.After-texts_spell_one_job) → TextLaws
texts c = record {
  one_job = c.texts_spell_one_job.ensures.one_job;
  one_fault = c.texts_spell_one_job.ensures.one_fault;
  not_both = c.texts_spell_one_job.ensures.not_both;
}

pub returns-clause-grammar : goal.returns-clause-grammar
returns-clause-grammar c = asked_grammar (texts c)

pub returns-clause-algebra : goal.returns-clause-algebra
returns-clause-algebra c = asked_algebra (texts c)
