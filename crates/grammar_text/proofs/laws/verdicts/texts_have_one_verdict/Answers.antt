use Rattle.grammar_text.proofs.AcceptedTexts.{some_verdict, not_both_verdicts, one_job, one_fault}
use Rattle.grammar_text.proofs.laws.verdicts.texts_have_one_verdict.Goals as goal

pub returns : goal.returns
returns c = record {
  some = some_verdict;
  not_both = not_both_verdicts;
  one_job = one_job;
  one_fault = one_fault;
}
