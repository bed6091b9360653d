use Rattle.grammar_text.proofs.AcceptedTexts.{accepted-of_version, accepted-well_formed, accepted-printable, accepted-few}
use Rattle.grammar_text.proofs.laws.verdicts.accepted_texts_are_jobs.Goals as goal

pub returns : goal.returns
returns c = record {
  well_formed = accepted-well_formed;
  of_version = accepted-of_version;
  printable_words = accepted-printable;
  few_words = accepted-few;
}
