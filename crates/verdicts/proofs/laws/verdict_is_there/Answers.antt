use Rattle.verdicts.proofs.Existing.{verdict_there}
use Rattle.verdicts.proofs.laws.verdict_is_there.Goals as goal

pub returns : goal.returns
returns c = verdict_there (record {
  job = record {
    texts = c.texts_spell_a_job_or_have_a_fault.ensures;
    hides = c.texts_hide_alternatives.ensures;
    judged = c.grammars_are_faulty_or_sound.ensures;
    faultless = c.faultless_grammars_have_sizes_and_ranks.ensures;
    limits = record {
      cells = c.lengths_keep_or_pass_limits.ensures.cells;
      limits = c.lengths_keep_or_pass_limits.ensures.limits;
      score = c.words_have_one_bound.ensures.score;
      node = c.words_have_one_bound.ensures.node;
      second = c.pairs_pass_the_checks.ensures.second;
      compiled = c.pairs_pass_the_checks.ensures.compiled;
    };
    reports = c.words_have_reports.ensures;
  };
  split = c.inputs_part_at_job.ensures;
  made = c.made_words_have_reports.ensures;
})
