use Rattle.verdicts.proofs.Decided.{reports_or_not, same_or_of_wins}
use Rattle.verdicts.proofs.OneCertificate.{SplitLaws, one_of_both, only_of_both}
use Rattle.verdicts.proofs.OneVerdict.{ModelLaws}
use Rattle.verdicts.proofs.laws.verdict_is_unique.Goals as goal

laws : (c : goal.After-first_false_line_is_unique) → ModelLaws
laws c = record {
  texts = record {
    one_job = c.texts_spell_one_job.ensures.one_job;
    one_fault = c.texts_spell_one_job.ensures.one_fault;
    not_both = c.texts_spell_one_job.ensures.not_both;
  };
  hides = c.texts_hide_alternatives.ensures;
  plain = c.nested_reports_are_the_plain_ones.ensures;
  one_report = c.report_is_unique.ensures.word;
  one_made = c.report_is_unique.ensures.made;
  kept = c.limits_are_kept_or_passed.ensures.kept;
  one_limit = c.limits_are_kept_or_passed.ensures.one;
  pair_kept = c.pair_limits_are_kept_or_passed.ensures.kept;
  one_pair_limit = c.pair_limits_are_kept_or_passed.ensures.one;
  one_pair_report = λ number p second pair. c.words_have_one_pair_report.ensures.one number p second pair.limits.bound
      (c.pair_limits_are_kept_or_passed.ensures.compilable p second pair)
      (c.pair_limits_are_kept_or_passed.ensures.admissible p second pair);
  one_block = c.words_have_one_certificate.ensures.one;
  one_score = c.words_have_one_score_report.ensures.one;
  one_list = c.words_have_one_list_report.ensures.one;
  lists_kept = c.list_limits_are_kept_or_passed.ensures.kept;
  one_list_limit = c.list_limits_are_kept_or_passed.ensures.one;
  some_listed = c.list_limits_are_kept_or_passed.ensures.some;
}

splits : (c : goal.After-first_false_line_is_unique) → SplitLaws
splits c = record {
  once = c.right_certificates_part_at_job.ensures.once;
  there = c.right_certificates_part_at_job.ensures.line;
  one_line = c.first_false_line_is_unique.ensures;
  no_line = c.right_certificates_are_not_rejected.ensures;
}

pub returns-clause-same : goal.returns-clause-same
returns-clause-same c words bytes a b h k =
    same_or_of_wins words bytes a b h (λ refuted.
    c.inputs_are_checkable.ensures words bytes (λ checks.
    refuted (one_of_both (laws c) (splits c) words bytes checks a b h k)))

pub returns-clause-reported : goal.returns-clause-reported
returns-clause-reported c words bytes reports verdict h k =
    reports_or_not verdict (λ refuted.
    c.inputs_are_checkable.ensures words bytes (λ checks.
    refuted (only_of_both (laws c) (splits c) words bytes reports verdict h k (λ limit. checks))))
