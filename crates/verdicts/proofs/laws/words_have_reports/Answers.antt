use Rattle.verdicts.proofs.Reported.{report_asked_for}
use Rattle.verdicts.proofs.laws.words_have_reports.Goals as goal

pub returns : goal.returns
returns c =
    report_asked_for (record {
      nested = c.nested_reports_are_the_plain_ones.ensures;
      plain = c.words_have_reports.ensures;
      paired = λ number p second pair. c.words_have_one_pair_report.ensures.report number p second pair.limits.bound
          (c.pair_limits_are_kept_or_passed.ensures.compilable p second pair)
          (c.pair_limits_are_kept_or_passed.ensures.admissible p second pair);
      block = c.words_have_one_certificate.ensures.there;
      score = c.words_have_one_score_report.ensures.there;
      listed = c.words_have_one_list_report.ensures.there;
    })
