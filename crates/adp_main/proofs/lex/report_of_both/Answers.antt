use Rattle.std.proofs.Common.{◌∙◌}
use Rattle.std.proofs.lemmas.Result.{IfOk-weaker}
use Rattle.adp_main.proofs.CompiledWords.{is_compiled}
use Rattle.adp_main.proofs.lex.report_of_both.Goals as goal

pub pair_report-requires-clause-cells : goal.pair_report-requires-clause-cells
pair_report-requires-clause-cells c =
    c.demanded_cells.ensures c.args.problem.now c.requires.finished.0 c.requires.finished.1

pub returns : goal.returns
returns c =
    IfOk-weaker c.pair_report.result _ _ (λ report all name p for same. all p for.second (record {
      bound = for.bound;
      compilable = for.compilable;
      same = same ∙ is_compiled name p c.args.compiled.now for;
      scores_are = c.both_scores-scores.ensures.both name p for same;
    })) c.pair_report.ensures
