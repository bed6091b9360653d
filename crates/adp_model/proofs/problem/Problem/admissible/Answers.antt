-- The fields' numbers are those that the checks and the limits ask for.
use Rattle.std.proofs.Common.{subst}
use Rattle.adp_model.specs.ProblemFields.{IsAdmissible}
use Rattle.adp_model.proofs.problem.Problem.admissible.Goals as goal

pub returns : goal.returns
returns c =
    let fields = c.self.inside in
    let kept = c.self.invariant in
    subst IsAdmissible c.self.view_is record {
      least = fields.least.now;
      greatest = fields.greatest.now;
      ranks = fields.ranks.now;
      checked = kept.checked;
      limits = record {
        letters = kept.letters;
        cells = (fields.cells, kept.cells, kept.few_cells);
        nodes = kept.nodes;
        scores = (fields.score_bound, kept.scores, kept.low_scores);
      };
    }
