use Rattle.std.proofs.Common.{None, [], refl, sym, subst, ◌∙◌}
use Rattle.std.specs.Option.{option_copied}
use Rattle.adp_model.specs.PosedProblem.{PosedProblem}
use Rattle.adp_model.specs.Report.{IsReport}
use Rattle.verdicts.specs.declared.command.Mode.TheVariants.{Serial}
use Rattle.verdicts.specs.Verdict.{IsReportWith}
use Rattle.adp_main.proofs.FirstWords.{solved_itself}
use Rattle.adp_main.proofs.Running.{in_mode}
use Rattle.adp_main.proofs.slot.Slot.sweep.Goals as goal

pub returns : goal.returns
returns g c =
    let slot = c.args.self.now in
    let command = slot.command.now in
    let report = c.in_ok-report.report.items in
    record {
      wins = [];
      noted = (c.requires.mode, refl);
      report = λ asked solved. subst (λ (p : PosedProblem). IsReportWith command.mode command None slot.number p [] report)
          (solved_itself command (option_copied slot.made) asked slot.sharing
          (λ lex. (let e = sym c.requires.mode ∙ lex in cc)) solved)
          (in_mode command Serial slot.number slot.sharing report c.requires.mode
          (subst (λ (p : PosedProblem). IsReport slot.number p report) c.problem-problem.ensures c.in_ok-report.ensures));
    }
