use Rattle.std.proofs.Common.{◌∙◌, None, sym, ap, subst}
use Rattle.std.specs.Option.{option_copied}
use Rattle.adp_model.specs.PosedProblem.{PosedProblem}
use Rattle.split_lines.specs.Shared.{without_word}
use Rattle.verdicts.specs.Command.{Command}
use Rattle.verdicts.specs.Posed.{posed_word}
use Rattle.adp_main.specs.RunNotes.{IsRunOf}
use Rattle.adp_main.specs.SharedWords.{IsSharedOf}
use Rattle.adp_main.specs.Writing.{IsWordEnding}
use Rattle.adp_main.proofs.FirstLimit.{own_limits}
use Rattle.adp_main.proofs.writing.write_word.Goals as goal

pub admitted-problem-requires-clause-limits : goal.admitted-problem-requires-clause-limits
admitted-problem-requires-clause-limits g c =
    own_limits c.args.command.now.second
    (posed_word c.args.job.now.checked.grammar c.args.job.now.checked.algebra c.args.word.now) c.requires.admissible

pub admitted-problem-requires-in-Serial-clause-limits : goal.admitted-problem-requires-in-Serial-clause-limits
admitted-problem-requires-in-Serial-clause-limits g c =
    own_limits c.args.command.now.second
    (posed_word c.args.job.now.checked.grammar c.args.job.now.checked.algebra c.args.word.now) c.requires.admissible

pub admitted-problem-requires-in-Wins-clause-limits : goal.admitted-problem-requires-in-Wins-clause-limits
admitted-problem-requires-in-Wins-clause-limits g c =
    own_limits c.args.command.now.second
    (posed_word c.args.job.now.checked.grammar c.args.job.now.checked.algebra c.args.word.now) c.requires.admissible

pub admitted-problem-requires-in-Replay-clause-limits : goal.admitted-problem-requires-in-Replay-clause-limits
admitted-problem-requires-in-Replay-clause-limits g c =
    own_limits c.args.command.now.second
    (posed_word c.args.job.now.checked.grammar c.args.job.now.checked.algebra c.args.word.now) c.requires.admissible

pub admitted-problem-requires-in-Cert-clause-limits : goal.admitted-problem-requires-in-Cert-clause-limits
admitted-problem-requires-in-Cert-clause-limits g c =
    own_limits c.args.command.now.second
    (posed_word c.args.job.now.checked.grammar c.args.job.now.checked.algebra c.args.word.now) c.requires.admissible

pub report_word-requires-clause-shared : goal.report_word-requires-clause-shared
report_word-requires-clause-shared g c κs within =
    subst (λ (p : PosedProblem). IsSharedOf (without_word p) (option_copied c.args.shared))
    (sym c.admitted-problem.ensures) c.requires.shared

pub report_word-requires-in-Serial : goal.report_word-requires-in-Serial
report_word-requires-in-Serial g c =
    subst (λ (p : PosedProblem). IsSharedOf (without_word p) (option_copied c.args.shared))
    (sym c.admitted-problem-in-Serial.ensures) c.requires.shared

pub report_word-requires-in-Cert-clause-shared : goal.report_word-requires-in-Cert-clause-shared
report_word-requires-in-Cert-clause-shared g c κs within =
    subst (λ (p : PosedProblem). IsSharedOf (without_word p) (option_copied c.args.shared))
    (sym c.admitted-problem-in-Cert.ensures) c.requires.shared

pub returns-in-Best-clause-ending : goal.returns-in-Best-clause-ending
returns-in-Best-clause-ending g c =
    subst (λ (p : PosedProblem). IsWordEnding (IsRunOf c.args.command.now None c.args.number p) c.report_word.result
    (g.G.Gate.runs c.args.gate.now) (g.G.Gate.runs c.report_word.new.gate) (g.K.Sink.held c.args.out.now)
    (g.K.Sink.held c.report_word.new.out)) c.admitted-problem.ensures c.report_word.ensures.ending

pub returns-in-Serial-clause-ending : goal.returns-in-Serial-clause-ending
returns-in-Serial-clause-ending g c =
    subst (λ (p : PosedProblem). IsWordEnding (IsRunOf c.args.command.now None c.args.number p) c.report_word-in-Serial.result
    (g.G.Gate.runs c.args.gate.now) (g.G.Gate.runs c.args.gate.now) (g.K.Sink.held c.args.out.now)
    (g.K.Sink.held c.report_word-in-Serial.new.out)) c.admitted-problem-in-Serial.ensures
    (c.report_word-in-Serial.ensures.ending c.args.command.now (g.G.Gate.runs c.args.gate.now)
    (sym (ap (λ (it : Command). it.mode) c.command.view_is) ∙ c.in-Serial.is))

pub returns-in-Wins-clause-ending : goal.returns-in-Wins-clause-ending
returns-in-Wins-clause-ending g c =
    subst (λ (p : PosedProblem). IsWordEnding (IsRunOf c.args.command.now None c.args.number p) c.report_word-in-Wins.result
    (g.G.Gate.runs c.args.gate.now) (g.G.Gate.runs c.report_word-in-Wins.new.gate) (g.K.Sink.held c.args.out.now)
    (g.K.Sink.held c.report_word-in-Wins.new.out)) c.admitted-problem-in-Wins.ensures c.report_word-in-Wins.ensures.ending

pub returns-in-Replay-clause-ending : goal.returns-in-Replay-clause-ending
returns-in-Replay-clause-ending g c =
    subst (λ (p : PosedProblem). IsWordEnding (IsRunOf c.args.command.now None c.args.number p) c.report_word-in-Replay.result
    (g.G.Gate.runs c.args.gate.now) (g.G.Gate.runs c.report_word-in-Replay.new.gate) (g.K.Sink.held c.args.out.now)
    (g.K.Sink.held c.report_word-in-Replay.new.out)) c.admitted-problem-in-Replay.ensures c.report_word-in-Replay.ensures.ending

pub returns-in-Cert-clause-ending : goal.returns-in-Cert-clause-ending
returns-in-Cert-clause-ending g c =
    subst (λ (p : PosedProblem). IsWordEnding (IsRunOf c.args.command.now None c.args.number p) c.report_word-in-Cert.result
    (g.G.Gate.runs c.args.gate.now) (g.G.Gate.runs c.report_word-in-Cert.new.gate) (g.K.Sink.held c.args.out.now)
    (g.K.Sink.held c.report_word-in-Cert.new.out)) c.admitted-problem-in-Cert.ensures c.report_word-in-Cert.ensures.ending

pub returns-in-KBest-clause-ending : goal.returns-in-KBest-clause-ending
returns-in-KBest-clause-ending g c =
    subst (λ (p : PosedProblem). IsWordEnding (IsRunOf c.args.command.now None c.args.number p) c.report_word-in-KBest.result
    (g.G.Gate.runs c.args.gate.now) (g.G.Gate.runs c.args.gate.now) (g.K.Sink.held c.args.out.now)
    (g.K.Sink.held c.report_word-in-KBest.new.out)) c.admitted-problem-in-KBest.ensures
    (c.report_word-in-KBest.ensures.ending (g.G.Gate.runs c.args.gate.now))

pub admitted-problem-requires-in-KBest-clause-limits : goal.admitted-problem-requires-in-KBest-clause-limits
admitted-problem-requires-in-KBest-clause-limits g c =
    own_limits c.args.command.now.second
    (posed_word c.args.job.now.checked.grammar c.args.job.now.checked.algebra c.args.word.now) c.requires.admissible
