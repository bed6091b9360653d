use Rattle.std.proofs.Common.{List, ℕ, sym, subst}
use Rattle.std.proofs.KnownBytes.{Appends-nil}
use Rattle.std.proofs.lemmas.Bool.{MatchBool-at_true, MatchBool-at_false}
use Rattle.std.specs.List.{concat}
use Rattle.std.specs.Io.KnownBytes.{Appends}
use Rattle.verdicts.specs.Certificates.{behind_reports}
use Rattle.adp_main.specs.Reporting.{HasWritten}
use Rattle.adp_main.proofs.Behind.{none_behind}
use Rattle.adp_main.proofs.writing.write_behind.Goals as goal

pub returns-then-certifies-clause-written : goal.returns-then-certifies-clause-written
returns-then-certifies-clause-written g c =
    let certifies = MatchBool-at_true _ _ c.if-certifies.true c.certifies.ensures in
    subst (λ mode. HasWritten c.write_input.result (g.K.Sink.held c.args.out.now) (g.K.Sink.held c.write_input.new.out)
    (behind_reports mode c.args.words c.args.input.now)) (sym certifies) c.write_input.ensures.written

pub returns-else-certifies-clause-written : goal.returns-else-certifies-clause-written
returns-else-certifies-clause-written g c =
    let other = MatchBool-at_false _ _ c.if-certifies.false c.certifies.ensures in
    subst (λ (pieces : List (List ℕ)). Appends (g.K.Sink.held c.args.out.now) (g.K.Sink.held c.args.out.now) (concat pieces))
    (sym (none_behind c.args.command.now.mode other c.args.words c.args.input.now)) (Appends-nil (g.K.Sink.held c.args.out.now))
