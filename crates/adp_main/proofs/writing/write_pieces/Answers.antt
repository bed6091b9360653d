use Rattle.std.proofs.Common.{List, ℕ, length, subst}
use Rattle.std.proofs.lemmas.Result.{err_from_is_err_and}
use Rattle.verdicts.specs.Certificates.{behind_reports}
use Rattle.adp_main.specs.Reporting.{HasWritten}
use Rattle.adp_main.proofs.Behind.{has_first, has_joined, noted_behind, noted_undone}
use Rattle.adp_main.proofs.Told.{undone}
use Rattle.adp_main.proofs.writing.write_pieces.Goals as goal

pub returns-in_err-write_words-clause-written : goal.returns-in_err-write_words-clause-written
returns-in_err-write_words-clause-written g c =
    let p = err_from_is_err_and c.from_residual.result c.from_residual.ensures.1 in
    let w = c.in_err-write_words.ensures.written in
    rw (p.1, p.2) (w.0, w.1, has_first c.in_err-write_words.field-0.0 _ _ w.0 _ w.2)

pub returns-in_err-write_words-clause-noted : goal.returns-in_err-write_words-clause-noted
returns-in_err-write_words-clause-noted g c =
    let p = err_from_is_err_and c.from_residual.result c.from_residual.ensures.1 in
    rw (p.1, p.2) (noted_undone c.args.command.now _ _ _ _ _ _ _ (undone c.in_err-write_words.field-0.0)
    c.in_err-write_words.ensures.noted)

pub returns-clause-written : goal.returns-clause-written
returns-clause-written g c =
    let w = c.in_ok-write_words.ensures.written in (
      w.0,
      w.1,
      has_joined c.write_behind.result _ _ _ w.0 _ w.2
          (subst (λ (ws : List (List ℕ)). HasWritten c.write_behind.result (g.K.Sink.held c.write_words.new.out)
          (g.K.Sink.held c.write_behind.new.out)
          (behind_reports c.args.command.now.mode (length ws) c.args.input.now)) c.as_slice.ensures
          c.write_behind.ensures.written),
    )

pub returns-clause-noted : goal.returns-clause-noted
returns-clause-noted g c =
    noted_behind c.args.command.now _ _ _ _ c.write_behind.result _ _ _ c.in_ok-write_words.ensures.noted
    (subst (λ (ws : List (List ℕ)). HasWritten c.write_behind.result (g.K.Sink.held c.write_words.new.out)
    (g.K.Sink.held c.write_behind.new.out)
    (behind_reports c.args.command.now.mode (length ws) c.args.input.now)) c.as_slice.ensures
    c.write_behind.ensures.written)
