use Rattle.std.proofs.Common.{List, ℕ, length, sym, ap, subst, arith}
use Rattle.std.proofs.lemmas.Result.{err_from_is_err_and}
use Rattle.std.specs.List.{AllByRecursion}
use Rattle.table_certificate.specs.BestScores.{AreBestScores}
use Rattle.table_certificate.specs.CertificateLines.{forms_of}
use Rattle.table_certificate.specs.Verified.{IsRejection}
use Rattle.verdicts.specs.Certificates.{IsRightFor}
use Rattle.verdicts.specs.Posed.{posed_words}
use Rattle.adp_main.specs.Reporting.{IsAdmissibleIn}
use Rattle.adp_main.specs.Verifying.{score_reports}
use Rattle.adp_main.proofs.Verifying.{is_told, limit_ending, rejected_ending, scores-length, told_ending, words_keep}
use Rattle.adp_main.proofs.verify.tell_words.Goals as goal

pub returns-in_err-judge_words-clause-ending : goal.returns-in_err-judge_words-clause-ending
returns-in_err-judge_words-clause-ending g c =
    let p = err_from_is_err_and c.from_residual.result c.from_residual.ensures.1 in
    let job = c.args.job.now in
    rw (p.1, p.2) (limit_ending c.args.command.now job.checked.grammar job.checked.algebra job.words
    c.args.certificate.now c.in_err-judge_words.field-0.0 _ c.in_err-judge_words.ensures.fault)

pub verify_all-requires-clause-limits : goal.verify_all-requires-clause-limits
verify_all-requires-clause-limits g c =
    let job = c.args.job.now in
    let command = c.args.command.now in
    words_keep command job.checked.grammar job.checked.algebra c.as_slice-words.result.now
    (subst (λ (ws : List (List ℕ)). AllByRecursion (IsAdmissibleIn command)
    (posed_words job.checked.grammar job.checked.algebra ws)) (sym c.as_slice-words.ensures)
    c.in_ok-judge_words.ensures.admissible)

pub returns-in-Err-clause-ending : goal.returns-in-Err-clause-ending
returns-in-Err-clause-ending g c =
    let job = c.args.job.now in
    rw c.verify_refusal.ensures
    (rejected_ending c.args.command.now job.checked.grammar job.checked.algebra job.words c.args.certificate.now
    c.in-Err.error _ c.in_ok-judge_words.ensures.admissible
    (subst (λ (ws : List (List ℕ)). IsRejection (posed_words job.checked.grammar job.checked.algebra ws)
    (forms_of job.checked.grammar c.args.certificate.now) c.in-Err.error) c.as_slice-words.ensures
    c.in-Err.ensures.rejected))

pub write_scores-requires : goal.write_scores-requires
write_scores-requires g c =
    let job = c.args.job.now in
    omega (
      arith,
      c.requires.few,
      ap length c.as_slice-words.ensures,
      ap length c.deref.ensures.value,
      scores-length job.checked.grammar job.checked.algebra c.as_slice-words.result.now c.in-Ok.scores.items
          c.in-Ok.ensures.best,
    )

pub returns-clause-ending : goal.returns-clause-ending
returns-clause-ending g c =
    let job = c.args.job.now in
    let certificate = c.args.certificate.now in
    let words = c.as_slice-words.result.now in
    let scores = c.in-Ok.scores.items in
    told_ending c.args.command.now job.checked.grammar job.checked.algebra job.words certificate c.write_scores.result
    _ _ (score_reports 1 scores)
    (is_told c.args.command.now c.requires.mode job.checked.grammar job.checked.algebra job.words certificate scores
    c.in_ok-judge_words.ensures.admissible
    (subst (λ (ws : List (List ℕ)). IsRightFor job.checked.grammar job.checked.algebra ws certificate)
    c.as_slice-words.ensures c.in-Ok.ensures.right)
    (subst (λ (ws : List (List ℕ)). AreBestScores (posed_words job.checked.grammar job.checked.algebra ws) scores)
    c.as_slice-words.ensures c.in-Ok.ensures.best))
    (rw (sym c.deref.ensures.value) c.write_scores.ensures.written)
