use Rattle.std.proofs.Common.{◌≡◌, ◌+◌, ℤ, Option, None, List, ℕ, [], ◌∷◌, ◌++◌, take, drop, get_or, Ok, Err, refl, sym, ap, subst, ◌∙◌, arith}
use Rattle.std.specs.List.{concat}
use Rattle.std.specs.Io.KnownBytes.{Appends}
use Rattle.std.proofs.lemmas.List.{take-append-drop, take_all}
use Rattle.std.proofs.lemmas.Result.{err_from_is_err_and}
use Rattle.table_certificate.specs.ScoreReports.{score_lines}
use Rattle.adp_main.specs.Reporting.{HasWritten}
use Rattle.adp_main.specs.Writing.{IsReportWritten}
use Rattle.adp_main.specs.Verifying.{score_reports}
use Rattle.adp_main.proofs.Behind.{has_first, has_joined, one_piece}
use Rattle.adp_main.proofs.Verifying.{score_reports-length, score_reports-more}
use Rattle.adp_main.proofs.verify.write_scores.Goals as goal

pub returns-in_err-report-clause-written : goal.returns-in_err-report-clause-written
returns-in_err-report-clause-written g c =
    let p = err_from_is_err_and c.from_residual.result c.from_residual.ensures.1 in
    rw (p.1, p.2) (c.loop-place.place, c.loop-place.invariant.grew)

pub returns-in_err-write_report-clause-written : goal.returns-in_err-write_report-clause-written
returns-in_err-write_report-clause-written g c =
    let p = err_from_is_err_and c.from_residual-in_err-write_report.result c.from_residual-in_err-write_report.ensures.1 in
    let scores = c.args.scores.now in
    let place = c.loop-place.place in
    let pieces : List (List ℕ) = score_reports 1 scores in
    let fault = c.in_err-write_report.field-0.0 in
    let old = g.K.Sink.held c.args.out.now in
    let mid = g.K.Sink.held c.loop-place.out in
    let new = g.K.Sink.held c.write_report.new.out in
    let score : Option ℤ = get_or scores place None in
    let number : place + 1 ≡ 1 + place = omega arith in
    let text : c.deref.result.now ≡ score_lines (1 + place) score =
    c.deref.ensures.value ∙ c.in_ok-report.ensures ∙ ap (λ n. score_lines n score) number in
    let more : take (place + 1) pieces ≡ take place pieces ++ score_lines (1 + place) score ∷ [] =
    score_reports-more 1 scores place score None c.loop-place-test.true refl in
    let here : HasWritten (Err fault) old new (take (place + 1) pieces) =
    subst (HasWritten (Err fault) old new) (sym more)
    (has_joined (Err fault) old mid new (take place pieces) (score_lines (1 + place) score ∷ [])
    c.loop-place.invariant.grew
    (one_piece (Err fault) mid new (score_lines (1 + place) score)
    (subst (IsReportWritten (Err fault) mid new) text c.in_err-write_report.ensures.written))) in
    rw (p.1, p.2) (subst (HasWritten (Err fault) old new) (take-append-drop (place + 1) pieces)
    (has_first fault old new (take (place + 1) pieces) (drop (place + 1) pieces) here))

pub loop-place-preserved : goal.loop-place-preserved
loop-place-preserved g c =
    let scores = c.args.scores.now in
    let place = c.loop-place.place in
    let pieces : List (List ℕ) = score_reports 1 scores in
    let done = c.in_ok-write_report.field-0 in
    let old = g.K.Sink.held c.args.out.now in
    let mid = g.K.Sink.held c.loop-place.out in
    let new = g.K.Sink.held c.write_report.new.out in
    let score : Option ℤ = get_or scores place None in
    let number : place + 1 ≡ 1 + place = omega arith in
    let text : c.deref.result.now ≡ score_lines (1 + place) score =
    c.deref.ensures.value ∙ c.in_ok-report.ensures ∙ ap (λ n. score_lines n score) number in
    let more : take (place + 1) pieces ≡ take place pieces ++ score_lines (1 + place) score ∷ [] =
    score_reports-more 1 scores place score None c.loop-place-test.true refl in
    record {
      told = c.in_ok-write_report.ensures.told ∙ c.loop-place.invariant.told;
      faults = c.in_ok-write_report.ensures.faults.stands (λ failed. cc) ∙ c.loop-place.invariant.faults;
      grew = subst (λ (some : List (List ℕ)). Appends old new (concat some)) (sym more)
          (has_joined (Ok done) old mid new (take place pieces) (score_lines (1 + place) score ∷ [])
          c.loop-place.invariant.grew
          (one_piece (Ok done) mid new (score_lines (1 + place) score)
          (subst (IsReportWritten (Ok done) mid new) text c.in_ok-write_report.ensures.written)));
    }

pub returns-clause-written : goal.returns-clause-written
returns-clause-written g c =
    let scores = c.args.scores.now in
    subst (λ (pieces : List (List ℕ)). Appends (g.K.Sink.held c.args.out.now) (g.K.Sink.held c.loop-place.out) (concat pieces))
    (take_all c.loop-place.place (score_reports 1 scores)
    (omega (arith, score_reports-length 1 scores, c.loop-place-test.false))) c.loop-place.invariant.grew
