use Rattle.std.proofs.Common.{inl, inr, refl}
use Rattle.std.proofs.lemmas.Result.{err_from_is_err_and}
use Rattle.verdicts.specs.Posed.{posed_words}
use Rattle.adp_main.proofs.FirstLimit.{own_admitted}
use Rattle.adp_main.proofs.Reported.{job_ending}
use Rattle.adp_main.proofs.Told.{undone}
use Rattle.adp_main.proofs.answering.write_job.Goals as goal

pub write_pieces-requires-clause-judged : goal.write_pieces-requires-clause-judged
write_pieces-requires-clause-judged g c =
    let job = c.args.job.now in
    λ lifetimes inside. record {
      few = c.requires.few;
      second = c.requires.second;
      rows = c.in_ok-judged.ensures.rows;
      known = c.in_ok-judged.ensures.known;
      bounds = c.in_ok-judged.ensures.bounds;
      admissible = own_admitted c.args.command.now
          (posed_words job.checked.grammar job.checked.algebra job.words) c.in_ok-judged.ensures.admissible;
    }

pub returns-clause-ending : goal.returns-clause-ending
returns-clause-ending g c =
    let job = c.args.job.now in
    job_ending c.args.command.now job.checked.grammar job.checked.algebra job.words c.args.input.now
    (posed_words job.checked.grammar job.checked.algebra job.words) refl c.in_ok-judged.ensures.admissible
    c.write_pieces.result _ _ c.write_pieces.ensures.written

pub returns-clause-noted : goal.returns-clause-noted
returns-clause-noted g c = inr c.write_pieces.ensures.noted

pub returns-in_err-judged-clause-noted : goal.returns-in_err-judged-clause-noted
returns-in_err-judged-clause-noted g c =
    let p = err_from_is_err_and c.from_residual.result c.from_residual.ensures.1 in
    rw (p.1, p.2) (inl (refl, undone c.in_err-judged.field-0.0))
