use Rattle.std.proofs.Common.{◌≡◌, ◌+◌, ◌≤◌, None, [], length, refl, sym, ap, subst, ◌∙◌, arith}
use Rattle.std.proofs.lemmas.List.{length-map, length-drop, take_all}
use Rattle.std.proofs.lemmas.Result.{err_from_is_err_and}
use Rattle.verdicts.specs.Posed.{posed_word, posed_words}
use Rattle.adp_main.specs.SharedWords.{IsSharedOf}
use Rattle.adp_main.proofs.FirstWords.{next_failed, next_reported, none_reported, up_to_noted, up_to_written, whole_noted, whole_written}
use Rattle.adp_main.proofs.writing.write_words.Goals as goal

pub loop-place-init : goal.loop-place-init
loop-place-init g c =
    record {
      inside = omega arith;
      shared = c.shared_by_words-shared.ensures;
      kept = tt;
      told = refl;
      faults = refl;
      ran = none_reported c.args.command.now 1 (g.G.Gate.runs c.args.gate.now) (g.K.Sink.held c.args.out.now);
    }

pub returns-in_err-place-clause-written : goal.returns-in_err-place-clause-written
returns-in_err-place-clause-written g c =
    let p = err_from_is_err_and c.from_residual.result c.from_residual.ensures.1 in
    let command = c.args.command.now in
    let job = c.args.job.now in
    let all = posed_words job.checked.grammar job.checked.algebra job.words in
    let number : length all ≡ length job.words = length-map job.words _ in
    let up = c.in_err-place.ensures.ending in
    rw (p.1, p.2) (up_to_written command
    (λ number q admissible. c.words_have_reports.ensures command None number q c.requires.reads
    c.in_range.ensures.paired c.in_range.ensures.some_workers admissible tt)
    all c.requires.judged.admissible _ _ _ _ (c.loop-place.place + up.0) c.in_err-place.field-0.0
    (next_failed command all c.loop-place.place up.0 c.in_err-place.field-0.0 _ _ _ _ _ _
    (omega (arith, number, c.loop-place.invariant.inside)) c.loop-place.invariant.ran up.1))

pub returns-in_err-place-clause-noted : goal.returns-in_err-place-clause-noted
returns-in_err-place-clause-noted g c =
    let p = err_from_is_err_and c.from_residual.result c.from_residual.ensures.1 in
    let command = c.args.command.now in
    let job = c.args.job.now in
    let all = posed_words job.checked.grammar job.checked.algebra job.words in
    let number : length all ≡ length job.words = length-map job.words _ in
    let up = c.in_err-place.ensures.ending in
    rw (p.1, p.2) (up_to_noted command
    (λ number q admissible. c.words_have_reports.ensures command None number q c.requires.reads
    c.in_range.ensures.paired c.in_range.ensures.some_workers admissible tt)
    all c.requires.judged.admissible _ _ _ _ (c.loop-place.place + up.0) c.in_err-place.field-0.0
    (next_failed command all c.loop-place.place up.0 c.in_err-place.field-0.0 _ _ _ _ _ _
    (omega (arith, number, c.loop-place.invariant.inside)) c.loop-place.invariant.ran up.1))

pub loop-place-preserved : goal.loop-place-preserved
loop-place-preserved g c =
    let command = c.args.command.now in
    let job = c.args.job.now in
    let all = posed_words job.checked.grammar job.checked.algebra job.words in
    let number : length all ≡ length job.words = length-map job.words _ in
    let e = c.in_ok-place.ensures in
    let count = c.in_ok-place.field-0 in
    record {
      inside = omega (arith, number, e.ending.0, length-drop c.loop-place.place all, c.loop-place.invariant.inside);
      shared = c.loop-place.invariant.shared;
      kept = e.kept;
      told = e.told ∙ c.loop-place.invariant.told;
      faults = e.faults.stands (λ failed. failed) ∙ c.loop-place.invariant.faults;
      ran = next_reported command all c.loop-place.place count _ _ _ _ _ _
          (omega (arith, number, c.loop-place.invariant.inside)) c.loop-place.invariant.ran e.ending.1;
    }

pub returns-clause-written : goal.returns-clause-written
returns-clause-written g c =
    let command = c.args.command.now in
    let job = c.args.job.now in
    let all = posed_words job.checked.grammar job.checked.algebra job.words in
    let number : length all ≡ length job.words = length-map job.words _ in
    let past : length all ≤ c.loop-place.place = omega (arith, number, c.loop-place-test.false, ap length c.as_slice-words.ensures) in
    whole_written command
    (λ number q admissible. c.words_have_reports.ensures command None number q c.requires.reads
    c.in_range.ensures.paired c.in_range.ensures.some_workers admissible tt)
    all c.requires.judged.admissible _ _ _ _ c.loop-place.place past (take_all c.loop-place.place all past)
    c.loop-place.invariant.ran

pub returns-clause-noted : goal.returns-clause-noted
returns-clause-noted g c =
    let command = c.args.command.now in
    let job = c.args.job.now in
    let all = posed_words job.checked.grammar job.checked.algebra job.words in
    let number : length all ≡ length job.words = length-map job.words _ in
    let past : length all ≤ c.loop-place.place = omega (arith, number, c.loop-place-test.false, ap length c.as_slice-words.ensures) in
    whole_noted command
    (λ number q admissible. c.words_have_reports.ensures command None number q c.requires.reads
    c.in_range.ensures.paired c.in_range.ensures.some_workers admissible tt)
    all c.requires.judged.admissible _ _ _ _ c.loop-place.place past c.loop-place.invariant.ran

pub write_next-requires-clause-shared : goal.write_next-requires-clause-shared
write_next-requires-clause-shared g c κs within =
    subst (IsSharedOf (posed_word c.args.job.now.checked.grammar c.args.job.now.checked.algebra []))
    (sym c.as_ref.ensures.value) c.loop-place.invariant.shared
