use Rattle.std.proofs.Common.{◌≡◌, ◌+◌, ℕ, take, drop, subst, arith}
use Rattle.std.proofs.lemmas.Result.{err_from_is_err_and}
use Rattle.verdicts.specs.Posed.{posed_word, posed_words}
use Rattle.adp_main.specs.FirstWords.{AreReported}
use Rattle.adp_main.proofs.FirstWords.{first_at, first_done, first_failed}
use Rattle.adp_main.proofs.writing.write_next.Goals as goal

pub returns-in_err-count-clause-ending : goal.returns-in_err-count-clause-ending
returns-in_err-count-clause-ending g c =
    let p = err_from_is_err_and c.from_residual.result c.from_residual.ensures.1 in
    rw (p.1, p.2) c.in_err-count.ensures.ending

pub returns-in_err-write_word-clause-ending : goal.returns-in_err-write_word-clause-ending
returns-in_err-write_word-clause-ending g c =
    let p = err_from_is_err_and c.from_residual-in_err-write_word.result c.from_residual-in_err-write_word.ensures.1 in
    let command = c.args.command.now in
    let job = c.args.job.now in
    let all = posed_words job.checked.grammar job.checked.algebra job.words in
    let word = c.index-words-place.result in
    let asked = posed_word job.checked.grammar job.checked.algebra word in
    let at = first_at job.checked.grammar job.checked.algebra c.as_slice-words.result.now job.words c.args.place word
    c.as_slice-words.ensures c.requires.inside c.index-words-place.is in
    let none : c.in_ok-count.count ≡ 0 = omega (arith, c.if-count-gt0.false) in
    rw (p.1, p.2) (first_failed command (c.args.place + 1) (drop c.args.place all) asked at.0 at.1
    c.in_err-write_word.field-0.0 _ _ _ _ _ _
    (subst (λ (n : ℕ). AreReported command (c.args.place + 1) (take n (drop c.args.place all))
    (g.G.Gate.runs c.args.gate.now) (g.G.Gate.runs c.write_side_by_side.new.gate)
    (g.K.Sink.held c.args.out.now) (g.K.Sink.held c.write_side_by_side.new.out)) none c.in_ok-count.ensures.ending.1)
    c.in_err-write_word.ensures.ending)

pub returns-clause-ending : goal.returns-clause-ending
returns-clause-ending g c =
    let command = c.args.command.now in
    let job = c.args.job.now in
    let all = posed_words job.checked.grammar job.checked.algebra job.words in
    let word = c.index-words-place.result in
    let asked = posed_word job.checked.grammar job.checked.algebra word in
    let at = first_at job.checked.grammar job.checked.algebra c.as_slice-words.result.now job.words c.args.place word
    c.as_slice-words.ensures c.requires.inside c.index-words-place.is in
    let none : c.in_ok-count.count ≡ 0 = omega (arith, c.if-count-gt0.false) in
    first_done command (c.args.place + 1) (drop c.args.place all) asked at.0 at.1 tt _ _ _ _ _ _
    (subst (λ (n : ℕ). AreReported command (c.args.place + 1) (take n (drop c.args.place all))
    (g.G.Gate.runs c.args.gate.now) (g.G.Gate.runs c.write_side_by_side.new.gate)
    (g.K.Sink.held c.args.out.now) (g.K.Sink.held c.write_side_by_side.new.out)) none c.in_ok-count.ensures.ending.1)
    c.in_ok-write_word.ensures.ending
