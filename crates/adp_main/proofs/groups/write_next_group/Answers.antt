use Rattle.std.proofs.Common.{◌≡◌, ◌+◌, List, Ok, Err, length, drop, sym, subst, arith, ap}
use Rattle.std.specs.List.{All, AllZip}
use Rattle.std.specs.Option.{option_copied}
use Rattle.std.proofs.lemmas.List.{length-append, length-drop, length-map}
use Rattle.std.proofs.lemmas.Result.{err_from_is_err_and}
use Rattle.adp_model.specs.PosedProblem.{PosedProblem}
use Rattle.split_lines.specs.Shared.{without_word}
use Rattle.verdicts.specs.Posed.{posed_words}
use Rattle.adp_main.specs.FirstWords.{AreFirstEnding}
use Rattle.adp_main.specs.Groups.{IsSolvedFor, common_of}
use Rattle.adp_main.proofs.FirstWords.{of_more, have_common, zip_length}
use Rattle.adp_main.proofs.groups.write_next_group.Goals as goal

pub write_group-requires-clause-few : goal.write_group-requires-clause-few
write_group-requires-clause-few g c =
    let job = c.args.job.now in
    let all = posed_words job.checked.grammar job.checked.algebra job.words in
    let first = c.next_group-problems.ensures.first in
    let number : length all ≡ length job.words = length-map job.words _ in
    omega (
      arith,
      number,
      length-drop c.args.place all,
      length-append first.0 first.1,
      ap length {y = drop c.args.place all} first.3,
      zip_length (IsSolvedFor c.args.command.now (option_copied c.args.made)) first.0 c.next_group-problems.result.items
          first.2,
      c.deref.ensures.len,
    )

pub write_group-requires-clause-asked : goal.write_group-requires-clause-asked
write_group-requires-clause-asked g c =
    λ lifetimes inside.
    let first = c.next_group-problems.ensures.first in (
      first.0,
      subst (λ (items : List PosedProblem). AllZip (IsSolvedFor c.args.command.now (option_copied c.args.made)) first.0 items)
          (sym c.deref.ensures.value) first.2,
    )

pub write_group-requires-clause-alike : goal.write_group-requires-clause-alike
write_group-requires-clause-alike g c =
    λ lifetimes inside.
    let job = c.args.job.now in
    let made = option_copied c.args.made in
    let first = c.next_group-problems.ensures.first in (
      common_of job.checked made,
      subst (λ (items : List PosedProblem). All (λ p. without_word p ≡ common_of job.checked made) items)
          (sym c.deref.ensures.value)
          (have_common c.args.command.now job.checked made job.words c.args.place first.0 first.1
          c.next_group-problems.result.items first.2 first.3),
      c.requires.shared,
    )

pub returns-in_err-written-clause-ending : goal.returns-in_err-written-clause-ending
returns-in_err-written-clause-ending g c =
    let p = err_from_is_err_and c.from_residual.result c.from_residual.ensures.1 in
    let job = c.args.job.now in
    let all = posed_words job.checked.grammar job.checked.algebra job.words in
    let first = c.next_group-problems.ensures.first in
    let solved = subst
    (λ (items : List PosedProblem). AllZip (IsSolvedFor c.args.command.now (option_copied c.args.made)) first.0 items)
    (sym c.deref.ensures.value) first.2 in
    let ended = λ (it : List PosedProblem). AreFirstEnding c.args.command.now (c.args.place + 1) it
    (Err c.in_err-written.field-0.0) (g.G.Gate.runs c.args.gate.now) (g.G.Gate.runs c.write_group.new.gate)
    (g.K.Sink.held c.args.out.now) (g.K.Sink.held c.write_group.new.out) in
    rw (p.1, p.2) (subst ended {y = drop c.args.place all} first.3
    (of_more c.args.command.now (c.args.place + 1) first.0 first.1 (Err c.in_err-written.field-0.0) _ _ _ _
    (c.in_err-written.ensures.ending first.0 solved)))

pub returns-clause-ending : goal.returns-clause-ending
returns-clause-ending g c =
    let job = c.args.job.now in
    let all = posed_words job.checked.grammar job.checked.algebra job.words in
    let first = c.next_group-problems.ensures.first in
    let solved = subst
    (λ (items : List PosedProblem). AllZip (IsSolvedFor c.args.command.now (option_copied c.args.made)) first.0 items)
    (sym c.deref.ensures.value) first.2 in
    let ended = λ (it : List PosedProblem). AreFirstEnding c.args.command.now (c.args.place + 1) it
    (Ok c.in_ok-written.written) (g.G.Gate.runs c.args.gate.now) (g.G.Gate.runs c.write_group.new.gate)
    (g.K.Sink.held c.args.out.now) (g.K.Sink.held c.write_group.new.out) in
    subst ended {y = drop c.args.place all} first.3
    (of_more c.args.command.now (c.args.place + 1) first.0 first.1 (Ok c.in_ok-written.written) _ _ _ _
    (c.in_ok-written.ensures.ending first.0 solved))
