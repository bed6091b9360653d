use Rattle.std.proofs.Common.{arith}
use Rattle.cell_answers.proofs.FirstEnds.{AreSound}
use Rattle.cell_answers.proofs.Spaced.{short_spaced, medium_spaced, long_spaced}
use Rattle.score_numbers.specs.Entries.{no_candidate}
use Rattle.score_numbers.specs.Packing.{short, medium, long}
use Rattle.cell_answers.proofs.ScaledTotals.{short_numbers, medium_numbers, long_numbers, have_numbers, are_low, scaled_greatest}
use Rattle.cell_answers.proofs.Sides.{numbers_there, plain_greatest, plain_low, whole_tell}
use Rattle.cell_answers.proofs.Soundness.{sound_by}
use Rattle.cell_answers.proofs.along.greatest_front.Goals as goal
use Rattle.cell_answers.proofs.along.greatest_front.Goals.{After-answer_is_unique}

sound : (c : After-answer_is_unique) → AreSound c.args.lines.now
sound c =
    sound_by c.problem.result.now c.args.lines.now c.problem.ensures c.admissible.ensures
    (c.bounds_are_sound.ensures.score c.args.lines.now) (c.answer_is_unique.ensures c.args.lines.now)

pub greatest_short-requires-clause-have : goal.greatest_short-requires-clause-have
greatest_short-requires-clause-have c =
    let at = (goal.at.greatest_short-requires-clause-have c).After-answer_is_unique in
    have_numbers c.args.lines.now (sound at).one short short_spaced (omega arith) c.args.line.now c.requires.opened
    c.in-Some.scales c.in-Short-Short.first.now c.in-Short-Short.second.now
    (short_numbers c.args.lines.now c.args.line.now c.requires.opened c.in-Some.scales c.in-Some.ensures
    c.in-Short-Short.first c.in-Short-Short.second c.in-Short-Short.is-0 c.in-Short-Short.is-1)

pub greatest_short-requires-clause-low : goal.greatest_short-requires-clause-low
greatest_short-requires-clause-low c =
    let at = (goal.at.greatest_short-requires-clause-low c).After-answer_is_unique in
    are_low c.args.lines.now (sound at).one short short_spaced (omega arith) c.args.line.now c.requires.opened
    c.in-Some.scales c.in-Short-Short.first.now c.in-Short-Short.second.now
    (short_numbers c.args.lines.now c.args.line.now c.requires.opened c.in-Some.scales c.in-Some.ensures
    c.in-Short-Short.first c.in-Short-Short.second c.in-Short-Short.is-0 c.in-Short-Short.is-1) (sound at)

pub returns-in-Short-Short : goal.returns-in-Short-Short
returns-in-Short-Short c =
    let at = (goal.at.returns-in-Short-Short c).After-answer_is_unique in
    scaled_greatest c.args.lines.now (sound at).one short short_spaced (omega arith) c.args.line.now c.requires.opened
    c.in-Some.scales c.in-Short-Short.first.now c.in-Short-Short.second.now
    (short_numbers c.args.lines.now c.args.line.now c.requires.opened c.in-Some.scales c.in-Some.ensures
    c.in-Short-Short.first c.in-Short-Short.second c.in-Short-Short.is-0 c.in-Short-Short.is-1)
    c.greatest_short.result c.greatest_short.ensures

pub greatest_medium-requires-clause-have : goal.greatest_medium-requires-clause-have
greatest_medium-requires-clause-have c =
    let at = (goal.at.greatest_medium-requires-clause-have c).After-answer_is_unique in
    have_numbers c.args.lines.now (sound at).one medium medium_spaced (omega arith) c.args.line.now c.requires.opened
    c.in-Some.scales c.in-Medium-Medium.first.now c.in-Medium-Medium.second.now
    (medium_numbers c.args.lines.now c.args.line.now c.requires.opened c.in-Some.scales c.in-Some.ensures
    c.in-Medium-Medium.first c.in-Medium-Medium.second c.in-Medium-Medium.is-0 c.in-Medium-Medium.is-1)

pub greatest_medium-requires-clause-low : goal.greatest_medium-requires-clause-low
greatest_medium-requires-clause-low c =
    let at = (goal.at.greatest_medium-requires-clause-low c).After-answer_is_unique in
    are_low c.args.lines.now (sound at).one medium medium_spaced (omega arith) c.args.line.now c.requires.opened
    c.in-Some.scales c.in-Medium-Medium.first.now c.in-Medium-Medium.second.now
    (medium_numbers c.args.lines.now c.args.line.now c.requires.opened c.in-Some.scales c.in-Some.ensures
    c.in-Medium-Medium.first c.in-Medium-Medium.second c.in-Medium-Medium.is-0 c.in-Medium-Medium.is-1) (sound at)

pub returns-in-Medium-Medium : goal.returns-in-Medium-Medium
returns-in-Medium-Medium c =
    let at = (goal.at.returns-in-Medium-Medium c).After-answer_is_unique in
    scaled_greatest c.args.lines.now (sound at).one medium medium_spaced (omega arith) c.args.line.now c.requires.opened
    c.in-Some.scales c.in-Medium-Medium.first.now c.in-Medium-Medium.second.now
    (medium_numbers c.args.lines.now c.args.line.now c.requires.opened c.in-Some.scales c.in-Some.ensures
    c.in-Medium-Medium.first c.in-Medium-Medium.second c.in-Medium-Medium.is-0 c.in-Medium-Medium.is-1)
    c.greatest_medium.result c.greatest_medium.ensures

pub greatest_long-requires-clause-have : goal.greatest_long-requires-clause-have
greatest_long-requires-clause-have c =
    let at = (goal.at.greatest_long-requires-clause-have c).After-answer_is_unique in
    have_numbers c.args.lines.now (sound at).one long long_spaced (omega arith) c.args.line.now c.requires.opened
    c.in-Some.scales c.in-Long-Long.first.now c.in-Long-Long.second.now
    (long_numbers c.args.lines.now c.args.line.now c.requires.opened c.in-Some.scales c.in-Some.ensures
    c.in-Long-Long.first c.in-Long-Long.second c.in-Long-Long.is-0 c.in-Long-Long.is-1)

pub greatest_long-requires-clause-low : goal.greatest_long-requires-clause-low
greatest_long-requires-clause-low c =
    let at = (goal.at.greatest_long-requires-clause-low c).After-answer_is_unique in
    are_low c.args.lines.now (sound at).one long long_spaced (omega arith) c.args.line.now c.requires.opened
    c.in-Some.scales c.in-Long-Long.first.now c.in-Long-Long.second.now
    (long_numbers c.args.lines.now c.args.line.now c.requires.opened c.in-Some.scales c.in-Some.ensures
    c.in-Long-Long.first c.in-Long-Long.second c.in-Long-Long.is-0 c.in-Long-Long.is-1) (sound at)

pub returns-in-Long-Long : goal.returns-in-Long-Long
returns-in-Long-Long c =
    let at = (goal.at.returns-in-Long-Long c).After-answer_is_unique in
    scaled_greatest c.args.lines.now (sound at).one long long_spaced (omega arith) c.args.line.now c.requires.opened
    c.in-Some.scales c.in-Long-Long.first.now c.in-Long-Long.second.now
    (long_numbers c.args.lines.now c.args.line.now c.requires.opened c.in-Some.scales c.in-Some.ensures
    c.in-Long-Long.first c.in-Long-Long.second c.in-Long-Long.is-0 c.in-Long-Long.is-1) c.greatest_long.result
    c.greatest_long.ensures

pub greatest_whole-requires-clause-have : goal.greatest_whole-requires-clause-have
greatest_whole-requires-clause-have c =
    let at = (goal.at.greatest_whole-requires-clause-have c).After-answer_is_unique in
    numbers_there c.args.lines.now c.args.line.now c.requires.opened no_candidate c.factors_of.result
    c.in-Whole-Whole.first.now c.in-Whole-Whole.second.now
    (whole_tell c.args.lines.now (sound at).one c.args.line.now c.requires.opened c.in-Some.scales
    (record { before = c.in-Some.ensures.before; behind = c.in-Some.ensures.behind }) c.factors_of.result
    c.factors_of.ensures.before c.factors_of.ensures.behind c.in-Whole-Whole.first c.in-Whole-Whole.second
    c.in-Whole-Whole.is-0 c.in-Whole-Whole.is-1)

pub greatest_whole-requires-clause-low : goal.greatest_whole-requires-clause-low
greatest_whole-requires-clause-low c =
    let at = (goal.at.greatest_whole-requires-clause-low c).After-answer_is_unique in
    plain_low c.args.lines.now c.args.line.now c.requires.opened no_candidate c.factors_of.result
    c.in-Whole-Whole.first.now c.in-Whole-Whole.second.now
    (whole_tell c.args.lines.now (sound at).one c.args.line.now c.requires.opened c.in-Some.scales
    (record { before = c.in-Some.ensures.before; behind = c.in-Some.ensures.behind }) c.factors_of.result
    c.factors_of.ensures.before c.factors_of.ensures.behind c.in-Whole-Whole.first c.in-Whole-Whole.second
    c.in-Whole-Whole.is-0 c.in-Whole-Whole.is-1) c.in-Some.ensures.worthless (sound at)

pub returns-in-Whole-Whole : goal.returns-in-Whole-Whole
returns-in-Whole-Whole c =
    let at = (goal.at.returns-in-Whole-Whole c).After-answer_is_unique in
    plain_greatest c.args.lines.now c.args.line.now c.requires.opened no_candidate c.factors_of.result
    c.in-Whole-Whole.first.now c.in-Whole-Whole.second.now
    (whole_tell c.args.lines.now (sound at).one c.args.line.now c.requires.opened c.in-Some.scales
    (record { before = c.in-Some.ensures.before; behind = c.in-Some.ensures.behind }) c.factors_of.result
    c.factors_of.ensures.before c.factors_of.ensures.behind c.in-Whole-Whole.first c.in-Whole-Whole.second
    c.in-Whole-Whole.is-0 c.in-Whole-Whole.is-1) c.in-Some.ensures.worthless c.greatest_whole.result
    c.greatest_whole.ensures
