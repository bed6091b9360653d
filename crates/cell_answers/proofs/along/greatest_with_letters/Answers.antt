use Rattle.score_numbers.specs.Entries.{no_candidate}
use Rattle.score_numbers.specs.Packing.{short, medium, long}
use Rattle.cell_answers.proofs.FirstEnds.{AreSound}
use Rattle.cell_answers.proofs.Sides.{long_tell, medium_tell, numbers_there, short_tell, weighed_greatest, weighed_low, whole_tell}
use Rattle.cell_answers.proofs.Soundness.{sound_by}
use Rattle.cell_answers.proofs.along.greatest_with_letters.Goals as goal
use Rattle.cell_answers.proofs.along.greatest_with_letters.Goals.{After-answer_is_unique}

sound : (c : After-answer_is_unique) → AreSound c.args.lines.now
sound c =
    sound_by c.problem.result.now c.args.lines.now c.problem.ensures c.admissible.ensures
    (c.bounds_are_sound.ensures.score c.args.lines.now) (c.answer_is_unique.ensures c.args.lines.now)

pub greatest_short_weighed-requires-clause-weights : goal.greatest_short_weighed-requires-clause-weights
greatest_short_weighed-requires-clause-weights c = c.in-Some.ensures.have

pub greatest_short_weighed-requires-clause-have : goal.greatest_short_weighed-requires-clause-have
greatest_short_weighed-requires-clause-have c =
    let at = (goal.at.greatest_short_weighed-requires-clause-have c).After-answer_is_unique in
    numbers_there c.args.lines.now c.args.line.now c.requires.opened short.mark c.in-Some.weighed.scales
    c.in-Short-Short.first.now c.in-Short-Short.second.now
    (short_tell c.args.lines.now (sound at).one c.args.line.now c.requires.opened c.in-Some.weighed.scales
    c.in-Some.ensures.scaled c.in-Short-Short.first c.in-Short-Short.second c.in-Short-Short.is-0
    c.in-Short-Short.is-1)

pub greatest_short_weighed-requires-clause-low : goal.greatest_short_weighed-requires-clause-low
greatest_short_weighed-requires-clause-low c =
    let at = (goal.at.greatest_short_weighed-requires-clause-low c).After-answer_is_unique in
    weighed_low c.args.lines.now c.args.line.now c.requires.opened short.mark c.in-Some.weighed.scales
    c.in-Short-Short.first.now c.in-Short-Short.second.now
    (short_tell c.args.lines.now (sound at).one c.args.line.now c.requires.opened c.in-Some.weighed.scales
    c.in-Some.ensures.scaled c.in-Short-Short.first c.in-Short-Short.second c.in-Short-Short.is-0
    c.in-Short-Short.is-1) c.in-Some.weighed c.in-Some.ensures (sound at)

pub returns-in-Short-Short : goal.returns-in-Short-Short
returns-in-Short-Short c =
    let at = (goal.at.returns-in-Short-Short c).After-answer_is_unique in
    weighed_greatest c.args.lines.now c.args.line.now c.requires.opened short.mark c.in-Some.weighed.scales
    c.in-Short-Short.first.now c.in-Short-Short.second.now
    (short_tell c.args.lines.now (sound at).one c.args.line.now c.requires.opened c.in-Some.weighed.scales
    c.in-Some.ensures.scaled c.in-Short-Short.first c.in-Short-Short.second c.in-Short-Short.is-0
    c.in-Short-Short.is-1) c.in-Some.weighed c.in-Some.ensures c.greatest_short_weighed.result
    c.greatest_short_weighed.ensures

pub greatest_medium_weighed-requires-clause-weights : goal.greatest_medium_weighed-requires-clause-weights
greatest_medium_weighed-requires-clause-weights c = c.in-Some.ensures.have

pub greatest_medium_weighed-requires-clause-have : goal.greatest_medium_weighed-requires-clause-have
greatest_medium_weighed-requires-clause-have c =
    let at = (goal.at.greatest_medium_weighed-requires-clause-have c).After-answer_is_unique in
    numbers_there c.args.lines.now c.args.line.now c.requires.opened medium.mark c.in-Some.weighed.scales
    c.in-Medium-Medium.first.now c.in-Medium-Medium.second.now
    (medium_tell c.args.lines.now (sound at).one c.args.line.now c.requires.opened c.in-Some.weighed.scales
    c.in-Some.ensures.scaled c.in-Medium-Medium.first c.in-Medium-Medium.second c.in-Medium-Medium.is-0
    c.in-Medium-Medium.is-1)

pub greatest_medium_weighed-requires-clause-low : goal.greatest_medium_weighed-requires-clause-low
greatest_medium_weighed-requires-clause-low c =
    let at = (goal.at.greatest_medium_weighed-requires-clause-low c).After-answer_is_unique in
    weighed_low c.args.lines.now c.args.line.now c.requires.opened medium.mark c.in-Some.weighed.scales
    c.in-Medium-Medium.first.now c.in-Medium-Medium.second.now
    (medium_tell c.args.lines.now (sound at).one c.args.line.now c.requires.opened c.in-Some.weighed.scales
    c.in-Some.ensures.scaled c.in-Medium-Medium.first c.in-Medium-Medium.second c.in-Medium-Medium.is-0
    c.in-Medium-Medium.is-1) c.in-Some.weighed c.in-Some.ensures (sound at)

pub returns-in-Medium-Medium : goal.returns-in-Medium-Medium
returns-in-Medium-Medium c =
    let at = (goal.at.returns-in-Medium-Medium c).After-answer_is_unique in
    weighed_greatest c.args.lines.now c.args.line.now c.requires.opened medium.mark c.in-Some.weighed.scales
    c.in-Medium-Medium.first.now c.in-Medium-Medium.second.now
    (medium_tell c.args.lines.now (sound at).one c.args.line.now c.requires.opened c.in-Some.weighed.scales
    c.in-Some.ensures.scaled c.in-Medium-Medium.first c.in-Medium-Medium.second c.in-Medium-Medium.is-0
    c.in-Medium-Medium.is-1) c.in-Some.weighed c.in-Some.ensures c.greatest_medium_weighed.result
    c.greatest_medium_weighed.ensures

pub greatest_long_weighed-requires-clause-weights : goal.greatest_long_weighed-requires-clause-weights
greatest_long_weighed-requires-clause-weights c = c.in-Some.ensures.have

pub greatest_long_weighed-requires-clause-have : goal.greatest_long_weighed-requires-clause-have
greatest_long_weighed-requires-clause-have c =
    let at = (goal.at.greatest_long_weighed-requires-clause-have c).After-answer_is_unique in
    numbers_there c.args.lines.now c.args.line.now c.requires.opened long.mark c.in-Some.weighed.scales
    c.in-Long-Long.first.now c.in-Long-Long.second.now
    (long_tell c.args.lines.now (sound at).one c.args.line.now c.requires.opened c.in-Some.weighed.scales
    c.in-Some.ensures.scaled c.in-Long-Long.first c.in-Long-Long.second c.in-Long-Long.is-0 c.in-Long-Long.is-1)

pub greatest_long_weighed-requires-clause-low : goal.greatest_long_weighed-requires-clause-low
greatest_long_weighed-requires-clause-low c =
    let at = (goal.at.greatest_long_weighed-requires-clause-low c).After-answer_is_unique in
    weighed_low c.args.lines.now c.args.line.now c.requires.opened long.mark c.in-Some.weighed.scales
    c.in-Long-Long.first.now c.in-Long-Long.second.now
    (long_tell c.args.lines.now (sound at).one c.args.line.now c.requires.opened c.in-Some.weighed.scales
    c.in-Some.ensures.scaled c.in-Long-Long.first c.in-Long-Long.second c.in-Long-Long.is-0 c.in-Long-Long.is-1)
    c.in-Some.weighed c.in-Some.ensures (sound at)

pub returns-in-Long-Long : goal.returns-in-Long-Long
returns-in-Long-Long c =
    let at = (goal.at.returns-in-Long-Long c).After-answer_is_unique in
    weighed_greatest c.args.lines.now c.args.line.now c.requires.opened long.mark c.in-Some.weighed.scales
    c.in-Long-Long.first.now c.in-Long-Long.second.now
    (long_tell c.args.lines.now (sound at).one c.args.line.now c.requires.opened c.in-Some.weighed.scales
    c.in-Some.ensures.scaled c.in-Long-Long.first c.in-Long-Long.second c.in-Long-Long.is-0 c.in-Long-Long.is-1)
    c.in-Some.weighed c.in-Some.ensures c.greatest_long_weighed.result c.greatest_long_weighed.ensures

pub greatest_whole_weighed-requires-clause-weights : goal.greatest_whole_weighed-requires-clause-weights
greatest_whole_weighed-requires-clause-weights c = c.in-Some.ensures.have

pub greatest_whole_weighed-requires-clause-have : goal.greatest_whole_weighed-requires-clause-have
greatest_whole_weighed-requires-clause-have c =
    let at = (goal.at.greatest_whole_weighed-requires-clause-have c).After-answer_is_unique in
    numbers_there c.args.lines.now c.args.line.now c.requires.opened no_candidate c.factors_of-factors.result
    c.in-Whole-Whole.first.now c.in-Whole-Whole.second.now
    (whole_tell c.args.lines.now (sound at).one c.args.line.now c.requires.opened c.in-Some.weighed.scales
    c.in-Some.ensures.scaled c.factors_of-factors.result c.factors_of-factors.ensures.before
    c.factors_of-factors.ensures.behind c.in-Whole-Whole.first c.in-Whole-Whole.second c.in-Whole-Whole.is-0
    c.in-Whole-Whole.is-1)

pub greatest_whole_weighed-requires-clause-low : goal.greatest_whole_weighed-requires-clause-low
greatest_whole_weighed-requires-clause-low c =
    let at = (goal.at.greatest_whole_weighed-requires-clause-low c).After-answer_is_unique in
    weighed_low c.args.lines.now c.args.line.now c.requires.opened no_candidate c.factors_of-factors.result
    c.in-Whole-Whole.first.now c.in-Whole-Whole.second.now
    (whole_tell c.args.lines.now (sound at).one c.args.line.now c.requires.opened c.in-Some.weighed.scales
    c.in-Some.ensures.scaled c.factors_of-factors.result c.factors_of-factors.ensures.before
    c.factors_of-factors.ensures.behind c.in-Whole-Whole.first c.in-Whole-Whole.second c.in-Whole-Whole.is-0
    c.in-Whole-Whole.is-1) c.in-Some.weighed c.in-Some.ensures (sound at)

pub returns-in-Whole-Whole : goal.returns-in-Whole-Whole
returns-in-Whole-Whole c =
    let at = (goal.at.returns-in-Whole-Whole c).After-answer_is_unique in
    weighed_greatest c.args.lines.now c.args.line.now c.requires.opened no_candidate c.factors_of-factors.result
    c.in-Whole-Whole.first.now c.in-Whole-Whole.second.now
    (whole_tell c.args.lines.now (sound at).one c.args.line.now c.requires.opened c.in-Some.weighed.scales
    c.in-Some.ensures.scaled c.factors_of-factors.result c.factors_of-factors.ensures.before
    c.factors_of-factors.ensures.behind c.in-Whole-Whole.first c.in-Whole-Whole.second c.in-Whole-Whole.is-0
    c.in-Whole-Whole.is-1) c.in-Some.weighed c.in-Some.ensures c.greatest_whole_weighed.result
    c.greatest_whole_weighed.ensures
