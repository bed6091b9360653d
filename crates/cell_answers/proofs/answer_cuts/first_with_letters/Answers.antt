use Rattle.std.proofs.Common.{FitsSigned, w64, rules}
use Rattle.std.proofs.lemmas.Int.{to_z-of_z}
use Rattle.score_numbers.specs.Entries.{no_candidate}
use Rattle.score_numbers.specs.Packing.{short, medium, long}
use Rattle.cell_answers.proofs.FirstEnds.{AreSound}
use Rattle.cell_answers.proofs.Sides.{long_tell, medium_tell, numbers_there, short_tell, weighed_first, weighed_low, whole_tell}
use Rattle.cell_answers.proofs.Soundness.{sound_by}
use Rattle.cell_answers.proofs.answer_cuts.first_with_letters.Goals as goal
use Rattle.cell_answers.proofs.answer_cuts.first_with_letters.Goals.{After-answer_is_unique}

sound : (c : After-answer_is_unique) → AreSound c.args.lines.now
sound c =
    sound_by c.problem.result.now c.args.lines.now c.problem.ensures c.admissible.ensures
    (c.bounds_are_sound.ensures.score c.args.lines.now) (c.answer_is_unique.ensures c.args.lines.now)

pub first_short_weighed-requires-clause-weights : goal.first_short_weighed-requires-clause-weights
first_short_weighed-requires-clause-weights c = c.in-Some.ensures.have

pub first_short_weighed-requires-clause-have : goal.first_short_weighed-requires-clause-have
first_short_weighed-requires-clause-have c =
    let at = (goal.at.first_short_weighed-requires-clause-have c).After-answer_is_unique in
    numbers_there c.args.lines.now c.args.line.now c.requires.opened short.mark c.in-Some.weighed.scales
    c.in-Short-Short.first.now c.in-Short-Short.second.now
    (short_tell c.args.lines.now (sound at).one c.args.line.now c.requires.opened c.in-Some.weighed.scales
    c.in-Some.ensures.scaled c.in-Short-Short.first c.in-Short-Short.second c.in-Short-Short.is-0
    c.in-Short-Short.is-1)

pub first_short_weighed-requires-clause-low : goal.first_short_weighed-requires-clause-low
first_short_weighed-requires-clause-low c =
    let at = (goal.at.first_short_weighed-requires-clause-low c).After-answer_is_unique in
    weighed_low c.args.lines.now c.args.line.now c.requires.opened short.mark c.in-Some.weighed.scales
    c.in-Short-Short.first.now c.in-Short-Short.second.now
    (short_tell c.args.lines.now (sound at).one c.args.line.now c.requires.opened c.in-Some.weighed.scales
    c.in-Some.ensures.scaled c.in-Short-Short.first c.in-Short-Short.second c.in-Short-Short.is-0
    c.in-Short-Short.is-1) c.in-Some.weighed c.in-Some.ensures (sound at)

pub returns-in-Short-Short : goal.returns-in-Short-Short
returns-in-Short-Short c =
    let at = (goal.at.returns-in-Short-Short c).After-answer_is_unique in
    let fits_total : FitsSigned w64 c.args.total = search rules in
    weighed_first c.args.lines.now c.args.line.now c.requires.opened short.mark c.in-Some.weighed.scales
    c.in-Short-Short.first.now c.in-Short-Short.second.now
    (short_tell c.args.lines.now (sound at).one c.args.line.now c.requires.opened c.in-Some.weighed.scales
    c.in-Some.ensures.scaled c.in-Short-Short.first c.in-Short-Short.second c.in-Short-Short.is-0
    c.in-Short-Short.is-1) c.in-Some.weighed c.in-Some.ensures c.args.total c.first_short_weighed.result
    (simp to_z-of_z at c.first_short_weighed.ensures)

pub first_medium_weighed-requires-clause-weights : goal.first_medium_weighed-requires-clause-weights
first_medium_weighed-requires-clause-weights c = c.in-Some.ensures.have

pub first_medium_weighed-requires-clause-have : goal.first_medium_weighed-requires-clause-have
first_medium_weighed-requires-clause-have c =
    let at = (goal.at.first_medium_weighed-requires-clause-have c).After-answer_is_unique in
    numbers_there c.args.lines.now c.args.line.now c.requires.opened medium.mark c.in-Some.weighed.scales
    c.in-Medium-Medium.first.now c.in-Medium-Medium.second.now
    (medium_tell c.args.lines.now (sound at).one c.args.line.now c.requires.opened c.in-Some.weighed.scales
    c.in-Some.ensures.scaled c.in-Medium-Medium.first c.in-Medium-Medium.second c.in-Medium-Medium.is-0
    c.in-Medium-Medium.is-1)

pub first_medium_weighed-requires-clause-low : goal.first_medium_weighed-requires-clause-low
first_medium_weighed-requires-clause-low c =
    let at = (goal.at.first_medium_weighed-requires-clause-low c).After-answer_is_unique in
    weighed_low c.args.lines.now c.args.line.now c.requires.opened medium.mark c.in-Some.weighed.scales
    c.in-Medium-Medium.first.now c.in-Medium-Medium.second.now
    (medium_tell c.args.lines.now (sound at).one c.args.line.now c.requires.opened c.in-Some.weighed.scales
    c.in-Some.ensures.scaled c.in-Medium-Medium.first c.in-Medium-Medium.second c.in-Medium-Medium.is-0
    c.in-Medium-Medium.is-1) c.in-Some.weighed c.in-Some.ensures (sound at)

pub returns-in-Medium-Medium : goal.returns-in-Medium-Medium
returns-in-Medium-Medium c =
    let at = (goal.at.returns-in-Medium-Medium c).After-answer_is_unique in
    let fits_total : FitsSigned w64 c.args.total = search rules in
    weighed_first c.args.lines.now c.args.line.now c.requires.opened medium.mark c.in-Some.weighed.scales
    c.in-Medium-Medium.first.now c.in-Medium-Medium.second.now
    (medium_tell c.args.lines.now (sound at).one c.args.line.now c.requires.opened c.in-Some.weighed.scales
    c.in-Some.ensures.scaled c.in-Medium-Medium.first c.in-Medium-Medium.second c.in-Medium-Medium.is-0
    c.in-Medium-Medium.is-1) c.in-Some.weighed c.in-Some.ensures c.args.total c.first_medium_weighed.result
    (simp to_z-of_z at c.first_medium_weighed.ensures)

pub first_long_weighed-requires-clause-weights : goal.first_long_weighed-requires-clause-weights
first_long_weighed-requires-clause-weights c = c.in-Some.ensures.have

pub first_long_weighed-requires-clause-have : goal.first_long_weighed-requires-clause-have
first_long_weighed-requires-clause-have c =
    let at = (goal.at.first_long_weighed-requires-clause-have c).After-answer_is_unique in
    numbers_there c.args.lines.now c.args.line.now c.requires.opened long.mark c.in-Some.weighed.scales
    c.in-Long-Long.first.now c.in-Long-Long.second.now
    (long_tell c.args.lines.now (sound at).one c.args.line.now c.requires.opened c.in-Some.weighed.scales
    c.in-Some.ensures.scaled c.in-Long-Long.first c.in-Long-Long.second c.in-Long-Long.is-0 c.in-Long-Long.is-1)

pub first_long_weighed-requires-clause-low : goal.first_long_weighed-requires-clause-low
first_long_weighed-requires-clause-low c =
    let at = (goal.at.first_long_weighed-requires-clause-low c).After-answer_is_unique in
    weighed_low c.args.lines.now c.args.line.now c.requires.opened long.mark c.in-Some.weighed.scales
    c.in-Long-Long.first.now c.in-Long-Long.second.now
    (long_tell c.args.lines.now (sound at).one c.args.line.now c.requires.opened c.in-Some.weighed.scales
    c.in-Some.ensures.scaled c.in-Long-Long.first c.in-Long-Long.second c.in-Long-Long.is-0 c.in-Long-Long.is-1)
    c.in-Some.weighed c.in-Some.ensures (sound at)

pub returns-in-Long-Long : goal.returns-in-Long-Long
returns-in-Long-Long c =
    let at = (goal.at.returns-in-Long-Long c).After-answer_is_unique in
    let fits_total : FitsSigned w64 c.args.total = search rules in
    weighed_first c.args.lines.now c.args.line.now c.requires.opened long.mark c.in-Some.weighed.scales
    c.in-Long-Long.first.now c.in-Long-Long.second.now
    (long_tell c.args.lines.now (sound at).one c.args.line.now c.requires.opened c.in-Some.weighed.scales
    c.in-Some.ensures.scaled c.in-Long-Long.first c.in-Long-Long.second c.in-Long-Long.is-0 c.in-Long-Long.is-1)
    c.in-Some.weighed c.in-Some.ensures c.args.total c.first_long_weighed.result
    (simp to_z-of_z at c.first_long_weighed.ensures)

pub first_whole_weighed-requires-clause-weights : goal.first_whole_weighed-requires-clause-weights
first_whole_weighed-requires-clause-weights c = c.in-Some.ensures.have

pub first_whole_weighed-requires-clause-have : goal.first_whole_weighed-requires-clause-have
first_whole_weighed-requires-clause-have c =
    let at = (goal.at.first_whole_weighed-requires-clause-have c).After-answer_is_unique in
    numbers_there c.args.lines.now c.args.line.now c.requires.opened no_candidate c.factors_of-factors.result
    c.in-Whole-Whole.first.now c.in-Whole-Whole.second.now
    (whole_tell c.args.lines.now (sound at).one c.args.line.now c.requires.opened c.in-Some.weighed.scales
    c.in-Some.ensures.scaled c.factors_of-factors.result c.factors_of-factors.ensures.before
    c.factors_of-factors.ensures.behind c.in-Whole-Whole.first c.in-Whole-Whole.second c.in-Whole-Whole.is-0
    c.in-Whole-Whole.is-1)

pub first_whole_weighed-requires-clause-low : goal.first_whole_weighed-requires-clause-low
first_whole_weighed-requires-clause-low c =
    let at = (goal.at.first_whole_weighed-requires-clause-low c).After-answer_is_unique in
    weighed_low c.args.lines.now c.args.line.now c.requires.opened no_candidate c.factors_of-factors.result
    c.in-Whole-Whole.first.now c.in-Whole-Whole.second.now
    (whole_tell c.args.lines.now (sound at).one c.args.line.now c.requires.opened c.in-Some.weighed.scales
    c.in-Some.ensures.scaled c.factors_of-factors.result c.factors_of-factors.ensures.before
    c.factors_of-factors.ensures.behind c.in-Whole-Whole.first c.in-Whole-Whole.second c.in-Whole-Whole.is-0
    c.in-Whole-Whole.is-1) c.in-Some.weighed c.in-Some.ensures (sound at)

pub returns-in-Whole-Whole : goal.returns-in-Whole-Whole
returns-in-Whole-Whole c =
    let at = (goal.at.returns-in-Whole-Whole c).After-answer_is_unique in
    let fits_total : FitsSigned w64 c.args.total = search rules in
    weighed_first c.args.lines.now c.args.line.now c.requires.opened no_candidate c.factors_of-factors.result
    c.in-Whole-Whole.first.now c.in-Whole-Whole.second.now
    (whole_tell c.args.lines.now (sound at).one c.args.line.now c.requires.opened c.in-Some.weighed.scales
    c.in-Some.ensures.scaled c.factors_of-factors.result c.factors_of-factors.ensures.before
    c.factors_of-factors.ensures.behind c.in-Whole-Whole.first c.in-Whole-Whole.second c.in-Whole-Whole.is-0
    c.in-Whole-Whole.is-1) c.in-Some.weighed c.in-Some.ensures c.args.total c.first_whole_weighed.result
    (simp to_z-of_z at c.first_whole_weighed.ensures)

pub returns : goal.returns
returns c =
    let fits_total : FitsSigned w64 c.args.total = search rules in
    simp to_z-of_z at c.first_valued.ensures
