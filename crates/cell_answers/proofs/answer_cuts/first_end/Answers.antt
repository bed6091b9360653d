use Rattle.std.proofs.Common.{◌≡◌, Some, to_z, of_z, w64, sym, subst, rules}
use Rattle.std.proofs.lemmas.Int.{to_z-of_z}
use Rattle.adp_model.specs.Bellman.{HasBestScore}
use Rattle.score_numbers.specs.Greatest.{IsGreatestOf}
use Rattle.cell_answers.specs.LaidBy.{IsFirstEnd}
use Rattle.cell_answers.specs.Totals.{HasTotal}
use Rattle.cell_answers.proofs.LaidEnds.{only_first, laid_of_total}
use Rattle.cell_answers.proofs.answer_cuts.first_end.Goals as goal

pub only_end-requires : goal.only_end-requires
only_end-requires c =
    let p = c.args.known.now.lines.now in
    let (end, fits, cover) = laid_of_total p c.args.arguments.now c.args.factors.now c.in-Some.argument.now
    c.in-Some.others.now c.args.from c.args.to c.args.total c.in-Some.ensures.cases.0
    c.requires.weighted.factors_each c.requires.greatest.0 in
    record { laid = (p, end, fits, cover) }

pub returns-in-Some-only_end-clause-first : goal.returns-in-Some-only_end-clause-first
returns-in-Some-only_end-clause-first c =
    let p = c.args.known.now.lines.now in
    only_first p c.args.arguments.now c.args.factors.now c.in-Some.argument.now c.in-Some.others.now c.args.from
    c.args.to c.args.total c.in-Some-only_end.end c.in-Some.ensures.cases.0 c.requires.weighted.factors_each
    c.requires.greatest.0 (c.in-Some-only_end.ensures p)

pub end_along-requires-clause-same_problem : goal.end_along-requires-clause-same_problem
end_along-requires-clause-same_problem c = c.requires.same_problem

pub end_along-requires-clause-weighted : goal.end_along-requires-clause-weighted
end_along-requires-clause-weighted c = c.requires.weighted

pub end_along-requires-clause-span : goal.end_along-requires-clause-span
end_along-requires-clause-span c = c.requires.span

pub end_along-requires-clause-scored : goal.end_along-requires-clause-scored
end_along-requires-clause-scored c = c.requires.scored

pub end_along-requires-clause-low : goal.end_along-requires-clause-low
end_along-requires-clause-low c = c.requires.low

pub end_along-requires-clause-has : goal.end_along-requires-clause-has
end_along-requires-clause-has c =
    let p = c.args.known.now.lines.now in
    let read : to_z w64 (of_z w64 c.args.total) ≡ c.args.total = to_z-of_z w64 c.args.total (search rules) in
    subst (λ total. HasTotal p (HasBestScore p) c.args.arguments.now c.args.factors.now c.args.from c.args.to total) (sym read) c.requires.greatest.0

pub end_among-requires-clause-same_problem : goal.end_among-requires-clause-same_problem
end_among-requires-clause-same_problem c = c.requires.same_problem

pub end_among-requires-clause-some : goal.end_among-requires-clause-some
end_among-requires-clause-some c = c.requires.some

pub end_among-requires-clause-weighted : goal.end_among-requires-clause-weighted
end_among-requires-clause-weighted c = c.requires.weighted

pub end_among-requires-clause-span : goal.end_among-requires-clause-span
end_among-requires-clause-span c = c.requires.span

pub end_among-requires-clause-scored : goal.end_among-requires-clause-scored
end_among-requires-clause-scored c = c.requires.scored

pub end_among-requires-clause-low : goal.end_among-requires-clause-low
end_among-requires-clause-low c = c.requires.low

pub end_among-requires-clause-greatest : goal.end_among-requires-clause-greatest
end_among-requires-clause-greatest c =
    let p = c.args.known.now.lines.now in
    let read : to_z w64 (of_z w64 c.args.total) ≡ c.args.total = to_z-of_z w64 c.args.total (search rules) in
    subst (λ total. IsGreatestOf (HasTotal p (HasBestScore p) c.args.arguments.now c.args.factors.now c.args.from
    c.args.to) (Some total)) (sym read) c.requires.greatest

pub returns-in-Some-line_here-clause-first : goal.returns-in-Some-line_here-clause-first
returns-in-Some-line_here-clause-first c =
    let read : to_z w64 (of_z w64 c.args.total) ≡ c.args.total = to_z-of_z w64 c.args.total (search rules) in
    subst (λ total. IsFirstEnd c.args.known.now.lines.now c.args.arguments.now c.args.factors.now c.args.from c.args.to
    total c.end_along.result) read c.end_along.ensures

pub returns-clause-first : goal.returns-clause-first
returns-clause-first c =
    let read : to_z w64 (of_z w64 c.args.total) ≡ c.args.total = to_z-of_z w64 c.args.total (search rules) in
    subst (λ total. IsFirstEnd c.args.known.now.lines.now c.args.arguments.now c.args.factors.now c.args.from c.args.to
    total c.end_among.result) read c.end_among.ensures.first

pub end_among-requires-clause-same_tails : goal.end_among-requires-clause-same_tails
end_among-requires-clause-same_tails c = c.requires.same_tails

pub end_among-requires-clause-owner : goal.end_among-requires-clause-owner
end_among-requires-clause-owner c = c.requires.owner
