use Rattle.std.proofs.Common.{◌≡◌, ◌<◌, ℕ, List, [], ◌∷◌, length, subst, ap, arith}
use Rattle.adp_model.specs.PosedProblem.{PosedProblem}
use Rattle.adp_model.specs.Parts.{alternatives_of}
use Rattle.memo_model.specs.Visits.{turned_number}
use Rattle.argument_search.specs.Seeking.{turned_of}
use Rattle.argument_search.proofs.Entries.{first_entry}
use Rattle.argument_search.proofs.Walks.{noted_more}
use Rattle.argument_search.proofs.walk.first_from.Goals as goal

pub overflow_cast-count : goal.overflow_cast-count
overflow_cast-count g c =
    let e = ap length c.alternatives.ensures.alternatives in
    let few = c.alternatives.ensures.few in
    omega arith

pub alternative_behind-alt-requires-clause-few : goal.alternative_behind-alt-requires-clause-few
alternative_behind-alt-requires-clause-few g c =
    let e = ap length c.alternatives.ensures.alternatives in
    let few = c.alternatives.ensures.few in
    omega arith

pub overflow_cast-alt : goal.overflow_cast-alt
overflow_cast-alt g c =
    let e = ap length c.alternatives.ensures.alternatives in
    let few = c.alternatives.ensures.few in
    let below = c.alternative_behind-alt.ensures.below in
    omega arith

any_of : {X : Type 0} (xs : List X) (number : ℕ) → number < length xs → X
any_of [] number l = absurd (omega arith)
any_of (x ∷ xs) number l = x

-- what is no candidate has no viable split
pub candidate_left-requires-clause-others : goal.candidate_left-requires-clause-others
candidate_left-requires-clause-others g c = λ none cuts viable.
    let alt = c.alternative_behind-alt.result in
    let told = c.candidates-candidates.ensures in
    let alternatives = c.candidates-candidates.result.alternatives.now in
    let below = c.alternative_behind-alt.ensures.below in
    let counted = ap length c.alternatives.ensures.alternatives in
    let same = ap (λ (p : PosedProblem). length (alternatives_of p.grammar c.args.visit.cell.rule)) c.requires.same in
    let there : alt < length alternatives = omega (arith, below, counted, same, told.each) in
    let d = any_of alternatives alt there in
    told.others alt d there none alt cuts (told.are alt d there) viable

pub returns-in-Some : goal.returns-in-Some
returns-in-Some g c =
    let p = c.args.problem.now in
    let v = c.args.visit in
    let formed = c.admissible.ensures.checked.well_formed in
    let e = ap length c.alternatives.ensures.alternatives in
    let at : turned_of p v c.alternative_behind-alt.result ≡ c.loop-number.number =
    subst (λ n. turned_number n v.first c.alternative_behind-alt.result ≡ c.loop-number.number) e
    c.alternative_behind-alt.ensures.turned in
    first_entry p (g.N.NotedCells.is_noted c.args.noted.now) v c.requires.walk c.requires.walk.three
    (c.ranks_tell_splits_apart.ensures p formed v.cell v.turns c.requires.span.in_order c.requires.walk.three
    c.requires.walk.turns)
    c.args.turned c.alternative_behind-alt.result c.in-Some.at c.in-Some.ensures
    (let l = c.loop-number.auto.number in omega arith)
    (λ a child here asks l m. c.loop-number.invariant.noted a child here asks l
    (subst (λ n. turned_of p v a.alternative < n) at m))

pub loop-number-preserved : goal.loop-number-preserved
loop-number-preserved g c =
    let p = c.args.problem.now in
    let v = c.args.visit in
    let formed = c.admissible.ensures.checked.well_formed in
    let e = ap length c.alternatives.ensures.alternatives in
    let at : turned_of p v c.alternative_behind-alt.result ≡ c.loop-number.number =
    subst (λ n. turned_number n v.first c.alternative_behind-alt.result ≡ c.loop-number.number) e
    c.alternative_behind-alt.ensures.turned in
    let below = c.alternative_behind-alt.ensures.below in
    record {
      noted = noted_more p (g.N.NotedCells.is_noted c.args.noted.now) v c.requires.walk c.requires.walk.three
          (c.ranks_tell_splits_apart.ensures p formed v.cell v.turns c.requires.span.in_order c.requires.walk.three
          c.requires.walk.turns)
          c.args.turned c.loop-number.number c.alternative_behind-alt.result at
          (omega arith) c.in_default.ensures c.loop-number.invariant.noted;
    }
