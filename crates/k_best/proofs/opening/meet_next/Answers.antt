use Rattle.std.proofs.Common.{◌≡◌, ◌<◌, ℕ, List, length, sym, ap, subst, ◌∙◌, arith, ⊎_elim}
use Rattle.std.proofs.lemmas.Bool.{cases_lt}
use Rattle.adp_model.specs.declared.cell.Choice.{Choice}
use Rattle.adp_model.specs.ProblemFields.{IsAdmissible}
use Rattle.adp_model.specs.Parts.{algebra_of}
use Rattle.adp_model.specs.Splits.{IsViable}
use Rattle.first_trees.specs.Entries.{Entry}
use Rattle.k_best.specs.Growing.{AreHeaded, raised}
use Rattle.k_best.specs.RankedRows.{BeginWith}
use Rattle.k_best.proofs.Grows.{raised_behind}
use Rattle.k_best.proofs.Told.{headed_kept, same_many}
use Rattle.k_best.proofs.opening.meet_next.Goals as goal

pub meet_at-requires-clause-viable : goal.meet_at-requires-clause-viable
meet_at-requires-clause-viable c =
    subst (λ (choice : Choice). IsViable c.args.basis.now.lines.now c.args.cell choice.alt choice.cuts) (sym c.choice.ensures) c.requires.first.viable

pub loop-number-init : goal.loop-number-init
loop-number-init c = record {
  listing = c.requires.listing;
  kept = λ entry settled. settled;
  still = λ place at. at;
  headed = λ number less. absurd (omega arith);
}

pub loop-number-preserved : goal.loop-number-preserved
loop-number-preserved c =
    let p = c.args.basis.now.lines.now in
    let k = c.args.basis.now.k in
    let cell = c.args.cell in
    let first : Entry = c.args.first.now in
    let keeps = subst IsAdmissible c.problem.ensures c.admissible.ensures in
    let middle = c.loop-number.found.items in
    let new = c.meet_at.new.found.items in
    let here = c.loop-number.invariant in
    let ranks_are : c.ranks.result.now ≡ raised c.loop-number.number first.ranks = c.ranks.ensures.ranks ∙ c.in-Some.ensures in
    let within : c.loop-number.number < length first.ranks = omega (arith, c.loop-number-test.true, ap length c.ranks-number-end.ensures.ranks) in
    let headed : AreHeaded p k cell first.choice (raised c.loop-number.number first.ranks) new =
    subst (λ (ranks : List ℕ). AreHeaded p k cell first.choice ranks new) ranks_are
    (subst (λ (choice : Choice). AreHeaded p k cell choice c.ranks.result.now new) c.choice.ensures (c.in_ok-meet_at.ensures.met c.if-not-branch.false)) in
    record {
      listing = c.in_ok-meet_at.ensures.listing;
      kept = λ entry settled. c.in_ok-meet_at.ensures.kept.kept entry (here.kept entry settled);
      still = λ place at. c.in_ok-meet_at.ensures.kept.front place first (here.still place at) (λ entry is same begins.
          let choice = same ∙ c.choice.ensures in
          raised_behind p k cell (c.entries_are_in_strict_order.ensures.irreflexive (algebra_of p).goal)
          (c.entries_are_in_strict_order.ensures.transitive (algebra_of p).goal)
          (c.lower_ranks_come_first.ensures p keeps.least keeps.greatest keeps.ranks keeps.checked k cell c.requires.span)
          first entry c.loop-number.number c.requires.first is choice (same_many p k cell entry first is c.requires.first choice) within
          (subst (BeginWith entry.ranks) ranks_are begins));
      headed = λ number less. ⊎_elim
          (λ (before : number < c.loop-number.number). λ entry is same under.
          headed_kept p k cell (raised number first.ranks) middle new c.in_ok-meet_at.ensures.kept.kept entry (here.headed number before entry is same under))
          (λ past. subst (λ n. AreHeaded p k cell first.choice (raised n first.ranks) new) (let e : c.loop-number.number ≡ number = omega arith in e) headed)
          (cases_lt number c.loop-number.number);
    }

pub returns : goal.returns
returns c are_known =
    let here = c.loop-number.invariant in
    record {
      listing = here.listing;
      kept = here.kept;
      still = here.still;
      headed = λ number less. here.headed number (omega (arith, less, c.loop-number-test.false, ap length c.ranks-number-end.ensures.ranks));
    }
