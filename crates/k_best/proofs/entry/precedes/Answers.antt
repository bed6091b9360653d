use Rattle.std.proofs.Common.{◌≡◌, Bool, true, false, not, ℕ, List, sym, ap, subst, ◌∙◌, arith, refl}
use lib.Dec.{eqb}
use lib.Pointwise.{pointwise, bytes_decides}
use Rattle.std.proofs.lemmas.Int.{ints}
use Rattle.adp_model.specs.declared.cell.Choice.{Choice}
use Rattle.adp_model.specs.Preference.{LexicographicallyLess}
use Rattle.first_trees.specs.Entries.{Entry}
use Rattle.k_best.proofs.EntryOrder.{by_ranks}
use Rattle.k_best.proofs.entry.precedes.Goals as goal

not_false : (b : Bool) → false ≡ not b → b ≡ true
not_false true e = refl
not_false false e = cc

pub returns-else-ne : goal.returns-else-ne
returns-else-ne c =
    let first : Entry = c.args.first.now in
    let second : Entry = c.args.second.now in
    let chosen : c.choice-choice.result ≡ first.choice = c.choice-choice.ensures in
    let other : c.choice-other.result ≡ second.choice = c.choice-other.ensures in
    let score : first.score ≡ second.score = omega (arith, ints, c.if-score.false, c.score.ensures, c.score-2.ensures) in
    let alt : first.choice.alt ≡ second.choice.alt =
    sym (ap (λ (x : Choice). x.alt) chosen) ∙ c.if-choice-other.false ∙ ap (λ (x : Choice). x.alt) other in
    let same : c.choice-choice.result.cuts ≡ c.choice-other.result.cuts =
    (bytes_decides c.choice-choice.result.cuts c.choice-other.result.cuts).0
    (not_false (pointwise eqb c.choice-choice.result.cuts c.choice-other.result.cuts) c.if-ne.ensures) in
    let cuts : first.choice.cuts ≡ second.choice.cuts =
    sym (ap (λ (x : Choice). x.cuts) chosen) ∙ same ∙ ap (λ (x : Choice). x.cuts) other in
    let decides = by_ranks c.args.goal first second score alt cuts in
    let L : List ℕ → List ℕ → Type 0 = LexicographicallyLess in (
      (λ holds. decides.0 (subst (λ xs. L xs second.ranks) c.ranks.ensures.ranks
          (subst (L c.ranks.result.now) c.ranks-else-ne.ensures.ranks (c.ranks_are_less.ensures.0 holds)))),
      (λ before. c.ranks_are_less.ensures.1 (subst (L c.ranks.result.now) (sym c.ranks-else-ne.ensures.ranks)
          (subst (λ xs. L xs second.ranks) (sym c.ranks.ensures.ranks) (decides.1 before)))),
    )
