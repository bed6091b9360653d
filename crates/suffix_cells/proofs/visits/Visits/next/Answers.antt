use Rattle.std.proofs.Common.{◌≡◌, ◌↔◌, ℕ, List, ap, sym, subst, ◌∙◌}
use Rattle.std.specs.Prelude.{slice_index}
use Rattle.std.specs.Int.{bit_at}
use Rattle.suffix_cells.specs.Visits.{IsVisited, Visited}
use Rattle.suffix_cells.proofs.VisitSteps.{first_visited}
use Rattle.suffix_cells.proofs.visits.Visits.next.Goals as goal

pub returns : goal.returns
returns c =
    let from = c.args.from in
    let is = c.bits_at.ensures ∙ ap (λ (xs : List ℕ). slice_index xs from) c.deref.ensures.value in
    let B : ℕ → Type 0 = λ bits. (number : ℕ) → bit_at bits number ≡ 1 ↔ IsVisited c.args.self.now from number in
    let V : Visited → Type 0 = λ visits. (number : ℕ) → bit_at (slice_index c.self.inside.bits.items from) number ≡ 1 ↔ IsVisited visits from number in
    first_visited c.args.self.now from c.bits_at.result (subst B (sym is) (subst V c.self.view_is (c.self.invariant.exact from))) c.first_bit.result
    c.args.least c.first_bit.ensures
