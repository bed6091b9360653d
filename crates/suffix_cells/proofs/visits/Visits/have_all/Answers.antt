use Rattle.std.proofs.Common.{◌≡◌, ◌↔◌, ℕ, List, sym, ap, subst, ◌∙◌, arith, rules}
use Rattle.std.specs.Prelude.{bit_or, slice_index}
use Rattle.std.specs.Int.{bit_at}
use Rattle.std.proofs.lemmas.Nat.Bits.{bit_at_or, bit_at-lt}
use Rattle.suffix_cells.specs.Visits.{IsVisited, Visited}
use Rattle.suffix_cells.proofs.visits.Visits.have_all.Goals as goal

pub returns : goal.returns
returns c = λ all number set.
    let from = c.args.from in
    let visited = c.bits_at-visited.result in
    let is = c.bits_at-visited.ensures ∙ ap (λ (xs : List ℕ). slice_index xs from) c.deref.ensures.value in
    let B : ℕ → Type 0 = λ bits. (number : ℕ) → bit_at bits number ≡ 1 ↔ IsVisited c.args.self.now from number in
    let V : Visited → Type 0 = λ visits. (number : ℕ) → bit_at (slice_index c.self.inside.bits.items from) number ≡ 1 ↔ IsVisited visits from number in
    let exact = subst B (sym is) (subst V c.self.view_is (c.self.invariant.exact from)) in
    let same : bit_or visited c.args.bits ≡ visited = search rules in
    let joined : bit_at (bit_or visited c.args.bits) number ≡ bit_at visited number = ap (λ bits. bit_at bits number) same in
    (exact number).0 (omega (arith, joined, bit_at_or visited c.args.bits number, set, bit_at-lt visited number))
