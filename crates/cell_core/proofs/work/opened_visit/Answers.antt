use Rattle.std.proofs.Common.{◌≡◌, ◌+◌, ℕ, List, [], ◌∷◌, length, refl, subst, ap, arith}
use Rattle.std.proofs.lemmas.Option.{none-some}
use Rattle.adp_model.specs.Parts.{alternatives_of}
use Rattle.rand_pcg.specs.Lcg.{Lcg}
use Rattle.random_orders.specs.Draws.{drawn_turn, drawn_turns}
use Rattle.cell_core.proofs.Opening.{drawn_four}
use Rattle.cell_core.proofs.work.opened_visit.Goals as goal

pub returns-clause-walk : goal.returns-clause-walk
returns-clause-walk c =
    let count = c.alternatives-count.ensures in
    let first = c.turn-first.ensures.below in
    let a = c.turn.ensures.below in
    let b = c.turn-2.ensures.below in
    let d = c.turn-3.ensures.below in
    let l = ap length count.alternatives in
    record {
      first = omega arith;
      three = refl;
      turns = (omega arith, (omega arith, (omega arith, tt)));
      at = λ position e. absurd (none-some position e);
    }

pub returns-clause-drawn : goal.returns-clause-drawn
returns-clause-drawn c =
    let l = ap length c.alternatives-count.ensures.alternatives in
    subst
    (λ n.
    ◌≡◌ {A = List ℕ × Lcg}
    (c.turn-first.result ∷ c.turn.result ∷ c.turn-2.result ∷ c.turn-3.result ∷ [], c.turn-3.new.self)
    (drawn_turns (length (alternatives_of c.args.problem.now.grammar c.args.cell.rule) ∷ n ∷ n ∷ n ∷ []) c.args.orders.now))
    (ap (λ n. n + 1) c.from-positions.ensures)
    (drawn_four _ _ _ _ _ _ _ _ _ _ _
    (subst (λ n. ◌≡◌ (c.turn-first.result, c.turn-first.new.self) (drawn_turn n c.args.orders.now)) l c.turn-first.ensures.drawn)
    c.turn.ensures.drawn c.turn-2.ensures.drawn c.turn-3.ensures.drawn)
