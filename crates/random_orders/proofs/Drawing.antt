-- Draws move the generator on by as many words.
use Rattle.std.proofs.Common.{◌≡◌, ℕ, zero, suc, ◌+◌, List, [], ◌∷◌, length, refl, sym, ap, ◌∙◌, zero-add, suc-add}
use Rattle.rand_pcg.specs.Lcg.{Lcg, state_after}
use Rattle.random_orders.specs.Draws.{drawn_turn, drawn_turns, after_draws}

pub turns_advance : (bounds : List ℕ) (generator : Lcg)
    → (drawn_turns bounds generator).1 ≡ after_draws (length bounds) generator
unfolding state_after
turns_advance [] generator = refl
turns_advance (m ∷ bounds) generator = turns_advance bounds (drawn_turn m generator).1

pub draws_add : (a b : ℕ) (generator : Lcg) → after_draws b (after_draws a generator) ≡ after_draws (a + b) generator
unfolding state_after
draws_add zero b generator = ap (λ (n : ℕ). after_draws n generator) (sym (zero-add b))
draws_add (suc a) b generator =
    draws_add a b (after_draws 1 generator) ∙ ap (λ (n : ℕ). after_draws n generator) (sym (suc-add a b))
