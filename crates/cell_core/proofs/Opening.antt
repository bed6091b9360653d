-- The four draws of an opened cell.
use Rattle.std.proofs.Common.{◌≡◌, ℕ, List, [], ◌∷◌, refl, ap, ◌∙◌}
use Rattle.rand_pcg.specs.Lcg.{Lcg}
use Rattle.random_orders.specs.Draws.{drawn_turn, drawn_turns}

-- four turns, one after the other, are four drawn turns
pub drawn_four : (m k : ℕ) (a b c d : ℕ) (start one two three four : Lcg)
    → (a, one) ≡ drawn_turn m start → (b, two) ≡ drawn_turn k one → (c, three) ≡ drawn_turn k two
    → (d, four) ≡ drawn_turn k three
    → ◌≡◌ {A = List ℕ × Lcg} (a ∷ b ∷ c ∷ d ∷ [], four) (drawn_turns (m ∷ k ∷ k ∷ k ∷ []) start)
drawn_four m k a b c d start one two three four e f g h =
    step m (k ∷ k ∷ k ∷ []) a start one (b ∷ c ∷ d ∷ []) four e
    (step k (k ∷ k ∷ []) b one two (c ∷ d ∷ []) four f
    (step k (k ∷ []) c two three (d ∷ []) four g
    (step k [] d three four [] four h refl)))
  where
    step : (m : ℕ) (bounds : List ℕ) (a : ℕ) (start one : Lcg) (rest : List ℕ) (last : Lcg) → (a, one) ≡ drawn_turn m start
        → ◌≡◌ {A = List ℕ × Lcg} (rest, last) (drawn_turns bounds one)
        → ◌≡◌ {A = List ℕ × Lcg} (a ∷ rest, last) (drawn_turns (m ∷ bounds) start)
    step m bounds a start one rest last e later =
        let first : a ≡ (drawn_turn m start).0 = ap (λ (x : ℕ × Lcg). x.0) e in
        let behind : one ≡ (drawn_turn m start).1 = ap (λ (x : ℕ × Lcg). x.1) e in
        let all : ◌≡◌ {A = List ℕ × Lcg} (rest, last) (drawn_turns bounds (drawn_turn m start).1) = later ∙ ap (drawn_turns bounds) behind in
        λ i. (first i ∷ (all i).0, (all i).1)
