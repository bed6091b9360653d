-- Turns drawn from a generator.
use Rattle.std.specs.Prelude.{ℕ, ◌*◌, ◌/◌, ◌^◌, List, [], ◌∷◌}
use Rattle.rand_pcg.specs.Lcg.{Lcg, advance}
use Rattle.rand_pcg.specs.Pcg.{multiplier_64, pcg32}

-- the number below m that a word of 32 bits stands for
abbrev pub turn_of : ℕ → ℕ → ℕ
turn_of m word = word * m / 2 ^ 32

-- the turn below m that the generator's next word gives, and the generator behind it
abbrev pub drawn_turn : ℕ → Lcg → ℕ × Lcg
drawn_turn m generator = (turn_of m (pcg32 generator).0, (pcg32 generator).1)

-- the next turns, below these numbers in their order, and the generator behind them
abbrev pub drawn_turns : List ℕ → Lcg → List ℕ × Lcg
drawn_turns [] generator = ([], generator)
drawn_turns (m ∷ bounds) generator =
    let drawn = drawn_turn m generator in
    let rest = drawn_turns bounds drawn.1 in
    (drawn.0 ∷ rest.0, rest.1)

-- the generator after so many draws
abbrev pub after_draws : ℕ → Lcg → Lcg
after_draws count generator = advance 64 multiplier_64 count generator
