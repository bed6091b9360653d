use Rattle.std.proofs.Common.{◌≡◌, ◌<◌, ◌≤◌, ℤ, pos, List, [], ◌∷◌, length, get_or, take, map, FitsSigned, w64, refl, rules, arith}
use Rattle.std.proofs.lemmas.Int.{to_z-of_z}
use Rattle.adp_model.specs.declared.grammar.Goal.{Goal}
use Rattle.score_numbers.specs.Turned.{turned}
use Rattle.score_numbers.proofs.numbers.turned_factors.Goals as goal

all_turned : (goal : Goal) (factors : List ℤ) (a b c d : ℤ) → length factors ≤ 4
    → (0 < length factors → a ≡ turned goal (get_or factors 0 (pos 0))) → (1 < length factors → b ≡ turned goal (get_or factors 1 (pos 0)))
    → (2 < length factors → c ≡ turned goal (get_or factors 2 (pos 0))) → (3 < length factors → d ≡ turned goal (get_or factors 3 (pos 0)))
    → take (length factors) (a ∷ b ∷ c ∷ d ∷ []) ≡ map (turned goal) factors
all_turned goal [] a b c d few first second third fourth = refl
all_turned goal (v ∷ []) a b c d few first second third fourth = λ i. first (omega arith) i ∷ []
all_turned goal (v ∷ w ∷ []) a b c d few first second third fourth = λ i. first (omega arith) i ∷ second (omega arith) i ∷ []
all_turned goal (v ∷ w ∷ x ∷ []) a b c d few first second third fourth = λ i. first (omega arith) i ∷ second (omega arith) i ∷ third (omega arith) i ∷ []
all_turned goal (v ∷ w ∷ x ∷ y ∷ []) a b c d few first second third fourth = λ i. first (omega arith) i ∷ second (omega arith) i ∷ third (omega arith) i ∷ fourth (omega arith) i ∷ []
all_turned goal (v ∷ w ∷ x ∷ y ∷ z ∷ factors) a b c d few first second third fourth = absurd (omega (arith, few))

pub returns : goal.returns
returns c =
    let first : FitsSigned w64 c.turned_at.result = search rules in
    let second : FitsSigned w64 c.turned_at-2.result = search rules in
    let third : FitsSigned w64 c.turned_at-3.result = search rules in
    let fourth : FitsSigned w64 c.turned_at-4.result = search rules in
    simp to_z-of_z
    (all_turned c.args.goal c.args.factors.now c.turned_at.result c.turned_at-2.result c.turned_at-3.result c.turned_at-4.result c.requires.few c.turned_at.ensures c.turned_at-2.ensures c.turned_at-3.ensures c.turned_at-4.ensures)
