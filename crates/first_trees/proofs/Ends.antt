-- Boundaries of a split: from the three cuts of a choice to the ends of its arguments' spans.
use Rattle.std.proofs.Common.{◌≡◌, ℕ, zero, suc, ◌-◌, ◌≤◌, List, [], ◌∷◌, ◌++◌, length, take, drop, refl, ap, arith}
use Rattle.std.specs.List.{AllByRecursion}
use Rattle.adp_model.specs.declared.grammar.Arg.{Arg}
use Rattle.adp_model.specs.Splits.{place}

-- where the last of the spans ends, the first of which begins at `from`
abbrev pub last_end : ℕ → List ℕ → ℕ
last_end from [] = from
last_end from (end ∷ ends) = last_end end ends

-- the ends that three cuts give to this many arguments
pub record AreEnds (from to : ℕ) (count : ℕ) (cuts ends : List ℕ) : Type 0 where
  pub count_is : length ends ≡ count
  pub last : last_end from ends ≡ to
  pub cuts_are : take 3 (ends ++ to ∷ to ∷ to ∷ []) ≡ cuts
  pub rest : List ℕ
  pub begins : cuts ++ to ∷ [] ≡ ends ++ rest

abbrev IsLast : ℕ → ℕ → List ℕ → Type 0
IsLast to count cuts = AllByRecursion (λ boundary. boundary ≡ to) (drop (count - 1) (cuts ++ to ∷ []))

one_end : (from to a b c : ℕ) → IsLast to 1 (a ∷ b ∷ c ∷ []) → AreEnds from to 1 (a ∷ b ∷ c ∷ []) (a ∷ [])
one_end from to a b c h =
    record { count_is = refl; last = h.0; cuts_are = cc (h.1.0, h.1.1.0); rest = b ∷ c ∷ to ∷ []; begins = refl }

two_ends : (from to a b c : ℕ) → IsLast to 2 (a ∷ b ∷ c ∷ []) → AreEnds from to 2 (a ∷ b ∷ c ∷ []) (a ∷ b ∷ [])
two_ends from to a b c h =
    record { count_is = refl; last = h.0; cuts_are = cc (h.1.0); rest = c ∷ to ∷ []; begins = refl }

three_ends : (from to a b c : ℕ) → IsLast to 3 (a ∷ b ∷ c ∷ [])
    → AreEnds from to 3 (a ∷ b ∷ c ∷ []) (a ∷ b ∷ c ∷ [])
three_ends from to a b c h =
    record { count_is = refl; last = h.0; cuts_are = refl; rest = to ∷ []; begins = refl }

four_ends : (from to a b c : ℕ) → AreEnds from to 4 (a ∷ b ∷ c ∷ []) (a ∷ b ∷ c ∷ to ∷ [])
four_ends from to a b c = record { count_is = refl; last = refl; cuts_are = refl; rest = []; begins = refl }

ends_of_three : (from to count a b c : ℕ) → 1 ≤ count → count ≤ 4 → IsLast to count (a ∷ b ∷ c ∷ [])
    → (ends : List ℕ) × AreEnds from to count (a ∷ b ∷ c ∷ []) ends
ends_of_three from to zero a b c one four h = absurd (omega arith)
ends_of_three from to (suc zero) a b c one four h = (_, one_end from to a b c h)
ends_of_three from to (suc (suc zero)) a b c one four h = (_, two_ends from to a b c h)
ends_of_three from to (suc (suc (suc zero))) a b c one four h = (_, three_ends from to a b c h)
ends_of_three from to (suc (suc (suc (suc zero)))) a b c one four h = (_, four_ends from to a b c)
ends_of_three from to (suc (suc (suc (suc (suc n))))) a b c one four h = absurd (omega arith)

pub ends_viable : (from to count : ℕ) (cuts : List ℕ) → 1 ≤ count → count ≤ 4 → length cuts ≡ 3
    → AllByRecursion (λ boundary. boundary ≡ to) (drop (count - 1) (cuts ++ to ∷ []))
    → (ends : List ℕ) × AreEnds from to count cuts ends
ends_viable from to count [] one four three h = absurd (omega arith)
ends_viable from to count (a ∷ []) one four three h = absurd (omega arith)
ends_viable from to count (a ∷ b ∷ []) one four three h = absurd (omega arith)
ends_viable from to count (a ∷ b ∷ c ∷ []) one four three h = ends_of_three from to count a b c one four h
ends_viable from to count (a ∷ b ∷ c ∷ d ∷ cuts) one four three h = absurd (omega arith)

-- the ends past the arguments' are not looked at
pub place_appended : (arguments : List Arg) (from : ℕ) (ends rest : List ℕ) → length ends ≡ length arguments
    → place arguments from (ends ++ rest) ≡ place arguments from ends
place_appended [] from ends rest e = refl
place_appended (argument ∷ arguments) from [] rest e = absurd (omega arith)
place_appended (argument ∷ arguments) from (to ∷ ends) rest e =
    ap (λ others. record { argument = argument; from = from; to = to } ∷ others)
    (place_appended arguments to ends rest (omega arith))
