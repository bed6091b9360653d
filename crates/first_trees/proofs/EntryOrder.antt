-- The order of entries is a strict order.
use Rattle.std.proofs.Common.{◌≡◌, ℕ, ◌<◌, ℤ, ◌⊎◌, inl, inr, List, [], ◌∷◌, sym, ap, subst, ◌∙◌, arith}
use Rattle.std.proofs.lemmas.Int.{ints}
use Rattle.adp_model.specs.declared.grammar.Goal.{Goal}
use Rattle.adp_model.specs.declared.grammar.Goal.TheVariants.{Least, Greatest}
use Rattle.adp_model.specs.declared.cell.Choice.{Choice}
use Rattle.adp_model.specs.Scores.{IsBetter}
use Rattle.adp_model.specs.Preference.{LexicographicallyLess}
use Rattle.first_trees.specs.Entries.{Entry, EntryPrecedes}

-- one comparison, and a second where the first finds no difference
abbrev Then : Type 0 → Type 0 → Type 0 → Type 0
Then Less Same Next = Less ⊎ (Same × Next)

none_then : {Less Same Next : Type 0} → (Less → ⊥) → (Next → ⊥) → Then Less Same Next → ⊥
none_then not_less not_next (inl less) = not_less less
none_then not_less not_next (inr (same, next)) = not_next next

joined_then : {L₁ S₁ N₁ L₂ S₂ N₂ L S N : Type 0} → (L₁ → L₂ → L) → (L₁ → S₂ → L) → (S₁ → L₂ → L) → (S₁ → S₂ → S)
    → (N₁ → N₂ → N) → Then L₁ S₁ N₁ → Then L₂ S₂ N₂ → Then L S N
joined_then less less_same same_less same next (inl a) (inl b) = inl (less a b)
joined_then less less_same same_less same next (inl a) (inr (e, n)) = inl (less_same a e)
joined_then less less_same same_less same next (inr (e, n)) (inl b) = inl (same_less e b)
joined_then less less_same same_less same next (inr (e, n)) (inr (f, m)) = inr (same e f, next n m)

better_irreflexive : (goal : Goal) (a : ℤ) → IsBetter goal a a → ⊥
better_irreflexive Least a h = omega (arith, ints)
better_irreflexive Greatest a h = omega (arith, ints)

better_transitive : (goal : Goal) (a b c : ℤ) → IsBetter goal a b → IsBetter goal b c → IsBetter goal a c
better_transitive Least a b c h k = omega (arith, ints)
better_transitive Greatest a b c h k = omega (arith, ints)

less_irreflexive : (xs : List ℕ) → LexicographicallyLess xs xs → ⊥
less_irreflexive [] h = h
less_irreflexive (x ∷ xs) h = none_then (λ (k : x < x). omega arith) (less_irreflexive xs) h

less_transitive : (xs ys zs : List ℕ) → LexicographicallyLess xs ys → LexicographicallyLess ys zs
    → LexicographicallyLess xs zs
less_transitive [] ys zs h k = absurd h
less_transitive (x ∷ xs) [] zs h k = absurd h
less_transitive (x ∷ xs) (y ∷ ys) [] h k = absurd k
less_transitive (x ∷ xs) (y ∷ ys) (z ∷ zs) h k =
    joined_then (λ (a : x < y) (b : y < z). omega arith) (λ (a : x < y) (e : y ≡ z). omega arith)
    (λ (e : x ≡ y) (b : y < z). omega arith) (λ (e : x ≡ y) (f : y ≡ z). e ∙ f) (less_transitive xs ys zs) h k

-- by score, alternative, cuts and ranks in turn
abbrev InTurn : Goal → Entry → Entry → Type 0
InTurn goal a b =
    Then (IsBetter goal a.score b.score) (a.score ≡ b.score)
    (Then (a.choice.alt < b.choice.alt) (a.choice.alt ≡ b.choice.alt)
    (Then (LexicographicallyLess a.choice.cuts b.choice.cuts) (a.choice.cuts ≡ b.choice.cuts)
    (LexicographicallyLess a.ranks b.ranks)))

in_turn : (goal : Goal) (a b : Entry) → EntryPrecedes goal a b → InTurn goal a b
in_turn goal a b (inl (inl better)) = inl better
in_turn goal a b (inl (inr (same, inl less))) = inr (same, inl less)
in_turn goal a b (inl (inr (same, inr (one, less)))) = inr (same, inr (one, inl less))
in_turn goal a b (inr (same, choice, less)) =
    inr (same, inr (ap (λ (c : Choice). c.alt) choice, inr (ap (λ (c : Choice). c.cuts) choice, less)))

at_once : (goal : Goal) (a b : Entry) → InTurn goal a b → EntryPrecedes goal a b
at_once goal a b (inl better) = inl (inl better)
at_once goal a b (inr (same, inl less)) = inl (inr (same, inl less))
at_once goal a b (inr (same, inr (one, inl less))) = inl (inr (same, inr (one, less)))
at_once goal a b (inr (same, inr (one, inr (cuts, less)))) =
    inr (same, (λ i. record { alt = one i; cuts = cuts i }), less)

pub entry_irreflexive : (goal : Goal) (a : Entry) → EntryPrecedes goal a a → ⊥
entry_irreflexive goal a h =
    none_then (better_irreflexive goal a.score)
    (none_then (λ (k : a.choice.alt < a.choice.alt). omega arith)
    (none_then (less_irreflexive a.choice.cuts) (less_irreflexive a.ranks))) (in_turn goal a a h)

pub entry_transitive : (goal : Goal) (a b c : Entry) → EntryPrecedes goal a b → EntryPrecedes goal b c
    → EntryPrecedes goal a c
entry_transitive goal a b c h k =
    at_once goal a c
    (joined_then (better_transitive goal a.score b.score c.score)
    (λ (less : IsBetter goal a.score b.score) (e : b.score ≡ c.score). subst (IsBetter goal a.score) e less)
    (λ (e : a.score ≡ b.score) (less : IsBetter goal b.score c.score). subst (λ x. IsBetter goal x c.score) (sym e) less)
    (λ (e : a.score ≡ b.score) (f : b.score ≡ c.score). e ∙ f)
    (joined_then
    (λ (less : a.choice.alt < b.choice.alt) (more : b.choice.alt < c.choice.alt). omega arith)
    (λ (less : a.choice.alt < b.choice.alt) (e : b.choice.alt ≡ c.choice.alt). omega arith)
    (λ (e : a.choice.alt ≡ b.choice.alt) (more : b.choice.alt < c.choice.alt). omega arith)
    (λ (e : a.choice.alt ≡ b.choice.alt) (f : b.choice.alt ≡ c.choice.alt). e ∙ f)
    (joined_then (less_transitive a.choice.cuts b.choice.cuts c.choice.cuts)
    (λ (less : LexicographicallyLess a.choice.cuts b.choice.cuts) (e : b.choice.cuts ≡ c.choice.cuts).
    subst (LexicographicallyLess a.choice.cuts) e less)
    (λ (e : a.choice.cuts ≡ b.choice.cuts) (less : LexicographicallyLess b.choice.cuts c.choice.cuts).
    subst (λ x. LexicographicallyLess x c.choice.cuts) (sym e) less)
    (λ (e : a.choice.cuts ≡ b.choice.cuts) (f : b.choice.cuts ≡ c.choice.cuts). e ∙ f)
    (less_transitive a.ranks b.ranks c.ranks))) (in_turn goal a b h) (in_turn goal b c k))
