-- The order of entries, part by part.
use Rattle.std.proofs.Common.{◌≡◌, ◌↔◌, ℤ, ℕ, List, [], ◌∷◌, inl, inr, sym, subst, arith}
use Rattle.std.proofs.lemmas.Int.{ints}
use Rattle.adp_model.specs.declared.grammar.Goal.{Goal}
use Rattle.adp_model.specs.declared.grammar.Goal.TheVariants.{Least, Greatest}
use Rattle.adp_model.specs.Scores.{IsBetter}
use Rattle.adp_model.specs.Preference.{LexicographicallyLess}
use Rattle.first_trees.specs.Entries.{Entry, EntryPrecedes}

pub none_better : (goal : Goal) (a b : ℤ) → a ≡ b → IsBetter goal a b → ⊥
none_better Least a b e better = omega (arith, ints)
none_better Greatest a b e better = omega (arith, ints)

pub none_less : (xs ys : List ℕ) → xs ≡ ys → LexicographicallyLess xs ys → ⊥
none_less xs ys e less = go xs (subst (LexicographicallyLess xs) (sym e) less)
  where
    go : (zs : List ℕ) → LexicographicallyLess zs zs → ⊥
    go [] less = less
    go (z ∷ zs) (inl less) = omega arith
    go (z ∷ zs) (inr (same, less)) = go zs less

-- with one score, alternative and cuts, the ranks decide
pub by_ranks : (goal : Goal) (first second : Entry) → first.score ≡ second.score
    → first.choice.alt ≡ second.choice.alt → first.choice.cuts ≡ second.choice.cuts
    → LexicographicallyLess first.ranks second.ranks ↔ EntryPrecedes goal first second
by_ranks goal first second score alt cuts = (to, from)
  where
    to : LexicographicallyLess first.ranks second.ranks → EntryPrecedes goal first second
    to less = inr (score, (λ i. record { alt = alt i; cuts = cuts i }), less)

    from : EntryPrecedes goal first second → LexicographicallyLess first.ranks second.ranks
    from (inl (inl better)) = absurd (none_better goal first.score second.score score better)
    from (inl (inr (same, inl less))) = absurd (omega (arith, alt, less))
    from (inl (inr (same, inr (one, less)))) = absurd (none_less first.choice.cuts second.choice.cuts cuts less)
    from (inr (same, choice, less)) = less
