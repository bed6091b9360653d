use Rattle.std.proofs.Common.{◌≡◌, ◌⊎◌, ℕ, zero, suc, Option, Some, List, [], ◌∷◌, ◌++◌, length, slice_get, refl, ap, sym, subst, inl, inr, ◌∙◌, arith}
use Rattle.std.specs.Prelude.{IfSome}
use Rattle.std.proofs.lemmas.List.{length_push}
use Rattle.std.proofs.lemmas.Option.{get_or_from_slice_get, slice_get_within}
use Rattle.suffix_cells.specs.Targets.{LeadsTo}
use Rattle.suffix_cells.proofs.targets.targets_of.Goals as goal

pushed : {X : Type 0} (xs : List X) (x : X) (k : ℕ) (y : X) → slice_get (xs ++ x ∷ []) k ≡ Some y
    → (slice_get xs k ≡ Some y) ⊎ ((k ≡ length xs) × (x ≡ y))
pushed [] x zero y is = let same : x ≡ y = cc in inr (refl, same)
pushed [] x (suc k) y is = absurd cc
pushed (z ∷ xs) x zero y is = inl is
pushed (z ∷ xs) x (suc k) y is = elim (pushed xs x k y is) [
  | inl there ↦ inl there
  | inr (at, same) ↦ inr (ap suc at, same)
]

pub target_bits-requires-clause-rule : goal.target_bits-requires-clause-rule
target_bits-requires-clause-rule c =
    let order = c.args.visits.now.order in
    let number = c.loop-number.number in
    let rule = c.rule.result in
    c.requires.ranked.known rule
    (number, slice_get_within order number rule c.rule.ensures, get_or_from_slice_get order number rule rule c.rule.ensures)

pub loop-number-preserved : goal.loop-number-preserved
loop-number-preserved c =
    let p = c.args.lines.now in
    let order = c.args.visits.now.order in
    let old = c.loop-number.targets.items in
    let found = c.target_bits.result in
    let items = c.in_ok-push.ensures.items in
    record {
      each = ap length items ∙ length_push old found ∙ omega (arith, c.loop-number.invariant.each);
      are = λ number rule bits stands at.
          elim (pushed old found number (Some bits) (sym (ap (λ (xs : List (Option ℕ)). slice_get xs number) items) ∙ at)) [
            | inl before ↦ c.loop-number.invariant.are number rule bits stands before
            | inr (here, is) ↦
                let place : number ≡ c.loop-number.number = here ∙ c.loop-number.invariant.each in
                let both : Some rule ≡ Some c.rule.result = sym stands ∙ ap (slice_get order) place ∙ c.rule.ensures in
                let same : c.rule.result ≡ rule = cc in
                subst (λ r. LeadsTo p order r bits) same
                (subst (λ it. IfSome it (LeadsTo p order c.rule.result)) is c.target_bits.ensures)
          ];
    }
