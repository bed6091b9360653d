-- In a checked grammar it is decided which lengths are in an argument's range, and the rule arguments of a way are
-- shorter than the rule, or as long and of lesser rank.
use Rattle.std.proofs.Common.{◌≡◌, ℕ, suc, ◌+◌, ◌*◌, ◌<◌, ◌≤◌, Option, List, [], ◌∷◌, length, sum, slice_index, ◌⊎◌, inl, inr, refl, subst, sym, arith}
use Rattle.std.specs.List.{AllByRecursion}
use Rattle.std.proofs.lemmas.List.{get_or_past}
use Rattle.adp_model.specs.declared.grammar.Arg.{Arg}
use Rattle.adp_model.specs.declared.grammar.Arg.TheVariants.{Rule, Literal, Letter, Run}
use Rattle.adp_model.specs.declared.grammar.Grammar.{Grammar}
use Rattle.adp_model.specs.Parts.{arguments_of}
use Rattle.adp_model.specs.Lengths.{AdmitsLength, HasLength}
use Rattle.adp_model.specs.Loops.{CanBeEmpty, AreEmptyBut, IsEdge}
use Rattle.adp_model.specs.Checks.{IsChecked}
use Rattle.adp_model.specs.Bounds.{IsInRange, AreInRange, IsWay}
use Rattle.adp_model.proofs.Decisions.{both, same_number, at_most, within_high}
use Rattle.adp_model.proofs.Sized.{within_or_not}
use Rattle.adp_model.proofs.Ways.{AreRangesDecided, sum-first}

-- each rule argument has a lesser measure at its length
abbrev pub AreLesser : (ℕ → ℕ → ℕ) → ℕ → List Arg → List ℕ → Type 0
AreLesser measure limit [] lengths = Unit {0}
AreLesser measure limit (argument ∷ arguments) [] = Unit {0}
AreLesser measure limit (Rule rule ∷ arguments) (len ∷ lengths) = (measure rule len < limit) × AreLesser measure limit arguments lengths
AreLesser measure limit (token ∷ arguments) (len ∷ lengths) = AreLesser measure limit arguments lengths

module _ (grammar : Grammar) (algebra : ℕ) (least : List ℕ) (greatest : List (Option ℕ)) (ranks : List ℕ) (checked : IsChecked grammar algebra least greatest ranks) where
  pub ranges_decided : AreRangesDecided grammar
  ranges_decided (Rule rule) len = within_or_not grammar algebra least greatest ranks checked rule len
  ranges_decided (Literal text) len = same_number len (length text)
  ranges_decided (Letter class) len = same_number len 1
  ranges_decided (Run class low high) len = both (at_most low len) (within_high high len)

  -- a rule's length, then its rank
  pub measure_of : ℕ → ℕ → ℕ
  measure_of rule len = len * (length grammar.rules + 1) + slice_index ranks rule

  rank_fits : (rule : ℕ) → slice_index ranks rule ≤ length grammar.rules
  rank_fits rule = by (at_most (suc rule) (length grammar.rules))
    where
      by : (suc rule ≤ length grammar.rules) ⊎ ((suc rule ≤ length grammar.rules) → ⊥) → slice_index ranks rule ≤ length grammar.rules
      by (inl below) = omega (arith, checked.ranks_fit rule below)
      by (inr past) =
          let each = checked.ranks_each in
          let far : length ranks ≤ rule = grind arith in
          omega (arith, get_or_past ranks rule 0 far)

  shorter : (rule other len len' : ℕ) → len' < len → measure_of other len' < measure_of rule len
  unfolding measure_of
  shorter rule other len len' less =
      let fits = rank_fits other in
      let more : (len' + 1) * (length grammar.rules + 1) ≤ len * (length grammar.rules + 1) = grind arith in
      omega arith

  lower : (rule other len len' : ℕ) → len' ≡ len → slice_index ranks other < slice_index ranks rule → measure_of other len' < measure_of rule len
  unfolding measure_of
  lower rule other len len' same less = subst (λ l. l * (length grammar.rules + 1) + slice_index ranks other < len * (length grammar.rules + 1) + slice_index ranks rule) (sym same) (omega arith)

  -- an argument of length 0 can be empty
  can_be_empty : (argument : Arg) (len : ℕ) → len ≡ 0 → IsInRange grammar argument len → CanBeEmpty grammar argument
  can_be_empty (Rule rule) len none fits =
      let low = fits.4 in
      let told = fits.2.3 in
      let empty : fits.2.0 ≡ 0 = omega arith in
      subst (HasLength grammar rule) empty fits.2.1
  can_be_empty (Literal text) len none fits = subst (AdmitsLength (Literal text)) none fits
  can_be_empty (Letter class) len none fits = subst (AdmitsLength (Letter class)) none fits
  can_be_empty (Run class low high) len none fits = subst (AdmitsLength (Run class low high)) none fits

  all_can_be_empty : (arguments : List Arg) (lengths : List ℕ) → AreInRange grammar arguments lengths → sum lengths ≡ 0 → AllByRecursion (CanBeEmpty grammar) arguments
  all_can_be_empty [] lengths fit none = tt
  all_can_be_empty (argument ∷ arguments) [] fit none = absurd fit
  all_can_be_empty (argument ∷ arguments) (len ∷ lengths) fit none =
      let total = sum-first len lengths in
      (can_be_empty argument len (omega arith) fit.0, all_can_be_empty arguments lengths fit.1 (omega arith))

  -- the rule arguments of lengths that add up to the rule's length are lesser
  lesser_arguments : (rule len : ℕ) (arguments : List Arg) (lengths : List ℕ) (before : ℕ) → (before ≡ 0 → (other : ℕ) → AreEmptyBut grammar other arguments → IsEdge grammar rule other) → AreInRange grammar arguments lengths → before + sum lengths ≡ len → AreLesser measure_of (measure_of rule len) arguments lengths
  lesser_arguments rule len [] lengths before edge fit total = tt
  lesser_arguments rule len (argument ∷ arguments) [] before edge fit total = absurd fit
  lesser_arguments rule len (Rule other ∷ arguments) (first ∷ lengths) before edge fit total = (
    by (at_most (suc first) len),
    lesser_arguments rule len arguments lengths (before + first)
        (λ none third others. edge (omega (arith, none)) third (inr (can_be_empty (Rule other) first (omega (arith, none)) fit.0, others))) fit.1 (omega (arith, sum-first first lengths)),
  )
    where
      by : (suc first ≤ len) ⊎ ((suc first ≤ len) → ⊥) → measure_of other first < measure_of rule len
      by (inl less) = shorter rule other len first less
      by (inr no_less) =
          let all = sum-first first lengths in
          let whole : len ≤ first = (let wrong = no_less in grind arith) in
          let same : first ≡ len = omega arith in
          lower rule other len first same (checked.ranks_fall rule other (edge (omega arith) other (inl (refl, all_can_be_empty arguments lengths fit.1 (omega arith)))))
  lesser_arguments rule len (Literal text ∷ arguments) (first ∷ lengths) before edge fit total =
      lesser_arguments rule len arguments lengths (before + first)
      (λ none third others. edge (omega (arith, none)) third (inr (can_be_empty (Literal text) first (omega (arith, none)) fit.0, others))) fit.1 (omega (arith, sum-first first lengths))
  lesser_arguments rule len (Letter class ∷ arguments) (first ∷ lengths) before edge fit total =
      lesser_arguments rule len arguments lengths (before + first)
      (λ none third others. edge (omega (arith, none)) third (inr (can_be_empty (Letter class) first (omega (arith, none)) fit.0, others))) fit.1 (omega (arith, sum-first first lengths))
  lesser_arguments rule len (Run class low high ∷ arguments) (first ∷ lengths) before edge fit total =
      lesser_arguments rule len arguments lengths (before + first)
      (λ none third others. edge (omega (arith, none)) third (inr (can_be_empty (Run class low high) first (omega (arith, none)) fit.0, others))) fit.1 (omega (arith, sum-first first lengths))

  pub lesser_way : (rule len alternative : ℕ) (lengths : List ℕ) → IsWay grammar rule len alternative lengths → AreLesser measure_of (measure_of rule len) (arguments_of grammar rule alternative) lengths
  lesser_way rule len alternative lengths way =
      lesser_arguments rule len (arguments_of grammar rule alternative) lengths 0 (λ none other others. (alternative, way.in_range, others)) way.fit (omega (arith, way.sum_is))
