-- The rule arguments of a problem's viable splits are fewer than 2 ^ 75: each has a number below it, and these rise.
use Rattle.std.proofs.Common.{◌≡◌, ℕ, zero, suc, ◌+◌, ◌-◌, ◌*◌, ◌^◌, ◌<◌, ◌≤◌, inl, inr, List, [], ◌∷◌, ◌++◌, length, get_or, IsTrue, refl, ap, subst, arith}
use Rattle.std.specs.List.{AllByRecursion, Contains, AllAdjacentBelow}
use Rattle.std.proofs.lemmas.Option.{slice_get_within}
use Rattle.std.proofs.lemmas.List.Elements.{Contains-get_or}
use Rattle.adp_model.specs.declared.grammar.Arg.{Arg}
use Rattle.adp_model.specs.declared.cell.Cell.{Cell}
use Rattle.adp_model.specs.PosedProblem.{PosedProblem}
use Rattle.adp_model.specs.Parts.{arguments_of}
use Rattle.adp_model.specs.WellFormed.{is_well_formed}
use Rattle.adp_model.specs.Preference.{LexicographicallyLess}
use Rattle.adp_model.specs.Cells.{CellPrecedes}
use Rattle.adp_model.specs.Splits.{place, placed, ends_by}
use Rattle.adp_model.specs.Demand.{IsDemanded}
use Rattle.adp_model.specs.SplitArguments.{SplitArgument, IsRuleArgument, ArgumentPrecedes, AreRuleArguments}
use Rattle.adp_model.proofs.WellFormedParts.{rules-few, alternatives-few, HasFewArguments-formed}
use Rattle.adp_model.proofs.Demanded.{demanded_counted}
use Rattle.adp_model.proofs.DemandDecided.{ends_within}

abbrev cut : List ℕ → ℕ → ℕ
cut cuts k = get_or cuts k 0

abbrev cuts_number : List ℕ → ℕ
cuts_number cuts = cut cuts 0 * 16777216 + cut cuts 1 * 4096 + cut cuts 2

abbrev cell_number : Cell → ℕ
cell_number cell = cell.rule * 16777216 + cell.from * 4096 + cell.to

abbrev number_of : SplitArgument → ℕ
number_of a =
    cell_number a.cell * 17592186044416 + a.alternative * 274877906944 + cuts_number a.cuts * 4 + a.number

record AreSmallCuts (cuts : List ℕ) : Type 0 where
  three : length cuts ≡ 3
  first : cut cuts 0 < 4096
  second : cut cuts 1 < 4096
  third : cut cuts 2 < 4096

pub record IsSmall (a : SplitArgument) : Type 0 where
  rule : a.cell.rule < 128
  from : a.cell.from < 4096
  to : a.cell.to < 4096
  alternative : a.alternative < 64
  cuts : AreSmallCuts a.cuts
  number : a.number < 4

cuts_below : (cuts : List ℕ) → AreSmallCuts cuts → cuts_number cuts < 68719476736
cuts_below cuts h = omega (arith, h.first, h.second, h.third)

cells_below : (a : SplitArgument) → IsSmall a → cell_number a.cell < 2147483648
cells_below a h = omega (arith, h.rule, h.from, h.to)

cuts_rise : (xs ys : List ℕ) → AreSmallCuts xs → AreSmallCuts ys → LexicographicallyLess xs ys
    → cuts_number xs < cuts_number ys
cuts_rise (a ∷ b ∷ c ∷ []) (x ∷ y ∷ z ∷ []) g h (inl less) = omega (arith, less, g.second, g.third)
cuts_rise (a ∷ b ∷ c ∷ []) (x ∷ y ∷ z ∷ []) g h (inr (same, inl less)) = omega (arith, same, less, g.third)
cuts_rise (a ∷ b ∷ c ∷ []) (x ∷ y ∷ z ∷ []) g h (inr (same, inr (same', inl less))) = omega (arith, same, same', less)
cuts_rise (a ∷ b ∷ c ∷ []) (x ∷ y ∷ z ∷ []) g h (inr (same, inr (same', inr (same'', none)))) = absurd none
cuts_rise [] ys g h less = absurd (omega (arith, g.three))
cuts_rise (a ∷ []) ys g h less = absurd (omega (arith, g.three))
cuts_rise (a ∷ b ∷ []) ys g h less = absurd (omega (arith, g.three))
cuts_rise (a ∷ b ∷ c ∷ d ∷ xs) ys g h less = absurd (omega (arith, g.three))
cuts_rise (a ∷ b ∷ c ∷ []) [] g h less = absurd (omega (arith, h.three))
cuts_rise (a ∷ b ∷ c ∷ []) (x ∷ []) g h less = absurd (omega (arith, h.three))
cuts_rise (a ∷ b ∷ c ∷ []) (x ∷ y ∷ []) g h less = absurd (omega (arith, h.three))
cuts_rise (a ∷ b ∷ c ∷ []) (x ∷ y ∷ z ∷ w ∷ ys) g h less = absurd (omega (arith, h.three))

cells_rise : (a b : SplitArgument) → IsSmall a → CellPrecedes a.cell b.cell → cell_number a.cell < cell_number b.cell
cells_rise a b g (inl less) = omega (arith, less, g.from, g.to)
cells_rise a b g (inr (same, inl less)) = omega (arith, same, less, g.to)
cells_rise a b g (inr (same, inr (same', less))) = omega (arith, same, same', less)

numbers_rise : (a b : SplitArgument) → IsSmall a → IsSmall b → ArgumentPrecedes a b → number_of a < number_of b
numbers_rise a b g h (inl less) =
    let cells = cells_rise a b g less in
    let cuts = cuts_below a.cuts g.cuts in
    omega (arith, cells, cuts, g.alternative, g.number)
numbers_rise a b g h (inr (same, inl less)) =
    let cells : cell_number a.cell ≡ cell_number b.cell = ap cell_number same in
    let cuts = cuts_below a.cuts g.cuts in
    omega (arith, cells, cuts, less, g.number)
numbers_rise a b g h (inr (same, inr (same', inl less))) =
    let cells : cell_number a.cell ≡ cell_number b.cell = ap cell_number same in
    let cuts = cuts_rise a.cuts b.cuts g.cuts h.cuts less in
    omega (arith, cells, same', cuts, g.number)
numbers_rise a b g h (inr (same, inr (same', inr (same'', less)))) =
    let cells : cell_number a.cell ≡ cell_number b.cell = ap cell_number same in
    let cuts : cuts_number a.cuts ≡ cuts_number b.cuts = ap cuts_number same'' in
    omega (arith, cells, same', cuts, less)

numbers_below : (a : SplitArgument) → IsSmall a → number_of a < 2 ^ 75
numbers_below a h =
    let cells = cells_below a h in
    let cuts = cuts_below a.cuts h.cuts in
    omega (arith, cells, cuts, h.alternative, h.number)

module _ (arguments : List SplitArgument) (small : (a : SplitArgument) → Contains arguments a → IsSmall a)
    (in_order : AllAdjacentBelow ArgumentPrecedes arguments (length arguments)) (d : SplitArgument) where
  small_at : (k : ℕ) → k < length arguments → IsSmall (get_or arguments k d)
  small_at k inside = small (get_or arguments k d) (Contains-get_or arguments k d inside)

  at_least : (k : ℕ) → k < length arguments → k ≤ number_of (get_or arguments k d)
  at_least zero inside = omega arith
  at_least (suc k) inside =
      let before = at_least k (omega (arith, inside)) in
      let next : k + 1 < length arguments = omega (arith, inside) in
      let rise = numbers_rise (get_or arguments k d) (get_or arguments (k + 1) d) (small_at k (omega (arith, inside)))
      (small_at (k + 1) next) (in_order k d next) in
      let same : k + 1 ≡ suc k = omega arith in
      let rises : number_of (get_or arguments k d) < number_of (get_or arguments (suc k) d) =
      subst (λ n. number_of (get_or arguments k d) < number_of (get_or arguments n d)) same rise in
      omega (arith, before, rises)

  few_by : (n : ℕ) → length arguments ≡ n → n ≤ 2 ^ 75
  few_by zero e = omega arith
  few_by (suc n) e =
      let inside : n < length arguments = omega (arith, e) in
      let most = at_least n inside in
      let below = numbers_below (get_or arguments n d) (small_at n inside) in
      omega (arith, most, below)

pub few_numbers : (arguments : List SplitArgument) → ((a : SplitArgument) → Contains arguments a → IsSmall a)
    → AllAdjacentBelow ArgumentPrecedes arguments (length arguments) → length arguments ≤ 2 ^ 75
few_numbers arguments small in_order =
    few_by arguments small in_order
    (record { cell = record { rule = 0; from = 0; to = 0 }; alternative = 0; cuts = []; number = 0 })
    (length arguments) refl

-- ---- the rule arguments of demanded cells

no_longer : (arguments : List Arg) (from : ℕ) (ends : List ℕ) → length (place arguments from ends) ≤ length arguments
no_longer [] from ends = omega arith
no_longer (argument ∷ arguments) from [] = omega arith
no_longer (argument ∷ arguments) from (end ∷ ends) = let rest = no_longer arguments end ends in omega (arith, rest)

small_cuts : (cuts : List ℕ) (to most : ℕ) → most ≤ 4000 → length cuts ≡ 3
    → AllByRecursion (λ end. end ≤ most) (cuts ++ to ∷ []) → AreSmallCuts cuts
small_cuts [] to most few three within = absurd (omega arith)
small_cuts (a ∷ []) to most few three within = absurd (omega arith)
small_cuts (a ∷ b ∷ []) to most few three within = absurd (omega arith)
small_cuts (a ∷ b ∷ c ∷ d ∷ cuts) to most few three within = absurd (omega arith)
small_cuts (a ∷ b ∷ c ∷ []) to most few three within = record {
  three = three;
  first = omega (arith, few, within.0);
  second = omega (arith, few, within.1.0);
  third = omega (arith, few, within.1.1.0);
}

is_small : (p : PosedProblem) → IsTrue (is_well_formed p.grammar) → length p.word ≤ 4000 → (a : SplitArgument)
    → IsDemanded p a.cell → IsRuleArgument p a → IsSmall a
is_small p formed letters a demanded asked =
    let counted = demanded_counted p formed a.cell demanded in
    let viable = asked.1.viable in
    let arguments = arguments_of p.grammar a.cell.rule a.alternative in
    let few_rules = rules-few p.grammar formed in
    let few_alternatives = alternatives-few p.grammar formed a.cell.rule in
    let few_arguments = HasFewArguments-formed p.grammar formed a.cell.rule a.alternative in
    let ends = ends_within p a.cell.to counted.in_word arguments (length arguments - 1) a.cell.from
    (ends_by a.cell a.cuts) refl viable.last viable.fits in
    let inside = slice_get_within (placed p a.cell a.alternative a.cuts) a.number _ asked.1.there in
    let no_more = no_longer arguments a.cell.from (ends_by a.cell a.cuts) in
    record {
      rule = omega (arith, counted.rule, few_rules);
      from = omega (arith, counted.in_order, counted.in_word, letters);
      to = omega (arith, counted.in_word, letters);
      alternative = omega (arith, viable.in_range, few_alternatives);
      cuts = small_cuts a.cuts a.cell.to (length p.word) letters viable.three ends;
      number = omega (arith, inside, no_more, few_arguments);
    }

pub few_arguments : (p : PosedProblem) → IsTrue (is_well_formed p.grammar) → length p.word ≤ 4000
    → (arguments : List SplitArgument) → AreRuleArguments p arguments → length arguments ≤ 2 ^ 75
few_arguments p formed letters arguments all =
    few_numbers arguments
    (λ a contains. let both = all.each a contains in is_small p formed letters a both.0 both.1)
    all.in_order
