-- Bellman's principle of checked grammars and words of at most 4,000 letters.
use Rattle.std.proofs.Common.{◌≡◌, ℕ, ◌+◌, ◌*◌, ◌-◌, ◌<◌, ◌≤◌, ◌⊎◌, inl, inr, Option, List, [], ◌∷◌, length, slice_index, sym, subst, arith}
use Rattle.std.proofs.lemmas.Nat.{mul-add-lt}
use Rattle.std.proofs.Math.Nat.{mul_comm}
use Rattle.std.specs.List.{AllByRecursion}
use Rattle.adp_model.specs.declared.grammar.Arg.{Arg}
use Rattle.adp_model.specs.declared.grammar.Arg.TheVariants.{Rule, Literal, Letter, Run}
use Rattle.adp_model.specs.declared.cell.Cell.{Cell}
use Rattle.adp_model.specs.PosedProblem.{PosedProblem}
use Rattle.adp_model.specs.Parts.{algebra_of, alternative_at, arguments_of, sign_at, term_of}
use Rattle.adp_model.specs.GrammarSigns.{CanHave}
use Rattle.adp_model.specs.Splits.{Placed, AtRule, placed, FitsSpan}
use Rattle.adp_model.specs.Demand.{IsBelow}
use Rattle.adp_model.specs.Checks.{IsChecked}
use Rattle.adp_model.specs.ProblemFields.{IsAdmissible}
use Rattle.adp_model.specs.Bellman.{Bellman}
use Rattle.adp_model.proofs.WellFormedParts.{IsSigned, IsSigned-at, HasFewArguments-formed, some_arguments-formed}
use Rattle.adp_model.proofs.KnownRules.{rule_known-within}
use Rattle.adp_model.proofs.Sized.{within_or_not, within_from_derived}
use Rattle.adp_model.proofs.Falling.{below_split}
use Rattle.adp_model.proofs.Monotone.{orderly-derived}
use Rattle.adp_model.proofs.NotNegative.{score_can, token_can}
use Rattle.adp_model.proofs.Premises.{IsSolvable}
use Rattle.adp_model.proofs.Principle.{Bellman-solvable}

-- length first, then rank
abbrev pub measure : ℕ → List ℕ → Cell → ℕ
measure most ranks cell = (cell.to - cell.from) * most + slice_index ranks cell.rule

pub shorter : (most a b r s : ℕ) → a < b → r < most → a * most + r < b * most + s
shorter most a b r s h k =
    let m : a * most + r < most * b = mul-add-lt a most r b h k in
    omega (arith, mul_comm most b)

pub measure_falls : (most : ℕ) (ranks : List ℕ) (child cell : Cell) → slice_index ranks child.rule < most → IsBelow ranks child cell → measure most ranks child < measure most ranks cell
measure_falls most ranks child cell fits below = go below.lesser
  where
    go : (child.to - child.from < cell.to - cell.from) ⊎ ((child.from ≡ cell.from) × (child.to ≡ cell.to) × (slice_index ranks child.rule < slice_index ranks cell.rule)) → measure most ranks child < measure most ranks cell
    go (inl less) = shorter most (child.to - child.from) (cell.to - cell.from) (slice_index ranks child.rule) (slice_index ranks cell.rule) less fits
    go (inr same) =
        let k : slice_index ranks child.rule < slice_index ranks cell.rule = same.2 in
        subst (λ x. (child.to - x) * most + slice_index ranks child.rule < measure most ranks cell) (sym same.0)
        (subst (λ x. (x - cell.from) * most + slice_index ranks child.rule < measure most ranks cell) (sym same.1) (omega arith))

module _ (p : PosedProblem) (least : List ℕ) (greatest : List (Option ℕ)) (ranks : List ℕ) (checked : IsChecked p.grammar p.algebra least greatest ranks) where
  falls_at : (cell : Cell) (argument : Arg) (from to : ℕ) → FitsSpan p (record { argument = argument; from = from; to = to }) → AtRule (λ child. IsBelow ranks child cell) (record { argument = argument; from = from; to = to }) → AtRule (λ child. measure (length p.grammar.rules) ranks child < measure (length p.grammar.rules) ranks cell) (record { argument = argument; from = from; to = to })
  falls_at cell (Rule rule) from to fits below =
      measure_falls (length p.grammar.rules) ranks (record { rule = rule; from = from; to = to }) cell (checked.ranks_fit rule (rule_known-within p.grammar rule (to - from) fits.1)) below
  falls_at cell (Literal text) from to fits below = tt
  falls_at cell (Letter class) from to fits below = tt
  falls_at cell (Run class low high) from to fits below = tt

  falls_along : (cell : Cell) (laid : List Placed) → AllByRecursion (FitsSpan p) laid → AllByRecursion (AtRule (λ child. IsBelow ranks child cell)) laid → AllByRecursion (AtRule (λ child. measure (length p.grammar.rules) ranks child < measure (length p.grammar.rules) ranks cell)) laid
  falls_along cell [] fits below = tt
  falls_along cell (placed ∷ laid) fits below = (falls_at cell placed.argument placed.from placed.to fits.0 below.0, falls_along cell laid fits.1 below.1)

  pub IsSolvable-checked : length p.word ≤ 4000 → IsSolvable p (measure (length p.grammar.rules) ranks)
  IsSolvable-checked short = record {
    few = HasFewArguments-formed p.grammar checked.well_formed;
    some = some_arguments-formed p.grammar checked.well_formed;
    orderly = λ rule alternative from to ts us in_range h k good.
        let signed : IsSigned p.grammar (alternative_at p.grammar rule alternative) = IsSigned-at p.grammar checked.well_formed rule alternative in_range in
        orderly-derived p (CanHave p.grammar p.algebra) (score_can p checked.well_formed checked.algebra_known) (token_can p) (term_of p rule alternative) (sign_at p.grammar (alternative_at p.grammar rule alternative).sign).kinds (arguments_of p.grammar rule alternative)
        (checked.orderly (alternative_at p.grammar rule alternative).sign signed.known) (record { count = signed.count; fit = signed.fit }) (algebra_of p).goal from to ts us h k good;
    sound = within_from_derived p least greatest ranks checked;
    decided = within_or_not p.grammar p.algebra least greatest ranks checked;
    falls = λ cell alternative cuts span viable. falls_along cell (placed p cell alternative cuts) viable.fits (below_split p least greatest ranks checked cell alternative cuts viable);
  }

  pub Bellman-checked : length p.word ≤ 4000 → Bellman p
  Bellman-checked short = Bellman-solvable p (measure (length p.grammar.rules) ranks) (IsSolvable-checked short)

pub Bellman-admissible : (p : PosedProblem) → IsAdmissible p → Bellman p
Bellman-admissible p h = Bellman-checked p h.least h.greatest h.ranks h.checked h.limits.letters
