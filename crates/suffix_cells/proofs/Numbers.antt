-- The numbers of rules in an order of all of them.
use Rattle.std.proofs.Common.{◌≡◌, ℕ, ◌+◌, ◌<◌, ◌≤◌, List, length, set, Some, slice_get, sym, ap, inl, inr, ◌∙◌, arith}
use Rattle.std.specs.Prelude.{slice_index}
use Rattle.std.proofs.lemmas.Bool.{cases_eq}
use Rattle.std.proofs.lemmas.List.{get_or_read, get_or-set_same, get_or-set_other, length-set}
use Rattle.std.proofs.lemmas.List.Elements.{Contains-get_or}
use Rattle.std.proofs.lemmas.Option.{get_or_from_slice_get, slice_get-get_or, slice_get_within}
use Rattle.adp_model.specs.PosedProblem.{PosedProblem}
use Rattle.suffix_cells.specs.Ranks.{AreRanked}
use Rattle.suffix_cells.specs.Visits.{AreNumbers}

-- the first so many rules of the order have their numbers
pub record AreNumbered (order numbers : List ℕ) (count : ℕ) : Type 0 where
  pub each : length numbers ≡ length order
  pub are : (number : ℕ) → number < count → slice_index numbers (slice_index order number) ≡ number

module _ (p : PosedProblem) (order : List ℕ) (ranked : AreRanked p order) where
  pub rule_known : (number : ℕ) → number < length order → slice_index order number < length p.grammar.rules
  rule_known number within = ranked.known (slice_index order number) (Contains-get_or order number 0 within)

  -- one rule more
  pub one_more_number : (numbers : List ℕ) (count : ℕ) → count < length order → AreNumbered order numbers count
      → AreNumbered order (set numbers (slice_index order count) count) (count + 1)
  one_more_number numbers count within so_far = record {
    each = length-set numbers (slice_index order count) count ∙ so_far.each;
    are = λ number low. elim (cases_eq number count) [
      | inl same ↦
          ap (λ n. slice_index (set numbers (slice_index order count) count) (slice_index order n)) same
          ∙ get_or-set_same numbers (slice_index order count) count 0 (omega (arith, rule_known count within, so_far.each, ranked.each)) ∙ sym same
      | inr other ↦
          get_or-set_other numbers (slice_index order count) (slice_index order number) count 0
          (λ same. other (ranked.once number count (omega (arith, low, within)) within same)) ∙ so_far.are number (omega (arith, low, other))
    ];
  }

  pub all_numbered : (numbers : List ℕ) → length p.grammar.rules ≤ 128 → AreNumbered order numbers (length order)
      → AreNumbers (length p.grammar.rules) order numbers
  all_numbered numbers few all = record {
    few = omega (arith, few, ranked.each);
    each = all.each ∙ ranked.each;
    known = λ number rule stands.
        let read = get_or_from_slice_get order number rule 0 stands in
        let known = rule_known number (slice_get_within order number rule stands) in
        omega (arith, read, known);
    there = λ rule known.
        let stands = ranked.all rule known in
        let read : rule ≡ slice_index order stands.0 = get_or_read order stands.0 rule stands.1 (sym stands.2) 0 in
        let number : slice_index numbers rule ≡ stands.0 = ap (slice_index numbers) read ∙ all.are stands.0 stands.1 in
        ap (slice_get order) number ∙ slice_get-get_or order stands.0 0 stands.1 ∙ ap (λ it. Some it) (sym read);
    inverse = λ number rule stands.
        let read = get_or_from_slice_get order number rule 0 stands in
        ap (slice_index numbers) (sym read) ∙ all.are number (slice_get_within order number rule stands);
  }
