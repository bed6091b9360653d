-- Values of blocks that lie one behind the other: where they stand, and that each stands in a place of its own.
use Rattle.std.proofs.Common.{◌≡◌, ℕ, ◌+◌, ◌-◌, ◌<◌, ◌≤◌, List, length, get_or, take, subst, inl, inr, arith}
use Rattle.std.specs.Prelude.{sum_by}
use Rattle.std.proofs.lemmas.Bool.{cases_lt}
use Rattle.std.proofs.lemmas.List.{take-take}
use Rattle.std.proofs.lemmas.List.Sums.{sum_by_more, sum_by-take-le}
use Rattle.cell_layouts.specs.declared.layout.Block.{Block}
use Rattle.cell_layouts.specs.Layout.{size_of, AreLaid}

-- the blocks before one have at most so many values as those before a later one
sums_rise : (blocks : List Block) (number later : ℕ) → number ≤ later → sum_by size_of (take number blocks) ≤ sum_by size_of (take later blocks)
sums_rise blocks number later l =
    let S : List Block → Type 0 = λ front. sum_by size_of front ≤ sum_by size_of (take later blocks) in
    subst S (take-take number later blocks l) (sum_by-take-le size_of (take later blocks) number)

module _ (blocks : List Block) (count : ℕ) (laid : AreLaid blocks count) where
  -- the values of a block end before those of a later one begin
  pub ends_before : (number later : ℕ) (d : Block) → number < later → later < length blocks → (get_or blocks number d).place + size_of (get_or blocks number d) ≤ (get_or blocks later d).place
  ends_before number later d l m =
      omega (arith, laid.placed number d (omega arith), laid.placed later d m, sum_by_more size_of blocks number d (omega arith), sums_rise blocks (number + 1) later (omega arith))

  -- the values of a block end within all of them
  pub ends_within : (number : ℕ) (d : Block) → number < length blocks → (get_or blocks number d).place + size_of (get_or blocks number d) ≤ count
  ends_within number d l =
      omega (arith, laid.placed number d l, laid.all, sum_by_more size_of blocks number d l, sum_by-take-le size_of blocks (number + 1))

  pub value_within : (number far : ℕ) (d : Block) → number < length blocks → (get_or blocks number d).first ≤ far → far < (get_or blocks number d).past → (get_or blocks number d).place + (far - (get_or blocks number d).first) < count
  value_within number far d l low high = omega (arith, ends_within number d l)

  -- values of two blocks stand in two places
  pub other_place : (number other far other_far : ℕ) (d : Block) → number < length blocks → other < length blocks → (number ≡ other → ⊥)
      → (get_or blocks number d).first ≤ far → far < (get_or blocks number d).past → (get_or blocks other d).first ≤ other_far → other_far < (get_or blocks other d).past
      → (get_or blocks number d).place + (far - (get_or blocks number d).first) ≡ (get_or blocks other d).place + (other_far - (get_or blocks other d).first) → ⊥
  other_place number other far other_far d l m apart low high low' high' same =
      elim (cases_lt number other) [
        | inl before ↦ omega (arith, ends_before number other d before m)
        | inr behind ↦
            elim (cases_lt other number) [
              | inl before ↦ omega (arith, ends_before other number d before l)
              | inr both ↦ apart (omega arith)
            ]
      ]
