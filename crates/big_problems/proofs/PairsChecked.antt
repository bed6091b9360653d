-- What the checks find of the grammar of pairs: its one rule has all lengths, and is on no loop.
use Rattle.std.proofs.Common.{◌≡◌, ℕ, zero, suc, ◌<◌, ◌≤◌, Option, IfSome, Bool, true, false, if◌then◌else◌, List, [], ◌∷◌, None, Some, slice_index_or, codes, refl, arith, inl, inr, zero-le}
use Rattle.std.proofs.lemmas.Int.{ints}
use Rattle.adp_model.specs.declared.grammar.Arg.TheVariants.{Literal}
use Rattle.adp_model.specs.Lengths.{HasLength, ByAlternative, NoArguments, FirstToken}
use Rattle.adp_model.specs.Sizes.{IsWithinSizes, IsUpTo, AreStableSizes, AreGreatestSizes, bounded, greatest_among, greatest_sum}
use Rattle.adp_model.specs.Anchors.{IsLeftFree, Behind, IsRightFree, Before, TheAxiom}
use Rattle.adp_model.specs.Loops.{IsEdge, IsEdgePath, Edge, Onward}
use Rattle.adp_model.specs.GrammarSigns.{HasMonotoneTerm}
use Rattle.adp_model.specs.GrammarFaults.{IsFaultless, HasPossibleAlternatives}
use Rattle.adp_model.specs.Parts.{alternatives_of, arguments_of}
use Rattle.adp_model.specs.BigReport.{pairs_grammar}

-- ---- lengths

empty_length : HasLength pairs_grammar 0 0
empty_length = ByAlternative 0 0 0 0 (omega arith) (FirstToken (Literal []) 0 [] 0 refl NoArguments) tt refl

-- what the rule's sizes make of its alternatives, where it has this greatest size
abbrev grown : Option ℕ → Option ℕ
grown size = bounded (greatest_among (size ∷ []) (alternatives_of pairs_grammar 0))

size_kept : (keeps : Bool) (size other : ℕ) → Some size ≡ (if keeps then Some other else None) → size ≡ other
size_kept true size other same = cc
size_kept false size other same = absurd cc

-- with a letter more than the rule an alternative would be longer
never_bounded : (size : ℕ) → Some size ≡ grown (Some size) → ⊥
never_bounded size same =
    let longer = size_kept _ size _ same in
    omega (arith, longer)

only_unbounded : (size : Option ℕ) → size ≡ grown size → IsUpTo None size
only_unbounded None same = tt
only_unbounded (Some size) same = absurd (never_bounded size same)

no_bound : AreGreatestSizes pairs_grammar (None ∷ [])
no_bound = record {
  are = record { each = refl; stable = stable };
  least = least;
}
  where
    stable : (rule : ℕ) → rule < 1 → slice_index_or (None ∷ []) rule None ≡ bounded (greatest_among (None ∷ []) (alternatives_of pairs_grammar rule))
    stable zero below = refl
    stable (suc rule) below = absurd (omega arith)

    least : (others : List (Option ℕ)) → AreStableSizes pairs_grammar others → (rule : ℕ) → rule < 1
        → IsUpTo (slice_index_or (None ∷ []) rule None) (slice_index_or others rule None)
    least others are (suc rule) below = absurd (omega arith)
    least [] are zero below = tt
    least (size ∷ []) are zero below = only_unbounded size (are.stable 0 (omega arith))
    least (size ∷ other ∷ others) are zero below = absurd (omega (arith, are.each))

pub within_sizes : (len : ℕ) → IsWithinSizes pairs_grammar 0 len
within_sizes len =
    (0, None, (0, empty_length, λ other has. zero-le, refl), (None ∷ [], no_bound, omega arith, refl), zero-le, tt)

-- ---- anchors

pub left_free : IsLeftFree pairs_grammar 0
left_free = Behind 0 (0, 1, TheAxiom, omega arith, inl (tt, (0, omega arith, refl)))

pub right_free : IsRightFree pairs_grammar 0
right_free = Before 0 (0, 2, TheAxiom, omega arith, inr (inl (refl, inl (omega arith))))

-- ---- loops

no_edge : (rule other : ℕ) → IsEdge pairs_grammar rule other → ⊥
no_edge zero other (zero, below, inl (same, rest)) = cc
no_edge zero other (zero, below, inr (empty, rest)) = rest
no_edge zero other (suc zero, below, inl (same, rest)) = cc
no_edge zero other (suc zero, below, inr (empty, rest)) = omega (arith, empty)
no_edge zero other (suc (suc zero), below, inl (same, rest)) = cc
no_edge zero other (suc (suc zero), below, inr (empty, rest)) = omega (arith, empty)
no_edge zero other (suc (suc (suc zero)), below, inl (same, rest)) = cc
no_edge zero other (suc (suc (suc zero)), below, inr (empty, rest)) = omega (arith, empty)
no_edge zero other (suc (suc (suc (suc alternative))), below, rest) = omega (arith, below)
no_edge (suc rule) other (alternative, below, rest) = omega (arith, below)

off_loops : (rule other : ℕ) → IsEdgePath pairs_grammar rule other → ⊥
off_loops rule other (Edge _ _ edge) = no_edge rule other edge
off_loops rule other (Onward _ between _ edge path) = no_edge rule between edge

-- ---- terms

monotone : (sign : ℕ) → sign < 3 → HasMonotoneTerm pairs_grammar 0 sign
monotone zero below = tt
monotone (suc zero) below = (omega (arith, ints), tt)
monotone (suc (suc zero)) below = (omega (arith, ints), (omega (arith, ints), tt))
monotone (suc (suc (suc sign))) below = absurd (omega arith)

-- ---- sizes of alternatives

no_low : (sum : Option ℕ) → IfSome sum (λ letters. 0 ≤ letters)
no_low None = tt
no_low (Some letters) = zero-le

abbrev greatest_at : List (Option ℕ) → ℕ → Option ℕ
greatest_at sizes alternative = greatest_sum sizes (arguments_of pairs_grammar 0 alternative)

possible : (rule : ℕ) → rule < 1 → HasPossibleAlternatives pairs_grammar rule
possible zero below least greatest are zero inside = (tt, no_low (greatest_at greatest 0))
possible zero below least greatest are (suc zero) inside = (tt, no_low (greatest_at greatest 1))
possible zero below least greatest are (suc (suc zero)) inside = (tt, no_low (greatest_at greatest 2))
possible zero below least greatest are (suc (suc (suc zero))) inside = (tt, no_low (greatest_at greatest 3))
possible zero below least greatest are (suc (suc (suc (suc alternative)))) inside = absurd (omega (arith, inside))
possible (suc rule) below least greatest are alternative inside = absurd (omega (arith, below))

pub faultless : IsFaultless pairs_grammar (codes "pairs") 0
faultless = record {
  named = record { in_range = omega arith; name_is = refl };
  productive = λ rule below. productive rule below;
  no_loop = λ rule below. off_loops rule rule;
  monotone = λ sign below. monotone sign below;
  possible = λ rule below. possible rule below;
}
  where
    productive : (rule : ℕ) → rule < 1 → (len : ℕ) × HasLength pairs_grammar rule len
    productive zero below = (0, empty_length)
    productive (suc rule) below = absurd (omega arith)
