-- A word that is made has a report: it can't be that it has none.
use Rattle.std.proofs.Common.{◌≡◌, ℕ, zero, suc, ◌+◌, ◌-◌, ◌*◌, ◌/◌, ◌^◌, ◌<◌, ◌≤◌, ◌↔◌, inl, inr, IfSome, IsTrue, Option, None, Some, List, [], ◌∷◌, codes, length, take, drop, get_or, refl, sym, ap, subst, ◌∙◌, arith}
use Rattle.std.proofs.Math.Nat.{div-lt_iff_lt-mul, mod-lt}
use Rattle.std.proofs.Math.Seq.{drop-cons}
use Rattle.adp_model.specs.declared.cell.Cell.{Cell}
use Rattle.adp_model.specs.declared.grammar.Arg.TheVariants.{Literal, Letter}
use Rattle.adp_model.specs.declared.grammar.Grammar.{Grammar}
use Rattle.adp_model.specs.BigReport.{IsBigReport, letter_of, made_problem, made_word, next_state, pairs_grammar}
use Rattle.adp_model.specs.Answers.{HasNoTree}
use Rattle.adp_model.specs.Checks.{IsChecked}
use Rattle.adp_model.specs.Demand.{IsDemandedCount}
use Rattle.adp_model.specs.Derivation.{Derives}
use Rattle.adp_model.specs.GrammarFaults.{HasPossibleAlternatives, IsFaultless}
use Rattle.adp_model.specs.GrammarSigns.{HasMonotoneTerm}
use Rattle.adp_model.specs.Lengths.{ByAlternative, FirstToken, NoArguments, IsProductive}
use Rattle.adp_model.specs.Loops.{IsEdge, IsEdgePath, Edge, Onward}
use Rattle.adp_model.specs.Parts.{arguments_of, letters_of}
use Rattle.adp_model.specs.PosedProblem.{PosedProblem, axiom_cell}
use Rattle.adp_model.specs.Preference.{IsPreferred}
use Rattle.adp_model.specs.Sizes.{greatest_sum}
use Rattle.adp_model.specs.Tokens.{IsIn, letters_between, Matches}
use Rattle.adp_model.specs.Tree.{Tree, Leaf, Node, Nil, Cons, end_of}
use Rattle.adp_model.specs.WellFormed.{is_well_formed}
use Rattle.faultless_grammars.specs.Irrefutable.{HasSizesAndRanks, IsIrrefutable}
use Rattle.first_trees.specs.FirstTrees.{AreFirst}
use Rattle.verdicts.proofs.Irrefutably.{and_then, it_holds}

-- ---- the grammar has no fault

formed : IsTrue (is_well_formed pairs_grammar)
formed = refl

one_rule : (rule : ℕ) → rule < length pairs_grammar.rules → rule ≡ 0
one_rule rule inside = omega (arith, inside)

productive : IsProductive pairs_grammar 0
productive =
    (0, ByAlternative 0 0 0 0 (omega arith) (FirstToken (Literal []) 0 [] 0 refl NoArguments) tt refl)

no_edge : (rule other : ℕ) → IsEdge pairs_grammar rule other → ⊥
no_edge zero other (zero, there, inl (is, rest)) = cc
no_edge zero other (zero, there, inr (empty, rest)) = rest
no_edge zero other (suc zero, there, inl (is, rest)) = cc
no_edge zero other (suc zero, there, inr (empty, rest)) = omega (arith, empty)
no_edge zero other (suc (suc zero), there, inl (is, rest)) = cc
no_edge zero other (suc (suc zero), there, inr (empty, rest)) = omega (arith, empty)
no_edge zero other (suc (suc (suc zero)), there, inl (is, rest)) = cc
no_edge zero other (suc (suc (suc zero)), there, inr (empty, rest)) = omega (arith, empty)
no_edge zero other (suc (suc (suc (suc alternative))), there, edge) = omega (arith, there)
no_edge (suc rule) other (alternative, there, edge) = omega (arith, there)

no_path : (rule other : ℕ) → IsEdgePath pairs_grammar rule other → ⊥
no_path rule other (Edge from to edge) = no_edge from to edge
no_path rule other (Onward from between to edge path) = no_edge from between edge

monotone : (sign : ℕ) → sign < length pairs_grammar.signs → HasMonotoneTerm pairs_grammar 0 sign
monotone zero inside = tt
monotone (suc zero) inside = (omega arith, tt)
monotone (suc (suc zero)) inside = (omega arith, (omega arith, tt))
monotone (suc (suc (suc sign))) inside = absurd (omega (arith, inside))

from_zero : (size : Option ℕ) → IfSome size (λ sum. 0 ≤ sum)
from_zero None = tt
from_zero (Some sum) = omega arith

possible : HasPossibleAlternatives pairs_grammar 0
possible least greatest are zero there = (tt, from_zero (greatest_sum greatest (arguments_of pairs_grammar 0 0)))
possible least greatest are (suc zero) there = (tt, from_zero (greatest_sum greatest (arguments_of pairs_grammar 0 1)))
possible least greatest are (suc (suc zero)) there = (tt, from_zero (greatest_sum greatest (arguments_of pairs_grammar 0 2)))
possible least greatest are (suc (suc (suc zero))) there = (tt, from_zero (greatest_sum greatest (arguments_of pairs_grammar 0 3)))
possible least greatest are (suc (suc (suc (suc alternative)))) there = absurd (omega (arith, there))

faultless : IsFaultless pairs_grammar (codes "pairs") 0
faultless = record {
  named = record { in_range = omega arith; name_is = refl };
  productive = λ rule inside. subst (IsProductive pairs_grammar) (sym (one_rule rule inside)) productive;
  no_loop = λ rule inside. no_path rule rule;
  monotone = monotone;
  possible = λ rule inside. subst (HasPossibleAlternatives pairs_grammar) (sym (one_rule rule inside)) possible;
}

-- ---- the letters

abbrev IsLetter : ℕ → Type 0
IsLetter = IsIn (letters_of pairs_grammar 0)

letter_in : (n : ℕ) → n < 4 → IsLetter (get_or (codes "pqrs") n 0)
letter_in zero inside = refl
letter_in (suc zero) inside = refl
letter_in (suc (suc zero)) inside = refl
letter_in (suc (suc (suc zero))) inside = refl
letter_in (suc (suc (suc (suc n)))) inside = absurd (omega (arith, inside))

state_letter : (state : ℕ) → IsLetter (letter_of (next_state state))
state_letter state =
    let low : next_state state < 2 ^ 64 = mod-lt (state * 6364136223846793005 + 1442695040888963407) (omega arith) in
    letter_in (next_state state / 2 ^ 62) ((div-lt_iff_lt-mul (omega arith)).1 low)

letters_in : (size seed place : ℕ) → place < length (made_word seed size) → IsLetter (get_or (made_word seed size) place 0)
letters_in zero seed place inside = absurd (omega (arith, inside))
letters_in (suc size) seed zero inside = state_letter seed
letters_in (suc size) seed (suc place) inside = letters_in size (next_state seed) place (omega (arith, inside))

-- ---- a tree that skips each letter

module _ (seed size : ℕ) where
  abbrev p : PosedProblem
  p = made_problem seed size

  abbrev long : ℕ
  long = length p.word

  letter_at : (from : ℕ) → from < long → letters_between p.word from (from + 1) ≡ get_or p.word from 0 ∷ []
  letter_at from inside =
      let one : from + 1 - from ≡ 1 = omega arith in
      ap (λ n. take n (drop from p.word)) one ∙ ap (λ (l : List ℕ). take 1 l) (drop-cons p.word from 0 inside)

  abbrev TreeFrom : ℕ → Type 0
  TreeFrom from =
      (tree : Tree) × (end_of tree ≡ long) × Derives p (record { rule = 0; from = from; to = long }) tree

  skip : (from : ℕ) → from < long → TreeFrom (from + 1) → TreeFrom from
  skip from inside (tree, ends, derives) = (
    Node 0 1 from long (Cons (Leaf from (from + 1)) (Cons tree Nil)),
    refl,
    (
      refl,
      refl,
      refl,
      record { in_order = omega (arith, inside); in_word = omega arith },
      omega arith,
      (
        (
          refl,
          record { in_order = omega arith; in_word = omega (arith, inside) },
          subst (Matches p.grammar (Letter 0)) (sym (letter_at from inside)) (refl, (letters_in size seed from inside, tt)),
        ),
        (subst (λ to. Derives p (record { rule = 0; from = from + 1; to = to }) tree) (sym ends) derives, ends),
      ),
      (omega arith, tt),
    ),
  )

  end : TreeFrom long
  end = (
    Node 0 0 long long (Cons (Leaf long long) Nil),
    refl,
    (
      refl,
      refl,
      refl,
      record { in_order = omega arith; in_word = omega arith },
      omega arith,
      (
        (
          refl,
          record { in_order = omega arith; in_word = omega arith },
          (let none : long - long ≡ 0 = omega arith in ap (λ n. take n (drop long p.word)) none),
        ),
        refl,
      ),
      (omega arith, tt),
    ),
  )

  tree_from : (left from : ℕ) → from + left ≡ long → TreeFrom from
  tree_from zero from is =
      let same : long ≡ from = omega (arith, is) in
      subst TreeFrom same end
  tree_from (suc left) from is =
      skip from (omega (arith, is)) (tree_from left (from + 1) (omega (arith, is)))

  some_tree : (tree : Tree) × Derives p (axiom_cell p) tree
  some_tree =
      let found = tree_from long 0 (omega arith) in
      (found.0, found.2)

-- ---- the report

-- what is known of faultless grammars, first trees and demanded cells
pub record MadeLaws : Type 0 where
  pub checked : (grammar : Grammar) (name : List ℕ) (algebra : ℕ) → IsTrue (is_well_formed grammar)
      → IsFaultless grammar name algebra → IsIrrefutable (HasSizesAndRanks grammar algebra)
  pub listed : (p : PosedProblem) (least : List ℕ) (greatest : List (Option ℕ)) (ranks : List ℕ)
      → IsChecked p.grammar p.algebra least greatest ranks → (cell : Cell) (k : ℕ) → (trees : List Tree) × AreFirst p cell k trees
  pub first : (p : PosedProblem) (cell : Cell) (k : ℕ) (tree : Tree) (others : List Tree)
      → AreFirst p cell k (tree ∷ others) → IsPreferred p cell tree
  pub none : (p : PosedProblem) (cell : Cell) (k : ℕ) → 0 < k → HasNoTree p cell ↔ AreFirst p cell k []
  pub demanded : (p : PosedProblem) → IsTrue (is_well_formed p.grammar) → IsIrrefutable ((count : ℕ) × IsDemandedCount p count)

module _ (laws : MadeLaws) (seed size : ℕ) where
  preferred_of : (trees : List Tree) → AreFirst (p seed size) (axiom_cell (p seed size)) 1 trees
      → (tree : Tree) × IsPreferred (p seed size) (axiom_cell (p seed size)) tree
  preferred_of [] are =
      let some = some_tree seed size in
      absurd ((laws.none (p seed size) (axiom_cell (p seed size)) 1 (omega arith)).1 are some.0 some.1)
  preferred_of (tree ∷ trees) are = (tree, laws.first (p seed size) (axiom_cell (p seed size)) 1 tree trees are)

  pub made_reported : IsIrrefutable ((report : List ℕ) × IsBigReport seed size report)
  made_reported =
      and_then _ _ (laws.checked pairs_grammar (codes "pairs") 0 formed faultless) (λ found.
      and_then _ _ (laws.demanded (p seed size) formed) (λ cells.
      let trees = laws.listed (p seed size) found.0 found.1 found.2 found.3 (axiom_cell (p seed size)) 1 in
      let best = preferred_of trees.0 trees.1 in
      it_holds _ (_, (best.0, cells.0, best.1, cells.1, refl))))
