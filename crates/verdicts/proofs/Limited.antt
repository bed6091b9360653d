-- Words of a job keep the limits of a command, or a first one passes one: it can't be that neither is so.
use Rattle.std.proofs.Common.{ℕ, ◌+◌, ◌*◌, ◌<◌, ◌≤◌, ◌⊎◌, inl, inr, Option, None, Some, List, [], ◌∷◌, length, refl, arith}
use Rattle.adp_model.specs.declared.fault.LimitFault.{LimitFault}
use Rattle.adp_model.specs.declared.grammar.Grammar.{Grammar}
use Rattle.adp_model.specs.Bounds.{IsScoreBound, IsNodeBound}
use Rattle.adp_model.specs.Cells.{IsCellBound}
use Rattle.adp_model.specs.Checks.{IsChecked}
use Rattle.adp_model.specs.ProblemFields.{KeepsLimits, greatest_score}
use Rattle.faultless_grammars.specs.Irrefutable.{IsIrrefutable, KeepsOrPassesLimits}
use Rattle.first_trees.specs.ListLimits.{IsListLimitFault, ManyListed, ManyListedNodes, most_listed}
use Rattle.lex_product.specs.CompiledGrammar.{compiled_grammar, greatest_compiled, multiplier_of}
use Rattle.lex_product.specs.PairLimits.{AreLowNumbers, IsCheckedPair, IsPairLimitFault, KeepsPairLimits, OfFirst, OfSecond, OfNumbers, OfCompiled}
use Rattle.verdicts.specs.Command.{Command}
use Rattle.verdicts.specs.SecondAlgebra.{IsLimitWith, KeepsLimitsWith, MakesPairWith}
use Rattle.verdicts.specs.WordLimits.{IsFirstLimit, IsLimitIn, KeepLimits, KeepsLimitsIn, KeepsLimitsOfLists}
use Rattle.verdicts.proofs.Irrefutably.{and_then, it_holds}

-- what is known of bounds and limits
pub record LimitLaws : Type 0 where
  pub cells : (grammar : Grammar) (len : ℕ) → IsIrrefutable ((count : ℕ) × IsCellBound grammar len count)
  pub limits : (grammar : Grammar) (algebra : ℕ) (least : List ℕ) (greatest : List (Option ℕ)) (ranks : List ℕ)
      → IsChecked grammar algebra least greatest ranks → (len : ℕ)
      → IsIrrefutable (KeepsOrPassesLimits grammar algebra len)
  pub score : (grammar : Grammar) (algebra : ℕ) (least : List ℕ) (greatest : List (Option ℕ)) (ranks : List ℕ)
      → IsChecked grammar algebra least greatest ranks → (len : ℕ) → (number : ℕ) × IsScoreBound grammar algebra len number
  pub node : (grammar : Grammar) (algebra : ℕ) (least : List ℕ) (greatest : List (Option ℕ)) (ranks : List ℕ)
      → IsChecked grammar algebra least greatest ranks → (len : ℕ) → (number : ℕ) × IsNodeBound grammar len number
  pub second : (grammar : Grammar) (first second : ℕ) (least : List ℕ) (greatest : List (Option ℕ)) (ranks : List ℕ)
      → IsCheckedPair grammar first second least greatest ranks → IsChecked grammar second least greatest ranks
  pub compiled : (grammar : Grammar) (first second : ℕ) (least : List ℕ) (greatest : List (Option ℕ)) (ranks : List ℕ)
      → IsCheckedPair grammar first second least greatest ranks → (bound : ℕ) → AreLowNumbers grammar first second bound
      → IsChecked (compiled_grammar grammar first second (multiplier_of bound)) first least greatest ranks

at_most : (most number : ℕ) → (number ≤ most) ⊎ (most < number)
at_most most number = grind arith

module _ (laws : LimitLaws) (grammar : Grammar) (algebra : ℕ) (least : List ℕ) (greatest : List (Option ℕ))
    (ranks : List ℕ) (checked : IsChecked grammar algebra least greatest ranks) where
  -- ---- a pair

  module _ (second : ℕ) (pair : IsCheckedPair grammar algebra second least greatest ranks) (len : ℕ) where
    abbrev PairJudged : Type 0
    PairJudged =
        KeepsPairLimits grammar algebra second len
        ⊎ ((fault : LimitFault) × IsPairLimitFault grammar algebra second len fault)

    by_compiled : (bound : ℕ) → IsScoreBound grammar second len bound → AreLowNumbers grammar algebra second bound
        → KeepsLimits grammar algebra len → KeepsLimits grammar second len
        → KeepsOrPassesLimits (compiled_grammar grammar algebra second (multiplier_of bound)) algebra len → PairJudged
    by_compiled bound bounded low first kept (inl compiled) = inl (record {
      of_first = first;
      of_second = kept;
      bound = bound;
      bounded = bounded;
      numbers = low;
      of_compiled = compiled;
    })
    by_compiled bound bounded low first kept (inr (fault, is)) =
        inr (fault, OfCompiled bound first kept bounded low is)

    by_numbers : (bound : ℕ) → IsScoreBound grammar second len bound → KeepsLimits grammar algebra len
        → KeepsLimits grammar second len → IsIrrefutable PairJudged
    by_numbers bound bounded first kept =
        elim (at_most greatest_score (greatest_compiled grammar algebra second (multiplier_of bound))) [
          | inl low ↦
              and_then _ _
              (laws.limits _ algebra least greatest ranks (laws.compiled grammar algebra second least greatest ranks pair bound low) len)
              (λ case. it_holds _ (by_compiled bound bounded low first kept case))
          | inr great ↦ it_holds _ (inr (_, OfNumbers bound first kept bounded (record { great = great; is = refl })))
        ]

    by_second : KeepsLimits grammar algebra len → KeepsOrPassesLimits grammar second len → IsIrrefutable PairJudged
    by_second first (inl kept) =
        let bound = laws.score grammar second least greatest ranks (laws.second grammar algebra second least greatest ranks pair) len in
        by_numbers bound.0 bound.1 first kept
    by_second first (inr (fault, is)) = it_holds _ (inr (fault, OfSecond first is))

    by_first : KeepsOrPassesLimits grammar algebra len → IsIrrefutable PairJudged
    by_first (inl first) =
        and_then _ _
        (laws.limits grammar second least greatest ranks (laws.second grammar algebra second least greatest ranks pair) len)
        (by_second first)
    by_first (inr (fault, is)) = it_holds _ (inr (fault, OfFirst is))

    pair_judged : IsIrrefutable PairJudged
    pair_judged = and_then _ _ (laws.limits grammar algebra least greatest ranks checked len) by_first

  -- ---- the algebra, or a pair

  abbrev JudgedWith : Option (List ℕ) → ℕ → Type 0
  JudgedWith second len =
      KeepsLimitsWith second grammar algebra len ⊎ ((fault : LimitFault) × IsLimitWith second grammar algebra len fault)

  judged_with : (second : Option (List ℕ)) → MakesPairWith second grammar algebra → (len : ℕ)
      → IsIrrefutable (JudgedWith second len)
  judged_with None pair len = laws.limits grammar algebra least greatest ranks checked len
  judged_with (Some name) (second, named, adding) len =
      and_then _ _
      (pair_judged second (record { checked = checked; known = named.in_range; adding = adding }) len)
      (λ case. it_holds _ (elim case [
        | inl kept ↦ inl (second, named, kept)
        | inr fault ↦ inr (fault.0, (second, named, fault.1))
      ]))

  -- ---- lists

  abbrev ListsJudged : ℕ → ℕ → Type 0
  ListsJudged len best =
      KeepsLimitsOfLists best grammar len ⊎ ((fault : LimitFault) × IsListLimitFault grammar len best fault)

  lists_by_cells : (len best count : ℕ) → IsCellBound grammar len count → ListsJudged len best
  lists_by_cells len best count cells =
      by (at_most most_listed (count * best)) (at_most most_listed (nodes.0 * best))
    where
      nodes : (number : ℕ) × IsNodeBound grammar len number
      nodes = laws.node grammar algebra least greatest ranks checked len

      by : (count * best ≤ most_listed) ⊎ (most_listed < count * best)
          → (nodes.0 * best ≤ most_listed) ⊎ (most_listed < nodes.0 * best) → ListsJudged len best
      by (inr many) few' = inr (_, ManyListed count cells many)
      by (inl few) (inr many) = inr (_, ManyListedNodes nodes.0 (count, cells, few) nodes.1 many)
      by (inl few) (inl few') =
          inl (λ some. record { cells = (count, cells, few); nodes = (nodes.0, nodes.1, few') })

  lists_judged : (len best : ℕ) → IsIrrefutable (ListsJudged len best)
  lists_judged len best =
      and_then _ _ (laws.cells grammar len) (λ found. it_holds _ (lists_by_cells len best found.0 found.1))

  -- ---- a command

  module _ (command : Command) (pair : MakesPairWith command.second grammar algebra) where
    abbrev JudgedIn : ℕ → Type 0
    JudgedIn len =
        KeepsLimitsIn command grammar algebra len ⊎ ((fault : LimitFault) × IsLimitIn command grammar algebra len fault)

    both_judged : (len : ℕ) → JudgedWith command.second len → ListsJudged len command.best → JudgedIn len
    both_judged len (inl kept) (inl lists) = inl (kept, lists)
    both_judged len (inl kept) (inr (fault, is)) = inr (fault, inr (kept, is))
    both_judged len (inr (fault, is)) lists = inr (fault, inl is)

    judged_in : (len : ℕ) → IsIrrefutable (JudgedIn len)
    judged_in len =
        and_then _ _ (judged_with command.second pair len) (λ own.
        and_then _ _ (lists_judged len command.best) (λ lists.
        it_holds _ (both_judged len own lists)))

    abbrev pub WordsJudged : ℕ → List (List ℕ) → Type 0
    WordsJudged number words =
        KeepLimits command grammar algebra words
        ⊎ ((first : ℕ) × (fault : LimitFault) × IsFirstLimit command grammar algebra number words first fault)

    one_more : (number : ℕ) (word : List ℕ) (words : List (List ℕ)) → JudgedIn (length word)
        → WordsJudged (number + 1) words → WordsJudged number (word ∷ words)
    one_more number word words (inl kept) (inl all) = inl (kept, all)
    one_more number word words (inl kept) (inr (first, fault, is)) = inr (first, fault, inr (kept, is))
    one_more number word words (inr (fault, is)) others = inr (number, fault, inl (refl, is))

    pub words_judged : (number : ℕ) (words : List (List ℕ)) → IsIrrefutable (WordsJudged number words)
    words_judged number [] = it_holds _ (inl tt)
    words_judged number (word ∷ words) =
        and_then _ _ (judged_in (length word)) (λ here.
        and_then _ _ (words_judged (number + 1) words) (λ others.
        it_holds _ (one_more number word words here others)))
