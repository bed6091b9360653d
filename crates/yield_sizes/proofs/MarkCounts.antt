-- Ranks by numbers of marks.
use Rattle.std.proofs.Common.{◌≡◌, ℕ, zero, suc, ◌+◌, ◌<◌, ◌≤◌, min, inl, inr, Bool, true, false, cond, List, [], ◌∷◌, length, get_or, map, count_by, refl, sym, ◌∙◌, arith}
use Rattle.std.proofs.lemmas.Bool.{cases_Bool, false≢true}
use Rattle.std.proofs.lemmas.List.{get_or-map, length-map}
use Rattle.std.proofs.lemmas.List.Sums.{sum_by-cons, count_by-le-length}
use Rattle.adp_model.specs.declared.grammar.Grammar.{Grammar}
use Rattle.adp_model.specs.Loops.{IsEdgePath, Edge, Onward}
use Rattle.yield_sizes.specs.LoopAnswers.{IsLoopFree, AreRanks}
use Rattle.yield_sizes.specs.Relations.{IsTableOf}
use Rattle.yield_sizes.proofs.ArgumentFacts.{AllNamedKnown, edge_names, names_within}

-- marks of a row
abbrev pub marks_in : List Bool → ℕ
marks_in row = count_by (λ (mark : Bool). mark) row

one : Bool → ℕ
one mark = cond mark 1 0

marks_cons : (mark : Bool) (row : List Bool) → marks_in (mark ∷ row) ≡ cond mark 1 0 + marks_in row
marks_cons mark row = sum_by-cons (λ (it : Bool). cond it 1 0) mark row

-- marks that are all in another row, are at most as many
marks_le : (some all : List Bool) → ((k : ℕ) → get_or some k false ≡ true → get_or all k false ≡ true) → marks_in some ≤ marks_in all
marks_le [] all within = omega arith
marks_le (true ∷ some) [] within = absurd (false≢true (within 0 refl))
marks_le (false ∷ some) [] within = omega (arith, marks_cons false some, marks_le some [] (λ k mark. within (suc k) mark))
marks_le (true ∷ some) (false ∷ all) within = absurd (false≢true (within 0 refl))
marks_le (true ∷ some) (true ∷ all) within = omega (arith, marks_cons true some, marks_cons true all, marks_le some all (λ k mark. within (suc k) mark))
marks_le (false ∷ some) (true ∷ all) within = omega (arith, marks_cons false some, marks_cons true all, marks_le some all (λ k mark. within (suc k) mark))
marks_le (false ∷ some) (false ∷ all) within = omega (arith, marks_cons false some, marks_cons false all, marks_le some all (λ k mark. within (suc k) mark))

-- and fewer, where one mark is in the other row alone
marks_lt : (some all : List Bool) (at : ℕ) → ((k : ℕ) → get_or some k false ≡ true → get_or all k false ≡ true) → get_or some at false ≡ false → get_or all at false ≡ true → marks_in some < marks_in all
marks_lt some [] at within without here = absurd (false≢true here)
marks_lt [] (true ∷ all) zero within without here = omega (arith, marks_cons true all)
marks_lt [] (false ∷ all) zero within without here = absurd (false≢true here)
marks_lt [] (mark ∷ all) (suc at) within without here = omega (arith, marks_cons mark all, marks_lt [] all at (λ k it. within (suc k) it) without here)
marks_lt (true ∷ some) (mark ∷ all) zero within without here = absurd (false≢true (sym without))
marks_lt (false ∷ some) (true ∷ all) zero within without here = omega (arith, marks_cons false some, marks_cons true all, marks_le some all (λ k mark. within (suc k) mark))
marks_lt (false ∷ some) (false ∷ all) zero within without here = absurd (false≢true here)
marks_lt (true ∷ some) (false ∷ all) (suc at) within without here = absurd (false≢true (within 0 refl))
marks_lt (true ∷ some) (true ∷ all) (suc at) within without here = omega (arith, marks_cons true some, marks_cons true all, marks_lt some all at (λ k mark. within (suc k) mark) without here)
marks_lt (false ∷ some) (mark ∷ all) (suc at) within without here = omega (arith, marks_cons false some, marks_cons mark all, marks_lt some all at (λ k it. within (suc k) it) without here)

-- a row that lacks a mark has fewer marks than places
marks_few : (row : List Bool) (at : ℕ) → at < length row → get_or row at false ≡ false → marks_in row < length row
marks_few [] at l without = absurd (omega arith)
marks_few (true ∷ row) zero l without = absurd (false≢true (sym without))
marks_few (false ∷ row) zero l without = omega (arith, marks_cons false row, count_by-le-length (λ (mark : Bool). mark) row)
marks_few (true ∷ row) (suc at) l without = omega (arith, marks_cons true row, marks_few row at (omega arith) without)
marks_few (false ∷ row) (suc at) l without = omega (arith, marks_cons false row, marks_few row at (omega arith) without)

-- ---- ranks

abbrev pub rank_of : List Bool → ℕ
rank_of row = min (marks_in row) 4294967295

unmarked : (row : List Bool) (at : ℕ) → (get_or row at false ≡ true → ⊥) → get_or row at false ≡ false
unmarked row at wrong = elim (cases_Bool (get_or row at false)) [ inl mark ↦ absurd (wrong mark) | inr none ↦ none ]

pub ranks_told : (grammar : Grammar) (rows : List (List Bool)) → length grammar.rules ≤ 128 → AllNamedKnown grammar → IsLoopFree grammar → IsTableOf (length grammar.rules) (IsEdgePath grammar) rows → AreRanks grammar (map rank_of rows)
ranks_told grammar rows few named loop_free table =
    let size = length grammar.rules in
    let square = table.square in
    let read : (rule : ℕ) → rule < size → get_or (map rank_of rows) rule 0 ≡ rank_of (get_or rows rule []) = λ rule l. get_or-map rank_of rows rule [] 0 (omega (arith, square.rows_are)) in
    let below : (rule : ℕ) → rule < size → marks_in (get_or rows rule []) < size = λ rule l.
    omega (arith, square.each rule l, marks_few (get_or rows rule []) rule (omega (arith, square.each rule l)) (unmarked (get_or rows rule []) rule (λ mark. loop_free rule (table.marked rule rule mark)))) in
    record {
      each = length-map rows rank_of ∙ square.rows_are;
      fall = λ rule other edge.
          let within = names_within grammar named rule other (edge_names grammar rule other edge) in
          let less = marks_lt (get_or rows other []) (get_or rows rule []) other
          (λ k mark. table.all rule k (Onward rule other k edge (table.marked other k mark)))
          (unmarked (get_or rows other []) other (λ mark. loop_free other (table.marked other other mark)))
          (table.all rule other (Edge rule other edge)) in
          omega (arith, read rule within.0, read other within.1, below rule within.0, less);
      fit = λ rule l. omega (arith, read rule l, below rule l);
    }
