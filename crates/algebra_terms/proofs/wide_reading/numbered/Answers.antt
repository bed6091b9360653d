use Rattle.std.proofs.Common.{◌≡◌, ℕ, ◌+◌, ◌≤◌, not, nat_eq, Option, is_some, List, [], ◌∷◌, ◌++◌, length, take, refl, sym, ◌∙◌, ap, arith, length-take}
use Rattle.std.specs.Ordering.{nat_cmp}
use Rattle.std.specs.Cmp.Lexicographic.{slice_cmp}
use Rattle.std.specs.BTreeMap.{get_by}
use Rattle.std.proofs.lemmas.List.{take_more}
use Rattle.std.proofs.lemmas.Map.Text.{btree_map_updates_str}
use Rattle.std.proofs.Math.Nat.{min-eq_left}
use lib.Pointwise.{pointwise}
use Rattle.algebra_terms.proofs.Firsts.{some_copied, firsts_more, firsts_kept}
use Rattle.algebra_terms.proofs.wide_reading.numbered.Goals as goal
use Rattle.algebra_terms.proofs.wide_reading.numbered.Goals.{then-is_none+in_ok-small+in_ok-insert, else-is_none}

so_far : (xs : List (List ℕ)) (i : ℕ) → i ≤ length xs → i ≡ length (take i xs)
so_far xs i few = sym (length-take i xs ∙ min-eq_left few)

pub loop-i-preserved : goal.loop-i-preserved
loop-i-preserved c =
    let i = c.loop-i.i in
    let variables = c.args.vars.now in
    let front = take i variables in
    let key = c.bytes-name.result.now in
    let more : take (i + 1) variables ≡ front ++ key ∷ [] =
    take_more variables i c.index-vars-i.result c.loop-i-test.true ∙ ap (λ (last : List ℕ). front ++ last ∷ []) (sym c.index-vars-i.is ∙ sym c.bytes-name.ensures.bytes) in
    let old : List ℕ → Option ℕ = λ name. get_by (λ key. slice_cmp nat_cmp name key.now) c.loop-i.numbers in
    let has : is_some (old key) ≡ not c.is_none.result = ap is_some (sym c.get.ensures.value) ∙ sym (some_copied c.get.result) ∙ c.is_none.ensures in
    elim c.if-is_none.branch [
      | then-is_none+in_ok-small+in_ok-insert w ↦ λ name.
          rw (w.numbers-is, more)
          (firsts_more (λ (one : List ℕ) (other : List ℕ). pointwise nat_eq one other) old front key c.loop-i.invariant key
          (λ name. get_by (λ key. slice_cmp nat_cmp name key.now) w.insert.new.self) _ (λ name. refl) (has ∙ ap not w.if-is_none.true)
          (w.in_ok-small.ensures ∙ so_far variables i (omega arith))
          (btree_map_updates_str key c.loop-i.numbers w.insert.new.self _ w.in_ok-insert.ensures.updates) name)
      | else-is_none w ↦ λ name.
          rw (w.numbers-is, more)
          (firsts_kept (λ (one : List ℕ) (other : List ℕ). pointwise nat_eq one other) old front key c.loop-i.invariant key (λ name. refl) (has ∙ ap not w.if-is_none.false) name)
    ]
