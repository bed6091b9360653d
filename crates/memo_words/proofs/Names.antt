-- An exchange that names a record keeps the rule.
use Rattle.std.proofs.Common.{◌≡◌, ℕ, ◌+◌, ◌-◌, ◌<◌, ◌≢◌, ◌==◌, min, List, [], length, set, sym, ap, ◌∙◌, subst, slice_index, if◌then◌else◌, sum_by, Contains, lt_of_not-le, arith, length-set, get_or-set_other, get_or-set_same}
use mathlib.Core.Logic.{dite}
use native.Mathlib.Decide.{ℕ_discrete, dec_le}
use mathlib.Core.Option.{some}
use lib.ListN.{get_elem?}
use Rattle.std.proofs.lemmas.List.Elements.{All-contains}
use Rattle.atomic_table.specs.Table.{keeps, stepped}
use Rattle.adp_model.specs.declared.cell.Cell.{Cell}
use Rattle.adp_model.specs.declared.cell.Answer.{Answer}
use Rattle.adp_model.specs.Answers.{IsAnswer}
use Rattle.adp_model.specs.Demand.{IsDemandedChild}
use Rattle.memo_words.specs.declared.part.Part.{Part}
use Rattle.memo_words.specs.declared.view.Owned.{Owned}
use Rattle.memo_words.specs.declared.view.View.{View}
use Rattle.memo_words.specs.CodedCells.{IsCodeOf, answer_word}
use Rattle.memo_words.specs.Layout.{Plan, slots_of, records_of, counter, key, key_place, record_place, arena_place}
use Rattle.memo_words.specs.Views.{owns, dropped, stored}
use Rattle.memo_words.specs.Kept.{Kept, Fits, IsPublished, IsHeldAt, IsStored, name, arena, named, filled, share, wins_of, count_owned}
use Rattle.memo_words.proofs.Lists.{sum_set, each_set, one_within, two_within}
use Rattle.memo_words.proofs.Tallies.{tally_one, tally_at}
use Rattle.memo_words.proofs.Records.{owns_some, owns-dropped, owns-dropped_other, length-dropped, one_if, none_if}
use Rattle.memo_words.proofs.CodesApart.{code_some, one_cell}
use Rattle.memo_words.proofs.Frame.{St, owned_of, Grows, arena_behind, held_on, published_on, fits_on, stored_on, stands_on}

module _ (plan : Plan) where
  -- a record that a view owns is below the counter, named nowhere, and no other view owns it
  pub is_own : (s : St) (r : Kept plan s) (id : ℕ) (v : View) (number : ℕ) → get_elem? s.views id ≡ some v
      → 0 < owns number v.owned → number < counter s.words
  is_own s r id v number at owner = dite (dec_le (counter s.words) number) (λ le. let h = r.free number le in
      let t = one_within (owned_of number) s.views id v at in absurd (omega arith)) (λ n. lt_of_not-le n)

  pub not_named : (s : St) (r : Kept plan s) (id : ℕ) (v : View) (number : ℕ) → get_elem? s.views id ≡ some v
      → 0 < owns number v.owned → (x : ℕ) → x < slots_of plan → name plan s.words x ≢ number + 1
  not_named s r id v number at owner x lt e = let below = is_own s r id v number at owner in
      let h = r.held number below in let t = one_within (owned_of number) s.views id v at in
      let one = one_if (name plan s.words x) (number + 1) e in
      let m = tally_at (λ q. if name plan s.words q == number + 1 then 1 else 0) x (slots_of plan) lt in omega arith

  pub not_others : (s : St) (r : Kept plan s) (id : ℕ) (v : View) (number : ℕ) → get_elem? s.views id ≡ some v
      → 0 < owns number v.owned → (j : ℕ) (u : View) → get_elem? s.views j ≡ some u → j ≢ id
      → owns number u.owned ≡ 0
  not_others s r id v number at owner j u e other = let below = is_own s r id v number at owner in
      let h = r.held number below in let t = two_within (owned_of number) s.views j id u v other e at in omega arith

  pub owned_once : (s : St) (r : Kept plan s) (id : ℕ) (v : View) (number : ℕ) → get_elem? s.views id ≡ some v
      → 0 < owns number v.owned → owns number v.owned ≡ 1
  owned_once s r id v number at owner = let below = is_own s r id v number at owner in let h = r.held number below in
      let t = one_within (owned_of number) s.views id v at in omega arith

  pub name_put : (s : St) (r : Kept plan s) (id : ℕ) (v w : View) (q : ℕ) (cell : Cell) (answer : Answer) (o : Owned)
      → get_elem? s.views id ≡ some v → q < slots_of plan → name plan s.words q ≡ 0
      → IsCodeOf cell (key s.words q) → Contains v.owned o → IsAnswer plan.problem cell answer → ((part : Part)
      → stored part o ≡ answer_word part answer)
      → ((child : Cell) → IsDemandedChild plan.problem cell child → Contains v.known child)
      → share w ≡ share v → w.wins ≡ v.wins + 1 → w.owned ≡ dropped o.number v.owned
      → (Fits plan (set s.words (record_place (slots_of plan) q) (o.number + 1)) v
      → IsHeldAt plan (set s.words (record_place (slots_of plan) q) (o.number + 1)) q cell answer
      → Fits plan (set s.words (record_place (slots_of plan) q) (o.number + 1)) w)
      → Kept plan (stepped s (record_place (slots_of plan) q) (o.number + 1) id [] w keeps)
  name_put s r id v w q cell answer o at lt empty keyed_q has is_answer codes children shares wins owned fits =
      let slots : ℕ = slots_of plan in
      let number : ℕ = o.number in let ws : List ℕ = s.words in
      let us : List ℕ = set ws (record_place slots q) (number + 1) in let wide = r.wide in
      let now : name plan us q ≡ number + 1 = get_or-set_same ws (record_place slots q) (number + 1) 0 (omega arith) in
      let other : (i : ℕ) → i ≢ record_place slots q
      → slice_index us i ≡ slice_index ws i = λ i n. get_or-set_other ws (record_place slots q) i
      (number + 1) 0 n in
      let keys' : (x : ℕ) → x < slots → key us x ≡ key ws x = λ x xlt. other (key_place x) (λ e. omega arith) in
      let names : (x : ℕ) → x ≢ q → name plan us x ≡ name plan ws x = λ x n. other (record_place slots x)
      (λ e. n (omega arith)) in
      let arenas : (part : Part) (n : ℕ) → arena plan us part n ≡ arena plan ws part n = λ part n.
      let b = arena_behind slots (records_of plan) part n in
      other (arena_place slots (records_of plan) part n) (λ e. omega arith) in
      let grows : Grows plan ws us = record {
        keys = λ x xlt full. keys' x xlt;
        names = λ x xlt full. names x (λ (e : x ≡ q). let z = ap (name plan ws) e in omega arith);
        codes = λ part x xlt full. arenas part (name plan ws x - 1);
      } in
      let count : counter us ≡ counter ws = other 0 (λ e. omega arith) in
      let owner : 0 < owns number v.owned = owns_some v.owned o has in let below = is_own s r id v number at owner in
      let turn : (n : ℕ) → named plan us n + (if name plan ws q == n + 1 then 1 else 0) ≡ named plan ws n +
      (if name plan us q == n + 1 then 1 else 0) = λ n.
      tally_one (λ x. if name plan ws x == n + 1 then 1 else 0)
      (λ x. if name plan us x == n + 1 then 1 else 0) q slots lt (λ x _ d. ap
      (λ (k : ℕ). if k == n + 1 then 1 else 0) (names x d)) in
      let fill : filled plan us + min (name plan ws q) 1 ≡ filled plan ws + min (name plan us q) 1 = tally_one
      (λ x. min (name plan ws x) 1) (λ x. min (name plan us x) 1) q slots lt (λ x _ d. ap
      (λ (k : ℕ). min k 1) (names x d)) in
      let all_held : (n : ℕ) → named plan us n + sum_by (owned_of n) (set s.views id w) ≡ named plan ws n + sum_by
      (owned_of n) s.views = λ n.
      let t = sum_set (owned_of n) s.views id v w at in let e = ap (owns n) owned in let m = turn n in
      let z = none_if (name plan ws q) (n + 1) (λ k. omega arith) in
      dite (ℕ_discrete n number)
      (λ same. let y = one_if (name plan us q) (n + 1) (omega arith) in let d = owns-dropped number v.owned owner in
      let a = ap (λ k. owns k v.owned) same in let b = ap (λ k. owns k (dropped number v.owned)) same in
      omega arith)
      (λ differ. let y = none_if (name plan us q) (n + 1) (λ k. differ (omega arith)) in
      let d = owns-dropped_other number n v.owned differ in omega arith) in
      let grown : (c : Cell) → IsPublished plan ws c → IsPublished plan us c = published_on plan ws us grows in
      let old = r.each id v at in
      let stored_here = All-contains (IsStored plan ws) v.owned o old.stored has in
      let here : IsHeldAt plan us q cell answer = record {
        inside = lt;
        key_is = subst (IsCodeOf cell) (sym (keys' q lt)) keyed_q;
        named = omega arith;
        codes = λ part. let n_is : name plan us q - 1 ≡ number = omega arith in ap (arena plan us part) n_is
            ∙ (arenas part number ∙ (stored_here part ∙ codes part));
      } in
      let held_back : (x : ℕ) → x ≢ q → (c : Cell) (a : Answer) → IsHeldAt plan us x c a
      → IsHeldAt plan ws x c a = λ x d c a h. let same = names x d in let full = h.named in record {
        inside = h.inside;
        key_is = subst (IsCodeOf c) (keys' x h.inside) h.key_is;
        named = omega arith;
        codes = λ part. sym (arenas part (name plan ws x - 1))
            ∙ (ap (λ (n : ℕ). arena plan us part (n - 1)) (sym same) ∙ h.codes part);
      } in
      record {
        wide = length-set ws (record_place slots q) (number + 1) ∙ wide;
        keys = λ x xlt full. let k = keys' x xlt in stands_on plan ws us grows x xlt (omega arith) (r.keys x xlt
            (omega arith));
        apart = λ i j ilt jlt full same. let a = keys' i ilt in
            let b = keys' j jlt in r.apart i j ilt jlt (omega arith) (omega arith);
        held = λ n l. let a = all_held n in let h = r.held n (omega arith) in omega arith;
        free = λ n l. let a = all_held n in let h = r.free n (omega arith) in omega arith;
        counted = let t = sum_set count_owned s.views id v w at in let e = ap (λ (k : List Owned). length k) owned in
            let d = length-dropped number v.owned owner in let h = r.counted in omega arith;
        keyed = λ x xlt full. let k = keys' x xlt in dite (ℕ_discrete x q) (λ e. let z = ap (key ws) e in
            let c = code_some cell (key ws q) keyed_q in omega arith) (λ n. let same = names x n in
            let h = r.keyed x xlt (omega arith) in omega arith);
        answered = λ x xlt full. dite (ℕ_discrete x q)
            (λ e. (cell, answer, is_answer, subst (λ (y : ℕ). IsHeldAt plan us y cell answer) (sym e) here))
            (λ d. let same = names x d in let a = r.answered x xlt (omega arith) in
            (a.0, a.1, a.2, held_on plan ws us grows x a.0 a.1 a.3));
        room = let h = r.room in omega arith;
        past = λ part n low high. arenas part n ∙ r.past part n (omega arith) high;
        closed = λ c d h child. dite (ℕ_discrete h.0 q)
            (λ e. let c_is : c ≡ cell = one_cell c cell (key us q) (subst
            (λ (y : ℕ). IsCodeOf c (key us y)) e h.2.key_is) here.key_is in
            grown d (All-contains (IsPublished plan ws) v.known d old.known (children d (subst
            (λ (y : Cell). IsDemandedChild plan.problem y d) c_is child))))
            (λ n. grown d (r.closed c d (h.0, h.1, held_back h.0 n c h.1 h.2) child));
        shares = let t = sum_set share s.views id v w at in let e = r.shares in omega arith;
        wins = let t = sum_set wins_of s.views id v w at in let e = r.wins in omega arith;
        each = each_set (Fits plan us) s.views id w (let f = r.each id v at in
            fits (fits_on plan ws us grows v (stored_on plan ws us arenas v.owned f.stored) f) here) (λ j u e.
            let f = r.each j u e in fits_on plan ws us grows u (stored_on plan ws us arenas u.owned f.stored) f);
      }
