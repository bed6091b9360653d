-- An exchange that puts a key keeps the rule.
use Rattle.std.proofs.Common.{◌≡◌, ℕ, ◌+◌, ◌-◌, ◌<◌, ◌≢◌, ◌==◌, min, List, [], length, set, sym, ap, ◌∙◌, subst, slice_index, if◌then◌else◌, arith, length-set, get_or-set_other, get_or-set_same}
use mathlib.Core.Logic.{dite}
use native.Mathlib.Decide.{ℕ_discrete, dec_le}
use mathlib.Core.Option.{some}
use lib.ListN.{get_elem?}
use Rattle.atomic_table.specs.Table.{keeps, stepped}
use Rattle.adp_model.specs.declared.cell.Cell.{Cell}
use Rattle.adp_model.specs.declared.cell.Answer.{Answer}
use Rattle.adp_model.specs.Demand.{IsDemanded}
use Rattle.memo_words.specs.declared.part.Part.{Part}
use Rattle.memo_words.specs.declared.view.Owned.{Owned}
use Rattle.memo_words.specs.declared.view.View.{View}
use Rattle.memo_words.specs.CodedCells.{IsCodeOf}
use Rattle.memo_words.specs.Layout.{Plan, slots_of, records_of, probed, counter, key, key_place, record_place, arena_place}
use Rattle.memo_words.specs.Views.{owns}
use Rattle.memo_words.specs.Kept.{Kept, Fits, StandsAt, IsHeldAt, name, arena, named, filled, share, wins_of, count_owned}
use Rattle.memo_words.proofs.Lists.{sum_set, each_set}
use Rattle.memo_words.proofs.Tallies.{tally_same}
use Rattle.memo_words.proofs.CodesApart.{code_some}
use Rattle.memo_words.proofs.Frame.{St, owned_of, Grows, arena_behind, held_on, published_on, fits_on, stored_on, stands_on}

module _ (plan : Plan) where
  -- no key is a code whose probe found only others before a free position
  pub none_has : (s : St) (r : Kept plan s) (q code turn : ℕ) → q < slots_of plan → key s.words q ≡ 0
      → probed plan code turn ≡ q → 0 < code
      → ((j : ℕ) → j < turn → key s.words (probed plan code j) ≢ code) → (x : ℕ) → x < slots_of plan
      → key s.words x ≢ code
  none_has s r q code turn lt empty here full_code others x xlt e =
      let st = r.keys x xlt (omega arith) in
      let at_x : probed plan code st.turn ≡ x = subst (λ (k : ℕ). probed plan k st.turn ≡ x) e st.here in
      dite (ℕ_discrete st.turn turn)
      (λ same. let is : x ≡ q = sym at_x ∙ (ap (probed plan code) same ∙ here) in
      let z = ap (key s.words) is in omega arith)
      (λ differ. dite (dec_le turn st.turn)
      (λ later. let full : 0 < key s.words (probed plan code turn) = subst
      (λ (k : ℕ). 0 < key s.words (probed plan k turn)) e (st.before turn (omega arith)) in
      let z = ap (key s.words) here in omega arith)
      (λ sooner. let n = others st.turn (omega arith) in n (ap (key s.words) at_x ∙ e)))

  pub keys_put : (s : St) (r : Kept plan s) (id : ℕ) (v w : View) (q code turn : ℕ) (cell : Cell)
      → get_elem? s.views id ≡ some v → q < slots_of plan → key s.words q ≡ 0
      → IsCodeOf cell code → IsDemanded plan.problem cell → probed plan code turn ≡ q
      → ((j : ℕ) → j < turn → (0 < key s.words (probed plan code j)) × (key s.words (probed plan code j) ≢ code))
      → share w ≡ share v → w.wins ≡ v.wins → w.owned ≡ v.owned → (Fits plan (set s.words (key_place q) code) v
      → Fits plan (set s.words (key_place q) code) w)
      → Kept plan (stepped s (key_place q) code id [] w keeps)
  keys_put s r id v w q code turn cell at lt empty is demanded here others shares wins owned fits =
      let slots : ℕ = slots_of plan in
      let ws : List ℕ = s.words in let us : List ℕ = set ws (key_place q) code in let wide = r.wide in
      let full_code = code_some cell code is in
      let now : key us q ≡ code = get_or-set_same ws (key_place q) code 0 (omega arith) in
      let other : (i : ℕ) → i ≢ key_place q → slice_index us i ≡ slice_index ws i = λ i n. get_or-set_other ws
      (key_place q) i code 0 n in
      let names : (x : ℕ) → name plan us x ≡ name plan ws x = λ x. other (record_place slots x) (λ e. omega arith) in
      let keys' : (x : ℕ) → x ≢ q → key us x ≡ key ws x = λ x n. other (key_place x) (λ e. n (omega arith)) in
      let arenas : (part : Part) (n : ℕ) → arena plan us part n ≡ arena plan ws part n = λ part n.
      let b = arena_behind slots (records_of plan) part n in
      other (arena_place slots (records_of plan) part n) (λ e. omega arith) in
      let grows : Grows plan ws us = record {
        keys = λ x xlt full. keys' x (λ (e : x ≡ q). let z = ap (key ws) e in omega arith);
        names = λ x xlt full. names x;
        codes = λ part x xlt full. arenas part (name plan ws x - 1);
      } in
      let count : counter us ≡ counter ws = other 0 (λ e. omega arith) in
      let fresh = none_has s r q code turn lt empty here full_code (λ j l. (others j l).1) in
      let nameds : (n : ℕ) → named plan us n ≡ named plan ws n = λ n. tally_same
      (λ x. if name plan ws x == n + 1 then 1 else 0) (λ x. if name plan us x == n + 1 then 1 else 0) slots
      (λ x _. ap (λ (k : ℕ). if k == n + 1 then 1 else 0) (names x)) in
      let fill : filled plan us ≡ filled plan ws = tally_same (λ x. min (name plan ws x) 1)
      (λ x. min (name plan us x) 1) slots (λ x _. ap (λ (k : ℕ). min k 1) (names x)) in
      let back : (x : ℕ) → x < slots → 0 < name plan us x
      → (0 < name plan ws x) × (0 < key ws x) × (key us x ≡ key ws x) = λ x xlt full.
      let same = names x in let had : 0 < name plan ws x = omega arith in
      let k = r.keyed x xlt had in (had, k, keys' x (λ (e : x ≡ q). let z = ap (key ws) e in omega arith)) in
      let held_back : (x : ℕ) (c : Cell) (a : Answer) → IsHeldAt plan us x c a → IsHeldAt plan ws x c a = λ x c a h.
      let b = back x h.inside h.named in record {
        inside = h.inside;
        key_is = subst (IsCodeOf c) b.2 h.key_is;
        named = b.0;
        codes = λ part. sym (arenas part (name plan ws x - 1))
            ∙ (ap (λ (n : ℕ). arena plan us part (n - 1)) (sym (names x)) ∙ h.codes part);
      } in
      record {
        wide = length-set ws (key_place q) code ∙ wide;
        keys = λ x xlt full. dite (ℕ_discrete x q)
            (λ e. subst (StandsAt plan us) (sym e) record {
              cell = cell;
              code = subst (IsCodeOf cell) (sym now) is;
              demanded = demanded;
              turn = turn;
              here = subst (λ (k : ℕ). probed plan k turn ≡ q) (sym now) here;
              before = λ j l. subst (λ (k : ℕ). 0 < key us (probed plan k j)) (sym now)
                  (let x' : ℕ = probed plan code j in let old : 0 < key ws x' = (others j l).0 in
                  let same = keys' x' (λ (e' : x' ≡ q). let z = ap (key ws) e' in omega arith) in omega arith);
            })
            (λ n. let same = keys' x n in let had : 0 < key ws x = omega arith in
            stands_on plan ws us grows x xlt had (r.keys x xlt had));
        apart = λ i j ilt jlt full same. dite (ℕ_discrete i q)
            (λ (ei : i ≡ q). dite (ℕ_discrete j q) (λ ej. ei ∙ sym ej) (λ nj. let a = keys' j nj in
            let b = ap (key us) ei in absurd (fresh j jlt (omega arith))))
            (λ ni. dite (ℕ_discrete j q) (λ (ej : j ≡ q). let a = keys' i ni in
            let b = ap (key us) ej in absurd (fresh i ilt (omega arith)))
            (λ nj. let a = keys' i ni in let b = keys' j nj in r.apart i j ilt jlt (omega arith) (omega arith)));
        held = λ n l. let t = sum_set (owned_of n) s.views id v w at in let e = ap (owns n) owned in
            let h = r.held n (omega arith) in let m = nameds n in omega arith;
        free = λ n l. let t = sum_set (owned_of n) s.views id v w at in let e = ap (owns n) owned in
            let h = r.free n (omega arith) in let m = nameds n in omega arith;
        counted = let t = sum_set count_owned s.views id v w at in let e = ap (λ (o : List Owned). length o) owned in
            let h = r.counted in omega arith;
        keyed = λ x xlt full. let b = back x xlt full in let k = b.1 in let same = b.2 in omega arith;
        answered = λ x xlt full. let b = back x xlt full in
            let a = r.answered x xlt b.0 in (a.0, a.1, a.2, held_on plan ws us grows x a.0 a.1 a.3);
        room = let h = r.room in omega arith;
        past = λ part n low high. arenas part n ∙ r.past part n (omega arith) high;
        closed = λ c d h child. published_on plan ws us grows d (r.closed c d (
          h.0,
          h.1,
          held_back h.0 c h.1 h.2,
        ) child);
        shares = let t = sum_set share s.views id v w at in let e = r.shares in omega arith;
        wins = let t = sum_set wins_of s.views id v w at in let e = r.wins in omega arith;
        each = each_set (Fits plan us) s.views id w (let f = r.each id v at in
            fits (fits_on plan ws us grows v (stored_on plan ws us arenas v.owned f.stored) f)) (λ j u e.
            let f = r.each j u e in fits_on plan ws us grows u (stored_on plan ws us arenas u.owned f.stored) f);
      }
