-- The counter goes up by one, and stays within the records: there are at most as many names as cells, and a view owns at
-- most its weight.
use Rattle.std.proofs.Common.{◌≡◌, ℕ, zero, suc, ◌+◌, ◌-◌, ◌<◌, ◌≤◌, ◌≢◌, ◌⊎◌, inl, inr, ◌==◌, min, List, [], ◌∷◌, length, set, sym, refl, ap, ◌∙◌, subst, slice_index, if◌then◌else◌, sum_by, All, arith, length-set, get_or-set_other, get_or-set_same}
use mathlib.Core.Logic.{dite}
use native.Mathlib.Decide.{ℕ_discrete, dec_le}
use mathlib.Core.Option.{some, some-ne-none, some-injective}
use lib.ListN.{get_elem?}
use Rattle.std.proofs.lemmas.List.Elements.{All-cons}
use Rattle.std.proofs.lemmas.List.Sums.{sum_by-cons}
use Rattle.atomic_table.specs.Table.{keeps, stepped}
use Rattle.adp_model.specs.declared.cell.Cell.{Cell}
use Rattle.adp_model.specs.declared.cell.Answer.{Answer}
use Rattle.memo_words.specs.declared.part.Part.{Part}
use Rattle.memo_words.specs.declared.part.Part.TheVariants.{Score, Choice}
use Rattle.memo_words.specs.declared.view.Owned.{Owned}
use Rattle.memo_words.specs.declared.view.View.{View}
use Rattle.memo_words.specs.CodedCells.{IsCodeOf}
use Rattle.memo_words.specs.Layout.{Plan, slots_of, records_of, counter, key, key_place, record_place, arena_place, tally}
use Rattle.memo_words.specs.Views.{owns, stored}
use Rattle.memo_words.specs.Kept.{Kept, Fits, IsHeldAt, IsStored, name, arena, named, filled, share, wins_of, count_owned}
use Rattle.memo_words.specs.Steps.{KeysFit}
use Rattle.memo_words.proofs.Lists.{sum_set, each_set}
use Rattle.memo_words.proofs.Tallies.{tally_same, tally_at, tally_none, tally_swap, tally_le, tally_ones}
use Rattle.memo_words.proofs.Records.{one_if, none_if}
use Rattle.memo_words.proofs.Frame.{St, owned_of, Grows, arena_behind, held_on, published_on, fits_on, stored_on, stands_on}

-- positions of distinct numbers below a bound are at most as many as the bound
pigeons : (f : ℕ → ℕ) (slots cells : ℕ) → ((i : ℕ) → i < slots → f i < cells + 1) → ((i j : ℕ) → i < slots → j < slots
    → 0 < f i → f i ≡ f j → i ≡ j) → tally (λ i. min (f i) 1) slots ≤ cells
pigeons f slots cells below apart = let hit : ℕ → ℕ → ℕ = λ i c. if f i == c + 1 then 1 else 0 in
    let row : (i : ℕ) → i < slots → min (f i) 1 ≤ tally (hit i) cells = λ i lt. dite (ℕ_discrete (f i) 0)
    (λ z. omega arith)
    (λ n. let b = below i lt in let one = one_if (f i) ((f i - 1) + 1) (omega arith) in
    let t = tally_at (hit i) (f i - 1) cells (omega arith) in omega arith) in
    let column : (c : ℕ) → c < cells → tally (λ i. hit i c) slots ≤ 1 = λ c _. at_most_one f slots c apart in
    let a = tally_le (λ i. min (f i) 1) (λ i. tally (hit i) cells) slots row in let b = tally_swap hit slots cells in
    let d = tally_le (λ c. tally (λ i. hit i c) slots) (λ c. 1) cells column in
    let e = tally_ones cells in omega arith
  where
    at_most_one : (f : ℕ → ℕ) (n c : ℕ) → ((i j : ℕ) → i < n → j < n → 0 < f i → f i ≡ f j → i ≡ j)
        → tally (λ i. if f i == c + 1 then 1 else 0) n ≤ 1
    at_most_one f zero c apart = omega arith
    at_most_one f (suc n) c apart = dite (ℕ_discrete (f n) (c + 1))
        (λ e. let y = one_if (f n) (c + 1) e in let z = tally_none (λ i. if f i == c + 1 then 1 else 0) n
        (λ i lt. none_if (f i) (c + 1) (λ k. let same = apart i n (omega arith) (omega arith) (omega arith) (k
        ∙ sym e) in omega arith)) in omega arith)
        (λ ne. let y = none_if (f n) (c + 1) ne in let t = at_most_one f n c
        (λ i j ilt jlt. apart i j (omega arith) (omega arith)) in omega arith)

-- the same for numbers that each have a place below the bound, which tells them apart
module _ (IsPlace : ℕ → ℕ → Type 0) (f : ℕ → ℕ) (slots cells : ℕ) where
  IsPlaced : ℕ → ℕ → Type 0
  IsPlaced i n = (0 < f i) × (0 < n) × (n ≤ cells) × IsPlace (f i) (n - 1)

  Good : ℕ → ℕ → Type 0
  Good i n = i < slots → ((f i ≡ 0) × (n ≡ 0)) ⊎ IsPlaced i n

  spread_by : (at : (i : ℕ) → (n : ℕ) × Good i n) → ((a b k : ℕ) → IsPlace a k → IsPlace b k → a ≡ b)
      → ((i j : ℕ) → i < slots → j < slots → 0 < f i → f i ≡ f j → i ≡ j) → tally (λ i. min (f i) 1) slots ≤ cells
  unfolding Good IsPlaced
  spread_by at tell apart =
      let g : ℕ → ℕ = λ i. (at i).0 in
      let a = tally_le (λ i. min (f i) 1) (λ i. min (g i) 1) slots (λ i lt. row i lt ((at i).1 lt)) in
      let b = pigeons g slots cells (λ i lt. low i lt ((at i).1 lt))
      (λ i j ilt jlt full same. both i j ilt jlt full same ((at i).1 ilt) ((at j).1 jlt)) in
      omega (arith, a, b)
    where
      row : (i : ℕ) → i < slots → ((f i ≡ 0) × ((at i).0 ≡ 0)) ⊎ IsPlaced i (at i).0 → min (f i) 1 ≤ min (at i).0 1
      row i lt (inl t) = let z = t.0 in omega arith
      row i lt (inr t) = let z = t.1 in omega arith

      low : (i : ℕ) → i < slots → ((f i ≡ 0) × ((at i).0 ≡ 0)) ⊎ IsPlaced i (at i).0 → (at i).0 < cells + 1
      low i lt (inl t) = let z = t.1 in omega arith
      low i lt (inr t) = let z = t.2 in omega arith

      both : (i j : ℕ) → i < slots → j < slots → 0 < (at i).0 → (at i).0 ≡ (at j).0
          → ((f i ≡ 0) × ((at i).0 ≡ 0)) ⊎ IsPlaced i (at i).0 → ((f j ≡ 0) × ((at j).0 ≡ 0)) ⊎ IsPlaced j (at j).0
          → i ≡ j
      both i j ilt jlt full same (inl t) h = let z = t.1 in absurd (omega arith)
      both i j ilt jlt full same (inr t) (inl u) = let z = u.1 in absurd (omega arith)
      both i j ilt jlt full same (inr t) (inr u) =
          apart i j ilt jlt t.0 (tell (f i) (f j) ((at i).0 - 1) t.3 (subst
          (λ (n : ℕ). IsPlace (f j) (n - 1)) (sym same) u.3))

  pub spread : ((i : ℕ) → i < slots → 0 < f i → (k : ℕ) × (k < cells) × IsPlace (f i) k) → ((a b k : ℕ) → IsPlace a k
      → IsPlace b k → a ≡ b)
      → ((i j : ℕ) → i < slots → j < slots → 0 < f i → f i ≡ f j → i ≡ j) → tally (λ i. min (f i) 1) slots ≤ cells
  unfolding Good IsPlaced
  spread placed tell apart = spread_by (λ i. dite (dec_le (suc i) slots)
      (λ lt. dite (ℕ_discrete (f i) 0) (λ z. (0, λ _. inl (z, refl)))
      (λ n. let full : 0 < f i = omega arith in let p = placed i lt full in
      let low = p.1 in (
        p.0 + 1,
        λ _. inr (
          full,
          omega arith,
          omega arith,
          subst (IsPlace (f i)) (let e : p.0 ≡ p.0 + 1 - 1 = omega arith in e) p.2,
        ),
      )))
      (λ no. (0, λ lt. absurd (no lt)))) tell apart

pub few_owned : (views : List View) → ((j : ℕ) (u : View) → get_elem? views j ≡ some u → count_owned u ≤ u.weight)
    → sum_by count_owned views ≤ sum_by share views
few_owned [] h = omega arith
few_owned (x ∷ xs) h = let a = sum_by-cons count_owned x xs in let b = sum_by-cons share x xs in
    let m = h zero x refl in let t = few_owned xs (λ j u e. h (suc j) u e) in omega arith

-- with one view that owns fewer than its weight
fewer_owned : (views : List View) (id : ℕ) (v : View) → get_elem? views id ≡ some v → count_owned v < v.weight
    → ((j : ℕ) (u : View) → get_elem? views j ≡ some u → count_owned u ≤ u.weight)
    → sum_by count_owned views < sum_by share views
fewer_owned [] id v at less h = absurd (some-ne-none v (sym at))
fewer_owned (x ∷ xs) zero v at less h = let a = sum_by-cons count_owned x xs in let b = sum_by-cons share x xs in
    let same = some-injective x v at in let m = ap count_owned same in let n = ap (λ (u : View). u.weight) same in
    let t = few_owned xs (λ j u e. h (suc j) u e) in omega arith
fewer_owned (x ∷ xs) (suc id) v at less h = let a = sum_by-cons count_owned x xs in let b = sum_by-cons share x xs in
    let m = h zero x refl in let t = fewer_owned xs id v at less (λ j u e. h (suc j) u e) in omega arith

module _ (plan : Plan) (fit : KeysFit plan) where
  pub has_room : (s : St) (r : Kept plan s) (id : ℕ) (v : View) → get_elem? s.views id ≡ some v
      → count_owned v < v.weight → counter s.words < records_of plan
  has_room s r id v at less = let ws = s.words in
      let a = fit (key ws) (slots_of plan) (λ i lt full.
      let st = r.keys i lt full in (st.cell, st.code, st.demanded)) r.apart in
      let b = tally_le (λ i. min (name plan ws i) 1) (λ i. min (key ws i) 1) (slots_of plan)
      (λ i lt. dite (ℕ_discrete (name plan ws i) 0) (λ z. omega arith) (λ n.
      let k = r.keyed i lt (omega arith) in omega arith)) in
      let d = fewer_owned s.views id v at less (λ j u e. (r.each j u e).few) in let e = r.counted in
      let g = r.shares in omega arith

  pub counter_up : (s : St) (r : Kept plan s) (id : ℕ) (v w : View) → get_elem? s.views id ≡ some v
      → count_owned v < v.weight → share w ≡ share v → w.weight ≡ v.weight → w.wins ≡ v.wins
      → w.owned ≡ record { number = counter s.words; score = 0; choice = 0 } ∷ v.owned
      → Fits plan s.words (record w { owned = v.owned })
      → Kept plan (stepped s 0 (counter s.words + 1) id [] w keeps)
  counter_up s r id v w at less shares weight wins owned fits =
      let slots : ℕ = slots_of plan in
      let ws : List ℕ = s.words in let c : ℕ = counter ws in let us : List ℕ = set ws 0 (c + 1) in
      let wide = r.wide in let room = has_room s r id v at less in
      let now : counter us ≡ c + 1 = get_or-set_same ws 0 (c + 1) 0 (omega arith) in
      let other : (i : ℕ) → i ≢ 0 → slice_index us i ≡ slice_index ws i = λ i n. get_or-set_other ws 0 i (c + 1) 0 n in
      let keys' : (x : ℕ) → key us x ≡ key ws x = λ x. other (key_place x) (λ e. omega arith) in
      let names : (x : ℕ) → name plan us x ≡ name plan ws x = λ x. other (record_place slots x) (λ e. omega arith) in
      let arenas : (part : Part) (n : ℕ) → arena plan us part n ≡ arena plan ws part n = λ part n.
      let b = arena_behind slots (records_of plan) part n in
      other (arena_place slots (records_of plan) part n) (λ e. omega arith) in
      let grows : Grows plan ws us = record {
        keys = λ x _ _. keys' x;
        names = λ x _ _. names x;
        codes
            = λ part x _ _. arenas part (name plan ws x - 1);
      } in
      let nameds : (n : ℕ) → named plan us n ≡ named plan ws n = λ n. tally_same
      (λ x. if name plan ws x == n + 1 then 1 else 0) (λ x. if name plan us x == n + 1 then 1 else 0) slots
      (λ x _. ap (λ (k : ℕ). if k == n + 1 then 1 else 0) (names x)) in
      let fill : filled plan us ≡ filled plan ws = tally_same (λ x. min (name plan ws x) 1)
      (λ x. min (name plan us x) 1) slots (λ x _. ap (λ (k : ℕ). min k 1) (names x)) in
      let held_back : (x : ℕ) (d : Cell) (a : Answer) → IsHeldAt plan us x d a → IsHeldAt plan ws x d a = λ x d a h.
      let same = names x in let full = h.named in record {
        inside = h.inside;
        key_is = subst (IsCodeOf d) (keys' x) h.key_is;
        named = omega arith;
        codes = λ part. sym (arenas part (name plan ws x - 1))
            ∙ (ap (λ (n : ℕ). arena plan us part (n - 1)) (sym same) ∙ h.codes part);
      } in
      let old = r.each id v at in let blank : (part : Part)
      → arena plan ws part c ≡ 0 = λ part. r.past part c (omega arith) room in
      let f = fits_on plan ws us grows (record w { owned = v.owned })
      (stored_on plan ws us arenas v.owned old.stored) fits in
      let long = ap (λ (k : List Owned). length k) owned in
      record {
        wide = length-set ws 0 (c + 1) ∙ wide;
        keys = λ x xlt full. let k = keys' x in stands_on plan ws us grows x xlt (omega arith) (r.keys x xlt
            (omega arith));
        apart = λ i j ilt jlt full same. let a = keys' i in
            let b = keys' j in r.apart i j ilt jlt (omega arith) (omega arith);
        held = λ n l. let t = sum_set (owned_of n) s.views id v w at in let e = ap (owns n) owned in let m = nameds n in
            dite (ℕ_discrete c n) (λ same. let y = one_if c n same in
            let h = r.free n (omega arith) in omega arith) (λ d. let y = none_if c n d in
            let h = r.held n (omega arith) in omega arith);
        free = λ n l. let t = sum_set (owned_of n) s.views id v w at in let e = ap (owns n) owned in
            let m = nameds n in let y = none_if c n (λ k. omega arith) in let h = r.free n (omega arith) in omega arith;
        counted = let t = sum_set count_owned s.views id v w at in let h = r.counted in omega arith;
        keyed = λ x xlt full. let a = keys' x in let b = names x in let h = r.keyed x xlt (omega arith) in omega arith;
        answered = λ x xlt full. let b = names x in let a = r.answered x xlt (omega arith) in
            (a.0, a.1, a.2, held_on plan ws us grows x a.0 a.1 a.3);
        room = omega arith;
        past = λ part n low high. arenas part n ∙ r.past part n (omega arith) high;
        closed = λ x d h child. published_on plan ws us grows d (r.closed x d (
          h.0,
          h.1,
          held_back h.0 x h.1 h.2,
        ) child);
        shares = let t = sum_set share s.views id v w at in let e = r.shares in omega arith;
        wins = let t = sum_set wins_of s.views id v w at in let e = r.wins in omega arith;
        each = each_set (Fits plan us) s.views id w record {
          plan_is = f.plan_is;
          spent = f.spent;
          keys = f.keys;
          names = f.names;
          known = f.known;
          stored = subst (All (IsStored plan us)) (sym owned) (All-cons (IsStored plan us)
              (record { number = c; score = 0; choice = 0 }) v.owned (λ part. arenas part c ∙ (blank part
              ∙ nothing part)) f.stored);
          few = omega arith;
        } (λ j u e. let g = r.each j u e in fits_on plan ws us grows u
            (stored_on plan ws us arenas u.owned g.stored) g);
      }
    where
      nothing : (part : Part) → 0 ≡ stored part (record { number = counter s.words; score = 0; choice = 0 })
      nothing Score = refl
      nothing Choice = refl
