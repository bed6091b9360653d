-- A store in a record of one's own keeps the rule.
use Rattle.std.proofs.Common.{◌≡◌, ℕ, ◌+◌, ◌-◌, ◌<◌, ◌≢◌, ◌⊎◌, inl, inr, ⊎_elim, ◌==◌, min, List, [], ◌∷◌, length, get_or, set, sym, refl, ap, ◌∙◌, subst, slice_index, if◌then◌else◌, All, Contains, lt_of_not-le, arith, length-set, get_or-set_other, get_or-set_same}
use mathlib.Core.Logic.{dite}
use native.Mathlib.Decide.{dec_le}
use mathlib.Core.Option.{some}
use lib.ListN.{get_elem?}
use Rattle.std.proofs.lemmas.List.Elements.{All-nil, All-cons, All-head, All-tail, All-contains, Contains-get_or}
use Rattle.atomic_table.specs.Table.{keeps, stepped}
use Rattle.atomic_table.proofs.Lists.{at_set}
use Rattle.adp_model.specs.declared.cell.Cell.{Cell}
use Rattle.adp_model.specs.declared.cell.Answer.{Answer}
use Rattle.memo_words.specs.declared.part.Part.{Part}
use Rattle.memo_words.specs.declared.part.Part.TheVariants.{Score, Choice}
use Rattle.memo_words.specs.declared.view.Owned.{Owned}
use Rattle.memo_words.specs.declared.view.View.{View}
use Rattle.memo_words.specs.CodedCells.{IsCodeOf}
use Rattle.memo_words.specs.Layout.{Plan, slots_of, records_of, counter, key, key_place, record_place, arena_place}
use Rattle.memo_words.specs.Views.{owns, stored, store_in, with_stored}
use Rattle.memo_words.specs.Kept.{Kept, Fits, IsHeldAt, IsStored, name, arena, named, filled, share, wins_of, count_owned}
use Rattle.memo_words.proofs.Lists.{sum_set}
use Rattle.memo_words.proofs.Tallies.{tally_same, tally_at}
use Rattle.memo_words.proofs.Records.{chosen, one_if, owns_some, owned_other}
use Rattle.memo_words.proofs.Names.{is_own, not_named, not_others}
use Rattle.memo_words.proofs.Frame.{St, owned_of, Grows, arena_apart, arena_behind, arena_ahead, held_on, published_on, fits_on, stands_on}

same_number : (part : Part) (code : ℕ) (e : Owned) → (store_in part code e).number ≡ e.number
same_number Score code e = refl
same_number Choice code e = refl

stored_now : (part : Part) (code : ℕ) (e : Owned) → stored part (store_in part code e) ≡ code
stored_now Score code e = refl
stored_now Choice code e = refl

abbrev tag : Part → ℕ
tag Score = 0
tag Choice = 1

-- what is stored in the other part stays
parts : (a part : Part) → (a ≡ part) ⊎ ((a ≢ part) × ((code : ℕ) (e : Owned)
    → stored a (store_in part code e) ≡ stored a e))
parts Score Score = inl (λ i. Score)
parts Score Choice = inr (λ (e : Score ≡ Choice). let t = ap tag e in omega arith, λ code e. refl)
parts Choice Score = inr (λ (e : Choice ≡ Score). let t = ap tag e in omega arith, λ code e. refl)
parts Choice Choice = inl (λ i. Choice)

module _ (part : Part) (number code : ℕ) where
  pub owns-with_stored : (n : ℕ) (xs : List Owned) → owns n (with_stored part number code xs) ≡ owns n xs
  owns-with_stored n [] = refl
  owns-with_stored n (x ∷ xs) = let t = owns-with_stored n xs in
      let h = chosen (λ (e : Owned). if◌then◌else◌ {A = ℕ} (e.number == n) 1 0 ≡ if◌then◌else◌ {A = ℕ}
      (x.number == n) 1 0) x.number number (store_in part code x) x
      (λ _. ap (λ (k : ℕ). if◌then◌else◌ {A = ℕ} (k == n) 1 0) (same_number part code x)) (λ _. refl) in omega arith

  pub length-with_stored : (xs : List Owned) → length (with_stored part number code xs) ≡ length xs
  length-with_stored [] = refl
  length-with_stored (x ∷ xs) = let t = length-with_stored xs in omega arith

  pub All-with_stored : (P Q : Owned → Type 0) → ((x : Owned) → x.number ≡ number → P x → Q (store_in part code x))
      → ((x : Owned) → x.number ≢ number → P x → Q x) → (xs : List Owned) → All P xs
      → All Q (with_stored part number code xs)
  All-with_stored P Q hit miss [] h = All-nil Q
  All-with_stored P Q hit miss (x ∷ xs) h = All-cons Q _ (with_stored part number code xs) (chosen Q x.number number
      (store_in part code x) x (λ e. hit x e (All-head P x xs h))
      (λ n. miss x n (All-head P x xs h))) (All-with_stored P Q hit miss xs (All-tail P x xs h))

pub both_all : (P Q : Owned → Type 0) (xs : List Owned) → All P xs → ((e : Owned) → Contains xs e → Q e)
    → All (λ e. P e × Q e) xs
both_all P Q xs h k i d lt = (h i d lt, k (get_or xs i d) (Contains-get_or xs i d lt))

pub each_set_at : {A : Type 0} (P : A → Type 0) (xs : List A) (i : ℕ) (b : A) → P b → ((j : ℕ) (a : A) → j ≢ i
    → get_elem? xs j ≡ some a → P a) → (j : ℕ) (a : A) → get_elem? (set xs i b) j ≡ some a → P a
each_set_at {A} P xs i b here there j a e = ⊎_elim (λ (t : (j ≡ i) × (b ≡ a)). subst P t.1 here)
    (λ (t : (j ≢ i) × (get_elem? xs j ≡ some a)). there j a t.0 t.1) (at_set xs i j b a e)

module _ (plan : Plan) where
  -- a record that is named is below the counter
  pub name_below : (s : St) (r : Kept plan s) (x : ℕ) → x < slots_of plan → 0 < name plan s.words x
      → name plan s.words x - 1 < counter s.words
  name_below s r x lt full = let n : ℕ = name plan s.words x - 1 in dite (dec_le (counter s.words) n)
      (λ le. let h = r.free n le in let one = one_if (name plan s.words x) (n + 1) (omega arith) in
      let t = tally_at (λ q. if name plan s.words q == n + 1 then 1 else 0) x (slots_of plan) lt in
      absurd (omega arith))
      (λ no_le. lt_of_not-le no_le)

  pub stored_put : (s : St) (r : Kept plan s) (id : ℕ) (v w : View) (part : Part) (number code : ℕ)
      → get_elem? s.views id ≡ some v → 0 < owns number v.owned → share w ≡ share v → w.wins ≡ v.wins
      → w.owned ≡ with_stored part number code v.owned → Fits plan s.words (record w { owned = v.owned })
      → Kept plan (stepped s (arena_place (slots_of plan) (records_of plan) part number) code id [] w keeps)
  stored_put s r id v w part number code at owner shares wins owned fits =
      let slots : ℕ = slots_of plan in let place : ℕ = arena_place slots (records_of plan) part number in
      let ws : List ℕ = s.words in let us : List ℕ = set ws place code in let wide = r.wide in let room = r.room in
      let below = is_own plan s r id v number at owner in
      let behind = arena_behind slots (records_of plan) part number in
      let low : number < records_of plan = omega arith in
      let ahead = arena_ahead slots (records_of plan) part number low in
      let now : arena plan us part number ≡ code = get_or-set_same ws place code 0 (omega arith) in
      let other : (i : ℕ) → i ≢ place → slice_index us i ≡ slice_index ws i
      = λ i n. get_or-set_other ws place i code 0 n in
      let keys' : (x : ℕ) → x < slots → key us x ≡ key ws x = λ x lt. other (key_place x) (λ e. omega arith) in
      let names : (x : ℕ) → x < slots → name plan us x ≡ name plan ws x = λ x lt. other (record_place slots x)
      (λ e. omega arith) in
      let others : (a : Part) (n : ℕ) → n < records_of plan → n ≢ number
      → arena plan us a n ≡ arena plan ws a n = λ a n l d. other (arena_place slots (records_of plan) a n)
      (λ e. d (arena_apart slots (records_of plan) a part n number l low e).1) in
      let count : counter us ≡ counter ws = other 0 (λ e. omega arith) in
      let nameds : (n : ℕ) → named plan us n ≡ named plan ws n = λ n. tally_same
      (λ x. if name plan ws x == n + 1 then 1 else 0) (λ x. if name plan us x == n + 1 then 1 else 0) slots
      (λ x lt. ap (λ (k : ℕ). if k == n + 1 then 1 else 0) (names x lt)) in
      let fill : filled plan us ≡ filled plan ws = tally_same (λ x. min (name plan ws x) 1)
      (λ x. min (name plan us x) 1) slots (λ x lt. ap (λ (k : ℕ). min k 1) (names x lt)) in
      let all_own : (n : ℕ) → owns n w.owned ≡ owns n v.owned = λ n. ap (owns n) owned
      ∙ owns-with_stored part number code n v.owned in
      let long : length w.owned ≡ length v.owned = ap (λ (k : List Owned). length k) owned
      ∙ length-with_stored part number code v.owned in
      let inside : (j : ℕ) (u : View) → get_elem? s.views j ≡ some u → (e : Owned) → Contains u.owned e
      → e.number < records_of plan = λ j u at' e has.
      let h = is_own plan s r j u e.number at' (owns_some u.owned e has) in omega arith in
      let old = r.each id v at in
      let not_name : (x : ℕ) → x < slots → 0 < name plan ws x
      → name plan ws x - 1 ≢ number = λ x lt full e. not_named plan s r id v number at owner x lt (omega arith) in
      let named_low : (x : ℕ) → x < slots → 0 < name plan ws x → name plan ws x - 1 < records_of plan = λ x lt full.
      let h = name_below s r x lt full in omega arith in
      let codes' : (a : Part) (x : ℕ) → x < slots → 0 < name plan ws x
      → arena plan us a (name plan ws x - 1) ≡ arena plan ws a (name plan ws x - 1) = λ a x xlt full. others a
      (name plan ws x - 1) (named_low x xlt full) (not_name x xlt full) in
      let grows : Grows plan ws us = record {
        keys = λ x xlt full. keys' x xlt;
        names
            = λ x xlt full. names x xlt;
        codes = codes';
      } in
      let held_back : (x : ℕ) (c : Cell) (a : Answer) → IsHeldAt plan us x c a → IsHeldAt plan ws x c a = λ x c a h.
      let same = names x h.inside in let full = h.named in let was : 0 < name plan ws x = omega arith in record {
        inside = h.inside;
        key_is = subst (IsCodeOf c) (keys' x h.inside) h.key_is;
        named = was;
        codes = λ b. sym (codes' b x h.inside was) ∙ (ap (λ (n : ℕ). arena plan us b (n - 1)) (sym same) ∙ h.codes b);
      } in
      record {
        wide = length-set ws place code ∙ wide;
        keys = λ x xlt full. let k = keys' x xlt in stands_on plan ws us grows x xlt (omega arith) (r.keys x xlt
            (omega arith));
        apart = λ i j ilt jlt full same. let a = keys' i ilt in
            let b = keys' j jlt in r.apart i j ilt jlt (omega arith) (omega arith);
        held = λ n l. let t = sum_set (owned_of n) s.views id v w at in let e = all_own n in let m = nameds n in
            let h = r.held n (omega arith) in omega arith;
        free = λ n l. let t = sum_set (owned_of n) s.views id v w at in let e = all_own n in let m = nameds n in
            let h = r.free n (omega arith) in omega arith;
        counted = let t = sum_set count_owned s.views id v w at in let h = r.counted in omega arith;
        keyed = λ x xlt full. let a = keys' x xlt in let b = names x xlt in
            let h = r.keyed x xlt (omega arith) in omega arith;
        answered = λ x xlt full. let b = names x xlt in
            let a = r.answered x xlt (omega arith) in (a.0, a.1, a.2, held_on plan ws us grows x a.0 a.1 a.3);
        room = omega arith;
        past = λ a n l high. others a n high (λ e. omega arith) ∙ r.past a n (omega arith) high;
        closed = λ c d h child. published_on plan ws us grows d (r.closed c d (
          h.0,
          h.1,
          held_back h.0 c h.1 h.2,
        ) child);
        shares = let t = sum_set share s.views id v w at in let e = r.shares in omega arith;
        wins = let t = sum_set wins_of s.views id v w at in let e = r.wins in omega arith;
        each = each_set_at (Fits plan us) s.views id w
            (let f = fits_on plan ws us grows (record w { owned = [] }) (All-nil
            (IsStored plan us)) record {
              plan_is = fits.plan_is;
              spent = fits.spent;
              keys = fits.keys;
              names
                  = fits.names;
              known = fits.known;
              stored = All-nil (IsStored plan ws);
              few = omega arith;
            } in record {
              plan_is = f.plan_is;
              spent = f.spent;
              keys = f.keys;
              names = f.names;
              known = f.known;
              stored = subst (All (IsStored plan us)) (sym owned) (All-with_stored part number code
                  (λ e. IsStored plan ws e × (e.number < records_of plan)) (IsStored plan us)
                  (λ x is h. stores_one us now other x is h) (λ x d h a. others a x.number h.1 d ∙ h.0 a)
                  v.owned (both_all (IsStored plan ws) (λ e. e.number < records_of plan) v.owned old.stored
                  (λ e has. inside id v at e has)));
              few = let h = fits.few in omega arith;
            })
            (λ j u d e. let g = r.each j u e in fits_on plan ws us grows u
            (owned_other (IsStored plan us) number u.owned (not_others plan s r id v number at owner j u e d)
            (λ o has n a. let t = All-contains (IsStored plan ws) u.owned o g.stored has in
            others a o.number (inside j u e o has) n ∙ t a)) g);
      }
    where
      stores_one : (us : List ℕ) → arena plan us part number ≡ code → ((i : ℕ)
          → i ≢ arena_place (slots_of plan) (records_of plan) part number → slice_index us i ≡ slice_index s.words i)
          → (x : Owned) → x.number ≡ number → IsStored plan s.words x × (x.number < records_of plan)
          → IsStored plan us (store_in part code x)
      stores_one us now other x is h a =
          let low : x.number < records_of plan = h.1 in
          let number_is : (store_in part code x).number ≡ x.number = same_number part code x in
          ap (arena plan us a) number_is
          ∙ ⊎_elim (λ (e : a ≡ part). ap (λ (b : Part). arena plan us b x.number) e ∙ (ap (arena plan us part) is
          ∙ (now ∙ (sym (stored_now part code x) ∙ ap (λ (b : Part). stored b (store_in part code x)) (sym e)))))
          (λ t. other (arena_place (slots_of plan) (records_of plan) a x.number)
          (λ e. t.0 (arena_apart (slots_of plan) (records_of plan) a part x.number number low (subst
          (λ (n : ℕ). n < records_of plan) is low) e).0) ∙ (h.0 a ∙ sym (t.1 code x)))
          (parts a part)
