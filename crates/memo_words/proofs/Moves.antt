-- Making, splitting, joining and closing, and what each step makes of a view.
use Rattle.std.proofs.Common.{◌≡◌, ℕ, ◌+◌, ◌<◌, ◌≤◌, ◌≢◌, ◌==◌, min, List, [], ◌∷◌, ◌++◌, set, sym, refl, ◌∙◌, subst, slice_index, if◌then◌else◌, sum_by, ⊎_elim, replicate, zero, suc, Some, arith, length-append}
use mathlib.Core.Logic.{dite}
use native.Mathlib.Decide.{ℕ_discrete}
use mathlib.Core.Option.{Option, some, some-injective, some-ne-none}
use lib.ListN.{get_elem?}
use Rattle.std.proofs.lemmas.List.{length-replicate}
use Rattle.std.proofs.lemmas.List.Elements.{All-nil, All-append}
use Rattle.std.proofs.lemmas.List.Sums.{sum_by_push}
use Rattle.atomic_table.specs.Table.{Splits, Joins, Final, Seen as SeenState}
use Rattle.atomic_table.proofs.Lists.{at_set}
use Rattle.memo_words.specs.declared.view.Seen.{Seen}
use Rattle.memo_words.specs.declared.view.View.{View}
use Rattle.memo_words.specs.Layout.{Plan, slots_of, records_of, word_count, key, key_place, record_place, arena_place}
use Rattle.memo_words.specs.Views.{seen_at, seen_too, seen_unless_0, first_view, after_split, split_off, joined, spent}
use Rattle.memo_words.specs.Kept.{Kept, Fits, IsPublished, IsStored, name, named, filled, share, wins_of, count_owned}
use Rattle.memo_words.specs.Steps.{IsClosing}
use Rattle.memo_words.proofs.Lists.{sum_set, each_set, each_push, two_within}
use Rattle.memo_words.proofs.Tallies.{tally_none}
use Rattle.memo_words.proofs.Records.{chosen, seen-append, owns-append, none_if}
use Rattle.memo_words.proofs.Frame.{St, owned_of}

module _ (plan : Plan) where
  abbrev pub Rule : St → Type 0
  Rule = Kept plan

  abbrev pub F : List ℕ → View → Type 0
  F = Fits plan

  -- what is so for the plan is so for each plan that the view names
  pub for_plan : (v : View) → v.plan ≡ Some plan → (T : Plan → Type 0) → T plan → (o : Plan) → v.plan ≡ Some o → T o
  for_plan v mine T t o is = let same : plan ≡ o = cc in subst T same t

  abbrev pub AreSeen : (ℕ → ℕ) → List Seen → Type 0
  AreSeen read seen = (position : ℕ) → 0 < seen_at seen position
      → (position < slots_of plan) × (read position ≡ seen_at seen position)

  pub one_more : (read : ℕ → ℕ) (seen : List Seen) (q value : ℕ) → q < slots_of plan → read q ≡ value
      → AreSeen read seen → AreSeen read (seen_too q value seen)
  one_more read seen q value low is h x = chosen (λ (n : ℕ). 0 < n
      → (x < slots_of plan) × (read x ≡ n)) q x value (seen_at seen x)
      (λ e _. subst (λ (y : ℕ). (y < slots_of plan) × (read y ≡ value)) e (low, is)) (λ n. h x)

  pub more_unless_0 : (read : ℕ → ℕ) (seen : List Seen) (q : ℕ) → q < slots_of plan → AreSeen read seen
      → AreSeen read (seen_unless_0 q (read q) seen)
  more_unless_0 read seen q low h = chosen (AreSeen read) (read q) 0 seen (seen_too q (read q) seen) (λ _. h)
      (λ _. one_more read seen q (read q) low refl h)

  both_seen : (read : ℕ → ℕ) (xs ys : List Seen) → AreSeen read xs → AreSeen read ys → AreSeen read (xs ++ ys)
  both_seen read xs ys h k x = ⊎_elim (λ e. subst (λ (n : ℕ). 0 < n → (x < slots_of plan) × (read x ≡ n)) (sym e) (h x))
      (λ e. subst (λ (n : ℕ). 0 < n → (x < slots_of plan) × (read x ≡ n)) (sym e) (k x)) (seen-append xs ys x)

  pub splits : (id : ℕ) (v : View) → 0 < v.weight → 1 ≤ v.spare → Splits Rule id v (after_split v) (split_off v)
  splits id v live some_spare s r at = let fits = r.each id v at in let a : View = after_split v in
      let b : View = split_off v in let vs : List View = set s.views id a in
      let own : (n : ℕ) → sum_by (owned_of n) (vs ++ b ∷ []) ≡ sum_by (owned_of n) s.views = λ n.
      let t = sum_set (owned_of n) s.views id v a at in
      let u = sum_by_push (owned_of n) vs b in omega arith in record {
        wide = r.wide;
        keys = r.keys;
        apart = r.apart;
        held = λ n l. let h = r.held n l in let o = own n in omega arith;
        free = λ n l. let h = r.free n l in let o = own n in omega arith;
        counted = let t = sum_set count_owned s.views id v a at in let u = sum_by_push count_owned vs b in
            let e = r.counted in omega arith;
        keyed = r.keyed;
        answered = r.answered;
        room = r.room;
        past = r.past;
        closed = r.closed;
        shares = let t = sum_set share s.views id v a at in let u = sum_by_push share vs b in
            let e = r.shares in omega arith;
        wins = let t = sum_set wins_of s.views id v a at in let u = sum_by_push wins_of vs b in
            let e = r.wins in omega arith;
        each = each_push (F s.words) vs b record {
          plan_is = λ _. fits.plan_is live;
          spent = λ none. absurd
              (omega arith);
          keys = fits.keys;
          names = fits.names;
          known = fits.known;
          stored = All-nil
              (IsStored plan s.words);
          few = omega arith;
        }
            (each_set (F s.words) s.views id a record {
              plan_is = fits.plan_is;
              spent = λ none. absurd
                  (omega arith);
              keys = fits.keys;
              names = fits.names;
              known = fits.known;
              stored = fits.stored;
              few
                  = fits.few;
            } r.each);
      }

  pub joins : (id other : ℕ) (v w : View) → 0 < v.weight → Joins Rule id v other w (joined v w) spent
  joins id other v w live s r at two at' = let both : View = joined v w in let vs : List View = set s.views id both in
      let fits = r.each id v at in
      let was : get_elem? s.views other ≡ some w = ⊎_elim (λ (t : (other ≡ id) × (both ≡ w)). absurd (two t.0))
      (λ (t : (other ≢ id) × (get_elem? s.views other ≡ some w)). t.1) (at_set s.views id other both w at') in
      let theirs = r.each other w was in let long = length-append v.owned w.owned in
      let own : (n : ℕ) → sum_by (owned_of n) (set vs other spent) ≡ sum_by (owned_of n) s.views = λ n.
      let t = sum_set (owned_of n) s.views id v both at in let u = sum_set (owned_of n) vs other w spent at' in
      let o = owns-append n v.owned w.owned in omega arith in record {
        wide = r.wide;
        keys = r.keys;
        apart = r.apart;
        held = λ n l. let h = r.held n l in let o = own n in omega arith;
        free = λ n l. let h = r.free n l in let o = own n in omega arith;
        counted = let t = sum_set count_owned s.views id v both at in
            let u = sum_set count_owned vs other w spent at' in let e = r.counted in omega arith;
        keyed = r.keyed;
        answered = r.answered;
        room = r.room;
        past = r.past;
        closed = r.closed;
        shares = let t = sum_set share s.views id v both at in let u = sum_set share vs other w spent at' in
            let e = r.shares in omega arith;
        wins = let t = sum_set wins_of s.views id v both at in let u = sum_set wins_of vs other w spent at' in
            let e = r.wins in omega arith;
        each = each_set (F s.words) vs other spent record {
          plan_is = λ h. absurd (omega arith);
          spent = λ _. (
            refl,
            refl,
          );
          keys = λ x h. absurd (omega arith);
          names = λ x h. absurd (omega arith);
          known = All-nil
              (IsPublished plan s.words);
          stored = All-nil (IsStored plan s.words);
          few = omega arith;
        }
            (each_set (F s.words) s.views id both record {
              plan_is = λ _. fits.plan_is live;
              spent = λ none. absurd (omega arith);
              keys = both_seen (key s.words) v.keys w.keys fits.keys theirs.keys;
              names = both_seen (name plan s.words) v.names w.names fits.names theirs.names;
              known = All-append (IsPublished plan s.words) v.known w.known fits.known theirs.known;
              stored = All-append (IsStored plan s.words) v.owned w.owned fits.stored theirs.stored;
              few = let a = fits.few in let b = theirs.few in omega arith;
            } r.each);
      }

  pub closes : (words homes : List ℕ) (id : ℕ) (v : View) → 0 < v.weight → v.weight + v.spare ≡ plan.seats
      → Final (SeenState Rule id v) words homes → IsClosing plan v words
  closes words homes id v live whole f = let s = f.0 in let r = f.1.0 in record {
    state = s;
    kept = r;
    here = f.2;
    at = id;
    mine = f.1.1;
    alone = λ i w e some_weight. dite (ℕ_discrete i id) (λ same. same) (λ other.
        let t = two_within share s.views i id w v other e f.1.1 in let u = r.shares in absurd (omega arith));
  }

  zero_at : (n i : ℕ) → slice_index (replicate n 0) i ≡ 0
  zero_at zero i = refl
  zero_at (suc n) zero = refl
  zero_at (suc n) (suc i) = zero_at n i

  pub opens : (n : ℕ) (homes : List (Option ℕ)) → n ≡ word_count (slots_of plan) (records_of plan) → 1 ≤ plan.seats
      → Rule record { words = replicate n 0; homes = homes; views = first_view plan ∷ [] }
  opens n homes e some_seat = let ws : List ℕ = replicate n 0 in
      let at_0 : (i : ℕ) → slice_index ws i ≡ 0 = zero_at n in
      let no_name : (x : ℕ) → name plan ws x ≡ 0 = λ x. at_0 (record_place (slots_of plan) x) in
      let nameds : (number : ℕ) → named plan ws number ≡ 0 = λ number. tally_none
      (λ x. if name plan ws x == number + 1 then 1 else 0) (slots_of plan) (λ x _.
      let z = no_name x in none_if (name plan ws x) (number + 1) (λ k. omega arith)) in
      let fill : filled plan ws ≡ 0 = tally_none (λ x. min (name plan ws x) 1) (slots_of plan) (λ x _.
      let z = no_name x in omega arith) in let count = at_0 0 in record {
        wide = length-replicate n 0 ∙ e;
        keys = λ x _ h. let z = at_0 (key_place x) in absurd (omega arith);
        apart = λ i j _ _ h _. let z = at_0 (key_place i) in absurd (omega arith);
        held = λ x h. absurd (omega arith);
        free = λ x _. let z = nameds x in omega arith;
        counted = omega arith;
        keyed = λ x _ h. let z = no_name x in absurd (omega arith);
        answered = λ x _ h. let z = no_name x in absurd (omega arith);
        room = omega arith;
        past = λ part x _ _. at_0 (arena_place (slots_of plan) (records_of plan) part x);
        closed = λ c d h _. let full = h.2.named in let z = no_name h.0 in absurd (omega arith);
        shares = omega arith;
        wins = omega arith;
        each = λ i v at. subst (F ws) (only i v at) record {
          plan_is = λ _. refl;
          spent = λ h. absurd
              (omega arith);
          keys = λ x h. absurd (omega arith);
          names = λ x h. absurd (omega arith);
          known = All-nil
              (IsPublished plan ws);
          stored = All-nil (IsStored plan ws);
          few = omega arith;
        };
      }
    where
      only : (i : ℕ) (v : View) → get_elem? (first_view plan ∷ []) i ≡ some v → first_view plan ≡ v
      only zero v at = some-injective (first_view plan) v at
      only (suc i) v at = absurd (some-ne-none v (sym at))
