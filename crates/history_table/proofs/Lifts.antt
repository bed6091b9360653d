-- A step, a split and a join that keep the rule keep it with the history.
use Rattle.std.proofs.Common.{◌≡◌, ℕ, suc, ◌<◌, ◌==◌, List, [], ◌∷◌, ◌++◌, map, length, set, sym, refl, ap, ◌∙◌, subst, slice_index, slice_index_or, slice_set, if◌then◌else◌, All, ⊎_elim, ◌≢◌, arith, length-append, length-set}
use mathlib.Core.Option.{some}
use mathlib.Core.List.{map-append}
use lib.ListN.{get_elem?}
use Rattle.std.proofs.lemmas.List.{map-set}
use Rattle.std.proofs.lemmas.List.Elements.{All-nil, All-cons, All-append}
use Rattle.std.proofs.lemmas.List.Sums.{sum_by_push, sum_by-append}
use Rattle.atomic_table.specs.Table.{State, Me, homes_after, Allows, Splits, Joins}
use Rattle.atomic_table.proofs.Lists.{at_map, at_longer, at_last, at_set}
use Rattle.history_table.specs.declared.history.Deed.{Deed}
use Rattle.history_table.specs.declared.history.Deed.TheVariants.{Store}
use Rattle.history_table.specs.declared.history.Event.{Event}
use Rattle.history_table.specs.declared.history.Mark.{Mark}
use Rattle.history_table.specs.declared.history.WithMarks.{WithMarks}
use Rattle.history_table.specs.History.{left_by, Replays, zeros, once_below, IsTrueMark, event, mark, bare, parts_of, times_of, HasTrueMarks, HasMarked, with_marks, left_marked, right_marked, both_marked, spent_marked, bare_me, bare_state, KeptWithHistory}
use Rattle.history_table.proofs.Lists.{at_below, sum_set, each_set, each_push}

-- one event more, on the words that the history leads to
more : (a b : List ℕ) (h : List Event) (i : ℕ) (d : Deed) (x : ℕ) → Replays a h b → slice_index b i ≡ x
    → Replays a (h ++ event i d x ∷ []) (slice_set b i (left_by d x))
more a b [] i d x r e = (ap (λ (ws : List ℕ). slice_index ws i) r ∙ e, ap (λ (ws : List ℕ). slice_set ws i (left_by d x)) r)
more a b (g ∷ h) i d x r e = (r.0, more (slice_set a g.word (left_by g.deed g.found)) b h i d x r.1 e)

All-imp : {X : Type 0} (P Q : X → Type 0) (xs : List X) → ((x : X) → P x → Q x) → All P xs → All Q xs
All-imp P Q xs f h k d l = f (slice_index_or xs k d) (h k d l)

module _ {V : Type 0} where
  -- the marks of a view stay true as the history grows
  longer : (h : List Event) (e : Event) (v : WithMarks V) → HasTrueMarks h v → HasTrueMarks (h ++ e ∷ []) v
  longer h e v t = record {
    marks_are = All-imp (IsTrueMark h) (IsTrueMark (h ++ e ∷ [])) v.marks (λ m. at_longer h (e ∷ []) m.moment m.event) t.marks_are;
    idle = t.idle;
  }

module _ {S V : Type 0} (holds : State S V → Type 0) (seats : ℕ) where
  pub lifts : (n id i : ℕ) (me : Me S (WithMarks V)) (d : Deed) (tells : ℕ → Me S V → Type 0) → 0 < me.0.parts
      → Allows holds n id (bare_me me) i (left_by d) tells
      → Allows (KeptWithHistory holds seats) n id me i (left_by d) (λ found after. tells found (bare_me after) × HasMarked i d found me.0 after.0)
  lifts n id i me d tells some_part may s k sized at fits =
      let v : WithMarks V = me.0 in
      let b = may (bare_state s) k.kept sized (at_map bare s.views id v at) fits in
      let x : ℕ = slice_index s.words i in let h : List Event = k.history in
      let m : Mark = mark (length h) i d x in
      let w : WithMarks V = with_marks b.0 (v.marks ++ m ∷ []) v.parts in
      let e : Event = event i d x in
      let h' : List Event = h ++ e ∷ [] in
      let long : length h' ≡ suc (length h) = (let l = length-append h (e ∷ []) in omega arith) in
      let was = k.each id v at in (
        w,
        b.1,
        b.2,
        record {
          kept = subst (λ (vs : List V). holds (record { words = slice_set s.words i (left_by d x); homes = homes_after s.homes me.1 b.1; views = vs })) (sym (map-set bare s.views id w)) b.3;
          history = h';
          replays = subst (λ (z : ℕ). Replays (zeros z) h' (slice_set s.words i (left_by d x)))
              (sym (length-set s.words i (left_by d x)))
              (more (zeros (length s.words)) s.words h i d x k.replays refl);
          each = each_set (HasTrueMarks h') s.views id w
              (record {
                marks_are = All-append (IsTrueMark h') v.marks (m ∷ []) (longer h e v was).marks_are (All-cons (IsTrueMark h') m [] (at_last h e (length h) refl) (All-nil (IsTrueMark h')));
                idle = λ none. absurd (omega arith);
              })
              (λ j u there. longer h e u (k.each j u there));
          once = λ t.
              let o = k.once t in let c = sum_set (times_of t) s.views id v w at in
              let p = sum_by_push (λ (y : Mark). if y.moment == t then 1 else 0) v.marks m in
              let l = ap (once_below t) long in omega arith;
          whole = let o = k.whole in let c = sum_set parts_of s.views id v w at in omega arith;
        },
        (b.4, (length h, refl, All-imp (IsTrueMark h) (λ (y : Mark). y.moment < length h) v.marks (λ y. at_below h y.moment y.event) was.marks_are, refl)),
      )

  pub lifts_store : (n id i : ℕ) (me : Me S (WithMarks V)) (new : ℕ) (tells : Me S V → Type 0) → 0 < me.0.parts
      → Allows holds n id (bare_me me) i (λ _. new) (λ _. tells)
      → Allows (KeptWithHistory holds seats) n id me i (λ _. new) (λ _ after. tells (bare_me after) × ((stood : ℕ) × HasMarked i (Store new) stood me.0 after.0))
  lifts_store n id i me new tells some_part may s k sized at fits =
      let b = lifts n id i me (Store new) (λ _. tells) some_part may s k sized at fits in
      (b.0, b.1, b.2, b.3, (b.4.0, (slice_index s.words i, b.4.1)))

  pub cuts : (id : ℕ) (v : WithMarks V) (left right : V → V) → 1 < v.parts
      → Splits holds id v.view (left v.view) (right v.view)
      → Splits (KeptWithHistory holds seats) id v (left_marked left v) (right_marked right v)
  cuts id v left right some_parts may s k at =
      let a : WithMarks V = left_marked left v in let z : WithMarks V = right_marked right v in
      let vs : List (WithMarks V) = set s.views id a in
      let was = k.each id v at in
      record {
        kept = subst (λ (us : List V). holds (record { words = s.words; homes = s.homes; views = us }))
            (sym (map-append bare vs (z ∷ []) ∙ ap (λ (us : List V). us ++ z.view ∷ []) (map-set bare s.views id a)))
            (may (bare_state s) k.kept (at_map bare s.views id v at));
        history = k.history;
        replays = k.replays;
        each = each_push (HasTrueMarks k.history) vs z
            (record { marks_are = All-nil (IsTrueMark k.history); idle = λ none. absurd (omega arith) })
            (each_set (HasTrueMarks k.history) s.views id a (record { marks_are = was.marks_are; idle = λ none. absurd (omega arith) }) k.each);
        once = λ t.
            let o = k.once t in let c = sum_set (times_of t) s.views id v a at in
            let p = sum_by_push (times_of t) vs z in omega arith;
        whole = let o = k.whole in let c = sum_set parts_of s.views id v a at in
            let p = sum_by_push parts_of vs z in omega arith;
      }

  pub merges : (id other : ℕ) (v w : WithMarks V) (both : V → V → V) (spent : V) → 0 < v.parts
      → Joins holds id v.view other w.view (both v.view w.view) spent
      → Joins (KeptWithHistory holds seats) id v other w (both_marked both v w) (spent_marked spent)
  merges id other v w both spent some_part may s k at two at' =
      let a : WithMarks V = both_marked both v w in let z : WithMarks V = spent_marked spent in
      let vs : List (WithMarks V) = set s.views id a in
      let was = k.each id v at in
      let there : get_elem? s.views other ≡ some w = ⊎_elim (λ (t : (other ≡ id) × (a ≡ w)). absurd (two t.0))
      (λ (t : (other ≢ id) × (get_elem? s.views other ≡ some w)). t.1) (at_set s.views id other a w at') in
      let theirs = k.each other w there in
      let views_are : map bare (set vs other z) ≡ set (set (map bare s.views) id a.view) other spent = map-set bare vs other z ∙ ap (λ (us : List V). set us other spent) (map-set bare s.views id a) in
      let found : get_elem? (set (map bare s.views) id a.view) other ≡ some w.view = ap (λ (us : List V). get_elem? us other) (sym (map-set bare s.views id a)) ∙ at_map bare vs other w at' in
      record {
        kept = subst (λ (us : List V). holds (record { words = s.words; homes = s.homes; views = us })) (sym views_are) (may (bare_state s) k.kept (at_map bare s.views id v at) two found);
        history = k.history;
        replays = k.replays;
        each = each_set (HasTrueMarks k.history) vs other z
            (record { marks_are = All-nil (IsTrueMark k.history); idle = λ _. refl })
            (each_set (HasTrueMarks k.history) s.views id a
            (record { marks_are = All-append (IsTrueMark k.history) v.marks w.marks was.marks_are theirs.marks_are; idle = λ none. absurd (omega arith) })
            k.each);
        once = λ t.
            let o = k.once t in let c = sum_set (times_of t) s.views id v a at in
            let p = sum_set (times_of t) vs other w z at' in
            let q = sum_by-append (λ (y : Mark). if y.moment == t then 1 else 0) v.marks w.marks in omega arith;
        whole = let o = k.whole in let c = sum_set parts_of s.views id v a at in
            let p = sum_set parts_of vs other w z at' in omega arith;
      }
