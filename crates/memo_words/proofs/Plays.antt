-- What each step makes of a view, and what it tells.
use Rattle.std.proofs.Common.{◌≡◌, ℕ, ◌+◌, ◌-◌, ◌%◌, ◌^◌, ◌<◌, ◌≤◌, ◌≢◌, ◌==◌, List, ◌∷◌, length, set, sym, refl, ap, ◌∙◌, subst, if◌then◌else◌, All, Contains, eqb, mod-eq_of_lt, arith, get_or-set_same}
use mathlib.Core.Logic.{dite}
use native.Mathlib.Decide.{ℕ_discrete}
use mathlib.Core.Option.{Option, none, some}
use lib.ListN.{get_elem?}
use prog.Atomic.{either}
use Rattle.std.proofs.lemmas.List.Elements.{All-cons, All-contains}
use Rattle.atomic_table.specs.Table.{Me, step, keeps, stepped, Allows}
use Rattle.atomic_table.proofs.Lists.{set_here, exchanged}
use Rattle.adp_model.specs.declared.cell.Cell.{Cell}
use Rattle.adp_model.specs.declared.cell.Answer.{Answer}
use Rattle.adp_model.specs.Answers.{IsAnswer}
use Rattle.adp_model.specs.Demand.{IsDemanded, IsDemandedChild}
use Rattle.memo_words.specs.declared.part.Part.{Part}
use Rattle.memo_words.specs.declared.view.Seen.{Seen}
use Rattle.memo_words.specs.declared.view.Owned.{Owned}
use Rattle.memo_words.specs.declared.view.View.{View}
use Rattle.memo_words.specs.CodedCells.{IsCodeOf, answer_word}
use Rattle.memo_words.specs.Layout.{Plan, slots_of, records_of, probed, counter, key, key_place, record_place, arena_place}
use Rattle.memo_words.specs.Views.{seen_at, seen_too, seen_unless_0, owns, dropped, stored, last_at, cell_at, key_loaded, key_exchanged, record_loaded, record_exchanged, counter_added, arena_stored, arena_loaded}
use Rattle.memo_words.specs.Kept.{IsPublished, IsStored, name, arena, count_owned}
use Rattle.memo_words.specs.Steps.{KeysFit, AreKeys, StaySeen, IsNamedAnswer, KeyLoads, KeyExchanges, RecordLoads, RecordExchanges, CounterAdds, ArenaStores, ArenaLoads}
use Rattle.memo_words.specs.Passes.{IsReady}
use Rattle.memo_words.proofs.Lists.{at_below}
use Rattle.memo_words.proofs.Records.{chosen, is_yes, is_no, length-dropped, owns-dropped, owns_some, All-dropped}
use Rattle.memo_words.proofs.CodesApart.{code_some, cell_is, one_cell}
use Rattle.memo_words.proofs.Frame.{St, looked, arena_apart}
use Rattle.memo_words.proofs.Keys.{keys_put}
use Rattle.memo_words.proofs.Names.{name_put, owned_once}
use Rattle.memo_words.proofs.Room.{counter_up, has_room}
use Rattle.memo_words.proofs.Stores.{stored_put, name_below}
use Rattle.memo_words.proofs.Moves.{Rule, F, AreSeen, for_plan, one_more, more_unless_0}

module _ (plan : Plan) where
  are_keys : (s : St) (r : Rule plan s) (seen : List Seen) → AreSeen plan (key s.words) seen → AreKeys plan seen
  are_keys s r seen h = record {
    demanded = λ q saw. let is = h q saw in let st = r.keys q is.0 (let e = is.1 in omega arith) in
        (st.cell, subst (IsCodeOf st.cell) is.1 st.code, st.demanded);
    inside = λ q saw. (h q saw).0;
    apart = λ i j saw same. let a = h i saw in let b = h j (omega arith) in r.apart i j a.0 b.0 (let e = a.1 in
        omega arith) (a.1 ∙ (same ∙ sym b.1));
  }

  -- what was seen stays where a word that was seen is seen again
  stays_too : (read : ℕ → ℕ) (seen : List Seen) (q value : ℕ) → AreSeen plan read seen → (0 < seen_at seen q
      → value ≡ read q) → StaySeen seen (seen_too q value seen)
  stays_too read seen q value h same x full = chosen (λ (n : ℕ). n ≡ seen_at seen x) q x value (seen_at seen x)
      (λ e. let there : 0 < seen_at seen q = subst (λ (y : ℕ). 0 < seen_at seen y) (sym e) full in same there
      ∙ ((h q there).1 ∙ ap (seen_at seen) e)) (λ _. refl)

  stays_unless_0 : (read : ℕ → ℕ) (seen : List Seen) (q : ℕ) → AreSeen plan read seen
      → StaySeen seen (seen_unless_0 q (read q) seen)
  stays_unless_0 read seen q h = chosen (StaySeen seen) (read q) 0 seen (seen_too q (read q) seen) (λ _ x full. refl)
      (λ _. stays_too read seen q (read q) h (λ _. refl))

  -- the keys of a view that has its place in a later state
  keys_after : (s : St) (id : ℕ) (v w : View) (ws : List ℕ) (homes : List (Option ℕ)) → get_elem? s.views id ≡ some v
      → Rule plan (record { words = ws; homes = homes; views = set s.views id w }) → AreKeys plan w.keys
  keys_after s id v w ws homes at r = are_keys (record {
    words = ws;
    homes = homes;
    views
        = set s.views id w;
  }) r w.keys (r.each id w (set_here s.views id w (at_below s.views id v at))).keys

  -- a view that sees another key
  keys_fit : (ws : List ℕ) (v : View) (q value word found : ℕ) → q < slots_of plan → key ws q ≡ value → F plan ws v
      → F plan ws (record v { keys = seen_too q value v.keys; last = last_at word found })
  keys_fit ws v q value word found low is f = record {
    plan_is = f.plan_is;
    spent = f.spent;
    keys = one_more plan (key ws) v.keys q value low is f.keys;
    names = f.names;
    known = f.known;
    stored = f.stored;
    few = f.few;
  }

  pub loads_key : (n id q : ℕ) (me : Me ℕ View) → q < slots_of plan → 0 < me.0.weight
      → Allows (Rule plan) n id me (key_place q) (λ x. x) (KeyLoads (step n (key_place q) 0 0 none) me)
  loads_key n id q me lt live s r _ at _ =
      let v = me.0 in let found : ℕ = key s.words q in let w : View = key_loaded q found v in
      let fits = r.each id v at in
      let seen : AreSeen plan (key s.words) w.keys = more_unless_0 plan (key s.words) v.keys q lt fits.keys in
      let T : Plan → Type 0 = λ o. (x : ℕ) → key_place q ≡ key_place x
      → ((w, me.1) ≡ (key_loaded x found v, me.1)) × AreKeys o w.keys × StaySeen v.keys w.keys in
      let t : T plan = λ x e. let same : q ≡ x = omega arith in (
        (λ i. (key_loaded (same i) found v, me.1)),
        are_keys s r w.keys seen,
        stays_unless_0 (key s.words) v.keys q fits.keys,
      ) in (
        w,
        keeps,
        tt,
        looked plan s r (key_place q) id v w at refl refl refl record {
          plan_is = fits.plan_is;
          spent
              = fits.spent;
          keys = seen;
          names = fits.names;
          known = fits.known;
          stored = fits.stored;
          few = fits.few;
        },
        λ o x is e. for_plan plan v (fits.plan_is live) T t o is x e,
      )

  pub puts_key : (n id q code turn : ℕ) (cell : Cell) (me : Me ℕ View) → q < slots_of plan → 0 < me.0.weight
      → IsCodeOf cell code → IsDemanded plan.problem cell → probed plan code turn ≡ q
      → ((j : ℕ) → j < turn → (0 < seen_at me.0.keys (probed plan code j)) × (seen_at me.0.keys
      (probed plan code j) ≢ code))
      → Allows (Rule plan) n id me (key_place q) (λ x. either (eqb x 0) code x) (KeyExchanges (step n
      (key_place q) 0 code none) me)
  puts_key n id q code turn cell me lt live is demanded here others s r _ at _ =
      let v = me.0 in let found : ℕ = key s.words q in let now : ℕ = if found == 0 then code else found in
      let w : View = key_exchanged q code found v in let fits = r.each id v at in let wide = r.wide in
      let put : List ℕ = set s.words (key_place q) code in
      let some_code = code_some cell code is in
      let empty_put : found ≡ 0 → Rule plan (stepped s (key_place q) code id me.1 w keeps) = λ empty.
      keys_put plan s r id v w q code turn cell at lt empty is demanded here
      (λ j l. let o = others j l in let full = o.0 in let differs = o.1 in
      let same = (fits.keys (probed plan code j) o.0).1 in
      (let full' : 0 < key s.words (probed plan code j) = omega arith in full', λ e. differs (sym same ∙ e)))
      refl refl refl
      (keys_fit put v q now (key_place q) found lt (get_or-set_same s.words (key_place q) code 0 (omega arith)
      ∙ sym (is_yes found 0 code found empty))) in
      let full_put : found ≢ 0 → Rule plan (stepped s (key_place q) found id me.1 w keeps) = λ full.
      looked plan s r (key_place q) id v w at refl refl refl (keys_fit s.words v q now (key_place q) found lt (sym
      (is_no found 0 code found full)) fits) in
      let kept : Rule plan (stepped s (key_place q) (either
      (eqb found 0) code found) id me.1 w keeps) = exchanged found 0 code
      (λ u. Rule plan (stepped s (key_place q) u id me.1 w keeps)) empty_put full_put in
      let T : Plan → Type 0 = λ o. (x : ℕ) → key_place q ≡ key_place x
      → ((w, me.1) ≡ (key_exchanged x code found v, me.1)) × AreKeys o w.keys × StaySeen v.keys w.keys in
      let stays : StaySeen v.keys w.keys = stays_too (key s.words) v.keys q now fits.keys (λ full.
      let is = (fits.keys q full).1 in is_no found 0 code found (λ z. omega arith)) in
      let keys : AreKeys plan w.keys = keys_after s id v w (set s.words (key_place q) (either
      (eqb found 0) code found)) s.homes at kept in
      let t : T plan = λ x e. let same : q ≡ x = omega arith in
      ((λ i. (key_exchanged (same i) code found v, me.1)), keys, stays) in (
        w,
        keeps,
        tt,
        kept,
        λ o x is e. for_plan plan v (fits.plan_is live) T t o is x e,
      )

  -- the cell whose key was seen at a position with a record is published
  named_here : (s : St) (r : Rule plan s) (v : View) (q : ℕ) → F plan s.words v → q < slots_of plan
      → 0 < seen_at v.keys q → 0 < name plan s.words q → IsPublished plan s.words (cell_at v q)
  named_here s r v q fits lt saw full =
      let a = r.answered q lt full in let held = a.3 in
      let code : IsCodeOf a.0 (seen_at v.keys q) = subst (IsCodeOf a.0) (fits.keys q saw).1 held.key_is in
      subst (IsPublished plan s.words) (sym (cell_is a.0 (seen_at v.keys q) code)) (q, a.1, held)

  -- where the cell is published, this position has a record
  only_here : (s : St) (r : Rule plan s) (v : View) (q : ℕ) → F plan s.words v → q < slots_of plan
      → 0 < seen_at v.keys q → IsPublished plan s.words (cell_at v q) → 0 < name plan s.words q
  only_here s r v q fits lt saw h =
      let same = (fits.keys q saw).1 in let st = r.keys q lt (omega arith) in
      let code : IsCodeOf st.cell (seen_at v.keys q) = subst (IsCodeOf st.cell) same st.code in
      let is : IsCodeOf st.cell (key s.words h.0) = subst
      (λ (c : Cell). IsCodeOf c (key s.words h.0)) (cell_is st.cell (seen_at v.keys q) code) h.2.key_is in
      let keys : key s.words h.0 ≡ key s.words q = is.same ∙ sym st.code.same in
      let full = code_some st.cell (key s.words h.0) is in
      let here : h.0 ≡ q = r.apart h.0 q h.2.inside lt full keys in
      subst (λ (x : ℕ). 0 < name plan s.words x) here h.2.named

  known_here : (s : St) (r : Rule plan s) (v : View) (q : ℕ) → F plan s.words v → q < slots_of plan
      → 0 < seen_at v.keys q → Contains v.known (cell_at v q) → 0 < name plan s.words q
  known_here s r v q fits lt saw has = only_here s r v q fits lt saw (All-contains (IsPublished plan s.words) v.known
      (cell_at v q) fits.known has)

  loaded_fits : (s : St) (r : Rule plan s) (v : View) (q : ℕ) → F plan s.words v → q < slots_of plan
      → 0 < seen_at v.keys q → F plan s.words (record_loaded plan q (name plan s.words q) v)
  loaded_fits s r v q fits lt saw = record {
    plan_is = fits.plan_is;
    spent = fits.spent;
    keys = fits.keys;
    names = more_unless_0 plan (name plan s.words) v.names q lt fits.names;
    known = chosen (All (IsPublished plan s.words)) (name plan s.words q) 0 v.known (cell_at v q ∷ v.known)
        (λ _. fits.known)
        (λ n. All-cons (IsPublished plan s.words) (cell_at v q) v.known (named_here s r v q fits lt saw
        (omega arith)) fits.known);
    stored = fits.stored;
    few = fits.few;
  }

  name_low : (s : St) (r : Rule plan s) (q : ℕ) → q < slots_of plan → name plan s.words q ≤ records_of plan
  name_low s r q lt = dite (ℕ_discrete (name plan s.words q) 0) (λ z. omega arith) (λ n.
      let b = name_below plan s r q lt (omega arith) in let room = r.room in omega arith)

  pub loads_record : (n id q : ℕ) (me : Me ℕ View) → q < slots_of plan → 0 < me.0.weight → 0 < seen_at me.0.keys q
      → Allows (Rule plan) n id me (record_place (slots_of plan) q)
      (λ x. x) (RecordLoads (step n (record_place (slots_of plan) q) 0 0 none) me)
  loads_record n id q me lt live saw s r _ at _ =
      let v = me.0 in let found : ℕ = name plan s.words q in let w : View = record_loaded plan q found v in
      let fits = r.each id v at in
      let T : Plan → Type 0 = λ o. (x : ℕ) → record_place (slots_of plan) q ≡ record_place (slots_of o) x
      → ((w, me.1) ≡ (record_loaded o x found v, me.1)) × (Contains v.known (cell_at v x)
      → 0 < found) × (found ≤ records_of o) × StaySeen v.names w.names in
      let t : T plan = λ x e. let same : q ≡ x = omega arith in (
        (λ i. (record_loaded plan (same i) found v, me.1)),
        (λ has. known_here s r v q fits lt saw (subst (λ (y : ℕ). Contains v.known (cell_at v y)) (sym same) has)),
        name_low s r q lt,
        stays_unless_0 (name plan s.words) v.names q fits.names,
      ) in (
        w,
        keeps,
        tt,
        looked plan s r (record_place (slots_of plan) q) id v w at refl refl refl (loaded_fits s r v q fits lt saw),
        λ o x is e. for_plan plan v (fits.plan_is live) T t o is x e,
      )

  pub puts_record : (n id q : ℕ) (cell : Cell) (answer : Answer) (o : Owned) (me : Me ℕ View) → q < slots_of plan
      → 0 < me.0.weight → IsCodeOf cell (seen_at me.0.keys q) → Contains me.0.owned o
      → IsAnswer plan.problem cell answer → ((part : Part) → stored part o ≡ answer_word part answer)
      → ((child : Cell) → IsDemandedChild plan.problem cell child → Contains me.0.known child)
      → Allows (Rule plan) n id me (record_place (slots_of plan) q)
      (λ x. either (eqb x 0) (o.number + 1) x) (RecordExchanges (step n (record_place (slots_of plan) q) 0
      (o.number + 1) none) me)
  puts_record n id q cell answer o me lt live code has is_answer codes children s r _ at _ =
      let v = me.0 in let ws = s.words in let fits = r.each id v at in let found : ℕ = name plan ws q in
      let w : View = record_exchanged plan q o.number found v in
      let saw : 0 < seen_at v.keys q = code_some cell (seen_at v.keys q) code in
      let same = (fits.keys q saw).1 in let key_is : IsCodeOf cell (key ws q) = subst (IsCodeOf cell) (sym same) code in
      let cell_same : cell_at v q ≡ cell = cell_is cell (seen_at v.keys q) code in
      let us : List ℕ = set ws (record_place (slots_of plan) q) (o.number + 1) in let owner = owns_some v.owned o has in
      let empty_put : found ≡ 0 → Rule plan (stepped s (record_place (slots_of plan) q)
      (o.number + 1) id me.1 w keeps) = λ empty.
      let gone : w.owned ≡ dropped o.number v.owned = is_yes found 0 (dropped o.number v.owned) v.owned empty in
      name_put plan s r id v w q cell answer o at lt empty key_is has is_answer codes children refl (is_yes found 0
      (v.wins + 1) v.wins empty) gone (λ f here. record {
        plan_is = f.plan_is;
        spent = λ none. absurd (omega arith);
        keys = f.keys;
        names = f.names;
        known = All-cons (IsPublished plan us) (cell_at v q) v.known (subst (IsPublished plan us) (sym cell_same) (
          q,
          answer,
          here,
        )) f.known;
        stored = subst (All (IsStored plan us)) (sym gone) (All-dropped (IsStored plan us) o.number v.owned f.stored);
        few = let a = length-dropped o.number v.owned owner in let b = ap (λ (l : List Owned). length l) gone in
            let c = f.few in omega arith;
      }) in
      let full_put : found ≢ 0 → Rule plan (stepped s (record_place (slots_of plan) q) found id me.1 w keeps) = λ full.
      looked plan s r (record_place (slots_of plan) q) id v w at refl (is_no found 0 (v.wins + 1) v.wins full)
      (is_no found 0 (dropped o.number v.owned) v.owned full) record {
        plan_is = fits.plan_is;
        spent = λ none. absurd (omega arith);
        keys = fits.keys;
        names = fits.names;
        known = All-cons (IsPublished plan ws) (cell_at v q) v.known (named_here s r v q fits lt saw
            (omega arith)) fits.known;
        stored = subst (All (IsStored plan ws)) (sym (is_no found 0
            (dropped o.number v.owned) v.owned full)) fits.stored;
        few = let b = ap (λ (l : List Owned). length l) (is_no found 0 (dropped o.number v.owned) v.owned full) in
            let c = fits.few in omega arith;
      } in
      let given_up : found ≡ 0 → owns o.number w.owned ≡ 0 = λ empty.
      let gone = ap (owns o.number) (is_yes found 0 (dropped o.number v.owned) v.owned empty) in
      let d = owns-dropped o.number v.owned owner in
      let one = owned_once plan s r id v o.number at owner in omega arith in
      let T : Plan → Type 0 = λ a. (x m : ℕ) → record_place (slots_of plan) q ≡ record_place (slots_of a) x
      → o.number + 1 ≡ m + 1
      → ((w, me.1) ≡ (record_exchanged a x m found v, me.1)) × (Contains v.known (cell_at v x)
      → 0 < found) × (found ≡ 0 → owns m w.owned ≡ 0) in
      let t : T plan = λ x m e d. let there : q ≡ x = omega arith in let number_is : o.number ≡ m = omega arith in (
        (λ i. (record_exchanged plan (there i) (number_is i) found v, me.1)),
        (λ k. known_here s r v q fits lt saw (subst (λ (y : ℕ). Contains v.known (cell_at v y)) (sym there) k)),
        (λ empty. subst (λ (n : ℕ). owns n w.owned ≡ 0) number_is (given_up empty)),
      ) in (
        w,
        keeps,
        tt,
        exchanged found 0 (o.number + 1) (λ u. Rule plan (stepped s (record_place
            (slots_of plan) q) u id me.1 w keeps)) empty_put full_put,
        λ a x m is e d. for_plan plan v (fits.plan_is live) T t a is x m e d,
      )

  pub adds_counter : (n id : ℕ) (me : Me ℕ View) → KeysFit plan → 0 < me.0.weight → count_owned me.0 < me.0.weight
      → records_of plan < 2 ^ 63
      → Allows (Rule plan) n id me 0 (λ x. (x + 1) % 2 ^ 64) (CounterAdds (step n 0 1 0 none) me)
  adds_counter n id me fit live less small s r _ at _ =
      let v = me.0 in let fits = r.each id v at in let found : ℕ = counter s.words in
      let w : View = counter_added found v in
      let room = has_room plan fit s r id v at less in
      let whole : (found + 1) % 2 ^ 64 ≡ found + 1 = mod-eq_of_lt (omega arith) in
      let T : Plan → Type 0 = λ o. ((w, me.1) ≡ (counter_added found v, me.1)) × (found < records_of o) in (
        w,
        keeps,
        tt,
        subst (λ (u : ℕ). Rule plan (stepped s 0 u id me.1 w keeps)) (sym whole)
            (counter_up plan fit s r id v w at less refl refl refl refl record {
              plan_is = fits.plan_is;
              spent
                  = fits.spent;
              keys = fits.keys;
              names = fits.names;
              known = fits.known;
              stored = fits.stored;
              few
                  = fits.few;
            }),
        λ o is. for_plan plan v (fits.plan_is live) T (refl, room) o is,
      )

  pub stores_arena : (n id number code : ℕ) (part : Part) (me : Me ℕ View) → 0 < me.0.weight
      → 0 < owns number me.0.owned → number < records_of plan
      → Allows (Rule plan) n id me (arena_place (slots_of plan) (records_of plan) part number) (λ _. code)
      (λ _. ArenaStores (step n (arena_place (slots_of plan) (records_of plan) part number) code 0 none) me code)
  stores_arena n id number code part me live owner low s r _ at _ =
      let v = me.0 in let fits = r.each id v at in let w : View = arena_stored plan part number code v in
      let place : ℕ = arena_place (slots_of plan) (records_of plan) part number in
      let T : Plan → Type 0 = λ o. (b : Part) (m : ℕ) → m < records_of o
      → place ≡ arena_place (slots_of o) (records_of o) b m → (w, me.1) ≡ (arena_stored o b m code v, me.1) in
      let t : T plan = λ b m l e. let same = arena_apart (slots_of plan) (records_of plan) part b number m low l e in
      (λ i. (arena_stored plan (same.0 i) (same.1 i) code v, me.1)) in (
        w,
        keeps,
        tt,
        stored_put plan s r id v w part number code at owner refl refl refl record {
          plan_is = fits.plan_is;
          spent
              = fits.spent;
          keys = fits.keys;
          names = fits.names;
          known = fits.known;
          stored = fits.stored;
          few
              = fits.few;
        },
        λ o b m is l e. for_plan plan v (fits.plan_is live) T t o is b m l e,
      )

  pub loads_arena : (n id number : ℕ) (part : Part) (me : Me ℕ View) → 0 < me.0.weight → number < records_of plan
      → Allows (Rule plan) n id me (arena_place (slots_of plan) (records_of plan) part number)
      (λ x. x) (ArenaLoads (step n (arena_place (slots_of plan) (records_of plan) part number) 0 0 none) me)
  loads_arena n id number part me live low s r _ at _ =
      let v = me.0 in let fits = r.each id v at in let place : ℕ = arena_place (slots_of plan)
      (records_of plan) part number in let found : ℕ = arena plan s.words part number in
      let w : View = arena_loaded plan part number found v in
      let told : IsNamedAnswer plan v part number found = λ q cell code named.
      let is = fits.names q (omega arith) in let lt = is.0 in let name_is = is.1 in
      let a = r.answered q lt (omega arith) in let held = a.3 in
      let saw = code_some cell (seen_at v.keys q) code in
      let cells : cell ≡ a.0 = one_cell cell a.0 (seen_at v.keys q) code (subst (IsCodeOf a.0)
      (fits.keys q saw).1 held.key_is) in
      let number_is : name plan s.words q - 1 ≡ number = omega arith in (
        a.1,
        subst (λ (c : Cell). IsAnswer plan.problem c a.1) (sym cells) a.2,
        sym (ap (arena plan s.words part) number_is) ∙ held.codes part,
      ) in
      let T : Plan → Type 0 = λ o. (b : Part) (m : ℕ) → m < records_of o
      → place ≡ arena_place (slots_of o) (records_of o) b m
      → ((w, me.1) ≡ (arena_loaded o b m found v, me.1)) × IsNamedAnswer o v b m found in
      let t : T plan = λ b m l e. let same = arena_apart (slots_of plan) (records_of plan) part b number m low l e in (
        (λ i. (arena_loaded plan (same.0 i) (same.1 i) found v, me.1)),
        subst (λ (z : Part × ℕ). IsNamedAnswer plan v z.0 z.1 found) (λ i. (same.0 i, same.1 i)) told,
      ) in (
        w,
        keeps,
        tt,
        looked plan s r place id v w at refl refl refl record {
          plan_is = fits.plan_is;
          spent = fits.spent;
          keys
              = fits.keys;
          names = fits.names;
          known = fits.known;
          stored = fits.stored;
          few = fits.few;
        },
        λ o b m is l e. for_plan plan v (fits.plan_is live) T t o is b m l e,
      )

  -- the same at places that are these by an equation
  pub loads_key_at : (n id q place : ℕ) (me : Me ℕ View) → place ≡ key_place q → q < slots_of plan → 0 < me.0.weight
      → Allows (Rule plan) n id me place (λ x. x) (KeyLoads (step n place 0 0 none) me)
  loads_key_at n id q place me e lt live = subst (λ (i : ℕ). Allows (Rule plan) n id me i
      (λ x. x) (KeyLoads (step n i 0 0 none) me)) (sym e) (loads_key n id q me lt live)

  pub puts_key_at : (n id q place code turn put : ℕ) (cell : Cell) (me : Me ℕ View) → place ≡ key_place q → put ≡ code
      → q < slots_of plan → 0 < me.0.weight → IsCodeOf cell code → IsDemanded plan.problem cell
      → probed plan code turn ≡ q
      → ((j : ℕ) → j < turn → (0 < seen_at me.0.keys (probed plan code j)) × (seen_at me.0.keys
      (probed plan code j) ≢ code))
      → Allows (Rule plan) n id me place (λ x. either (eqb x 0) put x) (KeyExchanges (step n place 0 put none) me)
  puts_key_at n id q place code turn put cell me e d lt live is demanded here others = subst
      (λ (z : ℕ × ℕ). Allows (Rule plan) n id me z.0
      (λ x. either (eqb x 0) z.1 x) (KeyExchanges (step n z.0 0 z.1 none) me)) (λ i. (sym e i, sym d i))
      (puts_key n id q code turn cell me lt live is demanded here others)

  pub loads_record_at : (n id q place : ℕ) (me : Me ℕ View) → place ≡ record_place (slots_of plan) q
      → q < slots_of plan → 0 < me.0.weight → 0 < seen_at me.0.keys q
      → Allows (Rule plan) n id me place (λ x. x) (RecordLoads (step n place 0 0 none) me)
  loads_record_at n id q place me e lt live saw = subst (λ (i : ℕ). Allows (Rule plan) n id me i
      (λ x. x) (RecordLoads (step n i 0 0 none) me)) (sym e) (loads_record n id q me lt live saw)

  pub puts_record_at : (n id q place number : ℕ) (me : Me ℕ View) → IsReady plan.problem me.0 q number
      → place ≡ record_place (slots_of plan) q → q < slots_of plan → 0 < me.0.weight
      → Allows (Rule plan) n id me place (λ x. either (eqb x 0) (number + 1) x) (RecordExchanges (step n place 0
      (number + 1) none) me)
  puts_record_at n id q place number me ready e lt live = subst (λ (z : ℕ × ℕ). Allows (Rule plan) n id me z.0
      (λ x. either (eqb x 0) (z.1 + 1) x) (RecordExchanges (step n z.0 0 (z.1 + 1) none) me)) (λ i. (
        sym e i,
        ready.number_is i,
      ))
      (puts_record n id q ready.cell ready.answer ready.owned me lt live ready.seen ready.mine ready.right ready.codes
      ready.children)

  pub stores_arena_at : (n id number code place : ℕ) (part : Part) (me : Me ℕ View)
      → place ≡ arena_place (slots_of plan) (records_of plan) part number → 0 < me.0.weight
      → 0 < owns number me.0.owned → number < records_of plan
      → Allows (Rule plan) n id me place (λ _. code) (λ _. ArenaStores (step n place code 0 none) me code)
  stores_arena_at n id number code place part me e live owner low = subst (λ (i : ℕ). Allows (Rule plan) n id me i
      (λ _. code) (λ _. ArenaStores (step n i code 0 none) me code)) (sym e)
      (stores_arena n id number code part me live owner low)

  pub loads_arena_at : (n id number place : ℕ) (part : Part) (me : Me ℕ View)
      → place ≡ arena_place (slots_of plan) (records_of plan) part number → 0 < me.0.weight → number < records_of plan
      → Allows (Rule plan) n id me place (λ x. x) (ArenaLoads (step n place 0 0 none) me)
  loads_arena_at n id number place part me e live low = subst (λ (i : ℕ). Allows (Rule plan) n id me i
      (λ x. x) (ArenaLoads (step n i 0 0 none) me)) (sym e) (loads_arena n id number part me live low)
