-- A mark that a view gained is true: whatever a step did, where the rule with its history held before and holds after,
-- the word held the number of the mark, and holds what the mark's deed leaves.
use Rattle.std.proofs.Common.{◌≡◌, Bool, ℕ, zero, suc, ◌+◌, ◌<◌, ◌≤◌, ◌≢◌, ◌==◌, List, [], ◌∷◌, ◌++◌, length, set, sym, refl, ap, ◌∙◌, subst, slice_index, slice_set, if◌then◌else◌, eq-eqb, ne_eqb, sum_by, All, arith}
use mathlib.Core.Logic.{dite}
use mathlib.Core.Option.{some, some-injective, some-ne-none}
use native.Mathlib.Decide.{ℕ_discrete, dec_lt}
use lib.ListN.{get_elem?}
use Rattle.std.proofs.lemmas.List.Sums.{sum_by_push, sum_by-cons}
use Rattle.atomic_table.specs.Table.{State}
use Rattle.atomic_table.proofs.Lists.{set_here, set_else, at_last}
use Rattle.history_table.specs.declared.history.Deed.{Deed}
use Rattle.history_table.specs.declared.history.Event.{Event}
use Rattle.history_table.specs.declared.history.Mark.{Mark}
use Rattle.history_table.specs.declared.history.WithMarks.{WithMarks}
use Rattle.history_table.specs.History.{left_by, Replays, zeros, times, once_below, IsTrueMark, event, mark, times_of, HasMarked, KeptWithHistory}
use Rattle.history_table.proofs.Lists.{at_below, sum_set}

hit : (a b : ℕ) → a ≡ b → ◌≡◌ {A = ℕ} (if a == b then 1 else 0) 1
hit a b e = ap (λ (c : Bool). let n : ℕ = (if c then 1 else 0) in n) (eq-eqb a b e)

miss : (a b : ℕ) → a ≢ b → ◌≡◌ {A = ℕ} (if a == b then 1 else 0) 0
miss a b n = ap (λ (c : Bool). let n : ℕ = (if c then 1 else 0) in n) (ne_eqb a b n)

above : (t n : ℕ) → n ≤ t → once_below t n ≡ 0
above t zero le = refl
above t (suc n) le = let m = miss n t (λ e. absurd (omega arith)) in let r = above t n (omega arith) in omega arith

below : (t n : ℕ) → t < n → once_below t n ≡ 1
below t zero lt = absurd (omega arith)
below t (suc n) lt = dite (ℕ_discrete n t)
    (λ e. let h = hit n t e in let r = above t n (omega arith) in omega arith)
    (λ ne. let m = miss n t ne in let r = below t n (omega arith) in omega arith)

-- a mark more, and each moment is that of one mark again: so the mark is the last event, and there is one more
one_last : (m n n' : ℕ) → ((t : ℕ) → once_below t n' ≡ once_below t n + (if m == t then 1 else 0))
    → (m ≡ n) × (n' ≡ suc n)
one_last m n n' all =
    let at_m = all m in let h = hit m m refl in
    let low : n ≤ m = dite (dec_lt m n)
    (λ lt. let b = below m n lt in dite (dec_lt m n') (λ l. let c = below m n' l in absurd (omega arith))
    (λ g. let c = above m n' (omega arith) in absurd (omega arith)))
    (λ g. omega arith) in
    let high : m < n' = dite (dec_lt m n') (λ l. l) (λ g. let c = above m n' (omega arith) in absurd (omega arith)) in
    let is : m ≡ n = dite (ℕ_discrete m n) (λ e. e) (λ ne. let at_n = all n in let z = miss m n ne in let a = above n n (omega arith) in
    let b = below n n' (omega arith) in absurd (omega arith)) in
    let top : n' ≤ suc n = dite (dec_lt (suc n) n') (λ l. let at_s = all (suc n) in let z = miss m (suc n) (λ e. absurd (omega arith)) in let a = above (suc n) n (omega arith) in
    let b = below (suc n) n' l in absurd (omega arith)) (λ g. omega arith) in
    (is, omega arith)

module _ {A : Type 0} where
  -- where a sum is more than 0, one of its terms is
  one_of : (f : A → ℕ) (xs : List A) → 0 < sum_by f xs → (i : ℕ) × (a : A) × (get_elem? xs i ≡ some a) × (0 < f a)
  one_of f [] some_term = absurd (omega arith)
  one_of f (x ∷ xs) some_term = let s = sum_by-cons f x xs in dite (dec_lt 0 (f x)) (λ lt. (0, x, refl, lt))
      (λ none. let r = one_of f xs (omega arith) in (suc r.0, r.1, r.2, r.3))

  all_at : (P : A → Type 0) (xs : List A) (i : ℕ) (a : A) → All P xs → get_elem? xs i ≡ some a → P a
  all_at P [] i a h e = absurd (some-ne-none a (sym e))
  all_at P (x ∷ xs) zero a h e = subst P (some-injective x a e) (h 0 x (omega arith))
  all_at P (x ∷ xs) (suc i) a h e = all_at P xs i a (λ k d lt. h (suc k) d (omega arith)) e

  at_front : (xs ys : List A) (i : ℕ) (a : A) → get_elem? xs i ≡ some a → get_elem? (xs ++ ys) i ≡ some a
  at_front [] ys i a e = absurd (some-ne-none a (sym e))
  at_front (x ∷ xs) ys zero a e = e
  at_front (x ∷ xs) ys (suc i) a e = at_front xs ys i a e

-- two histories, the second with one event more than the first, and as the first up to there
last_event : (a b b' : List ℕ) (h h' : List Event) (e : Event) → Replays a h b → Replays a h' b' → length h' ≡ suc (length h)
    → ((t : ℕ) → t < length h → (g : Event) × (get_elem? h t ≡ some g) × (get_elem? h' t ≡ some g))
    → get_elem? h' (length h) ≡ some e
    → (slice_index b e.word ≡ e.found) × (b' ≡ slice_set b e.word (left_by e.deed e.found))
last_event a b b' h [] e r r' long same at = absurd (omega arith)
last_event a b b' [] (x ∷ y ∷ ys) e r r' long same at = absurd (omega arith)
last_event a b b' [] (x ∷ []) e r r' long same at =
    subst (λ (z : Event). (slice_index b z.word ≡ z.found) × (b' ≡ slice_set b z.word (left_by z.deed z.found)))
    (some-injective x e at)
    (subst (λ (ws : List ℕ). (slice_index ws x.word ≡ x.found) × (b' ≡ slice_set ws x.word (left_by x.deed x.found))) r (r'.0, sym r'.1))
last_event a b b' (g ∷ h) (x ∷ xs) e r r' long same at =
    let here = same 0 (omega arith) in
    let is : x ≡ g = some-injective x here.0 here.2 ∙ sym (some-injective g here.0 here.1) in
    last_event (slice_set a g.word (left_by g.deed g.found)) b b' h xs e r.1
    (subst (λ (z : Event). Replays (slice_set a z.word (left_by z.deed z.found)) xs b') is r'.1) (omega arith)
    (λ t lt. same (suc t) (omega arith)) at

module _ {S V : Type 0} (holds : State S V → Type 0) (seats : ℕ) where
  pub true_mark : (s t : State S (WithMarks V)) (id word found : ℕ) (deed : Deed) (v w : WithMarks V)
      → KeptWithHistory holds seats s → KeptWithHistory holds seats t → get_elem? s.views id ≡ some v → t.views ≡ set s.views id w
      → length t.words ≡ length s.words → HasMarked word deed found v w
      → (slice_index s.words word ≡ found) × (t.words ≡ slice_set s.words word (left_by deed found))
  true_mark s t id word found deed v w k k' at views wide marked =
      let h : List Event = k.history in let h' : List Event = k'.history in
      let moment : ℕ = marked.0 in let m : Mark = mark moment word deed found in
      let counts : (x : ℕ) → once_below x (length h') ≡ once_below x (length h) + (if moment == x then 1 else 0) = λ x.
      let o = k.once x in let o' = k'.once x in let c = sum_set (times_of x) s.views id v w at in
      let p = sum_by_push (λ (y : Mark). if y.moment == x then 1 else 0) v.marks m in
      let q = ap (times x) marked.1 in let z = ap (sum_by (times_of x)) views in omega arith in
      let last = one_last moment (length h) (length h') counts in
      let there : get_elem? t.views id ≡ some w = ap (λ (vs : List (WithMarks V)). get_elem? vs id) views ∙ set_here s.views id w (at_below s.views id v at) in
      let mine = (k'.each id w there).marks_are in
      let same : (x : ℕ) → x < length h → (g : Event) × (get_elem? h x ≡ some g) × (get_elem? h' x ≡ some g) = λ x lt.
      let o = k.once x in let one = below x (length h) lt in
      let who = one_of (times_of x) s.views (omega arith) in let j : ℕ = who.0 in let u : WithMarks V = who.1 in
      let which = one_of (λ (y : Mark). if y.moment == x then 1 else 0) u.marks who.3 in let y : Mark = which.1 in
      let is : y.moment ≡ x = dite (ℕ_discrete y.moment x) (λ e. e) (λ ne. let z = miss y.moment x ne in let lt' = which.3 in absurd (omega arith)) in
      let old : get_elem? h y.moment ≡ some y.event = all_at (IsTrueMark h) u.marks which.0 y (k.each j u who.2).marks_are which.2 in
      let new : get_elem? h' y.moment ≡ some y.event = dite (ℕ_discrete j id)
      (λ e. let is_v : v ≡ u = some-injective v u (sym at ∙ (ap (get_elem? s.views) (sym e) ∙ who.2)) in
      all_at (IsTrueMark h') w.marks which.0 y mine (ap (λ (ms : List Mark). get_elem? ms which.0) marked.1
      ∙ at_front v.marks (m ∷ []) which.0 y (ap (λ (z : WithMarks V). get_elem? z.marks which.0) is_v ∙ which.2)))
      (λ ne. all_at (IsTrueMark h') u.marks which.0 y (k'.each j u (ap (λ (vs : List (WithMarks V)). get_elem? vs j) views
      ∙ (set_else s.views id j w ne ∙ who.2))).marks_are which.2) in
      (y.event, ap (get_elem? h) (sym is) ∙ old, ap (get_elem? h') (sym is) ∙ new) in
      let mark_at : get_elem? h' moment ≡ some (event word deed found) = all_at (IsTrueMark h') w.marks (length v.marks) m mine
      (ap (λ (ms : List Mark). get_elem? ms (length v.marks)) marked.1 ∙ at_last v.marks m (length v.marks) refl) in
      last_event (zeros (length s.words)) s.words t.words h h' (event word deed found) k.replays
      (subst (λ (z : ℕ). Replays (zeros z) h' t.words) wide k'.replays) last.1 same
      (ap (get_elem? h') (sym last.0) ∙ mark_at)
