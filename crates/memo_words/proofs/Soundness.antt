-- What every pass keeps goes on to hold.
use Rattle.std.proofs.Common.{◌≡◌, ◌≢◌, ℕ, ◌+◌, ◌<◌, ◌≤◌, ◌==◌, if◌then◌else◌, ◌⊎◌, inl, inr, ⊎_elim, List, ◌++◌, length, length-append, Option, None, Some, sym, refl, ap, ◌∙◌, subst, arith}
use mathlib.Core.Logic.{dite}
use native.Mathlib.Decide.{ℕ_discrete}
use Rattle.atomic_table.specs.Table.{Me}
use Rattle.memo_words.specs.declared.part.Part.{Part}
use Rattle.memo_words.specs.declared.view.Owned.{Owned}
use Rattle.memo_words.specs.declared.view.Seen.{Seen}
use Rattle.memo_words.specs.declared.view.View.{View}
use Rattle.memo_words.specs.Layout.{Plan, records_of}
use Rattle.memo_words.specs.Views.{IsSound, hands, owns, dropped, seen_at, seen_too, joined, record_loaded, record_exchanged, counter_added, arena_stored, hand_after, hand_of_both}
use Rattle.memo_words.proofs.Records.{chosen, is_yes, is_no, one_if, none_if, seen-append, owns-append, length-dropped, owns-dropped, owns-dropped_other}
use Rattle.memo_words.proofs.Stores.{owns-with_stored, length-with_stored}

empty : (number : ℕ) → None ≢ Some number
empty number e = let h = ap hands e in omega arith

one_hand : (hand : Option ℕ) → hands hand ≤ 1
one_hand None = omega arith
one_hand (Some number) = omega arith

pub sound_loaded : (plan : Plan) (hand : Option ℕ) (me : Me ℕ View) (position found : ℕ) → me.0.plan ≡ Some plan
    → found ≤ records_of plan → IsSound hand me → IsSound hand (record_loaded plan position found me.0, me.1)
sound_loaded plan hand me position found mine few s = (
  s.0,
  s.1,
  s.2,
  s.3,
  s.4,
  (λ p x is. let same : plan ≡ p = cc in
      chosen (λ (seen : List Seen). seen_at seen x ≤ records_of p) found 0 me.0.names
      (seen_too position found me.0.names) (λ _. s.5 p x is)
      (λ _. chosen (λ (n : ℕ). n ≤ records_of p) position x found (seen_at me.0.names x) (λ _. subst
      (λ (o : Plan). found ≤ records_of o) same few) (λ _. s.5 p x is))),
)

pub sound_joined : (a b : Option ℕ) (me other : Me ℕ View) → IsSound a me → IsSound b other → me.0.plan ≡ other.0.plan
    → IsSound (hand_of_both a b) (joined me.0 other.0, me.1)
sound_joined a b me other s t same =
    let v = me.0 in let w = other.0 in (
      s.0,
      (let l = s.1 in omega arith),
      held v w a b s.2 t.2,
      few v w a b s.3 t.3,
      (λ p number is own. let o = owns-append number v.owned w.owned in
          ⊎_elim (λ h. s.4 p number is h) (λ h. t.4 p number (sym same ∙ is) h) (either_owns v w number (omega arith))),
      (λ p x is. ⊎_elim (λ e. let h = s.5 p x is in omega arith) (λ e.
          let h = t.5 p x (sym same ∙ is) in omega arith) (seen-append v.names w.names x)),
    )
  where
    either_owns : (v w : View) (number : ℕ) → 0 < owns number v.owned + owns number w.owned
        → (0 < owns number v.owned) ⊎ (0 < owns number w.owned)
    either_owns v w number h = dite (ℕ_discrete (owns number v.owned) 0) (λ z. inr (omega arith))
        (λ n. inl (omega arith))

    held : (v w : View) (a b : Option ℕ) → ((number : ℕ) → a ≡ Some number → 0 < owns number v.owned) → ((number : ℕ)
        → b ≡ Some number → 0 < owns number w.owned)
        → (number : ℕ) → hand_of_both a b ≡ Some number → 0 < owns number (v.owned ++ w.owned)
    held v w None b f g number e = let h = g number e in let o = owns-append number v.owned w.owned in omega arith
    held v w (Some m) b f g number e = let h = f number e in let o = owns-append number v.owned w.owned in omega arith

    few : (v w : View) (a b : Option ℕ) → length v.owned < v.weight + hands a → length w.owned < w.weight + hands b
        → length (v.owned ++ w.owned) < v.weight + w.weight + hands (hand_of_both a b)
    few v w None b l k = let long = length-append v.owned w.owned in omega arith
    few v w (Some m) b l k = let long = length-append v.owned w.owned in let h = one_hand b in omega arith

pub sound_added : (plan : Plan) (me : Me ℕ View) (found : ℕ) → me.0.plan ≡ Some plan → found < records_of plan
    → IsSound None me → IsSound (Some found) (counter_added found me.0, me.1)
sound_added plan me found mine few s = (
  s.0,
  s.1,
  (λ number e. let same = ap (number_or found) e in let y = one_if found number same in omega arith),
  (let l = s.3 in omega arith),
  (λ p number is own. let same : plan ≡ p = cc in
      dite (ℕ_discrete found number) (λ e. subst (λ (z : Plan × ℕ). z.1 < records_of z.0) (λ i. (same i, e i)) few)
      (λ n. let z = none_if found number n in s.4 p number is (omega arith))),
  s.5,
)
  where
    number_or : ℕ → Option ℕ → ℕ
    number_or d None = d
    number_or d (Some n) = n

pub sound_stored : (plan : Plan) (hand : Option ℕ) (me : Me ℕ View) (part : Part) (number code : ℕ) → IsSound hand me
    → IsSound hand (arena_stored plan part number code me.0, me.1)
sound_stored plan hand me part number code s =
    let same : (n : ℕ) → owns n (arena_stored plan part number code me.0).owned ≡ owns n me.0.owned
    = λ n. owns-with_stored part number code n me.0.owned in (
      s.0,
      s.1,
      (λ n e. let o = same n in let h = s.2 n e in omega arith),
      (let l = length-with_stored part number code me.0.owned in let h = s.3 in omega arith),
      (λ p n is own. let o = same n in s.4 p n is (omega arith)),
      s.5,
    )

pub sound_named : (plan : Plan) (hand : Option ℕ) (me : Me ℕ View) (position number found : ℕ)
    → 0 < owns number me.0.owned → IsSound hand me
    → IsSound (hand_after hand number found) (record_exchanged plan position number found me.0, me.1)
sound_named plan hand me position number found owner s =
    dite (ℕ_discrete found 0)
    (λ e. let gone : (record_exchanged plan position number found me.0).owned ≡ dropped number me.0.owned
    = is_yes found 0 (dropped number me.0.owned) me.0.owned e in
    let fewer = ap (λ (l : List Owned). length l) gone in let d = length-dropped number me.0.owned owner in
    let own : (n : ℕ) → owns n (record_exchanged plan position number found me.0).owned ≡ owns n
    (dropped number me.0.owned) = λ n. ap (owns n) gone in (
      s.0,
      s.1,
      (λ n h. let o = own n in let k = still hand e s.2 n h in omega arith),
      (let l = s.3 in let k = less hand in omega arith),
      (λ p n is h. let o = own n in let m = dropped_less n in s.4 p n is (omega arith)),
      s.5,
    ))
    (λ ne. let stays : (record_exchanged plan position number found me.0).owned ≡ me.0.owned = is_no found 0
    (dropped number me.0.owned) me.0.owned ne in
    let long = ap (λ (l : List Owned). length l) stays in
    let own : (n : ℕ) → owns n (record_exchanged plan position number found me.0).owned ≡ owns n me.0.owned = λ n. ap
    (owns n) stays in
    let hand_is : hand_after hand number found ≡ hand = after_none hand ne in (
      s.0,
      s.1,
      (λ n h. let o = own n in let k = s.2 n (sym hand_is ∙ h) in omega arith),
      (let l = s.3 in let k = ap hands hand_is in omega arith),
      (λ p n is h. let o = own n in s.4 p n is (omega arith)),
      s.5,
    ))
  where
    less : (hand : Option ℕ) → hands hand ≤ hands (hand_after hand number found) + 1
    less None = omega arith
    less (Some m) = let h = one_hand (Some m) in omega arith

    after_none : (hand : Option ℕ) → found ≢ 0 → hand_after hand number found ≡ hand
    after_none None ne = refl
    after_none (Some m) ne = is_no found 0 (if m == number then None else Some m) (Some m) ne

    number_of : ℕ → Option ℕ → ℕ
    number_of d None = d
    number_of d (Some n) = n

    still : (hand : Option ℕ) → found ≡ 0 → ((n : ℕ) → hand ≡ Some n → 0 < owns n me.0.owned) → (n : ℕ)
        → hand_after hand number found ≡ Some n → 0 < owns n (dropped number me.0.owned)
    still None e f n h = absurd (empty n h)
    still (Some m) e f n h =
        let t : (if m == number then None else Some m) ≡ Some n = sym (is_yes found 0
        (if m == number then None else Some m) (Some m) e) ∙ h in
        dite (ℕ_discrete m number) (λ same. absurd (empty n (sym (is_yes m number None (Some m) same) ∙ t)))
        (λ other. let u : Some m ≡ Some n = sym (is_no m number None (Some m) other) ∙ t in let w = f n u in
        let k : m ≡ n = ap (number_of m) u in let d = owns-dropped_other number n me.0.owned (λ q. other (k
        ∙ q)) in omega arith)

    dropped_less : (n : ℕ) → owns n (dropped number me.0.owned) ≤ owns n me.0.owned
    dropped_less n = dite (ℕ_discrete n number) (λ e. let o = owns-dropped number me.0.owned owner in
        let a = ap (λ k. owns k me.0.owned) e in let b = ap (λ k. owns k (dropped number me.0.owned)) e in
        omega arith) (λ d. let o = owns-dropped_other number n me.0.owned d in omega arith)
