-- How far letters of a class go on, and what the letters of a span weigh, letter by letter.
use Rattle.std.proofs.Common.{◌≡◌, ◌↔◌, ℕ, suc, ◌+◌, ◌-◌, ◌*◌, ◌^◌, ◌<◌, ◌≤◌, min, ℤ, pos, ◌+ℤ◌, ◌-ℤ◌, nat_abs, true, false, Option, Some, None, List, [], ◌∷◌, ◌++◌, length, take, drop, get_or, refl, sym, ap, subst, ◌∙◌, inl, inr, arith, length-drop}
use Rattle.std.specs.List.{AllByRecursion}
use Rattle.std.specs.Option.{is_some}
use Rattle.std.specs.Prelude.{◌==◌}
use Rattle.std.proofs.lemmas.Bool.{cases_Bool, cases_lt, false≢true}
use Rattle.std.proofs.lemmas.Int.{ints}
use Rattle.std.proofs.lemmas.List.{take_more, get_or-drop, drop_more, take-take, take-append-drop, drop-take}
use Rattle.adp_model.specs.PosedProblem.{PosedProblem, IsSpan}
use Rattle.adp_model.specs.Parts.{letters_of}
use Rattle.adp_model.specs.Tokens.{letters_between, IsIn, weight_of, total_weight}
use Rattle.viable_splits.specs.Placing.{IsClassEnd}
use Rattle.split_lines.specs.Classes.{IsAhead}

-- all letters of a span are in the class
abbrev pub AllIn : List (ℕ × ℤ) → List ℕ → ℕ → ℕ → Type 0
AllIn class word from to = AllByRecursion (IsIn class) (letters_between word from to)

-- a span without letters
pub no_letters : (word : List ℕ) (from to : ℕ) → to ≤ from → letters_between word from to ≡ []
no_letters word from to l =
    let none : to - from ≡ 0 = omega arith in
    ap (λ n. take n (drop from word)) none

pub all_of_none : (class : List (ℕ × ℤ)) (word : List ℕ) (from to : ℕ) → to ≤ from → AllIn class word from to
all_of_none class word from to l = subst (AllByRecursion (IsIn class)) (sym (no_letters word from to l)) tt

-- one more letter behind a span
pub letters_more : (word : List ℕ) (from to : ℕ) → from ≤ to → to < length word → letters_between word from (to + 1) ≡ letters_between word from to ++ get_or word to 0 ∷ []
letters_more word from to l h =
    let width : to + 1 - from ≡ (to - from) + 1 = omega arith in
    let within : to - from < length (drop from word) = simp length-drop (omega arith) in
    let at : from + (to - from) ≡ to = omega arith in
    ap (λ n. take n (drop from word)) width ∙ take_more (drop from word) (to - from) 0 within ∙ ap (λ x. take (to - from) (drop from word) ++ x ∷ []) (get_or-drop from word (to - from) 0 ∙ ap (λ n. get_or word n 0) at)

-- the first letter of a span, and the others
pub letters_first : (word : List ℕ) (from to : ℕ) → from < to → to ≤ length word → letters_between word from to ≡ get_or word from 0 ∷ letters_between word (from + 1) to
letters_first word from to l h =
    let width : to - from ≡ suc (to - (from + 1)) = omega arith in
    let within : from < length word = omega arith in
    ap (λ n. take n (drop from word)) width ∙ ap (take (suc (to - (from + 1)))) (drop_more word from 0 within)

-- of letters that all are in the class the last one is, and so are those before it
all_push : (class : List (ℕ × ℤ)) (letters : List ℕ) (last : ℕ) → AllByRecursion (IsIn class) (letters ++ last ∷ []) ↔ (AllByRecursion (IsIn class) letters × IsIn class last)
all_push class [] last = (λ h. (tt, h.0), λ h. (h.1, tt))
all_push class (letter ∷ letters) last =
    let others = all_push class letters last in
    (λ h. let both = others.0 h.1 in ((h.0, both.0), both.1), λ h. (h.0.0, others.1 (h.0.1, h.1)))

pub all_more : (class : List (ℕ × ℤ)) (word : List ℕ) (from to : ℕ) → from ≤ to → to < length word → AllIn class word from (to + 1) ↔ (AllIn class word from to × IsIn class (get_or word to 0))
all_more class word from to l h =
    let P : List ℕ → Type 0 = λ letters. AllByRecursion (IsIn class) letters ↔ (AllIn class word from to × IsIn class (get_or word to 0)) in
    subst P (sym (letters_more word from to l h)) (all_push class (letters_between word from to) (get_or word to 0))

pub all_first : (class : List (ℕ × ℤ)) (word : List ℕ) (from to : ℕ) → from < to → to ≤ length word → AllIn class word from to ↔ (IsIn class (get_or word from 0) × AllIn class word (from + 1) to)
all_first class word from to l h =
    let P : List ℕ → Type 0 = λ letters. AllByRecursion (IsIn class) letters ↔ (IsIn class (get_or word from 0) × AllIn class word (from + 1) to) in
    subst P (sym (letters_first word from to l h)) (λ h. h, λ h. h)

-- from this position on all letters up to `to` are in the class, and from none before
abbrev pub IsFirstOf : List (ℕ × ℤ) → List ℕ → ℕ → ℕ → Type 0
IsFirstOf class word to first = (from : ℕ) → from ≤ to → AllIn class word from to ↔ (first ≤ from)

pub first_kept : (class : List (ℕ × ℤ)) (word : List ℕ) (to first : ℕ) → to < length word → IsFirstOf class word to first → IsIn class (get_or word to 0) → IsFirstOf class word (to + 1) first
first_kept class word to first within is in_class = λ from l.
    let before : first ≤ to = (is to (omega arith)).0 (all_of_none class word to to (omega arith)) in
    elim (cases_lt to from) [
      | inl past ↦ (λ h. omega arith, λ h. all_of_none class word from (to + 1) (omega arith))
      | inr inside ↦
          let more = all_more class word from to inside within in
          (λ h. (is from inside).0 (more.0 h).0, λ h. more.1 ((is from inside).1 h, in_class))
    ]

pub first_anew : (class : List (ℕ × ℤ)) (word : List ℕ) (to : ℕ) → to < length word → (IsIn class (get_or word to 0) → ⊥) → IsFirstOf class word (to + 1) (to + 1)
first_anew class word to within out = λ from l.
    elim (cases_lt to from) [
      | inl past ↦ (λ h. omega arith, λ h. all_of_none class word from (to + 1) (omega arith))
      | inr inside ↦ (λ h. absurd (out ((all_more class word from to inside within).0 h).1), λ h. absurd (omega arith))
    ]

-- up to this position all letters from `from` on are in the class, and up to none behind it
abbrev pub IsLastOf : List (ℕ × ℤ) → List ℕ → ℕ → ℕ → Type 0
IsLastOf class word from last = (to : ℕ) → from ≤ to → to ≤ length word → AllIn class word from to ↔ (to ≤ last)

pub last_kept : (class : List (ℕ × ℤ)) (word : List ℕ) (from last : ℕ) → from < length word → IsLastOf class word (from + 1) last → IsIn class (get_or word from 0) → IsLastOf class word from last
last_kept class word from last within is in_class = λ to l h.
    let behind : from + 1 ≤ last = (is (from + 1) (omega arith) (omega arith)).0 (all_of_none class word (from + 1) (from + 1) (omega arith)) in
    elim (cases_lt from to) [
      | inl inside ↦
          let first = all_first class word from to inside h in
          (λ all. (is to (omega arith) h).0 (first.0 all).1, λ short. first.1 (in_class, (is to (omega arith) h).1 short))
      | inr past ↦ (λ all. omega arith, λ short. all_of_none class word from to past)
    ]

pub last_anew : (class : List (ℕ × ℤ)) (word : List ℕ) (from : ℕ) → from < length word → (IsIn class (get_or word from 0) → ⊥) → IsLastOf class word from from
last_anew class word from within out = λ to l h.
    elim (cases_lt from to) [
      | inl inside ↦ (λ all. absurd (out ((all_first class word from to inside h).0 all).0), λ short. absurd (omega arith))
      | inr past ↦ (λ all. past, λ short. all_of_none class word from to past)
    ]

-- ---- weights

pub total_found : (class : List (ℕ × ℤ)) (letter : ℕ) (letters : List ℕ) (weight : ℤ) → weight_of class letter ≡ Some weight → total_weight class (letter ∷ letters) ≡ weight +ℤ total_weight class letters
total_found class letter letters weight e = rw e refl

pub total_missed : (class : List (ℕ × ℤ)) (letter : ℕ) (letters : List ℕ) → weight_of class letter ≡ None → total_weight class (letter ∷ letters) ≡ total_weight class letters
total_missed class letter letters e = rw e (omega (arith, ints))

-- what two lists of letters weigh together
pub total-append : (class : List (ℕ × ℤ)) (letters others : List ℕ) → total_weight class (letters ++ others) ≡ total_weight class letters +ℤ total_weight class others
total-append class [] others = omega (arith, ints)
total-append class (letter ∷ letters) others = omega (arith, ints, total-append class letters others)

-- what the letters of a span weigh is what is added between its ends
pub total_between : (class : List (ℕ × ℤ)) (word : List ℕ) (from to : ℕ) → IsSpan word from to → total_weight class (letters_between word from to) ≡ (total_weight class (take to word) -ℤ total_weight class (take from word))
total_between class word from to span =
    let split : take to word ≡ take from word ++ letters_between word from to = parts word from to span.in_order in
    let sum = ap (total_weight class) split ∙ total-append class (take from word) (letters_between word from to) in
    omega (arith, ints, sum)
  where
    parts : (word : List ℕ) (from to : ℕ) → from ≤ to → take to word ≡ take from word ++ letters_between word from to
    parts word from to l =
        let at : to ≡ from + (to - from) = omega arith in
        let front : take from (take to word) ≡ take from word = take-take from to word l in
        let back : drop from (take to word) ≡ letters_between word from to = ap (λ n. drop from (take n word)) at ∙ drop-take from (to - from) word in
        sym (take-append-drop from (take to word)) ∙ ap (λ xs. xs ++ drop from (take to word)) front ∙ ap (λ xs. take from word ++ xs) back

-- what the look-up of a letter's weight tells
pub is_in : (class : List (ℕ × ℤ)) (letter : ℕ) (found : Option ℤ) → found ≡ weight_of class letter → is_some found ≡ true → IsIn class letter
is_in class letter found e h = ap is_some (sym e) ∙ h

pub not_in : (class : List (ℕ × ℤ)) (letter : ℕ) (found : Option ℤ) → found ≡ weight_of class letter → is_some found ≡ false → IsIn class letter → ⊥
not_in class letter found e h is = false≢true (sym h ∙ ap is_some e ∙ is)

-- what the letters up to one more letter weigh
pub total_more : (class : List (ℕ × ℤ)) (word : List ℕ) (i : ℕ) (weight : ℤ) → i < length word → weight_of class (get_or word i 0) ≡ Some weight → total_weight class (take (i + 1) word) ≡ total_weight class (take i word) +ℤ weight
total_more class word i weight l e =
    let one : total_weight class (get_or word i 0 ∷ []) ≡ weight = total_found class (get_or word i 0) [] weight e ∙ omega (arith, ints) in
    let step = ap (total_weight class) (take_more word i 0 l) ∙ total-append class (take i word) (get_or word i 0 ∷ []) in
    omega (arith, ints, step, one)

pub total_same : (class : List (ℕ × ℤ)) (word : List ℕ) (i : ℕ) → i < length word → weight_of class (get_or word i 0) ≡ None → total_weight class (take (i + 1) word) ≡ total_weight class (take i word)
total_same class word i l e =
    let one : total_weight class (get_or word i 0 ∷ []) ≡ pos 0 = total_missed class (get_or word i 0) [] e in
    let step = ap (total_weight class) (take_more word i 0 l) ∙ total-append class (take i word) (get_or word i 0 ∷ []) in
    omega (arith, ints, step, one)

-- what the first so many letters weigh
abbrev pub IsSumOf : List (ℕ × ℤ) → List ℕ → ℕ → ℤ → Type 0
IsSumOf class word position sum = (sum ≡ total_weight class (take position word)) × (nat_abs sum ≤ 2 ^ 63 * position)

-- letters of a class go on as far as is told, or up to the last position
pub class_end_at : (p : PosedProblem) (class from last end : ℕ) (ahead : List ℕ) → IsSpan p.word from last → IsAhead (letters_of p.grammar class) p.word ahead → end ≡ min last (get_or ahead from 0) → IsClassEnd p class from last end
class_end_at p class from last end ahead span are end_is =
    let order = span.in_order in
    let here : from ≤ get_or ahead from 0 = (are.told from from (record { in_order = omega arith; in_word = omega (arith, span.in_word) })).0 (none from) in
    record {
      after = omega arith;
      within = omega arith;
      exact = λ to long short.
          let told = are.told from to (record { in_order = long; in_word = omega (arith, span.in_word) }) in (
            λ all. let reached = told.0 all in omega arith,
            λ before. told.1 (omega arith),
          );
    }
  where
    none : (from : ℕ) → AllByRecursion (IsIn (letters_of p.grammar class)) (letters_between p.word from from)
    none from = rw (no_letters p.word from from (omega arith)) tt

-- ---- a class whose letters weigh nothing

abbrev pub WeighNothing : List (ℕ × ℤ) → Type 0
WeighNothing class = (k : ℕ) (d : ℕ × ℤ) → k < length class → (get_or class k d).1 ≡ pos 0

weighs_nothing : (class : List (ℕ × ℤ)) (letter : ℕ) (weight : ℤ) → WeighNothing class → weight_of class letter ≡ Some weight → weight ≡ pos 0
weighs_nothing [] letter weight nothing e = absurd cc
weighs_nothing (entry ∷ entries) letter weight nothing e =
    elim (cases_Bool (entry.0 == letter)) [
      | inl here ↦
          let found : weight_of (entry ∷ entries) letter ≡ Some entry.1 = rw here refl in
          let none : entry.1 ≡ pos 0 = nothing 0 entry (omega arith) in
          let same : entry.1 ≡ weight = cc in
          sym same ∙ none
      | inr there ↦
          let missed : weight_of (entry ∷ entries) letter ≡ weight_of entries letter = rw there refl in
          weighs_nothing entries letter weight (λ k d l. nothing (suc k) d (omega (arith, l))) (sym missed ∙ e)
    ]

total_nothing_more : (class : List (ℕ × ℤ)) (letter : ℕ) (letters : List ℕ) (found : Option ℤ) → WeighNothing class → weight_of class letter ≡ found → total_weight class letters ≡ pos 0 → total_weight class (letter ∷ letters) ≡ pos 0
total_nothing_more class letter letters None nothing e others = total_missed class letter letters e ∙ others
total_nothing_more class letter letters (Some weight) nothing e others =
    omega (arith, ints, total_found class letter letters weight e, weighs_nothing class letter weight nothing e, others)

pub total_nothing : (class : List (ℕ × ℤ)) (letters : List ℕ) → WeighNothing class → total_weight class letters ≡ pos 0
total_nothing class [] nothing = refl
total_nothing class (letter ∷ letters) nothing =
    total_nothing_more class letter letters (weight_of class letter) nothing refl (total_nothing class letters nothing)
