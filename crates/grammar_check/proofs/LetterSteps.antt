-- Parts that are letters alone: what they add with some spare letters is what their steps add, greatest worth first.
use Rattle.std.proofs.Common.{◌≡◌, ℕ, zero, suc, ◌+◌, ◌-◌, ◌*◌, ◌<◌, ◌≤◌, min, max, ◌⊎◌, inl, inr, Bool, true, false, ◌&&◌, nat_le, if◌then◌else◌, List, [], ◌∷◌, length, insert, refl, sym, ap, ap₂, subst, ◌∙◌, arith}
use Rattle.std.proofs.lemmas.Bool.{le-leb, lt-leb}
use Rattle.adp_model.specs.LimitFaults.{told}
use Rattle.grammar_check.specs.declared.part.Worth.{Worth}
use Rattle.grammar_check.specs.declared.part.Worth.TheVariants.{OfRule, OfLetters}
use Rattle.grammar_check.specs.declared.part.Part.{Part}
use Rattle.grammar_check.specs.declared.letter_alternative.Step.{Step}
use Rattle.grammar_check.specs.Plans.{worth_of, greatest_from, rooms, spread, is_letters}
use Rattle.grammar_check.specs.LetterSteps.{are_letters, letter_of, least_worth, step_of, place_in, steps_of, taken}
use Rattle.grammar_check.proofs.CutNumbers.{told-product, told-max}
use Rattle.grammar_check.proofs.SpreadWays.{greatest_above, greatest_found}

-- no step is worth more
abbrev pub Below : ℕ → List Step → Type 0
Below worth [] = Unit {0}
Below worth (step ∷ steps) = (step.worth ≤ worth) × Below worth steps

-- no step is worth more than one before it
abbrev pub Falling : List Step → Type 0
Falling [] = Unit {0}
Falling (step ∷ steps) = Below step.worth steps × Falling steps

-- the letters that the steps have
abbrev pub step_rooms : List Step → ℕ
step_rooms [] = 0
step_rooms (step ∷ steps) = step.room + step_rooms steps

-- a step in its place
abbrev pub placed : Step → List Step → List Step
placed step steps = insert steps (place_in steps step.worth) step

order : (a b : ℕ) → (a ≤ b) ⊎ (b < a)
order a b = grind arith

-- ---- a step in its place

pub place_inside : (steps : List Step) (worth : ℕ) → place_in steps worth ≤ length steps
place_inside [] worth = omega arith
place_inside (step ∷ steps) worth = by (nat_le step.worth worth) (place_inside steps worth)
  where
    by : (b : Bool) → place_in steps worth ≤ length steps → (if b then 0 else suc (place_in steps worth)) ≤ suc (length steps)
    by true rest = omega arith
    by false rest = omega arith

placed_here : (step first : Step) (steps : List Step) → first.worth ≤ step.worth → placed step (first ∷ steps) ≡ step ∷ first ∷ steps
placed_here step first steps low = ap (λ b. insert (first ∷ steps) (if b then 0 else suc (place_in steps step.worth)) step) (le-leb first.worth step.worth low)

placed_later : (step first : Step) (steps : List Step) → step.worth < first.worth → placed step (first ∷ steps) ≡ first ∷ placed step steps
placed_later step first steps high = ap (λ b. insert (first ∷ steps) (if b then 0 else suc (place_in steps step.worth)) step) (lt-leb first.worth step.worth high)

below_more : (steps : List Step) (low high : ℕ) → low ≤ high → Below low steps → Below high steps
below_more [] low high more below = tt
below_more (step ∷ steps) low high more below = (omega (arith, below.0), below_more steps low high more below.1)

below_placed : (step : Step) (steps : List Step) (worth : ℕ) → step.worth ≤ worth → Below worth steps → Below worth (placed step steps)
below_placed step [] worth low below = (low, tt)
below_placed step (first ∷ steps) worth low below = by (order first.worth step.worth) (below_placed step steps worth low below.1)
  where
    by : (first.worth ≤ step.worth) ⊎ (step.worth < first.worth) → Below worth (placed step steps) → Below worth (placed step (first ∷ steps))
    by (inl here) rest = subst (Below worth) (sym (placed_here step first steps here)) (low, below)
    by (inr later) rest = subst (Below worth) (sym (placed_later step first steps later)) (below.0, rest)

falling_placed : (step : Step) (steps : List Step) → Falling steps → Falling (placed step steps)
falling_placed step [] falling = (tt, tt)
falling_placed step (first ∷ steps) falling = by (order first.worth step.worth) (falling_placed step steps falling.1)
  where
    by : (first.worth ≤ step.worth) ⊎ (step.worth < first.worth) → Falling (placed step steps) → Falling (placed step (first ∷ steps))
    by (inl here) rest = subst Falling (sym (placed_here step first steps here)) ((here, below_more steps first.worth step.worth here falling.0), falling)
    by (inr later) rest = subst Falling (sym (placed_later step first steps later)) (below_placed step steps first.worth (omega arith) falling.0, rest)

rooms_placed : (step : Step) (steps : List Step) → step_rooms (placed step steps) ≡ step.room + step_rooms steps
rooms_placed step [] = refl
rooms_placed step (first ∷ steps) = by (order first.worth step.worth) (rooms_placed step steps)
  where
    by : (first.worth ≤ step.worth) ⊎ (step.worth < first.worth) → step_rooms (placed step steps) ≡ step.room + step_rooms steps → step_rooms (placed step (first ∷ steps)) ≡ step.room + (first.room + step_rooms steps)
    by (inl here) rest = ap step_rooms (placed_here step first steps here)
    by (inr later) rest = ap step_rooms (placed_later step first steps later) ∙ omega arith

-- ---- what steps add

pub taken_none : (steps : List Step) → taken steps 0 ≡ 0
taken_none [] = refl
taken_none (step ∷ steps) = let rest = taken_none steps in grind (arith, rest)

taken_at : (steps : List Step) (a b : ℕ) → a ≡ b → taken steps a ≡ taken steps b
taken_at steps a b same = ap (taken steps) same

-- a product with a sum
product_sum : (w a b : ℕ) → w * (a + b) ≡ w * a + w * b
product_sum w a b = grind arith

less_times : (low high a : ℕ) → low ≤ high → low * a ≤ high * a
less_times low high a more = let more_is : high ≡ low + (high - low) = omega arith in let whole : (low + (high - low)) * a ≡ low * a + (high - low) * a = grind arith in let both = ap (λ h. h * a) more_is in omega arith

-- so many letters more add no more than the greatest worth for each
taken_more : (steps : List Step) (worth a d : ℕ) → Below worth steps → taken steps (a + d) ≤ taken steps a + worth * d
taken_more [] worth a d below = omega arith
taken_more (step ∷ steps) worth a d below =
    let here = min (a + d) step.room - min a step.room in
    let behind = (a + d - step.room) - (a - step.room) in
    let rest = taken_more steps worth (a - step.room) behind below.1 in
    let from : a + d - step.room ≡ (a - step.room) + behind = omega arith in
    let rest_at = taken_at steps (a + d - step.room) ((a - step.room) + behind) from in
    let both : d ≡ here + behind = omega arith in
    let first : min (a + d) step.room ≡ min a step.room + here = omega arith in
    let first_times = ap (λ n. step.worth * n) first ∙ product_sum step.worth (min a step.room) here in
    let low = less_times step.worth worth here below.0 in
    let whole = ap (λ n. worth * n) both ∙ product_sum worth here behind in
    omega arith

-- no way to share letters between a step and those in order adds more than all in order
taken_upper : (step : Step) (steps : List Step) (spare more : ℕ) → Falling steps → more ≤ step.room → more ≤ spare → spare - more ≤ step_rooms steps
    → step.worth * more + taken steps (spare - more) ≤ taken (placed step steps) spare
taken_upper step [] spare more falling room within rest =
    let all : min spare step.room ≡ more = omega arith in
    let times = ap (λ n. step.worth * n) all in
    omega arith
taken_upper step (first ∷ steps) spare more falling room within rest =
    by (order first.worth step.worth) (λ spare' more'. taken_upper step steps spare' more' falling.1)
  where
    by : (first.worth ≤ step.worth) ⊎ (step.worth < first.worth)
        → ((spare' more' : ℕ) → more' ≤ step.room → more' ≤ spare' → spare' - more' ≤ step_rooms steps → step.worth * more' + taken steps (spare' - more') ≤ taken (placed step steps) spare')
        → step.worth * more + taken (first ∷ steps) (spare - more) ≤ taken (placed step (first ∷ steps)) spare
    by (inl here) upper =
        let most = min spare step.room in
        let d = most - more in
        let split : spare - more ≡ (spare - step.room) + d = omega arith in
        let low = taken_more (first ∷ steps) step.worth (spare - step.room) d (here, below_more steps first.worth step.worth here falling.0) in
        let at = taken_at (first ∷ steps) (spare - more) ((spare - step.room) + d) split in
        let most_is : most ≡ more + d = omega arith in
        let times = ap (λ n. step.worth * n) most_is ∙ product_sum step.worth more d in
        subst (λ ss. step.worth * more + taken (first ∷ steps) (spare - more) ≤ taken ss spare) (sym (placed_here step first steps here)) (omega (arith, low, at, times))
    by (inr later) upper =
        subst (λ ss. step.worth * more + taken (first ∷ steps) (spare - more) ≤ taken ss spare) (sym (placed_later step first steps later))
        (share (order first.room (spare - more)) (order spare first.room))
      where
        share : (first.room ≤ spare - more) ⊎ (spare - more < first.room) → (spare ≤ first.room) ⊎ (first.room < spare)
            → step.worth * more + (first.worth * min (spare - more) first.room + taken steps (spare - more - first.room)) ≤ first.worth * min spare first.room + taken (placed step steps) (spare - first.room)
        share (inl full) width =
            let deeper = upper (spare - first.room) more room (omega arith) (omega arith) in
            let at = taken_at steps (spare - more - first.room) (spare - first.room - more) (omega arith) in
            let same : min (spare - more) first.room ≡ min spare first.room = omega arith in
            let times = ap (λ n. first.worth * n) same in
            omega arith
        share (inr part) (inl all) =
            let none = taken_at steps (spare - more - first.room) 0 (omega arith) ∙ taken_none steps in
            let low = less_times step.worth first.worth more (omega arith) in
            let here : min (spare - more) first.room ≡ spare - more = omega arith in
            let whole : min spare first.room ≡ (spare - more) + more = omega arith in
            let times = ap (λ n. first.worth * n) whole ∙ product_sum first.worth (spare - more) more in
            let here_times = ap (λ n. first.worth * n) here in
            omega arith
        share (inr part) (inr past) =
            let over = spare - first.room in
            let deeper = upper over over (omega arith) (omega arith) (omega arith) in
            let none = taken_at steps (spare - more - first.room) 0 (omega arith) ∙ taken_none steps in
            let d = more - over in
            let more_is : more ≡ over + d = omega arith in
            let more_times = ap (λ n. step.worth * n) more_is ∙ product_sum step.worth over d in
            let low = less_times step.worth first.worth d (omega arith) in
            let here : min (spare - more) first.room ≡ spare - more = omega arith in
            let whole : min spare first.room ≡ (spare - more) + d = omega arith in
            let times = ap (λ n. first.worth * n) whole ∙ product_sum first.worth (spare - more) d in
            let here_times = ap (λ n. first.worth * n) here in
            omega arith

-- and one adds as much
pub record IsShared (step : Step) (steps : List Step) (spare : ℕ) : Type 0 where
  pub more : ℕ
  pub room : more ≤ step.room
  pub within : more ≤ spare
  pub rest : spare - more ≤ step_rooms steps
  pub adds : step.worth * more + taken steps (spare - more) ≡ taken (placed step steps) spare

taken_shared : (step : Step) (steps : List Step) (spare : ℕ) → spare ≤ step.room + step_rooms steps → IsShared step steps spare
taken_shared step [] spare fits = record {
  more = spare;
  room = omega arith;
  within = omega arith;
  rest = omega arith;
  adds = let all : min spare step.room ≡ spare = omega arith in let times = ap (λ n. step.worth * n) all in omega arith;
}
taken_shared step (first ∷ steps) spare fits = by (order first.worth step.worth) (taken_shared step steps (spare - first.room))
  where
    by : (first.worth ≤ step.worth) ⊎ (step.worth < first.worth) → (spare - first.room ≤ step.room + step_rooms steps → IsShared step steps (spare - first.room)) → IsShared step (first ∷ steps) spare
    by (inl here) rest = record {
      more = min spare step.room;
      room = omega arith;
      within = omega arith;
      rest = omega arith;
      adds = let at = taken_at (first ∷ steps) (spare - min spare step.room) (spare - step.room) (omega arith) in
          ap (λ n. step.worth * min spare step.room + n) at ∙ sym (ap (λ ss. taken ss spare) (placed_here step first steps here));
    }
    by (inr later) rest = share (order spare first.room)
      where
        whole : taken (placed step (first ∷ steps)) spare ≡ first.worth * min spare first.room + taken (placed step steps) (spare - first.room)
        whole = ap (λ ss. taken ss spare) (placed_later step first steps later)

        share : (spare ≤ first.room) ⊎ (first.room < spare) → IsShared step (first ∷ steps) spare
        share (inl all) = record {
          more = 0;
          room = omega arith;
          within = omega arith;
          rest = omega arith;
          adds = let none = taken_at steps (spare - 0 - first.room) 0 (omega arith) ∙ taken_none steps in
              let none' = taken_at (placed step steps) (spare - first.room) 0 (omega arith) ∙ taken_none (placed step steps) in
              let zero_times : step.worth * 0 ≡ 0 = grind arith in
              let same : spare - 0 ≡ spare = omega arith in
              let times = ap (λ n. first.worth * min n first.room) same in
              let all_is = whole in
              omega arith;
        }
        share (inr past) =
            let deeper = rest (omega arith) in
            record {
              more = deeper.more;
              room = deeper.room;
              within = omega (arith, deeper.within);
              rest = omega (arith, deeper.within, deeper.rest);
              adds = let at = taken_at steps (spare - deeper.more - first.room) (spare - first.room - deeper.more) (omega arith) in
                  let here : min (spare - deeper.more) first.room ≡ min spare first.room = omega (arith, deeper.within) in
                  let times = ap (λ n. first.worth * n) here in
                  let adds = deeper.adds in
                  let all_is = whole in
                  omega arith;
            }

-- ---- parts as steps

falling_steps : (parts : List Part) → Falling (steps_of parts)
falling_steps [] = tt
falling_steps (part ∷ parts) = falling_placed (step_of part) (steps_of parts) (falling_steps parts)

rooms_steps : (parts : List Part) → step_rooms (steps_of parts) ≡ rooms parts
rooms_steps [] = refl
rooms_steps (part ∷ parts) = rooms_placed (step_of part) (steps_of parts) ∙ ap (λ n. part.room + n) (rooms_steps parts)

greatest_told : (f g : ℕ → ℕ) (first count : ℕ) → ((k : ℕ) → k < count → told (f (first + k)) ≡ told (g (first + k))) → told (greatest_from f first count) ≡ told (greatest_from g first count)
greatest_told f g first zero same = refl
greatest_told f g first (suc count) same =
    let before = greatest_told f g first count (λ k below. same k (omega arith)) in
    let here = same count (omega arith) in
    sym (told-max (greatest_from f first count) (f (first + count))) ∙ ap₂ (λ a b. max a b) before here ∙ told-max (greatest_from g first count) (g (first + count))

-- what a part adds with so many letters more, and its steps with the others
abbrev pub shared : Part → List Part → ℕ → ℕ → ℕ
shared part parts spare more = letter_of part.worth * (part.low + more) + (least_worth parts + taken (steps_of parts) (spare - more))

-- a greatest number that is reached, and that none is above
greatest_is : (number : ℕ → ℕ) (first count most k : ℕ) → k < count → number (first + k) ≡ most → ((j : ℕ) → j < count → number (first + j) ≤ most) → greatest_from number first count ≡ most
greatest_is number first count most k inside reached above =
    let low = greatest_above number first count k inside in
    let found = greatest_found number first count (omega arith) in
    let high = above found.0 found.1 in
    omega (arith, found.2)

pub shared_is : (part : Part) (parts : List Part) (spare : ℕ) → spare ≤ part.room + rooms parts
    → greatest_from (shared part parts spare) (spare - rooms parts) (min spare part.room + 1 - (spare - rooms parts)) ≡ least_worth (part ∷ parts) + taken (steps_of (part ∷ parts)) spare
shared_is part parts spare fits =
    let step = step_of part in
    let steps = steps_of parts in
    let all = rooms_steps parts in
    let found = taken_shared step steps spare (omega arith) in
    let first = spare - rooms parts in
    let k = found.more - first in
    let place : first + k ≡ found.more = omega (arith, found.rest, found.within) in
    greatest_is (shared part parts spare) first (min spare part.room + 1 - first) (least_worth (part ∷ parts) + taken (steps_of (part ∷ parts)) spare) k
    (omega (arith, found.rest, found.within, found.room))
    (ap (shared part parts spare) place ∙ total found.more (taken steps (spare - found.more)) ∙ ap (λ n. least_worth (part ∷ parts) + n) found.adds)
    (λ j inside.
    let more = first + j in
    let upper = taken_upper step steps spare more (falling_steps parts) (omega arith) (omega arith) (omega arith) in
    let sum = total more (taken steps (spare - more)) in
    omega arith)
  where
    total : (more rest : ℕ) → letter_of part.worth * (part.low + more) + (least_worth parts + rest) ≡ letter_of part.worth * part.low + least_worth parts + (letter_of part.worth * more + rest)
    total more rest = let split = product_sum (letter_of part.worth) part.low more in omega arith

letters_told : (bound : ℕ → ℕ → ℕ) (worth : Worth) (len : ℕ) → is_letters worth ≡ true → told (worth_of bound worth len) ≡ told (letter_of worth * len)
letters_told bound (OfRule rule factor) len letters = absurd cc
letters_told bound (OfLetters weight factor) len letters =
    let product : len * (factor * weight) ≡ factor * (weight * len) = grind arith in
    let turned : told (factor * weight) * len ≡ len * told (factor * weight) = grind arith in
    sym (ap told turned ∙ told-product len (factor * weight) ∙ ap told product)

both_true : (a b : Bool) → (a && b) ≡ true → (a ≡ true) × (b ≡ true)
both_true true true e = (refl, refl)
both_true true false e = absurd cc
both_true false b e = absurd cc

told_both : (a b c d : ℕ) → told a ≡ told c → told b ≡ told d → told (a + b) ≡ told (c + d)
told_both a b c d e f = omega arith

-- letters add what their steps add
pub spread_of_letters : (bound : ℕ → ℕ → ℕ) (parts : List Part) (spare : ℕ) → are_letters parts ≡ true → spare ≤ rooms parts → told (spread bound parts spare) ≡ told (least_worth parts + taken (steps_of parts) spare)
spread_of_letters bound [] spare letters fits = refl
spread_of_letters bound (part ∷ parts) spare letters fits =
    let both = both_true (is_letters part.worth) (are_letters parts) letters in
    let first = spare - rooms parts in
    greatest_told (λ more. worth_of bound part.worth (part.low + more) + spread bound parts (spare - more)) (shared part parts spare) first (min spare part.room + 1 - first)
    (λ k inside.
    told_both (worth_of bound part.worth (part.low + (first + k))) (spread bound parts (spare - (first + k))) (letter_of part.worth * (part.low + (first + k))) (least_worth parts + taken (steps_of parts) (spare - (first + k)))
    (letters_told bound part.worth (part.low + (first + k)) both.0)
    (spread_of_letters bound parts (spare - (first + k)) both.1 (omega arith)))
    ∙ ap told (shared_is part parts spare fits)
