-- Ways of an alternative with a wide term: the greatest over all lengths of its parts goes by the form of the term.
use Rattle.std.proofs.Common.{◌≡◌, ℕ, zero, suc, ◌+◌, ◌-◌, ◌<◌, ◌≤◌, min, Bool, true, false, ◌||◌, ◌⊎◌, inl, inr, nat_eq, List, [], ◌∷◌, length, sum, refl, sym, ap, subst, ◌∙◌, arith, eqb-true, eq-eqb}
use Rattle.std.specs.Prelude.{if◌then◌else◌, slice_index}
use Rattle.adp_model.specs.WideForm as wide
use Rattle.adp_model.specs.WideForm.{Number, Value, Sum, Difference, Product, Greater, Lesser}
use Rattle.adp_model.specs.Terms.{wide_magnitude}
use Rattle.adp_model.specs.TermForms.{IsWideFor}
use Rattle.grammar_check.specs.declared.part.Part.{Part}
use Rattle.grammar_check.specs.Plans.{worth_of, greatest_from, rooms, lows, part_at}
use Rattle.grammar_check.specs.TermSpreads.{taken, term_room, names, idle_room, term_spread, wide_spread}
use Rattle.grammar_check.proofs.PartRanges.{AreInParts, sum-first}
use Rattle.grammar_check.proofs.SpreadWays.{greatest_above, greatest_found}
use Rattle.grammar_check.proofs.TermWays.{IsOnce, at_numbers, at_list, same_numbers, same_taken, worth, FitRooms, term_below, term_found}
use Rattle.grammar_check.proofs.TwiceValues.{once_in, within}

-- what each part of these lengths adds
abbrev pub worths_of : (ℕ → ℕ → ℕ) → List Part → List ℕ → List ℕ
worths_of bound [] lengths = []
worths_of bound (part ∷ parts) [] = []
worths_of bound (part ∷ parts) (len ∷ lengths) = worth_of bound part.worth len ∷ worths_of bound parts lengths

-- ---- sums over places

abbrev pub sum_to : (ℕ → ℕ) → ℕ → ℕ
sum_to number zero = 0
sum_to number (suc count) = sum_to number count + number count

sum_same : (one other : ℕ → ℕ) (count : ℕ) → ((k : ℕ) → k < count → one k ≡ other k) → sum_to one count ≡ sum_to other count
sum_same one other zero same = refl
sum_same one other (suc count) same =
    let rest = sum_same one other count (λ k less. same k (omega arith)) in
    let last = same count (omega arith) in
    omega (arith, rest, last)

sum_both : (one other all : ℕ → ℕ) (count : ℕ) → ((k : ℕ) → k < count → all k ≡ one k + other k) → sum_to all count ≡ sum_to one count + sum_to other count
sum_both one other all zero split = refl
sum_both one other all (suc count) split =
    let rest = sum_both one other all count (λ k less. split k (omega arith)) in
    let last = split count (omega arith) in
    omega (arith, rest, last)

-- the first of the numbers for itself
sum_first : (number : ℕ → ℕ) (count : ℕ) → sum_to number (suc count) ≡ number 0 + sum_to (λ k. number (suc k)) count
sum_first number zero = omega arith
sum_first number (suc count) =
    let rest = sum_first number count in
    omega (arith, rest)

sum_less : (one other : ℕ → ℕ) (count : ℕ) → ((k : ℕ) → one k ≤ other k) → sum_to one count ≤ sum_to other count
sum_less one other zero less = omega arith
sum_less one other (suc count) less =
    let rest = sum_less one other count less in
    let last = less count in
    omega (arith, rest, last)

sum_none : (number : ℕ → ℕ) (count : ℕ) → ((k : ℕ) → k < count → number k ≡ 0) → sum_to number count ≡ 0
sum_none number zero none = refl
sum_none number (suc count) none =
    let rest = sum_none number count (λ k less. none k (omega arith)) in
    let last = none count (omega arith) in
    omega (arith, rest, last)

-- so many letters given out by caps, the first first
abbrev pub give : (ℕ → ℕ) → ℕ → ℕ → ℕ
give cap spare k = min (cap k) (spare - sum_to cap k)

given : (cap : ℕ → ℕ) (spare count : ℕ) → sum_to (give cap spare) count ≡ min spare (sum_to cap count)
given cap spare zero = omega arith
given cap spare (suc count) =
    let rest = given cap spare count in
    omega (arith, rest)

-- ---- places that a term names

-- the number where it is true, else the other
abbrev pub pick : Bool → ℕ → ℕ → ℕ
pick b v w = if b then v else w

pick_either : (b c : Bool) (v : ℕ) → (b ≡ true → c ≡ true → ⊥) → pick (b || c) v 0 ≡ pick b v 0 + pick c v 0
pick_either true true v apart = absurd (apart refl refl)
pick_either true false v apart = omega arith
pick_either false true v apart = omega arith
pick_either false false v apart = refl

pick_split : (b : Bool) (v : ℕ) → v ≡ pick b v 0 + pick b 0 v
pick_split true v = omega arith
pick_split false v = omega arith

pick_not : (b : Bool) (v w : ℕ) → (b ≡ true → ⊥) → pick b v w ≡ w
pick_not true v w h = absurd (h refl)
pick_not false v w h = refl

pick_is : (b : Bool) (v w : ℕ) → b ≡ true → pick b v w ≡ v
pick_is true v w h = refl
pick_is false v w h = absurd cc

abbrev pub named_sum : (ℕ → ℕ) → wide.WideForm → ℕ → ℕ
named_sum number term count = sum_to (λ k. pick (names term k) (number k) 0) count

same_at : (n : ℕ) → nat_eq n n ≡ true
same_at n = eq-eqb n n refl

-- the number of one place
value_named : (number : ℕ → ℕ) (place count : ℕ) → place < count → named_sum number (Value place) count ≡ number place
value_named number place zero inside = absurd (omega arith)
value_named number place (suc count) inside = by (order place count) (λ below. value_named number place count below)
  where
    order : (m n : ℕ) → (m ≡ n) ⊎ (m ≡ n → ⊥)
    order m n = grind arith

    by : (place ≡ count) ⊎ (place ≡ count → ⊥) → (place < count → named_sum number (Value place) count ≡ number place) → named_sum number (Value place) (suc count) ≡ number place
    by (inl same) rest =
        let before : named_sum number (Value place) count ≡ 0 = sum_none (λ k. pick (nat_eq place k) (number k) 0) count (λ k less. pick_not (nat_eq place k) (number k) 0 (λ e. absurd (omega (arith, eqb-true place k e, same, less)))) in
        let here : pick (nat_eq place count) (number count) 0 ≡ number count = pick_is (nat_eq place count) (number count) 0 (subst (λ n. nat_eq place n ≡ true) same (same_at place)) in
        let there : number place ≡ number count = ap number same in
        omega (arith, before, here, there)
    by (inr differ) rest =
        let before = rest (below place count inside differ) in
        let here : pick (nat_eq place count) (number count) 0 ≡ 0 = pick_not (nat_eq place count) (number count) 0 (λ e. differ (eqb-true place count e)) in
        omega (arith, before, here)
      where
        below : (m n : ℕ) → m < suc n → (m ≡ n → ⊥) → m < n
        below m n less differ' = grind (arith, less, differ')

module _ (number : ℕ → ℕ) (count : ℕ) where
  both_named : (left right whole : wide.WideForm) → ((k : ℕ) → names whole k ≡ (names left k || names right k)) → ((place : ℕ) → names left place ≡ true → names right place ≡ true → ⊥) → taken number left ≡ named_sum number left count → taken number right ≡ named_sum number right count → taken number left + taken number right ≡ named_sum number whole count
  both_named left right whole splits apart one other =
      let all = sum_both (λ k. pick (names left k) (number k) 0) (λ k. pick (names right k) (number k) 0) (λ k. pick (names whole k) (number k) 0) count
      (λ k less. ap (λ b. pick b (number k) 0) (splits k) ∙ pick_either (names left k) (names right k) (number k) (apart k)) in
      omega (arith, all, one, other)

  either : (a b : Bool) → a ≡ true → (a || b) ≡ true
  either true b e = refl
  either false b e = absurd cc

  either' : (a b : Bool) → b ≡ true → (a || b) ≡ true
  either' true b e = refl
  either' false b e = e

  taken_named : (term : wide.WideForm) → IsOnce term → ((place : ℕ) → names term place ≡ true → place < count) → taken number term ≡ named_sum number term count
  taken_named (Number constant) once inside = sym (sum_none (λ k. pick false (number k) 0) count (λ k less. refl))
  taken_named (Value place) once inside = sym (value_named number place count (inside place (same_at place)))
  taken_named (Sum left right) once inside =
      both_named left right (Sum left right) (λ k. refl) once.2 (taken_named left once.0 (λ k h. inside k (either (names left k) (names right k) h))) (taken_named right once.1 (λ k h. inside k (either' (names left k) (names right k) h)))
  taken_named (Difference left right) once inside =
      both_named left right (Difference left right) (λ k. refl) once.2 (taken_named left once.0 (λ k h. inside k (either (names left k) (names right k) h))) (taken_named right once.1 (λ k h. inside k (either' (names left k) (names right k) h)))
  taken_named (Product left right) once inside =
      both_named left right (Product left right) (λ k. refl) once.2 (taken_named left once.0 (λ k h. inside k (either (names left k) (names right k) h))) (taken_named right once.1 (λ k h. inside k (either' (names left k) (names right k) h)))
  taken_named (Greater left right) once inside =
      both_named left right (Greater left right) (λ k. refl) once.2 (taken_named left once.0 (λ k h. inside k (either (names left k) (names right k) h))) (taken_named right once.1 (λ k h. inside k (either' (names left k) (names right k) h)))
  taken_named (Lesser left right) once inside =
      both_named left right (Lesser left right) (λ k. refl) once.2 (taken_named left once.0 (λ k h. inside k (either (names left k) (names right k) h))) (taken_named right once.1 (λ k h. inside k (either' (names left k) (names right k) h)))

  -- all numbers are those of places that the term names, and those of the others
  all_taken : (term : wide.WideForm) → IsOnce term → ((place : ℕ) → names term place ≡ true → place < count) → taken number term + sum_to (λ k. pick (names term k) 0 (number k)) count ≡ sum_to number count
  all_taken term once inside =
      let named = taken_named term once inside in
      let all = sum_both (λ k. pick (names term k) (number k) 0) (λ k. pick (names term k) 0 (number k)) number count (λ k less. pick_split (names term k) (number k)) in
      omega (arith, named, all)

-- ---- lists of parts

rooms_sum : (parts : List Part) → rooms parts ≡ sum_to (λ k. (part_at parts k).room) (length parts)
rooms_sum [] = refl
rooms_sum (part ∷ parts) =
    let rest = rooms_sum parts in
    let first = sum_first (λ k. (part_at (part ∷ parts) k).room) (length parts) in
    omega (arith, rest, first)

idle_sum : (term : wide.WideForm) (place : ℕ) (parts : List Part) → idle_room term place parts ≡ sum_to (λ k. pick (names term (place + k)) 0 (part_at parts k).room) (length parts)
idle_sum term place [] = refl
idle_sum term place (part ∷ parts) =
    let rest = idle_sum term (place + 1) parts in
    let number : ℕ → ℕ = λ k. pick (names term (place + k)) 0 (part_at (part ∷ parts) k).room in
    let first = sum_first number (length parts) in
    let here : place + 0 ≡ place = omega arith in
    let at : number 0 ≡ pick (names term place) 0 part.room = ap (λ n. pick (names term n) 0 part.room) here in
    let same = sum_same (λ k. pick (names term (place + 1 + k)) 0 (part_at parts k).room) (λ k. number (suc k)) (length parts)
    (λ k less. let more : place + 1 + k ≡ place + suc k = omega arith in ap (λ n. pick (names term n) 0 (part_at parts k).room) more) in
    omega (arith, rest, first, at, same)

-- lengths by letters more than the least
abbrev pub lengths_of : (ℕ → ℕ) → List Part → List ℕ
lengths_of more [] = []
lengths_of more (part ∷ parts) = (part.low + more 0) ∷ lengths_of (λ k. more (suc k)) parts

lengths_fit : (more : ℕ → ℕ) (parts : List Part) → ((k : ℕ) → more k ≤ (part_at parts k).room) → AreInParts parts (lengths_of more parts)
lengths_fit more [] fit = tt
lengths_fit more (part ∷ parts) fit = ((omega arith, omega (arith, fit 0)), lengths_fit (λ k. more (suc k)) parts (λ k. fit (suc k)))

lengths_sum : (more : ℕ → ℕ) (parts : List Part) → sum (lengths_of more parts) ≡ lows parts + sum_to more (length parts)
lengths_sum more [] = omega arith
lengths_sum more (part ∷ parts) =
    let rest = lengths_sum (λ k. more (suc k)) parts in
    let first = sum_first more (length parts) in
    let total = sum-first (part.low + more 0) (lengths_of (λ k. more (suc k)) parts) in
    omega (arith, rest, first, total)

lengths_worth : (bound : ℕ → ℕ → ℕ) (more : ℕ → ℕ) (parts : List Part) (k : ℕ) → k < length parts → slice_index (worths_of bound parts (lengths_of more parts)) k ≡ worth bound parts more k
lengths_worth bound more [] k inside = absurd (omega arith)
lengths_worth bound more (part ∷ parts) zero inside = refl
lengths_worth bound more (part ∷ parts) (suc k) inside = lengths_worth bound (λ j. more (suc j)) parts k (omega arith)

-- how many letters more than the least the part at a place has
abbrev pub more_of : List Part → List ℕ → ℕ → ℕ
more_of [] lengths k = 0
more_of (part ∷ parts) [] k = 0
more_of (part ∷ parts) (len ∷ lengths) zero = len - part.low
more_of (part ∷ parts) (len ∷ lengths) (suc k) = more_of parts lengths k

more_fits : (parts : List Part) (lengths : List ℕ) → AreInParts parts lengths → (k : ℕ) → more_of parts lengths k ≤ (part_at parts k).room
more_fits [] lengths fit k = omega arith
more_fits (part ∷ parts) [] fit k = absurd fit
more_fits (part ∷ parts) (len ∷ lengths) fit zero = omega (arith, fit.0.0, fit.0.1)
more_fits (part ∷ parts) (len ∷ lengths) fit (suc k) = more_fits parts lengths fit.1 k

more_sum : (parts : List Part) (lengths : List ℕ) → AreInParts parts lengths → lows parts + sum_to (more_of parts lengths) (length parts) ≡ sum lengths
more_sum [] [] fit = omega arith
more_sum [] (len ∷ lengths) fit = absurd fit
more_sum (part ∷ parts) [] fit = absurd fit
more_sum (part ∷ parts) (len ∷ lengths) fit =
    let rest = more_sum parts lengths fit.1 in
    let first = sum_first (more_of (part ∷ parts) (len ∷ lengths)) (length parts) in
    let total = sum-first len lengths in
    omega (arith, rest, first, total, fit.0.0)

more_worth : (bound : ℕ → ℕ → ℕ) (parts : List Part) (lengths : List ℕ) → AreInParts parts lengths → (k : ℕ) → k < length parts → slice_index (worths_of bound parts lengths) k ≡ worth bound parts (more_of parts lengths) k
more_worth bound [] lengths fit k inside = absurd (omega arith)
more_worth bound (part ∷ parts) [] fit k inside = absurd fit
more_worth bound (part ∷ parts) (len ∷ lengths) fit zero inside =
    let long : len ≡ part.low + (len - part.low) = omega (arith, fit.0.0) in
    ap (worth_of bound part.worth) long
more_worth bound (part ∷ parts) (len ∷ lengths) fit (suc k) inside = more_worth bound parts lengths fit.1 k (omega arith)

-- ---- the law

module _ (bound : ℕ → ℕ → ℕ) (parts : List Part) (term : wide.WideForm) (right : IsWideFor (length parts) term) where
  once : IsOnce term
  once = once_in term right.once

  inside : (place : ℕ) → names term place ≡ true → place < length parts
  inside = within (length parts) term right.right

  -- how many letters the parts can take that the term does not name
  abbrev pub idle : ℕ
  idle = idle_room term 0 parts

  idle_is : (more : ℕ → ℕ) → sum_to (λ k. pick (names term (0 + k)) 0 (more k)) (length parts) ≡ sum_to (λ k. pick (names term k) 0 (more k)) (length parts)
  idle_is more = sum_same (λ k. pick (names term (0 + k)) 0 (more k)) (λ k. pick (names term k) 0 (more k)) (length parts) (λ k less. let same : 0 + k ≡ k = omega arith in ap (λ n. pick (names term n) 0 (more k)) same)

  idle_rooms : idle ≡ sum_to (λ k. pick (names term k) 0 (part_at parts k).room) (length parts)
  idle_rooms = idle_sum term 0 parts ∙ idle_is (λ k. (part_at parts k).room)

  pub rooms_split : term_room parts term + idle ≡ rooms parts
  rooms_split =
      let all = all_taken (λ k. (part_at parts k).room) (length parts) term once inside in
      omega (arith, all, idle_rooms, rooms_sum parts)

  pick_less : (b : Bool) (v w : ℕ) → v ≤ w → pick b 0 v ≤ pick b 0 w
  pick_less true v w h = omega arith
  pick_less false v w h = h

  -- lengths of the parts, their sum between the least and the greatest, add no more than the greatest
  pub record IsWithinTerm (lengths : List ℕ) : Type 0 where
    pub low : lows parts ≤ sum lengths
    pub high : sum lengths ≤ lows parts + rooms parts
    pub adds : wide_magnitude term (worths_of bound parts lengths) ≤ wide_spread bound parts term (sum lengths - lows parts)

  pub within_term : (lengths : List ℕ) → AreInParts parts lengths → IsWithinTerm lengths
  within_term lengths fit =
      let more = more_of parts lengths in
      let fits = more_fits parts lengths fit in
      let below = term_below bound parts more fits term in
      let all = all_taken more (length parts) term once inside in
      let total = more_sum parts lengths fit in
      let few = sum_less (λ k. pick (names term k) 0 (more k)) (λ k. pick (names term k) 0 (part_at parts k).room) (length parts) (λ k. pick_less (names term k) (more k) (part_at parts k).room (fits k)) in
      let some = taken more term in
      let spare = sum lengths - lows parts in
      let first = spare - idle in
      let above = greatest_above (term_spread bound parts term) first (min spare (term_room parts term) + 1 - first) (some - first) (omega (arith, all, total, few, idle_rooms, below.few)) in
      let place : first + (some - first) ≡ some = omega (arith, all, total, few, idle_rooms) in
      let at : term_spread bound parts term (first + (some - first)) ≡ term_spread bound parts term some = ap (term_spread bound parts term) place in
      let value : wide_magnitude term (worths_of bound parts lengths) ≡ at_numbers (worth bound parts more) term =
      at_list (worths_of bound parts lengths) term ∙ same_numbers (slice_index (worths_of bound parts lengths)) (worth bound parts more) term (λ k h. more_worth bound parts lengths fit k (inside k h)) in
      record {
        low = omega (arith, total);
        high = omega (arith, total, all, few, idle_rooms, below.few, rooms_split);
        adds = omega (arith, above, at, value, below.value);
      }

  -- lengths that add the greatest
  pub record IsTermBy (spare : ℕ) : Type 0 where
    pub lengths : List ℕ
    pub fit : AreInParts parts lengths
    pub sum_is : sum lengths ≡ lows parts + spare
    pub adds : wide_spread bound parts term spare ≡ wide_magnitude term (worths_of bound parts lengths)

  pick_within : (b : Bool) (v w most : ℕ) → v ≤ most → w ≤ pick b 0 most → pick b v w ≤ most
  pick_within true v w most h k = h
  pick_within false v w most h k = k

  pick_idle : (b : Bool) (v w most : ℕ) → w ≤ pick b 0 most → pick b 0 (pick b v w) ≡ w
  pick_idle true v w most h = omega (arith, h)
  pick_idle false v w most h = refl

  abbrev pub cap : ℕ → ℕ
  cap k = pick (names term k) 0 (part_at parts k).room

  pub spread_by : (spare : ℕ) → spare ≤ rooms parts → IsTermBy spare
  spread_by spare few = by (greatest_found (term_spread bound parts term) (spare - idle) (min spare (term_room parts term) + 1 - (spare - idle)) (omega (arith, few, rooms_split)))
    where
      by : (k : ℕ) × (k < min spare (term_room parts term) + 1 - (spare - idle)) × (greatest_from (term_spread bound parts term) (spare - idle) (min spare (term_room parts term) + 1 - (spare - idle)) ≡ term_spread bound parts term ((spare - idle) + k)) → IsTermBy spare
      by found =
          let some = (spare - idle) + found.0 in
          let named = term_found bound parts term once some (omega (arith, found.1)) in
          let rest = spare - some in
          let other : ℕ → ℕ = give cap rest in
          let other_low : (k : ℕ) → other k ≤ cap k = λ k. omega arith in
          let more : ℕ → ℕ = λ k. pick (names term k) (named.more k) (other k) in
          let fits : FitRooms bound parts more = λ k. pick_within (names term k) (named.more k) (other k) (part_at parts k).room (named.fit k) (other_low k) in
          let all = all_taken more (length parts) term once inside in
          let taken_is : taken more term ≡ some = same_taken more named.more term (λ k h. pick_is (names term k) (named.more k) (other k) h) ∙ named.taken_is in
          let idle_letters : sum_to (λ k. pick (names term k) 0 (more k)) (length parts) ≡ sum_to other (length parts) =
          sum_same (λ k. pick (names term k) 0 (more k)) other (length parts) (λ k less. pick_idle (names term k) (named.more k) (other k) (part_at parts k).room (other_low k)) in
          let gives = given cap rest (length parts) in
          let total = lengths_sum more parts in
          record {
            lengths = lengths_of more parts;
            fit = lengths_fit more parts fits;
            sum_is = omega (arith, total, all, taken_is, idle_letters, gives, idle_rooms, found.1);
            adds = found.2 ∙ named.value_is
                ∙ sym (at_list (worths_of bound parts (lengths_of more parts)) term
                ∙ same_numbers (slice_index (worths_of bound parts (lengths_of more parts))) (worth bound parts more) term (λ k h. lengths_worth bound more parts k (inside k h))
                ∙ same_numbers (worth bound parts more) (worth bound parts named.more) term (λ k h. ap (λ n. worth_of bound (part_at parts k).worth ((part_at parts k).low + n)) (pick_is (names term k) (named.more k) (other k) h)));
          }
