-- The greatest that a wide term comes to over all ways to spread spare letters goes by its form.
use Rattle.std.proofs.Common.{◌≡◌, ℕ, ◌+◌, ◌-◌, ◌*◌, ◌≤◌, min, max, Bool, true, false, ◌||◌, nat_abs, List, refl, sym, ap, ap₂, ◌∙◌, arith, eq-eqb}
use Rattle.std.specs.Prelude.{if◌then◌else◌, slice_index}
use Rattle.std.proofs.Math.Nat.{mul-le-mul_left}
use Rattle.adp_model.specs.WideForm as wide
use Rattle.adp_model.specs.WideForm.{Number, Value, Sum, Difference, Product, Greater, Lesser}
use Rattle.adp_model.specs.Terms.{wide_magnitude}
use Rattle.grammar_check.specs.declared.node.Operation.{Operation}
use Rattle.grammar_check.specs.declared.node.Operation.TheVariants as operations
use Rattle.grammar_check.specs.declared.part.Part.{Part}
use Rattle.grammar_check.specs.Plans.{worth_of, part_at}
use Rattle.grammar_check.specs.TermSpreads.{put, taken, term_room, names, joined, term_spread}
use Rattle.grammar_check.proofs.SpreadWays.{greatest_above, greatest_found}

-- ---- the magnitude of a term by a number for each place

abbrev pub at_numbers : (ℕ → ℕ) → wide.WideForm → ℕ
at_numbers number (Number constant) = nat_abs constant
at_numbers number (Value place) = number place
at_numbers number (Sum left right) = put operations.Sum (at_numbers number left) (at_numbers number right)
at_numbers number (Difference left right) = put operations.Sum (at_numbers number left) (at_numbers number right)
at_numbers number (Product left right) = put operations.Product (at_numbers number left) (at_numbers number right)
at_numbers number (Greater left right) = put operations.Greater (at_numbers number left) (at_numbers number right)
at_numbers number (Lesser left right) = put operations.Greater (at_numbers number left) (at_numbers number right)

pub at_list : (numbers : List ℕ) (term : wide.WideForm) → wide_magnitude term numbers ≡ at_numbers (slice_index numbers) term
at_list numbers (Number constant) = refl
at_list numbers (Value place) = refl
at_list numbers (Sum left right) = ap₂ (put operations.Sum) (at_list numbers left) (at_list numbers right)
at_list numbers (Difference left right) = ap₂ (put operations.Sum) (at_list numbers left) (at_list numbers right)
at_list numbers (Product left right) = ap₂ (put operations.Product) (at_list numbers left) (at_list numbers right)
at_list numbers (Greater left right) = ap₂ (put operations.Greater) (at_list numbers left) (at_list numbers right)
at_list numbers (Lesser left right) = ap₂ (put operations.Greater) (at_list numbers left) (at_list numbers right)

or_left : (a b : Bool) → a ≡ true → (a || b) ≡ true
or_left true b e = refl
or_left false b e = absurd cc

or_right : (a b : Bool) → b ≡ true → (a || b) ≡ true
or_right true b e = refl
or_right false b e = e

-- it asks for the numbers of the places alone that the term names
module _ (one other : ℕ → ℕ) where
  abbrev AgreeOn : wide.WideForm → Type 0
  AgreeOn term = (place : ℕ) → names term place ≡ true → one place ≡ other place

  pub same_numbers : (term : wide.WideForm) → AgreeOn term → at_numbers one term ≡ at_numbers other term
  same_numbers (Number constant) agree = refl
  same_numbers (Value place) agree = agree place (eq-eqb place place refl)
  same_numbers (Sum left right) agree =
      ap₂ (put operations.Sum) (same_numbers left (λ k h. agree k (or_left (names left k) (names right k) h))) (same_numbers right (λ k h. agree k (or_right (names left k) (names right k) h)))
  same_numbers (Difference left right) agree =
      ap₂ (put operations.Sum) (same_numbers left (λ k h. agree k (or_left (names left k) (names right k) h))) (same_numbers right (λ k h. agree k (or_right (names left k) (names right k) h)))
  same_numbers (Product left right) agree =
      ap₂ (put operations.Product) (same_numbers left (λ k h. agree k (or_left (names left k) (names right k) h))) (same_numbers right (λ k h. agree k (or_right (names left k) (names right k) h)))
  same_numbers (Greater left right) agree =
      ap₂ (put operations.Greater) (same_numbers left (λ k h. agree k (or_left (names left k) (names right k) h))) (same_numbers right (λ k h. agree k (or_right (names left k) (names right k) h)))
  same_numbers (Lesser left right) agree =
      ap₂ (put operations.Greater) (same_numbers left (λ k h. agree k (or_left (names left k) (names right k) h))) (same_numbers right (λ k h. agree k (or_right (names left k) (names right k) h)))

  pub same_taken : (term : wide.WideForm) → AgreeOn term → taken one term ≡ taken other term
  same_taken (Number constant) agree = refl
  same_taken (Value place) agree = agree place (eq-eqb place place refl)
  same_taken (Sum left right) agree =
      ap₂ (put operations.Sum) (same_taken left (λ k h. agree k (or_left (names left k) (names right k) h))) (same_taken right (λ k h. agree k (or_right (names left k) (names right k) h)))
  same_taken (Difference left right) agree =
      ap₂ (put operations.Sum) (same_taken left (λ k h. agree k (or_left (names left k) (names right k) h))) (same_taken right (λ k h. agree k (or_right (names left k) (names right k) h)))
  same_taken (Product left right) agree =
      ap₂ (put operations.Sum) (same_taken left (λ k h. agree k (or_left (names left k) (names right k) h))) (same_taken right (λ k h. agree k (or_right (names left k) (names right k) h)))
  same_taken (Greater left right) agree =
      ap₂ (put operations.Sum) (same_taken left (λ k h. agree k (or_left (names left k) (names right k) h))) (same_taken right (λ k h. agree k (or_right (names left k) (names right k) h)))
  same_taken (Lesser left right) agree =
      ap₂ (put operations.Sum) (same_taken left (λ k h. agree k (or_left (names left k) (names right k) h))) (same_taken right (λ k h. agree k (or_right (names left k) (names right k) h)))

-- ---- two sides

pub times_rise : (a a' b b' : ℕ) → a ≤ a' → b ≤ b' → a * b ≤ a' * b'
times_rise a a' b b' one other =
    let first : a * b ≤ a * b' = mul-le-mul_left a other in
    let second : b' * a ≤ b' * a' = mul-le-mul_left b' one in
    grind (arith, first, second)

at_least_one : (a a' : ℕ) → a ≤ a' → max 1 a ≤ max 1 a'
at_least_one a a' h = omega (arith, h)

-- what two sides come to rises with each of them
put_rises : (operation : Operation) (a a' b b' : ℕ) → a ≤ a' → b ≤ b' → put operation a b ≤ put operation a' b'
put_rises operations.Sum a a' b b' one other = omega (arith, one, other)
put_rises operations.Product a a' b b' one other = times_rise (max 1 a) (max 1 a') (max 1 b) (max 1 b') (at_least_one a a' one) (at_least_one b b' other)
put_rises operations.Greater a a' b b' one other = omega (arith, one, other)

-- a share is no greater than the greatest of all
join_above : (operation : Operation) (left right : ℕ → ℕ) (left_room right_room a b x y : ℕ) → a ≤ left_room → b ≤ right_room → x ≤ left a → y ≤ right b → put operation x y ≤ joined operation left left_room right right_room (a + b)
join_above operation left right left_room right_room a b x y within within' below below' =
    let number : ℕ → ℕ = λ more. put operation (left more) (right ((a + b) - more)) in
    let first = (a + b) - right_room in
    let above = greatest_above number first (min (a + b) left_room + 1 - first) (a - first) (omega (arith, within, within')) in
    let place : first + (a - first) ≡ a = omega (arith, within') in
    let rest : (a + b) - a ≡ b = omega arith in
    let at : number (first + (a - first)) ≡ put operation (left a) (right b) = ap number place ∙ ap (λ n. put operation (left a) (right n)) rest in
    let rises = put_rises operation x (left a) y (right b) below below' in
    omega (arith, above, at, rises)

-- some share is the greatest of all
record IsShare (operation : Operation) (left : ℕ → ℕ) (left_room : ℕ) (right : ℕ → ℕ) (right_room spare : ℕ) : Type 0 where
  one : ℕ
  other : ℕ
  one_within : one ≤ left_room
  other_within : other ≤ right_room
  sum_is : one + other ≡ spare
  value_is : joined operation left left_room right right_room spare ≡ put operation (left one) (right other)

join_found : (operation : Operation) (left : ℕ → ℕ) (left_room : ℕ) (right : ℕ → ℕ) (right_room spare : ℕ) → spare ≤ left_room + right_room → IsShare operation left left_room right right_room spare
join_found operation left left_room right right_room spare few =
    let first = spare - right_room in
    let found = greatest_found (λ more. put operation (left more) (right (spare - more))) first (min spare left_room + 1 - first) (omega (arith, few)) in
    let one = first + found.0 in
    record {
      one = one;
      other = spare - one;
      one_within = omega (arith, found.1);
      other_within = omega arith;
      sum_is = omega (arith, found.1);
      value_is = found.2;
    }

-- ---- terms

-- no value stands on both sides of a node
abbrev pub IsOnce : wide.WideForm → Type 0
IsOnce (Number constant) = Unit {0}
IsOnce (Value place) = Unit {0}
IsOnce (Sum left right) = IsOnce left × IsOnce right × ((place : ℕ) → names left place ≡ true → names right place ≡ true → ⊥)
IsOnce (Difference left right) = IsOnce left × IsOnce right × ((place : ℕ) → names left place ≡ true → names right place ≡ true → ⊥)
IsOnce (Product left right) = IsOnce left × IsOnce right × ((place : ℕ) → names left place ≡ true → names right place ≡ true → ⊥)
IsOnce (Greater left right) = IsOnce left × IsOnce right × ((place : ℕ) → names left place ≡ true → names right place ≡ true → ⊥)
IsOnce (Lesser left right) = IsOnce left × IsOnce right × ((place : ℕ) → names left place ≡ true → names right place ≡ true → ⊥)

if_true : (b : Bool) (v w : ℕ) → b ≡ true → (if b then v else w) ≡ v
if_true true v w e = refl
if_true false v w e = absurd cc

if_false : (b : Bool) (v w : ℕ) → (b ≡ true → ⊥) → (if b then v else w) ≡ w
if_false true v w e = absurd (e refl)
if_false false v w e = refl

if_within : (b : Bool) (v w most : ℕ) → v ≤ most → w ≤ most → (if b then v else w) ≤ most
if_within true v w most h k = h
if_within false v w most h k = k

module _ (bound : ℕ → ℕ → ℕ) (parts : List Part) where
  -- what the part at the place adds with so many letters more than its least length
  abbrev pub worth : (ℕ → ℕ) → ℕ → ℕ
  worth more place = worth_of bound (part_at parts place).worth ((part_at parts place).low + more place)

  -- no part has more than its room
  abbrev pub FitRooms : (ℕ → ℕ) → Type 0
  FitRooms more = (place : ℕ) → more place ≤ (part_at parts place).room

  -- a way adds no more than the greatest
  pub record IsBelow (more : ℕ → ℕ) (term : wide.WideForm) : Type 0 where
    pub few : taken more term ≤ term_room parts term
    pub value : at_numbers (worth more) term ≤ term_spread bound parts term (taken more term)

  both_below : (more : ℕ → ℕ) (operation : Operation) (left right : wide.WideForm) → IsBelow more left → IsBelow more right → put operation (at_numbers (worth more) left) (at_numbers (worth more) right) ≤ joined operation (term_spread bound parts left) (term_room parts left) (term_spread bound parts right) (term_room parts right) (taken more left + taken more right)
  both_below more operation left right one other =
      join_above operation (term_spread bound parts left) (term_spread bound parts right) (term_room parts left) (term_room parts right) (taken more left) (taken more right)
      (at_numbers (worth more) left) (at_numbers (worth more) right) one.few other.few one.value other.value

  pub term_below : (more : ℕ → ℕ) → FitRooms more → (term : wide.WideForm) → IsBelow more term
  term_below more fit (Number constant) = record { few = omega arith; value = omega arith }
  term_below more fit (Value place) = record { few = fit place; value = omega arith }
  term_below more fit (Sum left right) =
      let one = term_below more fit left in let other = term_below more fit right in
      record { few = omega (arith, one.few, other.few); value = both_below more operations.Sum left right one other }
  term_below more fit (Difference left right) =
      let one = term_below more fit left in let other = term_below more fit right in
      record { few = omega (arith, one.few, other.few); value = both_below more operations.Sum left right one other }
  term_below more fit (Product left right) =
      let one = term_below more fit left in let other = term_below more fit right in
      record { few = omega (arith, one.few, other.few); value = both_below more operations.Product left right one other }
  term_below more fit (Greater left right) =
      let one = term_below more fit left in let other = term_below more fit right in
      record { few = omega (arith, one.few, other.few); value = both_below more operations.Greater left right one other }
  term_below more fit (Lesser left right) =
      let one = term_below more fit left in let other = term_below more fit right in
      record { few = omega (arith, one.few, other.few); value = both_below more operations.Greater left right one other }

  -- some way adds the greatest
  pub record IsFound (term : wide.WideForm) (spare : ℕ) : Type 0 where
    pub more : ℕ → ℕ
    pub fit : FitRooms more
    pub taken_is : taken more term ≡ spare
    pub value_is : term_spread bound parts term spare ≡ at_numbers (worth more) term

  -- ways of two sides that name no place together are one way
  record ArePaired (left : wide.WideForm) (a : ℕ) (right : wide.WideForm) (b : ℕ) : Type 0 where
    more : ℕ → ℕ
    fit : FitRooms more
    left_taken : taken more left ≡ a
    right_taken : taken more right ≡ b
    left_value : term_spread bound parts left a ≡ at_numbers (worth more) left
    right_value : term_spread bound parts right b ≡ at_numbers (worth more) right

  paired : (left right : wide.WideForm) (a b : ℕ) → ((place : ℕ) → names left place ≡ true → names right place ≡ true → ⊥) → IsFound left a → IsFound right b → ArePaired left a right b
  paired left right a b apart one other =
      let more : ℕ → ℕ = λ place. if names left place then one.more place else other.more place in
      let in_left : (place : ℕ) → names left place ≡ true → more place ≡ one.more place = λ place h. if_true (names left place) (one.more place) (other.more place) h in
      let in_right : (place : ℕ) → names right place ≡ true → more place ≡ other.more place = λ place h. if_false (names left place) (one.more place) (other.more place) (λ g. apart place g h) in
      record {
        more = more;
        fit = λ place. if_within (names left place) (one.more place) (other.more place) (part_at parts place).room (one.fit place) (other.fit place);
        left_taken = same_taken more one.more left in_left ∙ one.taken_is;
        right_taken = same_taken more other.more right in_right ∙ other.taken_is;
        left_value = one.value_is ∙ sym (same_numbers (worth more) (worth one.more) left (λ place h. ap (λ n. worth_of bound (part_at parts place).worth ((part_at parts place).low + n)) (in_left place h)));
        right_value = other.value_is ∙ sym (same_numbers (worth more) (worth other.more) right (λ place h. ap (λ n. worth_of bound (part_at parts place).worth ((part_at parts place).low + n)) (in_right place h)));
      }

  -- what two sides come to at a pair of ways
  record AreFound (operation : Operation) (left right : wide.WideForm) (spare : ℕ) : Type 0 where
    more : ℕ → ℕ
    fit : FitRooms more
    taken_is : taken more left + taken more right ≡ spare
    value_is : joined operation (term_spread bound parts left) (term_room parts left) (term_spread bound parts right) (term_room parts right) spare ≡ put operation (at_numbers (worth more) left) (at_numbers (worth more) right)

  both_found : (operation : Operation) (left right : wide.WideForm) (spare : ℕ) → ((place : ℕ) → names left place ≡ true → names right place ≡ true → ⊥)
      → ((a : ℕ) → a ≤ term_room parts left → IsFound left a) → ((b : ℕ) → b ≤ term_room parts right → IsFound right b)
      → spare ≤ term_room parts left + term_room parts right → AreFound operation left right spare
  both_found operation left right spare apart one other few =
      let share = join_found operation (term_spread bound parts left) (term_room parts left) (term_spread bound parts right) (term_room parts right) spare few in
      let pair = paired left right share.one share.other apart (one share.one share.one_within) (other share.other share.other_within) in
      record {
        more = pair.more;
        fit = pair.fit;
        taken_is = ap₂ (put operations.Sum) pair.left_taken pair.right_taken ∙ share.sum_is;
        value_is = share.value_is ∙ ap₂ (put operation) pair.left_value pair.right_value;
      }

  pub term_found : (term : wide.WideForm) → IsOnce term → (spare : ℕ) → spare ≤ term_room parts term → IsFound term spare
  term_found (Number constant) once spare few = record { more = λ place. 0; fit = λ place. omega arith; taken_is = omega (arith, few); value_is = refl }
  term_found (Value place) once spare few =
      let all : min spare (part_at parts place).room ≡ spare = omega (arith, few) in
      record {
        more = λ at. min spare (part_at parts at).room;
        fit = λ at. omega arith;
        taken_is = all;
        value_is = ap (λ n. worth_of bound (part_at parts place).worth ((part_at parts place).low + n)) (sym all);
      }
  term_found (Sum left right) once spare few =
      let found = both_found operations.Sum left right spare once.2 (term_found left once.0) (term_found right once.1) few in
      record { more = found.more; fit = found.fit; taken_is = found.taken_is; value_is = found.value_is }
  term_found (Difference left right) once spare few =
      let found = both_found operations.Sum left right spare once.2 (term_found left once.0) (term_found right once.1) few in
      record { more = found.more; fit = found.fit; taken_is = found.taken_is; value_is = found.value_is }
  term_found (Product left right) once spare few =
      let found = both_found operations.Product left right spare once.2 (term_found left once.0) (term_found right once.1) few in
      record { more = found.more; fit = found.fit; taken_is = found.taken_is; value_is = found.value_is }
  term_found (Greater left right) once spare few =
      let found = both_found operations.Greater left right spare once.2 (term_found left once.0) (term_found right once.1) few in
      record { more = found.more; fit = found.fit; taken_is = found.taken_is; value_is = found.value_is }
  term_found (Lesser left right) once spare few =
      let found = both_found operations.Greater left right spare once.2 (term_found left once.0) (term_found right once.1) few in
      record { more = found.more; fit = found.fit; taken_is = found.taken_is; value_is = found.value_is }
