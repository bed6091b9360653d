-- What is kept of an alternative has its values: tokens of one length add the same in all ways.
use Rattle.std.proofs.Common.{◌≡◌, ℕ, zero, suc, ◌+◌, ◌-◌, ◌^◌, ◌<◌, ◌≤◌, min, max, ◌⊎◌, inl, inr, Bool, true, false, ◌&&◌, nat_eq, nat_le, List, [], ◌∷◌, length, refl, sym, ap, ◌∙◌, arith}
use Rattle.std.specs.Prelude.{if◌then◌else◌}
use Rattle.std.proofs.lemmas.Bool.{le-leb, lt-leb, eqb-true}
use Rattle.adp_model.specs.LimitFaults.{told}
use Rattle.grammar_check.specs.declared.part.Part.{Part}
use Rattle.grammar_check.specs.declared.part.Worth.{Worth}
use Rattle.grammar_check.specs.declared.part.Worth.TheVariants.{OfRule, OfLetters}
use Rattle.grammar_check.specs.Plans.{worth_of, greatest_from, rooms, lows, spread, part_at, is_letters, is_fixed, open_parts, fixed_length, fixed_worth}
use Rattle.grammar_check.specs.Alternatives.{alternative_value, linear_value}
use Rattle.grammar_check.proofs.Spreads.{added_by}
use Rattle.grammar_check.proofs.Sweeps.{value_of_ways, value_too_short, value_too_long}

pub less_or_not : (m n : ℕ) → (m < n) ⊎ (n ≤ m)
less_or_not m n = grind arith

-- ---- tokens of one length

first_of : (a b : Bool) → (a && b) ≡ true → a ≡ true
first_of true b e = refl
first_of false b e = absurd cc

second_of : (a b : Bool) → (a && b) ≡ true → b ≡ true
second_of true b e = e
second_of false b e = absurd cc

fixed_room : (part : Part) → is_fixed part ≡ true → part.room ≡ 0
fixed_room part fixed = eqb-true part.room 0 (first_of (nat_eq part.room 0) (is_letters part.worth) fixed)

letters_worth : (bound : ℕ → ℕ → ℕ) (worth : Worth) (len : ℕ) → is_letters worth ≡ true → worth_of bound worth len ≡ worth_of (λ rule l. 0) worth len
letters_worth bound (OfRule rule factor) len e = absurd cc
letters_worth bound (OfLetters weight factor) len e = refl

fixed_adds : (bound : ℕ → ℕ → ℕ) (part : Part) → is_fixed part ≡ true → worth_of bound part.worth (part.low + 0) ≡ worth_of (λ rule len. 0) part.worth part.low
fixed_adds bound part fixed =
    let same : part.low + 0 ≡ part.low = omega arith in
    ap (worth_of bound part.worth) same ∙ letters_worth bound part.worth part.low (second_of (nat_eq part.room 0) (is_letters part.worth) fixed)

pub lows-open : (parts : List Part) → lows parts ≡ fixed_length parts + lows (open_parts parts)
lows-open [] = omega arith
lows-open (part ∷ parts) = by (is_fixed part) (lows-open parts)
  where
    by : (b : Bool) → lows parts ≡ fixed_length parts + lows (open_parts parts) → part.low + lows parts ≡ ((if b then part.low else 0) + fixed_length parts) + lows (if b then open_parts parts else part ∷ open_parts parts)
    by true rest = omega arith
    by false rest = omega arith

pub rooms-open : (parts : List Part) → rooms (open_parts parts) ≡ rooms parts
rooms-open [] = refl
rooms-open (part ∷ parts) = by (is_fixed part) refl (rooms-open parts)
  where
    by : (b : Bool) → is_fixed part ≡ b → rooms (open_parts parts) ≡ rooms parts → rooms (if b then open_parts parts else part ∷ open_parts parts) ≡ part.room + rooms parts
    by true fixed rest = let none = fixed_room part fixed in omega arith
    by false fixed rest = omega arith

-- numbers that are more by the same number have a greatest that is more by it
greatest_more : (number other : ℕ → ℕ) (more first count : ℕ) → 0 < count → ((k : ℕ) → k < count → number (first + k) ≡ more + other (first + k)) → greatest_from number first count ≡ more + greatest_from other first count
greatest_more number other more first zero some each = absurd (omega arith)
greatest_more number other more first (suc zero) some each = let here = each 0 (omega arith) in omega arith
greatest_more number other more first (suc (suc count)) some each =
    let rest = greatest_more number other more first (suc count) (omega arith) (λ k less. each k (omega arith)) in
    let here = each (suc count) (omega arith) in
    max_more (greatest_from number first (suc count)) (number (first + suc count)) more (greatest_from other first (suc count)) (other (first + suc count)) rest here
  where
    max_more : (a b more c d : ℕ) → a ≡ more + c → b ≡ more + d → max a b ≡ more + max c d
    max_more a b more c d e f = omega arith

pub spread-open : (bound : ℕ → ℕ → ℕ) (parts : List Part) (spare : ℕ) → spare ≤ rooms parts → spread bound parts spare ≡ fixed_worth parts + spread bound (open_parts parts) spare
spread-open bound [] spare few = refl
spread-open bound (part ∷ parts) spare few = by (is_fixed part) refl (λ s. spread-open bound parts s)
  where
    by : (b : Bool) → is_fixed part ≡ b → ((s : ℕ) → s ≤ rooms parts → spread bound parts s ≡ fixed_worth parts + spread bound (open_parts parts) s) → spread bound (part ∷ parts) spare ≡ ((if b then worth_of (λ rule len. 0) part.worth part.low else 0) + fixed_worth parts) + spread bound (if b then open_parts parts else part ∷ open_parts parts) spare
    by true fixed known =
        let none = fixed_room part fixed in
        let adds = fixed_adds bound part fixed in
        let rest = known spare (omega arith) in
        let first : spare - rooms parts ≡ 0 = omega arith in
        let count : min spare part.room + 1 - (spare - rooms parts) ≡ 1 = omega arith in
        let all : greatest_from (added_by bound part parts spare) (spare - rooms parts) (min spare part.room + 1 - (spare - rooms parts)) ≡ greatest_from (added_by bound part parts spare) 0 1 =
        ap (λ n. greatest_from (added_by bound part parts spare) n (min spare part.room + 1 - n)) first ∙ ap (λ n. greatest_from (added_by bound part parts spare) 0 n) (sym (ap (λ n. min spare part.room + 1 - n) first) ∙ count) in
        let one : greatest_from (added_by bound part parts spare) 0 1 ≡ worth_of bound part.worth (part.low + 0) + spread bound parts (spare - 0) = omega arith in
        let left : spare - 0 ≡ spare = omega arith in
        let same = ap (spread bound parts) left in
        sum_up (spread bound (part ∷ parts) spare) (worth_of bound part.worth (part.low + 0)) (spread bound parts (spare - 0)) (spread bound parts spare) (worth_of (λ rule len. 0) part.worth part.low) (fixed_worth parts) (spread bound (open_parts parts) spare) (all ∙ one) adds same rest
      where
        sum_up : (total here behind behind' worth fixed others : ℕ) → total ≡ here + behind → here ≡ worth → behind ≡ behind' → behind' ≡ fixed + others → total ≡ (worth + fixed) + others
        sum_up total here behind behind' worth fixed others e f g h = omega arith
    by false fixed known =
        let room = rooms-open parts in
        let more = greatest_more (added_by bound part parts spare) (added_by bound part (open_parts parts) spare) (fixed_worth parts) (spare - rooms parts) (min spare part.room + 1 - (spare - rooms parts)) (omega arith)
        (λ k less. step k less (known (spare - ((spare - rooms parts) + k)) (omega arith))) in
        more ∙ ap (λ r. fixed_worth parts + greatest_from (added_by bound part (open_parts parts) spare) (spare - r) (min spare part.room + 1 - (spare - r))) (sym room)
        ∙ none_added (fixed_worth parts) (spread bound (part ∷ open_parts parts) spare)
      where
        none_added : (fixed all : ℕ) → fixed + all ≡ (0 + fixed) + all
        none_added fixed all = omega arith

        step : (k : ℕ) → k < min spare part.room + 1 - (spare - rooms parts)
            → spread bound parts (spare - ((spare - rooms parts) + k)) ≡ fixed_worth parts + spread bound (open_parts parts) (spare - ((spare - rooms parts) + k))
            → added_by bound part parts spare ((spare - rooms parts) + k) ≡ fixed_worth parts + added_by bound part (open_parts parts) spare ((spare - rooms parts) + k)
        step k less rest =
            sum_over (worth_of bound part.worth (part.low + ((spare - rooms parts) + k))) (spread bound parts (spare - ((spare - rooms parts) + k))) (fixed_worth parts) (spread bound (open_parts parts) (spare - ((spare - rooms parts) + k))) rest
          where
            sum_over : (here behind fixed others : ℕ) → behind ≡ fixed + others → here + behind ≡ fixed + (here + others)
            sum_over here behind fixed others e = omega arith

-- ---- values

if_true : (b : Bool) (v w : ℕ) → b ≡ true → (if b then v else w) ≡ v
if_true true v w e = refl
if_true false v w e = absurd cc

if_false : (b : Bool) (v w : ℕ) → b ≡ false → (if b then v else w) ≡ w
if_false true v w e = absurd cc
if_false false v w e = refl

pub kept_some : (bound : ℕ → ℕ → ℕ) (constant fixed : ℕ) (parts : List Part) (len : ℕ) → fixed ≤ len → linear_value bound constant fixed parts len ≡ alternative_value bound constant parts (len - fixed)
kept_some bound constant fixed parts len long = if_true (nat_le fixed len) (alternative_value bound constant parts (len - fixed)) 0 (le-leb fixed len long)

pub kept_too_short : (bound : ℕ → ℕ → ℕ) (constant fixed : ℕ) (parts : List Part) (len : ℕ) → len < fixed + lows parts → linear_value bound constant fixed parts len ≡ 0
kept_too_short bound constant fixed parts len short = by (less_or_not len fixed)
  where
    by : (len < fixed) ⊎ (fixed ≤ len) → linear_value bound constant fixed parts len ≡ 0
    by (inl less) = if_false (nat_le fixed len) (alternative_value bound constant parts (len - fixed)) 0 (lt-leb fixed len less)
    by (inr long) = kept_some bound constant fixed parts len long ∙ value_too_short bound constant parts (len - fixed) (omega arith)

pub kept_too_long : (bound : ℕ → ℕ → ℕ) (constant fixed : ℕ) (parts : List Part) (len : ℕ) → fixed ≤ len → rooms parts < len - (fixed + lows parts) → linear_value bound constant fixed parts len ≡ 0
kept_too_long bound constant fixed parts len long many = kept_some bound constant fixed parts len long ∙ value_too_long bound constant parts (len - fixed) (omega arith)

pub kept_of_ways : (bound : ℕ → ℕ → ℕ) (constant fixed : ℕ) (parts : List Part) (len : ℕ) → fixed + lows parts ≤ len → len - (fixed + lows parts) ≤ rooms parts → linear_value bound constant fixed parts len ≡ constant + spread bound parts (len - (fixed + lows parts))
kept_of_ways bound constant fixed parts len long few =
    let spare : len - fixed - lows parts ≡ len - (fixed + lows parts) = omega arith in
    kept_some bound constant fixed parts len (omega arith) ∙ value_of_ways bound constant parts (len - fixed) (omega arith) (omega arith)
    ∙ ap (λ s. constant + spread bound parts s) spare

-- the value of what is kept
pub linear_value-is : (bound : ℕ → ℕ → ℕ) (constant : ℕ) (parts : List Part) (len : ℕ) → len < 2 ^ 32 → told (linear_value bound (told (constant + fixed_worth parts)) (min (fixed_length parts) (2 ^ 64 - 1)) (open_parts parts) len) ≡ told (alternative_value bound constant parts len)
linear_value-is bound constant parts len short = by (less_or_not len (lows parts)) (less_or_not (rooms parts) (len - lows parts))
  where
    fixed : ℕ
    fixed = min (fixed_length parts) (2 ^ 64 - 1)

    total : lows parts ≡ fixed_length parts + lows (open_parts parts)
    total = lows-open parts

    by : (len < lows parts) ⊎ (lows parts ≤ len) → (rooms parts < len - lows parts) ⊎ (len - lows parts ≤ rooms parts) → told (linear_value bound (told (constant + fixed_worth parts)) fixed (open_parts parts) len) ≡ told (alternative_value bound constant parts len)
    by (inl few) room =
        ap told (kept_too_short bound (told (constant + fixed_worth parts)) fixed (open_parts parts) len (omega (arith, total)) ∙ sym (value_too_short bound constant parts len few))
    by (inr long) (inl many) =
        let room = rooms-open parts in
        let exact : fixed ≡ fixed_length parts = omega (arith, total) in
        ap told (kept_too_long bound (told (constant + fixed_worth parts)) fixed (open_parts parts) len (omega (arith, total)) (omega (arith, total)) ∙ sym (value_too_long bound constant parts len many))
    by (inr long) (inr few) =
        let room = rooms-open parts in
        let exact : fixed ≡ fixed_length parts = omega (arith, total) in
        let spare : len - (fixed + lows (open_parts parts)) ≡ len - lows parts = omega (arith, total) in
        let here = kept_of_ways bound (told (constant + fixed_worth parts)) fixed (open_parts parts) len (omega (arith, total)) (omega (arith, total)) ∙ ap (λ s. told (constant + fixed_worth parts) + spread bound (open_parts parts) s) spare in
        let whole = value_of_ways bound constant parts len long few in
        let adds = spread-open bound parts (len - lows parts) few in
        cut (linear_value bound (told (constant + fixed_worth parts)) fixed (open_parts parts) len) (alternative_value bound constant parts len) constant (fixed_worth parts) (spread bound (open_parts parts) (len - lows parts)) (spread bound parts (len - lows parts)) here whole adds
      where
        cut : (kept value constant fixed others all : ℕ) → kept ≡ told (constant + fixed) + others → value ≡ constant + all → all ≡ fixed + others → told kept ≡ told value
        cut kept value constant fixed others all e f g = omega arith

-- of two with the same parts the one with the greater constant has the greater values
pub linear_value-max : (bound : ℕ → ℕ → ℕ) (constant other fixed : ℕ) (parts : List Part) (len : ℕ) → linear_value bound (max constant other) fixed parts len ≡ max (linear_value bound constant fixed parts len) (linear_value bound other fixed parts len)
linear_value-max bound constant other fixed parts len = by (nat_le fixed len) (nat_le (lows parts) (len - fixed) && nat_le (len - fixed - lows parts) (rooms parts)) (spread bound parts (len - fixed - lows parts))
  where
    by : (b d : Bool) (s : ℕ) → (if b then (if d then max constant other + s else 0) else 0) ≡ max (if b then (if d then constant + s else 0) else 0) (if b then (if d then other + s else 0) else 0)
    by true true s = omega arith
    by true false s = refl
    by false d s = refl

-- ---- the open parts are parts

pub record IsPartOf (parts : List Part) (part : Part) : Type 0 where
  pub place : ℕ
  pub inside : place < length parts
  pub part_is : part_at parts place ≡ part

pub open_found : (parts : List Part) (place : ℕ) → place < length (open_parts parts) → IsPartOf parts (part_at (open_parts parts) place)
open_found [] place inside = absurd (omega arith)
open_found (part ∷ parts) place inside = by (is_fixed part) place inside (λ at below. open_found parts at below)
  where
    later : (found : Part) → IsPartOf parts found → IsPartOf (part ∷ parts) found
    later found rest = record { place = suc rest.place; inside = omega (arith, rest.inside); part_is = rest.part_is }

    by : (b : Bool) (at : ℕ) → at < length (if b then open_parts parts else part ∷ open_parts parts) → ((k : ℕ) → k < length (open_parts parts) → IsPartOf parts (part_at (open_parts parts) k)) → IsPartOf (part ∷ parts) (part_at (if b then open_parts parts else part ∷ open_parts parts) at)
    by true at below rest = later (part_at (open_parts parts) at) (rest at below)
    by false zero below rest = record { place = 0; inside = omega arith; part_is = refl }
    by false (suc at) below rest = later (part_at (open_parts parts) at) (rest at (omega arith))

pub length-open : (parts : List Part) → length (open_parts parts) ≤ length parts
length-open [] = omega arith
length-open (part ∷ parts) = by (is_fixed part) (length-open parts)
  where
    by : (b : Bool) → length (open_parts parts) ≤ length parts → length (if b then open_parts parts else part ∷ open_parts parts) ≤ suc (length parts)
    by true rest = omega arith
    by false rest = omega arith
