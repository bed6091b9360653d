-- The greatest over all ways to spread spare letters over parts, one part at a time.
use Rattle.std.proofs.Common.{◌≡◌, ℕ, suc, ◌+◌, ◌-◌, ◌*◌, ◌^◌, ◌<◌, ◌≤◌, min, max, List, [], ◌∷◌, length, drop, nat_cmp, sym, ap, ap₂, subst, ◌∙◌, arith}
use Rattle.std.specs.Ordering.{ord_max}
use Rattle.std.proofs.lemmas.List.{drop_more, drop_all}
use Rattle.adp_model.specs.LimitFaults.{told}
use Rattle.grammar_check.specs.declared.part.Part.{Part}
use Rattle.grammar_check.specs.declared.part.Worth.{Worth}
use Rattle.grammar_check.specs.declared.part.Worth.TheVariants.{OfRule, OfLetters}
use Rattle.grammar_check.specs.declared.table.Table.{Table}
use Rattle.grammar_check.specs.Tables.{entry}
use Rattle.grammar_check.specs.Plans.{ReadsRight, worth_of, greatest_from, rooms, spread, part_at}
use Rattle.grammar_check.proofs.CutNumbers.{told-product, told-sum, told-max}

pub ord_max-numbers : (a b : ℕ) → ord_max nat_cmp a b ≡ max a b
ord_max-numbers a b = grind arith

-- the bound of a rule that is counted once is what it adds
pub once_read : (bound : ℕ → ℕ → ℕ) (table : Table) (worth : Worth) (rule factor len number : ℕ) → worth ≡ OfRule rule factor → factor ≡ 1 → ReadsRight bound table worth len → number ≡ entry table rule len → number ≡ told (worth_of bound worth len)
once_read bound table worth rule factor len number is once reads number_is =
    let right : entry table rule len ≡ told (bound rule len) = subst (λ w. ReadsRight bound table w len) is reads in
    let same : bound rule len ≡ factor * bound rule len = subst (λ f. bound rule len ≡ f * bound rule len) (sym once) (omega arith) in
    subst (λ w. number ≡ told (worth_of bound w len)) (sym is) (number_is ∙ right ∙ ap told same)

-- letters add their number times what one of them adds
pub letters_add : (bound : ℕ → ℕ → ℕ) (worth : Worth) (weight factor each len : ℕ) → worth ≡ OfLetters weight factor → each ≡ told (factor * weight) → told (len * each) ≡ told (worth_of bound worth len)
letters_add bound worth weight factor each len is each_is =
    let product : len * (factor * weight) ≡ factor * (weight * len) = grind arith in
    let all : told (len * each) ≡ told (factor * (weight * len)) = ap (λ e. told (len * e)) each_is ∙ told-product len (factor * weight) ∙ ap told product in
    subst (λ w. told (len * each) ≡ told (worth_of bound w len)) (sym is) all

-- what a part adds with so many letters more than its least length, and the parts behind it with the others
abbrev pub added_by : (ℕ → ℕ → ℕ) → Part → List Part → ℕ → ℕ → ℕ
added_by bound part others spare more = worth_of bound part.worth (part.low + more) + spread bound others (spare - more)

pub best_step : (number : ℕ → ℕ) (first more best here rest sum next a b : ℕ) → first ≤ more → best ≡ told (greatest_from number first (more - first)) → number more ≡ a + b → here ≡ told a → rest ≡ told b → sum ≡ told (here + rest) → next ≡ ord_max nat_cmp best sum → next ≡ told (greatest_from number first (more + 1 - first))
best_step number first more best here rest sum next a b order best_is number_is here_is rest_is sum_is next_is =
    let count : more + 1 - first ≡ suc (more - first) = omega arith in
    let place : first + (more - first) ≡ more = omega arith in
    let last : number (first + (more - first)) ≡ a + b = ap number place ∙ number_is in
    let added : sum ≡ told (a + b) = sum_is ∙ ap₂ (λ x y. told (x + y)) here_is rest_is ∙ told-sum a b in
    let greater : next ≡ max best sum = next_is ∙ ord_max-numbers best sum in
    rw count
    (greater ∙ ap₂ (λ x y. max x y) best_is added ∙ told-max (greatest_from number first (more - first)) (a + b)
    ∙ ap (λ x. told (max (greatest_from number first (more - first)) x)) (sym last))

pub spread_at : (bound : ℕ → ℕ → ℕ) (parts : List Part) (place spare : ℕ) → place < length parts → spread bound (drop place parts) spare ≡ greatest_from (added_by bound (part_at parts place) (drop (place + 1) parts) spare) (spare - rooms (drop (place + 1) parts)) (min spare (part_at parts place).room + 1 - (spare - rooms (drop (place + 1) parts)))
spread_at bound parts place spare inside = ap (λ ps. spread bound ps spare) (drop_more parts place (record { worth = OfLetters 0 0; low = 0; room = 0 }) inside)

pub best_done : (bound : ℕ → ℕ → ℕ) (parts : List Part) (part : Part) (place spare rest_room best more first last : ℕ) → place < length parts → part ≡ part_at parts place → spare < 2 ^ 64 → rest_room ≡ min (rooms (drop (place + 1) parts)) (2 ^ 64 - 1) → first ≡ spare - rest_room → last ≡ min spare part.room → last + 1 ≤ more → first ≤ more → more ≤ max first (last + 1) → best ≡ told (greatest_from (added_by bound part (drop (place + 1) parts) spare) first (more - first)) → best ≡ told (spread bound (drop place parts) spare)
best_done bound parts part place spare rest_room best more first last inside part_is fits rest_is first_is last_is ended order upper best_is =
    let from_there : first ≡ spare - rooms (drop (place + 1) parts) = omega arith in
    let count : more - first ≡ min spare part.room + 1 - first = omega arith in
    best_is
    ∙ ap (λ n. told (greatest_from (added_by bound part (drop (place + 1) parts) spare) first n)) count
    ∙ ap (λ n. told (greatest_from (added_by bound part (drop (place + 1) parts) spare) n (min spare part.room + 1 - n))) from_there
    ∙ ap (λ p. told (greatest_from (added_by bound p (drop (place + 1) parts) spare) (spare - rooms (drop (place + 1) parts)) (min spare p.room + 1 - (spare - rooms (drop (place + 1) parts))))) part_is
    ∙ ap told (sym (spread_at bound parts place spare inside))

-- the part at the last place stands alone
pub last_alone : (bound : ℕ → ℕ → ℕ) (parts : List Part) (part : Part) (place spare : ℕ) → place + 1 ≡ length parts → part ≡ part_at parts place → spread bound (part ∷ []) spare ≡ spread bound (drop place parts) spare
last_alone bound parts part place spare ends part_is =
    let whole = drop_more parts place (record { worth = OfLetters 0 0; low = 0; room = 0 }) (omega arith) in
    let none : drop (place + 1) parts ≡ [] = drop_all (place + 1) parts (omega arith) in
    ap (λ ps. spread bound ps spare) (ap₂ (λ p ps. p ∷ ps) part_is (sym none) ∙ sym whole)
