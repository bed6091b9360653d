-- Alternatives whose one part is a rule that is counted once: their values, and the plan of a rule with one more.
use Rattle.std.proofs.Common.{◌≡◌, ℕ, zero, suc, ◌+◌, ◌-◌, ◌*◌, ◌<◌, ◌≤◌, min, max, ◌⊎◌, inl, inr, List, [], ◌∷◌, ◌++◌, length, map, slice_index_or, slice_set, refl, sym, ap, ap₂, subst, ◌∙◌, arith}
use Rattle.std.specs.List.{All}
use Rattle.std.proofs.lemmas.List.{get_or-map, length-map, length-append, get_or_append_left, get_or-append-add}
use Rattle.adp_model.specs.LimitFaults.{told}
use Rattle.grammar_check.specs.declared.part.Part.{Part}
use Rattle.grammar_check.specs.declared.part.Worth.{Worth}
use Rattle.grammar_check.specs.declared.part.Worth.TheVariants.{OfRule}
use Rattle.grammar_check.specs.declared.singles.Shape.{Shape}
use Rattle.grammar_check.specs.declared.singles.Single.{Single}
use Rattle.grammar_check.specs.declared.singles.Singles.{Singles}
use Rattle.grammar_check.specs.declared.rule_plan.RulePlan.{RulePlan}
use Rattle.grammar_check.specs.declared.table.Table.{Table}
use Rattle.grammar_check.specs.Plans.{worth_of, greatest_from, spread}
use Rattle.grammar_check.specs.RuleValues.{Kept, plan_of, kept_value, kept_rule_value, IsKeptReadable, IsReadFor, AreAllRead}
use Rattle.grammar_check.specs.SingleRules.{single_kept, singles_kept, all_singles, single_number, AreSinglesRead}
use Rattle.grammar_check.specs.Fills.{kept_plan}
use Rattle.grammar_check.specs.KeptPlans.{AddsKept}
use Rattle.grammar_check.specs.TokenNumbers.{greatest_of}
use Rattle.grammar_check.proofs.Kept.{kept_too_short, kept_too_long, kept_of_ways}
use Rattle.grammar_check.proofs.KeptPlanSteps.{push_adds, adds_first, adds_second}

-- ---- lists

pub All-of_map : {X Y : Type 0} (P : Y → Type 0) (f : X → Y) (xs : List X) → All P (map f xs) → All (λ x. P (f x)) xs
All-of_map P f xs all k d inside = subst P (get_or-map f xs k d (f d) inside) (all k (f d) (omega (arith, length-map xs f)))

pub All-first : {X : Type 0} (P : X → Type 0) (xs ys : List X) → All P (xs ++ ys) → All P xs
All-first P xs ys all k d inside = subst P (get_or_append_left xs ys d k inside) (all k d (omega (arith, length-append xs ys)))

pub All-second : {X : Type 0} (P : X → Type 0) (xs ys : List X) → All P (xs ++ ys) → All P ys
All-second P xs ys all k d inside = subst P (get_or-append-add xs ys k d) (all (length xs + k) d (omega (arith, length-append xs ys)))

-- ---- values

-- a part that stands alone takes all spare letters
one_spread : (bound : ℕ → ℕ → ℕ) (worth : Worth) (low room spare : ℕ) → spare ≤ room → spread bound (record { worth = worth; low = low; room = room } ∷ []) spare ≡ worth_of bound worth (low + spare)
one_spread bound worth low room spare few =
    let number = λ (more : ℕ). worth_of bound worth (low + more) + 0 in
    let first : spare - 0 ≡ spare = omega arith in
    let count : min spare room + 1 - (spare - 0) ≡ 1 = omega arith in
    let all : spread bound (record { worth = worth; low = low; room = room } ∷ []) spare ≡ greatest_from number spare 1 = ap₂ (greatest_from number) first count in
    let one : greatest_from number spare 1 ≡ number (spare + 0) = omega arith in
    let here : spare + 0 ≡ spare = omega arith in
    let nothing : worth_of bound worth (low + spare) + 0 ≡ worth_of bound worth (low + spare) = omega arith in
    all ∙ one ∙ ap number here ∙ nothing

-- what an alternative comes to at a length that fits
single_value : (bound : ℕ → ℕ → ℕ) (shape : Shape) (single : Single) (len : ℕ) → shape.fixed ≤ len → shape.low ≤ len - shape.fixed → len - shape.fixed - shape.low ≤ shape.room → kept_value bound (single_kept shape single) len ≡ single.constant + bound single.rule (len - shape.fixed)
single_value bound shape single len long least few =
    let part : Part = record { worth = OfRule single.rule 1; low = shape.low; room = shape.room } in
    let value = kept_of_ways bound single.constant shape.fixed (part ∷ []) len (omega arith) (omega arith) in
    let spare : ℕ = len - (shape.fixed + (shape.low + 0)) in
    let alone = one_spread bound (OfRule single.rule 1) shape.low shape.room spare (omega arith) in
    let own : shape.low + spare ≡ len - shape.fixed = omega arith in
    let once : 1 * bound single.rule (len - shape.fixed) ≡ bound single.rule (len - shape.fixed) = omega arith in
    value ∙ ap (λ s. single.constant + s) (alone ∙ ap (λ l. 1 * bound single.rule l) own ∙ once)

pub singles_value : (bound : ℕ → ℕ → ℕ) (shape : Shape) (each : List Single) (len : ℕ) → shape.fixed ≤ len → shape.low ≤ len - shape.fixed → len - shape.fixed - shape.low ≤ shape.room → kept_rule_value bound (map (single_kept shape) each) len ≡ greatest_of (single_number bound (len - shape.fixed)) each
singles_value bound shape [] len long least few = refl
singles_value bound shape (single ∷ each) len long least few =
    ap₂ (λ a b. max a b) (single_value bound shape single len long least few) (singles_value bound shape each len long least few)

-- at a length that does not fit there is nothing
single_none : (bound : ℕ → ℕ → ℕ) (shape : Shape) (single : Single) (len : ℕ) → (len < shape.fixed + shape.low) ⊎ ((shape.fixed ≤ len) × (shape.room < len - shape.fixed - shape.low)) → kept_value bound (single_kept shape single) len ≡ 0
single_none bound shape single len (inl short) = kept_too_short bound single.constant shape.fixed (record { worth = OfRule single.rule 1; low = shape.low; room = shape.room } ∷ []) len (omega arith)
single_none bound shape single len (inr long) = kept_too_long bound single.constant shape.fixed (record { worth = OfRule single.rule 1; low = shape.low; room = shape.room } ∷ []) len long.0 (omega (arith, long.1))

pub singles_none : (bound : ℕ → ℕ → ℕ) (shape : Shape) (each : List Single) (len : ℕ) → (len < shape.fixed + shape.low) ⊎ ((shape.fixed ≤ len) × (shape.room < len - shape.fixed - shape.low)) → kept_rule_value bound (map (single_kept shape) each) len ≡ 0
singles_none bound shape [] len none = refl
singles_none bound shape (single ∷ each) len none =
    let here = single_none bound shape single len none in
    let rest = singles_none bound shape each len none in
    ap₂ (λ a b. max a b) here rest

-- what they read
pub singles_readable : (rules : ℕ) (shape : Shape) (each : List Single) → All (IsKeptReadable rules) (map (single_kept shape) each) → All (λ (single : Single). single.rule < rules) each
singles_readable rules shape each readable k d inside =
    All-of_map (IsKeptReadable rules) (single_kept shape) each readable k d inside 0 (record { worth = OfRule (slice_index_or each k d).rule 1; low = shape.low; room = shape.room }) (omega arith)

pub singles_read : (bound : ℕ → ℕ → ℕ) (table : Table) (shape : Shape) (each : List Single) (len : ℕ) → shape.fixed ≤ len → AreAllRead bound table (map (single_kept shape) each) len → AreSinglesRead bound table (len - shape.fixed) each
singles_read bound table shape each len long reads k d inside =
    All-of_map (IsReadFor bound table len) (single_kept shape) each reads k d inside long 0 (len - shape.fixed) (omega arith) (omega arith)

-- the greatest so far, with one more
pub single_step : (next value best constant number bound rest whole : ℕ) → next ≡ max value best → told value ≡ told (constant + number) → number ≡ told bound → told (max best (max (constant + bound) rest)) ≡ whole → told (max next rest) ≡ whole
single_step next value best constant number bound rest whole next_is value_is number_is before = omega arith

pub singles_step : (next value best here rest all whole : ℕ) → next ≡ max value best → value ≡ told here → all ≡ max here rest → max best (told all) ≡ whole → max next (told rest) ≡ whole
singles_step next value best here rest all whole next_is value_is all_is before = omega arith

-- ---- one alternative more

pub kept_plan-same : (new old : RulePlan) → new.singles ≡ old.singles → new.alternatives ≡ old.alternatives → kept_plan new ≡ kept_plan old
kept_plan-same new old singles alternatives = ap₂ (λ s a. all_singles s.items ++ plan_of a.items) singles alternatives

-- alternatives of a new shape come last
pub shape_adds : (all : List Singles) (new : Singles) (single : Single) → new.each.items ≡ single ∷ [] → AddsKept (all_singles all) (all_singles (all ++ new ∷ [])) (single_kept new.shape single)
shape_adds [] new single each_is =
    subst (λ plan. AddsKept [] (plan ++ []) (single_kept new.shape single)) (ap (map (single_kept new.shape)) (sym each_is)) (push_adds [] (single_kept new.shape single))
shape_adds (first ∷ all) new single each_is =
    adds_second (singles_kept first) (all_singles all) (all_singles (all ++ new ∷ [])) (single_kept new.shape single) (shape_adds all new single each_is)

-- those at a place have one more
pub place_adds : (all : List Singles) (place : ℕ) (old new : Singles) (kept : Kept) → place < length all → old ≡ slice_index_or all place old → AddsKept (singles_kept old) (singles_kept new) kept → AddsKept (all_singles all) (all_singles (slice_set all place new)) kept
place_adds [] place old new kept inside old_is adds = absurd (omega arith)
place_adds (first ∷ all) zero old new kept inside old_is adds =
    adds_first (singles_kept first) (singles_kept new) (all_singles all) kept (subst (λ s. AddsKept (singles_kept s) (singles_kept new) kept) old_is adds)
place_adds (first ∷ all) (suc place) old new kept inside old_is adds =
    adds_second (singles_kept first) (all_singles all) (all_singles (slice_set all place new)) kept (place_adds all place old new kept (omega arith) old_is adds)
