-- The plan of a rule with one alternative more, and the plans of a grammar.
use Rattle.std.proofs.Common.{◌≡◌, ◌≢◌, ℕ, zero, suc, ◌+◌, ◌-◌, ◌*◌, ◌^◌, ◌<◌, ◌≤◌, min, max, Bool, true, false, ◌&&◌, nat_le, ◌⊎◌, inl, inr, List, [], ◌∷◌, ◌++◌, length, map, slice_index_or, slice_set, Result, Ok, Err, OnOk, refl, sym, ap, ap₂, subst, ◌∙◌, arith}
use Rattle.std.specs.Prelude.{if◌then◌else◌}
use Rattle.std.specs.List.{All}
use Rattle.std.proofs.lemmas.Bool.{le-leb}
use Rattle.std.proofs.lemmas.List.{map-append, map-set, get_or-map, get_or_append_left, get_or-append-add, get_or_push, get_or_default, length-append, length-map, length_push, length-set, get_or-set_other, get_or-set_same}
use Rattle.adp_model.specs.LimitFaults.{told}
use Rattle.adp_model.specs.declared.grammar.Rule as rules
use Rattle.adp_model.specs.declared.grammar.Grammar.{Grammar}
use Rattle.adp_model.specs.WideForm as wide
use Rattle.grammar_check.specs.declared.part.Part.{Part}
use Rattle.grammar_check.specs.declared.part.Worth.TheVariants.{OfLetters}
use Rattle.grammar_check.specs.declared.rule_plan.RulePlan.{RulePlan}
use Rattle.grammar_check.specs.declared.measure.Measure.{Measure}
use Rattle.grammar_check.specs.Plans.{IsReadable, lows, part_at, open_parts, fixed_length, fixed_worth}
use Rattle.grammar_check.specs.RuleValues.{Entry, Kept, Own, own_value, rule_value, kept_value, kept_rule_value}
use Rattle.grammar_check.specs.GrammarPlans.{Lengths, entry_in, grammar_plan}
use Rattle.grammar_check.specs.Fills.{IsRuleReadable, kept_plan, rules_plan, plan_at, parts_at, kept_at, kept_entry, IsPlanned, IsKept, NamesLesser, IsRanked, IsKeptRanked}
use Rattle.grammar_check.specs.TokenNumbers.{greatest_of, letters_worth, token_number, alternative_tokens, tokens_number}
use Rattle.grammar_check.specs.KeptPlans.{KeepsParts, KeepsPartsOf, SameParts, HasParts, AddsKept, KeepsPlan, KeepsAll, rule_tokens}
use Rattle.grammar_check.proofs.Kept.{less_or_not, linear_value-is, linear_value-max, IsPartOf, lows-open, open_found}
use Rattle.grammar_check.proofs.Sweeps.{low_at}
use Rattle.grammar_check.proofs.ScoreNumbers.{of_above}

-- what follows, where there is memory
pub on_ok : {E : Type 0} {P Q : Type 0} (result : Result (Unit {0}) E) → (P → Q) → OnOk result P → OnOk result Q
on_ok (Ok done) f p = f p
on_ok (Err error) f p = tt

-- ---- lists

-- what holds of each item by its place holds with one item more
pub each_push : {X : Type 0} (P : ℕ → X → Type 0) (items : List X) (item : X) → ((k : ℕ) (d : X) → k < length items → P k (slice_index_or items k d)) → P (length items) item → (k : ℕ) (d : X) → k < length (items ++ item ∷ []) → P k (slice_index_or (items ++ item ∷ []) k d)
each_push {X = X} P items item each last k d inside = by (less_or_not k (length items))
  where
    by : (k < length items) ⊎ (length items ≤ k) → P k (slice_index_or (items ++ item ∷ []) k d)
    by (inl less) = subst (P k) (sym (get_or_append_left items (item ∷ []) d k less)) (each k d less)
    by (inr past) =
        let same : length items ≡ k = omega (arith, length_push items item) in
        subst (λ n. P n (slice_index_or (items ++ item ∷ []) n d)) same
        (subst (P (length items)) (sym (get_or_push items item d (length items) refl)) last)

pub greatest_of-push : {X : Type 0} (number : X → ℕ) (items : List X) (item : X) → greatest_of number (items ++ item ∷ []) ≡ max (greatest_of number items) (number item)
greatest_of-push number [] item = let here = number item in omega arith
greatest_of-push number (first ∷ items) item =
    let rest = greatest_of-push number items item in let here = number first in let all = greatest_of number items in let last = number item in omega arith

-- the greatest of the items of two lists whose numbers are the same
greatest_of-each : {X Y : Type 0} (number : X → ℕ) (other : Y → ℕ) (items : List X) (others : List Y) (e : Y) → length items ≡ length others → ((k : ℕ) (d : X) → k < length items → number (slice_index_or items k d) ≡ other (slice_index_or others k e)) → greatest_of number items ≡ greatest_of other others
greatest_of-each number other [] [] e same each = refl
greatest_of-each number other [] (y ∷ others) e same each = absurd (omega arith)
greatest_of-each number other (x ∷ items) [] e same each = absurd (omega arith)
greatest_of-each number other (x ∷ items) (y ∷ others) e same each =
    ap₂ (λ a b. max a b) (each 0 x (omega arith)) (greatest_of-each number other items others e (omega arith) (λ k d inside. each (suc k) d (omega arith)))

-- a plan of a list that has one
first_plan : (plans : List RulePlan) (k : ℕ) → k < length plans → RulePlan
first_plan [] k inside = absurd (omega arith)
first_plan (plan ∷ plans) k inside = plan

pub greatest_of-map : {X Y : Type 0} (number : Y → ℕ) (f : X → Y) (items : List X) → greatest_of (λ x. number (f x)) items ≡ greatest_of number (map f items)
greatest_of-map number f [] = refl
greatest_of-map number f (item ∷ items) = ap (λ n. max (number (f item)) n) (greatest_of-map number f items)

-- ---- one alternative more

rule_value-push : (bound : ℕ → ℕ → ℕ) (entries : List Entry) (entry : Entry) (len : ℕ) → rule_value bound (entries ++ entry ∷ []) len ≡ max (rule_value bound entries len) (own_value bound entry.0 entry.1 len)
rule_value-push bound [] entry len = let here = own_value bound entry.0 entry.1 len in omega arith
rule_value-push bound (first ∷ entries) entry len =
    let rest = rule_value-push bound entries entry len in
    let here = own_value bound first.0 first.1 len in
    let all = rule_value bound entries len in
    let last = own_value bound entry.0 entry.1 len in omega arith

kept_rule_value-push : (bound : ℕ → ℕ → ℕ) (plan : List Kept) (kept : Kept) (len : ℕ) → kept_rule_value bound (plan ++ kept ∷ []) len ≡ max (kept_rule_value bound plan len) (kept_value bound kept len)
kept_rule_value-push bound [] kept len = let here = kept_value bound kept len in omega arith
kept_rule_value-push bound (first ∷ plan) kept len =
    let rest = kept_rule_value-push bound plan kept len in
    let here = kept_value bound first len in
    let all = kept_rule_value bound plan len in
    let last = kept_value bound kept len in omega arith

-- one that stands there has its constant raised
kept_rule_value-set : (bound : ℕ → ℕ → ℕ) (plan : List Kept) (place : ℕ) (d : Kept) (constant other fixed : ℕ) (parts : List Part) (len : ℕ) → place < length plan → slice_index_or plan place d ≡ (inl constant, fixed, parts) → kept_rule_value bound (slice_set plan place (inl (max constant other), fixed, parts)) len ≡ max (kept_rule_value bound plan len) (kept_value bound (inl other, fixed, parts) len)
kept_rule_value-set bound [] place d constant other fixed parts len inside here = absurd (omega arith)
kept_rule_value-set bound (first ∷ plan) zero d constant other fixed parts len inside here =
    let old : kept_value bound first len ≡ kept_value bound (inl constant, fixed, parts) len = ap (λ (e : Kept). kept_value bound e len) here in
    let new = linear_value-max bound constant other fixed parts len in
    among (kept_value bound (inl (max constant other), fixed, parts) len) (kept_rule_value bound plan len) (kept_value bound first len) (kept_value bound (inl constant, fixed, parts) len) (kept_value bound (inl other, fixed, parts) len) old new
  where
    among : (new all old here more : ℕ) → old ≡ here → new ≡ max here more → max new all ≡ max (max old all) more
    among new all old here more e f = omega arith
kept_rule_value-set bound (first ∷ plan) (suc place) d constant other fixed parts len inside here =
    let rest = kept_rule_value-set bound plan place d constant other fixed parts len (omega arith) here in
    among (kept_value bound first len) (kept_rule_value bound (slice_set plan place (inl (max constant other), fixed, parts)) len) (kept_rule_value bound plan len) (kept_value bound (inl other, fixed, parts) len) rest
  where
    among : (first new all more : ℕ) → new ≡ max all more → max first new ≡ max (max first all) more
    among first new all more e = omega arith

pub push_adds : (plan : List Kept) (kept : Kept) → AddsKept plan (plan ++ kept ∷ []) kept
push_adds plan kept = record {
  values = λ bound len. kept_rule_value-push bound plan kept len;
  parts = λ place inside. by place inside (less_or_not place (length plan));
}
  where
    by : (place : ℕ) → place < length (plan ++ kept ∷ []) → (place < length plan) ⊎ (length plan ≤ place) → SameParts (slice_index_or (plan ++ kept ∷ []) place (inl 0, 0, [])) kept ⊎ HasParts plan (slice_index_or (plan ++ kept ∷ []) place (inl 0, 0, []))
    by place inside (inl less) =
        let same = get_or_append_left plan (kept ∷ []) (inl 0, 0, []) place less in
        inr (place, less, (ap (λ (e : Kept). e.1) same, ap (λ (e : Kept). e.2) same))
    by place inside (inr past) =
        let last : place ≡ length plan = omega (arith, length_push plan kept) in
        let same : slice_index_or (plan ++ kept ∷ []) place (inl 0, 0, []) ≡ kept = get_or_push plan kept (inl 0, 0, []) place (sym last) in
        inl (ap (λ (e : Kept). e.1) same, ap (λ (e : Kept). e.2) same)

pub set_adds : (plan : List Kept) (at : ℕ) (constant other fixed : ℕ) (parts : List Part) → at < length plan → slice_index_or plan at (inl 0, 0, []) ≡ (inl constant, fixed, parts) → AddsKept plan (slice_set plan at (inl (max constant other), fixed, parts)) (inl other, fixed, parts)
set_adds plan at constant other fixed parts inside here = record {
  values = λ bound len. kept_rule_value-set bound plan at (inl 0, 0, []) constant other fixed parts len inside here;
  parts = λ place below. by place below (same_or_not place at);
}
  where
    same_or_not : (a b : ℕ) → (a ≡ b) ⊎ (a ≢ b)
    same_or_not a b = grind arith

    new : Kept
    new = (inl (max constant other), fixed, parts)

    by : (place : ℕ) → place < length (slice_set plan at new) → (place ≡ at) ⊎ (place ≢ at) → SameParts (slice_index_or (slice_set plan at new) place (inl 0, 0, [])) (inl other, fixed, parts) ⊎ HasParts plan (slice_index_or (slice_set plan at new) place (inl 0, 0, []))
    by place below (inl same) =
        let found : slice_index_or (slice_set plan at new) place (inl 0, 0, []) ≡ new = ap (λ n. slice_index_or (slice_set plan at new) n (inl 0, 0, [])) same ∙ get_or-set_same plan at new (inl 0, 0, []) inside in
        inl (ap (λ (e : Kept). e.1) found, ap (λ (e : Kept). e.2) found)
    by place below (inr differ) =
        let found = get_or-set_other plan at place new (inl 0, 0, []) differ in
        inr (place, omega (arith, length-set plan at new), (ap (λ (e : Kept). e.1) found, ap (λ (e : Kept). e.2) found))

-- an alternative with the same parts has its constant raised
pub raise_adds : {X : Type 0} (kept : X → Kept) (items : List X) (place : ℕ) (old new : X) (constant other fixed : ℕ) (parts : List Part) → place < length items → old ≡ slice_index_or items place old → kept old ≡ (inl constant, fixed, parts) → kept new ≡ (inl (max constant other), fixed, parts) → AddsKept (map kept items) (map kept (slice_set items place new)) (inl other, fixed, parts)
raise_adds kept items place old new constant other fixed parts inside old_is kept_is new_is =
    let here : slice_index_or (map kept items) place (inl 0, 0, []) ≡ (inl constant, fixed, parts) =
    get_or-map kept items place old (inl 0, 0, []) inside ∙ ap kept (sym old_is) ∙ kept_is in
    subst (λ ps. AddsKept (map kept items) ps (inl other, fixed, parts)) (sym (map-set kept items place new ∙ ap (λ (e : Kept). slice_set (map kept items) place e) new_is))
    (set_adds (map kept items) place constant other fixed parts (omega (arith, length-map items kept)) here)

-- an alternative comes last
pub last_adds : {X : Type 0} (kept : X → Kept) (items : List X) (new : X) (added : Kept) → kept new ≡ added → AddsKept (map kept items) (map kept (items ++ new ∷ [])) added
last_adds kept items new added new_is =
    subst (λ ps. AddsKept (map kept items) ps added) (sym (map-append kept items (new ∷ []) ∙ ap (λ (e : Kept). map kept items ++ e ∷ []) new_is))
    (push_adds (map kept items) added)

-- one of two lists that stand together has an alternative more
pub kept_rule_value-append : (bound : ℕ → ℕ → ℕ) (plan others : List Kept) (len : ℕ) → kept_rule_value bound (plan ++ others) len ≡ max (kept_rule_value bound plan len) (kept_rule_value bound others len)
kept_rule_value-append bound [] others len = let all = kept_rule_value bound others len in omega arith
kept_rule_value-append bound (first ∷ plan) others len =
    let rest = kept_rule_value-append bound plan others len in
    let here = kept_value bound first len in
    let all = kept_rule_value bound plan len in
    let behind = kept_rule_value bound others len in omega arith

has_first : (plan others : List Kept) (kept : Kept) → HasParts plan kept → HasParts (plan ++ others) kept
has_first plan others kept has =
    let same = get_or_append_left plan others (inl 0, 0, []) has.0 has.1 in
    (has.0, omega (arith, length-append plan others, has.1), subst (SameParts kept) (sym same) has.2)

has_second : (plan others : List Kept) (kept : Kept) → HasParts others kept → HasParts (plan ++ others) kept
has_second plan others kept has =
    let same = get_or-append-add plan others has.0 (inl 0, 0, []) in
    (length plan + has.0, omega (arith, length-append plan others, has.1), subst (SameParts kept) (sym same) has.2)

has_itself : (plan : List Kept) (place : ℕ) → place < length plan → HasParts plan (slice_index_or plan place (inl 0, 0, []))
has_itself plan place inside = (place, inside, (refl, refl))

pub adds_first : (before after others : List Kept) (kept : Kept) → AddsKept before after kept → AddsKept (before ++ others) (after ++ others) kept
adds_first before after others kept adds = record {
  values = λ bound len.
      among (kept_rule_value bound (after ++ others) len) (kept_rule_value bound after len) (kept_rule_value bound others len) (kept_rule_value bound (before ++ others) len) (kept_rule_value bound before len) (kept_value bound kept len)
      (kept_rule_value-append bound after others len) (kept_rule_value-append bound before others len) (adds.values bound len);
  parts = λ place inside. by place inside (less_or_not place (length after));
}
  where
    among : (whole' new rest whole old more : ℕ) → whole' ≡ max new rest → whole ≡ max old rest → new ≡ max old more → whole' ≡ max whole more
    among whole' new rest whole old more e f g = omega arith

    widen : (other : Kept) → SameParts other kept ⊎ HasParts before other → SameParts other kept ⊎ HasParts (before ++ others) other
    widen other (inl same) = inl same
    widen other (inr has) = inr (has_first before others other has)

    by : (place : ℕ) → place < length (after ++ others) → (place < length after) ⊎ (length after ≤ place) → SameParts (slice_index_or (after ++ others) place (inl 0, 0, [])) kept ⊎ HasParts (before ++ others) (slice_index_or (after ++ others) place (inl 0, 0, []))
    by place inside (inl less) =
        subst (λ other. SameParts other kept ⊎ HasParts (before ++ others) other) (sym (get_or_append_left after others (inl 0, 0, []) place less))
        (widen (slice_index_or after place (inl 0, 0, [])) (adds.parts place less))
    by place inside (inr past) =
        let at : length after + (place - length after) ≡ place = omega arith in
        let found : slice_index_or (after ++ others) place (inl 0, 0, []) ≡ slice_index_or others (place - length after) (inl 0, 0, []) =
        ap (λ n. slice_index_or (after ++ others) n (inl 0, 0, [])) (sym at) ∙ get_or-append-add after others (place - length after) (inl 0, 0, []) in
        subst (λ other. SameParts other kept ⊎ HasParts (before ++ others) other) (sym found)
        (inr (has_second before others (slice_index_or others (place - length after) (inl 0, 0, [])) (has_itself others (place - length after) (omega (arith, length-append after others)))))

pub adds_second : (plan before after : List Kept) (kept : Kept) → AddsKept before after kept → AddsKept (plan ++ before) (plan ++ after) kept
adds_second plan before after kept adds = record {
  values = λ bound len.
      among (kept_rule_value bound (plan ++ after) len) (kept_rule_value bound after len) (kept_rule_value bound plan len) (kept_rule_value bound (plan ++ before) len) (kept_rule_value bound before len) (kept_value bound kept len)
      (kept_rule_value-append bound plan after len) (kept_rule_value-append bound plan before len) (adds.values bound len);
  parts = λ place inside. by place inside (less_or_not place (length plan));
}
  where
    among : (whole' new first whole old more : ℕ) → whole' ≡ max first new → whole ≡ max first old → new ≡ max old more → whole' ≡ max whole more
    among whole' new first whole old more e f g = omega arith

    widen : (other : Kept) → SameParts other kept ⊎ HasParts before other → SameParts other kept ⊎ HasParts (plan ++ before) other
    widen other (inl same) = inl same
    widen other (inr has) = inr (has_second plan before other has)

    by : (place : ℕ) → place < length (plan ++ after) → (place < length plan) ⊎ (length plan ≤ place) → SameParts (slice_index_or (plan ++ after) place (inl 0, 0, [])) kept ⊎ HasParts (plan ++ before) (slice_index_or (plan ++ after) place (inl 0, 0, []))
    by place inside (inl less) =
        subst (λ other. SameParts other kept ⊎ HasParts (plan ++ before) other) (sym (get_or_append_left plan after (inl 0, 0, []) place less))
        (inr (has_first plan before (slice_index_or plan place (inl 0, 0, [])) (has_itself plan place less)))
    by place inside (inr past) =
        let at : length plan + (place - length plan) ≡ place = omega arith in
        let found : slice_index_or (plan ++ after) place (inl 0, 0, []) ≡ slice_index_or after (place - length plan) (inl 0, 0, []) =
        ap (λ n. slice_index_or (plan ++ after) n (inl 0, 0, [])) (sym at) ∙ get_or-append-add plan after (place - length plan) (inl 0, 0, []) in
        subst (λ other. SameParts other kept ⊎ HasParts (plan ++ before) other) (sym found)
        (widen (slice_index_or after (place - length plan) (inl 0, 0, [])) (adds.parts (place - length plan) (omega (arith, length-append plan after))))

-- ---- tokens

if_nothing : (b : Bool) (n : ℕ) → n ≡ 0 → (if b then n else 0) ≡ 0
if_nothing true n e = e
if_nothing false n e = refl

-- a part whose letters add nothing is no token that counts
pub nothing_worth : (part : Part) (weight len : ℕ) → ((l : ℕ) → letters_worth part.worth l ≡ weight * l) → weight ≤ 0 → token_number len part ≡ 0
nothing_worth part weight len worth none =
    let zero' : weight ≡ 0 = omega arith in
    let nothing : 0 * len ≡ 0 = omega arith in
    if_nothing (nat_le part.low len && nat_le len (part.low + part.room)) (letters_worth part.worth len) (worth len ∙ ap (λ w. w * len) zero' ∙ nothing)

pub nothing_more : (greatest number : ℕ) → number ≤ greatest → greatest ≡ max greatest number
nothing_more greatest number low = omega arith

-- a token that stands there adds none
pub known_token : (tokens : List Part) (part : Part) (len : ℕ) → ((place : ℕ) × (place < length tokens) × (slice_index_or tokens place part ≡ part)) → greatest_of (token_number len) tokens ≡ max (greatest_of (token_number len) tokens) (token_number len part)
known_token tokens part len found =
    let above = of_above (token_number len) tokens found.0 part found.1 in
    nothing_more (greatest_of (token_number len) tokens) (token_number len part) (subst (λ p. token_number len p ≤ greatest_of (token_number len) tokens) found.2 above)

-- ---- what is kept of an entry

same_keeps : (own : Own) (parts : List Part) (kept other : Kept) → SameParts other kept → KeepsPartsOf own parts kept → KeepsPartsOf own parts other
same_keeps (inl constant) parts kept other same h = (same.0 ∙ h.0, same.1 ∙ h.1)
same_keeps (inr term) parts kept other same h = (same.0 ∙ h.0, same.1 ∙ h.1)

-- a kept part is one of the entry's
kept_found : (own : Own) (parts : List Part) (kept : Kept) (place : ℕ) → KeepsPartsOf own parts kept → place < length kept.2 → IsPartOf parts (part_at kept.2 place)
kept_found (inl constant) parts kept place h inside =
    let found = open_found parts place (subst (λ ps. place < length ps) h.1 inside) in
    record { place = found.place; inside = found.inside; part_is = found.part_is ∙ ap (λ ps. part_at ps place) (sym h.1) }
kept_found (inr term) parts kept place h inside =
    record { place = place; inside = subst (λ ps. place < length ps) h.1 inside; part_is = ap (λ ps. part_at ps place) (sym h.1) }

-- where all other kept parts can be empty, and there are no letters of tokens, so can all others of the entry
kept_alone : (own : Own) (parts : List Part) (kept : Kept) (place : ℕ) → KeepsPartsOf own parts kept → place < length kept.2 → kept.1 + lows kept.2 ≤ (part_at kept.2 place).low → lows parts ≤ (part_at kept.2 place).low
kept_alone (inl constant) parts kept place h inside least_only =
    let low = low_at kept.2 place inside in
    let total = lows-open parts in
    let others : lows kept.2 ≡ lows (open_parts parts) = ap lows h.1 in
    let fixed = h.0 in
    omega (arith, fixed, total, others, low, least_only)
kept_alone (inr term) parts kept place h inside least_only =
    let others : lows kept.2 ≡ lows parts = ap lows h.1 in
    omega (arith, others, least_only)

-- the plan with one entry more
pub keeps_more : (entries : List Entry) (before after : List Kept) (tokens tokens' parts : List Part) (own : Own) (kept : Kept) → KeepsPlan entries before tokens → AddsKept before after kept
    → ((bound : ℕ → ℕ → ℕ) (len : ℕ) → len < 2 ^ 32 → told (kept_value bound kept len) ≡ told (own_value bound own parts len)) → KeepsPartsOf own parts kept
    → ((len : ℕ) → greatest_of (token_number len) tokens' ≡ max (greatest_of (token_number len) tokens) (greatest_of (token_number len) parts)) → KeepsPlan (entries ++ (own, parts) ∷ []) after tokens'
keeps_more entries before after tokens tokens' parts own kept keeps adds value_is parts_are counts = record {
  values = λ bound len short.
      cut (kept_rule_value bound after len) (kept_rule_value bound before len) (kept_value bound kept len) (rule_value bound entries len) (own_value bound own parts len) (rule_value bound (entries ++ (own, parts) ∷ []) len)
      (adds.values bound len) (keeps.values bound len short) (value_is bound len short) (rule_value-push bound entries (own, parts) len);
  parts = λ place inside. by place (adds.parts place inside);
  tokens_are = λ len.
      counts len ∙ ap (λ n. max n (greatest_of (token_number len) parts)) (keeps.tokens_are len)
      ∙ sym (greatest_of-push (alternative_tokens len) entries (own, parts));
}
  where
    cut : (after before kept all one whole : ℕ) → after ≡ max before kept → told before ≡ told all → told kept ≡ told one → whole ≡ max all one → told after ≡ told whole
    cut after before kept all one whole e f g h = omega arith

    last : slice_index_or (entries ++ (own, parts) ∷ []) (length entries) (inl 0, []) ≡ (own, parts)
    last = get_or_push entries (own, parts) (inl 0, []) (length entries) refl

    by : (place : ℕ) → SameParts (slice_index_or after place (inl 0, 0, [])) kept ⊎ HasParts before (slice_index_or after place (inl 0, 0, []))
        → (at : ℕ) × (at < length (entries ++ (own, parts) ∷ [])) × KeepsParts (slice_index_or (entries ++ (own, parts) ∷ []) at (inl 0, [])) (slice_index_or after place (inl 0, 0, []))
    by place (inl same) = (
      length entries,
      omega (arith, length_push entries (own, parts)),
      subst (λ (e : Entry). KeepsParts e (slice_index_or after place (inl 0, 0, []))) (sym last)
          (same_keeps own parts kept (slice_index_or after place (inl 0, 0, [])) same parts_are),
    )
    by place (inr old) =
        let from = keeps.parts old.0 old.1 in
        let same : slice_index_or (entries ++ (own, parts) ∷ []) from.0 (inl 0, []) ≡ slice_index_or entries from.0 (inl 0, []) = get_or_append_left entries ((own, parts) ∷ []) (inl 0, []) from.0 from.1 in
        let entry = slice_index_or entries from.0 (inl 0, []) in (
          from.0,
          omega (arith, from.1, length_push entries (own, parts)),
          subst (λ (e : Entry). KeepsParts e (slice_index_or after place (inl 0, 0, []))) (sym same)
              (same_keeps entry.0 entry.1 (slice_index_or before old.0 (inl 0, 0, [])) (slice_index_or after place (inl 0, 0, [])) old.2 from.2),
        )

-- the plan with one entry more whose parts add up
pub keeps_linear : (entries : List Entry) (before after : List Kept) (tokens tokens' parts : List Part) (constant : ℕ) → KeepsPlan entries before tokens → AddsKept before after (inl (told (constant + fixed_worth parts)), min (fixed_length parts) (2 ^ 64 - 1), open_parts parts) → ((len : ℕ) → greatest_of (token_number len) tokens' ≡ max (greatest_of (token_number len) tokens) (greatest_of (token_number len) parts)) → KeepsPlan (entries ++ (inl constant, parts) ∷ []) after tokens'
keeps_linear entries before after tokens tokens' parts constant keeps adds counts =
    keeps_more entries before after tokens tokens' parts (inl constant) (inl (told (constant + fixed_worth parts)), min (fixed_length parts) (2 ^ 64 - 1), open_parts parts) keeps adds
    (λ bound len short. linear_value-is bound constant parts len short) (refl, refl) counts

-- the plan with one entry more that has a wide term
pub keeps_wide : (entries : List Entry) (before after : List Kept) (tokens tokens' parts : List Part) (term : wide.WideForm) → KeepsPlan entries before tokens → AddsKept before after (inr term, 0, parts) → ((len : ℕ) → greatest_of (token_number len) tokens' ≡ max (greatest_of (token_number len) tokens) (greatest_of (token_number len) parts)) → KeepsPlan (entries ++ (inr term, parts) ∷ []) after tokens'
keeps_wide entries before after tokens tokens' parts term keeps adds counts =
    keeps_more entries before after tokens tokens' parts (inr term) (inr term, 0, parts) keeps adds
    (λ bound len short. ap told (if_true (nat_le 0 len) (own_value bound (inr term) parts (len - 0)) 0 (le-leb 0 len (omega arith)) ∙ (let same : len - 0 ≡ len = omega arith in ap (own_value bound (inr term) parts) same))) (refl, refl) counts
  where
    if_true : (b : Bool) (v w : ℕ) → b ≡ true → (if b then v else w) ≡ v
    if_true true v w e = refl
    if_true false v w e = absurd cc

-- ---- the plans of a grammar

module _ (grammar : Grammar) (measure : Measure) (lengths : Lengths) (plans : List RulePlan) (keeps : KeepsAll grammar measure lengths plans) where
  plan_length : length (grammar_plan grammar measure lengths) ≡ length plans
  plan_length = length-map grammar.rules (λ (rule : rules.Rule). map (entry_in grammar measure lengths) rule.alts) ∙ sym keeps.each

  kept_length : length (rules_plan plans) ≡ length plans
  kept_length = length-map plans kept_plan

  kept_is : (rule : ℕ) (d : RulePlan) → rule < length plans → kept_at (rules_plan plans) rule ≡ kept_plan (slice_index_or plans rule d)
  kept_is rule d inside = get_or-map kept_plan plans rule d [] inside

  of_rule : (rule : ℕ) (d : RulePlan) → rule < length plans → KeepsPlan (plan_at (grammar_plan grammar measure lengths) rule) (kept_at (rules_plan plans) rule) (slice_index_or plans rule d).tokens.items
  of_rule rule d inside =
      subst (λ k. KeepsPlan (plan_at (grammar_plan grammar measure lengths) rule) k (slice_index_or plans rule d).tokens.items) (sym (kept_is rule d inside)) (keeps.keeps rule d inside)

  pub kept : (bound : ℕ → ℕ → ℕ) (len : ℕ) → len < 2 ^ 32 → IsPlanned bound (grammar_plan grammar measure lengths) len → IsKept bound (rules_plan plans) len
  kept bound len short planned rule inside =
      ap told (planned rule (omega (arith, plan_length, kept_length))) ∙ sym ((of_rule rule (first_plan plans rule (omega (arith, kept_length))) (omega (arith, kept_length))).values bound len short)

  pub kept_ranked : (ranks : List ℕ) → IsRanked ranks (grammar_plan grammar measure lengths) → IsKeptRanked ranks (rules_plan plans)
  kept_ranked ranks ranked rule alternative place inside in_rule in_parts least_only =
      let from = (of_rule rule (first_plan plans rule (omega (arith, kept_length))) (omega (arith, kept_length))).parts alternative in_rule in
      let kept = kept_entry (rules_plan plans) rule alternative in
      let entry = slice_index_or (plan_at (grammar_plan grammar measure lengths) rule) from.0 (inl 0, []) in
      let parts = parts_at (grammar_plan grammar measure lengths) rule from.0 in
      let found = kept_found entry.0 entry.1 kept place from.2 in_parts in
      let alone = kept_alone entry.0 entry.1 kept place from.2 in_parts least_only in
      subst (λ (p : Part). NamesLesser ranks rule p.worth) found.part_is
      (ranked rule from.0 found.place (omega (arith, plan_length, kept_length)) from.1 found.inside
      (subst (λ (p : Part). lows parts ≤ p.low) (sym found.part_is) alone))

  pub kept_tokens : (len : ℕ) → greatest_of (rule_tokens len) plans ≡ tokens_number len (grammar_plan grammar measure lengths)
  kept_tokens len =
      greatest_of-each (rule_tokens len) (greatest_of (alternative_tokens len)) plans (grammar_plan grammar measure lengths) [] (sym plan_length)
      (λ rule d inside. (of_rule rule d inside).tokens_are len)

  pub kept_readable : (rules : ℕ) → ((rule alternative : ℕ) → rule < length grammar.rules → alternative < length (plan_at (grammar_plan grammar measure lengths) rule) → All (λ (part : Part). IsReadable rules part.worth) (parts_at (grammar_plan grammar measure lengths) rule alternative)) → All (IsRuleReadable rules) plans
  kept_readable rules readable = λ rule d inside alternative e in_rule place p in_parts.
      let plan = kept_plan (slice_index_or plans rule d) in
      let here = keeps.keeps rule d inside in
      let from = here.parts alternative in_rule in
      let kept = slice_index_or plan alternative e in
      let same : slice_index_or plan alternative (inl 0, 0, []) ≡ kept = get_or_default plan alternative (inl 0, 0, []) e in_rule in
      let entry = slice_index_or (plan_at (grammar_plan grammar measure lengths) rule) from.0 (inl 0, []) in
      let found = kept_found entry.0 entry.1 kept place (subst (KeepsPartsOf entry.0 entry.1) same from.2) in_parts in
      let part : part_at entry.1 found.place ≡ slice_index_or kept.2 place p = found.part_is ∙ get_or_default kept.2 place (record { worth = OfLetters 0 0; low = 0; room = 0 }) p in_parts in
      subst (λ (x : Part). IsReadable rules x.worth) part (readable rule from.0 (omega (arith, keeps.each)) from.1 found.place (record { worth = OfLetters 0 0; low = 0; room = 0 }) found.inside)
