-- Greatest lengths that rise from 0 up: what they count as, that they stay below the greatest sizes, and that they are
-- these where every alternative is settled.
use Rattle.std.proofs.Common.{◌≡◌, ℕ, zero, suc, ◌+◌, ◌*◌, ◌-◌, ◌<◌, ◌≤◌, min, max, nat_le, if◌then◌else◌, ◌⊎◌, inl, inr, Bool, true, false, cond, Option, Some, None, List, [], ◌∷◌, length, get_or, set, fold, sum_by, count_by, drop, replicate, add-one, length-set, drop-cons, refl, sym, ap, ap₂, subst, ◌∙◌, arith, leb-true, leb-false, ltb-true, add_assoc}
use Rattle.std.specs.List.{All, Contains, filter}
use Rattle.std.proofs.Math.Nat.{mul-le-mul_right}
use Rattle.std.proofs.lemmas.Bool.{cases_Bool, cases_eq, cases_lt, le-leb, lt-leb, ltb-false, false≢true}
use Rattle.std.proofs.lemmas.List.{get_or_default, get_or_past, get_or-set_same, get_or-set_other, get_or-replicate, length-replicate}
use Rattle.std.proofs.lemmas.List.Elements.{All-get_or}
use Rattle.std.proofs.lemmas.List.Sums.{sum_by-set, count_by-le-length}
use Rattle.adp_model.specs.declared.grammar.Arg.{Arg}
use Rattle.adp_model.specs.declared.grammar.Arg.TheVariants.{Rule, Literal, Letter, Run}
use Rattle.adp_model.specs.declared.grammar.Alt.{Alt}
use Rattle.adp_model.specs.declared.grammar.Grammar.{Grammar}
use Rattle.adp_model.specs.Parts.{alternatives_of, alternative_at, arguments_of}
use Rattle.adp_model.specs.Lengths.{high_of}
use Rattle.adp_model.specs.Sizes.{greatest_kept, sum_of, greater_of, cut_to, greatest_of, greatest_sum, greatest_among, bounded, IsUpTo, AreStableSizes, AreGreatestSizes}
use Rattle.yield_sizes.specs.declared.places.Place.{Place}
use Rattle.yield_sizes.specs.KnownGreatest.{argument_greatest, arguments_greatest, alternative_greatest, is_below, IsSettled, AreRising, rise_left, work_left}
use Rattle.yield_sizes.specs.Places.{ArePlaces, AreAllPlaces, is_named_at, places_naming}
use Rattle.yield_sizes.proofs.Searching.{contains_here, contains_later}
use Rattle.yield_sizes.proofs.ArgumentFacts.{contained_rule}

-- ---- what lengths count as

bounded_cases : (n : ℕ) → ((n ≤ 4000) × (bounded (Some n) ≡ Some n)) ⊎ ((4000 < n) × (bounded (Some n) ≡ None))
bounded_cases n = elim (cases_Bool (nat_le n 4000)) [
  | inl few ↦ inl (leb-true n 4000 few, ap (λ (b : Bool). if b then Some n else None) few)
  | inr many ↦ inr (leb-false n 4000 many, ap (λ (b : Bool). if b then Some n else None) many)
]

bounded_few : (n : ℕ) → n ≤ 4000 → bounded (Some n) ≡ Some n
bounded_few n few = ap (λ (b : Bool). if b then Some n else None) (le-leb n 4000 few)

bounded_many : (n : ℕ) → 4000 < n → bounded (Some n) ≡ None
bounded_many n many = ap (λ (b : Bool). if b then Some n else None) (lt-leb n 4000 many)

bounded_again : (a : Option ℕ) → bounded (bounded a) ≡ bounded a
bounded_again None = refl
bounded_again (Some n) = elim (bounded_cases n) [
  | inl few ↦ ap bounded few.1
  | inr many ↦ ap bounded many.1 ∙ sym many.1
]

-- ---- the order of lengths

pub up_to_same : (a : Option ℕ) → IsUpTo a a
up_to_same None = tt
up_to_same (Some n) = omega arith

pub up_to_then : (a b c : Option ℕ) → IsUpTo a b → IsUpTo b c → IsUpTo a c
up_to_then a b None h k = tt
up_to_then a None (Some c) h k = absurd k
up_to_then None (Some b) (Some c) h k = absurd h
up_to_then (Some a) (Some b) (Some c) h k = omega arith

pub up_to_each_other : (a b : Option ℕ) → IsUpTo a b → IsUpTo b a → a ≡ b
up_to_each_other None None h k = refl
up_to_each_other None (Some b) h k = absurd h
up_to_each_other (Some a) None h k = absurd k
up_to_each_other (Some a) (Some b) h k = let e : a ≡ b = omega arith in ap (λ n. Some n) e

pub from_zero : (a : Option ℕ) → IsUpTo (Some 0) a
from_zero None = tt
from_zero (Some n) = omega arith

sum_up_to : (a b c d : Option ℕ) → IsUpTo a b → IsUpTo c d → IsUpTo (sum_of a c) (sum_of b d)
sum_up_to a None c d h k = tt
sum_up_to a (Some b) c None h k = tt
sum_up_to None (Some b) c (Some d) h k = absurd h
sum_up_to (Some a) (Some b) None (Some d) h k = absurd k
sum_up_to (Some a) (Some b) (Some c) (Some d) h k = omega arith

cut_up_to : (high a b : Option ℕ) → IsUpTo a b → IsUpTo (cut_to high a) (cut_to high b)
cut_up_to None a b h = h
cut_up_to (Some most) None None h = omega arith
cut_up_to (Some most) (Some a) None h = omega arith
cut_up_to (Some most) None (Some b) h = absurd h
cut_up_to (Some most) (Some a) (Some b) h = omega arith

greater_up_to : (a b c d : Option ℕ) → IsUpTo a b → IsUpTo c d → IsUpTo (greater_of a c) (greater_of b d)
greater_up_to a None c d h k = tt
greater_up_to a (Some b) c None h k = tt
greater_up_to None (Some b) c (Some d) h k = absurd h
greater_up_to (Some a) (Some b) None (Some d) h k = absurd k
greater_up_to (Some a) (Some b) (Some c) (Some d) h k = omega arith

first_up_to : (a b : Option ℕ) → IsUpTo a (greater_of a b)
first_up_to None b = tt
first_up_to (Some a) None = tt
first_up_to (Some a) (Some b) = omega arith

second_up_to : (a b : Option ℕ) → IsUpTo b (greater_of a b)
second_up_to None b = tt
second_up_to (Some a) None = tt
second_up_to (Some a) (Some b) = omega arith

bounded_up_to : (a b : Option ℕ) → IsUpTo a b → IsUpTo (bounded a) (bounded b)
bounded_up_to a None h = tt
bounded_up_to None (Some b) h = absurd h
bounded_up_to (Some a) (Some b) h = elim (bounded_cases b) [
  | inl few ↦
      let first = bounded_few a (omega (arith, few.0)) in
      subst (λ it. IsUpTo (bounded (Some a)) it) (sym few.1) (subst (λ it. IsUpTo it (Some b)) (sym first) h)
  | inr many ↦ subst (λ it. IsUpTo (bounded (Some a)) it) (sym many.1) tt
]

-- ---- what an alternative tells

-- a sum with a length that is cut where it is large, counts as the same
sum_cut : (total : Option ℕ) (n : ℕ) → bounded (sum_of total (Some (min n greatest_kept))) ≡ bounded (sum_of total (Some n))
sum_cut None n = refl
sum_cut (Some total) n = elim (cases_lt greatest_kept n) [
  | inr few ↦ let same : min n greatest_kept ≡ n = omega arith in ap (λ it. bounded (Some (total + it))) same
  | inl many ↦ bounded_many (total + min n greatest_kept) (omega arith) ∙ sym (bounded_many (total + n) (omega arith))
]

argument_counts : (known : List (Option ℕ)) (total : Option ℕ) (argument : Arg) → bounded (sum_of total (argument_greatest known argument)) ≡ bounded (sum_of total (greatest_of known argument))
argument_counts known total (Rule rule) = refl
argument_counts known total (Literal text) = sum_cut total (length text)
argument_counts known total (Letter class) = refl
argument_counts known total (Run class low high) = refl

-- what a sum counts as, counts in a sum
sum_counts : (a b : Option ℕ) → bounded (sum_of (bounded a) b) ≡ bounded (sum_of a b)
sum_counts None b = refl
sum_counts (Some a) b = elim (bounded_cases a) [
  | inl few ↦ ap (λ it. bounded (sum_of it b)) few.1
  | inr many ↦ ap (λ it. bounded (sum_of it b)) many.1 ∙ sym (above b many.0)
]
  where
    above : (b : Option ℕ) → 4000 < a → bounded (sum_of (Some a) b) ≡ None
    above None l = refl
    above (Some b) l = bounded_many (a + b) (omega arith)

pub sum_regroups : (a b c : Option ℕ) → sum_of (sum_of a b) c ≡ sum_of a (sum_of b c)
sum_regroups None b c = refl
sum_regroups (Some a) None c = refl
sum_regroups (Some a) (Some b) None = refl
sum_regroups (Some a) (Some b) (Some c) = ap (λ n. Some n) (add_assoc a b c)

sum_zero : (a : Option ℕ) → sum_of a (Some 0) ≡ a
sum_zero None = refl
sum_zero (Some a) = let e : a + 0 ≡ a = omega arith in ap (λ n. Some n) e

pub zero_sum : (a : Option ℕ) → sum_of (Some 0) a ≡ a
zero_sum None = refl
zero_sum (Some a) = let e : 0 + a ≡ a = omega arith in ap (λ n. Some n) e

abbrev step : List (Option ℕ) → Option ℕ → Arg → Option ℕ
step known total argument = bounded (sum_of total (argument_greatest known argument))

arguments_from : (known : List (Option ℕ)) (arguments : List Arg) (total : Option ℕ) → bounded total ≡ total → fold (step known) total arguments ≡ bounded (sum_of total (greatest_sum known arguments))
arguments_from known [] total is = sym is ∙ ap bounded (sym (sum_zero total))
arguments_from known (argument ∷ arguments) total is =
    let part : Option ℕ = greatest_of known argument in
    let rest : Option ℕ = greatest_sum known arguments in
    let here : step known total argument ≡ bounded (sum_of total part) = argument_counts known total argument in
    arguments_from known arguments (step known total argument) (bounded_again (sum_of total (argument_greatest known argument)))
    ∙ ap (λ it. bounded (sum_of it rest)) here ∙ sum_counts (sum_of total part) rest ∙ ap bounded (sum_regroups total part rest)

arguments_count : (known : List (Option ℕ)) (arguments : List Arg) → arguments_greatest known arguments ≡ bounded (greatest_sum known arguments)
arguments_count known arguments = arguments_from known arguments (Some 0) (bounded_few 0 (omega arith)) ∙ ap bounded (zero_sum (greatest_sum known arguments))

cut_counts : (high a : Option ℕ) → bounded (cut_to high (bounded a)) ≡ bounded (cut_to high a)
cut_counts None a = bounded_again a
cut_counts (Some most) None = refl
cut_counts (Some most) (Some a) = elim (bounded_cases a) [
  | inl few ↦ ap (λ it. bounded (cut_to (Some most) it)) few.1
  | inr many ↦ ap (λ it. bounded (cut_to (Some most) it)) many.1 ∙ elim (cases_lt 4000 most) [
    | inl above ↦ bounded_many most above ∙ sym (bounded_many (min a most) (omega (arith, many.0)))
    | inr below ↦ let same : most ≡ min a most = omega (arith, many.0) in ap (λ it. bounded (Some it)) same
  ]
]

-- what an alternative tells, by the definition
abbrev pub told : List (Option ℕ) → Alt → Option ℕ
told known alternative = cut_to (high_of alternative.size) (greatest_sum known alternative.args)

pub alternative_counts : (known : List (Option ℕ)) (alternative : Alt) → alternative_greatest known alternative ≡ bounded (told known alternative)
alternative_counts known alternative =
    ap (λ it. bounded (cut_to (high_of alternative.size) it)) (arguments_count known alternative.args)
    ∙ cut_counts (high_of alternative.size) (greatest_sum known alternative.args)

-- ---- greater lengths tell greater ones

abbrev pub AreUpTo : List (Option ℕ) → List (Option ℕ) → Type 0
AreUpTo known sizes = (rule : ℕ) → IsUpTo (get_or known rule None) (get_or sizes rule None)

argument_up_to : (known sizes : List (Option ℕ)) → AreUpTo known sizes → (argument : Arg) → IsUpTo (greatest_of known argument) (greatest_of sizes argument)
argument_up_to known sizes below (Rule rule) = below rule
argument_up_to known sizes below (Literal text) = omega arith
argument_up_to known sizes below (Letter class) = omega arith
argument_up_to known sizes below (Run class low high) = up_to_same high

arguments_up_to : (known sizes : List (Option ℕ)) → AreUpTo known sizes → (arguments : List Arg) → IsUpTo (greatest_sum known arguments) (greatest_sum sizes arguments)
arguments_up_to known sizes below [] = omega arith
arguments_up_to known sizes below (argument ∷ arguments) = sum_up_to _ _ _ _ (argument_up_to known sizes below argument) (arguments_up_to known sizes below arguments)

told_up_to : (known sizes : List (Option ℕ)) → AreUpTo known sizes → (alternative : Alt) → IsUpTo (told known alternative) (told sizes alternative)
told_up_to known sizes below alternative = cut_up_to (high_of alternative.size) _ _ (arguments_up_to known sizes below alternative.args)

among_up_to : (known sizes : List (Option ℕ)) → AreUpTo known sizes → (alternatives : List Alt) → IsUpTo (greatest_among known alternatives) (greatest_among sizes alternatives)
among_up_to known sizes below [] = omega arith
among_up_to known sizes below (alternative ∷ alternatives) = greater_up_to _ _ _ _ (told_up_to known sizes below alternative) (among_up_to known sizes below alternatives)

-- an alternative tells no more than all of them
one_up_to : (known : List (Option ℕ)) (alternatives : List Alt) (k : ℕ) (default : Alt) → k < length alternatives → IsUpTo (told known (get_or alternatives k default)) (greatest_among known alternatives)
one_up_to known [] k default l = absurd (omega arith)
one_up_to known (alternative ∷ alternatives) zero default l = first_up_to _ _
one_up_to known (alternative ∷ alternatives) (suc k) default l = up_to_then _ _ _ (one_up_to known alternatives k default (omega arith)) (second_up_to _ _)

-- all of them tell no more than what each keeps to
all_up_to : (known : List (Option ℕ)) (alternatives : List Alt) (default : Alt) (size : Option ℕ) → ((k : ℕ) → k < length alternatives → IsUpTo (bounded (told known (get_or alternatives k default))) size) → IsUpTo (bounded (greatest_among known alternatives)) size
all_up_to known [] default size each = from_zero size
all_up_to known (alternative ∷ alternatives) default size each =
    both (told known alternative) (greatest_among known alternatives) (each 0 (omega arith)) (all_up_to known alternatives default size (λ k l. each (suc k) (omega arith)))
  where
    both : (a b : Option ℕ) → IsUpTo (bounded a) size → IsUpTo (bounded b) size → IsUpTo (bounded (greater_of a b)) size
    both None b h k = h
    both (Some a) None h k = k
    both (Some a) (Some b) h k = elim (cases_lt a b) [
      | inl less ↦ let same : b ≡ max a b = omega arith in subst (λ it. IsUpTo (bounded (Some it)) size) same k
      | inr more ↦ let same : a ≡ max a b = omega arith in subst (λ it. IsUpTo (bounded (Some it)) size) same h
    ]

-- ---- a length that rises

below_up_to : (a b : Option ℕ) → is_below a b ≡ true → IsUpTo a b
below_up_to None b h = absurd (false≢true h)
below_up_to (Some a) None h = tt
below_up_to (Some a) (Some b) h = omega (arith, ltb-true a b h)

not_below : (a b : Option ℕ) → is_below a b ≡ false → IsUpTo b a
not_below None b h = tt
not_below (Some a) None h = absurd (false≢true (sym h))
not_below (Some a) (Some b) h = ltb-false a b h

abbrev left : Option ℕ → ℕ
left None = 0
left (Some len) = 4001 - len

below_left : (a b : Option ℕ) → is_below a b ≡ true → ((len : ℕ) → a ≡ Some len → len ≤ 4000) → left b < left a
below_left None b h few = absurd (false≢true h)
below_left (Some a) None h few = omega (arith, few a refl)
below_left (Some a) (Some b) h few = omega (arith, few a refl, ltb-true a b h)

rise_falls : (known : List (Option ℕ)) (rule : ℕ) (size : Option ℕ) → rule < length known → left size < left (get_or known rule None) → rise_left (set known rule size) < rise_left known
rise_falls known rule size l less =
    let sums : rise_left (set known rule size) + left (get_or known rule None) ≡ rise_left known + left size = sum_by-set left known rule size None l in
    omega arith

bounded_fits : (a : Option ℕ) (len : ℕ) → bounded a ≡ Some len → len ≤ 4000
bounded_fits None len e = absurd (cc)
bounded_fits (Some a) len e = elim (bounded_cases a) [
  | inl few ↦ let same : a ≡ len = cc (few.1, e) in omega (arith, few.0)
  | inr many ↦ let wrong : None ≡ Some len = sym many.1 ∙ e in absurd (cc)
]

-- what is read where one length was set
set_cases : (known : List (Option ℕ)) (rule : ℕ) (size : Option ℕ) (other : ℕ) → rule < length known → ((other ≡ rule) × (get_or (set known rule size) other None ≡ size)) ⊎ (get_or (set known rule size) other None ≡ get_or known other None)
set_cases known rule size other l = elim (cases_eq other rule) [
  | inl same ↦ inl (same, ap (λ k. get_or (set known rule size) k None) same ∙ get_or-set_same known rule size None l)
  | inr differs ↦ inr (get_or-set_other known rule other size None differs)
]

-- with another length of one rule, arguments name that rule or tell the same
names_or_same : (known : List (Option ℕ)) (rule : ℕ) (size : Option ℕ) (arguments : List Arg) → Contains arguments (Rule rule) ⊎ (greatest_sum (set known rule size) arguments ≡ greatest_sum known arguments)
names_or_same known rule size [] = inr refl
names_or_same known rule size (Rule other ∷ arguments) = elim (cases_eq other rule) [
  | inl same ↦ inl (0, omega arith, ap (λ r. Rule r) same)
  | inr differs ↦ elim (names_or_same known rule size arguments) [
    | inl later ↦ inl (contains_later (Rule other) (Rule rule) arguments later)
    | inr e ↦ inr (ap₂ sum_of (get_or-set_other known rule other size None differs) e)
  ]
]
names_or_same known rule size (token ∷ arguments) = elim (names_or_same known rule size arguments) [
  | inl later ↦ inl (contains_later token (Rule rule) arguments later)
  | inr e ↦ inr (ap (sum_of (greatest_of known token)) e)
]

names_or_told : (known : List (Option ℕ)) (rule : ℕ) (size : Option ℕ) (alternative : Alt) → Contains alternative.args (Rule rule) ⊎ (alternative_greatest (set known rule size) alternative ≡ alternative_greatest known alternative)
names_or_told known rule size alternative = elim (names_or_same known rule size alternative.args) [
  | inl names ↦ inl names
  | inr e ↦ inr (alternative_counts (set known rule size) alternative ∙ ap (λ it. bounded (cut_to (high_of alternative.size) it)) e ∙ sym (alternative_counts known alternative))
]

-- ---- places

waits_first : (first place : Place) (places : List Place) → Contains (first ∷ places) place → (first ≡ place) ⊎ Contains places place
waits_first first place places (zero, inside, e) = inl e
waits_first first place places (suc k, inside, e) = inr (k, omega arith, e)

-- an alternative that is no greater waits no more
pub rising_same : (grammar : Grammar) (place : Place) (waiting : List Place) (known : List (Option ℕ)) (risen : List Bool) → AreRising grammar (place ∷ waiting) known risen → is_below (get_or known place.rule None) (alternative_greatest known (alternative_at grammar place.rule place.alternative)) ≡ false → AreRising grammar waiting known risen
rising_same grammar place waiting known risen rising is = record {
  each = rising.each;
  marked = rising.marked;
  few = rising.few;
  below = rising.below;
  reached = rising.reached;
  settled = λ rule alternative l. settled rule alternative (rising.settled rule alternative l);
}
  where
    settled : (rule alternative : ℕ) → IsSettled grammar known risen rule alternative ⊎ Contains (place ∷ waiting) (record { rule = rule; alternative = alternative }) → IsSettled grammar known risen rule alternative ⊎ Contains waiting (record { rule = rule; alternative = alternative })
    settled rule alternative (inl it) = inl it
    settled rule alternative (inr waits) = elim (waits_first place (record { rule = rule; alternative = alternative }) waiting waits) [
      | inl here ↦ inl (inl (subst (λ (it : Place). IsUpTo (alternative_greatest known (alternative_at grammar it.rule it.alternative)) (get_or known it.rule None)) here (not_below _ _ is)))
      | inr later ↦ inr later
    ]

-- one that is greater raises its rule
pub rising_more : (grammar : Grammar) (place : Place) (waiting : List Place) (known : List (Option ℕ)) (risen : List Bool) → place.alternative < length (alternatives_of grammar place.rule) → place.rule < length grammar.rules → AreRising grammar (place ∷ waiting) known risen → is_below (get_or known place.rule None) (alternative_greatest known (alternative_at grammar place.rule place.alternative)) ≡ true → AreRising grammar waiting (set known place.rule (alternative_greatest known (alternative_at grammar place.rule place.alternative))) (set risen place.rule true)
rising_more grammar place waiting known risen inside within rising is = record {
  each = length-set known place.rule greatest ∙ rising.each;
  marked = length-set risen place.rule true ∙ rising.marked;
  few = λ rule len e. elim (set_cases known place.rule greatest rule (omega (arith, rising.each))) [
    | inl here ↦ bounded_fits (told known alternative) len (sym (alternative_counts known alternative) ∙ sym here.1 ∙ e)
    | inr other ↦ rising.few rule len (sym other ∙ e)
  ];
  below = λ sizes stable rule. elim (set_cases known place.rule greatest rule (omega (arith, rising.each))) [
    | inl here ↦ subst (λ it. IsUpTo it (get_or sizes rule None)) (sym here.1) (subst (λ r. IsUpTo greatest (get_or sizes r None)) (sym here.0) (under sizes stable))
    | inr other ↦ subst (λ it. IsUpTo it (get_or sizes rule None)) (sym other) (rising.below sizes stable rule)
  ];
  reached = λ rule l.
      let more = bounded_up_to _ _ (among_up_to known (set known place.rule greatest) grows (alternatives_of grammar rule)) in
      elim (set_cases known place.rule greatest rule (omega (arith, rising.each))) [
        | inl here ↦ subst (λ it. IsUpTo it (bounded (greatest_among (set known place.rule greatest) (alternatives_of grammar rule)))) (sym here.1)
            (up_to_then greatest _ _ (subst (λ r. IsUpTo greatest (bounded (greatest_among known (alternatives_of grammar r)))) (sym here.0) told_here) more)
        | inr other ↦ subst (λ it. IsUpTo it (bounded (greatest_among (set known place.rule greatest) (alternatives_of grammar rule)))) (sym other)
            (up_to_then (get_or known rule None) _ _ (rising.reached rule l) more)
      ];
  settled = λ rule number l. settled rule number (rising.settled rule number l) (names_or_told known place.rule greatest (alternative_at grammar rule number));
}
  where
    alternative : Alt
    alternative = alternative_at grammar place.rule place.alternative

    greatest : Option ℕ
    greatest = alternative_greatest known (alternative_at grammar place.rule place.alternative)

    told_here : IsUpTo greatest (bounded (greatest_among known (alternatives_of grammar place.rule)))
    told_here =
        subst (λ it. IsUpTo it (bounded (greatest_among known (alternatives_of grammar place.rule)))) (sym (alternative_counts known alternative))
        (bounded_up_to (told known alternative) _ (one_up_to known (alternatives_of grammar place.rule) place.alternative (record { sign = 0; args = []; size = None }) inside))

    under : (sizes : List (Option ℕ)) → AreStableSizes grammar sizes → IsUpTo greatest (get_or sizes place.rule None)
    under sizes stable =
        subst (IsUpTo greatest) (sym (stable.stable place.rule within))
        (up_to_then greatest _ _ told_here (bounded_up_to _ _ (among_up_to known sizes (rising.below sizes stable) (alternatives_of grammar place.rule))))

    grows : AreUpTo known (set known place.rule greatest)
    grows rule = elim (set_cases known place.rule greatest rule (omega (arith, rising.each))) [
      | inl here ↦ subst (IsUpTo (get_or known rule None)) (sym here.1) (subst (λ r. IsUpTo (get_or known r None) greatest) (sym here.0) (below_up_to _ _ is))
      | inr other ↦ subst (IsUpTo (get_or known rule None)) (sym other) (up_to_same (get_or known rule None))
    ]

    mark_here : get_or (set risen place.rule true) place.rule false ≡ true
    mark_here = get_or-set_same risen place.rule true false (omega (arith, rising.marked))

    mark_stays : (other : ℕ) → get_or risen other false ≡ true → get_or (set risen place.rule true) other false ≡ true
    mark_stays other mark = elim (cases_eq other place.rule) [
      | inl same ↦ ap (λ k. get_or (set risen place.rule true) k false) same ∙ mark_here
      | inr differs ↦ get_or-set_other risen place.rule other true false differs ∙ mark
    ]

    settled : (rule number : ℕ) → IsSettled grammar known risen rule number ⊎ Contains (place ∷ waiting) (record { rule = rule; alternative = number }) → Contains (arguments_of grammar rule number) (Rule place.rule) ⊎ (alternative_greatest (set known place.rule greatest) (alternative_at grammar rule number) ≡ alternative_greatest known (alternative_at grammar rule number)) → IsSettled grammar (set known place.rule greatest) (set risen place.rule true) rule number ⊎ Contains waiting (record { rule = rule; alternative = number })
    settled rule number it (inl names) = inl (inr (place.rule, names, mark_here))
    settled rule number (inl (inr named)) (inr same) = inl (inr (named.0, named.1, mark_stays named.0 named.2))
    settled rule number (inl (inl no_more)) (inr same) =
        inl (inl (subst (λ it. IsUpTo it (get_or (set known place.rule greatest) rule None)) (sym same) (up_to_then _ _ _ no_more (grows rule))))
    settled rule number (inr waits) (inr same) = elim (waits_first place (record { rule = rule; alternative = number }) waiting waits) [
      | inl here ↦ inl (inl (subst (λ it. IsUpTo it (get_or (set known place.rule greatest) rule None)) (sym same)
          (subst (λ (it : Place). IsUpTo (alternative_greatest known (alternative_at grammar it.rule it.alternative)) (get_or (set known place.rule greatest) it.rule None)) here
          (subst (IsUpTo greatest) (sym (get_or-set_same known place.rule greatest None (omega (arith, rising.each)))) (up_to_same greatest)))))
      | inr later ↦ inr later
    ]

-- and there is less to rise
pub more_left : (grammar : Grammar) (place : Place) (waiting : List Place) (known : List (Option ℕ)) (risen : List Bool) (size : Option ℕ) → place.rule < length grammar.rules → AreRising grammar waiting known risen → is_below (get_or known place.rule None) size ≡ true → rise_left (set known place.rule size) < rise_left known
more_left grammar place waiting known risen size within rising is =
    rise_falls known place.rule size (omega (arith, rising.each)) (below_left (get_or known place.rule None) size is (rising.few place.rule))

-- the place at an index
pub place_within : (grammar : Grammar) (places : List Place) (i : ℕ) (default : Place) → ArePlaces grammar places → i < length places → (get_or places i default).alternative < length (alternatives_of grammar (get_or places i default).rule)
place_within grammar places i default are l = are (get_or places i default) (i, l, get_or_default places i (get_or places i default) default l)

pub rising_at : (grammar : Grammar) (places : List Place) (i : ℕ) (default : Place) (known : List (Option ℕ)) (risen : List Bool) → i < length places → AreRising grammar (drop i places) known risen → AreRising grammar (get_or places i default ∷ drop (i + 1) places) known risen
rising_at grammar places i default known risen l rising =
    rw add-one (subst (λ (waiting : List Place). AreRising grammar waiting known risen) (drop-cons places i default l) rising)

-- a change, and one that takes something away
abbrev pub HasRisen : List (Option ℕ) → List Bool → List (Option ℕ) → List Bool → Type 0
HasRisen old_known old_risen known risen = ((known ≡ old_known) × (risen ≡ old_risen)) ⊎ (rise_left known < rise_left old_known)

pub risen_more : (old_known : List (Option ℕ)) (old_risen : List Bool) (known : List (Option ℕ)) (risen : List Bool) (new_known : List (Option ℕ)) (new_risen : List Bool) → HasRisen old_known old_risen known risen → rise_left new_known < rise_left known → HasRisen old_known old_risen new_known new_risen
risen_more old_known old_risen known risen new_known new_risen (inl same) less = inr (subst (λ it. rise_left new_known < rise_left it) same.0 less)
risen_more old_known old_risen known risen new_known new_risen (inr rose) less = inr (omega arith)

abbrev marks : List Bool → ℕ
marks risen = count_by (λ (mark : Bool). mark) risen

abbrev one_if_marked : Bool → ℕ
one_if_marked mark = cond mark 1 0

unmarked : (risen : List Bool) (rule : ℕ) → rule < length risen → get_or risen rule false ≡ true → marks (set risen rule false) < marks risen
unmarked risen rule l is =
    let sums : sum_by one_if_marked (set risen rule false) + one_if_marked (get_or risen rule false) ≡ sum_by one_if_marked risen + one_if_marked false = sum_by-set one_if_marked risen rule false false l in
    let here : one_if_marked (get_or risen rule false) ≡ 1 = ap one_if_marked is in
    let both : marks (set risen rule false) + one_if_marked (get_or risen rule false) ≡ marks risen + 0 = sums in
    omega (arith, here, both)

less_work : (a b n m k : ℕ) → a < b → m ≤ n → a * (n + 1) + m < b * (n + 1) + k
less_work a b n m k less few =
    let more : (a + 1) * (n + 1) ≤ b * (n + 1) = mul-le-mul_right (n + 1) (omega arith) in
    omega arith

-- after a mark was taken, less work is left
pub work_falls : (known new_known : List (Option ℕ)) (risen new_risen : List Bool) (rule : ℕ) → rule < length risen → get_or risen rule false ≡ true → length new_risen ≡ length risen → HasRisen known (set risen rule false) new_known new_risen → work_left new_known new_risen < work_left known risen
work_falls known new_known risen new_risen rule l is long (inl same) =
    let fewer = unmarked risen rule l is in
    let P : List (Option ℕ) → Type 0 = λ it. work_left it new_risen < work_left known risen in
    let Q : List Bool → Type 0 = λ it. work_left known it < work_left known risen in
    subst P (sym same.0) (subst Q (sym same.1) (
    let e : length (set risen rule false) ≡ length risen = length-set risen rule false in
    let f : rise_left known * (length (set risen rule false) + 1) ≡ rise_left known * (length risen + 1) = ap (λ n. rise_left known * (n + 1)) e in
    omega arith
    ))
work_falls known new_known risen new_risen rule l is long (inr rose) =
    let few : marks new_risen ≤ length new_risen = count_by-le-length (λ (mark : Bool). mark) new_risen in
    let less = less_work (rise_left new_known) (rise_left known) (length new_risen) (marks new_risen) (marks risen) rose few in
    let f : rise_left known * (length new_risen + 1) ≡ rise_left known * (length risen + 1) = ap (λ n. rise_left known * (n + 1)) long in
    omega (arith, less)

-- ---- from 0 up

pub rising_start : (grammar : Grammar) (places : List Place) (count : ℕ) → AreAllPlaces grammar places → count ≡ length grammar.rules → AreRising grammar places (replicate count (Some 0)) (replicate count false)
rising_start grammar places count all is = record {
  each = length-replicate {A = Option ℕ} count (Some 0) ∙ is;
  marked = length-replicate count false ∙ is;
  few = λ rule len e. elim (cases_lt rule count) [
    | inl inside ↦ let zero_length : Some 0 ≡ Some len = sym (get_or-replicate count rule (Some 0) None inside) ∙ e in let same : 0 ≡ len = cc in omega arith
    | inr past ↦ let none : None ≡ Some len = sym (get_or_past (replicate count (Some 0)) rule None (omega (arith, length-replicate {A = Option ℕ} count (Some 0)))) ∙ e in absurd (cc)
  ];
  below = λ sizes stable rule. elim (cases_lt rule count) [
    | inl inside ↦ subst (λ it. IsUpTo it (get_or sizes rule None)) (sym (get_or-replicate count rule (Some 0) None inside)) (from_zero (get_or sizes rule None))
    | inr past ↦ subst (IsUpTo (get_or (replicate count (Some 0)) rule None)) (sym (get_or_past sizes rule None (omega (arith, stable.each)))) tt
  ];
  reached = λ rule l. subst (λ it. IsUpTo it (bounded (greatest_among (replicate count (Some 0)) (alternatives_of grammar rule)))) (sym (get_or-replicate count rule (Some 0) None (omega arith))) (from_zero _);
  settled = λ rule alternative l. inr (all.all rule alternative l);
}

filter_keeps : (test : Place → Bool) (places : List Place) (place : Place) → test place ≡ true → Contains places place → Contains (filter test places) place
filter_keeps test [] place kept contained = absurd (omega (arith, contained.1))
filter_keeps test (first ∷ places) place kept contained = go (test first) refl (waits_first first place places contained) (λ later. filter_keeps test places place kept later)
  where
    go : (b : Bool) → test first ≡ b → (first ≡ place) ⊎ Contains places place → (Contains places place → Contains (filter test places) place) → Contains (cond b (first ∷ filter test places) (filter test places)) place
    go true is (inl here) onward = subst (λ (it : Place). Contains (it ∷ filter test places) place) (sym here) (contains_here place (filter test places))
    go true is (inr later) onward = contains_later first place (filter test places) (onward later)
    go false is (inl here) onward = absurd (false≢true (sym is ∙ ap test here ∙ kept))
    go false is (inr later) onward = onward later

filter_among : (test : Place → Bool) (places : List Place) (place : Place) → Contains (filter test places) place → Contains places place
filter_among test [] place contained = contained
filter_among test (first ∷ places) place contained = go (test first) contained (λ later. filter_among test places place later)
  where
    go : (b : Bool) → Contains (cond b (first ∷ filter test places) (filter test places)) place → (Contains (filter test places) place → Contains places place) → Contains (first ∷ places) place
    go true kept onward = elim (waits_first first place (filter test places) kept) [
      | inl here ↦ subst (Contains (first ∷ places)) here (contains_here first places)
      | inr later ↦ contains_later first place places (onward later)
    ]
    go false kept onward = contains_later first place places (onward kept)

pub naming_within : (grammar : Grammar) (places : List Place) (rule : ℕ) → AreAllPlaces grammar places → ArePlaces grammar (places_naming grammar places rule)
naming_within grammar places rule all place contained = all.within place (filter_among (is_named_at grammar rule) places place contained)

-- what names a rule waits when the mark of that rule is taken away
pub rising_next : (grammar : Grammar) (places : List Place) (known : List (Option ℕ)) (risen : List Bool) (rule : ℕ) → AreAllPlaces grammar places → AreRising grammar [] known risen → AreRising grammar (places_naming grammar places rule) known (set risen rule false)
rising_next grammar places known risen rule all rising = record {
  each = rising.each;
  marked = length-set risen rule false ∙ rising.marked;
  few = rising.few;
  below = rising.below;
  reached = rising.reached;
  settled = λ from alternative l. settled from alternative l (rising.settled from alternative l);
}
  where
    settled : (from alternative : ℕ) → alternative < length (alternatives_of grammar from) → IsSettled grammar known risen from alternative ⊎ Contains {X = Place} [] (record { rule = from; alternative = alternative }) → IsSettled grammar known (set risen rule false) from alternative ⊎ Contains (places_naming grammar places rule) (record { rule = from; alternative = alternative })
    settled from alternative l (inr waits) = absurd (omega (arith, waits.1))
    settled from alternative l (inl (inl no_more)) = inl (inl no_more)
    settled from alternative l (inl (inr named)) = elim (cases_eq named.0 rule) [
      | inl same ↦ inr (filter_keeps (is_named_at grammar rule) places (record { rule = from; alternative = alternative })
          (contained_rule rule (arguments_of grammar from alternative) (subst (λ r. Contains (arguments_of grammar from alternative) (Rule r)) same named.1)) (all.all from alternative l))
      | inr differs ↦ inl (inr (named.0, named.1, get_or-set_other risen rule named.0 false false differs ∙ named.2))
    ]

-- ---- where no mark is left

pub rising_done : (grammar : Grammar) (known : List (Option ℕ)) (risen : List Bool) → AreRising grammar [] known risen → ((rule : ℕ) → get_or risen rule false ≡ false) → AreGreatestSizes grammar known
rising_done grammar known risen rising none = record {
  are = record {
    each = rising.each;
    stable = λ rule l. up_to_each_other _ _ (rising.reached rule l)
        (all_up_to known (alternatives_of grammar rule) (record { sign = 0; args = []; size = None }) (get_or known rule None)
        (λ k inside. subst (λ it. IsUpTo it (get_or known rule None)) (alternative_counts known (alternative_at grammar rule k)) (settled rule k (rising.settled rule k inside))));
  };
  least = λ others stable rule l. rising.below others stable rule;
}
  where
    settled : (rule alternative : ℕ) → IsSettled grammar known risen rule alternative ⊎ Contains {X = Place} [] (record { rule = rule; alternative = alternative }) → IsUpTo (alternative_greatest known (alternative_at grammar rule alternative)) (get_or known rule None)
    settled rule alternative (inr waits) = absurd (omega (arith, waits.1))
    settled rule alternative (inl (inl no_more)) = no_more
    settled rule alternative (inl (inr named)) = absurd (false≢true (sym (none named.0) ∙ named.2))

pub no_mark : (risen : List Bool) → All (λ it. it ≡ false) risen → (rule : ℕ) → get_or risen rule false ≡ false
no_mark risen none rule = elim (cases_lt rule (length risen)) [
  | inl inside ↦ All-get_or (λ (it : Bool). it ≡ false) risen rule false inside none
  | inr past ↦ get_or_past risen rule false past
]
