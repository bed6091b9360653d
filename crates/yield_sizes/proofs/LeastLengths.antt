-- Known lengths: what they are lengths of, and that they are the least where no alternative has a lesser one.
use Rattle.std.proofs.Common.{◌≡◌, ℕ, zero, suc, ◌+◌, ◌<◌, ◌≤◌, min, max, nat_le, if◌then◌else◌, ◌⊎◌, inl, inr, Bool, true, false, Option, Some, None, IfSome, MatchOption, List, [], ◌∷◌, length, get_or, set, fold, map, sum_by, replicate, length-set, refl, sym, ap, subst, ◌∙◌, arith, leb-true}
use Rattle.std.specs.Prelude.{MatchBool, is_some, unwrap_or}
use Rattle.std.specs.List.{Contains}
use Rattle.std.proofs.lemmas.Bool.{cases_Bool, cases_eq, cases_lt, le-leb}
use Rattle.std.proofs.lemmas.List.{get_or_past, get_or-set_same, get_or-set_other, get_or-map, get_or-replicate, length-map, length-replicate}
use Rattle.std.proofs.lemmas.List.Folds.{fold_stays}
use Rattle.std.proofs.lemmas.List.Sums.{sum_by-set}
use Rattle.adp_model.specs.declared.grammar.Arg.{Arg}
use Rattle.adp_model.specs.declared.grammar.Arg.TheVariants.{Rule, Literal, Letter, Run}
use Rattle.adp_model.specs.declared.grammar.Alt.{Alt}
use Rattle.adp_model.specs.declared.grammar.Size.{Size}
use Rattle.adp_model.specs.declared.grammar.Rule as rules
use Rattle.adp_model.specs.declared.grammar.Grammar.{Grammar}
use Rattle.adp_model.specs.Parts.{alternatives_of, alternative_at, arguments_of}
use Rattle.adp_model.specs.Lengths.{low_of, high_of, raised, IsWithinHigh, AdmitsLength, HasLength, HaveLength, ByAlternative, NoArguments, FirstRule, FirstToken, IsProductive}
use Rattle.adp_model.specs.Sizes.{greatest_kept, IsLeastSize}
use Rattle.adp_model.specs.WellFormed.{HasFittingBounds}
use Rattle.yield_sizes.specs.GrammarSizes.{AreAllProductive}
use Rattle.yield_sizes.specs.KnownLengths.{added, lesser, argument_least, arguments_least, is_within, allowed_least, alternative_least, rule_least, AreLengths, AreLeast, AreLeastLengths, AreProductive, fall_left}
use Rattle.yield_sizes.proofs.Searching.{search_below, contains_here, contains_later}

-- the runs among the arguments have bounds in order
abbrev pub InOrder : List Arg → Type 0
InOrder arguments = (class low high : ℕ) → Contains arguments (Run class low (Some high)) → low ≤ high

abbrev pub AllInOrder : Grammar → Type 0
AllInOrder grammar = (rule alternative class low high : ℕ) → Contains (arguments_of grammar rule alternative) (Run class low (Some high)) → low ≤ high

pub in_order_later : (argument : Arg) (arguments : List Arg) → InOrder (argument ∷ arguments) → InOrder arguments
in_order_later argument arguments h class low high contained = h class low high (contains_later argument (Run class low (Some high)) arguments contained)

-- a length of an argument
abbrev pub CanHave : Grammar → Arg → ℕ → Type 0
CanHave grammar (Rule rule) len = HasLength grammar rule len
CanHave grammar (Literal text) len = AdmitsLength (Literal text) len
CanHave grammar (Letter class) len = AdmitsLength (Letter class) len
CanHave grammar (Run class low high) len = AdmitsLength (Run class low high) len

pub first_has : (grammar : Grammar) (argument : Arg) (len : ℕ) (arguments : List Arg) (others : ℕ) → CanHave grammar argument len → HaveLength grammar arguments others → HaveLength grammar (argument ∷ arguments) (len + others)
first_has grammar (Rule rule) len arguments others has have = FirstRule rule len arguments others has have
first_has grammar (Literal text) len arguments others has have = FirstToken (Literal text) len arguments others has have
first_has grammar (Letter class) len arguments others has have = FirstToken (Letter class) len arguments others has have
first_has grammar (Run class low high) len arguments others has have = FirstToken (Run class low high) len arguments others has have

pub some_same : (m n : ℕ) → Some m ≡ Some n → m ≡ n
some_same m n e = cc

-- ---- each known length is one

argument_sound : (grammar : Grammar) (most : ℕ) (known : List (Option ℕ)) → AreLengths grammar most known → (argument : Arg) (arguments : List Arg) (size : ℕ) → InOrder (argument ∷ arguments) → argument_least most known argument ≡ Some size → (len : ℕ) × CanHave grammar argument len × (size ≡ min len most)
argument_sound grammar most known lengths (Rule rule) arguments size in_order e = lengths.have rule size e
argument_sound grammar most known lengths (Literal text) arguments size in_order e = (length text, refl, sym (some_same _ _ e))
argument_sound grammar most known lengths (Letter class) arguments size in_order e = (1, refl, sym (some_same _ _ e))
argument_sound grammar most known lengths (Run class low None) arguments size in_order e = (low, (omega arith, tt), sym (some_same _ _ e))
argument_sound grammar most known lengths (Run class low (Some high)) arguments size in_order e =
    (low, (omega arith, in_order class low high (contains_here (Run class low (Some high)) arguments)), sym (some_same _ _ e))

abbrev step : ℕ → List (Option ℕ) → Option ℕ → Arg → Option ℕ
step most known total argument = added most total (argument_least most known argument)

unknown_stays : (most : ℕ) (known : List (Option ℕ)) (arguments : List Arg) → fold (step most known) None arguments ≡ None
unknown_stays most known arguments = fold_stays (step most known) None (λ argument. refl) arguments

arguments_sound : (grammar : Grammar) (most : ℕ) (known : List (Option ℕ)) → AreLengths grammar most known → (arguments : List Arg) (total len size : ℕ) → InOrder arguments → total ≡ min len most → fold (step most known) (Some total) arguments ≡ Some size → (others : ℕ) × HaveLength grammar arguments others × (size ≡ min (len + others) most)
arguments_sound grammar most known lengths [] total len size in_order is e =
    let same = some_same _ _ e in
    (0, NoArguments, omega arith)
arguments_sound grammar most known lengths (argument ∷ arguments) total len size in_order is e =
    go (argument_least most known argument) refl (λ total' len' is' e'. arguments_sound grammar most known lengths arguments total' len' size (in_order_later argument arguments in_order) is' e')
  where
    P : Option ℕ → Type 0
    P it = fold (step most known) (added most (Some total) it) arguments ≡ Some size

    go : (found : Option ℕ) → argument_least most known argument ≡ found → ((total' len' : ℕ) → total' ≡ min len' most → fold (step most known) (Some total') arguments ≡ Some size → (others : ℕ) × HaveLength grammar arguments others × (size ≡ min (len' + others) most)) → (others : ℕ) × HaveLength grammar (argument ∷ arguments) others × (size ≡ min (len + others) most)
    go None none later =
        let nothing : fold (step most known) None arguments ≡ Some size = subst P none e in
        let unknown = unknown_stays most known arguments in
        absurd (cc)
    go (Some part) found later =
        let first = argument_sound grammar most known lengths argument arguments part in_order found in
        let rest = later (min (total + part) most) (len + first.0) (omega (arith, first.2)) (subst P found e) in
        (first.0 + rest.0, first_has grammar argument first.0 arguments rest.0 first.1 rest.1, omega (arith, rest.2))

-- ---- the least of the alternatives

abbrev better : ℕ → List (Option ℕ) → Option ℕ → Alt → Option ℕ
better most known least alternative = lesser least (alternative_least most known alternative)

lesser_one : (a b : Option ℕ) → (lesser a b ≡ a) ⊎ (lesser a b ≡ b)
lesser_one (Some m) (Some n) = elim (cases_lt m n) [
  | inl less ↦ let is : min m n ≡ m = omega arith in inl (ap Some is)
  | inr more ↦ let is : min m n ≡ n = omega arith in inr (ap Some is)
]
lesser_one (Some m) None = inl refl
lesser_one None b = inr refl

-- the least is that of one of them
rule_one : (most : ℕ) (known : List (Option ℕ)) (alternatives : List Alt) (least : Option ℕ) (size : ℕ) → fold (better most known) least alternatives ≡ Some size → (least ≡ Some size) ⊎ ((k : ℕ) × (k < length alternatives) × ((d : Alt) → alternative_least most known (get_or alternatives k d) ≡ Some size))
rule_one most known [] least size e = inl e
rule_one most known (alternative ∷ alternatives) least size e =
    elim (rule_one most known alternatives (better most known least alternative) size e) [
      | inl here ↦ elim (lesser_one least (alternative_least most known alternative)) [
        | inl old ↦ inl (sym old ∙ here)
        | inr new ↦ inr (0, omega arith, λ d. sym new ∙ here)
      ]
      | inr later ↦ inr (suc later.0, omega (arith, later.1), later.2)
    ]

lesser_kept : (m : ℕ) (b : Option ℕ) → (n : ℕ) × (lesser (Some m) b ≡ Some n) × (n ≤ m)
lesser_kept m (Some n) = (min m n, refl, omega arith)
lesser_kept m None = (m, refl, omega arith)

lesser_found : (a : Option ℕ) (m : ℕ) → (n : ℕ) × (lesser a (Some m) ≡ Some n) × (n ≤ m)
lesser_found (Some n) m = (min n m, refl, omega arith)
lesser_found None m = (m, refl, omega arith)

-- it is at most what came before
rule_kept : (most : ℕ) (known : List (Option ℕ)) (alternatives : List Alt) (m : ℕ) → (n : ℕ) × (fold (better most known) (Some m) alternatives ≡ Some n) × (n ≤ m)
rule_kept most known [] m = (m, refl, omega arith)
rule_kept most known (alternative ∷ alternatives) m =
    let first = lesser_kept m (alternative_least most known alternative) in
    let rest = rule_kept most known alternatives first.0 in
    let P : Option ℕ → Type 0 = λ it. fold (better most known) it alternatives ≡ Some rest.0 in
    (rest.0, subst P (sym first.1) rest.1, omega (arith, first.2, rest.2))

-- and at most the length of each alternative
rule_below : (most : ℕ) (known : List (Option ℕ)) (alternatives : List Alt) (least : Option ℕ) (k : ℕ) (d : Alt) (size : ℕ) → k < length alternatives → alternative_least most known (get_or alternatives k d) ≡ Some size → (n : ℕ) × (fold (better most known) least alternatives ≡ Some n) × (n ≤ size)
rule_below most known [] least k d size l e = absurd (omega arith)
rule_below most known (alternative ∷ alternatives) least zero d size l e =
    let first = lesser_found least size in
    let rest = rule_kept most known alternatives first.0 in
    let P : Option ℕ → Type 0 = λ it. fold (better most known) it alternatives ≡ Some rest.0 in
    let here : better most known least alternative ≡ Some first.0 = ap (lesser least) e ∙ first.1 in
    (rest.0, subst P (sym here) rest.1, omega (arith, first.2, rest.2))
rule_below most known (alternative ∷ alternatives) least (suc k) d size l e =
    rule_below most known alternatives (better most known least alternative) k d size (omega arith) e

-- the bounds of the alternative's size are below what lengths are cut to
abbrev pub HasBoundsBelow : ℕ → Alt → Type 0
HasBoundsBelow most alternative = (low_of alternative.size ≤ most) × IfSome (high_of alternative.size) (λ high. high < most)

abbrev pub AllBoundsBelow : Grammar → ℕ → Type 0
AllBoundsBelow grammar most = (rule alternative : ℕ) → HasBoundsBelow most (alternative_at grammar rule alternative)

-- a sum that an alternative allows
allowed_sum : (size : Option Size) (found : Option ℕ) (len : ℕ) → allowed_least size found ≡ Some len → (sum : ℕ) × (found ≡ Some sum) × IfSome (high_of size) (λ high. sum ≤ high) × (len ≡ max sum (low_of size))
allowed_sum size None len e = absurd (cc)
allowed_sum size (Some sum) len e = (sum, refl, within (high_of size) e, raised_to (is_within (high_of size) sum) e)
  where
    within : (high : Option ℕ) → (if is_within high sum then Some (max sum (low_of size)) else None) ≡ Some len → IfSome high (λ most. sum ≤ most)
    within None e = tt
    within (Some high) e = elim (cases_Bool (nat_le sum high)) [
      | inl fits ↦ leb-true sum high fits
      | inr above ↦
          let P : Bool → Type 0 = λ b. (if b then Some (max sum (low_of size)) else None) ≡ Some len in
          let wrong : None ≡ Some len = subst P above e in
          absurd (cc)
    ]

    raised_to : (b : Bool) → (if b then Some (max sum (low_of size)) else None) ≡ Some len → len ≡ max sum (low_of size)
    raised_to true e = sym (some_same _ _ e)
    raised_to false e = absurd (cc)

-- a cut sum that an alternative allows is not cut, or has no bound
raised_sound : (most : ℕ) (alternative : Alt) (sum whole size : ℕ) → HasBoundsBelow most alternative → IfSome (high_of alternative.size) (λ high. sum ≤ high) → size ≡ max sum (low_of alternative.size) → sum ≡ min whole most → IsWithinHigh alternative whole × (size ≡ min (raised alternative whole) most)
raised_sound most alternative sum whole size fit within is cut = (go (high_of alternative.size) fit.1 within, omega (arith, fit.0))
  where
    go : (high : Option ℕ) → IfSome high (λ high. high < most) → IfSome high (λ high. sum ≤ high) → IfSome high (λ high. whole ≤ high)
    go None below within = tt
    go (Some high) below within = omega arith

pub rule_sound : (grammar : Grammar) (most : ℕ) (known : List (Option ℕ)) → AllInOrder grammar → AllBoundsBelow grammar most → AreLengths grammar most known → (rule size : ℕ) → rule_least most known (alternatives_of grammar rule) ≡ Some size → (len : ℕ) × HasLength grammar rule len × (size ≡ min len most)
rule_sound grammar most known in_order fit lengths rule size e =
    elim (rule_one most known (alternatives_of grammar rule) None size e) [
      | inl here ↦ absurd (cc)
      | inr found ↦
          let alternative = alternative_at grammar rule found.0 in
          let sum = allowed_sum alternative.size (arguments_least most known alternative.args) size (found.2 (record { sign = 0; args = []; size = None })) in
          let parts = arguments_sound grammar most known lengths alternative.args 0 0 sum.0 (in_order rule found.0) (omega arith) sum.1 in
          let whole = raised_sound most alternative sum.0 parts.0 size (fit rule found.0) sum.2 sum.3 (omega (arith, parts.2)) in
          (raised alternative parts.0, ByAlternative rule found.0 parts.0 (raised alternative parts.0) found.1 parts.1 whole.0 refl, whole.1)
    ]

-- ---- one more

pub length_set : (grammar : Grammar) (most : ℕ) (known : List (Option ℕ)) → AllInOrder grammar → AllBoundsBelow grammar most → AreLengths grammar most known → (rule size : ℕ) → rule < length grammar.rules → rule_least most known (alternatives_of grammar rule) ≡ Some size → AreLengths grammar most (set known rule (Some size))
length_set grammar most known in_order fit lengths rule size l e = record {
  each = length-set known rule (Some size) ∙ lengths.each;
  have = λ other found is. elim (cases_eq other rule) [
    | inl same ↦
        let here : get_or (set known rule (Some size)) other None ≡ Some size = ap (λ k. get_or (set known rule (Some size)) k None) same ∙ get_or-set_same known rule (Some size) None (omega (arith, lengths.each)) in
        let it = rule_sound grammar most known in_order fit lengths rule size e in
        let equal : size ≡ found = some_same size found (sym here ∙ is) in
        let P : ℕ → Type 0 = λ r. HasLength grammar r it.0 in
        (it.0, subst P (sym same) it.1, sym equal ∙ it.2)
    | inr differs ↦ lengths.have other found (sym (get_or-set_other known rule other (Some size) None differs) ∙ is)
  ];
}

-- by how much one length can fall
abbrev fall : ℕ → Option ℕ → ℕ
fall most None = most + 1
fall most (Some len) = len

-- the lengths together can fall by less
pub fall_set : (most : ℕ) (known : List (Option ℕ)) (rule size : ℕ) → rule < length known → size < fall most (get_or known rule None) → fall_left most (set known rule (Some size)) < fall_left most known
fall_set most known rule size l less =
    let sums : sum_by (fall most) (set known rule (Some size)) + fall most (get_or known rule None) ≡ sum_by (fall most) known + size = sum_by-set (fall most) known rule (Some size) None l in
    let both : fall_left most (set known rule (Some size)) + fall most (get_or known rule None) ≡ fall_left most known + size = sums in
    omega arith

-- a length that is found is less, or it changes nothing
pub lesser_cases : (most : ℕ) (a b : Option ℕ) → ((n : ℕ) → b ≡ Some n → n ≤ most) → ((n : ℕ) × (b ≡ Some n) × (lesser a b ≡ Some n) × (n < fall most a)) ⊎ (lesser a b ≡ a)
lesser_cases most (Some m) (Some n) fits = elim (cases_lt n m) [
  | inl less ↦ let is : min m n ≡ n = omega arith in inl (n, refl, ap Some is, less)
  | inr more ↦ let is : min m n ≡ m = omega arith in inr (ap Some is)
]
lesser_cases most (Some m) None fits = inr refl
lesser_cases most None (Some n) fits = inl (n, refl, refl, omega (arith, fits n refl))
lesser_cases most None None fits = inr refl

-- what a rule's alternatives have, is less than is known, or changes nothing
pub rule_cases : (grammar : Grammar) (most : ℕ) (known : List (Option ℕ)) → AllInOrder grammar → AllBoundsBelow grammar most → AreLengths grammar most known → (rule : ℕ)
    → ((n : ℕ) × (rule_least most known (alternatives_of grammar rule) ≡ Some n) × (lesser (get_or known rule None) (rule_least most known (alternatives_of grammar rule)) ≡ Some n) × (n < fall most (get_or known rule None)))
    ⊎ (lesser (get_or known rule None) (rule_least most known (alternatives_of grammar rule)) ≡ get_or known rule None)
rule_cases grammar most known in_order fit lengths rule =
    lesser_cases most (get_or known rule None) (rule_least most known (alternatives_of grammar rule))
    (λ n e. omega (arith, (rule_sound grammar most known in_order fit lengths rule n e).2))

-- ---- no lesser length

pub in_range : (grammar : Grammar) (rule alternative : ℕ) → alternative < length (alternatives_of grammar rule) → rule < length grammar.rules
in_range grammar rule alternative l = elim (cases_lt rule (length grammar.rules)) [
  | inl inside ↦ inside
  | inr past ↦
      let P : rules.Rule → Type 0 = λ it. alternative < length it.alts in
      let nothing = subst P (get_or_past grammar.rules rule (record { name = []; alts = [] }) past) l in
      absurd (omega (arith, nothing))
]

lesser_is : (a : Option ℕ) (n : ℕ) → lesser a (Some n) ≡ a → (m : ℕ) × (a ≡ Some m) × (m ≤ n)
lesser_is (Some m) n e = let same = some_same _ _ e in (m, refl, omega arith)
lesser_is None n e = absurd (cc)

token_least : (most : ℕ) (known : List (Option ℕ)) (token : Arg) (len : ℕ) → AdmitsLength token len → (size : ℕ) × (argument_least most known token ≡ Some size) × (size ≤ len)
token_least most known (Rule rule) len h = absurd h
token_least most known (Literal text) len h = (min (length text) most, refl, omega arith)
token_least most known (Letter class) len h = (min 1 most, refl, omega arith)
token_least most known (Run class low high) len h = (min low most, refl, omega (arith, h.0))

-- a sum that is not above the high bound counts
allowed_covered : (alternative : Alt) (size sum : ℕ) → IsWithinHigh alternative sum → size ≤ sum → allowed_least alternative.size (Some size) ≡ Some (max size (low_of alternative.size))
allowed_covered alternative size sum within less = ap (λ (b : Bool). if b then Some (max size (low_of alternative.size)) else None) (go (high_of alternative.size) within)
  where
    go : (high : Option ℕ) → IfSome high (λ most. sum ≤ most) → is_within high size ≡ true
    go None within = refl
    go (Some high) within = le-leb size high (omega arith)

mutual
  -- each length of a rule is at least what is known
  pub rule_covered : (grammar : Grammar) (most : ℕ) (known : List (Option ℕ)) → AreLeast grammar most known → (rule len : ℕ) → HasLength grammar rule len → (size : ℕ) × (get_or known rule None ≡ Some size) × (size ≤ len)
  rule_covered grammar most known least _ _ (ByAlternative rule alternative sum len l have within is) =
      let parts = arguments_covered grammar most known least 0 (arguments_of grammar rule alternative) sum have in
      let raised_least = allowed_covered (alternative_at grammar rule alternative) parts.0 sum within (omega (arith, parts.2)) in
      let here : alternative_least most known (alternative_at grammar rule alternative) ≡ Some (max parts.0 (low_of (alternative_at grammar rule alternative).size)) = ap (allowed_least (alternative_at grammar rule alternative).size) parts.1 ∙ raised_least in
      let below = rule_below most known (alternatives_of grammar rule) None alternative (record { sign = 0; args = []; size = None }) (max parts.0 (low_of (alternative_at grammar rule alternative).size)) l here in
      let at : lesser (get_or known rule None) (Some below.0) ≡ get_or known rule None = ap (lesser (get_or known rule None)) (sym below.1) ∙ least.least rule (in_range grammar rule alternative l) in
      let it = lesser_is (get_or known rule None) below.0 at in
      (it.0, it.1, omega (arith, it.2, below.2, parts.2))

  arguments_covered : (grammar : Grammar) (most : ℕ) (known : List (Option ℕ)) → AreLeast grammar most known → (total : ℕ) (arguments : List Arg) (len : ℕ) → HaveLength grammar arguments len → (size : ℕ) × (fold (step most known) (Some total) arguments ≡ Some size) × (size ≤ total + len)
  arguments_covered grammar most known least total _ _ NoArguments = (total, refl, omega arith)
  arguments_covered grammar most known least total _ _ (FirstRule rule first arguments others has have) =
      let it = rule_covered grammar most known least rule first has in
      let rest = arguments_covered grammar most known least (min (total + it.0) most) arguments others have in
      let P : Option ℕ → Type 0 = λ part. fold (step most known) (added most (Some total) part) arguments ≡ Some rest.0 in
      (rest.0, subst P (sym it.1) rest.1, omega (arith, it.2, rest.2))
  arguments_covered grammar most known least total _ _ (FirstToken token first arguments others admits have) =
      let it = token_least most known token first admits in
      let rest = arguments_covered grammar most known least (min (total + it.0) most) arguments others have in
      let P : Option ℕ → Type 0 = λ part. fold (step most known) (added most (Some total) part) arguments ≡ Some rest.0 in
      (rest.0, subst P (sym it.1) rest.1, omega (arith, it.2, rest.2))

-- ---- the least length exists

-- the bounds of all sizes are in order
abbrev pub AllBoundsFit : Grammar → Type 0
AllBoundsFit grammar = (rule alternative : ℕ) → HasFittingBounds (alternative_at grammar rule alternative)

pub all_below : (grammar : Grammar) (most : ℕ) → 1000000 < most → AllBoundsFit grammar → AllBoundsBelow grammar most
all_below grammar most above fit rule alternative =
    let it = fit rule alternative in
    (omega (arith, it.0), go (high_of (alternative_at grammar rule alternative).size) it.1)
  where
    go : (high : Option ℕ) → IfSome high (λ high. (low_of (alternative_at grammar rule alternative).size ≤ high) × (high ≤ 1000000)) → IfSome high (λ high. high < most)
    go None h = tt
    go (Some high) h = omega (arith, h.1)

-- lengths that are known, and none is less
pub record AreFound (grammar : Grammar) (most : ℕ) : Type 0 where
  pub known : List (Option ℕ)
  pub lengths : AreLengths grammar most known
  pub least : AreLeast grammar most known

search_on : (grammar : Grammar) (most : ℕ) → AllInOrder grammar → AllBoundsBelow grammar most → (left : ℕ) (known : List (Option ℕ)) → AreLengths grammar most known → fall_left most known < left → AreFound grammar most
search_on grammar most in_order fit zero known lengths l = absurd (omega arith)
search_on grammar most in_order fit (suc left) known lengths l =
    elim (search_below
    (λ rule. (n : ℕ) × (rule_least most known (alternatives_of grammar rule) ≡ Some n) × (lesser (get_or known rule None) (rule_least most known (alternatives_of grammar rule)) ≡ Some n) × (n < fall most (get_or known rule None)))
    (λ rule. lesser (get_or known rule None) (rule_least most known (alternatives_of grammar rule)) ≡ get_or known rule None)
    (length grammar.rules) (λ rule k. rule_cases grammar most known in_order fit lengths rule)) [
      | inl found ↦ search_on grammar most in_order fit left (set known found.0 (Some found.2.0)) (length_set grammar most known in_order fit lengths found.0 found.2.0 found.1 found.2.1)
          (omega (arith, fall_set most known found.0 found.2.0 (omega (arith, lengths.each, found.1)) found.2.3))
      | inr none ↦ record { known = known; lengths = lengths; least = record { least = none } }
    ]

pub nothing_known : (grammar : Grammar) (most : ℕ) (known : List (Option ℕ)) → length known ≡ length grammar.rules → ((rule : ℕ) → get_or known rule None ≡ None) → AreLengths grammar most known
nothing_known grammar most known long none = record {
  each = long;
  have = λ rule size e. let nothing = none rule in absurd (cc);
}

abbrev pub unknown : Option ℕ
unknown = None

pub none_at : (n rule : ℕ) → get_or (replicate n unknown) rule unknown ≡ unknown
none_at n rule = elim (cases_lt rule n) [
  | inl inside ↦ get_or-replicate n rule unknown unknown inside
  | inr past ↦ get_or_past (replicate n unknown) rule unknown (omega (arith, length-replicate n unknown))
]

find_lengths : (grammar : Grammar) (most : ℕ) → AllInOrder grammar → AllBoundsBelow grammar most → AreFound grammar most
find_lengths grammar most in_order fit =
    let known = replicate (length grammar.rules) unknown in
    search_on grammar most in_order fit (suc (fall_left most known)) known
    (nothing_known grammar most known (length-replicate (length grammar.rules) unknown) (λ rule. none_at (length grammar.rules) rule)) (omega arith)

-- a rule with a length has a least one
pub least_exists : (grammar : Grammar) → AllInOrder grammar → AllBoundsFit grammar → (rule len : ℕ) → HasLength grammar rule len → (least : ℕ) × HasLength grammar rule least × ((other : ℕ) → HasLength grammar rule other → least ≤ other)
least_exists grammar in_order fit rule len has =
    let most = len + 1000001 in
    let found = find_lengths grammar most in_order (all_below grammar most (omega arith) fit) in
    let covered = rule_covered grammar most found.known found.least rule len has in
    let it = found.lengths.have rule covered.0 covered.1 in
    let exact : it.0 ≡ covered.0 = omega (arith, it.2, covered.2) in (
      it.0,
      it.1,
      λ other h.
          let again = rule_covered grammar most found.known found.least rule other h in
          let same = some_same covered.0 again.0 (sym covered.1 ∙ again.1) in
          omega (arith, again.2),
    )

-- what is known of the rules is their least sizes
pub lengths_found : (grammar : Grammar) (known : List (Option ℕ)) → AllInOrder grammar → AllBoundsFit grammar → AreLengths grammar greatest_kept known → AreLeast grammar greatest_kept known → AreLeastLengths grammar known
lengths_found grammar known in_order fit lengths least = record {
  each = lengths.each;
  told = λ rule. told rule (get_or known rule None) refl;
}
  where
    told : (rule : ℕ) (size : Option ℕ) → get_or known rule None ≡ size → MatchOption size (IsProductive grammar rule → ⊥) (IsLeastSize grammar rule)
    told rule None e = λ productive.
        let covered = rule_covered grammar greatest_kept known least rule productive.0 productive.1 in
        let nothing : None ≡ Some covered.0 = sym e ∙ covered.1 in
        cc
    told rule (Some size) e =
        let it = lengths.have rule size e in
        let exact = least_exists grammar in_order fit rule it.0 it.1 in
        let covered = rule_covered grammar greatest_kept known least rule exact.0 exact.1 in
        let same = some_same size covered.0 (sym e ∙ covered.1) in
        (exact.0, exact.1, exact.2, omega (arith, it.2, covered.2, exact.2 it.0 it.1))

-- ---- a round over the rules

-- a round from the old lengths, past the first rules
pub record IsRound (grammar : Grammar) (most : ℕ) (old known : List (Option ℕ)) (count : ℕ) (fell : Bool) : Type 0 where
  pub lengths : AreLengths grammar most known
  pub less : fell ≡ true → fall_left most known < fall_left most old
  pub same : fell ≡ false → known ≡ old
  pub none : fell ≡ false → (rule : ℕ) → rule < count → lesser (get_or known rule None) (rule_least most known (alternatives_of grammar rule)) ≡ get_or known rule None

pub round_same : (grammar : Grammar) (most : ℕ) (old known : List (Option ℕ)) (count : ℕ) (fell : Bool) → IsRound grammar most old known count fell → lesser (get_or known count None) (rule_least most known (alternatives_of grammar count)) ≡ get_or known count None → IsRound grammar most old known (count + 1) fell
round_same grammar most old known count fell round here = record {
  lengths = round.lengths;
  less = round.less;
  same = round.same;
  none = λ e rule l. elim (cases_eq rule count) [
    | inl at ↦ let P : ℕ → Type 0 = λ r. lesser (get_or known r None) (rule_least most known (alternatives_of grammar r)) ≡ get_or known r None in subst P (sym at) here
    | inr other ↦ round.none e rule (omega arith)
  ];
}

pub round_fell : (grammar : Grammar) (most : ℕ) (old known : List (Option ℕ)) (count : ℕ) (fell : Bool) → AllInOrder grammar → AllBoundsBelow grammar most → IsRound grammar most old known count fell → count < length grammar.rules → (lesser (get_or known count None) (rule_least most known (alternatives_of grammar count)) ≡ get_or known count None → ⊥) → IsRound grammar most old (set known count (lesser (get_or known count None) (rule_least most known (alternatives_of grammar count)))) (count + 1) true
round_fell grammar most old known count fell in_order fit round l differs =
    elim (rule_cases grammar most known in_order fit round.lengths count) [
      | inr same ↦ absurd (differs same)
      | inl found ↦
          let P : Option ℕ → Type 0 = λ it. IsRound grammar most old (set known count it) (count + 1) true in
          let falls : fall_left most (set known count (Some found.0)) < fall_left most known = fall_set most known count found.0 (omega (arith, round.lengths.each)) found.3 in
          let at_most : fall_left most known ≤ fall_left most old = elim (cases_Bool fell) [
            | inl fallen ↦ omega (arith, round.less fallen)
            | inr never ↦ omega (arith, ap (fall_left most) (round.same never))
          ] in
          subst P (sym found.2) (record {
            lengths = length_set grammar most known in_order fit round.lengths count found.0 l found.1;
            less = λ e. omega arith;
            same = λ e. absurd (cc);
            none = λ e rule k. absurd (cc);
          })
    ]

-- ---- what the lengths tell

pub productive_told : (grammar : Grammar) (known : List (Option ℕ)) → AreLeastLengths grammar known → AreProductive grammar (map is_some known)
productive_told grammar known are = record {
  each = length-map known is_some ∙ are.each;
  told = λ rule l.
      let P : Bool → Type 0 = λ flag. MatchBool flag (IsProductive grammar rule) (IsProductive grammar rule → ⊥) in
      subst P (sym (get_or-map is_some known rule None false (omega (arith, are.each)))) (go rule (get_or known rule None) (are.told rule));
}
  where
    go : (rule : ℕ) (size : Option ℕ) → MatchOption size (IsProductive grammar rule → ⊥) (IsLeastSize grammar rule) → MatchBool (is_some size) (IsProductive grammar rule) (IsProductive grammar rule → ⊥)
    go rule None told = told
    go rule (Some size) told = (told.0, told.1)

abbrev pub or_zero : Option ℕ → ℕ
or_zero len = unwrap_or len 0

pub least_told : (grammar : Grammar) (known : List (Option ℕ)) → AreLeastLengths grammar known → AreAllProductive grammar → (rule : ℕ) → rule < length grammar.rules → IsLeastSize grammar rule (get_or (map or_zero known) rule 0)
least_told grammar known are productive rule l =
    subst (IsLeastSize grammar rule) (sym (get_or-map or_zero known rule None 0 (omega (arith, are.each)))) (go (get_or known rule None) (are.told rule))
  where
    go : (size : Option ℕ) → MatchOption size (IsProductive grammar rule → ⊥) (IsLeastSize grammar rule) → IsLeastSize grammar rule (or_zero size)
    go None told = absurd (told (productive rule l))
    go (Some size) told = told
