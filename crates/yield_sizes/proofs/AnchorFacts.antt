-- Anchored rules: where references lead from rules that are named beyond an argument that can be nonempty.
use Rattle.std.proofs.Common.{◌≡◌, ℕ, ◌+◌, ◌<◌, ◌⊎◌, inl, inr, Bool, true, false, ◌&&◌, ◌||◌, not, Option, Some, None, List, [], ◌∷◌, length, get_or, map, refl, sym, ap, subst, ◌∙◌, arith}
use Rattle.std.specs.Prelude.{◌==◌, MatchBool}
use Rattle.std.specs.List.{Contains, enumerate_from, list_any, range_with_len, zip}
use Rattle.std.proofs.lemmas.Bool.{cases_Bool, cases_eq, false≢true, eqb-true, eq-eqb, ne_eqb, and_parts, and_from, or_cases, or_left, or_right, not_from_false, not_from_true}
use Rattle.std.proofs.lemmas.List.FromFn.{length-map-range_with_len, get_or-map-range_with_len, length-enumerate_from, get_or-enumerate_from}
use Rattle.std.proofs.lemmas.Slice.Zip.{get_or-zip, length-zip}
use Rattle.adp_model.specs.declared.grammar.Arg.{Arg}
use Rattle.adp_model.specs.declared.grammar.Arg.TheVariants.{Rule, Literal, Letter, Run}
use Rattle.adp_model.specs.declared.grammar.Alt.{Alt}
use Rattle.adp_model.specs.declared.grammar.Rule as rules
use Rattle.adp_model.specs.declared.grammar.Grammar.{Grammar}
use Rattle.adp_model.specs.Parts.{alternatives_of, arguments_of}
use Rattle.adp_model.specs.Sizes.{Names, AreGreatestSizes, IsGreatestSize}
use Rattle.yield_sizes.specs.References.{Reaches, AtOnce, Through}
use Rattle.adp_model.specs.Anchors.{IsReachedRule, TheAxiom, Named, CanBeNonempty, IsNamedBehind, SomeCanBeNonempty, IsNamedBefore, SomeReached, IsLeftFree, Behind, LeftOf, IsRightFree, Before, RightOf}
use Rattle.adp_model.specs.ProblemFields.{AreLeftAnchors, AreRightAnchors}
use Rattle.yield_sizes.specs.declared.rule_sizes.Sizes.{Sizes}
use Rattle.yield_sizes.specs.declared.anchoring.Side.{Side}
use Rattle.yield_sizes.specs.declared.anchoring.Side.TheVariants.{Left, Right}
use Rattle.yield_sizes.specs.GrammarSizes.{AreSizes}
use Rattle.yield_sizes.specs.Relations.{IsTableOf}
use Rattle.yield_sizes.specs.ArgumentTests.{is_zero, is_rule, can_be_nonempty, is_named_behind, is_named_before}
use Rattle.yield_sizes.specs.AnchorTests.{is_named_beyond, is_start_in, is_start, is_reached, is_free, AreSideAnchors}
use Rattle.yield_sizes.proofs.Searching.{contains_later}
use Rattle.yield_sizes.proofs.LeastLengths.{in_range}
use Rattle.yield_sizes.proofs.GreatestLengths.{up_to_each_other}
use Rattle.yield_sizes.proofs.ArgumentFacts.{AllNamedKnown, reaches_push, any_at, at_any, rule_is, is_the_rule, rule_contained, contained_rule}

-- ---- what can be nonempty

zero_same : (size : Option ℕ) → is_zero size ≡ true → size ≡ Some 0
zero_same None h = absurd (false≢true h)
zero_same (Some size) h = ap Some (eqb-true size 0 h)

greatest_size : (grammar : Grammar) (greatest : List (Option ℕ)) → AreGreatestSizes grammar greatest → (rule : ℕ) → rule < length grammar.rules → IsGreatestSize grammar rule (get_or greatest rule None)
greatest_size grammar greatest are rule l = (greatest, are, l, refl)

-- the greatest size is 0 in one way alone
zero_alone : (grammar : Grammar) (rule : ℕ) (size : Option ℕ) → IsGreatestSize grammar rule size → IsGreatestSize grammar rule (Some 0) → size ≡ Some 0
zero_alone grammar rule size is it =
    is.3 ∙ up_to_each_other _ _ (is.1.least it.0 it.1.are rule is.2) (it.1.least is.0 is.1.are rule it.2) ∙ sym it.3

nonempty_argument : (grammar : Grammar) (sizes : Sizes) → AreSizes grammar sizes → (argument : Arg) → ((rule : ℕ) → argument ≡ Rule rule → rule < length grammar.rules) → can_be_nonempty sizes.greatest argument ≡ true → CanBeNonempty grammar argument
nonempty_argument grammar sizes are (Rule rule) known h = λ zero_size.
    let size = get_or sizes.greatest rule None in
    let same = zero_alone grammar rule size (greatest_size grammar sizes.greatest are.greatest_are rule (known rule refl)) zero_size in
    false≢true (sym (not_from_true (is_zero size) (ap is_zero same)) ∙ h)
nonempty_argument grammar sizes are (Literal text) known h = elim (cases_eq (length text) 0) [
  | inl none ↦ absurd (false≢true (sym (not_from_true (length text == 0) (eq-eqb (length text) 0 none)) ∙ h))
  | inr some ↦ omega arith
]
nonempty_argument grammar sizes are (Letter class) known h = tt
nonempty_argument grammar sizes are (Run class low high) known h = λ zero_size. false≢true (sym (not_from_true (is_zero high) (ap is_zero zero_size)) ∙ h)

argument_nonempty : (grammar : Grammar) (sizes : Sizes) → AreSizes grammar sizes → (argument : Arg) → ((rule : ℕ) → argument ≡ Rule rule → rule < length grammar.rules) → CanBeNonempty grammar argument → can_be_nonempty sizes.greatest argument ≡ true
argument_nonempty grammar sizes are (Rule rule) known h =
    let size = get_or sizes.greatest rule None in
    elim (cases_Bool (is_zero size)) [
      | inl yes_zero ↦ absurd (h (subst (IsGreatestSize grammar rule) (zero_same size yes_zero) (greatest_size grammar sizes.greatest are.greatest_are rule (known rule refl))))
      | inr not_zero ↦ not_from_false (is_zero size) not_zero
    ]
argument_nonempty grammar sizes are (Literal text) known h = not_from_false (length text == 0) (ne_eqb (length text) 0 (λ e. omega arith))
argument_nonempty grammar sizes are (Letter class) known h = refl
argument_nonempty grammar sizes are (Run class low high) known h = elim (cases_Bool (is_zero high)) [
  | inl yes_zero ↦ absurd (h (zero_same high yes_zero))
  | inr not_zero ↦ not_from_false (is_zero high) not_zero
]

-- the rules among the arguments are in the grammar
abbrev pub AreKnown : Grammar → List Arg → Type 0
AreKnown grammar arguments = (rule : ℕ) → Contains arguments (Rule rule) → rule < length grammar.rules

known_later : (grammar : Grammar) (argument : Arg) (arguments : List Arg) → AreKnown grammar (argument ∷ arguments) → AreKnown grammar arguments
known_later grammar argument arguments known rule contained = known rule (contains_later argument (Rule rule) arguments contained)

known_first : (grammar : Grammar) (argument : Arg) (arguments : List Arg) → AreKnown grammar (argument ∷ arguments) → (rule : ℕ) → argument ≡ Rule rule → rule < length grammar.rules
known_first grammar argument arguments known rule e = known rule (0, omega arith, e)

-- ---- named behind or before

behind : (grammar : Grammar) (sizes : Sizes) → AreSizes grammar sizes → (rule : ℕ) (arguments : List Arg) → AreKnown grammar arguments → is_named_behind sizes.greatest rule arguments ≡ true → IsNamedBehind grammar rule arguments
behind grammar sizes are rule [] known h = absurd (false≢true h)
behind grammar sizes are rule (argument ∷ arguments) known h =
    elim (or_cases (can_be_nonempty sizes.greatest argument && list_any (is_rule rule) arguments) (is_named_behind sizes.greatest rule arguments) h) [
      | inl here ↦
          let parts = and_parts (can_be_nonempty sizes.greatest argument) (list_any (is_rule rule) arguments) here in
          inl (nonempty_argument grammar sizes are argument (known_first grammar argument arguments known) parts.0, rule_contained rule arguments parts.1)
      | inr there ↦ inr (behind grammar sizes are rule arguments (known_later grammar argument arguments known) there)
    ]

is_behind : (grammar : Grammar) (sizes : Sizes) → AreSizes grammar sizes → (rule : ℕ) (arguments : List Arg) → AreKnown grammar arguments → IsNamedBehind grammar rule arguments → is_named_behind sizes.greatest rule arguments ≡ true
is_behind grammar sizes are rule [] known h = absurd h
is_behind grammar sizes are rule (argument ∷ arguments) known (inl here) =
    or_left (can_be_nonempty sizes.greatest argument && list_any (is_rule rule) arguments) (is_named_behind sizes.greatest rule arguments)
    (and_from (can_be_nonempty sizes.greatest argument) (list_any (is_rule rule) arguments) (argument_nonempty grammar sizes are argument (known_first grammar argument arguments known) here.0) (contained_rule rule arguments here.1))
is_behind grammar sizes are rule (argument ∷ arguments) known (inr there) =
    or_right (can_be_nonempty sizes.greatest argument && list_any (is_rule rule) arguments) (is_named_behind sizes.greatest rule arguments)
    (is_behind grammar sizes are rule arguments (known_later grammar argument arguments known) there)

some_nonempty : (grammar : Grammar) (sizes : Sizes) → AreSizes grammar sizes → (arguments : List Arg) → AreKnown grammar arguments → list_any (can_be_nonempty sizes.greatest) arguments ≡ true → SomeCanBeNonempty grammar arguments
some_nonempty grammar sizes are [] known h = absurd (false≢true h)
some_nonempty grammar sizes are (argument ∷ arguments) known h =
    elim (or_cases (can_be_nonempty sizes.greatest argument) (list_any (can_be_nonempty sizes.greatest) arguments) h) [
      | inl here ↦ inl (nonempty_argument grammar sizes are argument (known_first grammar argument arguments known) here)
      | inr there ↦ inr (some_nonempty grammar sizes are arguments (known_later grammar argument arguments known) there)
    ]

nonempty_some : (grammar : Grammar) (sizes : Sizes) → AreSizes grammar sizes → (arguments : List Arg) → AreKnown grammar arguments → SomeCanBeNonempty grammar arguments → list_any (can_be_nonempty sizes.greatest) arguments ≡ true
nonempty_some grammar sizes are [] known h = absurd h
nonempty_some grammar sizes are (argument ∷ arguments) known (inl here) =
    or_left (can_be_nonempty sizes.greatest argument) (list_any (can_be_nonempty sizes.greatest) arguments) (argument_nonempty grammar sizes are argument (known_first grammar argument arguments known) here)
nonempty_some grammar sizes are (argument ∷ arguments) known (inr there) =
    or_right (can_be_nonempty sizes.greatest argument) (list_any (can_be_nonempty sizes.greatest) arguments) (nonempty_some grammar sizes are arguments (known_later grammar argument arguments known) there)

before : (grammar : Grammar) (sizes : Sizes) → AreSizes grammar sizes → (rule : ℕ) (arguments : List Arg) → AreKnown grammar arguments → is_named_before sizes.greatest rule arguments ≡ true → IsNamedBefore grammar rule arguments
before grammar sizes are rule [] known h = absurd (false≢true h)
before grammar sizes are rule (argument ∷ arguments) known h =
    elim (or_cases (is_rule rule argument && list_any (can_be_nonempty sizes.greatest) arguments) (is_named_before sizes.greatest rule arguments) h) [
      | inl here ↦
          let parts = and_parts (is_rule rule argument) (list_any (can_be_nonempty sizes.greatest) arguments) here in
          inl (rule_is rule argument parts.0, some_nonempty grammar sizes are arguments (known_later grammar argument arguments known) parts.1)
      | inr there ↦ inr (before grammar sizes are rule arguments (known_later grammar argument arguments known) there)
    ]

is_before : (grammar : Grammar) (sizes : Sizes) → AreSizes grammar sizes → (rule : ℕ) (arguments : List Arg) → AreKnown grammar arguments → IsNamedBefore grammar rule arguments → is_named_before sizes.greatest rule arguments ≡ true
is_before grammar sizes are rule [] known h = absurd h
is_before grammar sizes are rule (argument ∷ arguments) known (inl here) =
    or_left (is_rule rule argument && list_any (can_be_nonempty sizes.greatest) arguments) (is_named_before sizes.greatest rule arguments)
    (and_from (is_rule rule argument) (list_any (can_be_nonempty sizes.greatest) arguments) (is_the_rule rule argument here.0) (nonempty_some grammar sizes are arguments (known_later grammar argument arguments known) here.1))
is_before grammar sizes are rule (argument ∷ arguments) known (inr there) =
    or_right (is_rule rule argument && list_any (can_be_nonempty sizes.greatest) arguments) (is_named_before sizes.greatest rule arguments)
    (is_before grammar sizes are rule arguments (known_later grammar argument arguments known) there)

behind_contains : (grammar : Grammar) (rule : ℕ) (arguments : List Arg) → IsNamedBehind grammar rule arguments → Contains arguments (Rule rule)
behind_contains grammar rule [] h = absurd h
behind_contains grammar rule (argument ∷ arguments) (inl here) = contains_later argument (Rule rule) arguments here.1
behind_contains grammar rule (argument ∷ arguments) (inr there) = contains_later argument (Rule rule) arguments (behind_contains grammar rule arguments there)

before_contains : (grammar : Grammar) (rule : ℕ) (arguments : List Arg) → IsNamedBefore grammar rule arguments → Contains arguments (Rule rule)
before_contains grammar rule [] h = absurd h
before_contains grammar rule (argument ∷ arguments) (inl here) = (0, omega arith, here.0)
before_contains grammar rule (argument ∷ arguments) (inr there) = contains_later argument (Rule rule) arguments (before_contains grammar rule arguments there)

-- the same on either side
abbrev pub IsNamedBeyond : Side → Grammar → ℕ → List Arg → Type 0
IsNamedBeyond Left grammar rule arguments = IsNamedBehind grammar rule arguments
IsNamedBeyond Right grammar rule arguments = IsNamedBefore grammar rule arguments

beyond : (side : Side) (grammar : Grammar) (sizes : Sizes) → AreSizes grammar sizes → (rule : ℕ) (arguments : List Arg) → AreKnown grammar arguments → is_named_beyond side sizes.greatest rule arguments ≡ true → IsNamedBeyond side grammar rule arguments
beyond Left grammar sizes are rule arguments known h = behind grammar sizes are rule arguments known h
beyond Right grammar sizes are rule arguments known h = before grammar sizes are rule arguments known h

is_beyond : (side : Side) (grammar : Grammar) (sizes : Sizes) → AreSizes grammar sizes → (rule : ℕ) (arguments : List Arg) → AreKnown grammar arguments → IsNamedBeyond side grammar rule arguments → is_named_beyond side sizes.greatest rule arguments ≡ true
is_beyond Left grammar sizes are rule arguments known h = is_behind grammar sizes are rule arguments known h
is_beyond Right grammar sizes are rule arguments known h = is_before grammar sizes are rule arguments known h

-- ---- reached rules

reached_push : (grammar : Grammar) (from to : ℕ) → IsReachedRule grammar from → Reaches grammar from to → IsReachedRule grammar to
reached_push grammar _ _ is_reached_rule (AtOnce from to names) = Named from to is_reached_rule names
reached_push grammar _ _ is_reached_rule (Through from between to names onward) = reached_push grammar between to (Named from between is_reached_rule names) onward

root_reaches : (grammar : Grammar) (rule : ℕ) → IsReachedRule grammar rule → (grammar.axiom ≡ rule) ⊎ Reaches grammar grammar.axiom rule
root_reaches grammar _ TheAxiom = inl refl
root_reaches grammar _ (Named rule other is_reached_rule names) = elim (root_reaches grammar rule is_reached_rule) [
  | inl same ↦ inr (AtOnce grammar.axiom other (let P : ℕ → Type 0 = λ r. Names grammar r other in subst P (sym same) names))
  | inr reaches ↦ inr (reaches_push grammar grammar.axiom rule other reaches names)
]

reached_is : (grammar : Grammar) (paths : List (List Bool)) → IsTableOf (length grammar.rules) (Reaches grammar) paths → (rule : ℕ) → is_reached grammar.axiom paths rule ≡ true → IsReachedRule grammar rule
reached_is grammar paths table rule h =
    elim (or_cases (grammar.axiom == rule) (get_or (get_or paths grammar.axiom []) rule false) h) [
      | inl same ↦ subst (IsReachedRule grammar) (eqb-true grammar.axiom rule same) TheAxiom
      | inr related ↦ reached_push grammar grammar.axiom rule TheAxiom (table.marked grammar.axiom rule related)
    ]

is_reached_so : (grammar : Grammar) (paths : List (List Bool)) → IsTableOf (length grammar.rules) (Reaches grammar) paths → (rule : ℕ) → IsReachedRule grammar rule → is_reached grammar.axiom paths rule ≡ true
is_reached_so grammar paths table rule is_reached_rule =
    elim (root_reaches grammar rule is_reached_rule) [
      | inl same ↦ or_left (grammar.axiom == rule) (get_or (get_or paths grammar.axiom []) rule false) (eq-eqb grammar.axiom rule same)
      | inr reaches ↦ or_right (grammar.axiom == rule) (get_or (get_or paths grammar.axiom []) rule false) (table.all grammar.axiom rule reaches)
    ]

-- ---- starts

abbrev nothing : Alt
nothing = record { sign = 0; args = []; size = None }

abbrev no_rule : rules.Rule
no_rule = record { name = []; alts = [] }

-- the flags of reached rules
abbrev pub reached_flags : Grammar → List (List Bool) → List Bool
reached_flags grammar paths = map (is_reached grammar.axiom paths) (range_with_len 0 (length paths))

flag_is : (grammar : Grammar) (paths : List (List Bool)) (rule : ℕ) → rule < length paths → get_or (reached_flags grammar paths) rule false ≡ is_reached grammar.axiom paths rule
flag_is grammar paths rule l = get_or-map-range_with_len (is_reached grammar.axiom paths) 0 (length paths) rule rule false l (omega arith)

abbrev start_test : Side → List (Option ℕ) → ℕ → rules.Rule × Bool → Bool
start_test side greatest rule entry = entry.1 && is_start_in side greatest rule entry.0.alts

-- a rule that a reached rule names beyond an argument that can be nonempty
abbrev pub IsStart : Side → Grammar → ℕ → Type 0
IsStart side grammar rule = SomeReached (IsNamedBeyond side grammar rule) grammar

start_is : (side : Side) (grammar : Grammar) (sizes : Sizes) (paths : List (List Bool)) → AllNamedKnown grammar → AreSizes grammar sizes → IsTableOf (length grammar.rules) (Reaches grammar) paths → (rule : ℕ) → is_start side sizes.greatest grammar.rules (reached_flags grammar paths) rule ≡ true → IsStart side grammar rule
start_is side grammar sizes paths named are table rule h =
    let flags = reached_flags grammar paths in
    let test = start_test side sizes.greatest rule in
    let it = at_any test (zip grammar.rules flags) (no_rule, false) h in
    let within : it.0 < length grammar.rules = omega (arith, it.1, length-zip grammar.rules flags) in
    let within' : it.0 < length flags = omega (arith, it.1, length-zip grammar.rules flags) in
    let P : rules.Rule × Bool → Type 0 = λ entry. test entry ≡ true in
    let here : test (get_or grammar.rules it.0 no_rule, get_or flags it.0 false) ≡ true = subst P (get_or-zip grammar.rules flags it.0 (no_rule, false) within within') it.2 in
    let parts = and_parts (get_or flags it.0 false) (is_start_in side sizes.greatest rule (alternatives_of grammar it.0)) here in
    let alternative = at_any (λ (a : Alt). is_named_beyond side sizes.greatest rule a.args) (alternatives_of grammar it.0) nothing parts.1 in (
      it.0,
      alternative.0,
      reached_is grammar paths table it.0 (sym (flag_is grammar paths it.0 (omega (arith, table.square.rows_are))) ∙ parts.0),
      alternative.1,
      beyond side grammar sizes are rule (arguments_of grammar it.0 alternative.0) (λ other contained. named it.0 alternative.0 other contained) alternative.2,
    )

is_start_so : (side : Side) (grammar : Grammar) (sizes : Sizes) (paths : List (List Bool)) → AllNamedKnown grammar → AreSizes grammar sizes → IsTableOf (length grammar.rules) (Reaches grammar) paths → (rule : ℕ) → IsStart side grammar rule → is_start side sizes.greatest grammar.rules (reached_flags grammar paths) rule ≡ true
is_start_so side grammar sizes paths named are table rule (from, alternative, is_reached_rule, l, h) =
    let flags = reached_flags grammar paths in
    let test = start_test side sizes.greatest rule in
    let within = in_range grammar from alternative l in
    let long : length flags ≡ length grammar.rules = length-map-range_with_len (is_reached grammar.axiom paths) 0 (length paths) ∙ table.square.rows_are in
    let flag : get_or flags from false ≡ true = flag_is grammar paths from (omega (arith, table.square.rows_are)) ∙ is_reached_so grammar paths table from is_reached_rule in
    let there : is_start_in side sizes.greatest rule (alternatives_of grammar from) ≡ true =
    any_at (λ (a : Alt). is_named_beyond side sizes.greatest rule a.args) (alternatives_of grammar from) alternative nothing l (is_beyond side grammar sizes are rule (arguments_of grammar from alternative) (λ other contained. named from alternative other contained) h) in
    let here : test (get_or grammar.rules from no_rule, get_or flags from false) ≡ true = and_from (get_or flags from false) (is_start_in side sizes.greatest rule (alternatives_of grammar from)) flag there in
    any_at test (zip grammar.rules flags) from (no_rule, false) (omega (arith, length-zip grammar.rules flags, long))
    (ap test (get_or-zip grammar.rules flags from (no_rule, false) within (omega (arith, long))) ∙ here)

-- ---- free rules

-- references lead from a start to the rule, or it is one
abbrev pub IsFree : Side → Grammar → ℕ → Type 0
IsFree side grammar rule = (start : ℕ) × IsStart side grammar start × ((start ≡ rule) ⊎ Reaches grammar start rule)

abbrev pub start_flags : Side → Grammar → Sizes → List (List Bool) → List Bool
start_flags side grammar sizes paths = map (is_start side sizes.greatest grammar.rules (reached_flags grammar paths)) (range_with_len 0 (length grammar.rules))

abbrev free_test : List (List Bool) → ℕ → ℕ × Bool → Bool
free_test paths rule entry = entry.1 && (entry.0 == rule || get_or (get_or paths entry.0 []) rule false)

entry_is : (flags : List Bool) (k : ℕ) → k < length flags → get_or (enumerate_from 0 flags) k (0, false) ≡ (k, get_or flags k false)
entry_is flags k l =
    let same : 0 + k ≡ k = omega arith in
    get_or-enumerate_from 0 flags k (0, false) l ∙ ap (λ (n : ℕ). (n, get_or flags k false)) same

free_is : (side : Side) (grammar : Grammar) (sizes : Sizes) (paths : List (List Bool)) → AllNamedKnown grammar → AreSizes grammar sizes → IsTableOf (length grammar.rules) (Reaches grammar) paths → (rule : ℕ) → is_free paths (start_flags side grammar sizes paths) rule ≡ true → IsFree side grammar rule
free_is side grammar sizes paths named are table rule h =
    let flags = start_flags side grammar sizes paths in
    let test = free_test paths rule in
    let long : length flags ≡ length grammar.rules = length-map-range_with_len (is_start side sizes.greatest grammar.rules (reached_flags grammar paths)) 0 (length grammar.rules) in
    let it = at_any test (enumerate_from 0 flags) (0, false) h in
    let within : it.0 < length flags = omega (arith, it.1, length-enumerate_from 0 flags) in
    let P : ℕ × Bool → Type 0 = λ entry. test entry ≡ true in
    let here : test (it.0, get_or flags it.0 false) ≡ true = subst P (entry_is flags it.0 within) it.2 in
    let parts = and_parts (get_or flags it.0 false) (it.0 == rule || get_or (get_or paths it.0 []) rule false) here in
    let flag : get_or flags it.0 false ≡ is_start side sizes.greatest grammar.rules (reached_flags grammar paths) it.0 = get_or-map-range_with_len (is_start side sizes.greatest grammar.rules (reached_flags grammar paths)) 0 (length grammar.rules) it.0 it.0 false (omega (arith, long)) (omega arith) in (
      it.0,
      start_is side grammar sizes paths named are table it.0 (sym flag ∙ parts.0),
      elim (or_cases (it.0 == rule) (get_or (get_or paths it.0 []) rule false) parts.1) as (λ _. (it.0 ≡ rule) ⊎ Reaches grammar it.0 rule) [
        | inl same ↦ inl (eqb-true it.0 rule same)
        | inr related ↦ inr (table.marked it.0 rule related)
      ],
    )

beyond_contains : (side : Side) (grammar : Grammar) (rule : ℕ) (arguments : List Arg) → IsNamedBeyond side grammar rule arguments → Contains arguments (Rule rule)
beyond_contains Left grammar rule arguments h = behind_contains grammar rule arguments h
beyond_contains Right grammar rule arguments h = before_contains grammar rule arguments h

is_free_so : (side : Side) (grammar : Grammar) (sizes : Sizes) (paths : List (List Bool)) → AllNamedKnown grammar → AreSizes grammar sizes → IsTableOf (length grammar.rules) (Reaches grammar) paths → (rule : ℕ) → IsFree side grammar rule → is_free paths (start_flags side grammar sizes paths) rule ≡ true
is_free_so side grammar sizes paths named are table rule (start, is_one, leads) =
    let flags = start_flags side grammar sizes paths in
    let test = free_test paths rule in
    let long : length flags ≡ length grammar.rules = length-map-range_with_len (is_start side sizes.greatest grammar.rules (reached_flags grammar paths)) 0 (length grammar.rules) in
    let within : start < length grammar.rules = named is_one.0 is_one.1 start (beyond_contains side grammar start (arguments_of grammar is_one.0 is_one.1) is_one.4) in
    let flag : get_or flags start false ≡ true =
    get_or-map-range_with_len (is_start side sizes.greatest grammar.rules (reached_flags grammar paths)) 0 (length grammar.rules) start start false within (omega arith)
    ∙ is_start_so side grammar sizes paths named are table start is_one in
    let either : (start == rule || get_or (get_or paths start []) rule false) ≡ true = elim leads [
      | inl same ↦ or_left (start == rule) (get_or (get_or paths start []) rule false) (eq-eqb start rule same)
      | inr reaches ↦ or_right (start == rule) (get_or (get_or paths start []) rule false) (table.all start rule reaches)
    ] in
    let inside : start < length flags = omega (arith, long) in
    any_at test (enumerate_from 0 flags) start (0, false) (omega (arith, length-enumerate_from 0 flags))
    (ap test (entry_is flags start inside) ∙ and_from (get_or flags start false) (start == rule || get_or (get_or paths start []) rule false) flag either)

abbrev pub anchored_flags : Side → Grammar → Sizes → List (List Bool) → List Bool
anchored_flags side grammar sizes paths = map (λ rule. not (is_free paths (start_flags side grammar sizes paths) rule)) (range_with_len 0 (length paths))

anchored_told : (side : Side) (grammar : Grammar) (sizes : Sizes) (paths : List (List Bool)) → AllNamedKnown grammar → AreSizes grammar sizes → IsTableOf (length grammar.rules) (Reaches grammar) paths → (rule : ℕ) → rule < length grammar.rules → MatchBool (get_or (anchored_flags side grammar sizes paths) rule false) (IsFree side grammar rule → ⊥) (IsFree side grammar rule)
anchored_told side grammar sizes paths named are table rule l =
    let test = is_free paths (start_flags side grammar sizes paths) rule in
    let P : Bool → Type 0 = λ flag. MatchBool flag (IsFree side grammar rule → ⊥) (IsFree side grammar rule) in
    let read = get_or-map-range_with_len (λ rule. not (is_free paths (start_flags side grammar sizes paths) rule)) 0 (length paths) rule rule false (omega (arith, table.square.rows_are)) (omega arith) in
    elim (cases_Bool test) [
      | inl free ↦ subst P (sym (read ∙ not_from_true test free)) (free_is side grammar sizes paths named are table rule free)
      | inr bound ↦ subst P (sym (read ∙ not_from_false test bound)) (λ it. false≢true (sym bound ∙ is_free_so side grammar sizes paths named are table rule it))
    ]

-- ---- left and right

left_along : (grammar : Grammar) (from to : ℕ) → IsReachedRule grammar from → IsLeftFree grammar from → Reaches grammar from to → IsLeftFree grammar to
left_along grammar _ _ is_reached_rule free (AtOnce from to names) = LeftOf from to is_reached_rule free names
left_along grammar _ _ is_reached_rule free (Through from between to names onward) = left_along grammar between to (Named from between is_reached_rule names) (LeftOf from between is_reached_rule free names) onward

left_free : (grammar : Grammar) (rule : ℕ) → IsFree Left grammar rule → IsLeftFree grammar rule
left_free grammar rule (start, is_one, inl same) = subst (IsLeftFree grammar) same (Behind start is_one)
left_free grammar rule (start, is_one, inr reaches) =
    left_along grammar start rule (Named is_one.0 start is_one.2 (is_one.1, is_one.3, behind_contains grammar start (arguments_of grammar is_one.0 is_one.1) is_one.4)) (Behind start is_one) reaches

free_left : (grammar : Grammar) (rule : ℕ) → IsLeftFree grammar rule → IsFree Left grammar rule
free_left grammar _ (Behind rule is_one) = (rule, is_one, inl refl)
free_left grammar _ (LeftOf rule other is_reached_rule free names) =
    let it = free_left grammar rule free in (
      it.0,
      it.1,
      elim it.2 as (λ _. (it.0 ≡ other) ⊎ Reaches grammar it.0 other) [
        | inl same ↦ let P : ℕ → Type 0 = λ r. Names grammar r other in inr (AtOnce it.0 other (subst P (sym same) names))
        | inr reaches ↦ inr (reaches_push grammar it.0 rule other reaches names)
      ],
    )

right_along : (grammar : Grammar) (from to : ℕ) → IsReachedRule grammar from → IsRightFree grammar from → Reaches grammar from to → IsRightFree grammar to
right_along grammar _ _ is_reached_rule free (AtOnce from to names) = RightOf from to is_reached_rule free names
right_along grammar _ _ is_reached_rule free (Through from between to names onward) = right_along grammar between to (Named from between is_reached_rule names) (RightOf from between is_reached_rule free names) onward

right_free : (grammar : Grammar) (rule : ℕ) → IsFree Right grammar rule → IsRightFree grammar rule
right_free grammar rule (start, is_one, inl same) = subst (IsRightFree grammar) same (Before start is_one)
right_free grammar rule (start, is_one, inr reaches) =
    right_along grammar start rule (Named is_one.0 start is_one.2 (is_one.1, is_one.3, before_contains grammar start (arguments_of grammar is_one.0 is_one.1) is_one.4)) (Before start is_one) reaches

free_right : (grammar : Grammar) (rule : ℕ) → IsRightFree grammar rule → IsFree Right grammar rule
free_right grammar _ (Before rule is_one) = (rule, is_one, inl refl)
free_right grammar _ (RightOf rule other is_reached_rule free names) =
    let it = free_right grammar rule free in (
      it.0,
      it.1,
      elim it.2 as (λ _. (it.0 ≡ other) ⊎ Reaches grammar it.0 other) [
        | inl same ↦ let P : ℕ → Type 0 = λ r. Names grammar r other in inr (AtOnce it.0 other (subst P (sym same) names))
        | inr reaches ↦ inr (reaches_push grammar it.0 rule other reaches names)
      ],
    )

match_same : (flag : Bool) (Free Other : Type 0) → (Free → Other) → (Other → Free) → MatchBool flag (Free → ⊥) Free → MatchBool flag (Other → ⊥) Other
match_same true Free Other there back h = λ other. h (back other)
match_same false Free Other there back h = there h

flags_long : (side : Side) (grammar : Grammar) (sizes : Sizes) (paths : List (List Bool)) → IsTableOf (length grammar.rules) (Reaches grammar) paths → length (anchored_flags side grammar sizes paths) ≡ length grammar.rules
flags_long side grammar sizes paths table = length-map-range_with_len (λ rule. not (is_free paths (start_flags side grammar sizes paths) rule)) 0 (length paths) ∙ table.square.rows_are

pub left_told : (grammar : Grammar) (sizes : Sizes) (paths : List (List Bool)) → AllNamedKnown grammar → AreSizes grammar sizes → IsTableOf (length grammar.rules) (Reaches grammar) paths → AreLeftAnchors grammar (anchored_flags Left grammar sizes paths)
left_told grammar sizes paths named are table = record {
  each = flags_long Left grammar sizes paths table;
  told = λ rule l. match_same (get_or (anchored_flags Left grammar sizes paths) rule false) (IsFree Left grammar rule) (IsLeftFree grammar rule) (left_free grammar rule) (free_left grammar rule) (anchored_told Left grammar sizes paths named are table rule l);
}

pub right_told : (grammar : Grammar) (sizes : Sizes) (paths : List (List Bool)) → AllNamedKnown grammar → AreSizes grammar sizes → IsTableOf (length grammar.rules) (Reaches grammar) paths → AreRightAnchors grammar (anchored_flags Right grammar sizes paths)
right_told grammar sizes paths named are table = record {
  each = flags_long Right grammar sizes paths table;
  told = λ rule l. match_same (get_or (anchored_flags Right grammar sizes paths) rule false) (IsFree Right grammar rule) (IsRightFree grammar rule) (right_free grammar rule) (free_right grammar rule) (anchored_told Right grammar sizes paths named are table rule l);
}

side_told : (side : Side) (grammar : Grammar) (sizes : Sizes) (paths : List (List Bool)) → AllNamedKnown grammar → AreSizes grammar sizes → IsTableOf (length grammar.rules) (Reaches grammar) paths → AreSideAnchors side grammar (anchored_flags side grammar sizes paths)
side_told Left grammar sizes paths named are table = left_told grammar sizes paths named are table
side_told Right grammar sizes paths named are table = right_told grammar sizes paths named are table

-- the flags as they are computed
pub side_computed : (side : Side) (grammar : Grammar) (sizes : Sizes) (paths : List (List Bool)) (greatest : List (Option ℕ)) (items : List rules.Rule) (reached starts starts' flags : List Bool) → AllNamedKnown grammar → AreSizes grammar sizes → IsTableOf (length grammar.rules) (Reaches grammar) paths
    → greatest ≡ sizes.greatest → items ≡ grammar.rules → reached ≡ reached_flags grammar paths → starts ≡ map (is_start side greatest items reached) (range_with_len 0 (length items)) → starts' ≡ starts → flags ≡ map (λ rule. not (is_free paths starts' rule)) (range_with_len 0 (length paths)) → AreSideAnchors side grammar flags
side_computed side grammar sizes paths greatest items reached starts starts' flags named are table greatest_is items_is reached_is starts_are same flags_are =
    let found : starts ≡ start_flags side grammar sizes paths =
    starts_are ∙ ap (λ (it : List (Option ℕ)). map (is_start side it items reached) (range_with_len 0 (length items))) greatest_is
    ∙ ap (λ (it : List rules.Rule). map (is_start side sizes.greatest it reached) (range_with_len 0 (length it))) items_is
    ∙ ap (λ (it : List Bool). map (is_start side sizes.greatest grammar.rules it) (range_with_len 0 (length grammar.rules))) reached_is in
    let P : List Bool → Type 0 = AreSideAnchors side grammar in
    subst P (sym (flags_are ∙ ap (λ (it : List Bool). map (λ rule. not (is_free paths it rule)) (range_with_len 0 (length paths))) (same ∙ found))) (side_told side grammar sizes paths named are table)
