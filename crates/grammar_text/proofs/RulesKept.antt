-- The rules and the axiom of a text without a fault: numbers of what is there, arguments of their kinds, bounds in order.
use Rattle.std.proofs.Common.{◌≡◌, ℕ, Bool, true, false, cond, ◌&&◌, not, nat_lt, nat_le, ◌==◌, Option, Some, None, IfSome, unwrap_or, List, [], ◌∷◌, length, map, refl, sym, ◌∙◌, subst, arith, eqb-true}
use Rattle.std.specs.List.{list_all, list_any, filter_map, zip, AllByRecursion}
use Rattle.std.specs.Option.{option_and_then, option_map, option_map_or}
use Rattle.std.specs.Str.{all_ascii_digits}
use Rattle.std.specs.Str.Parse.{digits_value}
use Rattle.std.proofs.lemmas.Bool.{and_parts, and_from, or_parts, not-false, lt-ltb, le-leb, eq-eqb, ltb-false}
use Rattle.std.proofs.lemmas.List.{length-map}
use Rattle.adp_model.specs.declared.grammar.Kind.{Kind}
use Rattle.adp_model.specs.declared.grammar.Kind.TheVariants as kinds
use Rattle.adp_model.specs.declared.grammar.Grammar.{Grammar}
use Rattle.adp_model.specs.Parts.{sign_at}
use Rattle.adp_model.specs.WellFormed.{is_high_bound, is_argument, is_alternative, is_size}
use Rattle.job_texts.specs.TermText.{is_among}
use Rattle.job_texts.specs.Declarations.{Argument, Named, Spelled, OneOf, RunOf, SizeWords, Alternative, Declaration, Class, Sign, Algebra, Let, Rule, Axiom, Words}
use Rattle.job_texts.specs.DeclaredNames.{class_names, sign_names, rule_names, kinds_of_sign, first_of_list}
use Rattle.job_texts.specs.TextFaults.{bound_of, fits_kind, fits_sign, is_unknown_argument, is_unknown_alternative, are_crossed, has_crossed_bounds, is_axiom_line, is_crossed_alternative, uses_unknown}
use Rattle.job_texts.specs.JobText.{number_among, argument_of, alternative_of, axiom_name, size_of}
use Rattle.grammar_text.proofs.Sorts.{number_within}
use Rattle.grammar_text.specs.Building.{is_printable_argument, is_printable_alternative}

-- what a grammar has of the names that lines declare
pub record HasNames (all : List Declaration) (grammar : Grammar) : Type 0 where
  pub classes : length grammar.classes ≡ length (class_names all)
  pub signs : length grammar.signs ≡ length (sign_names all)
  pub rules : length grammar.rules ≡ length (rule_names all)
  pub sign_kinds : (name : List ℕ) → is_among (sign_names all) name ≡ true → (kinds : List Kind) × (kinds_of_sign all name ≡ Some kinds) × ((sign_at grammar (number_among (sign_names all) name)).kinds ≡ kinds)

number_known : (names : List (List ℕ)) (name : List ℕ) (count : ℕ) → count ≡ length names → not (is_among names name) ≡ false → nat_lt (number_among names name) count ≡ true
number_known names name count e h =
    let within = number_within names name (not-false (is_among names name) h) in
    lt-ltb (number_among names name) count (omega arith)

-- ---- bounds

small_if : (b small : Bool) (n : ℕ) → nat_le n 1000000 ≡ small → IfSome (cond (b && small) (Some n) None) (λ m. nat_le m 1000000 ≡ true)
small_if true true n h = h
small_if true false n h = tt
small_if false small n h = tt

bound_small : (word : List ℕ) → IfSome (bound_of word) (λ n. nat_le n 1000000 ≡ true)
bound_small word = small_if (all_ascii_digits word) (nat_le (digits_value 10 word) 1000000) (digits_value 10 word) refl

low_fits : (low : Option ℕ) → IfSome low (λ n. nat_le n 1000000 ≡ true) → nat_le (unwrap_or low 0) 1000000 ≡ true
low_fits None h = refl
low_fits (Some low) h = h

abbrev crossed : Option ℕ → Option ℕ → Bool
crossed low high = option_map_or (λ least. option_map_or (λ most. nat_lt most least) high false) low false

high_fits : (low high : Option ℕ) → IfSome high (λ n. nat_le n 1000000 ≡ true) → crossed low high ≡ false → is_high_bound (unwrap_or low 0) high ≡ true
high_fits low None h k = refl
high_fits None (Some high) h k = and_from (nat_le 0 high) (nat_le high 1000000) (le-leb 0 high (omega arith)) h
high_fits (Some low) (Some high) h k = and_from (nat_le low high) (nat_le high 1000000) (le-leb low high (ltb-false high low k)) h

-- ---- arguments

argument_fits : (all : List Declaration) (grammar : Grammar) → HasNames all grammar → (kind : Kind) (argument : Argument) → fits_kind (kind, argument) ≡ true → is_unknown_argument all argument ≡ false
    → has_crossed_bounds argument ≡ false → is_printable_argument argument ≡ true → is_argument grammar (kind, argument_of all argument) ≡ true
argument_fits all grammar has kinds.Score (Named rule) fits known ordered printable = number_known (rule_names all) rule (length grammar.rules) has.rules known
argument_fits all grammar has kinds.Score (Spelled letters) fits known ordered printable = absurd cc
argument_fits all grammar has kinds.Score (OneOf class) fits known ordered printable = absurd cc
argument_fits all grammar has kinds.Score (RunOf class low high) fits known ordered printable = absurd cc
argument_fits all grammar has kinds.Token (Named rule) fits known ordered printable = absurd cc
argument_fits all grammar has kinds.Token (Spelled letters) fits known ordered printable = printable
argument_fits all grammar has kinds.Token (OneOf class) fits known ordered printable = number_known (class_names all) class (length grammar.classes) has.classes known
argument_fits all grammar has kinds.Token (RunOf class low None) fits known ordered printable =
    let number : nat_lt (number_among (class_names all) class) (length grammar.classes) ≡ true = number_known (class_names all) class (length grammar.classes) has.classes known in
    rw (number, low_fits (bound_of low) (bound_small low)) refl
argument_fits all grammar has kinds.Token (RunOf class low (Some high)) fits known ordered printable =
    let number : nat_lt (number_among (class_names all) class) (length grammar.classes) ≡ true = number_known (class_names all) class (length grammar.classes) has.classes known in
    and_from (nat_lt (number_among (class_names all) class) (length grammar.classes) && nat_le (unwrap_or (bound_of low) 0) 1000000) (is_high_bound (unwrap_or (bound_of low) 0) (bound_of high))
    (and_from (nat_lt (number_among (class_names all) class) (length grammar.classes)) (nat_le (unwrap_or (bound_of low) 0) 1000000) number (low_fits (bound_of low) (bound_small low)))
    (high_fits (bound_of low) (bound_of high) (bound_small high) ordered)

arguments_fit : (all : List Declaration) (grammar : Grammar) → HasNames all grammar → (of : List Kind) (arguments : List Argument) → list_all fits_kind (zip of arguments) ≡ true → list_any (is_unknown_argument all) arguments ≡ false
    → list_any has_crossed_bounds arguments ≡ false → list_all is_printable_argument arguments ≡ true → list_all (is_argument grammar) (zip of (map (argument_of all) arguments)) ≡ true
arguments_fit all grammar has [] arguments fits known ordered printable = refl
arguments_fit all grammar has (kind ∷ of) [] fits known ordered printable = refl
arguments_fit all grammar has (kind ∷ of) (argument ∷ arguments) fits known ordered printable =
    let fit = and_parts (fits_kind (kind, argument)) (list_all fits_kind (zip of arguments)) fits in
    let knows = or_parts (is_unknown_argument all argument) (list_any (is_unknown_argument all) arguments) known in
    let order = or_parts (has_crossed_bounds argument) (list_any has_crossed_bounds arguments) ordered in
    let print = and_parts (is_printable_argument argument) (list_all is_printable_argument arguments) printable in
    and_from (is_argument grammar (kind, argument_of all argument)) (list_all (is_argument grammar) (zip of (map (argument_of all) arguments)))
    (argument_fits all grammar has kind argument fit.0 knows.0 order.0 print.0) (arguments_fit all grammar has of arguments fit.1 knows.1 order.1 print.1)

-- ---- alternatives

-- the bounds of a size
size_fits : (size : Option SizeWords) → option_map_or (λ (size : SizeWords). are_crossed size.low size.high) size false ≡ false → is_size (option_map size_of size) ≡ true
size_fits None ordered = refl
size_fits (Some size) ordered = at_high size.low size.high ordered
  where
    at_high : (low : List ℕ) (high : Option (List ℕ)) → are_crossed low high ≡ false
        → (nat_le (unwrap_or (bound_of low) 0) 1000000 && is_high_bound (unwrap_or (bound_of low) 0) (option_and_then bound_of high)) ≡ true
    at_high low None ordered = rw (low_fits (bound_of low) (bound_small low)) refl
    at_high low (Some high) ordered =
        and_from (nat_le (unwrap_or (bound_of low) 0) 1000000) (is_high_bound (unwrap_or (bound_of low) 0) (bound_of high)) (low_fits (bound_of low) (bound_small low)) (high_fits (bound_of low) (bound_of high) (bound_small high) ordered)

alternative_fits : (all : List Declaration) (grammar : Grammar) → HasNames all grammar → (alternative : Alternative) → is_unknown_alternative all alternative ≡ false → fits_sign all alternative ≡ true
    → is_crossed_alternative alternative ≡ false → is_printable_alternative alternative ≡ true → is_alternative grammar (alternative_of all alternative) ≡ true
alternative_fits all grammar has alternative known fits ordered printable =
    let knows = or_parts (not (is_among (sign_names all) alternative.sign)) (list_any (is_unknown_argument all) alternative.arguments) known in
    let order = or_parts (list_any has_crossed_bounds alternative.arguments) (option_map_or (λ (size : SizeWords). are_crossed size.low size.high) alternative.size false) ordered in
    let sized : is_size (option_map size_of alternative.size) ≡ true = size_fits alternative.size order.1 in
    let its = has.sign_kinds alternative.sign (not-false (is_among (sign_names all) alternative.sign) knows.0) in
    let number = number_among (sign_names all) alternative.sign in
    let fit : (length its.0 == length alternative.arguments && list_all fits_kind (zip its.0 alternative.arguments)) ≡ true =
    subst (λ o. option_map_or (λ (k : List Kind). length k == length alternative.arguments && list_all fits_kind (zip k alternative.arguments)) o true ≡ true) its.1 fits in
    let parts = and_parts (length its.0 == length alternative.arguments) (list_all fits_kind (zip its.0 alternative.arguments)) fit in
    let counted : length (map (argument_of all) alternative.arguments) ≡ length its.0 = length-map alternative.arguments (argument_of all) ∙ sym (eqb-true (length its.0) (length alternative.arguments) parts.0) in
    let good : (is_size (option_map size_of alternative.size) && nat_lt number (length grammar.signs) && length (map (argument_of all) alternative.arguments) == length its.0 && list_all (is_argument grammar) (zip its.0 (map (argument_of all) alternative.arguments))) ≡ true =
    and_from (is_size (option_map size_of alternative.size) && nat_lt number (length grammar.signs) && length (map (argument_of all) alternative.arguments) == length its.0) (list_all (is_argument grammar) (zip its.0 (map (argument_of all) alternative.arguments)))
    (and_from (is_size (option_map size_of alternative.size) && nat_lt number (length grammar.signs)) (length (map (argument_of all) alternative.arguments) == length its.0) (and_from (is_size (option_map size_of alternative.size)) (nat_lt number (length grammar.signs)) sized (number_known (sign_names all) alternative.sign (length grammar.signs) has.signs knows.0)) (eq-eqb (length (map (argument_of all) alternative.arguments)) (length its.0) counted))
    (arguments_fit all grammar has its.0 alternative.arguments parts.1 knows.1 order.0 printable) in
    subst (λ (k : List Kind). (is_size (option_map size_of alternative.size) && nat_lt number (length grammar.signs) && length (map (argument_of all) alternative.arguments) == length k && list_all (is_argument grammar) (zip k (map (argument_of all) alternative.arguments))) ≡ true) (sym its.2) good

pub alternatives_fit : (all : List Declaration) (grammar : Grammar) → HasNames all grammar → (alternatives : List Alternative) → list_any (is_unknown_alternative all) alternatives ≡ false → list_all (fits_sign all) alternatives ≡ true
    → list_any is_crossed_alternative alternatives ≡ false → list_all is_printable_alternative alternatives ≡ true → list_all (is_alternative grammar) (map (alternative_of all) alternatives) ≡ true
alternatives_fit all grammar has [] known fits ordered printable = refl
alternatives_fit all grammar has (alternative ∷ alternatives) known fits ordered printable =
    let knows = or_parts (is_unknown_alternative all alternative) (list_any (is_unknown_alternative all) alternatives) known in
    let fit = and_parts (fits_sign all alternative) (list_all (fits_sign all) alternatives) fits in
    let order = or_parts (is_crossed_alternative alternative) (list_any is_crossed_alternative alternatives) ordered in
    let print = and_parts (is_printable_alternative alternative) (list_all is_printable_alternative alternatives) printable in
    and_from (is_alternative grammar (alternative_of all alternative)) (list_all (is_alternative grammar) (map (alternative_of all) alternatives))
    (alternative_fits all grammar has alternative knows.0 fit.0 order.0 print.0) (alternatives_fit all grammar has alternatives knows.1 fit.1 order.1 print.1)

-- ---- the axiom

abbrev axiom_of : List Declaration → List ℕ
axiom_of declared = unwrap_or (first_of_list (filter_map axiom_name declared)) []

pub axiom_known : (all declared : List Declaration) → AllByRecursion (λ d. uses_unknown all d ≡ false) declared → list_any is_axiom_line declared ≡ true → is_among (rule_names all) (axiom_of declared) ≡ true
axiom_known all [] known h = absurd cc
axiom_known all (Axiom rule ∷ declared) known h = not-false (is_among (rule_names all) rule) known.0
axiom_known all (Class name items ∷ declared) known h = axiom_known all declared known.1 h
axiom_known all (Sign name kinds ∷ declared) known h = axiom_known all declared known.1 h
axiom_known all (Algebra name goal ∷ declared) known h = axiom_known all declared known.1 h
axiom_known all (Let name variables term ∷ declared) known h = axiom_known all declared known.1 h
axiom_known all (Rule name alternatives ∷ declared) known h = axiom_known all declared known.1 h
axiom_known all (Words ∷ declared) known h = axiom_known all declared known.1 h
