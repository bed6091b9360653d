-- The names that the declarations of a text give, as the reader holds them, and what the tests of a line ask of them.
use Rattle.std.specs.Prelude.{◌≡◌, ℕ, Bool, true, false, not, ◌&&◌, ◌||◌, ◌==◌, nat_eq, nat_lt, if◌then◌else◌, Option, Some, None, is_some, List, [], ◌∷◌, length}
use Rattle.std.specs.List.{filter_map, find, list_all, position, zip}
use Rattle.std.specs.Option.{option_map, option_map_or, option_or}
use Rattle.std.specs.Borrow.{Bor}
use Rattle.std.specs.Ordering.{nat_cmp}
use Rattle.std.specs.Cmp.Lexicographic.{slice_cmp}
use Rattle.std.specs.BTreeMap.{BTreeMap, get_by}
use Rattle.std.specs.BTreeSet.{BTreeSet, contains_by}
use Rattle.adp_model.specs.declared.grammar.Kind.{Kind}
use lib.Pointwise.{pointwise}
use Rattle.job_texts.specs.TermText.{is_among}
use Rattle.job_texts.specs.LetTerms.{counted_leaves, has_variables}
use Rattle.job_texts.specs.Declarations.{Argument, Declaration, Sign, Algebra, Let, Rule}
use Rattle.job_texts.specs.DeclaredNames.{class_name_of, sign_name_of, algebra_name_of, rule_name_of, class_names, sign_names, rule_names, kinds_given, let_signs, since_algebra}
use Rattle.adp_model.specs.WellFormed.{most_leaves}
use Rattle.job_texts.specs.TextFaults.{Counted, counts_of, fits_kind, limited}
use Rattle.grammar_text.specs.declared.reader.names.Names.{Names}
use Rattle.grammar_text.specs.declared.reader.names.Sort.{Sort}
use Rattle.grammar_text.specs.declared.reader.names.Sort.TheVariants as sorts

-- the name that a declaration gives, where it is of this sort
abbrev pub name_as : Sort → Declaration → Option (List ℕ)
name_as sorts.Class declaration = class_name_of declaration
name_as sorts.Sign declaration = sign_name_of declaration
name_as sorts.Algebra declaration = algebra_name_of declaration
name_as sorts.Rule declaration = rule_name_of declaration

-- the names that the declarations of a sort give, in order
abbrev pub names_as : Sort → List Declaration → List (List ℕ)
names_as sort declared = filter_map (name_as sort) declared

-- the declaration is of this sort and gives this name
abbrev pub is_named : Sort → List ℕ → Declaration → Bool
is_named sort name declaration = option_map_or (λ other. pointwise nat_eq other name) (name_as sort declaration) false

-- the number that a map has for a name
abbrev pub number_in : BTreeMap (Bor (List ℕ)) ℕ → List ℕ → Option ℕ
number_in numbers name = get_by (λ key. slice_cmp nat_cmp name key.now) numbers

-- the new map has this number for this name, unless the old one has another; and else what the old one has
abbrev pub HasFirst : BTreeMap (Bor (List ℕ)) ℕ → BTreeMap (Bor (List ℕ)) ℕ → List ℕ → ℕ → Type 0
HasFirst old new name number =
    (asked : List ℕ) → number_in new asked
    ≡ option_or (number_in old asked) (if pointwise nat_eq asked name then Some number else None)

-- the map has the number of the first of these names that is the same
abbrev pub AreNumbers : BTreeMap (Bor (List ℕ)) ℕ → List (List ℕ) → Type 0
AreNumbers numbers names =
    (name : List ℕ) → number_in numbers name ≡ position (pointwise nat_eq name) names

-- the line declares the sign of this name
abbrev pub gives_kinds : List ℕ → Declaration → Bool
gives_kinds sign declaration = is_some (kinds_given sign declaration)

-- the map has the place of the first of these declarations that declares the sign
abbrev pub AreSignPlaces : BTreeMap (Bor (List ℕ)) ℕ → List Declaration → Type 0
AreSignPlaces places declared =
    (name : List ℕ) → number_in places name ≡ position (gives_kinds name) declared

-- the names are those that these declare
pub record AreNames (names : Names) (declared : List Declaration) : Type 0 where
  pub classes : AreNumbers names.classes (class_names declared)
  pub signs : AreNumbers names.signs (sign_names declared)
  pub rules : AreNumbers names.rules (rule_names declared)
  pub sign_places : AreSignPlaces names.sign_places declared

-- each variable of a `let`'s term is one of its variables; so for a line that is no `let`
abbrev pub declares_its_variables : Declaration → Bool
declares_its_variables (Let sign variables term) = has_variables variables term
declares_its_variables declaration = true

-- the kinds of a sign or the alternatives of a rule, counted
abbrev pub part_count : Declaration → ℕ
part_count (Sign name kinds) = length kinds
part_count (Rule name alternatives) = length alternatives
part_count declaration = 0

-- the first of these counts that passes its limit
abbrev pub first_passing : List Counted → Option ℕ
first_passing counts =
    option_map
    (λ (counted : Counted). counted.count)
    (find (λ (counted : Counted). nat_lt counted.limit counted.count) counts)

-- the leaves of a `let`'s term, with their limit
abbrev pub leaf_counts : Declaration → List Counted
leaf_counts (Let sign variables term) = limited (counted_leaves term) most_leaves ∷ []
leaf_counts declaration = []

-- the counts of a line, but for leaves of terms
abbrev pub line_counts : List Declaration → Declaration → List Counted
line_counts declared (Let sign variables term) = []
line_counts declared declaration = counts_of declared declaration

-- there is an argument for each of these kinds, and each fits its kind
abbrev pub fit_kinds : List Kind → List Argument → Bool
fit_kinds kinds arguments = length kinds == length arguments && list_all fits_kind (zip kinds arguments)

-- a `let` of the sign is misplaced below these
abbrev pub has_no_place : List Declaration → List ℕ → Bool
has_no_place above sign = option_map_or (λ section. is_among (let_signs section) sign) (since_algebra above) true

-- the same one line further down, from what it is above the line
abbrev pub has_no_place_behind : Bool → Declaration → List ℕ → Bool
has_no_place_behind misplaced (Algebra name goal) sign = false
has_no_place_behind misplaced (Let other variables term) sign = misplaced || pointwise nat_eq other sign
has_no_place_behind misplaced declaration sign = misplaced

-- the set has these texts and no others
abbrev pub AreMembers : BTreeSet (Bor (List ℕ)) → List (List ℕ) → Type 0
AreMembers members texts =
    (text : List ℕ) → contains_by (λ member. slice_cmp nat_cmp text member.now) members ≡ is_among texts text

-- the line declares a sign that the set lacks
abbrev pub lacks_sign : BTreeSet (Bor (List ℕ)) → Declaration → Bool
lacks_sign members (Sign name kinds) = not (contains_by (λ member. slice_cmp nat_cmp name member.now) members)
lacks_sign members declaration = false
