-- Well-formed grammars and jobs: names, numbers, indices and kinds fit together, and counts keep their limits.
use Rattle.std.specs.Prelude.{is_none, ℕ, ◌^◌, ◌<◌, ◌≤◌, ℤ, pos, nat_abs, int_le, Bool, true, false, ◌&&◌, ◌||◌, not, nat_eq, nat_lt, nat_le, ◌==◌, Option, Some, None, IfSome, List, [], ◌∷◌, length, map}
use Rattle.std.specs.List.{list_all, list_any, zip}
use Rattle.adp_model.specs.Ascii.{capital_a, capital_z, digit_nine, digit_zero, small_a, small_z, underscore}
use lib.Pointwise.{pointwise}
use Rattle.adp_model.specs.declared.grammar.Class.{Class}
use Rattle.adp_model.specs.declared.grammar.Kind.{Kind}
use Rattle.adp_model.specs.declared.grammar.Kind.TheVariants.{Score, Token}
use Rattle.adp_model.specs.declared.grammar.Sign.{Sign}
use Rattle.adp_model.specs.declared.grammar.Linear as linear
use Rattle.adp_model.specs.WideForm as wide
use Rattle.adp_model.specs.WideForm.{Number, Value}
use Rattle.adp_model.specs.declared.grammar.Term.{Term}
use Rattle.adp_model.specs.declared.grammar.Term.TheVariants.{Linear, Wide}
use Rattle.adp_model.specs.declared.grammar.Algebra.{Algebra}
use Rattle.adp_model.specs.declared.grammar.Arg.{Arg}
use Rattle.adp_model.specs.declared.grammar.Arg.TheVariants.{Rule, Literal, Letter, Run}
use Rattle.adp_model.specs.declared.grammar.Alt.{Alt}
use Rattle.adp_model.specs.declared.grammar.Size.{Size}
use Rattle.adp_model.specs.declared.grammar.Rule as rules
use Rattle.adp_model.specs.declared.grammar.Grammar.{Grammar}
use Rattle.adp_model.specs.Printable.{is_printable_byte}
use Rattle.adp_model.specs.Lengths.{low_of, high_of}
use Rattle.adp_model.specs.Terms.{leaves}
use Rattle.adp_model.specs.Parts.{sign_at}

abbrev pub is_letter_byte : ℕ → Bool
is_letter_byte byte = (nat_le capital_a byte && nat_le byte capital_z) || (nat_le small_a byte && nat_le byte small_z)

-- a letter, a digit or `_`
abbrev pub is_word_byte : ℕ → Bool
is_word_byte byte = is_letter_byte byte || (nat_le digit_zero byte && nat_le byte digit_nine) || byte == underscore

-- a letter, then at most 31 letters, digits or `_`
abbrev pub is_name : List ℕ → Bool
is_name [] = false
is_name (first ∷ others) = is_letter_byte first && list_all is_word_byte others && nat_le (length others) 31

-- no text stands twice
abbrev pub are_distinct : List (List ℕ) → Bool
are_distinct [] = true
are_distinct (text ∷ texts) = not (list_any (pointwise nat_eq text) texts) && are_distinct texts

-- no letter stands twice
abbrev pub letters_are_distinct : List (ℕ × ℤ) → Bool
letters_are_distinct [] = true
letters_are_distinct (entry ∷ entries) =
    not (list_any (λ other. entry.0 == other.0) entries) && letters_are_distinct entries

-- from -(2^62 - 1) to 2^62 - 1
abbrev pub is_in_range : ℤ → Bool
is_in_range number = nat_lt (nat_abs number) (2 ^ 62)

-- a printable letter with a weight in range
abbrev pub is_entry : ℕ × ℤ → Bool
is_entry entry = is_printable_byte entry.0 && is_in_range entry.1

abbrev pub is_class : Class → Bool
is_class class =
    is_name class.name && nat_le 1 (length class.letters) && list_all is_entry class.letters
    && letters_are_distinct class.letters

abbrev pub is_sign : Sign → Bool
is_sign sign = is_name sign.name && nat_le 1 (length sign.kinds) && nat_le (length sign.kinds) 4

-- a linear term for so many arguments: a factor for each, all numbers in range
abbrev pub is_linear : ℕ → linear.Linear → Bool
is_linear count term =
    is_in_range term.constant && list_all is_in_range term.factors && length term.factors == count

-- a leaf of a wide term for so many arguments: a number in range that is not negative, or the value of one of them
abbrev pub is_leaf : ℕ → wide.WideForm → Bool
is_leaf count (Number number) = int_le (pos 0) number && is_in_range number
is_leaf count (Value place) = nat_lt place count
is_leaf count term = false

-- both are the value of one argument
abbrev pub is_same_value : wide.WideForm → wide.WideForm → Bool
is_same_value (Value place) (Value other) = place == other
is_same_value leaf other = false

-- no value stands in both
abbrev pub are_apart : List wide.WideForm → List wide.WideForm → Bool
are_apart leaves others = list_all (λ leaf. not (list_any (is_same_value leaf) others)) leaves

-- no value stands twice
abbrev pub has_no_value_twice : List wide.WideForm → Bool
has_no_value_twice [] = true
has_no_value_twice (leaf ∷ leaves) = not (list_any (is_same_value leaf) leaves) && has_no_value_twice leaves

-- a wide term has at most this many leaves
abbrev pub most_leaves : ℕ
most_leaves = 32

-- a wide term for so many arguments: few leaves, all of them right, and no value twice
abbrev pub is_wide : ℕ → wide.WideForm → Bool
is_wide count term =
    nat_le (length (leaves term)) most_leaves && list_all (is_leaf count) (leaves term)
    && has_no_value_twice (leaves term)

-- a term for so many arguments
abbrev pub is_term_for : ℕ → Term → Bool
is_term_for count (Linear term) = is_linear count term
is_term_for count (Wide term) = is_wide count term

-- a term for a sign
abbrev pub is_term : Sign × Term → Bool
is_term entry = is_term_for (length entry.0.kinds) entry.1

abbrev pub is_algebra : List Sign → Algebra → Bool
is_algebra signs algebra =
    is_name algebra.name && length algebra.terms == length signs && list_all is_term (zip signs algebra.terms)

-- the greatest bound of a run
abbrev pub greatest_bound : ℕ
greatest_bound = 1000000

-- at most the greatest bound, and not fewer than the low bound
abbrev pub is_high_bound : ℕ → Option ℕ → Bool
is_high_bound low None = true
is_high_bound low (Some high) = nat_le low high && nat_le high greatest_bound

-- an argument of this kind, with its rule or class in the grammar
abbrev pub is_argument : Grammar → Kind × Arg → Bool
is_argument grammar entry = fits entry.0 entry.1
  where
    fits : Kind → Arg → Bool
    fits Score (Rule rule) = nat_lt rule (length grammar.rules)
    fits Score token = false
    fits Token (Rule rule) = false
    fits Token (Literal text) = list_all is_printable_byte text
    fits Token (Letter class) = nat_lt class (length grammar.classes)
    fits Token (Run class low high) =
        nat_lt class (length grammar.classes) && nat_le low greatest_bound && is_high_bound low high

-- the argument's rule or class is one of the grammar's
abbrev pub IsKnown : Grammar → Arg → Type 0
IsKnown grammar (Rule rule) = rule < length grammar.rules
IsKnown grammar (Literal text) = Unit {0}
IsKnown grammar (Letter class) = class < length grammar.classes
IsKnown grammar (Run class low high) = class < length grammar.classes

-- the bounds of the lengths that an alternative allows
abbrev pub is_size : Option Size → Bool
is_size None = true
is_size (Some size) = nat_le size.low greatest_bound && is_high_bound size.low size.high

-- the bounds of the lengths that the alternative allows are in order, and not above the greatest bound
abbrev pub HasFittingBounds : Alt → Type 0
HasFittingBounds alternative =
    (low_of alternative.size ≤ greatest_bound)
    × IfSome (high_of alternative.size) (λ high. (low_of alternative.size ≤ high) × (high ≤ greatest_bound))

abbrev pub is_alternative : Grammar → Alt → Bool
is_alternative grammar alternative =
    is_size alternative.size && nat_lt alternative.sign (length grammar.signs)
    && length alternative.args == length (sign_at grammar alternative.sign).kinds
    && list_all (is_argument grammar) (zip (sign_at grammar alternative.sign).kinds alternative.args)

abbrev pub is_rule : Grammar → rules.Rule → Bool
is_rule grammar rule =
    is_name rule.name && nat_le 1 (length rule.alts) && nat_le (length rule.alts) 64
    && list_all (is_alternative grammar) rule.alts

-- the counts keep their limits
abbrev pub counts_fit : Grammar → Bool
counts_fit grammar =
    nat_le (length grammar.classes) 64 && nat_le (length grammar.signs) 256
    && nat_le 1 (length grammar.algebras) && nat_le (length grammar.algebras) 16
    && nat_le (length grammar.rules) 128 && nat_lt grammar.axiom (length grammar.rules)

-- the names of each sort differ
abbrev pub names_differ : Grammar → Bool
names_differ grammar =
    are_distinct (map (λ (class : Class). class.name) grammar.classes)
    && are_distinct (map (λ (sign : Sign). sign.name) grammar.signs)
    && are_distinct (map (λ (algebra : Algebra). algebra.name) grammar.algebras)
    && are_distinct (map (λ (rule : rules.Rule). rule.name) grammar.rules)

-- each part is well-formed
abbrev pub parts_fit : Grammar → Bool
parts_fit grammar =
    list_all is_class grammar.classes && list_all is_sign grammar.signs
    && list_all (is_algebra grammar.signs) grammar.algebras
    && list_all (is_rule grammar) grammar.rules

abbrev pub is_well_formed : Grammar → Bool
is_well_formed grammar = counts_fit grammar && names_differ grammar && parts_fit grammar

-- all terms of all algebras are linear
abbrev pub has_linear_terms : Grammar → Bool
has_linear_terms grammar = list_all (λ (algebra : Algebra). list_all is_of_linear_form algebra.terms) grammar.algebras
  where
    is_of_linear_form : Term → Bool
    is_of_linear_form (Linear term) = true
    is_of_linear_form (Wide term) = false

-- all terms of all algebras are wide
abbrev pub has_wide_terms : Grammar → Bool
has_wide_terms grammar = list_all (λ (algebra : Algebra). list_all is_of_wide_form algebra.terms) grammar.algebras
  where
    is_of_wide_form : Term → Bool
    is_of_wide_form (Linear term) = false
    is_of_wide_form (Wide term) = true

-- no alternative has a size
abbrev pub has_no_sizes : Grammar → Bool
has_no_sizes grammar = list_all (λ (rule : rules.Rule). list_all (λ (alternative : Alt). is_none alternative.size) rule.alts) grammar.rules

-- the grammar is one of this format: the first has linear terms and no sizes, the second wide terms
abbrev pub is_of_version : ℕ → Grammar → Bool
is_of_version version grammar =
    (version == 1 && has_linear_terms grammar && has_no_sizes grammar) || (version == 2 && has_wide_terms grammar)
