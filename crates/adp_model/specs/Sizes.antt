-- Sizes of a rule: the least of its lengths, where it has one, and how long it can be at most.
use Rattle.std.specs.Prelude.{◌≡◌, ℕ, ◌+◌, ◌<◌, ◌≤◌, min, max, nat_le, if◌then◌else◌, Option, Some, None, IfSome, List, [], ◌∷◌, length, slice_index, slice_index_or}
use Rattle.std.specs.List.{Contains}
use Rattle.adp_model.specs.declared.grammar.Arg.{Arg}
use Rattle.adp_model.specs.declared.grammar.Arg.TheVariants.{Rule, Literal, Letter, Run}
use Rattle.adp_model.specs.declared.grammar.Alt.{Alt}
use Rattle.adp_model.specs.declared.grammar.Grammar.{Grammar}
use Rattle.adp_model.specs.Parts.{alternatives_of, arguments_of}
use Rattle.adp_model.specs.Lengths.{low_of, high_of, HasLength}

-- an alternative of the rule names the other rule
abbrev pub Names : Grammar → ℕ → ℕ → Type 0
Names grammar rule other =
    (alternative : ℕ) × (alternative < length (alternatives_of grammar rule))
    × Contains (arguments_of grammar rule alternative) (Rule other)

-- ---- least sizes

-- least sizes above this number count as this number
abbrev pub greatest_kept : ℕ
greatest_kept = 4294967295

-- the least size of the rule
abbrev pub IsLeastSize : Grammar → ℕ → ℕ → Type 0
IsLeastSize grammar rule size =
    (least : ℕ) × HasLength grammar rule least × ((len : ℕ) → HasLength grammar rule len → least ≤ len)
    × (size ≡ min least greatest_kept)

-- ---- greatest sizes: nothing stands for unbounded

-- greatest sizes above this number count as unbounded
abbrev pub greatest_bounded : ℕ
greatest_bounded = 4000

-- the sum of two lengths; unbounded where one of them is
abbrev pub sum_of : Option ℕ → Option ℕ → Option ℕ
sum_of None other = None
sum_of (Some len) None = None
sum_of (Some len) (Some other) = Some (len + other)

-- the greater of two lengths
abbrev pub greater_of : Option ℕ → Option ℕ → Option ℕ
greater_of None other = None
greater_of (Some len) None = None
greater_of (Some len) (Some other) = Some (max len other)

-- a length, cut to a high bound where there is one
abbrev pub cut_to : Option ℕ → Option ℕ → Option ℕ
cut_to None len = len
cut_to (Some most) None = Some most
cut_to (Some most) (Some len) = Some (min len most)

-- the greatest length of an argument, where the rules have these greatest sizes
abbrev pub greatest_of : List (Option ℕ) → Arg → Option ℕ
greatest_of sizes (Rule rule) = slice_index_or sizes rule None
greatest_of sizes (Literal text) = Some (length text)
greatest_of sizes (Letter class) = Some 1
greatest_of sizes (Run class low high) = high

-- the greatest lengths of arguments, added up
abbrev pub greatest_sum : List (Option ℕ) → List Arg → Option ℕ
greatest_sum sizes [] = Some 0
greatest_sum sizes (argument ∷ arguments) = sum_of (greatest_of sizes argument) (greatest_sum sizes arguments)

-- the greatest over alternatives of these sums, each cut to the alternative's high bound
abbrev pub greatest_among : List (Option ℕ) → List Alt → Option ℕ
greatest_among sizes [] = Some 0
greatest_among sizes (alternative ∷ alternatives) =
    greater_of (cut_to (high_of alternative.size) (greatest_sum sizes alternative.args)) (greatest_among sizes alternatives)

-- what a greatest length counts as
abbrev pub bounded : Option ℕ → Option ℕ
bounded None = None
bounded (Some len) = if nat_le len greatest_bounded then Some len else None

-- the greatest size of each rule is what these sizes make of its alternatives
pub record AreStableSizes (grammar : Grammar) (sizes : List (Option ℕ)) : Type 0 where
  pub each : length sizes ≡ length grammar.rules
  pub stable : (rule : ℕ) → rule < length grammar.rules
      → slice_index_or sizes rule None ≡ bounded (greatest_among sizes (alternatives_of grammar rule))

-- at most as great
abbrev pub IsUpTo : Option ℕ → Option ℕ → Type 0
IsUpTo size None = Unit {0}
IsUpTo None (Some other) = ⊥
IsUpTo (Some size) (Some other) = size ≤ other

-- the greatest sizes of all rules: the least of such sizes
pub record AreGreatestSizes (grammar : Grammar) (sizes : List (Option ℕ)) : Type 0 where
  pub are : AreStableSizes grammar sizes
  pub least : (others : List (Option ℕ)) → AreStableSizes grammar others → (rule : ℕ) → rule < length grammar.rules
      → IsUpTo (slice_index_or sizes rule None) (slice_index_or others rule None)

-- the greatest size of the rule; nothing where it is unbounded
abbrev pub IsGreatestSize : Grammar → ℕ → Option ℕ → Type 0
IsGreatestSize grammar rule size =
    (sizes : List (Option ℕ)) × AreGreatestSizes grammar sizes × (rule < length grammar.rules)
    × (size ≡ slice_index_or sizes rule None)

-- the lists have the sizes of all rules
pub record AreSizesOf (grammar : Grammar) (least : List ℕ) (greatest : List (Option ℕ)) : Type 0 where
  pub least_each : length least ≡ length grammar.rules
  pub least_are : (rule : ℕ) → rule < length grammar.rules → IsLeastSize grammar rule (slice_index least rule)
  pub greatest_are : AreGreatestSizes grammar greatest

-- ---- lengths within sizes

-- the length lies between the rule's sizes
abbrev pub IsWithinSizes : Grammar → ℕ → ℕ → Type 0
IsWithinSizes grammar rule len =
    (least : ℕ) × (greatest : Option ℕ) × IsLeastSize grammar rule least × IsGreatestSize grammar rule greatest
    × (least ≤ len) × IfSome greatest (λ most. len ≤ most)

-- the same by numbers: the length lies between those that two lists, of least and of greatest sizes, have for the rule
abbrev pub IsBetween : List ℕ → List (Option ℕ) → ℕ → ℕ → Type 0
IsBetween least greatest rule len =
    (slice_index least rule ≤ len) × IfSome (slice_index_or greatest rule None) (λ most. len ≤ most)

-- ---- alternatives that no length fits

-- the least length of an argument, where the rules have these least sizes
abbrev pub least_of : List ℕ → Arg → ℕ
least_of sizes (Rule rule) = slice_index sizes rule
least_of sizes (Literal text) = length text
least_of sizes (Letter class) = 1
least_of sizes (Run class low high) = low

-- the least lengths of arguments, added up
abbrev pub least_sum : List ℕ → List Arg → ℕ
least_sum sizes [] = 0
least_sum sizes (argument ∷ arguments) = least_of sizes argument + least_sum sizes arguments

-- the alternative is possible, where the rules have these sizes: the sum of its arguments' least sizes is not above its
-- high bound, nor the sum of their greatest sizes below its low bound
abbrev pub IsPossible : List ℕ → List (Option ℕ) → Alt → Type 0
IsPossible least greatest alternative =
    IfSome (high_of alternative.size) (λ most. least_sum least alternative.args ≤ most)
    × IfSome (greatest_sum greatest alternative.args) (λ sum. low_of alternative.size ≤ sum)
