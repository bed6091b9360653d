-- Least lengths of rules as far as they are known, and what they tell of an alternative and of a rule. Each number is cut
-- at a greatest one.
use Rattle.std.specs.Prelude.{◌≡◌, ℕ, ◌+◌, ◌<◌, min, max, nat_le, if◌then◌else◌, Bool, true, false, Option, Some, None, MatchOption, MatchBool, List, length, fold, sum_by, slice_index_or}
use Rattle.adp_model.specs.declared.grammar.Arg.{Arg}
use Rattle.adp_model.specs.declared.grammar.Arg.TheVariants.{Rule, Literal, Letter, Run}
use Rattle.adp_model.specs.declared.grammar.Alt.{Alt}
use Rattle.adp_model.specs.declared.grammar.Size.{Size}
use Rattle.adp_model.specs.declared.grammar.Grammar.{Grammar}
use Rattle.adp_model.specs.Parts.{alternatives_of}
use Rattle.adp_model.specs.Lengths.{low_of, high_of, IsProductive, HasLength}
use Rattle.adp_model.specs.Sizes.{IsLeastSize}

-- the sum of two lengths, where both are known
abbrev pub added : ℕ → Option ℕ → Option ℕ → Option ℕ
added most (Some total) (Some len) = Some (min (total + len) most)
added most (Some total) None = None
added most None len = None

-- the lesser of two lengths, where one that is unknown is the greater
abbrev pub lesser : Option ℕ → Option ℕ → Option ℕ
lesser (Some first) (Some second) = Some (min first second)
lesser (Some first) None = Some first
lesser None second = second

-- the least length of an argument, where these of the rules are known
abbrev pub argument_least : ℕ → List (Option ℕ) → Arg → Option ℕ
argument_least most known (Rule rule) = slice_index_or known rule None
argument_least most known (Literal text) = Some (min (length text) most)
argument_least most known (Letter class) = Some (min 1 most)
argument_least most known (Run class low high) = Some (min low most)

-- the least length of an alternative's arguments together
abbrev pub arguments_least : ℕ → List (Option ℕ) → List Arg → Option ℕ
arguments_least most known arguments =
    fold (λ total argument. added most total (argument_least most known argument)) (Some 0) arguments

-- at most the high bound
abbrev pub is_within : Option ℕ → ℕ → Bool
is_within None len = true
is_within (Some high) len = nat_le len high

-- the least length of an alternative of this size whose arguments have this sum: none where the sum is above the high
-- bound, and at least the low bound
abbrev pub allowed_least : Option Size → Option ℕ → Option ℕ
allowed_least size None = None
allowed_least size (Some sum) = if is_within (high_of size) sum then Some (max sum (low_of size)) else None

-- the least length of an alternative
abbrev pub alternative_least : ℕ → List (Option ℕ) → Alt → Option ℕ
alternative_least most known alternative = allowed_least alternative.size (arguments_least most known alternative.args)

-- the least length of a rule with these alternatives
abbrev pub rule_least : ℕ → List (Option ℕ) → List Alt → Option ℕ
rule_least most known alternatives =
    fold (λ least alternative. lesser least (alternative_least most known alternative)) None alternatives

-- each known length is a length of its rule, cut
pub record AreLengths (grammar : Grammar) (most : ℕ) (known : List (Option ℕ)) : Type 0 where
  pub each : length known ≡ length grammar.rules
  pub have : (rule size : ℕ) → slice_index_or known rule None ≡ Some size
      → (len : ℕ) × HasLength grammar rule len × (size ≡ min len most)

-- no alternative has a lesser length than is known of its rule
pub record AreLeast (grammar : Grammar) (most : ℕ) (known : List (Option ℕ)) : Type 0 where
  pub least : (rule : ℕ) → rule < length grammar.rules
      → lesser (slice_index_or known rule None) (rule_least most known (alternatives_of grammar rule))
      ≡ slice_index_or known rule None

-- by how much the known lengths can fall
abbrev pub fall_left : ℕ → List (Option ℕ) → ℕ
fall_left most known = sum_by fall known
  where
    fall : Option ℕ → ℕ
    fall None = most + 1
    fall (Some len) = len

-- the least lengths are those of the grammar's rules, and unknown for the rules that have none
pub record AreLeastLengths (grammar : Grammar) (known : List (Option ℕ)) : Type 0 where
  pub each : length known ≡ length grammar.rules
  pub told : (rule : ℕ)
      → MatchOption (slice_index_or known rule None) (IsProductive grammar rule → ⊥) (IsLeastSize grammar rule)

-- the flags tell which rules are productive
pub record AreProductive (grammar : Grammar) (flags : List Bool) : Type 0 where
  pub each : length flags ≡ length grammar.rules
  pub told : (rule : ℕ) → rule < length grammar.rules
      → MatchBool (slice_index_or flags rule false) (IsProductive grammar rule) (IsProductive grammar rule → ⊥)
