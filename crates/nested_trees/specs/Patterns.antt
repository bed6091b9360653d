-- Patterns: the arguments of alternatives as they stand in a nested grammar, where an argument may be an alternative.
use Rattle.std.specs.Prelude.{◌≡◌, ℕ, false, IsTrue, List, [], ◌∷◌}
use Rattle.std.specs.List.{Contains}
use Rattle.adp_model.specs.declared.grammar.Arg.{Arg}
use Rattle.adp_model.specs.declared.grammar.Arg.TheVariants.{Rule}
use Rattle.adp_model.specs.declared.grammar.Grammar.{Grammar}
use Rattle.adp_model.specs.PosedProblem.{PosedProblem}
use Rattle.adp_model.specs.Parts.{alternative_at, arguments_of}
use Rattle.nested_trees.specs.HiddenRules.{is_hidden}

mutual
  -- an argument, or a sign by its number with patterns
  pub data Pattern : Type 0 where
    Plain : (argument : Arg) → Pattern
    Nested : (sign : ℕ) (patterns : Patterns) → Pattern

  pub data Patterns : Type 0 where
    NoPatterns : Patterns
    FirstPattern : (first : Pattern) (others : Patterns) → Patterns

-- the argument names no hidden rule
abbrev pub NamesNoHidden : Grammar → ℕ → Arg → Type 0
NamesNoHidden grammar hidden (Rule rule) = is_hidden grammar hidden rule ≡ false
NamesNoHidden grammar hidden token = Unit {0}

abbrev mutual
  -- a hidden rule is replaced by the pattern of its only alternative; any other argument stands for itself
  pub IsPatternOf : Grammar → ℕ → Arg → Pattern → Type 0
  IsPatternOf grammar hidden argument (Plain given) = (given ≡ argument) × NamesNoHidden grammar hidden argument
  IsPatternOf grammar hidden (Rule rule) (Nested sign inner) =
      IsTrue (is_hidden grammar hidden rule) × (sign ≡ (alternative_at grammar rule 0).sign)
      × ArePatternsOf grammar hidden (arguments_of grammar rule 0) inner
  IsPatternOf grammar hidden token (Nested sign inner) = ⊥

  -- a pattern for each argument
  pub ArePatternsOf : Grammar → ℕ → List Arg → Patterns → Type 0
  ArePatternsOf grammar hidden [] NoPatterns = Unit {0}
  ArePatternsOf grammar hidden [] (FirstPattern first others) = ⊥
  ArePatternsOf grammar hidden (argument ∷ arguments) NoPatterns = ⊥
  ArePatternsOf grammar hidden (argument ∷ arguments) (FirstPattern first others) =
      IsPatternOf grammar hidden argument first × ArePatternsOf grammar hidden arguments others

-- the rule's only alternative names a hidden rule, which is the other one or leads to it
pub data LeadsTo (grammar : Grammar) (hidden : ℕ) : ℕ → ℕ → Type 0 where
  Straight : (rule other : ℕ) → IsTrue (is_hidden grammar hidden other)
      → Contains (arguments_of grammar rule 0) (Rule other) → LeadsTo grammar hidden rule other
  Over : (rule next other : ℕ) → IsTrue (is_hidden grammar hidden next)
      → Contains (arguments_of grammar rule 0) (Rule next) → LeadsTo grammar hidden next other
      → LeadsTo grammar hidden rule other

-- a problem of a nested grammar: the plain grammar, the algebra and the word, and for each rule and alternative the
-- patterns of its arguments
pub record NestedProblem : Type 0 where
  pub plain : PosedProblem
  pub patterns : ℕ → ℕ → Patterns

-- the patterns are those of the plain grammar's alternatives, of which the last rules are hidden
abbrev pub HidesRules : NestedProblem → ℕ → Type 0
HidesRules q hidden =
    (rule alternative : ℕ)
    → ArePatternsOf q.plain.grammar hidden (arguments_of q.plain.grammar rule alternative) (q.patterns rule alternative)
