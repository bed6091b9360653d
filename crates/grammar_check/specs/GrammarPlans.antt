-- The plan of a grammar for the score bounds of an algebra, or for the node bounds.
use Rattle.std.specs.Prelude.{ℕ, ◌+◌, ◌-◌, min, pos, nat_abs, Option, Some, None, unwrap_or, List, [], ◌∷◌, length, map, slice_index, slice_index_or, ◌≤◌, IfSome}
use mathlib.Core.Logic.{inl, inr}
use Rattle.adp_model.specs.declared.grammar.Arg.{Arg}
use Rattle.adp_model.specs.declared.grammar.Arg.TheVariants.{Rule, Literal, Letter, Run}
use Rattle.adp_model.specs.declared.grammar.Alt.{Alt}
use Rattle.adp_model.specs.declared.grammar.Rule as rules
use Rattle.adp_model.specs.declared.grammar.Term.{Term}
use Rattle.adp_model.specs.declared.grammar.Term.TheVariants.{Linear, Wide}
use Rattle.adp_model.specs.WideForm as wide
use Rattle.adp_model.specs.declared.grammar.Grammar.{Grammar}
use Rattle.adp_model.specs.Parts.{letters_of, term_for}
use Rattle.adp_model.specs.Bounds.{greatest_weight}
use Rattle.adp_model.specs.Terms.{leaves}
use Rattle.adp_model.specs.WellFormed.{most_leaves}
use Rattle.yield_sizes.specs.declared.rule_sizes.Sizes.{Sizes}
use Rattle.grammar_check.specs.declared.part.Worth.{Worth}
use Rattle.grammar_check.specs.declared.part.Worth.TheVariants.{OfRule, OfLetters}
use Rattle.grammar_check.specs.declared.part.Part.{Part}
use Rattle.grammar_check.specs.declared.measure.Measure.{Measure}
use Rattle.grammar_check.specs.declared.measure.Measure.TheVariants.{Scores, Nodes}
use Rattle.grammar_check.specs.RuleValues.{Entry, Own}

-- a wide term
abbrev pub wide_of : Term → Option wide.WideForm
wide_of (Linear term) = None
wide_of (Wide term) = Some term

-- what a linear term adds of its own; 0 for a wide one
abbrev pub constant_of : Term → ℕ
constant_of (Linear term) = nat_abs term.constant
constant_of (Wide term) = 0

-- how often a linear term counts what the argument at this place adds; a wide one gathers it as it is
abbrev pub factor_of : Term → ℕ → ℕ
factor_of (Linear term) place = nat_abs (slice_index_or term.factors place (pos 0))
factor_of (Wide term) place = 1

-- the wide term that alternatives of the sign are bounded by
abbrev pub wide_in : Grammar → Measure → ℕ → Option wide.WideForm
wide_in grammar (Scores algebra) sign = wide_of (term_for grammar algebra sign)
wide_in grammar Nodes sign = None

-- a wide term has at most 32 leaves
abbrev pub HasFewLeaves : Option wide.WideForm → Type 0
HasFewLeaves term = IfSome term (λ (wide : wide.WideForm). length (leaves wide) ≤ most_leaves)

-- what an alternative of the sign adds of its own
abbrev pub constant_in : Grammar → Measure → ℕ → ℕ
constant_in grammar (Scores algebra) sign = constant_of (term_for grammar algebra sign)
constant_in grammar Nodes sign = 1

-- how often what the argument at this place adds is counted
abbrev pub factor_in : Grammar → Measure → ℕ → ℕ → ℕ
factor_in grammar (Scores algebra) sign place = factor_of (term_for grammar algebra sign) place
factor_in grammar Nodes sign place = 1

-- how much a letter of the class adds
abbrev pub weight_in : Grammar → Measure → ℕ → ℕ
weight_in grammar (Scores algebra) class = greatest_weight (letters_of grammar class)
weight_in grammar Nodes class = 0

-- what the argument adds
abbrev pub worth_in : Grammar → Measure → ℕ → Arg → Worth
worth_in grammar measure factor (Rule rule) = OfRule rule factor
worth_in grammar measure factor (Literal text) = OfLetters 0 factor
worth_in grammar measure factor (Letter class) = OfLetters (weight_in grammar measure class) factor
worth_in grammar measure factor (Run class low high) = OfLetters (weight_in grammar measure class) factor

-- the least length of an argument, where rules have these least sizes
abbrev pub low_in : List ℕ → Arg → ℕ
low_in least (Rule rule) = slice_index least rule
low_in least (Literal text) = length text
low_in least (Letter class) = 1
low_in least (Run class low high) = low

-- its greatest length
abbrev pub high_in : List (Option ℕ) → Arg → Option ℕ
high_in greatest (Rule rule) = slice_index_or greatest rule None
high_in greatest (Literal text) = Some (length text)
high_in greatest (Letter class) = Some 1
high_in greatest (Run class low high) = high

-- a part between these lengths, where no length above `most` counts
abbrev pub ranged : ℕ → ℕ → Option ℕ → Worth → Part
ranged most low high worth = record {
  worth = worth;
  low = min low (most + 1);
  room = min (unwrap_or high most) most - min low (most + 1);
}

-- what the checks found of the rules, and the greatest length that counts
pub record Lengths : Type 0 where
  pub least : List ℕ
  pub greatest : List (Option ℕ)
  pub most : ℕ

-- the argument at this place of an alternative of the sign, as a part
abbrev pub part_in : Grammar → Measure → Lengths → ℕ → ℕ → Arg → Part
part_in grammar measure lengths sign place argument =
    ranged lengths.most (low_in lengths.least argument) (high_in lengths.greatest argument)
    (worth_in grammar measure (factor_in grammar measure sign place) argument)

-- the arguments from this place on
abbrev pub parts_in : Grammar → Measure → Lengths → ℕ → ℕ → List Arg → List Part
parts_in grammar measure lengths sign place [] = []
parts_in grammar measure lengths sign place (argument ∷ arguments) =
    part_in grammar measure lengths sign place argument ∷ parts_in grammar measure lengths sign (place + 1) arguments

-- what an alternative of the sign adds of its own, or its wide term
abbrev pub own_of : Option wide.WideForm → ℕ → Own
own_of None constant = inl constant
own_of (Some term) constant = inr term

abbrev pub own_in : Grammar → Measure → ℕ → Own
own_in grammar measure sign = own_of (wide_in grammar measure sign) (constant_in grammar measure sign)

-- an alternative
abbrev pub entry_in : Grammar → Measure → Lengths → Alt → Entry
entry_in grammar measure lengths alternative =
    (own_in grammar measure alternative.sign, parts_in grammar measure lengths alternative.sign 0 alternative.args)

-- the grammar
abbrev pub grammar_plan : Grammar → Measure → Lengths → List (List Entry)
grammar_plan grammar measure lengths =
    map (λ (rule : rules.Rule). map (entry_in grammar measure lengths) rule.alts) grammar.rules

-- what the checks found, as numbers
abbrev pub lengths_of : Sizes → ℕ → Lengths
lengths_of sizes most = record { least = sizes.least; greatest = sizes.greatest; most = most }
