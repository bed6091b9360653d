-- The parts of a grammar by their numbers. Past the end of a list stands a part that has nothing.
use Rattle.std.specs.Prelude.{None, ℕ, List, [], pos, ℤ, slice_index_or}
use Rattle.adp_model.specs.declared.grammar.Class.{Class}
use Rattle.adp_model.specs.declared.grammar.Sign.{Sign}
use Rattle.adp_model.specs.declared.grammar.Term.{Term}
use Rattle.adp_model.specs.declared.grammar.Term.TheVariants.{Linear}
use Rattle.adp_model.specs.declared.grammar.Goal.TheVariants.{Least}
use Rattle.adp_model.specs.declared.grammar.Algebra.{Algebra}
use Rattle.adp_model.specs.declared.grammar.Arg.{Arg}
use Rattle.adp_model.specs.declared.grammar.Alt.{Alt}
use Rattle.adp_model.specs.declared.grammar.Rule as rules
use Rattle.adp_model.specs.declared.grammar.Grammar.{Grammar}
use Rattle.adp_model.specs.PosedProblem.{PosedProblem}

-- a class
abbrev pub class_at : Grammar → ℕ → Class
class_at grammar class = slice_index_or grammar.classes class (record { name = []; letters = [] })

-- the letters of a class, each with its weight
abbrev pub letters_of : Grammar → ℕ → List (ℕ × ℤ)
letters_of grammar class = (class_at grammar class).letters

-- a sign
abbrev pub sign_at : Grammar → ℕ → Sign
sign_at grammar sign = slice_index_or grammar.signs sign (record { name = []; kinds = [] })

-- a rule
abbrev pub rule_at : Grammar → ℕ → rules.Rule
rule_at grammar rule = slice_index_or grammar.rules rule (record { name = []; alts = [] })

-- the alternatives of a rule
abbrev pub alternatives_of : Grammar → ℕ → List Alt
alternatives_of grammar rule = (rule_at grammar rule).alts

-- an alternative of a rule
abbrev pub alternative_at : Grammar → ℕ → ℕ → Alt
alternative_at grammar rule alternative =
    slice_index_or (alternatives_of grammar rule) alternative (record { sign = 0; args = []; size = None })

-- the arguments of an alternative
abbrev pub arguments_of : Grammar → ℕ → ℕ → List Arg
arguments_of grammar rule alternative = (alternative_at grammar rule alternative).args

-- an algebra
abbrev pub algebra_at : Grammar → ℕ → Algebra
algebra_at grammar algebra = slice_index_or grammar.algebras algebra (record { name = []; goal = Least; terms = [] })

-- an algebra's term for a sign
abbrev pub term_for : Grammar → ℕ → ℕ → Term
term_for grammar algebra sign =
    slice_index_or (algebra_at grammar algebra).terms sign (Linear (record { constant = pos 0; factors = [] }))

-- an algebra's term for the sign of an alternative
abbrev pub term_at : Grammar → ℕ → ℕ → ℕ → Term
term_at grammar algebra rule alternative = term_for grammar algebra (alternative_at grammar rule alternative).sign

-- the algebra of a problem
abbrev pub algebra_of : PosedProblem → Algebra
algebra_of p = algebra_at p.grammar p.algebra

-- the algebra's term for the sign of an alternative
abbrev pub term_of : PosedProblem → ℕ → ℕ → Term
term_of p rule alternative = term_at p.grammar p.algebra rule alternative
