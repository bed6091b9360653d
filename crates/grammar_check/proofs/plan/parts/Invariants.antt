use Rattle.std.proofs.Common.{◌≡◌, ◌++◌, drop}
use Rattle.grammar_check.specs.GrammarPlans.{parts_in, lengths_of}
use Rattle.grammar_check.proofs.plan.parts.Given as goal

abbrev pub invariant-loop-place : goal.invariant-loop-place
invariant-loop-place l =
    l.parts.items ++ parts_in l.grammar l.measure (lengths_of l.sizes l.most) l.sign l.place (drop l.place l.arguments)
    ≡ parts_in l.grammar l.measure (lengths_of l.sizes l.most) l.sign 0 l.arguments
