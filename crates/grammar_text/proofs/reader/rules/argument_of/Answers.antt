use Rattle.std.proofs.Common.{refl}
use Rattle.grammar_text.proofs.reader.rules.argument_of.Goals as goal

pub returns-in-Named : goal.returns-in-Named
returns-in-Named c = λ all h. rw (c.in-Named.is, c.rule_number.ensures all h) refl

pub returns-in-OneOf : goal.returns-in-OneOf
returns-in-OneOf c = λ all h. rw (c.in-OneOf.is, c.class_number.ensures all h) refl

pub returns-in-RunOf : goal.returns-in-RunOf
returns-in-RunOf c = λ all h. rw (c.in-RunOf.is, c.class_number-in-RunOf.ensures all h, c.unwrap_or.ensures, c.bound_of.ensures, c.bound_of-in-RunOf.ensures) refl

pub returns-in-RunFrom : goal.returns-in-RunFrom
returns-in-RunFrom c = λ all h. rw (c.in-RunFrom.is, c.class_number-in-RunFrom.ensures all h, c.unwrap_or-in-RunFrom.ensures, c.bound_of-in-RunFrom.ensures) refl
