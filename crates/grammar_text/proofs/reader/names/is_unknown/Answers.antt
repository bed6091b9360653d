use Rattle.std.proofs.Common.{inl, inr, refl}
use Rattle.grammar_text.proofs.reader.names.is_unknown.Goals as goal

pub returns-in-Named : goal.returns-in-Named
returns-in-Named c = λ all are. rw (c.in-Named.is, c.has_rule.ensures all are) refl

pub returns-in-OneOf : goal.returns-in-OneOf
returns-in-OneOf c = λ all are.
    elim c.in-OneOf.is [
      | inl h ↦ rw (h, c.has_class.ensures all are) refl
      | inr other ↦ elim other [ inl h ↦ rw (h.2, c.has_class.ensures all are) refl | inr h ↦ rw (h.1, c.has_class.ensures all are) refl ]
    ]
