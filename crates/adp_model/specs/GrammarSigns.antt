-- What is known of the signs of a grammar's values under one of its algebras.
use Rattle.std.specs.Prelude.{ℕ, ℤ, pos, int_le, Bool, true}
use Rattle.std.specs.List.{list_all, zip}
use Rattle.adp_model.specs.declared.grammar.Class.{Class}
use Rattle.adp_model.specs.declared.grammar.Kind.{Kind}
use Rattle.adp_model.specs.declared.grammar.Sign.{Sign}
use Rattle.adp_model.specs.declared.grammar.Term.{Term}
use Rattle.adp_model.specs.declared.grammar.Grammar.{Grammar}
use Rattle.adp_model.specs.Parts.{algebra_at, sign_at, term_for}
use Rattle.adp_model.specs.TermSigns.{known_by, HasKnownSign, is_not_negative, IsMonotone}

-- whether no class has a negative weight
abbrev pub has_no_negative_weight : Grammar → Bool
has_no_negative_weight grammar =
    list_all (λ (class : Class). list_all (λ (entry : ℕ × ℤ). int_le (pos 0) entry.1) class.letters) grammar.classes

-- whether each sign's term is proved not negative, where no score is assumed to be, and no token where no weight is
abbrev pub has_no_negative_score : Grammar → ℕ → Bool
has_no_negative_score grammar algebra =
    list_all (λ (entry : Sign × Term).
    is_not_negative (known_by (has_no_negative_weight grammar) true) entry.0.kinds entry.1)
    (zip grammar.signs (algebra_at grammar algebra).terms)

-- the kinds of arguments that are known to have no negative value
abbrev pub known_signs : Grammar → ℕ → Kind → Bool
known_signs grammar algebra = known_by (has_no_negative_weight grammar) (has_no_negative_score grammar algebra)

-- a value that an argument of this kind can have
abbrev pub CanHave : Grammar → ℕ → Kind → ℤ → Type 0
CanHave grammar algebra = HasKnownSign (known_signs grammar algebra)

-- the algebra's term for the sign is monotone
abbrev pub HasMonotoneTerm : Grammar → ℕ → ℕ → Type 0
HasMonotoneTerm grammar algebra sign =
    IsMonotone (known_signs grammar algebra) (term_for grammar algebra sign) (sign_at grammar sign).kinds
