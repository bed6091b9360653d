-- Hidden rules: a nested alternative stands in the plain grammar as a rule of its own, behind all other rules.
use Rattle.std.specs.Prelude.{◌≡◌, ℕ, ◌+◌, Bool, ◌&&◌, nat_le, nat_lt, None, IsTrue, length}
use Rattle.adp_model.specs.declared.grammar.Grammar.{Grammar}
use Rattle.adp_model.specs.Parts.{alternatives_of, alternative_at}

-- the rule is one of the last rules of the grammar, so many as are hidden
abbrev pub is_hidden : Grammar → ℕ → ℕ → Bool
is_hidden grammar hidden rule =
    nat_lt rule (length grammar.rules) && nat_le (length grammar.rules) (rule + hidden)

-- each hidden rule stands for one nested alternative: it has that alternative alone, and no size
pub record AreNestedAlternatives (grammar : Grammar) (hidden : ℕ) : Type 0 where
  pub one : (rule : ℕ) → IsTrue (is_hidden grammar hidden rule) → length (alternatives_of grammar rule) ≡ 1
  pub unsized : (rule : ℕ) → IsTrue (is_hidden grammar hidden rule) → (alternative_at grammar rule 0).size ≡ None
