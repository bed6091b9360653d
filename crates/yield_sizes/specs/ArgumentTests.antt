-- Tests of arguments by the sizes of the rules: which rules they name, and what can be empty.
use Rattle.std.specs.Prelude.{ℕ, Bool, true, false, ◌&&◌, ◌||◌, not, ◌==◌, Option, Some, None, List, [], ◌∷◌, length, slice_get, slice_index_or}
use Rattle.std.specs.List.{list_all, list_any}
use Rattle.adp_model.specs.declared.grammar.Arg.{Arg}
use Rattle.adp_model.specs.declared.grammar.Arg.TheVariants.{Rule, Literal, Letter, Run}
use Rattle.adp_model.specs.declared.grammar.Alt.{Alt}

abbrev pub is_zero : Option ℕ → Bool
is_zero None = false
is_zero (Some size) = size == 0

-- the argument is this rule
abbrev pub is_rule : ℕ → Arg → Bool
is_rule rule (Rule other) = other == rule
is_rule rule token = false

-- an argument of the alternative is this rule
abbrev pub has_rule : ℕ → Alt → Bool
has_rule rule alternative = list_any (is_rule rule) alternative.args

-- the argument can cover no letters
abbrev pub can_be_empty : List ℕ → Arg → Bool
can_be_empty least (Rule rule) = is_zero (slice_get least rule)
can_be_empty least (Literal text) = length text == 0
can_be_empty least (Letter class) = false
can_be_empty least (Run class low high) = low == 0

-- one of the arguments is this rule, and all others can be empty
abbrev pub is_empty_but : List ℕ → ℕ → List Arg → Bool
is_empty_but least rule [] = false
is_empty_but least rule (argument ∷ arguments) =
    (is_rule rule argument && list_all (can_be_empty least) arguments)
    || (can_be_empty least argument && is_empty_but least rule arguments)

-- so are the alternative's arguments
abbrev pub is_edge : List ℕ → ℕ → Alt → Bool
is_edge least rule alternative = is_empty_but least rule alternative.args

-- the argument can cover some letters
abbrev pub can_be_nonempty : List (Option ℕ) → Arg → Bool
can_be_nonempty greatest (Rule rule) = not (is_zero (slice_index_or greatest rule None))
can_be_nonempty greatest (Literal text) = not (length text == 0)
can_be_nonempty greatest (Letter class) = true
can_be_nonempty greatest (Run class low high) = not (is_zero high)

-- one of the arguments is this rule, and one before it can be nonempty
abbrev pub is_named_behind : List (Option ℕ) → ℕ → List Arg → Bool
is_named_behind greatest rule [] = false
is_named_behind greatest rule (argument ∷ arguments) =
    (can_be_nonempty greatest argument && list_any (is_rule rule) arguments) || is_named_behind greatest rule arguments

-- one of the arguments is this rule, and one after it can be nonempty
abbrev pub is_named_before : List (Option ℕ) → ℕ → List Arg → Bool
is_named_before greatest rule [] = false
is_named_before greatest rule (argument ∷ arguments) =
    (is_rule rule argument && list_any (can_be_nonempty greatest) arguments) || is_named_before greatest rule arguments
