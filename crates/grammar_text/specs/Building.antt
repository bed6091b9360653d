-- What the building of a grammar asks of the declarations that it is built of.
use Rattle.std.specs.Prelude.{ℕ, Bool, true, ◌&&◌, not, nat_le, List, map}
use Rattle.std.specs.List.{list_all}
use Rattle.adp_model.specs.declared.grammar.Sign as signs
use Rattle.adp_model.specs.Printable.{is_printable_byte}
use Rattle.adp_model.specs.WellFormed.{is_name, most_leaves}
use Rattle.job_texts.specs.LetTerms.{counted_leaves, has_names, has_numbers, has_variables, names_twice}
use Rattle.job_texts.specs.Declarations.{Argument, Spelled, Alternative, Declaration, Class, Sign, Algebra, Let, Rule}

-- the letters of a literal are printable
abbrev pub is_printable_argument : Argument → Bool
is_printable_argument (Spelled letters) = list_all is_printable_byte letters
is_printable_argument argument = true

abbrev pub is_printable_alternative : Alternative → Bool
is_printable_alternative alternative = list_all is_printable_argument alternative.arguments

-- names are names, literals are printable, and a term of a `let` is one of its variables
abbrev pub is_buildable : Declaration → Bool
is_buildable (Class name items) = is_name name
is_buildable (Sign name kinds) = is_name name
is_buildable (Algebra name goal) = is_name name
is_buildable (Let sign variables term) =
    list_all is_name variables && has_names term && has_numbers term && has_variables variables term
    && nat_le (counted_leaves term) most_leaves && not (names_twice term)
is_buildable (Rule name alternatives) = is_name name && list_all is_printable_alternative alternatives
is_buildable declaration = true

-- all of them are
abbrev pub are_buildable : List Declaration → Bool
are_buildable declared = list_all is_buildable declared

-- the names of these signs
abbrev pub sign_names : List signs.Sign → List (List ℕ)
sign_names declared = map (λ (sign : signs.Sign). sign.name) declared
