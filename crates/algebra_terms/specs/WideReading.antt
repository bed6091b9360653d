-- What the reader of wide terms has in its hands, seen as what a term's text is made of.
use Rattle.std.specs.Prelude.{◌≡◌, ℕ, pos, Bool, true, false, not, ◌&&◌, ◌||◌, nat_eq, nat_le, length, Option, Some, None, is_some, unwrap_or, Result, Ok, Err, List, [], ◌∷◌, map, if◌then◌else◌}
use Rattle.std.specs.List.{list_all, list_any, flat_map, position}
use Rattle.std.specs.Option.{option_and_then}
use Rattle.std.specs.Borrow.{Bor}
use Rattle.std.specs.Ordering.{nat_cmp}
use Rattle.std.specs.Cmp.Lexicographic.{slice_cmp}
use Rattle.std.specs.BTreeMap.{BTreeMap, get_by}
use lib.Pointwise.{pointwise}
use Rattle.adp_model.specs.WellFormed.{is_name, most_leaves}
use Rattle.adp_model.specs.WideForm as forms
use Rattle.adp_model.specs.WideForm.{WideForm}
use Rattle.adp_model.specs.WideTerms.{form_of}
use Rattle.adp_model.specs.declared.grammar.Wide.{Wide}
use Rattle.job_texts.specs.TermText.{begins_number, is_among, number_among, number_of}
use Rattle.job_texts.specs.WideText as texts
use Rattle.job_texts.specs.WideText.{WideFault, OtherShape, NoName, NoNumber, Undeclared, TooMany, Twice, joined}
use Rattle.algebra_terms.specs.WideSteps.{Step, Leaf', Join', operation_of}
use Rattle.algebra_terms.specs.declared.wide_error.WideError.{WideError}
use Rattle.algebra_terms.specs.declared.wide_error.WideError.TheVariants as errors

-- the word of a step that is a leaf
abbrev pub word_of : Step → List (List ℕ)
word_of (Leaf' word) = word ∷ []
word_of (Join' operation) = []

-- the words of the leaves
abbrev pub words_of : List Step → List (List ℕ)
words_of steps = flat_map word_of steps

-- a leaf that is a variable is a name
abbrev pub is_named : Step → Bool
is_named (Leaf' word) = begins_number word || is_name word
is_named (Join' operation) = true

-- a leaf that is a number is one
abbrev pub is_numbered : Step → Bool
is_numbered (Leaf' word) = not (begins_number word) || is_some (number_of word)
is_numbered (Join' operation) = true

-- a leaf that is a variable is one of these
abbrev pub is_declared : List (List ℕ) → Step → Bool
is_declared variables (Leaf' word) = begins_number word || is_among variables word
is_declared variables (Join' operation) = true

-- a leaf that is this word
abbrev pub is_leaf_of : List ℕ → Step → Bool
is_leaf_of word (Leaf' other) = pointwise nat_eq word other
is_leaf_of word (Join' operation) = false

-- a leaf that is a variable stands again among further steps
abbrev pub stands_again : Step → List Step → Bool
stands_again (Leaf' word) steps = not (begins_number word) && list_any (is_leaf_of word) steps
stands_again (Join' operation) steps = false

-- a variable stands twice
abbrev pub repeats : List Step → Bool
repeats [] = false
repeats (step ∷ steps) = stands_again step steps || repeats steps

-- the map has the number of the first of these names that is the same
abbrev pub AreNumbers : BTreeMap (Bor (List ℕ)) ℕ → List (List ℕ) → Type 0
AreNumbers numbers names =
    (name : List ℕ) → get_by (λ key. slice_cmp nat_cmp name key.now) numbers ≡ position (pointwise nat_eq name) names

-- what a leaf stands for, where these are the variables
abbrev pub leaf_form : List (List ℕ) → List ℕ → WideForm
leaf_form variables word =
    if begins_number word then forms.Number (pos (unwrap_or (number_of word) 0)) else forms.Value (number_among variables word)

-- the two topmost terms of a pile, joined
abbrev pub join_top : List WideForm → texts.Operation → Option (List WideForm)
join_top (right ∷ left ∷ pile) operation = Some (joined operation left right ∷ pile)
join_top pile operation = None

-- a pile of terms after a step, where it has the terms to join
abbrev pub stepped : List (List ℕ) → List WideForm → Step → Option (List WideForm)
stepped variables pile (Leaf' word) = Some (leaf_form variables word ∷ pile)
stepped variables pile (Join' operation) = join_top pile (operation_of operation)

-- the pile after steps
abbrev pub built_on : List (List ℕ) → List WideForm → List Step → Option (List WideForm)
built_on variables pile [] = Some pile
built_on variables pile (step ∷ steps) = option_and_then (λ next. built_on variables next steps) (stepped variables pile step)

-- the topmost term of a pile
abbrev pub top_of : Option (List WideForm) → Result WideForm WideFault
top_of None = Err OtherShape
top_of (Some []) = Err OtherShape
top_of (Some (form ∷ pile)) = Ok form

-- the term that steps build of these variables, or the first that is wrong with it
abbrev pub wide_of_steps : List (List ℕ) → List Step → Result WideForm WideFault
wide_of_steps variables steps =
    if not (list_all is_named steps) then Err NoName
    else (if not (list_all is_numbered steps) then Err NoNumber
    else (if not (list_all (is_declared variables) steps) then Err Undeclared
    else (if not (nat_le (length (words_of steps)) most_leaves) then Err (TooMany (length (words_of steps)))
    else (if repeats steps then Err Twice
    else top_of (built_on variables [] steps)))))

-- a step is made, or lacks terms to join
abbrev pub Steps : Option (List WideForm) → Bool → List WideForm → Type 0
Steps found true after = found ≡ Some after
Steps found false after = found ≡ None

-- the forms of terms
abbrev pub forms_seen : List Wide → List WideForm
forms_seen terms = map form_of terms

-- what a text spells or the first that is wrong with it; want of memory aside
abbrev pub GivesWide : Result WideForm WideFault → Result Wide WideError → Type 0
GivesWide found (Ok term) = found ≡ Ok (form_of term)
GivesWide found (Err errors.Shape) = found ≡ Err OtherShape
GivesWide found (Err errors.Name) = found ≡ Err NoName
GivesWide found (Err errors.Number) = found ≡ Err NoNumber
GivesWide found (Err errors.Unknown) = found ≡ Err Undeclared
GivesWide found (Err (errors.Count leaves)) = found ≡ Err (TooMany leaves)
GivesWide found (Err errors.Twice) = found ≡ Err Twice
GivesWide found (Err errors.Memory) = Unit {0}
