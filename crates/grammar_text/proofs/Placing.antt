-- A line of a header: what it is, and what the lines above and below it say.
use Rattle.std.proofs.Common.{◌≡◌, ℕ, zero, suc, ◌+◌, ◌<◌, ◌≤◌, List, [], ◌∷◌, length, take, drop, get_or, Bool, true, false, None, ◌-◌, add-one, refl, ◌∙◌, ap, arith}
use Rattle.std.specs.List.{filter_map}
use Rattle.job_texts.specs.Declarations as forms
use Rattle.job_texts.specs.DeclaredNames.{TextLines, form_of, form_at, header_at, above, below, declarations}
use Rattle.job_texts.specs.TextFaults.{has_no_shape, has_unclosed_quote}
use Rattle.grammar_text.specs.declared.reader.collected.LineSort.{LineSort}
use Rattle.grammar_text.specs.declared.reader.collected.LineSort.TheVariants.{Skipped, Unprintable, Unclosed, Shapeless, Says}
use Rattle.grammar_text.specs.Collecting.{says_in, woven}
use Rattle.grammar_text.specs.LineKinds.{is_shapeless_sort, is_unclosed_sort}
use Rattle.grammar_text.proofs.Weaving.{forms-woven}

-- a line of this sort, which says this where it has form
abbrev pub line_of_sort : LineSort → forms.Declaration → forms.HeaderLine
line_of_sort Skipped declaration = forms.Skipped
line_of_sort Unprintable declaration = forms.Unprintable
line_of_sort Unclosed declaration = forms.Unclosed
line_of_sort Shapeless declaration = forms.Shapeless
line_of_sort Says declaration = forms.Says declaration

pub line_woven : (k : ℕ) (sorts : List LineSort) (declared : List forms.Declaration) (other : forms.Declaration) → says_in sorts ≡ length declared
    → get_or (woven sorts declared) k forms.Skipped ≡ line_of_sort (get_or sorts k Skipped) (get_or declared (says_in (take k sorts)) other)
line_woven zero [] declared other e = refl
line_woven (suc k) [] declared other e = refl
line_woven zero (Says ∷ sorts) [] other e = absurd (omega arith)
line_woven (suc k) (Says ∷ sorts) [] other e = absurd (omega arith)
line_woven zero (Says ∷ sorts) (d ∷ declared) other e = refl
line_woven (suc k) (Says ∷ sorts) (d ∷ declared) other e = line_woven k sorts declared other (omega arith)
line_woven zero (Skipped ∷ sorts) declared other e = refl
line_woven (suc k) (Skipped ∷ sorts) declared other e = line_woven k sorts declared other e
line_woven zero (Unprintable ∷ sorts) declared other e = refl
line_woven (suc k) (Unprintable ∷ sorts) declared other e = line_woven k sorts declared other e
line_woven zero (Unclosed ∷ sorts) declared other e = refl
line_woven (suc k) (Unclosed ∷ sorts) declared other e = line_woven k sorts declared other e
line_woven zero (Shapeless ∷ sorts) declared other e = refl
line_woven (suc k) (Shapeless ∷ sorts) declared other e = line_woven k sorts declared other e

-- what the first lines say
pub above_woven : (k : ℕ) (sorts : List LineSort) (declared : List forms.Declaration) → says_in sorts ≡ length declared
    → filter_map form_of (take k (woven sorts declared)) ≡ take (says_in (take k sorts)) declared
above_woven zero sorts declared e = refl
above_woven (suc k) [] declared e = refl
above_woven (suc k) (Says ∷ sorts) [] e = absurd (omega arith)
above_woven (suc k) (Says ∷ sorts) (d ∷ declared) e = ap (λ (these : List forms.Declaration). d ∷ these) (above_woven k sorts declared (omega arith))
above_woven (suc k) (Skipped ∷ sorts) declared e = above_woven k sorts declared e
above_woven (suc k) (Unprintable ∷ sorts) declared e = above_woven k sorts declared e
above_woven (suc k) (Unclosed ∷ sorts) declared e = above_woven k sorts declared e
above_woven (suc k) (Shapeless ∷ sorts) declared e = above_woven k sorts declared e

-- what the lines behind one that has form say
pub below_woven : (k : ℕ) (sorts : List LineSort) (declared : List forms.Declaration) → says_in sorts ≡ length declared → get_or sorts k Skipped ≡ Says
    → filter_map form_of (drop (suc k) (woven sorts declared)) ≡ drop (suc (says_in (take k sorts))) declared
below_woven zero [] declared e is = cc
below_woven (suc k) [] declared e is = cc
below_woven zero (Says ∷ sorts) [] e is = absurd (omega arith)
below_woven (suc k) (Says ∷ sorts) [] e is = absurd (omega arith)
below_woven zero (Says ∷ sorts) (d ∷ declared) e is = forms-woven sorts declared (omega arith)
below_woven (suc k) (Says ∷ sorts) (d ∷ declared) e is = below_woven k sorts declared (omega arith) is
below_woven zero (Skipped ∷ sorts) declared e is = cc
below_woven (suc k) (Skipped ∷ sorts) declared e is = below_woven k sorts declared e is
below_woven zero (Unprintable ∷ sorts) declared e is = cc
below_woven (suc k) (Unprintable ∷ sorts) declared e is = below_woven k sorts declared e is
below_woven zero (Unclosed ∷ sorts) declared e is = cc
below_woven (suc k) (Unclosed ∷ sorts) declared e is = below_woven k sorts declared e is
below_woven zero (Shapeless ∷ sorts) declared e is = cc
below_woven (suc k) (Shapeless ∷ sorts) declared e is = below_woven k sorts declared e is

-- a line that has form says one of the declarations
pub place_inside : (k : ℕ) (sorts : List LineSort) → get_or sorts k Skipped ≡ Says → says_in (take k sorts) < says_in sorts
place_inside zero [] is = cc
place_inside (suc k) [] is = cc
place_inside zero (Says ∷ sorts) is = omega arith
place_inside (suc k) (Says ∷ sorts) is = let h = place_inside k sorts is in omega arith
place_inside zero (Skipped ∷ sorts) is = cc
place_inside (suc k) (Skipped ∷ sorts) is = place_inside k sorts is
place_inside zero (Unprintable ∷ sorts) is = cc
place_inside (suc k) (Unprintable ∷ sorts) is = place_inside k sorts is
place_inside zero (Unclosed ∷ sorts) is = cc
place_inside (suc k) (Unclosed ∷ sorts) is = place_inside k sorts is
place_inside zero (Shapeless ∷ sorts) is = cc
place_inside (suc k) (Shapeless ∷ sorts) is = place_inside k sorts is

-- the place of the next line's declaration
pub next_place : (k : ℕ) (sorts : List LineSort) → says_in (take (suc k) sorts) ≡ says_in (take k sorts) + says_in (get_or sorts k Skipped ∷ [])
next_place zero [] = omega arith
next_place (suc k) [] = omega arith
next_place zero (Says ∷ sorts) = refl
next_place (suc k) (Says ∷ sorts) = let h = next_place k sorts in omega arith
next_place zero (Skipped ∷ sorts) = refl
next_place (suc k) (Skipped ∷ sorts) = next_place k sorts
next_place zero (Unprintable ∷ sorts) = refl
next_place (suc k) (Unprintable ∷ sorts) = next_place k sorts
next_place zero (Unclosed ∷ sorts) = refl
next_place (suc k) (Unclosed ∷ sorts) = next_place k sorts
next_place zero (Shapeless ∷ sorts) = refl
next_place (suc k) (Shapeless ∷ sorts) = next_place k sorts

-- ---- lines of a text by their places, counted from 0

abbrev is_shapeless : forms.HeaderLine → Bool
is_shapeless forms.Shapeless = true
is_shapeless line = false

abbrev is_unclosed : forms.HeaderLine → Bool
is_unclosed forms.Unclosed = true
is_unclosed line = false

shapeless_sort : (sort : LineSort) (declaration : forms.Declaration) → is_shapeless (line_of_sort sort declaration) ≡ is_shapeless_sort sort
shapeless_sort Skipped declaration = refl
shapeless_sort Unprintable declaration = refl
shapeless_sort Unclosed declaration = refl
shapeless_sort Shapeless declaration = refl
shapeless_sort Says declaration = refl

unclosed_sort : (sort : LineSort) (declaration : forms.Declaration) → is_unclosed (line_of_sort sort declaration) ≡ is_unclosed_sort sort
unclosed_sort Skipped declaration = refl
unclosed_sort Unprintable declaration = refl
unclosed_sort Unclosed declaration = refl
unclosed_sort Shapeless declaration = refl
unclosed_sort Says declaration = refl

line_is : (text : TextLines) (k : ℕ) (sorts : List LineSort) (declared : List forms.Declaration) (other : forms.Declaration) → says_in sorts ≡ length declared → text.header ≡ woven sorts declared
    → header_at text (k + 1) ≡ line_of_sort (get_or sorts k Skipped) (get_or declared (says_in (take k sorts)) other)
line_is text k sorts declared other says is = rw (is, add-one) (line_woven k sorts declared other says)

pub shapeless_is : (text : TextLines) (k : ℕ) (sorts : List LineSort) (declared : List forms.Declaration) → says_in sorts ≡ length declared → text.header ≡ woven sorts declared
    → has_no_shape text (k + 1) ≡ is_shapeless_sort (get_or sorts k Skipped)
shapeless_is text k sorts declared says is =
    ap is_shapeless (line_is text k sorts declared forms.Words says is)
    ∙ shapeless_sort (get_or sorts k Skipped) (get_or declared (says_in (take k sorts)) forms.Words)

pub unclosed_is : (text : TextLines) (k : ℕ) (sorts : List LineSort) (declared : List forms.Declaration) → says_in sorts ≡ length declared → text.header ≡ woven sorts declared
    → has_unclosed_quote text (k + 1) ≡ is_unclosed_sort (get_or sorts k Skipped)
unclosed_is text k sorts declared says is =
    ap is_unclosed (line_is text k sorts declared forms.Words says is)
    ∙ unclosed_sort (get_or sorts k Skipped) (get_or declared (says_in (take k sorts)) forms.Words)

-- what the line declares
pub form_is : (text : TextLines) (k : ℕ) (sorts : List LineSort) (declared : List forms.Declaration) (other : forms.Declaration) → says_in sorts ≡ length declared → text.header ≡ woven sorts declared
    → form_at text (k + 1) ≡ form_of (line_of_sort (get_or sorts k Skipped) (get_or declared (says_in (take k sorts)) other))
form_is text k sorts declared other says is = ap form_of (line_is text k sorts declared other says is)

pub above_is : (text : TextLines) (k : ℕ) (sorts : List LineSort) (declared : List forms.Declaration) → says_in sorts ≡ length declared → text.header ≡ woven sorts declared
    → above text (k + 1) ≡ take (says_in (take k sorts)) declared
above_is text k sorts declared says is =
    let before : (k + 1) - 1 ≡ k = omega arith in
    rw (is, before) (above_woven k sorts declared says)

pub below_is : (text : TextLines) (k : ℕ) (sorts : List LineSort) (declared : List forms.Declaration) → says_in sorts ≡ length declared → text.header ≡ woven sorts declared → get_or sorts k Skipped ≡ Says
    → below text (k + 1) ≡ drop (says_in (take k sorts) + 1) declared
below_is text k sorts declared says is sort = rw (is, add-one, add-one) (below_woven k sorts declared says sort)

pub all_is : (text : TextLines) (sorts : List LineSort) (declared : List forms.Declaration) → says_in sorts ≡ length declared → text.header ≡ woven sorts declared → declarations text ≡ declared
all_is text sorts declared says is = rw is (forms-woven sorts declared says)

pub silent_sort : (sort : LineSort) (declaration : forms.Declaration) → (sort ≡ Says → ⊥) → form_of (line_of_sort sort declaration) ≡ None
silent_sort Skipped declaration other = refl
silent_sort Unprintable declaration other = refl
silent_sort Unclosed declaration other = refl
silent_sort Shapeless declaration other = refl
silent_sort Says declaration other = absurd (other refl)

-- no more declarations stand above a line than there are
pub says_in_take : (k : ℕ) (sorts : List LineSort) → says_in (take k sorts) ≤ says_in sorts
says_in_take zero sorts = omega arith
says_in_take (suc k) [] = omega arith
says_in_take (suc k) (Says ∷ sorts) = let h = says_in_take k sorts in omega arith
says_in_take (suc k) (Skipped ∷ sorts) = says_in_take k sorts
says_in_take (suc k) (Unprintable ∷ sorts) = says_in_take k sorts
says_in_take (suc k) (Unclosed ∷ sorts) = says_in_take k sorts
says_in_take (suc k) (Shapeless ∷ sorts) = says_in_take k sorts
