-- A header that is kept as what its lines are and, apart, what those that have form say.
use Rattle.std.specs.Prelude.{Bool, true, false, ℕ, suc, List, [], ◌∷◌, map}
use Rattle.job_texts.specs.Declarations as forms
use Rattle.grammar_text.specs.declared.reader.collected.LineSort.{LineSort}
use Rattle.grammar_text.specs.declared.reader.collected.LineSort.TheVariants.{Skipped, Unprintable, Unclosed, Shapeless, Says}
use Rattle.grammar_text.specs.declared.reader.collected.Header.{Header}
use Rattle.grammar_text.specs.Seen.{declaration_seen}

-- how many of the lines have form
abbrev pub says_in : List LineSort → ℕ
says_in [] = 0
says_in (Says ∷ sorts) = suc (says_in sorts)
says_in (sort ∷ sorts) = says_in sorts

-- the lines, where those that have form say these declarations in order
abbrev pub woven : List LineSort → List forms.Declaration → List forms.HeaderLine
woven [] declared = []
woven (Says ∷ sorts) [] = forms.Skipped ∷ woven sorts []
woven (Says ∷ sorts) (declaration ∷ declared) = forms.Says declaration ∷ woven sorts declared
woven (Skipped ∷ sorts) declared = forms.Skipped ∷ woven sorts declared
woven (Unprintable ∷ sorts) declared = forms.Unprintable ∷ woven sorts declared
woven (Unclosed ∷ sorts) declared = forms.Unclosed ∷ woven sorts declared
woven (Shapeless ∷ sorts) declared = forms.Shapeless ∷ woven sorts declared

abbrev pub header_seen : Header → List forms.HeaderLine
header_seen header = woven header.sorts.items (map declaration_seen header.declared.items)

-- the line is the `words` line
abbrev pub is_last : forms.HeaderLine → Bool
is_last (forms.Says forms.Words) = true
is_last line = false
