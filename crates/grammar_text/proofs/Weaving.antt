-- A header kept as what its lines are and, apart, what those that have form say.
use Rattle.std.proofs.Common.{◌≡◌, suc, ◌+◌, List, [], ◌∷◌, ◌++◌, length, refl, ap, arith}
use Rattle.std.specs.List.{filter_map}
use Rattle.job_texts.specs.Declarations as forms
use Rattle.job_texts.specs.DeclaredNames.{form_of}
use Rattle.grammar_text.specs.declared.reader.collected.LineSort.{LineSort}
use Rattle.grammar_text.specs.declared.reader.collected.LineSort.TheVariants.{Skipped, Unprintable, Unclosed, Shapeless, Says}
use Rattle.grammar_text.specs.Collecting.{says_in, woven}

-- one more line that says nothing
pub woven-silent : (sorts : List LineSort) (sort : LineSort) (declared : List forms.Declaration) → says_in sorts ≡ length declared → woven (sorts ++ sort ∷ []) declared ≡ woven sorts declared ++ woven (sort ∷ []) []
woven-silent [] sort [] e = refl
woven-silent [] sort (d ∷ declared) e = absurd (omega arith)
woven-silent (Says ∷ sorts) sort [] e = absurd (omega arith)
woven-silent (Says ∷ sorts) sort (d ∷ declared) e = ap (λ x. forms.Says d ∷ x) (woven-silent sorts sort declared (omega arith))
woven-silent (Skipped ∷ sorts) sort declared e = ap (λ x. forms.Skipped ∷ x) (woven-silent sorts sort declared e)
woven-silent (Unprintable ∷ sorts) sort declared e = ap (λ x. forms.Unprintable ∷ x) (woven-silent sorts sort declared e)
woven-silent (Unclosed ∷ sorts) sort declared e = ap (λ x. forms.Unclosed ∷ x) (woven-silent sorts sort declared e)
woven-silent (Shapeless ∷ sorts) sort declared e = ap (λ x. forms.Shapeless ∷ x) (woven-silent sorts sort declared e)

-- one more line that has form
pub woven-says : (sorts : List LineSort) (declared : List forms.Declaration) (declaration : forms.Declaration) → says_in sorts ≡ length declared → woven (sorts ++ Says ∷ []) (declared ++ declaration ∷ []) ≡ woven sorts declared ++ forms.Says declaration ∷ []
woven-says [] [] declaration e = refl
woven-says [] (d ∷ declared) declaration e = absurd (omega arith)
woven-says (Says ∷ sorts) [] declaration e = absurd (omega arith)
woven-says (Says ∷ sorts) (d ∷ declared) declaration e = ap (λ x. forms.Says d ∷ x) (woven-says sorts declared declaration (omega arith))
woven-says (Skipped ∷ sorts) declared declaration e = ap (λ x. forms.Skipped ∷ x) (woven-says sorts declared declaration e)
woven-says (Unprintable ∷ sorts) declared declaration e = ap (λ x. forms.Unprintable ∷ x) (woven-says sorts declared declaration e)
woven-says (Unclosed ∷ sorts) declared declaration e = ap (λ x. forms.Unclosed ∷ x) (woven-says sorts declared declaration e)
woven-says (Shapeless ∷ sorts) declared declaration e = ap (λ x. forms.Shapeless ∷ x) (woven-says sorts declared declaration e)

pub says_in-append : (xs ys : List LineSort) → says_in (xs ++ ys) ≡ says_in xs + says_in ys
says_in-append [] ys = omega arith
says_in-append (Says ∷ xs) ys = let h = says_in-append xs ys in omega arith
says_in-append (Skipped ∷ xs) ys = says_in-append xs ys
says_in-append (Unprintable ∷ xs) ys = says_in-append xs ys
says_in-append (Unclosed ∷ xs) ys = says_in-append xs ys
says_in-append (Shapeless ∷ xs) ys = says_in-append xs ys

-- as many lines as sorts
pub length-woven : (sorts : List LineSort) (declared : List forms.Declaration) → length (woven sorts declared) ≡ length sorts
length-woven [] declared = refl
length-woven (Says ∷ sorts) [] = ap suc (length-woven sorts [])
length-woven (Says ∷ sorts) (d ∷ declared) = ap suc (length-woven sorts declared)
length-woven (Skipped ∷ sorts) declared = ap suc (length-woven sorts declared)
length-woven (Unprintable ∷ sorts) declared = ap suc (length-woven sorts declared)
length-woven (Unclosed ∷ sorts) declared = ap suc (length-woven sorts declared)
length-woven (Shapeless ∷ sorts) declared = ap suc (length-woven sorts declared)

-- the lines that have form say just these declarations
pub forms-woven : (sorts : List LineSort) (declared : List forms.Declaration) → says_in sorts ≡ length declared → filter_map form_of (woven sorts declared) ≡ declared
forms-woven [] [] e = refl
forms-woven [] (d ∷ declared) e = absurd (omega arith)
forms-woven (Says ∷ sorts) [] e = absurd (omega arith)
forms-woven (Says ∷ sorts) (d ∷ declared) e = ap (λ x. d ∷ x) (forms-woven sorts declared (omega arith))
forms-woven (Skipped ∷ sorts) declared e = forms-woven sorts declared e
forms-woven (Unprintable ∷ sorts) declared e = forms-woven sorts declared e
forms-woven (Unclosed ∷ sorts) declared e = forms-woven sorts declared e
forms-woven (Shapeless ∷ sorts) declared e = forms-woven sorts declared e
