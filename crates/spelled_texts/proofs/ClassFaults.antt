-- No kind of fault stands at the spelled lines of classes.
use Rattle.std.proofs.Common.{◌≡◌, ℕ, ◌+◌, ℤ, true, false, ◌==◌, is_some, List, [], ◌∷◌, ◌++◌, length, map, refl, arith}
use Rattle.std.specs.List.{list_all, AllByRecursion}
use Rattle.std.proofs.lemmas.Bool.{and_parts, le-ltb}
use Rattle.adp_model.specs.declared.grammar.Class.{Class}
use Rattle.adp_model.specs.WellFormed.{is_class}
use Rattle.job_texts.specs.Spelling.{runs_of}
use Rattle.job_texts.specs.Declarations.{Declaration}
use Rattle.job_texts.specs.DeclaredNames.{class_name_of, class_names}
use Rattle.job_texts.specs.TextFaults.{weight_of}
use Rattle.spelled_texts.proofs.Contents.{run_item, class_declaration}
use Rattle.spelled_texts.proofs.Runs.{IsRun, good_runs, weight_of_run, letters_back}
use Rattle.spelled_texts.proofs.ClassLines.{class_parts}
use Rattle.spelled_texts.proofs.GrammarParts.{name_of_class}
use Rattle.spelled_texts.proofs.Faultless.{IsFaultless, AreFaultless}
use Rattle.spelled_texts.proofs.FreshNames.{IsFresh, AreFresh, first_fresh, others_fresh}

items_numbered : (runs : List (List ℕ × ℤ)) → AllByRecursion IsRun runs → list_all (λ item. is_some (weight_of item)) (map run_item runs) ≡ true
items_numbered [] good = refl
items_numbered (run ∷ runs) good = rw (weight_of_run run.0 run.1 good.0.in_range, items_numbered runs good.1) refl

class_faultless : (all above below : List Declaration) (class : Class) → is_class class ≡ true → IsFresh (class_names above) class.name 64 → IsFaultless all above (class_declaration class) below
class_faultless all above below class h fresh =
    let is = class_parts class h in
    let some = is.some_letters in
    let some_test : (length class.letters == 0) ≡ false = grind (arith, some) in
    record {
      named = rw is.named refl;
      numbered = rw (items_numbered (runs_of class.letters) (good_runs class.letters is.entries)) refl;
      fresh = fresh.other;
      lettered = rw (letters_back class.letters is.entries, some_test, is.distinct) refl;
      placed = refl;
      one_axiom = refl;
      known = refl;
      fit = refl;
      uncrossed = refl;
      complete = refl;
      counted = rw (le-ltb 64 (length (class_names above) + 1) fresh.few) refl;
      once = refl;
    }

pub classes_faultless : (all above : List Declaration) (classes : List Class) (tail : List Declaration) → list_all is_class classes ≡ true
    → AreFresh (class_names above) (map name_of_class classes) 64 → AreFaultless all above (map class_declaration classes) tail
classes_faultless all above [] tail h fresh = tt
classes_faultless all above (class ∷ classes) tail h fresh =
    let parts = and_parts (is_class class) (list_all is_class classes) h in
    let own = first_fresh (class_names above) class.name (map name_of_class classes) 64 fresh in (
      class_faultless all above (map class_declaration classes ++ tail) class parts.0 own,
      classes_faultless all (above ++ class_declaration class ∷ []) classes tail parts.1
          (others_fresh class_name_of above (class_declaration class) class.name (map name_of_class classes) 64 refl fresh),
    )
