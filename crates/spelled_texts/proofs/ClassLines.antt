-- The spelled line of a class declares it.
use Rattle.std.proofs.Common.{◌≡◌, ℕ, suc, ◌^◌, ◌<◌, ◌≤◌, ℤ, pos, negsuc, true, false, ◌&&◌, nat_le, codes, Some, List, [], ◌∷◌, ◌++◌, length, map, refl, append_assoc, arith, leb-true}
use Rattle.std.specs.List.{list_all, flat_map, AllByRecursion}
use Rattle.std.specs.Fmt.{decimal, signed_decimal}
use Rattle.std.proofs.lemmas.Bool.{and_parts}
use Rattle.adp_model.specs.declared.grammar.Class.{Class}
use Rattle.adp_model.specs.WellFormed.{is_name, is_in_range, is_entry, is_class, letters_are_distinct}
use Rattle.job_texts.specs.Spelling.{runs_of, run_text}
use Rattle.job_texts.specs.LineTokens.{Token, Word, Quoted, Equals, Minus, begins_word}
use Rattle.job_texts.specs.Declarations.{further_items, items_of, declaration_of}
use Rattle.spelled_texts.proofs.ReadTokens.{TokenLaws, Reads, nothing_reads, name_is_word, word_then, mark_then, space_then, quoted_then, same_text_reads}
use Rattle.spelled_texts.proofs.Printing.{Prints, literal_prints, prints-append, prints-cons, prints-flat_map, word_prints, quoted_prints}
use Rattle.spelled_texts.proofs.Numbers.{decimal_is_word, signed_prints}
use Rattle.spelled_texts.proofs.Contents.{class_content, class_declaration, run_item}
use Rattle.spelled_texts.proofs.Runs.{IsRun, good_runs, SomeRuns, some_runs}
use Rattle.spelled_texts.proofs.HeaderOf.{Declares, says_declaration}

-- ---- tokens

abbrev number_tokens : ℤ → List Token
number_tokens (pos n) = Word (decimal n) ∷ []
number_tokens (negsuc n) = Minus ∷ Word (decimal (suc n)) ∷ []

abbrev run_tokens : List ℕ × ℤ → List Token
run_tokens run = Quoted run.0 ∷ number_tokens run.1

ends_runs : (runs : List (List ℕ × ℤ)) → begins_word (flat_map run_text runs) ≡ false
ends_runs [] = refl
ends_runs (run ∷ runs) = refl

module _ (laws : TokenLaws) where
  number_reads : {rest : List ℕ} {tokens : List Token} (number : ℤ) → is_in_range number ≡ true → begins_word rest ≡ false → Reads rest tokens
      → Reads (signed_decimal number ++ rest) (number_tokens number ++ tokens)
  number_reads (pos n) h ends reads =
      let below : n < 2 ^ 62 = grind (arith, h) in
      word_then laws (decimal n) (decimal_is_word n (omega arith)) ends reads
  number_reads (negsuc n) h ends reads =
      let below : suc n < 2 ^ 62 = grind (arith, h) in
      mark_then laws 45 Minus refl (word_then laws (decimal (suc n)) (decimal_is_word (suc n) (omega arith)) ends reads)

  runs_read : (runs : List (List ℕ × ℤ)) → AllByRecursion IsRun runs → Reads (flat_map run_text runs) (flat_map run_tokens runs)
  runs_read [] good = nothing_reads
  runs_read (run ∷ runs) good =
      same_text_reads (simp append_assoc)
      (space_then laws (quoted_then laws run.0 (space_then laws (number_reads run.1 good.0.in_range (ends_runs runs) (runs_read runs good.1)))))

  class_reads : (class : Class) → is_name class.name ≡ true → AllByRecursion IsRun (runs_of class.letters)
      → Reads (class_content class) (Word (codes "class") ∷ Word class.name ∷ Equals ∷ flat_map run_tokens (runs_of class.letters))
  class_reads class named good =
      same_text_reads (simp append_assoc)
      (word_then laws (codes "class") (record { nonempty = omega arith; in_word = refl }) refl
      (space_then laws (word_then laws class.name (name_is_word class.name named) refl
      (space_then laws (mark_then laws 61 Equals refl (runs_read (runs_of class.letters) good))))))

-- ---- what they declare

items_back : (runs : List (List ℕ × ℤ)) → further_items (flat_map run_tokens runs) ≡ Some (map run_item runs)
items_back [] = refl
items_back (run ∷ runs) = step run.1 refl (items_back runs)
  where
    step : (weight : ℤ) → run.1 ≡ weight → further_items (flat_map run_tokens runs) ≡ Some (map run_item runs)
        → further_items (flat_map run_tokens (run ∷ runs)) ≡ Some (map run_item (run ∷ runs))
    step (pos n) e others = rw (e, others) refl
    step (negsuc n) e others = rw (e, others) refl

some_items : (runs : List (List ℕ × ℤ)) → SomeRuns runs → items_of (flat_map run_tokens runs) ≡ Some (map run_item runs)
some_items [] some = cc (some.are)
some_items (run ∷ runs) some = items_back (run ∷ runs)

class_declares : (version : ℕ) (class : Class) → SomeRuns (runs_of class.letters)
    → declaration_of version (Word (codes "class") ∷ Word class.name ∷ Equals ∷ flat_map run_tokens (runs_of class.letters)) ≡ Some (class_declaration class)
class_declares version class some = rw (some_items (runs_of class.letters) some) refl

-- ---- bytes

run_prints : (run : List ℕ × ℤ) → IsRun run → Prints (run_text run)
run_prints run is = prints-cons 32 refl (prints-append (quoted_prints run.0 is.printable) (prints-cons 32 refl (signed_prints run.1 is.in_range)))

runs_print : (runs : List (List ℕ × ℤ)) → AllByRecursion IsRun runs → AllByRecursion (λ run. Prints (run_text run)) runs
runs_print [] good = tt
runs_print (run ∷ runs) good = (run_prints run good.0, runs_print runs good.1)

class_prints : (class : Class) → is_name class.name ≡ true → AllByRecursion IsRun (runs_of class.letters) → Prints (class_content class)
class_prints class named good =
    prints-append (prints-append (prints-append (literal_prints (codes "class ") refl) (word_prints class.name (name_is_word class.name named))) (literal_prints (codes " =") refl))
    (prints-flat_map run_text (runs_of class.letters) (runs_print (runs_of class.letters) good))

-- what a well-formed class is made of
pub record IsClass (class : Class) : Type 0 where
  pub named : is_name class.name ≡ true
  pub some_letters : 1 ≤ length class.letters
  pub entries : list_all is_entry class.letters ≡ true
  pub distinct : letters_are_distinct class.letters ≡ true

pub class_parts : (class : Class) → is_class class ≡ true → IsClass class
class_parts class h =
    let last = and_parts (is_name class.name && nat_le 1 (length class.letters) && list_all is_entry class.letters) (letters_are_distinct class.letters) h in
    let third = and_parts (is_name class.name && nat_le 1 (length class.letters)) (list_all is_entry class.letters) last.0 in
    let first = and_parts (is_name class.name) (nat_le 1 (length class.letters)) third.0 in
    record { named = first.0; some_letters = leb-true _ _ first.1; entries = third.1; distinct = last.1 }

runs_of_some : (letters : List (ℕ × ℤ)) → 1 ≤ length letters → SomeRuns (runs_of letters)
runs_of_some [] some = absurd (omega arith)
runs_of_some (entry ∷ letters) some = some_runs entry (runs_of letters)

pub class_line_declares : (laws : TokenLaws) (version : ℕ) (class : Class) → is_class class ≡ true → Declares version (class_content class) (class_declaration class)
class_line_declares laws version class h =
    let is = class_parts class h in
    let good = good_runs class.letters is.entries in
    let prints = class_prints class is.named good in
    record {
      printable = prints.all;
      says = says_declaration version (class_content class) _ (class_declaration class) refl prints.all (class_reads laws class is.named good)
          (class_declares version class (runs_of_some class.letters is.some_letters));
      other = rw (class_reads laws class is.named good).are refl;
    }
