-- A text whose lines are line 1, header lines that declare something, the `words` line and words.
use Rattle.std.proofs.Common.{◌≡◌, ℕ, suc, ◌+◌, codes, true, false, cond, ltb, Some, List, [], ◌∷◌, ◌++◌, length, map, drop, refl, ap, arith, lt-ltb, length-append}
use Rattle.std.specs.List.{list_all, position_or_len, AllZip}
use Rattle.std.specs.Fmt.{decimal}
use Rattle.std.proofs.Math.Seq.{drop-append-add}
use Rattle.adp_model.specs.Printable.{is_printable_byte}
use Rattle.job_texts.specs.LineTokens.{Token}
use Rattle.job_texts.specs.JobLines.{job_lines, is_first_line, is_second_format, is_skipped, is_words_line, up_to_words_line}
use Rattle.job_texts.specs.Declarations.{Declaration, Words, Skipped, Says, declaration_of, header_line}
use Rattle.job_texts.specs.DeclaredNames.{TextLines, text_lines}
use Rattle.spelled_texts.proofs.ReadTokens.{Reads}

-- a header line that declares this in a format, and is not the `words` line
pub record Declares (version : ℕ) (content : List ℕ) (declaration : Declaration) : Type 0 where
  pub printable : list_all is_printable_byte content ≡ true
  pub says : header_line version content ≡ Says declaration
  pub other : is_words_line content ≡ false

-- lines that declare these, one after the other
abbrev pub Declare : ℕ → List (List ℕ) → List Declaration → Type 0
Declare version contents declared = AllZip (Declares version) contents declared

pub says_declaration : (version : ℕ) (content : List ℕ) (tokens : List Token) (declaration : Declaration) → is_skipped content ≡ false → list_all is_printable_byte content ≡ true
    → Reads content tokens → declaration_of version tokens ≡ Some declaration → header_line version content ≡ Says declaration
says_declaration version content tokens declaration shown printable reads declares = rw (shown, printable, reads.are, declares) refl

-- line 1 of a text in this format
abbrev pub first_line : ℕ → List ℕ
first_line version = codes "adp " ++ decimal version

-- there is a format of this number, and its line 1 says so
pub record IsFormat (version : ℕ) : Type 0 where
  pub printable : list_all is_printable_byte (first_line version) ≡ true
  pub first : is_first_line (first_line version) ≡ true
  pub said : cond (is_second_format (first_line version)) 2 1 ≡ version

-- the contents of lines around header lines
abbrev pub framed : ℕ → List (List ℕ) → List (List ℕ) → List (List ℕ)
framed version contents words = first_line version ∷ (contents ++ codes "words" ∷ words)

-- a text of such lines
abbrev pub framed_text : ℕ → List (List ℕ) → List Declaration → List (List ℕ) → TextLines
framed_text version contents declared words = record {
  version = version;
  lines = framed version contents words;
  header = Skipped ∷ map Says (declared ++ Words ∷ []);
  words_line = Some (length declared + 2);
  words = words;
}

pub declare-append : (version : ℕ) (contents : List (List ℕ)) (declared : List Declaration) (contents' : List (List ℕ)) (declared' : List Declaration) → Declare version contents declared
    → Declare version contents' declared'
    → Declare version (contents ++ contents') (declared ++ declared')
declare-append version [] [] contents' declared' h h' = h'
declare-append version [] (d ∷ declared) contents' declared' h h' = absurd h
declare-append version (content ∷ contents) [] contents' declared' h h' = absurd h
declare-append version (content ∷ contents) (d ∷ declared) contents' declared' h h' = (h.0, declare-append version contents declared contents' declared' h.1 h')

pub declare_printable : (version : ℕ) (contents : List (List ℕ)) (declared : List Declaration) → Declare version contents declared → list_all (list_all is_printable_byte) contents ≡ true
declare_printable version [] [] h = refl
declare_printable version [] (d ∷ declared) h = absurd h
declare_printable version (content ∷ contents) [] h = absurd h
declare_printable version (content ∷ contents) (d ∷ declared) h = rw (h.0.printable, declare_printable version contents declared h.1) refl

header_said : (version : ℕ) (contents : List (List ℕ)) (declared : List Declaration) (words : List (List ℕ)) → Declare version contents declared
    → map (header_line version) (up_to_words_line (contents ++ codes "words" ∷ words)) ≡ map Says (declared ++ Words ∷ [])
header_said version [] [] words h = refl
header_said version [] (d ∷ declared) words h = absurd h
header_said version (content ∷ contents) [] words h = absurd h
header_said version (content ∷ contents) (d ∷ declared) words h = rw (h.0.other, h.0.says, header_said version contents declared words h.1) refl

place_of_words : (version : ℕ) (contents : List (List ℕ)) (declared : List Declaration) (words : List (List ℕ)) → Declare version contents declared
    → position_or_len is_words_line (contents ++ codes "words" ∷ words) ≡ length declared
place_of_words version [] [] words h = refl
place_of_words version [] (d ∷ declared) words h = absurd h
place_of_words version (content ∷ contents) [] words h = absurd h
place_of_words version (content ∷ contents) (d ∷ declared) words h = rw (h.0.other, place_of_words version contents declared words h.1) (omega arith)

pub as_many : (version : ℕ) (contents : List (List ℕ)) (declared : List Declaration) → Declare version contents declared → length contents ≡ length declared
as_many version [] [] h = refl
as_many version [] (d ∷ declared) h = absurd h
as_many version (content ∷ contents) [] h = absurd h
as_many version (content ∷ contents) (d ∷ declared) h = ap suc (as_many version contents declared h.1)

words_behind : (contents : List (List ℕ)) (words : List (List ℕ)) → drop (length contents + 1) (contents ++ codes "words" ∷ words) ≡ words
words_behind contents words = drop-append-add contents (codes "words" ∷ words) 1

pub text_of_framed : (version : ℕ) (bytes : List ℕ) (contents : List (List ℕ)) (declared : List Declaration) (words : List (List ℕ)) → IsFormat version
    → job_lines bytes ≡ framed version contents words
    → Declare version contents declared → text_lines bytes ≡ framed_text version contents declared words
text_of_framed version bytes contents declared words format lines_are h =
    let count = as_many version contents declared h in
    let place = place_of_words version contents declared words h in
    let inside : ltb (length declared) (length (contents ++ codes "words" ∷ words)) ≡ true = lt-ltb _ _ (simp length-append (omega arith)) in
    rw (lines_are, format.said, header_said version contents declared words h, place, inside, ← count, words_behind) refl
