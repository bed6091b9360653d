-- The spelled line of a sign's term declares it.
use Rattle.std.proofs.Common.{◌≡◌, ℕ, ◌+◌, ◌^◌, ◌<◌, ◌≤◌, codes, Some, List, [], ◌∷◌, ◌++◌, length, refl, append_assoc, arith}
use Rattle.std.specs.List.{flat_map, AllByRecursion}
use Rattle.adp_model.specs.declared.grammar.Kind.{Kind}
use Rattle.adp_model.specs.declared.grammar.Sign.{Sign}
use Rattle.adp_model.specs.declared.grammar.Term.{Term}
use Rattle.job_texts.specs.Spelling.{separated, variables, term_text}
use Rattle.job_texts.specs.LineTokens.{Token, Word, OpenBracket, CloseBracket, Comma, Equals}
use Rattle.job_texts.specs.Declarations.{let_tokens}
use Rattle.spelled_texts.proofs.ReadTokens.{TokenLaws, Reads, IsWord, name_is_word, word_then, mark_then, space_then, same_text_reads}
use Rattle.spelled_texts.proofs.Printing.{Prints, literal_prints, prints-append, prints_joined, word_prints}
use Rattle.spelled_texts.proofs.Numbers.{variable_is_word}
use Rattle.spelled_texts.proofs.Contents.{let_content, let_declaration}
use Rattle.spelled_texts.proofs.Joined.{Begins, comma_separates, joined_read}
use Rattle.spelled_texts.proofs.SignLines.{IsSign}
use Rattle.spelled_texts.proofs.Terms.{IsTerm}
use Rattle.spelled_texts.proofs.HeaderOf.{Declares, says_declaration}

abbrev own_text : List ℕ → List ℕ
own_text name = name

abbrev name_tokens : List ℕ → List Token
name_tokens name = Word name ∷ []

-- the tokens from the variables on
abbrev names_tokens : List (List ℕ) → List Token → List Token
names_tokens [] tokens = tokens
names_tokens (name ∷ names) tokens = Word name ∷ (flat_map (λ other. Comma ∷ name_tokens other) names ++ CloseBracket ∷ Equals ∷ tokens)

variables_are_words : (number : ℕ) (kinds : List Kind) → number + length kinds < 2 ^ 64 → AllByRecursion IsWord (variables number kinds)
variables_are_words number [] small = tt
variables_are_words number (kind ∷ kinds) small = (variable_is_word number (omega arith), variables_are_words (number + 1) kinds (omega arith))

some_variables : (number : ℕ) (kinds : List Kind) → 1 ≤ length kinds → 1 ≤ length (variables number kinds)
some_variables number [] some = absurd (omega arith)
some_variables number (kind ∷ kinds) some = omega arith

module _ (laws : TokenLaws) where
  names_begin : (names : List (List ℕ)) → AllByRecursion IsWord names → AllByRecursion (λ name. Begins (own_text name) (name_tokens name)) names
  names_begin [] are = tt
  names_begin (name ∷ names) are = (record { before = λ rest others ends reads. word_then laws name are.0 ends reads }, names_begin names are.1)

  names_read : (names : List (List ℕ)) (rest : List ℕ) (tokens : List Token) → 1 ≤ length names → AllByRecursion IsWord names → Reads rest tokens
      → Reads (separated own_text (codes ", ") names ++ (codes ") = " ++ rest)) (names_tokens names tokens)
  names_read [] rest tokens some are reads = absurd (omega arith)
  names_read (name ∷ names) rest tokens some are reads =
      joined_read own_text name_tokens (codes ", ") Comma (comma_separates laws) name names (names_begin (name ∷ names) are) (codes ") = " ++ rest) (CloseBracket ∷ Equals ∷ tokens) refl
      (mark_then laws 41 CloseBracket refl (space_then laws (mark_then laws 61 Equals refl (space_then laws reads))))

  let_reads : (entry : Sign × Term) (tokens : List Token) → IsSign entry.0 → Reads (term_text entry.1) tokens
      → Reads (let_content entry) (Word (codes "let") ∷ Word entry.0.name ∷ OpenBracket ∷ names_tokens (variables 1 entry.0.kinds) tokens)
  let_reads entry tokens is reads =
      let few = is.few in
      let names = names_read (variables 1 entry.0.kinds) (term_text entry.1) tokens (some_variables 1 entry.0.kinds is.some) (variables_are_words 1 entry.0.kinds (omega arith)) reads in
      same_text_reads (simp append_assoc)
      (word_then laws (codes "let") (record { nonempty = omega arith; in_word = refl }) refl
      (space_then laws (word_then laws entry.0.name (name_is_word entry.0.name is.named) refl
      (mark_then laws 40 OpenBracket refl names))))

names_back : (name : List ℕ) (names : List (List ℕ)) (tokens : List Token) → let_tokens (names_tokens (name ∷ names) tokens) ≡ Some (record { variables = name ∷ names; term = tokens })
names_back name [] tokens = refl
names_back name (next ∷ names) tokens = rw (names_back next names tokens) refl

some_names_back : (names : List (List ℕ)) (tokens : List Token) → 1 ≤ length names → let_tokens (names_tokens names tokens) ≡ Some (record { variables = names; term = tokens })
some_names_back [] tokens some = absurd (omega arith)
some_names_back (name ∷ names) tokens some = names_back name names tokens

names_print : (names : List (List ℕ)) → AllByRecursion IsWord names → AllByRecursion (λ name. Prints (own_text name)) names
names_print [] are = tt
names_print (name ∷ names) are = (word_prints name are.0, names_print names are.1)

let_prints : (entry : Sign × Term) → IsSign entry.0 → Prints (term_text entry.1) → Prints (let_content entry)
let_prints entry is term =
    let few = is.few in
    prints-append
    (prints-append
    (prints-append (prints-append (prints-append (literal_prints (codes "let ") refl) (word_prints entry.0.name (name_is_word entry.0.name is.named))) (literal_prints (codes "(") refl))
    (prints_joined own_text (codes ", ") (literal_prints (codes ", ") refl) (variables 1 entry.0.kinds) (names_print (variables 1 entry.0.kinds) (variables_are_words 1 entry.0.kinds (omega arith)))))
    (literal_prints (codes ") = ") refl))
    term

pub let_line_declares : (laws : TokenLaws) (version : ℕ) (entry : Sign × Term) → IsSign entry.0 → IsTerm version entry → Declares version (let_content entry) (let_declaration entry)
let_line_declares laws version entry is term =
    let prints = let_prints entry is term.prints in
    let reads = let_reads laws entry term.text.tokens is term.text.reads in
    record {
      printable = prints.all;
      says = says_declaration version (let_content entry) _ (let_declaration entry) refl prints.all reads
          (rw (some_names_back (variables 1 entry.0.kinds) term.text.tokens (some_variables 1 entry.0.kinds is.some), term.text.spells) refl);
      other = rw reads.are refl;
    }
