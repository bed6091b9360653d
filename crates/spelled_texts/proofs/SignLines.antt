-- The spelled line of a sign declares it.
use Rattle.std.proofs.Common.{◌≡◌, ℕ, ◌≤◌, true, ◌&&◌, nat_le, codes, Some, List, [], ◌∷◌, ◌++◌, length, refl, append_assoc, arith, leb-true}
use Rattle.std.specs.List.{flat_map, AllByRecursion}
use Rattle.std.proofs.lemmas.Bool.{and_parts}
use Rattle.adp_model.specs.declared.grammar.Kind.{Kind}
use Rattle.adp_model.specs.declared.grammar.Kind.TheVariants as kinds
use Rattle.adp_model.specs.declared.grammar.Sign.{Sign}
use Rattle.adp_model.specs.WellFormed.{is_name, is_sign}
use Rattle.job_texts.specs.Spelling.{separated, kind_text}
use Rattle.job_texts.specs.LineTokens.{Token, Word, OpenBracket, CloseBracket, Comma}
use Rattle.job_texts.specs.Declarations.{kinds_of}
use Rattle.spelled_texts.proofs.ReadTokens.{TokenLaws, Reads, IsWord, nothing_reads, name_is_word, word_then, mark_then, space_then, same_text_reads}
use Rattle.spelled_texts.proofs.Printing.{Prints, literal_prints, prints-append, prints_joined, word_prints}
use Rattle.spelled_texts.proofs.Contents.{sign_content, sign_declaration}
use Rattle.spelled_texts.proofs.Joined.{Begins, comma_separates, joined_read}
use Rattle.spelled_texts.proofs.HeaderOf.{Declares, says_declaration}

-- what a well-formed sign is made of
pub record IsSign (sign : Sign) : Type 0 where
  pub named : is_name sign.name ≡ true
  pub some : 1 ≤ length sign.kinds
  pub few : length sign.kinds ≤ 4

pub sign_parts : (sign : Sign) → is_sign sign ≡ true → IsSign sign
sign_parts sign h =
    let last = and_parts (is_name sign.name && nat_le 1 (length sign.kinds)) (nat_le (length sign.kinds) 4) h in
    let first = and_parts (is_name sign.name) (nat_le 1 (length sign.kinds)) last.0 in
    record { named = first.0; some = leb-true _ _ first.1; few = leb-true _ _ last.1 }

kind_is_word : (kind : Kind) → IsWord (kind_text kind)
kind_is_word kinds.Score = record { nonempty = omega arith; in_word = refl }
kind_is_word kinds.Token = record { nonempty = omega arith; in_word = refl }

abbrev kind_tokens : Kind → List Token
kind_tokens kind = Word (kind_text kind) ∷ []

abbrev kinds_tokens : List Kind → List Token
kinds_tokens [] = []
kinds_tokens (kind ∷ kinds) = Word (kind_text kind) ∷ (flat_map (λ other. Comma ∷ kind_tokens other) kinds ++ CloseBracket ∷ [])

module _ (laws : TokenLaws) where
  kinds_begin : (kinds : List Kind) → AllByRecursion (λ kind. Begins (kind_text kind) (kind_tokens kind)) kinds
  kinds_begin [] = tt
  kinds_begin (kind ∷ kinds) = (record { before = λ rest others ends reads. word_then laws (kind_text kind) (kind_is_word kind) ends reads }, kinds_begin kinds)

  kinds_read : (kinds : List Kind) → 1 ≤ length kinds → Reads (separated kind_text (codes ", ") kinds ++ codes ")") (kinds_tokens kinds)
  kinds_read [] some = absurd (omega arith)
  kinds_read (kind ∷ kinds) some =
      joined_read kind_text kind_tokens (codes ", ") Comma (comma_separates laws) kind kinds (kinds_begin (kind ∷ kinds)) (codes ")") (CloseBracket ∷ []) refl
      (mark_then laws 41 CloseBracket refl nothing_reads)

  sign_reads : (sign : Sign) → IsSign sign → Reads (sign_content sign) (Word (codes "sign") ∷ Word sign.name ∷ OpenBracket ∷ kinds_tokens sign.kinds)
  sign_reads sign is =
      same_text_reads (simp append_assoc)
      (word_then laws (codes "sign") (record { nonempty = omega arith; in_word = refl }) refl
      (space_then laws (word_then laws sign.name (name_is_word sign.name is.named) refl
      (mark_then laws 40 OpenBracket refl (kinds_read sign.kinds is.some)))))

kinds_back : (kind : Kind) (kinds : List Kind) → kinds_of (kinds_tokens (kind ∷ kinds)) ≡ Some (kind ∷ kinds)
kinds_back kinds.Score [] = refl
kinds_back kinds.Token [] = refl
kinds_back kinds.Score (next ∷ kinds) = rw (kinds_back next kinds) refl
kinds_back kinds.Token (next ∷ kinds) = rw (kinds_back next kinds) refl

some_kinds_back : (kinds : List Kind) → 1 ≤ length kinds → kinds_of (kinds_tokens kinds) ≡ Some kinds
some_kinds_back [] some = absurd (omega arith)
some_kinds_back (kind ∷ kinds) some = kinds_back kind kinds

kinds_print : (kinds : List Kind) → AllByRecursion (λ kind. Prints (kind_text kind)) kinds
kinds_print [] = tt
kinds_print (kind ∷ kinds) = (word_prints (kind_text kind) (kind_is_word kind), kinds_print kinds)

sign_prints : (sign : Sign) → IsSign sign → Prints (sign_content sign)
sign_prints sign is =
    prints-append
    (prints-append (prints-append (prints-append (literal_prints (codes "sign ") refl) (word_prints sign.name (name_is_word sign.name is.named))) (literal_prints (codes "(") refl))
    (prints_joined kind_text (codes ", ") (literal_prints (codes ", ") refl) sign.kinds (kinds_print sign.kinds)))
    (literal_prints (codes ")") refl)

pub sign_line_declares : (laws : TokenLaws) (version : ℕ) (sign : Sign) → is_sign sign ≡ true → Declares version (sign_content sign) (sign_declaration sign)
sign_line_declares laws version sign h =
    let is = sign_parts sign h in
    let prints = sign_prints sign is in
    let reads = sign_reads laws sign is in
    record {
      printable = prints.all;
      says = says_declaration version (sign_content sign) _ (sign_declaration sign) refl prints.all reads (rw (some_kinds_back sign.kinds is.some) refl);
      other = rw reads.are refl;
    }
