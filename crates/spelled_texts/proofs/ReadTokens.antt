-- Texts with the tokens that they say, put together piece by piece.
use Rattle.std.proofs.Common.{◌≡◌, ℕ, ◌<◌, true, false, ◌&&◌, nat_le, codes, Some, Ok, List, [], ◌∷◌, ◌++◌, length, refl, ◌∙◌, ap, arith}
use Rattle.std.specs.List.{list_all}
use Rattle.std.proofs.lemmas.Bool.{and_parts}
use Rattle.adp_model.specs.TreeText.{quoted}
use Rattle.adp_model.specs.WellFormed.{is_letter_byte, is_word_byte, is_name}
use Rattle.job_texts.specs.LineTokens.{Token, Word, Quoted, Dots, before_tokens, begins_word, is_one_of, mark_of, tokens_of}

-- the laws of tokens
pub record TokenLaws : Type 0 where
  pub words : (first : ℕ) (others text : List ℕ) → list_all is_word_byte (first ∷ others) ≡ true → begins_word text ≡ false
      → tokens_of ((first ∷ others) ++ text) ≡ before_tokens (Word (first ∷ others)) (tokens_of text)
  pub marks : (byte : ℕ) (mark : Token) (text : List ℕ) → mark_of byte ≡ Some mark → tokens_of (byte ∷ text) ≡ before_tokens mark (tokens_of text)
  pub spaces : (byte : ℕ) (text : List ℕ) → is_one_of (codes " ") byte ≡ true → tokens_of (byte ∷ text) ≡ tokens_of text
  pub dots : (text : List ℕ) → tokens_of (codes ".." ++ text) ≡ before_tokens Dots (tokens_of text)
  pub quotes : (letters text : List ℕ) → tokens_of (quoted letters ++ text) ≡ before_tokens (Quoted letters) (tokens_of text)

-- the text says these tokens
pub record Reads (text : List ℕ) (tokens : List Token) : Type 0 where
  pub are : tokens_of text ≡ Ok tokens

-- a word's bytes, one at least
pub record IsWord (word : List ℕ) : Type 0 where
  pub nonempty : 0 < length word
  pub in_word : list_all is_word_byte word ≡ true

pub nothing_reads : Reads [] []
nothing_reads = record { are = refl }

pub name_is_word : (name : List ℕ) → is_name name ≡ true → IsWord name
name_is_word [] h = absurd cc
name_is_word (first ∷ others) h =
    let parts = and_parts (is_letter_byte first && list_all is_word_byte others) (nat_le (length others) 31) h in
    let bytes = and_parts (is_letter_byte first) (list_all is_word_byte others) parts.0 in
    record { nonempty = omega arith; in_word = rw (bytes.0, bytes.1) refl }

module _ (laws : TokenLaws) where
  pub word_then : {rest : List ℕ} {tokens : List Token} (word : List ℕ) → IsWord word → begins_word rest ≡ false → Reads rest tokens → Reads (word ++ rest) (Word word ∷ tokens)
  word_then {rest} [] is ends reads = absurd (omega (arith, is.nonempty))
  word_then {rest} (first ∷ others) is ends reads = record { are = laws.words first others rest is.in_word ends ∙ ap (before_tokens (Word (first ∷ others))) reads.are }

  pub mark_then : {rest : List ℕ} {tokens : List Token} (byte : ℕ) (mark : Token) → mark_of byte ≡ Some mark → Reads rest tokens → Reads (byte ∷ rest) (mark ∷ tokens)
  mark_then {rest} byte mark is reads = record { are = laws.marks byte mark rest is ∙ ap (before_tokens mark) reads.are }

  pub space_then : {rest : List ℕ} {tokens : List Token} → Reads rest tokens → Reads (32 ∷ rest) tokens
  space_then {rest} reads = record { are = laws.spaces 32 rest refl ∙ reads.are }

  pub dots_then : {rest : List ℕ} {tokens : List Token} → Reads rest tokens → Reads (46 ∷ 46 ∷ rest) (Dots ∷ tokens)
  dots_then {rest} reads = record { are = laws.dots rest ∙ ap (before_tokens Dots) reads.are }

  pub quoted_then : {rest : List ℕ} {tokens : List Token} (letters : List ℕ) → Reads rest tokens → Reads (quoted letters ++ rest) (Quoted letters ∷ tokens)
  quoted_then {rest} letters reads = record { are = laws.quotes letters rest ∙ ap (before_tokens (Quoted letters)) reads.are }

pub same_text_reads : {text other : List ℕ} {tokens : List Token} → text ≡ other → Reads other tokens → Reads text tokens
same_text_reads same reads = rw same reads
