-- The `words` line, by what it says.
use Rattle.std.proofs.Common.{◌≡◌, ℕ, zero, suc, ◌+◌, ◌==◌, Bool, true, false, ◌&&◌, ◌||◌, not, cond, codes, Option, Some, None, Result, Ok, Err, List, [], ◌∷◌, map, take, nat_eq, refl, sym, ◌∙◌, ap, subst, arith}
use Rattle.std.specs.List.{list_all, take_while, prefix_len}
use Rattle.std.specs.Option.{option_map, option_and_then}
use lib.Pointwise.{pointwise}
use Rattle.std.proofs.lemmas.Bool.{eqb-true}
use Rattle.std.proofs.lemmas.Bool.Decides.{nat_tests}
use Rattle.adp_model.specs.WellFormed.{is_word_byte}
use Rattle.adp_model.specs.Printable.{is_printable_byte}
use Rattle.job_texts.specs.LineTokens.{Token, Word, Quoted, Equals, OpenBracket, Dots, PlacedToken, Offence, StrayByte, OpenQuote, ByteSort, SpaceByte, WordByte, QuoteByte, DotByte, MarkByte, OtherByte, byte_sort, Space, Begins, Stops, beginning, quoted_rest, QuotedRest, with_token, tokens_from, tokens_of, is_one_of}
use Rattle.job_texts.specs.LetTerms.{term_of_tokens}
use Rattle.job_texts.specs.JobLines.{is_skipped, is_words_line}
use Rattle.job_texts.specs.Declarations as forms
use Rattle.grammar_text.specs.Collecting.{is_last}

-- ---- what tokens say

abbrev pub only_words : Result (List Token) Offence → Bool
only_words (Ok (Word word ∷ [])) = pointwise nat_eq word (codes "words")
only_words tokens = false

abbrev by_shape : Option forms.Declaration → forms.HeaderLine
by_shape None = forms.Shapeless
by_shape (Some declaration) = forms.Says declaration

abbrev by_tokens : ℕ → Result (List Token) Offence → forms.HeaderLine
by_tokens version (Err OpenQuote) = forms.Unclosed
by_tokens version (Err StrayByte) = forms.Shapeless
by_tokens version (Ok tokens) = by_shape ((forms.declaration_of version) tokens)

-- the shape is the `words` line's
abbrev says_words : Option forms.Declaration → Bool
says_words shape = is_last (by_shape shape)

either_says_none : (test : Bool) (one other : Option forms.Declaration) → says_words one ≡ false → says_words other ≡ false → says_words (cond test one other) ≡ false
either_says_none true one other h k = h
either_says_none false one other h k = k

made_says_none : {X : Type 0} (make : X → forms.Declaration) (found : Option X) → ((x : X) → says_words (Some (make x)) ≡ false) → says_words (option_map make found) ≡ false
made_says_none make None h = refl
made_says_none make (Some x) h = h x

then_says_none : {X : Type 0} (make : X → Option forms.Declaration) (found : Option X) → ((x : X) → says_words (make x) ≡ false) → says_words (option_and_then make found) ≡ false
then_says_none make None h = refl
then_says_none make (Some x) h = h x

class_says_none : (tokens : List Token) → says_words (forms.class_of tokens) ≡ false
class_says_none (Word name ∷ Equals ∷ tokens) = made_says_none _ (forms.items_of tokens) (λ x. refl)
class_says_none tokens = refl

sign_says_none : (tokens : List Token) → says_words (forms.sign_of tokens) ≡ false
sign_says_none (Word name ∷ OpenBracket ∷ tokens) = made_says_none _ (forms.kinds_of tokens) (λ x. refl)
sign_says_none tokens = refl

algebra_says_none : (tokens : List Token) → says_words (forms.algebra_of tokens) ≡ false
algebra_says_none (Word name ∷ Word goal ∷ []) = made_says_none _ (forms.goal_of goal) (λ x. refl)
algebra_says_none tokens = refl

let_says_none : (version : ℕ) (tokens : List Token) → says_words ((forms.let_of version) tokens) ≡ false
let_says_none version (Word sign ∷ OpenBracket ∷ tokens) = then_says_none _ (forms.let_tokens tokens) (λ found. made_says_none _ (term_of_tokens version found.term) (λ x. refl))
let_says_none version tokens = refl

rule_says_none : (version : ℕ) (tokens : List Token) → says_words ((forms.rule_of version) tokens) ≡ false
rule_says_none version (Word name ∷ Equals ∷ tokens) = made_says_none _ (option_and_then (forms.allowed version) (forms.alternatives_of tokens)) (λ x. refl)
rule_says_none version tokens = refl

axiom_says_none : (tokens : List Token) → says_words (forms.axiom_of tokens) ≡ false
axiom_says_none (Word rule ∷ []) = refl
axiom_says_none tokens = refl

-- another first word says no `words`
other_says_none : (version : ℕ) (word : List ℕ) (tokens : List Token) → forms.is_word (codes "words") word ≡ false → says_words ((forms.behind_word version) word tokens) ≡ false
other_says_none version word tokens other =
    either_says_none (forms.is_word (codes "class") word) _ _ (class_says_none tokens)
    (either_says_none (forms.is_word (codes "sign") word) _ _ (sign_says_none tokens)
    (either_says_none (forms.is_word (codes "algebra") word) _ _ (algebra_says_none tokens)
    (either_says_none (forms.is_word (codes "let") word) _ _ (let_says_none version tokens)
    (either_says_none (forms.is_word (codes "rule") word) _ _ (rule_says_none version tokens)
    (either_says_none (forms.is_word (codes "grammar") word) _ _ (axiom_says_none tokens)
    (rw other refl))))))

both : (a b : Bool) → (a && b) ≡ true → (a ≡ true) × (b ≡ true)
both true b h = (refl, h)
both false b h = cc

same_text : (xs ys : List ℕ) → pointwise nat_eq xs ys ≡ true → xs ≡ ys
same_text [] [] h = refl
same_text [] (y ∷ ys) h = cc
same_text (x ∷ xs) [] h = cc
same_text (x ∷ xs) (y ∷ ys) h =
    let each = both (nat_eq x y) (pointwise nat_eq xs ys) h in
    let first : x ≡ y = eqb-true x y each.0 in
    let others : xs ≡ ys = same_text xs ys each.1 in
    cc

words_say : (version : ℕ) (tokens : List Token) → says_words ((forms.behind_word version) (codes "words") tokens) ≡ only_words (Ok (Word (codes "words") ∷ tokens))
words_say version [] = refl
words_say version (token ∷ tokens) = refl

is_no_words_line : (word : List ℕ) (tokens : List Token) → forms.is_word (codes "words") word ≡ false → only_words (Ok (Word word ∷ tokens)) ≡ false
is_no_words_line word (token ∷ tokens) other = refl
is_no_words_line word [] other = step (pointwise nat_eq word (codes "words")) refl
  where
    step : (is : Bool) → pointwise nat_eq word (codes "words") ≡ is → pointwise nat_eq word (codes "words") ≡ false
    step false e = e
    step true e =
        let contrary : true ≡ false = subst (λ (w : List ℕ). forms.is_word (codes "words") w ≡ false) (same_text word (codes "words") e) other in
        cc

word_says : (version : ℕ) (word : List ℕ) (tokens : List Token) → says_words ((forms.behind_word version) word tokens) ≡ only_words (Ok (Word word ∷ tokens))
word_says version word tokens = step (forms.is_word (codes "words") word) refl
  where
    step : (is : Bool) → forms.is_word (codes "words") word ≡ is → says_words ((forms.behind_word version) word tokens) ≡ only_words (Ok (Word word ∷ tokens))
    step true e =
        subst (λ (w : List ℕ). says_words ((forms.behind_word version) w tokens) ≡ only_words (Ok (Word w ∷ tokens))) (same_text (codes "words") word e) (words_say version tokens)
    step false e = other_says_none version word tokens e ∙ sym (is_no_words_line word tokens e)

tokens_say : (version : ℕ) (tokens : Result (List Token) Offence) → is_last (by_tokens version tokens) ≡ only_words tokens
tokens_say version (Err OpenQuote) = refl
tokens_say version (Err StrayByte) = refl
tokens_say version (Ok []) = refl
tokens_say version (Ok (Word word ∷ tokens)) = word_says version word tokens
tokens_say version (Ok (token ∷ tokens)) = refl

-- ---- lines that are skipped

-- what placed tokens say
abbrev says : Result (List PlacedToken) Offence → Result (List Token) Offence
says (Ok tokens) = Ok (map (λ (placed : PlacedToken). placed.token) tokens)
says (Err offence) = Err offence

says_tokens : (text : List ℕ) → tokens_of text ≡ says (tokens_from 0 0 text)
says_tokens text = refl

is_byte : (other byte : ℕ) → is_one_of (other ∷ []) byte ≡ true → other ≡ byte
is_byte other byte h = step (byte == other) refl h
  where
    step : (is : Bool) → (byte == other) ≡ is → (is || false) ≡ true → other ≡ byte
    step true e h = sym (eqb-true byte other e)
    step false e h = cc

spaces_say_nothing : (place : ℕ) (text : List ℕ) → list_all (is_one_of (codes " ")) text ≡ true → tokens_from 0 place text ≡ Ok []
spaces_say_nothing place [] h = refl
spaces_say_nothing place (byte ∷ text) h =
    let each = both (is_one_of (codes " ") byte) (list_all (is_one_of (codes " ")) text) h in
    subst (λ (b : ℕ). tokens_from 0 place (b ∷ text) ≡ Ok []) (is_byte 32 byte each.0) (spaces_say_nothing (place + 1) text each.1)

skipped_says_none : (line : List ℕ) → is_skipped line ≡ true → only_words (tokens_of line) ≡ false
skipped_says_none [] h = refl
skipped_says_none (byte ∷ text) h = step (list_all (is_one_of (codes " ")) (byte ∷ text)) (is_one_of (codes "#") byte) refl refl h
  where
    step : (spaces comment : Bool) → list_all (is_one_of (codes " ")) (byte ∷ text) ≡ spaces → is_one_of (codes "#") byte ≡ comment → (spaces || comment) ≡ true
        → only_words (tokens_of (byte ∷ text)) ≡ false
    step true comment s k h = ap only_words (says_tokens (byte ∷ text) ∙ ap says (spaces_say_nothing 0 (byte ∷ text) s))
    step false true s k h = subst (λ (b : ℕ). only_words (tokens_of (b ∷ text)) ≡ false) (is_byte 35 byte k) refl
    step false false s k h = cc

-- ---- bytes that are not printable

word_byte_is_printable : (byte : ℕ) → is_word_byte byte ≡ true → is_printable_byte byte ≡ true
word_byte_is_printable byte h = grind (arith, nat_tests)

no_word_byte : (byte : ℕ) → is_printable_byte byte ≡ false → is_word_byte byte ≡ false
no_word_byte byte h = step (is_word_byte byte) refl
  where
    step : (is : Bool) → is_word_byte byte ≡ is → is_word_byte byte ≡ false
    step true e = cc (word_byte_is_printable byte e)
    step false e = e

no_other : (byte other : ℕ) → is_printable_byte byte ≡ false → is_printable_byte other ≡ true → (byte == other) ≡ false
no_other byte other h k = step (byte == other) refl
  where
    step : (is : Bool) → (byte == other) ≡ is → (byte == other) ≡ false
    step true e = cc (ap is_printable_byte (eqb-true byte other e))
    step false e = e

other_no : (byte other : ℕ) → is_printable_byte byte ≡ false → is_printable_byte other ≡ true → (other == byte) ≡ false
other_no byte other h k = step (other == byte) refl
  where
    step : (is : Bool) → (other == byte) ≡ is → (other == byte) ≡ false
    step true e = cc (ap is_printable_byte (eqb-true other byte e))
    step false e = e

-- a byte that is not printable begins nothing
begins_nothing : (byte : ℕ) → is_printable_byte byte ≡ false → byte_sort byte ≡ OtherByte
begins_nothing byte h =
    rw (no_other byte 32 h refl, no_word_byte byte h, no_other byte 34 h refl, no_other byte 46 h refl)
    (rw (other_no byte 61 h refl, other_no byte 40 h refl, other_no byte 41 h refl, other_no byte 44 h refl, other_no byte 91 h refl, other_no byte 93 h refl)
    (rw (other_no byte 124 h refl, other_no byte 43 h refl, other_no byte 45 h refl, other_no byte 42 h refl) refl))

both_true : (a b : Bool) → a ≡ true → b ≡ true → (a && b) ≡ true
both_true a b h k = rw (h, k) refl

-- a word is printable
word_is_printable : (text : List ℕ) → list_all is_printable_byte (take (prefix_len is_word_byte text) text) ≡ true
word_is_printable [] = refl
word_is_printable (byte ∷ text) = step (is_word_byte byte) refl (word_is_printable text)
  where
    step : (is : Bool) → is_word_byte byte ≡ is → list_all is_printable_byte (take (prefix_len is_word_byte text) text) ≡ true → list_all is_printable_byte (take (prefix_len is_word_byte (byte ∷ text)) (byte ∷ text)) ≡ true
    step true e others =
        let more : (1 + prefix_len is_word_byte text) ≡ suc (prefix_len is_word_byte text) = omega arith in
        rw (e, more)
        (both_true (is_printable_byte byte) (list_all is_printable_byte (take (prefix_len is_word_byte text) text)) (word_byte_is_printable byte e) others)
    step false e others = rw e refl

abbrev unquoted : Token → Bool
unquoted (Quoted letters) = false
unquoted token = true

abbrev is_unquoted : PlacedToken → Bool
is_unquoted placed = unquoted placed.token

-- the tokens behind a first one
record Parted (first : PlacedToken) (rest : Result (List PlacedToken) Offence) (tokens : List PlacedToken) : Type 0 where
  others : List PlacedToken
  rest_is : rest ≡ Ok others
  tokens_are : tokens ≡ first ∷ others

parted : (first : PlacedToken) (rest : Result (List PlacedToken) Offence) (tokens : List PlacedToken) → with_token first rest ≡ Ok tokens → Parted first rest tokens
parted first (Ok others) tokens h = record { others = others; rest_is = refl; tokens_are = cc }
parted first (Err offence) tokens h = cc

-- a text whose tokens are no quoted texts is printable
unquoted_is_printable : (inside place : ℕ) (text : List ℕ) (tokens : List PlacedToken) → tokens_from inside place text ≡ Ok tokens → list_all is_unquoted tokens ≡ true
    → list_all is_printable_byte (take inside text) ≡ true → list_all is_printable_byte text ≡ true
unquoted_is_printable inside place [] tokens h k t = refl
unquoted_is_printable (suc inside) place (byte ∷ text) tokens h k t =
    let each = both (is_printable_byte byte) (list_all is_printable_byte (take inside text)) t in
    both_true (is_printable_byte byte) (list_all is_printable_byte text) each.0 (unquoted_is_printable inside (place + 1) text tokens h k each.1)
unquoted_is_printable zero place (byte ∷ text) tokens h k t =
    step (is_printable_byte byte) refl (byte_sort byte) refl (λ inside tokens. unquoted_is_printable inside (place + 1) text tokens)
  where
    behind : (token : Token) (further : ℕ) → beginning byte text ≡ Begins token further → is_printable_byte byte ≡ true → list_all is_printable_byte (take further text) ≡ true
        → ((inside : ℕ) (tokens : List PlacedToken) → tokens_from inside (place + 1) text ≡ Ok tokens → list_all is_unquoted tokens ≡ true
        → list_all is_printable_byte (take inside text) ≡ true → list_all is_printable_byte text ≡ true)
        → list_all is_printable_byte (byte ∷ text) ≡ true
    behind token further e first these others =
        let parts = parted (record { token = token; from = place; to = place + 1 + further }) (tokens_from further (place + 1) text) tokens (rw e at h) in
        let all : list_all is_unquoted (record { token = token; from = place; to = place + 1 + further } ∷ parts.others) ≡ true = subst (λ (ts : List PlacedToken). list_all is_unquoted ts ≡ true) parts.tokens_are k in
        let each = both (is_unquoted (record { token = token; from = place; to = place + 1 + further })) (list_all is_unquoted parts.others) all in
        both_true (is_printable_byte byte) (list_all is_printable_byte text) first (others further parts.others parts.rest_is each.1 these)

    step : (printable : Bool) → is_printable_byte byte ≡ printable → (sort : ByteSort) → byte_sort byte ≡ sort
        → ((inside : ℕ) (tokens : List PlacedToken) → tokens_from inside (place + 1) text ≡ Ok tokens → list_all is_unquoted tokens ≡ true
        → list_all is_printable_byte (take inside text) ≡ true → list_all is_printable_byte text ≡ true)
        → list_all is_printable_byte (byte ∷ text) ≡ true
    step false e sort s others =
        let stops : beginning byte text ≡ Stops StrayByte = rw (begins_nothing byte e) refl in
        cc (rw stops at h)
    step true e SpaceByte s others =
        let begins : beginning byte text ≡ Space = rw s refl in
        both_true (is_printable_byte byte) (list_all is_printable_byte text) e (others 0 tokens (rw begins at h) k refl)
    step true e WordByte s others =
        behind (Word (byte ∷ take_while is_word_byte text)) (prefix_len is_word_byte text) (rw s refl) e (word_is_printable text) others
    step true e QuoteByte s others = quote (quoted_rest false text) refl
      where
        quote : (rest : Option QuotedRest) → quoted_rest false text ≡ rest → list_all is_printable_byte (byte ∷ text) ≡ true
        quote None q =
            let stops : beginning byte text ≡ Stops OpenQuote = rw (s, q) refl in
            cc (rw stops at h)
        quote (Some rest) q =
            let begins : beginning byte text ≡ Begins (Quoted rest.letters) rest.bytes = rw (s, q) refl in
            let first : PlacedToken = record { token = Quoted rest.letters; from = place; to = place + 1 + rest.bytes } in
            let parts = parted first (tokens_from rest.bytes (place + 1) text) tokens (rw begins at h) in
            let all : list_all is_unquoted (first ∷ parts.others) ≡ true = subst (λ (ts : List PlacedToken). list_all is_unquoted ts ≡ true) parts.tokens_are k in
            cc
    step true e DotByte s others = dots text refl
      where
        dots : (these : List ℕ) → text ≡ these → list_all is_printable_byte (byte ∷ text) ≡ true
        dots [] t =
            let stops : beginning byte text ≡ Stops StrayByte = rw (s, t) refl in
            cc (rw stops at h)
        dots (second ∷ rest) t = dot (is_one_of (codes ".") second) refl
          where
            dot : (is : Bool) → is_one_of (codes ".") second ≡ is → list_all is_printable_byte (byte ∷ text) ≡ true
            dot false d =
                let stops : beginning byte text ≡ Stops StrayByte = rw (s, t, d) refl in
                cc (rw stops at h)
            dot true d =
                let is : list_all is_printable_byte (second ∷ []) ≡ true = subst (λ (b : ℕ). list_all is_printable_byte (b ∷ []) ≡ true) (is_byte 46 second d) refl in
                behind Dots 1 (rw (s, t, d) refl) e (rw t is) others
    step true e (MarkByte mark) s others = behind mark 0 (rw s refl) e refl others
    step true e OtherByte s others =
        let stops : beginning byte text ≡ Stops StrayByte = rw s refl in
        cc (rw stops at h)

two_tokens : (first second : Token) (others : List Token) → only_words (Ok (first ∷ second ∷ others)) ≡ false
two_tokens (Word word) second others = refl
two_tokens token second others = refl

quoted_says_none : (token : Token) → unquoted token ≡ false → only_words (Ok (token ∷ [])) ≡ false
quoted_says_none (Word word) h = cc
quoted_says_none token h = refl

unprintable_says_none : (line : List ℕ) → list_all is_printable_byte line ≡ false → only_words (tokens_of line) ≡ false
unprintable_says_none line h = step (tokens_from 0 0 line) refl
  where
    step : (tokens : Result (List PlacedToken) Offence) → tokens_from 0 0 line ≡ tokens → only_words (says (tokens_from 0 0 line)) ≡ false
    step (Err offence) e = rw e refl
    step (Ok []) e = rw e refl
    step (Ok (first ∷ second ∷ others)) e = rw e (two_tokens first.token second.token (map (λ (placed : PlacedToken). placed.token) others))
    step (Ok (first ∷ [])) e = one (unquoted first.token) refl
      where
        one : (is : Bool) → unquoted first.token ≡ is → only_words (says (tokens_from 0 0 line)) ≡ false
        one false u = rw e (quoted_says_none first.token u)
        one true u =
            let printable : list_all is_printable_byte line ≡ true = unquoted_is_printable 0 0 line (first ∷ []) e (both_true (unquoted first.token) true u refl) refl in
            cc

-- a line says `words` just where it is the `words` line
pub last_is_words : (version : ℕ) (line : List ℕ) → is_last ((forms.header_line version) line) ≡ is_words_line line
last_is_words version line = step (is_skipped line) (list_all is_printable_byte line) refl refl
  where
    step : (skipped printable : Bool) → is_skipped line ≡ skipped → list_all is_printable_byte line ≡ printable
        → is_last (cond skipped forms.Skipped (cond (not printable) forms.Unprintable (by_tokens version (tokens_of line)))) ≡ only_words (tokens_of line)
    step true printable s p = sym (skipped_says_none line s)
    step false false s p = sym (unprintable_says_none line p)
    step false true s p = tokens_say version (tokens_of line)
