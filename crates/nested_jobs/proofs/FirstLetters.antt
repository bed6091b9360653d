-- The first byte of a line that is no space: a rule's is no `words` line's.
use Rattle.std.proofs.Common.{◌≡◌, ℕ, zero, suc, ◌+◌, ◌<◌, ◌≤◌, ◌==◌, Bool, true, false, cond, codes, nat_eq, Result, Ok, Err, List, [], ◌∷◌, ◌++◌, length, take, refl, sym, ◌∙◌, ap, subst, arith, append-nil}
use Rattle.std.specs.List.{AllByRecursion}
use Rattle.std.specs.Cmp.Lexicographic.{same_text}
use Rattle.std.proofs.lemmas.Bool.{and_parts}
use Rattle.std.proofs.lemmas.List.{take_all}
use lib.Pointwise.{pointwise}
use Rattle.job_texts.specs.LineTokens.{Token, Word, Equals, PlacedToken, Offence, Beginning, Space, Begins, Stops, beginning, tokens_from, line_tokens, tokens_of}
use Rattle.job_texts.specs.JobLines.{is_words_line}
use Rattle.job_texts.specs.TermText.{is_word}
use Rattle.nested_texts.specs.NestedRules.{Nested, are_alternatives, is_nested_rule, nested_behind, nested_in}
use Rattle.nested_jobs.proofs.Sides.{IsRight, right_beginning}
use Rattle.nested_jobs.proofs.Chains.{parted, line_chain, said, says, token_at}
use Rattle.nested_jobs.proofs.Shapes.{rule_level}
use Rattle.nested_jobs.proofs.Scans.{AreNestedAt, begin_later, found_behind}

abbrev first_letter : List ℕ → ℕ
first_letter [] = 0
first_letter (byte ∷ text) = cond (byte == 32) (first_letter text) byte

-- the first token begins behind so many spaces, and the byte there is this one
record Leads (place : ℕ) (text : List ℕ) (from letter : ℕ) : Type 0 where
  spaces : ℕ
  placed : from ≡ place + spaces
  leads : (count : ℕ) (rest : List ℕ) → spaces < count → first_letter (take count text ++ rest) ≡ letter

leading : (place : ℕ) (text : List ℕ) (first : PlacedToken) (tokens : List PlacedToken) (letter : ℕ) (others : List ℕ)
    → tokens_from 0 place text ≡ Ok (first ∷ tokens) → first.token ≡ Word (letter ∷ others)
    → Leads place text first.from letter
leading place [] first tokens letter others h word = absurd cc
leading place (byte ∷ text) first tokens letter others h word =
    step (beginning byte text) refl (right_beginning byte text)
    (λ given. leading (place + 1) text first tokens letter others given word)
  where
    step : (begins : Beginning) → beginning byte text ≡ begins → IsRight byte text (beginning byte text)
        → (tokens_from 0 (place + 1) text ≡ Ok (first ∷ tokens) → Leads (place + 1) text first.from letter)
        → Leads place (byte ∷ text) first.from letter
    step Space b right rest =
        let is = subst (IsRight byte text) b right in
        let found = rest (rw b at h) in
        record {
          spaces = suc found.spaces;
          placed = omega (arith, found.placed);
          leads = skip is.2 found;
        }
      where
        skip : (byte == 32) ≡ true → (found : Leads (place + 1) text first.from letter) → (count : ℕ) (rest : List ℕ)
            → suc found.spaces < count
            → first_letter (take count (byte ∷ text) ++ rest) ≡ letter
        skip space found zero rest long = absurd (omega arith)
        skip space found (suc count) rest long = rw space (found.leads count rest (omega arith))
    step (Stops offence) b right rest = absurd (cc (rw b at h))
    step (Begins token further) b right rest =
        let is = subst (IsRight byte text) b right in
        let own = token_at token place further in
        let parts = parted own (tokens_from further (place + 1) text) (first ∷ tokens) (rw b at h) in
        let same : first ≡ own = cc parts.tokens_are in
        let from_is = ap (λ (token : PlacedToken). token.from) same in
        let token_is = ap (λ (token : PlacedToken). token.token) same in
        record {
          spaces = 0;
          placed = omega (arith, from_is);
          leads = here is.no_space (is.letter letter others (sym token_is ∙ word));
        }
      where
        here : (byte == 32) ≡ false → byte ≡ letter → (count : ℕ) (rest : List ℕ) → 0 < count
            → first_letter (take count (byte ∷ text) ++ rest) ≡ letter
        here none own zero rest long = absurd (omega arith)
        here none own (suc count) rest long = rw none own

-- ---- the `words` line

abbrev only_words : Result (List Token) Offence → Bool
only_words (Ok (Word word ∷ [])) = pointwise nat_eq word (codes "words")
only_words tokens = false

words_said : (tokens : Result (List Token) Offence) → only_words tokens ≡ true → tokens ≡ Ok (Word (codes "words") ∷ [])
words_said (Ok (Word word ∷ [])) h =
    ap (λ (word : List ℕ). Ok (Word word ∷ [])) (same_text word (codes "words") (sym h))
words_said tokens h = absurd cc

tokens_said : (line : List ℕ) (tokens : Result (List PlacedToken) Offence) → line_tokens line ≡ tokens
    → tokens_of line ≡ says tokens
tokens_said line (Ok tokens) e = rw e refl
tokens_said line (Err offence) e = rw e refl

only_by_tokens : (line : List ℕ) (tokens : Result (List Token) Offence) → tokens_of line ≡ tokens
    → is_words_line line ≡ only_words tokens
only_by_tokens line (Ok []) e = rw e refl
only_by_tokens line (Ok (Word word ∷ [])) e = rw e refl
only_by_tokens line (Ok (token ∷ tokens)) e = rw e refl
only_by_tokens line (Err offence) e = rw e refl

pub words_tokens : (line : List ℕ) → is_words_line line ≡ true → tokens_of line ≡ Ok (Word (codes "words") ∷ [])
words_tokens line h = words_said (tokens_of line) (sym (only_by_tokens line (tokens_of line) refl) ∙ h)

words_letter : (line : List ℕ) → is_words_line line ≡ true → first_letter line ≡ 119
words_letter line h = step (line_tokens line) refl
  where
    step : (tokens : Result (List PlacedToken) Offence) → line_tokens line ≡ tokens → first_letter line ≡ 119
    step (Err offence) e = absurd (cc (sym (tokens_said line (Err offence) e) ∙ words_tokens line h))
    step (Ok []) e = absurd (cc (sym (tokens_said line (Ok []) e) ∙ words_tokens line h))
    step (Ok (first ∷ tokens)) e =
        let are = sym (tokens_said line (Ok (first ∷ tokens)) e) ∙ words_tokens line h in
        let word : first.token ≡ Word (codes "words") = cc in
        let led = leading 0 line first tokens 119 (codes "ords") e word in
        let count = length line + suc led.spaces in
        let all : take count line ++ [] ≡ line = append-nil (take count line) ∙ take_all count line (omega arith) in
        sym (ap first_letter all) ∙ led.leads count [] (omega arith)

-- a text that begins as a rule does is no `words` line
pub begins_rule : (line : List ℕ) → first_letter line ≡ 114 → is_words_line line ≡ false
begins_rule line letter = step (is_words_line line) refl
  where
    step : (words : Bool) → is_words_line line ≡ words → is_words_line line ≡ false
    step true e = absurd (omega (arith, sym letter ∙ words_letter line e))
    step false e = e

-- ---- rules

-- the bytes up to an alternative begin as a rule does
abbrev pub BeginsRule : List ℕ → Nested → Type 0
BeginsRule line nested = (rest : List ℕ) → is_words_line (take nested.from line ++ rest) ≡ false

pub record AreFoundIn (line : List ℕ) (nested : List Nested) : Type 0 where
  pub found : AreNestedAt line nested
  pub begin : AllByRecursion (BeginsRule line) nested

begin_rule : (line : List ℕ) (from : ℕ) (nested : List Nested)
    → ((count : ℕ) (rest : List ℕ) → from ≤ count → first_letter (take count line ++ rest) ≡ 114)
    → AllByRecursion (λ (nested : Nested). from ≤ nested.from) nested → AllByRecursion (BeginsRule line) nested
begin_rule line from [] leads later = tt
begin_rule line from (nested ∷ others) leads later = (
  λ rest. begins_rule (take nested.from line ++ rest) (leads nested.from rest later.0),
  begin_rule line from others leads later.1,
)

record IsRule (tokens : List Token) : Type 0 where
  name : List ℕ
  others : List Token
  is : tokens ≡ Word (codes "rule") ∷ Word name ∷ Equals ∷ others

rule_tokens : (tokens : List Token) → is_nested_rule tokens ≡ true → IsRule tokens
rule_tokens (Word rule ∷ Word name ∷ Equals ∷ tokens) h =
    let word : codes "rule" ≡ rule =
    same_text (codes "rule") rule (sym (and_parts (is_word (codes "rule") rule) (are_alternatives tokens) h).0) in
    record {
      name = name;
      others = tokens;
      is = ap (λ (rule : List ℕ). Word rule ∷ Word name ∷ Equals ∷ tokens)
          (sym word);
    }
rule_tokens tokens h = absurd cc

-- the first three tokens of a rule, and the others
record IsPlacedRule (tokens : List PlacedToken) : Type 0 where
  rule : PlacedToken
  name : PlacedToken
  equals : PlacedToken
  others : List PlacedToken
  are : tokens ≡ rule ∷ name ∷ equals ∷ others
  rule_is : rule.token ≡ Word (codes "rule")
  word : List ℕ
  name_is : name.token ≡ Word word
  equals_is : equals.token ≡ Equals

placed_rule : (tokens : List PlacedToken) → IsRule (said tokens) → IsPlacedRule tokens
placed_rule [] rule = absurd (cc rule.is)
placed_rule (first ∷ []) rule = absurd (cc rule.is)
placed_rule (first ∷ second ∷ []) rule = absurd (cc rule.is)
placed_rule (first ∷ second ∷ third ∷ others) rule = record {
  rule = first;
  name = second;
  equals = third;
  others = others;
  are = refl;
  rule_is = cc rule.is;
  word = rule.name;
  name_is = cc rule.is;
  equals_is = cc rule.is;
}

none_before : (rule name equals : PlacedToken) (others : List PlacedToken) (word word' : List ℕ)
    → rule.token ≡ Word word → name.token ≡ Word word' → equals.token ≡ Equals
    → nested_behind 0 (rule ∷ name ∷ equals ∷ others) ≡ nested_behind equals.from others
none_before rule name equals others word word' a b c = rw (a, b, c) refl

rule_found : (line : List ℕ) (tokens : List PlacedToken) → line_tokens line ≡ Ok tokens
    → is_nested_rule (said tokens) ≡ true → AreFoundIn line (nested_behind 0 tokens)
rule_found line tokens e h = record {
  found = found_behind line tokens (line_chain line tokens e) (rule_level (said tokens) h);
  begin = by_rule (placed_rule tokens (rule_tokens (said tokens) h));
}
  where
    by_rule : IsPlacedRule tokens → AllByRecursion (BeginsRule line) (nested_behind 0 tokens)
    by_rule rule =
        let given : line_tokens line ≡ Ok (rule.rule ∷ rule.name ∷ rule.equals ∷ rule.others) =
        e ∙ ap (λ (tokens : List PlacedToken). Ok tokens) rule.are in
        let chain = line_chain line (rule.rule ∷ rule.name ∷ rule.equals ∷ rule.others) given in
        let led =
        leading 0 line rule.rule (rule.name ∷ rule.equals ∷ rule.others) 114 (codes "ule") given rule.rule_is in
        let later =
        begin_later line rule.equals.to _ rule.equals.from rule.others chain.2.2.2 (omega (arith, chain.2.2.1.long)) in
        let is =
        ap (nested_behind 0) rule.are
        ∙ none_before rule.rule rule.name rule.equals rule.others
        (codes "rule") rule.word rule.rule_is rule.name_is rule.equals_is in
        subst (AllByRecursion (BeginsRule line)) (sym is)
        (begin_rule line rule.equals.from (nested_behind rule.equals.from rule.others)
        (λ count rest long. led.leads count rest
        (omega (arith, led.placed, chain.1.long, chain.2.0, chain.2.1.long, chain.2.2.0)))
        later)

-- what is found in a line
pub found_in : (line : List ℕ) → AreFoundIn line (nested_in line)
found_in line = step (line_tokens line) refl
  where
    none : AreFoundIn line []
    none = record { found = tt; begin = tt }

    by_shape : (tokens : List PlacedToken) → line_tokens line ≡ Ok tokens → (rule : Bool)
        → is_nested_rule (said tokens) ≡ rule → AreFoundIn line (nested_in line)
    by_shape tokens e true h = subst (AreFoundIn line) (sym (rw (e, h) refl)) (rule_found line tokens e h)
    by_shape tokens e false h = subst (AreFoundIn line) (sym (rw (e, h) refl)) none

    step : (tokens : Result (List PlacedToken) Offence) → line_tokens line ≡ tokens → AreFoundIn line (nested_in line)
    step (Err offence) e = subst (AreFoundIn line) (sym (rw e refl)) none
    step (Ok tokens) e = by_shape tokens e (is_nested_rule (said tokens)) refl
