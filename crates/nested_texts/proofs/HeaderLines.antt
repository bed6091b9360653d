-- A header line by its tokens.
use Rattle.std.proofs.Common.{◌≡◌, ℕ, zero, suc, ◌+◌, ◌≤◌, true, false, Result, Ok, Err, IsErr, List, [], ◌∷◌, length, map, refl, ap, ◌∙◌, sym, arith}
use Rattle.std.specs.List.{All}
use Rattle.std.proofs.lemmas.List.{length-map}
use Rattle.std.proofs.lemmas.List.Elements.{All-nil}
use Rattle.job_texts.specs.LineTokens.{Token, Word, OpenBracket, PlacedToken, Offence, Beginning, Space, Begins, Stops, beginning, with_token, tokens_from, line_tokens, tokens_of}
use Rattle.job_texts.specs.JobLines.{is_words_line}
use Rattle.algebra_terms.specs.declared.lexer.Token as spans
use Rattle.algebra_terms.specs.Tokens.{placed, said}
use Rattle.nested_texts.specs.NestedRules as rules
use Rattle.nested_texts.specs.NestedRules.{ends_of, is_nested_rule, nested_at, nested_behind, nested_in, with_nested}
use Rattle.nested_texts.specs.declared.nested.Nested.{Nested}
use Rattle.nested_texts.specs.Seen.{nested_seen, says_words, AreInside, IsOther, IsWithin}

tokens_said : (line : List ℕ) (tokens : List spans.Token) → map (λ (placed : PlacedToken). placed.token) (map (placed line) tokens) ≡ map (said line) tokens
tokens_said line [] = refl
tokens_said line (token ∷ tokens) = ap (λ (others : List Token). said line token ∷ others) (tokens_said line tokens)

words_said : (line : List ℕ) (tokens : List Token) → tokens_of line ≡ Ok tokens → is_words_line line ≡ says_words tokens
words_said line [] e = rw e refl
words_said line (Word word ∷ []) e = rw e refl
words_said line (first ∷ others) e = rw e refl

pub words_by_tokens : (line : List ℕ) (tokens : List spans.Token) → line_tokens line ≡ Ok (map (placed line) tokens)
    → is_words_line line ≡ says_words (map (said line) tokens)
words_by_tokens line tokens e =
    let found : tokens_of line ≡ Ok (map (said line) tokens) = rw (e, tokens_said line tokens) refl in
    words_said line (map (said line) tokens) found

pub nested_by_tokens : (line : List ℕ) (tokens : List spans.Token) → line_tokens line ≡ Ok (map (placed line) tokens)
    → is_nested_rule (map (said line) tokens) ≡ true → nested_in line ≡ nested_behind 0 (map (placed line) tokens)
nested_by_tokens line tokens e rule = rw (e, tokens_said line tokens, rule) refl

pub none_by_tokens : (line : List ℕ) (tokens : List spans.Token) → line_tokens line ≡ Ok (map (placed line) tokens)
    → is_nested_rule (map (said line) tokens) ≡ false → nested_in line ≡ []
none_by_tokens line tokens e rule = rw (e, tokens_said line tokens, rule) refl

pub words_by_offence : (line : List ℕ) (tokens : Result (List PlacedToken) Offence) → line_tokens line ≡ tokens → IsErr tokens → is_words_line line ≡ false
words_by_offence line (Ok tokens) e is = cc
words_by_offence line (Err offence) e is = rw e refl

pub none_by_offence : (line : List ℕ) (tokens : Result (List PlacedToken) Offence) → line_tokens line ≡ tokens → IsErr tokens → nested_in line ≡ []
none_by_offence line (Ok tokens) e is = cc
none_by_offence line (Err offence) e is = rw e refl

-- ---- how many there are

abbrev AreFew : ℕ → Result (List PlacedToken) Offence → Type 0
AreFew bytes (Ok tokens) = length tokens ≤ bytes
AreFew bytes (Err offence) = Unit {0}

fewer : (bytes : ℕ) (tokens : Result (List PlacedToken) Offence) → AreFew bytes tokens → AreFew (suc bytes) tokens
fewer bytes (Ok tokens) few = omega arith
fewer bytes (Err offence) few = tt

one_more : (bytes : ℕ) (token : PlacedToken) (tokens : Result (List PlacedToken) Offence) → AreFew bytes tokens → AreFew (suc bytes) (with_token token tokens)
one_more bytes token (Ok tokens) few = omega arith
one_more bytes token (Err offence) few = tt

few_from : (inside place : ℕ) (text : List ℕ) → AreFew (length text) (tokens_from inside place text)
few_from inside place [] = omega arith
few_from (suc inside) place (byte ∷ text) = fewer (length text) (tokens_from inside (place + 1) text) (few_from inside (place + 1) text)
few_from zero place (byte ∷ text) = step (beginning byte text) refl (λ inside. few_from inside (place + 1) text)
  where
    step : (begins : Beginning) → beginning byte text ≡ begins
        → ((inside : ℕ) → AreFew (length text) (tokens_from inside (place + 1) text))
        → AreFew (suc (length text)) (tokens_from zero place (byte ∷ text))
    step Space e few = rw e (fewer (length text) (tokens_from 0 (place + 1) text) (few 0))
    step (Begins token further) e few =
        rw e (one_more (length text) (record { token = token; from = place; to = place + 1 + further }) (tokens_from further (place + 1) text) (few further))
    step (Stops offence) e few = rw e tt

pub few_tokens : (line : List ℕ) (tokens : List PlacedToken) → line_tokens line ≡ Ok tokens → length tokens ≤ length line
few_tokens line tokens e = rw e at (few_from 0 0 line)

with_one : (from : ℕ) (ends : List ℕ) (others : List rules.Nested) → length (with_nested from ends others) ≤ suc (length others)
with_one from [] others = omega arith
with_one from (to ∷ []) others = omega arith
with_one from (to ∷ outer ∷ further) others = omega arith

at_one : (token : Token) (from : ℕ) (ends : List ℕ) (others : List rules.Nested) → length (nested_at token from ends others) ≤ suc (length others)
at_one OpenBracket from ends others = with_one from ends others
at_one token from ends others = omega arith

few_nested : (from : ℕ) (tokens : List PlacedToken) → length (nested_behind from tokens) ≤ length tokens
few_nested from [] = omega arith
few_nested from (token ∷ tokens) =
    omega (arith, at_one token.token from (ends_of tokens) (nested_behind token.from tokens), few_nested token.from tokens)

pub few_in_line : (line : List ℕ) (tokens : List PlacedToken) (from : ℕ) → line_tokens line ≡ Ok tokens → length (nested_behind from tokens) ≤ length line
few_in_line line tokens from e = omega (arith, few_tokens line tokens e, few_nested from tokens)

-- ---- what it is

pub none_found : (line : List ℕ) → is_words_line line ≡ false → nested_in line ≡ [] → IsOther line []
none_found line other none = record {
  other = other;
  found = sym none;
  inside = tt;
  within = All-nil (IsWithin line);
  few = omega arith;
}

pub all_found : (line : List ℕ) (tokens : List spans.Token) (nested : List Nested) → line_tokens line ≡ Ok (map (placed line) tokens)
    → is_words_line line ≡ false → is_nested_rule (map (said line) tokens) ≡ true → map nested_seen nested ≡ nested_behind 0 (map (placed line) tokens)
    → AreInside nested → All (IsWithin line) nested → IsOther line nested
all_found line tokens nested e other rule seen inside within =
    let few = few_in_line line (map (placed line) tokens) 0 e in
    let same : length nested ≡ length (nested_behind 0 (map (placed line) tokens)) = sym (length-map nested nested_seen) ∙ ap length seen in
    record {
      other = other;
      found = seen ∙ sym (nested_by_tokens line tokens e rule);
      inside = inside;
      within = within;
      few = omega (arith, few, same);
    }
