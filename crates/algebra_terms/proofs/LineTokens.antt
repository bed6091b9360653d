-- Tokens of a line that are found one after the other.
use Rattle.std.proofs.Common.{◌≡◌, ℕ, zero, suc, ◌+◌, ◌-◌, ◌<◌, ◌≤◌, Some, Result, Ok, Err, List, [], ◌∷◌, ◌++◌, length, map, take, drop, get_or, refl, sym, ◌∙◌, append_assoc, add-zero, drop-drop, length-drop, arith}
use Rattle.std.specs.List.{slice_range}
use Rattle.std.proofs.lemmas.List.{map_push, drop_more}
use Rattle.std.proofs.Math.Seq.{take-length}
use Rattle.job_texts.specs.LineTokens.{Token, PlacedToken, Offence, StrayByte, OpenQuote, Begins, Stops, beginning, with_token, tokens_from, line_tokens}
use Rattle.algebra_terms.specs.declared.lexer.Token as spans
use Rattle.algebra_terms.specs.declared.lexer.TokenKind.{TokenKind}
use Rattle.algebra_terms.specs.declared.error.TokenError.{TokenError}
use Rattle.algebra_terms.specs.declared.error.TokenError.TheVariants as errors
use Rattle.algebra_terms.specs.Tokens.{placed, said_by, IsIn, IsBeginning, IsStopped}

-- tokens that were found before the others
abbrev pub with_front : List PlacedToken → Result (List PlacedToken) Offence → Result (List PlacedToken) Offence
with_front front (Ok tokens) = Ok (front ++ tokens)
with_front front (Err offence) = Err offence

-- one more is found
pub found_more : (line : List ℕ) (front : List spans.Token) (token : spans.Token) (tokens : Result (List PlacedToken) Offence)
    → with_front (map (placed line) (front ++ token ∷ [])) tokens ≡ with_front (map (placed line) front) (with_token (placed line token) tokens)
found_more line front token (Ok tokens) =
    rw (map_push (placed line) front token) (simp append_assoc)
found_more line front token (Err offence) = refl

-- the bytes of the token before are passed over
inside_token : (inside place : ℕ) (text : List ℕ) → inside ≤ length text → tokens_from inside place text ≡ tokens_from 0 (place + inside) (drop inside text)
inside_token zero place text within = rw add-zero refl
inside_token (suc inside) place [] within = absurd (omega arith)
inside_token (suc inside) place (byte ∷ text) within =
    let same : (place + 1) + inside ≡ place + suc inside = omega arith in
    inside_token inside (place + 1) text (omega arith) ∙ rw same refl

-- what stops the finding
pub at_offence : (line : List ℕ) (at : ℕ) (offence : Offence) → at < length line → beginning (get_or line at 0) (drop (at + 1) line) ≡ Stops offence
    → tokens_from 0 at (drop at line) ≡ Err offence
at_offence line at offence inside is = rw (drop_more line at 0 inside, is) refl

-- a token
pub after_token : (line : List ℕ) (at further : ℕ) (token : Token) → at < length line → further ≤ length (drop (at + 1) line)
    → beginning (get_or line at 0) (drop (at + 1) line) ≡ Begins token further
    → tokens_from 0 at (drop at line)
    ≡ with_token (record { token = token; from = at; to = at + 1 + further }) (tokens_from 0 (at + 1 + further) (drop (at + 1 + further) line))
after_token line at further token inside within is =
    rw (drop_more line at 0 inside, is, inside_token further (at + 1) (drop (at + 1) line) within, drop-drop) refl

-- the bytes of a token
pub bytes_at : (line : List ℕ) (at further : ℕ) → at < length line
    → slice_range line at (at + 1 + further) ≡ get_or line at 0 ∷ take further (drop (at + 1) line)
bytes_at line at further inside =
    let size : (at + 1 + further) - at ≡ suc further = omega arith in
    rw (drop_more line at 0 inside, size) refl

-- where the finding stops
pub stopped : (line : List ℕ) (at : ℕ) (front : List PlacedToken) (error : TokenError) → at < length line
    → with_front front (tokens_from 0 at (drop at line)) ≡ line_tokens line
    → IsBeginning (get_or line at 0) (drop (at + 1) line) (Err error)
    → IsStopped (line_tokens line) error
stopped line at front errors.StrayByte inside found stops = sym found ∙ rw (at_offence line at StrayByte inside stops) refl
stopped line at front errors.OpenQuote inside found stops = sym found ∙ rw (at_offence line at OpenQuote inside stops) refl
stopped line at front errors.Memory inside found stops = absurd stops

-- where it goes on behind a token
pub goes_on : (line : List ℕ) (at further : ℕ) (kind : TokenKind) (front items : List spans.Token) → at < length line
    → with_front (map (placed line) front) (tokens_from 0 at (drop at line)) ≡ line_tokens line
    → IsBeginning (get_or line at 0) (drop (at + 1) line) (Ok (Some (kind, further)))
    → items ≡ front ++ record { kind = kind; from = at; to = at + 1 + further } ∷ []
    → with_front (map (placed line) items) (tokens_from 0 (at + 1 + further) (drop (at + 1 + further) line)) ≡ line_tokens line
goes_on line at further kind front items inside found begins is =
    let token : spans.Token = record { kind = kind; from = at; to = at + 1 + further } in
    let bytes = bytes_at line at further inside in
    let after = after_token line at further (said_by kind (get_or line at 0 ∷ take further (drop (at + 1) line))) inside begins.1 begins.0 in
    rw (is, found_more line front token, bytes) (rw after at found)

pub token_is_in : (line : List ℕ) (at further : ℕ) (kind : TokenKind) → at < length line
    → IsBeginning (get_or line at 0) (drop (at + 1) line) (Ok (Some (kind, further)))
    → IsIn line (record { kind = kind; from = at; to = at + 1 + further })
token_is_in line at further kind inside begins = record {
  nonempty = omega arith;
  inside = omega (arith, simp length-drop at begins.1);
  spelled = rw (bytes_at line at further inside) begins.2;
}

-- the bytes of a line from a place on, cut off at its end
pub rest_of : (line : List ℕ) (place : ℕ) → take (length line - place) (drop place line) ≡ drop place line
rest_of line place = rw (← length-drop place line) (take-length (drop place line))
