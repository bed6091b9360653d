-- The bytes behind a token have the tokens behind it.
use Rattle.std.proofs.Common.{◌≡◌, ℕ, zero, suc, ◌+◌, ◌<◌, get_or, length, take, Result, Ok, Err, List, [], ◌∷◌, ◌++◌, map, drop, refl, sym, ap, ◌∙◌, add-zero, subst, arith}
use Rattle.std.proofs.lemmas.List.{take-append-drop, drop_more, map-append}
use Rattle.job_texts.specs.LineTokens.{Token, PlacedToken, Offence, Beginning, Space, Begins, Stops, beginning, with_token, tokens_from, line_tokens, tokens_of}
use Rattle.job_texts.specs.LetTerms.{term_of_text, term_of_tokens}
use Rattle.algebra_terms.specs.declared.lexer.Token as spans
use Rattle.algebra_terms.specs.Tokens.{said, placed}

-- tokens without their spans
abbrev pub bare : Result (List PlacedToken) Offence → Result (List Token) Offence
bare (Ok tokens) = Ok (map (λ (placed : PlacedToken). placed.token) tokens)
bare (Err offence) = Err offence

abbrev onto : Token → Result (List Token) Offence → Result (List Token) Offence
onto token (Ok tokens) = Ok (token ∷ tokens)
onto token (Err offence) = Err offence

bare_more : (token : PlacedToken) (tokens : Result (List PlacedToken) Offence) → bare (with_token token tokens) ≡ onto token.token (bare tokens)
bare_more token (Ok tokens) = refl
bare_more token (Err offence) = refl

pub bare_line : (line : List ℕ) (tokens : Result (List PlacedToken) Offence) → line_tokens line ≡ tokens → tokens_of line ≡ bare tokens
bare_line line (Ok tokens) e = rw e refl
bare_line line (Err offence) e = rw e refl

-- what tokens say doesn't change with their place
same_words : (inside place other : ℕ) (text : List ℕ) → bare (tokens_from inside place text) ≡ bare (tokens_from inside other text)
same_words inside place other [] = refl
same_words (suc inside) place other (byte ∷ text) = same_words inside (place + 1) (other + 1) text
same_words zero place other (byte ∷ text) = step (beginning byte text) refl (λ inside. same_words inside (place + 1) (other + 1) text)
  where
    step : (begins : Beginning) → beginning byte text ≡ begins
        → ((inside : ℕ) → bare (tokens_from inside (place + 1) text) ≡ bare (tokens_from inside (other + 1) text))
        → bare (tokens_from zero place (byte ∷ text)) ≡ bare (tokens_from zero other (byte ∷ text))
    step Space e same = rw e (same 0)
    step (Begins token further) e same =
        rw e (bare_more (record { token = token; from = place; to = place + 1 + further }) (tokens_from further (place + 1) text)
        ∙ ap (onto token) (same further)
        ∙ sym (bare_more (record { token = token; from = other; to = other + 1 + further }) (tokens_from further (other + 1) text)))
    step (Stops offence) e same = rw e refl

-- the bytes of the token before are passed over
pub inside_token : (inside place : ℕ) (text : List ℕ) → tokens_from inside place text ≡ tokens_from 0 (place + inside) (drop inside text)
inside_token zero place text = rw add-zero refl
inside_token (suc inside) place [] = refl
inside_token (suc inside) place (byte ∷ text) =
    let same : (place + 1) + inside ≡ place + suc inside = omega arith in
    inside_token inside (place + 1) text ∙ rw same refl

-- where the tokens behind a token begin
record Behind (place : ℕ) (text : List ℕ) (token : PlacedToken) (others : List PlacedToken) : Type 0 where
  further : ℕ
  to_is : token.to ≡ place + further
  rest : tokens_from 0 token.to (drop further text) ≡ Ok others

one_more : (place byte : ℕ) (text : List ℕ) (token : PlacedToken) (others : List PlacedToken) → Behind (place + 1) text token others → Behind place (byte ∷ text) token others
one_more place byte text token others behind = record {
  further = suc behind.further;
  to_is = omega (arith, behind.to_is);
  rest = behind.rest;
}

abbrev found : List PlacedToken → Result (List PlacedToken) Offence
found tokens = Ok tokens

none_found : (front : List PlacedToken) (token : PlacedToken) (others : List PlacedToken) → found [] ≡ found (front ++ token ∷ others) → ⊥
none_found [] token others h = cc
none_found (first ∷ front) token others h = cc

behind_from : (inside place : ℕ) (text : List ℕ) (front : List PlacedToken) (token : PlacedToken) (others : List PlacedToken)
    → tokens_from inside place text ≡ Ok (front ++ token ∷ others) → Behind place text token others
behind_from inside place [] front token others h = absurd (none_found front token others h)
behind_from (suc inside) place (byte ∷ text) front token others h =
    one_more place byte text token others (behind_from inside (place + 1) text front token others h)
behind_from zero place (byte ∷ text) front token others h =
    step (beginning byte text) refl (λ inside front is. behind_from inside (place + 1) text front token others is)
  where
    Further : Type 0
    Further = (inside : ℕ) (front : List PlacedToken) → tokens_from inside (place + 1) text ≡ Ok (front ++ token ∷ others) → Behind (place + 1) text token others

    first : (begun : Token) (further : ℕ) (front tokens : List PlacedToken)
        → tokens_from further (place + 1) text ≡ Ok tokens
        → found (record { token = begun; from = place; to = place + 1 + further } ∷ tokens) ≡ found (front ++ token ∷ others)
        → Further → Behind place (byte ∷ text) token others
    first begun further [] tokens rest is inner =
        let same : token ≡ record { token = begun; from = place; to = place + 1 + further } = cc in
        let to : token.to ≡ place + 1 + further = ap (λ (placed : PlacedToken). placed.to) same in
        let all : tokens ≡ others = cc in
        record {
          further = suc further;
          to_is = omega arith;
          rest = rw to (sym (inside_token further (place + 1) text) ∙ rest ∙ ap found all);
        }
    first begun further (earlier ∷ front) tokens rest is inner =
        let all : tokens ≡ front ++ token ∷ others = cc in
        one_more place byte text token others (inner further front (rest ∙ ap found all))

    begun : (begun : Token) (further : ℕ) (tokens : Result (List PlacedToken) Offence)
        → tokens_from further (place + 1) text ≡ tokens
        → with_token (record { token = begun; from = place; to = place + 1 + further }) tokens ≡ Ok (front ++ token ∷ others)
        → Further → Behind place (byte ∷ text) token others
    begun word further (Ok tokens) rest is inner = first word further front tokens rest is inner
    begun word further (Err offence) rest is inner = cc

    step : (begins : Beginning) → beginning byte text ≡ begins → Further → Behind place (byte ∷ text) token others
    step Space e inner = one_more place byte text token others (inner 0 front (rw e at h))
    step (Begins word further) e inner = begun word further (tokens_from further (place + 1) text) refl (rw e at h) inner
    step (Stops offence) e inner = cc (rw e at h)

pub tokens_behind : (line : List ℕ) (front : List PlacedToken) (token : PlacedToken) (others : List PlacedToken)
    → line_tokens line ≡ Ok (front ++ token ∷ others)
    → tokens_of (drop token.to line) ≡ Ok (map (λ (placed : PlacedToken). placed.token) others)
tokens_behind line front token others h =
    let behind = behind_from 0 0 line front token others h in
    let to : token.to ≡ behind.further = omega (arith, behind.to_is) in
    let rest : tokens_from 0 token.to (drop token.to line) ≡ Ok others = subst (λ (n : ℕ). tokens_from 0 token.to (drop n line) ≡ Ok others) (sym to) behind.rest in
    bare_line (drop token.to line) (tokens_from 0 0 (drop token.to line)) refl
    ∙ same_words 0 0 token.to (drop token.to line)
    ∙ ap bare rest

pub said_of_placed : (line : List ℕ) (tokens : List spans.Token) → map (λ (place : PlacedToken). place.token) (map (placed line) tokens) ≡ map (said line) tokens
said_of_placed line [] = refl
said_of_placed line (token ∷ tokens) = ap (λ (others : List Token). said line token ∷ others) (said_of_placed line tokens)

-- the term behind a token
pub term_behind : (version : ℕ) (line : List ℕ) (tokens : List spans.Token) (place : ℕ) (d : spans.Token) → place < length tokens
    → line_tokens line ≡ Ok (map (placed line) tokens)
    → term_of_text version (drop (get_or tokens place d).to line) ≡ term_of_tokens version (map (said line) (drop (place + 1) tokens))
term_behind version line tokens place d inside h =
    let others = drop (place + 1) tokens in
    let split : tokens ≡ take place tokens ++ get_or tokens place d ∷ others =
    sym (take-append-drop place tokens) ∙ ap (λ (rest : List spans.Token). take place tokens ++ rest) (drop_more tokens place d inside) in
    let all : line_tokens line ≡ Ok (map (placed line) (take place tokens) ++ placed line (get_or tokens place d) ∷ map (placed line) others) =
    h ∙ ap (λ (these : List spans.Token). found (map (placed line) these)) split ∙ ap found (map-append (placed line) (take place tokens) (get_or tokens place d ∷ others)) in
    let behind = tokens_behind line (map (placed line) (take place tokens)) (placed line (get_or tokens place d)) (map (placed line) others) all in
    rw (behind, said_of_placed line others) refl
