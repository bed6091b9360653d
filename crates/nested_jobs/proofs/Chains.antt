-- The tokens of a line, each by what stands up to its ends.
use Rattle.std.proofs.Common.{◌≡◌, ℕ, zero, suc, ◌+◌, ◌-◌, ◌<◌, ◌≤◌, Result, Ok, Err, List, [], ◌∷◌, ◌++◌, length, map, take, drop, refl, sym, ◌∙◌, ap, subst, arith, append_assoc}
use Rattle.std.specs.List.{slice_range}
use Rattle.std.proofs.lemmas.List.{take_at, drop_at, length_push}
use Rattle.std.proofs.Math.Seq.{take-append-add}
use Rattle.job_texts.specs.LineTokens.{Token, CloseBracket, PlacedToken, Offence, Beginning, Space, Begins, Stops, beginning, with_token, tokens_from, line_tokens}
use Rattle.nested_jobs.proofs.Sides.{Side, Outside, behind, side_after, side_after-append, bar, bars, bars-append, bar_of, AreFurther, further_no_bar, further_side, further_bars, IsBegun, IsRight, right_beginning}

-- ---- up to a place of a line

abbrev pub side_at : List ℕ → ℕ → Side
side_at line place = side_after Outside (take place line)

abbrev pub bars_at : List ℕ → ℕ → ℕ
bars_at line place = bars Outside (take place line)

-- a token of a line, before which so many `|` stand
pub record IsPlaced (line : List ℕ) (base : ℕ) (token : PlacedToken) : Type 0 where
  pub begins : side_at line token.from ≡ Outside
  pub ends : side_at line token.to ≡ Outside
  pub before : bars_at line token.from ≡ base
  pub behind : bars_at line token.to ≡ base + bar_of token.token
  pub long : token.from < token.to
  pub closes : token.token ≡ CloseBracket
      → (token.to ≡ token.from + 1) × (slice_range line token.from token.to ≡ 41 ∷ [])

-- tokens from a place on, one behind the other
abbrev pub Chain : List ℕ → ℕ → ℕ → List PlacedToken → Type 0
Chain line place base [] = Unit {0}
Chain line place base (token ∷ tokens) =
    (place ≤ token.from) × IsPlaced line base token × Chain line token.to (base + bar_of token.token) tokens

lower : (line : List ℕ) (place place' base : ℕ) (tokens : List PlacedToken) → place' ≤ place
    → Chain line place base tokens → Chain line place' base tokens
lower line place place' base [] h chain = tt
lower line place place' base (token ∷ tokens) h chain = (omega (arith, chain.0), chain.1, chain.2)

-- ---- what tokens say

abbrev pub said : List PlacedToken → List Token
said tokens = map (λ (placed : PlacedToken). placed.token) tokens

abbrev pub says : Result (List PlacedToken) Offence → Result (List Token) Offence
says (Ok tokens) = Ok (said tokens)
says (Err offence) = Err offence

-- ---- the tokens behind a first one

pub record Parted (first : PlacedToken) (rest : Result (List PlacedToken) Offence)
    (tokens : List PlacedToken) : Type 0 where
  pub others : List PlacedToken
  pub rest_is : rest ≡ Ok others
  pub tokens_are : tokens ≡ first ∷ others

pub parted : (first : PlacedToken) (rest : Result (List PlacedToken) Offence) (tokens : List PlacedToken)
    → with_token first rest ≡ Ok tokens → Parted first rest tokens
parted first (Ok others) tokens h = record { others = others; rest_is = refl; tokens_are = cc }
parted first (Err offence) tokens h = absurd cc

-- ---- one token more

-- a byte behind others of a line
record OneMore (line front : List ℕ) (byte : ℕ) (text : List ℕ) (side : Side) : Type 0 where
  whole : (front ++ byte ∷ []) ++ text ≡ line
  long : length (front ++ byte ∷ []) ≡ length front + 1
  side_is : side_after Outside (front ++ byte ∷ []) ≡ behind side byte
  bars_are : bars Outside (front ++ byte ∷ []) ≡ bars Outside front + bar side byte

one_more : (line front : List ℕ) (byte : ℕ) (text : List ℕ) (side : Side) → front ++ byte ∷ text ≡ line
    → side_after Outside front ≡ side → OneMore line front byte text side
one_more line front byte text side e s =
    let counted =
    bars-append Outside front (byte ∷ []) ∙ ap (λ (side : Side). bars Outside front + (bar side byte + 0)) s in
    record {
      whole = append_assoc front (byte ∷ []) text ∙ e;
      long = length_push front byte;
      side_is = side_after-append Outside front (byte ∷ []) ∙ ap (λ (side : Side). behind side byte) s;
      bars_are = omega (arith, counted);
    }

abbrev pub token_at : Token → ℕ → ℕ → PlacedToken
token_at token place further = record { token = token; from = place; to = place + 1 + further }

-- a token that begins behind these bytes of a line
begun : (line front : List ℕ) (byte : ℕ) (text : List ℕ) (token : Token) (further : ℕ) → front ++ byte ∷ text ≡ line
    → side_after Outside front ≡ Outside
    → IsBegun byte text token further
    → IsPlaced line (bars Outside front) (token_at token (length front) further)
begun line front byte text token further e out is =
    let more = one_more line front byte text Outside e out in
    let from_is : take (length front) line ≡ front =
    ap (take (length front)) (sym e) ∙ take_at front (byte ∷ text) (length front) refl in
    let to_is : take (length front + 1 + further) line ≡ (front ++ byte ∷ []) ++ take further text =
    ap (λ (n : ℕ). take (n + further) line) (sym more.long)
    ∙ ap (take (length (front ++ byte ∷ []) + further)) (sym more.whole)
    ∙ take-append-add (front ++ byte ∷ []) text further in
    let rest_is : drop (length front) line ≡ byte ∷ text =
    ap (drop (length front)) (sym e) ∙ drop_at front (byte ∷ text) (length front) refl in
    let own_bars : bars (side_after Outside (front ++ byte ∷ [])) (take further text) ≡ 0 =
    ap (λ (side : Side). bars side (take further text)) more.side_is
    ∙ further_bars further (behind Outside byte) text is.rest in
    let all_bars = ap (bars Outside) to_is ∙ bars-append Outside (front ++ byte ∷ []) (take further text) in
    record {
      begins = ap (side_after Outside) from_is ∙ out;
      ends = ap (side_after Outside) to_is ∙ side_after-append Outside (front ++ byte ∷ []) (take further text)
          ∙ ap (λ (side : Side). side_after side (take further text)) more.side_is
          ∙ further_side further (behind Outside byte) text is.rest;
      before = ap (bars Outside) from_is;
      behind = omega (arith, all_bars, own_bars, more.bars_are, is.bar_is);
      long = omega arith;
      closes = λ same.
          let closing = is.closes same in
          let one : length front + 1 + further - length front ≡ 1 = omega (arith, closing.1) in (
            omega (arith, closing.1),
            ap (λ (n : ℕ). take n (drop (length front) line)) one ∙ ap (take 1) rest_is
                ∙ ap (λ (byte : ℕ). byte ∷ []) closing.0,
          );
    }

chained : (line front : List ℕ) (side : Side) (inside : ℕ) (text : List ℕ) (tokens : List PlacedToken)
    → front ++ text ≡ line → side_after Outside front ≡ side
    → AreFurther inside side text → tokens_from inside (length front) text ≡ Ok tokens
    → Chain line (length front + inside) (bars Outside front) tokens
chained line front side inside [] [] e s further h = tt
chained line front side inside [] (token ∷ tokens) e s further h = absurd cc
chained line front side (suc inside) (byte ∷ text) tokens e s further h =
    let more = one_more line front byte text side e s in
    let rest = chained line (front ++ byte ∷ []) (behind side byte) inside text tokens more.whole more.side_is further.1
    (ap (λ (n : ℕ). tokens_from inside n text) more.long ∙ h) in
    let none = further_no_bar side byte further.0 in
    let same : bars Outside (front ++ byte ∷ []) ≡ bars Outside front = omega (arith, more.bars_are, none) in
    subst (λ (base : ℕ). Chain line (length front + suc inside) base tokens) same
    (lower line (length (front ++ byte ∷ []) + inside) (length front + suc inside)
    (bars Outside (front ++ byte ∷ [])) tokens (omega (arith, more.long)) rest)
chained line front side zero (byte ∷ text) tokens e s further h =
    let out : side_after Outside front ≡ Outside = s ∙ further in
    let more = one_more line front byte text Outside e out in
    step (beginning byte text) refl out more (right_beginning byte text)
    (λ inside others rest given. chained line (front ++ byte ∷ [])
    (behind Outside byte) inside text others more.whole more.side_is rest
    (ap (λ (n : ℕ). tokens_from inside n text) more.long ∙ given))
  where
    step : (begins : Beginning) → beginning byte text ≡ begins → side_after Outside front ≡ Outside
        → OneMore line front byte text Outside
        → IsRight byte text (beginning byte text)
        → ((inside : ℕ) (others : List PlacedToken) → AreFurther inside (behind Outside byte) text
        → tokens_from inside (length front + 1) text ≡ Ok others
        → Chain line (length (front ++ byte ∷ []) + inside) (bars Outside (front ++ byte ∷ [])) others)
        → Chain line (length front + 0) (bars Outside front) tokens
    step Space b out more right others =
        let is = subst (IsRight byte text) b right in
        let same : bars Outside (front ++ byte ∷ []) ≡ bars Outside front = omega (arith, more.bars_are, is.1) in
        let rest = others 0 tokens is.0 (rw b at h) in
        subst (λ (base : ℕ). Chain line (length front + 0) base tokens) same
        (lower line (length (front ++ byte ∷ []) + 0) (length front + 0) (bars Outside (front ++ byte ∷ [])) tokens
        (omega (arith, more.long)) rest)
    step (Stops offence) b out more right others = absurd (cc (rw b at h))
    step (Begins token begins) b out more right others =
        let is = subst (IsRight byte text) b right in
        let own = token_at token (length front) begins in
        let parts = parted own (tokens_from begins (length front + 1) text) tokens (rw b at h) in
        let rest = others begins parts.others is.rest parts.rest_is in
        let counted : bars Outside (front ++ byte ∷ []) ≡ bars Outside front + bar_of token =
        omega (arith, more.bars_are, is.bar_is) in
        let placed : length (front ++ byte ∷ []) + begins ≡ length front + 1 + begins = omega (arith, more.long) in
        let chain : Chain line (length front + 1 + begins) (bars Outside front + bar_of token) parts.others =
        subst (λ (place : ℕ). Chain line place (bars Outside front + bar_of token) parts.others) placed
        (subst (λ (base : ℕ). Chain line (length (front ++ byte ∷ []) + begins) base parts.others) counted rest) in
        subst (Chain line (length front + 0) (bars Outside front)) (sym parts.tokens_are)
        (omega arith, begun line front byte text token begins e out is, chain)

pub line_chain : (line : List ℕ) (tokens : List PlacedToken) → line_tokens line ≡ Ok tokens → Chain line 0 0 tokens
line_chain line tokens h = chained line [] Outside 0 line tokens refl refl refl h
