-- Bytes of a line inside and outside of quoted texts, and the `|` outside of them.
use Rattle.std.proofs.Common.{◌≡◌, ℕ, zero, suc, ◌+◌, ◌≤◌, ◌==◌, Bool, true, false, cond, Option, Some, None, List, [], ◌∷◌, ◌++◌, length, take, refl, sym, ◌∙◌, ap, subst, arith}
use Rattle.std.specs.List.{find, prefix_len, AllByRecursion}
use Rattle.std.specs.Option.{option_map}
use Rattle.std.proofs.lemmas.Bool.{eqb-true}
use Rattle.adp_model.specs.WellFormed.{is_word_byte}
use Rattle.job_texts.specs.LineTokens.{Token, Word, Quoted, Equals, OpenBracket, CloseBracket, Comma, OpenSquare, CloseSquare, Bar, Plus, Minus, Times, Dots, QuotedSort, Quote, Backslash, Plain, quoted_sort, QuotedRest, with_letter, with_backslash, quoted_rest, Beginning, Space, Begins, Stops, beginning, mark_of, marks}

pub data Side : Type 0 where
  Outside : Side
  Inside : Side
  Escaped : Side

abbrev inside_behind : QuotedSort → Side
inside_behind Quote = Outside
inside_behind Backslash = Escaped
inside_behind Plain = Inside

-- the side behind a byte
abbrev pub behind : Side → ℕ → Side
behind Outside byte = cond (byte == 34) Inside Outside
behind Inside byte = inside_behind (quoted_sort byte)
behind Escaped byte = Inside

abbrev pub side_after : Side → List ℕ → Side
side_after side [] = side
side_after side (byte ∷ bytes) = side_after (behind side byte) bytes

-- 1 where the byte is a `|` outside
abbrev pub bar : Side → ℕ → ℕ
bar Outside byte = cond (byte == 124) 1 0
bar side byte = 0

-- how many `|` stand outside
abbrev pub bars : Side → List ℕ → ℕ
bars side [] = 0
bars side (byte ∷ bytes) = bar side byte + bars (behind side byte) bytes

pub side_after-append : (side : Side) (xs ys : List ℕ) → side_after side (xs ++ ys) ≡ side_after (side_after side xs) ys
side_after-append side [] ys = refl
side_after-append side (byte ∷ xs) ys = side_after-append (behind side byte) xs ys

pub bars-append : (side : Side) (xs ys : List ℕ) → bars side (xs ++ ys) ≡ bars side xs + bars (side_after side xs) ys
bars-append side [] ys = omega arith
bars-append side (byte ∷ xs) ys = let rest = bars-append (behind side byte) xs ys in omega arith

-- ---- the bytes of a token

-- a byte of a token that isn't its first: outside it is no `)` and no `|`
abbrev pub IsFurther : Side → ℕ → Type 0
IsFurther Outside byte = ((byte == 41) ≡ false) × ((byte == 124) ≡ false)
IsFurther side byte = Unit {0}

-- so many bytes belong to a token, and behind them the text is outside
abbrev pub AreFurther : ℕ → Side → List ℕ → Type 0
AreFurther zero side text = side ≡ Outside
AreFurther (suc further) side [] = ⊥
AreFurther (suc further) side (byte ∷ text) = IsFurther side byte × AreFurther further (behind side byte) text

pub further_no_bar : (side : Side) (byte : ℕ) → IsFurther side byte → bar side byte ≡ 0
further_no_bar Outside byte h = rw h.1 refl
further_no_bar Inside byte h = refl
further_no_bar Escaped byte h = refl

pub further_side : (further : ℕ) (side : Side) (text : List ℕ) → AreFurther further side text
    → side_after side (take further text) ≡ Outside
further_side zero side text h = h
further_side (suc further) side [] h = absurd h
further_side (suc further) side (byte ∷ text) h = further_side further (behind side byte) text h.1

pub further_bars : (further : ℕ) (side : Side) (text : List ℕ) → AreFurther further side text
    → bars side (take further text) ≡ 0
further_bars zero side text h = refl
further_bars (suc further) side [] h = absurd h
further_bars (suc further) side (byte ∷ text) h =
    rw (further_no_bar side byte h.0, further_bars further (behind side byte) text h.1) refl

pub further_long : (further : ℕ) (side : Side) (text : List ℕ) → AreFurther further side text → further ≤ length text
further_long zero side text h = omega arith
further_long (suc further) side [] h = absurd h
further_long (suc further) side (byte ∷ text) h =
    let rest = further_long further (behind side byte) text h.1 in omega arith

further_more : (further count : ℕ) (side : Side) (byte : ℕ) (text : List ℕ) → count ≡ suc further → IsFurther side byte
    → AreFurther further (behind side byte) text → AreFurther count side (byte ∷ text)
further_more further count side byte text e own rest =
    subst (λ (n : ℕ). AreFurther n side (byte ∷ text)) (sym e) (own, rest)

-- a word
word_further : (text : List ℕ) → AreFurther (prefix_len is_word_byte text) Outside text
word_further [] = refl
word_further (byte ∷ text) = step (is_word_byte byte) refl (word_further text)
  where
    step : (in_word : Bool) → is_word_byte byte ≡ in_word → AreFurther (prefix_len is_word_byte text) Outside text
        → AreFurther (prefix_len is_word_byte (byte ∷ text)) Outside (byte ∷ text)
    step false e rest = rw e refl
    step true e rest =
        let count : prefix_len is_word_byte (byte ∷ text) ≡ suc (prefix_len is_word_byte text) = rw e (omega arith) in
        let no_quote : (byte == 34) ≡ false = grind (arith, e) in
        let no_close : (byte == 41) ≡ false = grind (arith, e) in
        let no_bar : (byte == 124) ≡ false = grind (arith, e) in
        let out : behind Outside byte ≡ Outside = rw no_quote refl in
        further_more (prefix_len is_word_byte text) (prefix_len is_word_byte (byte ∷ text)) Outside byte text count
        (no_close, no_bar)
        (subst (λ (side : Side). AreFurther (prefix_len is_word_byte text) side text) (sym out) rest)

-- a quoted text
record Counted (rest : Option QuotedRest) (quoted : QuotedRest) : Type 0 where
  found : QuotedRest
  is : rest ≡ Some found
  more : quoted.bytes ≡ suc found.bytes

letter_counted : (letter : ℕ) (rest : Option QuotedRest) (quoted : QuotedRest) → with_letter letter rest ≡ Some quoted
    → Counted rest quoted
letter_counted letter None quoted e = absurd cc
letter_counted letter (Some found) quoted e =
    let whole : QuotedRest = record { letters = letter ∷ found.letters; bytes = 1 + found.bytes } in
    let same : whole ≡ quoted = cc in
    record { found = found; is = refl; more = sym (ap (λ (q : QuotedRest). q.bytes) same) ∙ omega arith }

backslash_counted : (rest : Option QuotedRest) (quoted : QuotedRest) → with_backslash rest ≡ Some quoted
    → Counted rest quoted
backslash_counted None quoted e = absurd cc
backslash_counted (Some found) quoted e =
    let whole : QuotedRest = record { letters = found.letters; bytes = 1 + found.bytes } in
    let same : whole ≡ quoted = cc in
    record { found = found; is = refl; more = sym (ap (λ (q : QuotedRest). q.bytes) same) ∙ omega arith }

abbrev nothing : Option QuotedRest
nothing = None

nothing_there : (quoted : QuotedRest) → nothing ≡ Some quoted → ⊥
nothing_there quoted e = cc

abbrev side_of : Bool → Side
side_of true = Escaped
side_of false = Inside

quoted_further : (escaped : Bool) (text : List ℕ) (quoted : QuotedRest) → quoted_rest escaped text ≡ Some quoted
    → AreFurther quoted.bytes (side_of escaped) text
quoted_further true [] quoted e = absurd cc
quoted_further false [] quoted e = absurd cc
quoted_further false (byte ∷ text) quoted e =
    step (quoted_sort byte) refl (λ escaped rest e. quoted_further escaped text rest e)
  where
    step : (sort : QuotedSort) → quoted_sort byte ≡ sort
        → ((escaped : Bool) (rest : QuotedRest) → quoted_rest escaped text ≡ Some rest
        → AreFurther rest.bytes (side_of escaped) text)
        → AreFurther quoted.bytes Inside (byte ∷ text)
    step Quote s others =
        let last : QuotedRest = record { letters = []; bytes = 1 } in
        let given : Some last ≡ Some quoted = rw s at e in
        let same : last ≡ quoted = cc in
        let side : behind Inside byte ≡ Outside = rw s refl in
        further_more 0 quoted.bytes Inside byte text (sym (ap (λ (q : QuotedRest). q.bytes) same)) tt side
    step Backslash s others =
        let rest = backslash_counted (quoted_rest true text) quoted (rw s at e) in
        let side : behind Inside byte ≡ Escaped = rw s refl in
        further_more rest.found.bytes quoted.bytes Inside byte text rest.more tt
        (subst (λ (side : Side). AreFurther rest.found.bytes side text) (sym side) (others true rest.found rest.is))
    step Plain s others =
        let rest = letter_counted byte (quoted_rest false text) quoted (rw s at e) in
        let side : behind Inside byte ≡ Inside = rw s refl in
        further_more rest.found.bytes quoted.bytes Inside byte text rest.more tt
        (subst (λ (side : Side). AreFurther rest.found.bytes side text) (sym side) (others false rest.found rest.is))
quoted_further true (byte ∷ text) quoted e = step (quoted_sort byte) refl (λ rest e. quoted_further false text rest e)
  where
    lettered : ((rest : QuotedRest) → quoted_rest false text ≡ Some rest → AreFurther rest.bytes Inside text)
        → with_letter byte (quoted_rest false text) ≡ Some quoted → AreFurther quoted.bytes Escaped (byte ∷ text)
    lettered others given =
        let rest = letter_counted byte (quoted_rest false text) quoted given in
        further_more rest.found.bytes quoted.bytes Escaped byte text rest.more tt (others rest.found rest.is)

    step : (sort : QuotedSort) → quoted_sort byte ≡ sort
        → ((rest : QuotedRest) → quoted_rest false text ≡ Some rest → AreFurther rest.bytes Inside text)
        → AreFurther quoted.bytes Escaped (byte ∷ text)
    step Quote s others = lettered others (rw s at e)
    step Backslash s others = lettered others (rw s at e)
    step Plain s others = absurd (nothing_there quoted (rw s at e))

-- ---- what begins at a byte

-- 1 for a `|`
abbrev pub bar_of : Token → ℕ
bar_of Bar = 1
bar_of token = 0

abbrev byte_of : Token → ℕ
byte_of Equals = 61
byte_of OpenBracket = 40
byte_of CloseBracket = 41
byte_of Comma = 44
byte_of OpenSquare = 91
byte_of CloseSquare = 93
byte_of Bar = 124
byte_of Plus = 43
byte_of Minus = 45
byte_of Times = 42
byte_of token = 0

mark_found : (byte : ℕ) (mark : Token) (entries : List (ℕ × Token))
    → AllByRecursion (λ (entry : ℕ × Token). entry.0 ≡ byte_of entry.1) entries
    → option_map (λ (entry : ℕ × Token). entry.1) (find (λ (entry : ℕ × Token). entry.0 == byte) entries) ≡ Some mark
    → byte ≡ byte_of mark
mark_found byte mark [] right e = absurd cc
mark_found byte mark (entry ∷ entries) right e = step (entry.0 == byte) refl (mark_found byte mark entries right.1)
  where
    step : (same : Bool) → (entry.0 == byte) ≡ same
        → (option_map (λ (entry : ℕ × Token). entry.1)
        (find (λ (entry : ℕ × Token). entry.0 == byte) entries) ≡ Some mark → byte ≡ byte_of mark)
        → byte ≡ byte_of mark
    step false s others = others (rw s at e)
    step true s others =
        let given : Some entry.1 ≡ Some mark = rw s at e in
        let own : entry.1 ≡ mark = cc in
        sym (eqb-true entry.0 byte s) ∙ right.0 ∙ ap byte_of own

mark_byte : (byte : ℕ) (mark : Token) → mark_of byte ≡ Some mark → byte ≡ byte_of mark
mark_byte byte mark e =
    mark_found byte mark marks (refl, (refl, (refl, (refl, (refl, (refl, (refl, (refl, (refl, (refl, tt)))))))))) e

-- a mark is outside, no `|` but one, and no space
abbrev IsPlainMark : Token → Type 0
IsPlainMark mark =
    (behind Outside (byte_of mark) ≡ Outside) × (bar Outside (byte_of mark) ≡ bar_of mark) ×
    ((byte_of mark == 32) ≡ false)

plain_mark : (mark : Token) → IsPlainMark mark
plain_mark (Word bytes) = (refl, refl, refl)
plain_mark (Quoted letters) = (refl, refl, refl)
plain_mark Equals = (refl, refl, refl)
plain_mark OpenBracket = (refl, refl, refl)
plain_mark CloseBracket = (refl, refl, refl)
plain_mark Comma = (refl, refl, refl)
plain_mark OpenSquare = (refl, refl, refl)
plain_mark CloseSquare = (refl, refl, refl)
plain_mark Bar = (refl, refl, refl)
plain_mark Plus = (refl, refl, refl)
plain_mark Minus = (refl, refl, refl)
plain_mark Times = (refl, refl, refl)
plain_mark Dots = (refl, refl, refl)

-- a token begins at a byte: its further bytes, whether it is a `|`, what a closing bracket is, and how a word begins
pub record IsBegun (byte : ℕ) (text : List ℕ) (token : Token) (further : ℕ) : Type 0 where
  pub rest : AreFurther further (behind Outside byte) text
  pub bar_is : bar Outside byte ≡ bar_of token
  pub closes : token ≡ CloseBracket → (byte ≡ 41) × (further ≡ 0)
  pub letter : (first : ℕ) (others : List ℕ) → token ≡ Word (first ∷ others) → byte ≡ first
  pub no_space : (byte == 32) ≡ false

-- what begins at a byte is a space, or a token
abbrev pub IsRight : ℕ → List ℕ → Beginning → Type 0
IsRight byte text Space = (behind Outside byte ≡ Outside) × (bar Outside byte ≡ 0) × ((byte == 32) ≡ true)
IsRight byte text (Begins token further) = IsBegun byte text token further
IsRight byte text (Stops offence) = Unit {0}

abbrev pub token_sort : Token → ℕ
token_sort CloseBracket = 1
token_sort token = 0

pub no_close : (token : Token) → token_sort token ≡ 0 → token ≡ CloseBracket → ⊥
no_close token sort e = absurd (omega (arith, sym sort ∙ ap token_sort e))

word_begun : (byte : ℕ) (text : List ℕ) → is_word_byte byte ≡ true
    → IsBegun byte text (Word (byte ∷ take (prefix_len is_word_byte text) text)) (prefix_len is_word_byte text)
word_begun byte text e =
    let no_quote : (byte == 34) ≡ false = grind (arith, e) in
    let no_bar : (byte == 124) ≡ false = grind (arith, e) in
    let out : behind Outside byte ≡ Outside = rw no_quote refl in
    record {
      rest = subst (λ (side : Side). AreFurther (prefix_len is_word_byte text) side text) (sym out) (word_further text);
      bar_is = rw no_bar refl;
      closes = λ same. absurd (no_close _ refl same);
      letter = λ first others same. cc;
      no_space = grind (arith, e);
    }

no_word : (first : ℕ) (others : List ℕ) → mark_of 0 ≡ Some (Word (first ∷ others)) → ⊥
no_word first others e = cc

mark_begun : (byte : ℕ) (text : List ℕ) (mark : Token) → mark_of byte ≡ Some mark → IsBegun byte text mark 0
mark_begun byte text mark e =
    let is = mark_byte byte mark e in
    let plain = plain_mark mark in
    record {
      rest = ap (behind Outside) is ∙ plain.0;
      bar_is = ap (bar Outside) is ∙ plain.1;
      closes = λ same. (is ∙ ap byte_of same, refl);
      letter =
          λ first others same. absurd (no_word first others (sym (ap mark_of (is ∙ ap byte_of same)) ∙ e
          ∙ ap (λ (mark : Token). Some mark) same));
      no_space = ap (λ (byte : ℕ). byte == 32) is ∙ plain.2;
    }

quote_begun : (text : List ℕ) (rest : Option QuotedRest) → quoted_rest false text ≡ rest
    → IsRight 34 text (beginning 34 text)
quote_begun text None e = rw e tt
quote_begun text (Some quoted) e =
    rw e (record {
      rest = quoted_further false text quoted e;
      bar_is = refl;
      closes = λ same. absurd (no_close _ refl same);
      letter = λ first others same. absurd cc;
      no_space = refl;
    })

dots_begun : (text : List ℕ) → IsRight 46 text (beginning 46 text)
dots_begun [] = tt
dots_begun (second ∷ text) = step (second == 46) refl
  where
    step : (dot : Bool) → (second == 46) ≡ dot → IsRight 46 (second ∷ text) (beginning 46 (second ∷ text))
    step false e = rw e tt
    step true e =
        let is : second ≡ 46 = eqb-true second 46 e in
        rw is (record {
          rest = ((refl, refl), refl);
          bar_is = refl;
          closes = λ same. absurd (no_close _ refl same);
          letter = λ first others same. absurd cc;
          no_space = refl;
        })

pub right_beginning : (byte : ℕ) (text : List ℕ) → IsRight byte text (beginning byte text)
right_beginning byte text = by_space (byte == 32) refl
  where
    by_mark : (found : Option Token) → mark_of byte ≡ found → (byte == 32) ≡ false → is_word_byte byte ≡ false
        → (byte == 34) ≡ false → (byte == 46) ≡ false
        → IsRight byte text (beginning byte text)
    by_mark None e space word quote dot = rw (space, word, quote, dot, e) tt
    by_mark (Some mark) e space word quote dot = rw (space, word, quote, dot, e) (mark_begun byte text mark e)

    by_dot : (dot : Bool) → (byte == 46) ≡ dot → (byte == 32) ≡ false → is_word_byte byte ≡ false
        → (byte == 34) ≡ false → IsRight byte text (beginning byte text)
    by_dot true e space word quote =
        subst (λ (b : ℕ). IsRight b text (beginning b text)) (sym (eqb-true byte 46 e)) (dots_begun text)
    by_dot false e space word quote = by_mark (mark_of byte) refl space word quote e

    by_quote : (quote : Bool) → (byte == 34) ≡ quote → (byte == 32) ≡ false → is_word_byte byte ≡ false
        → IsRight byte text (beginning byte text)
    by_quote true e space word =
        subst (λ (b : ℕ). IsRight b text (beginning b text)) (sym (eqb-true byte 34 e))
        (quote_begun text (quoted_rest false text) refl)
    by_quote false e space word = by_dot (byte == 46) refl space word e

    by_word : (word : Bool) → is_word_byte byte ≡ word → (byte == 32) ≡ false → IsRight byte text (beginning byte text)
    by_word true e space = rw (space, e) (word_begun byte text e)
    by_word false e space = by_quote (byte == 34) refl space e

    by_space : (space : Bool) → (byte == 32) ≡ space → IsRight byte text (beginning byte text)
    by_space true e = subst (λ (b : ℕ). IsRight b text (beginning b text)) (sym (eqb-true byte 32 e)) (refl, refl, refl)
    by_space false e = by_word (is_word_byte byte) refl e
