-- What the tokens of a text say, found from its beginning or from behind one of them.
use Rattle.std.proofs.Common.{◌≡◌, ℕ, zero, suc, ◌+◌, ◌==◌, Bool, true, false, ◌&&◌, ◌||◌, cond, codes, Some, None, Result, Ok, Err, List, [], ◌∷◌, ◌++◌, length, map, take, drop, refl, sym, ◌∙◌, ap, append_assoc, length-append, arith}
use Rattle.std.specs.List.{list_all, take_while, prefix_len, flat_map}
use Rattle.adp_model.specs.TreeText.{escaped, quoted}
use Rattle.adp_model.specs.WellFormed.{is_word_byte}
use Rattle.job_texts.specs.LineTokens.{Token, Word, Quoted, Dots, PlacedToken, Offence, Beginning, Space, Begins, Stops, mark_of, beginning, quoted_rest, with_letter, with_backslash, with_token, tokens_from, line_tokens, tokens_of, before_tokens, begins_word, is_one_of}

-- what placed tokens say
abbrev pub says : Result (List PlacedToken) Offence → Result (List Token) Offence
says (Ok tokens) = Ok (map (λ (placed : PlacedToken). placed.token) tokens)
says (Err offence) = Err offence

says_tokens : (text : List ℕ) → tokens_of text ≡ says (tokens_from 0 0 text)
says_tokens text = step (tokens_from 0 0 text) refl
  where
    step : (tokens : Result (List PlacedToken) Offence) → tokens_from 0 0 text ≡ tokens → tokens_of text ≡ says (tokens_from 0 0 text)
    step (Ok tokens) e = rw e refl
    step (Err offence) e = rw e refl

says_more : (token : PlacedToken) (tokens : Result (List PlacedToken) Offence) → says (with_token token tokens) ≡ before_tokens token.token (says tokens)
says_more token (Ok tokens) = refl
says_more token (Err offence) = refl

-- what the tokens say is the same wherever the text stands in its line
same_anywhere : (inside place place' : ℕ) (text : List ℕ) → says (tokens_from inside place text) ≡ says (tokens_from inside place' text)
same_anywhere inside place place' [] = refl
same_anywhere (suc inside) place place' (byte ∷ text) = same_anywhere inside (place + 1) (place' + 1) text
same_anywhere zero place place' (byte ∷ text) = step (beginning byte text) refl (λ inside. same_anywhere inside (place + 1) (place' + 1) text)
  where
    step : (begins : Beginning) → beginning byte text ≡ begins
        → ((inside : ℕ) → says (tokens_from inside (place + 1) text) ≡ says (tokens_from inside (place' + 1) text))
        → says (tokens_from 0 place (byte ∷ text)) ≡ says (tokens_from 0 place' (byte ∷ text))
    step Space e others = rw e (others 0)
    step (Begins token further) e others = rw (e, says_more, says_more) (ap (before_tokens token) (others further))
    step (Stops offence) e others = rw e refl

-- the bytes of the token before are passed over
inside_token : (inside place : ℕ) (text : List ℕ) → says (tokens_from inside place text) ≡ tokens_of (drop inside text)
inside_token zero place text = same_anywhere 0 place 0 text ∙ sym (says_tokens text)
inside_token (suc inside) place [] = refl
inside_token (suc inside) place (byte ∷ text) = inside_token inside (place + 1) text

-- a text that begins with a token
first_token : (byte : ℕ) (text : List ℕ) (token : Token) (further : ℕ) → beginning byte text ≡ Begins token further
    → tokens_of (byte ∷ text) ≡ before_tokens token (tokens_of (drop further text))
first_token byte text token further begins =
    says_tokens (byte ∷ text) ∙ rw (begins, says_more) (ap (before_tokens token) (inside_token further 1 text))

-- a text that begins with a space
pub first_space : (text : List ℕ) → tokens_of (32 ∷ text) ≡ tokens_of text
first_space text = says_tokens (32 ∷ text) ∙ inside_token 0 1 text

both : (a b : Bool) → (a && b) ≡ true → (a ≡ true) × (b ≡ true)
both true b h = (refl, h)
both false b h = cc

word_bytes : (word rest : List ℕ) → list_all is_word_byte word ≡ true → begins_word rest ≡ false
    → prefix_len is_word_byte (word ++ rest) ≡ length word
word_bytes [] [] all ends = refl
word_bytes [] (byte ∷ rest) all ends = rw ends refl
word_bytes (byte ∷ word) rest all ends =
    let each = both (is_word_byte byte) (list_all is_word_byte word) all in
    rw (each.0, word_bytes word rest each.1 ends) (omega arith)

taken : (word rest : List ℕ) → take (length word) (word ++ rest) ≡ word
taken [] rest = refl
taken (byte ∷ word) rest = ap (λ (others : List ℕ). byte ∷ others) (taken word rest)

dropped : (word rest : List ℕ) → drop (length word) (word ++ rest) ≡ rest
dropped [] rest = refl
dropped (byte ∷ word) rest = dropped word rest

word_begins : (byte : ℕ) (text : List ℕ) → is_word_byte byte ≡ true
    → beginning byte text ≡ Begins (Word (byte ∷ take_while is_word_byte text)) (prefix_len is_word_byte text)
word_begins byte text in_word =
    let no_space : (byte == 32) ≡ false = grind (arith, in_word) in
    rw (no_space, in_word) refl

-- a word before a byte of none
pub first_word : (byte : ℕ) (word rest : List ℕ) → list_all is_word_byte (byte ∷ word) ≡ true → begins_word rest ≡ false
    → tokens_of ((byte ∷ word) ++ rest) ≡ before_tokens (Word (byte ∷ word)) (tokens_of rest)
first_word byte word rest all ends =
    let each = both (is_word_byte byte) (list_all is_word_byte word) all in
    let bytes = word_bytes word rest each.1 ends in
    let begins : beginning byte (word ++ rest) ≡ Begins (Word (byte ∷ word)) (length word) = word_begins byte (word ++ rest) each.0 ∙ rw (bytes, taken) refl in
    first_token byte (word ++ rest) (Word (byte ∷ word)) (length word) begins ∙ rw dropped refl

-- ---- behind one of the tokens

-- one of the tokens of a text at a place, and what the bytes behind it say
record Behind (place to : ℕ) (text : List ℕ) (behind : List PlacedToken) : Type 0 where
  bytes : ℕ
  ends : place + bytes ≡ to
  said : tokens_of (drop bytes text) ≡ Ok (map (λ (placed : PlacedToken). placed.token) behind)

one_byte_more : (place to byte : ℕ) (text : List ℕ) (behind : List PlacedToken) → Behind (place + 1) to text behind → Behind place to (byte ∷ text) behind
one_byte_more place to byte text behind found = record {
  bytes = suc found.bytes;
  ends = omega (arith, found.ends);
  said = found.said;
}

-- the tokens behind a first one
record Parted (first : PlacedToken) (rest : Result (List PlacedToken) Offence) (tokens : List PlacedToken) : Type 0 where
  others : List PlacedToken
  rest_is : rest ≡ Ok others
  tokens_are : tokens ≡ first ∷ others

parted : (first : PlacedToken) (rest : Result (List PlacedToken) Offence) (tokens : List PlacedToken) → with_token first rest ≡ Ok tokens → Parted first rest tokens
parted first (Ok others) tokens h = record { others = others; rest_is = refl; tokens_are = cc }
parted first (Err offence) tokens h = cc

find : (inside place : ℕ) (text : List ℕ) (front behind : List PlacedToken) (token : PlacedToken)
    → tokens_from inside place text ≡ Ok (front ++ token ∷ behind) → Behind place token.to text behind
find inside place [] [] behind token h = cc
find inside place [] (first ∷ front) behind token h = cc
find (suc inside) place (byte ∷ text) front behind token h =
    one_byte_more place token.to byte text behind (find inside (place + 1) text front behind token h)
find zero place (byte ∷ text) front behind token h =
    step (beginning byte text) refl front h (λ inside front h. find inside (place + 1) text front behind token h)
  where
    step : (begins : Beginning) → beginning byte text ≡ begins → (front : List PlacedToken) → tokens_from 0 place (byte ∷ text) ≡ Ok (front ++ token ∷ behind)
        → ((inside : ℕ) (front : List PlacedToken) → tokens_from inside (place + 1) text ≡ Ok (front ++ token ∷ behind) → Behind (place + 1) token.to text behind)
        → Behind place token.to (byte ∷ text) behind
    step Space e front h others = one_byte_more place token.to byte text behind (others 0 front (rw e at h))
    step (Stops offence) e front h others = cc (rw e at h)
    step (Begins first further) e [] h others =
        let parts = parted (record { token = first; from = place; to = place + 1 + further }) (tokens_from further (place + 1) text) (token ∷ behind) (rw e at h) in
        let own : token ≡ record { token = first; from = place; to = place + 1 + further } = cc parts.tokens_are in
        let rest : parts.others ≡ behind = cc parts.tokens_are in
        one_byte_more place token.to byte text behind (record {
          bytes = further;
          ends = sym (ap (λ (token : PlacedToken). token.to) own);
          said = sym (inside_token further (place + 1) text) ∙ rw (parts.rest_is, rest) refl;
        })
    step (Begins first further) e (before ∷ front) h others =
        let parts = parted (record { token = first; from = place; to = place + 1 + further }) (tokens_from further (place + 1) text) ((before ∷ front) ++ token ∷ behind) (rw e at h) in
        let rest : parts.others ≡ front ++ token ∷ behind = cc parts.tokens_are in
        one_byte_more place token.to byte text behind (others further front (parts.rest_is ∙ ap (λ (tokens : List PlacedToken). Ok tokens) rest))

-- what the tokens of a line say behind one of them, the bytes behind it say alone
pub behind_token : (line : List ℕ) (front : List PlacedToken) (token : PlacedToken) (behind : List PlacedToken)
    → line_tokens line ≡ Ok (front ++ token ∷ behind) → tokens_of (drop token.to line) ≡ Ok (map (λ (placed : PlacedToken). placed.token) behind)
behind_token line front token behind h =
    let found = find 0 0 line front behind token h in
    let bytes : found.bytes ≡ token.to = omega (arith, found.ends) in
    rw bytes at found.said

-- ---- marks

word_is_no_mark : (byte : ℕ) → is_word_byte byte ≡ true → mark_of byte ≡ None
word_is_no_mark byte in_word =
    let equals : (61 == byte) ≡ false = grind (arith, in_word) in
    let open_bracket : (40 == byte) ≡ false = grind (arith, in_word) in
    let close_bracket : (41 == byte) ≡ false = grind (arith, in_word) in
    let comma : (44 == byte) ≡ false = grind (arith, in_word) in
    let open_square : (91 == byte) ≡ false = grind (arith, in_word) in
    let close_square : (93 == byte) ≡ false = grind (arith, in_word) in
    let bar : (124 == byte) ≡ false = grind (arith, in_word) in
    let plus : (43 == byte) ≡ false = grind (arith, in_word) in
    let minus : (45 == byte) ≡ false = grind (arith, in_word) in
    let times : (42 == byte) ≡ false = grind (arith, in_word) in
    rw (equals, open_bracket, close_bracket, comma, open_square, close_square, bar, plus, minus, times) refl

same_byte : (byte other : ℕ) → (byte == other) ≡ true → byte ≡ other
same_byte byte other h = grind arith

mark_begins : (byte : ℕ) (mark : Token) (text : List ℕ) → mark_of byte ≡ Some mark → beginning byte text ≡ Begins mark 0
mark_begins byte mark text h =
    let no_word : is_word_byte byte ≡ false = not_word (is_word_byte byte) refl in
    let no_space : (byte == 32) ≡ false = no 32 refl (byte == 32) refl in
    let no_quote : (byte == 34) ≡ false = no 34 refl (byte == 34) refl in
    let no_dot : (byte == 46) ≡ false = no 46 refl (byte == 46) refl in
    rw (no_space, no_word, no_quote, no_dot, h) refl
  where
    not_word : (b : Bool) → is_word_byte byte ≡ b → is_word_byte byte ≡ false
    not_word true e = cc (word_is_no_mark byte e, h)
    not_word false e = e

    no : (other : ℕ) → mark_of other ≡ None → (b : Bool) → (byte == other) ≡ b → (byte == other) ≡ false
    no other none true e = cc (ap mark_of (same_byte byte other e), none, h)
    no other none false e = e

-- a text that begins with a mark
pub first_mark : (byte : ℕ) (mark : Token) (text : List ℕ) → mark_of byte ≡ Some mark → tokens_of (byte ∷ text) ≡ before_tokens mark (tokens_of text)
first_mark byte mark text h = first_token byte text mark 0 (mark_begins byte mark text h)

pub space_first : (byte : ℕ) (text : List ℕ) → is_one_of (codes " ") byte ≡ true → tokens_of (byte ∷ text) ≡ tokens_of text
space_first byte text h =
    let is : byte ≡ 32 = grind (arith, h) in
    rw is (first_space text)

-- ---- dots and quoted texts

pub first_dots : (text : List ℕ) → tokens_of (codes ".." ++ text) ≡ before_tokens Dots (tokens_of text)
first_dots text = first_token 46 (46 ∷ text) Dots 1 refl

-- the letters between the quotes, and the last quote
inner : List ℕ → List ℕ
inner letters = flat_map escaped letters ++ 34 ∷ []

-- a letter that has a `\` before it, or needs none
letter_rest : (letter : ℕ) (text : List ℕ) → quoted_rest false (escaped letter ++ text)
    ≡ cond (letter == 34 || letter == 92) (with_backslash (with_letter letter (quoted_rest false text))) (with_letter letter (quoted_rest false text))
letter_rest letter text = step (letter == 34) refl (letter == 92) refl
  where
    step : (b : Bool) → (letter == 34) ≡ b → (b' : Bool) → (letter == 92) ≡ b' → quoted_rest false (escaped letter ++ text)
        ≡ cond (letter == 34 || letter == 92) (with_backslash (with_letter letter (quoted_rest false text))) (with_letter letter (quoted_rest false text))
    step true quote b' backslash =
        let marked : escaped letter ≡ 92 ∷ letter ∷ [] = rw quote refl in
        rw marked (rw quote refl)
    step false quote true backslash =
        let marked : escaped letter ≡ 92 ∷ letter ∷ [] = rw (quote, backslash) refl in
        rw marked (rw (quote, backslash) refl)
    step false quote false backslash =
        let plain : escaped letter ≡ letter ∷ [] = rw (quote, backslash) refl in
        rw plain (rw (quote, backslash) refl)

escaped_length : (letter : ℕ) → length (escaped letter) ≡ cond (letter == 34 || letter == 92) 2 1
escaped_length letter = step (letter == 34 || letter == 92) refl
  where
    step : (b : Bool) → (letter == 34 || letter == 92) ≡ b → length (escaped letter) ≡ cond (letter == 34 || letter == 92) 2 1
    step true e = rw e refl
    step false e = rw e refl

closed : (letters text : List ℕ) → quoted_rest false (inner letters ++ text) ≡ Some (record { letters = letters; bytes = length (inner letters) })
unfolding inner
closed [] text = refl
closed (letter ∷ letters) text =
    let regrouped : (flat_map escaped (letter ∷ letters) ++ 34 ∷ []) ++ text ≡ escaped letter ++ ((flat_map escaped letters ++ 34 ∷ []) ++ text) = simp append_assoc in
    let size : length (flat_map escaped (letter ∷ letters) ++ 34 ∷ []) ≡ length (escaped letter) + length (flat_map escaped letters ++ 34 ∷ []) =
    simp length-append (omega arith) in
    rw (regrouped, letter_rest, closed letters text, size, escaped_length) (step (letter == 34 || letter == 92))
  where
    step : (b : Bool) → cond b (with_backslash (with_letter letter (Some (record { letters = letters; bytes = length (flat_map escaped letters ++ 34 ∷ []) }))))
        (with_letter letter (Some (record { letters = letters; bytes = length (flat_map escaped letters ++ 34 ∷ []) })))
        ≡ Some (record { letters = letter ∷ letters; bytes = cond b 2 1 + length (flat_map escaped letters ++ 34 ∷ []) })
    step true =
        let more : 1 + (1 + length (flat_map escaped letters ++ 34 ∷ [])) ≡ 2 + length (flat_map escaped letters ++ 34 ∷ []) = omega arith in
        rw more refl
    step false = refl

pub first_quoted : (letters text : List ℕ) → tokens_of (quoted letters ++ text) ≡ before_tokens (Quoted letters) (tokens_of text)
unfolding inner
first_quoted letters text =
    let begins : beginning 34 (inner letters ++ text) ≡ Begins (Quoted letters) (length (inner letters)) = rw (closed letters text) refl in
    first_token 34 (inner letters ++ text) (Quoted letters) (length (inner letters)) begins ∙ rw dropped refl
