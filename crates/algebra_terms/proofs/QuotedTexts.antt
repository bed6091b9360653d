-- The length of a quoted text, byte by byte, and the quoted text that it cuts off.
use Rattle.std.proofs.Common.{◌≡◌, ℕ, suc, ◌+◌, Bool, true, false, Option, Some, None, List, [], ◌∷◌, take, refl, sym, ◌∙◌, arith}
use Rattle.std.specs.Option.{option_map}
use Rattle.job_texts.specs.LineTokens.{QuotedRest, QuotedSort, Quote, Backslash, Plain, quoted_sort, quoted_rest, with_letter, with_backslash, Quoted, Begins, beginning}
use Rattle.algebra_terms.specs.Tokens.{quoted_bytes, letters_behind}

-- so many bytes before
abbrev pub behind : ℕ → Option ℕ → Option ℕ
behind front bytes = option_map (λ n. front + n) bytes

take_one_more : (n byte : ℕ) (text : List ℕ) → take (1 + n) (byte ∷ text) ≡ byte ∷ take n text
take_one_more n byte text = let e : 1 + n ≡ suc n = omega arith in rw e

-- what a text's rest is where one byte more comes before it
record Inner (longer : QuotedRest) (letters : List ℕ → List ℕ) (rest : Option QuotedRest) : Type 0 where
  inner : QuotedRest
  is : rest ≡ Some inner
  longer_is : longer ≡ record { letters = letters inner.letters; bytes = 1 + inner.bytes }

behind_letter : (letter : ℕ) (rest : Option QuotedRest) (quoted : QuotedRest) → with_letter letter rest ≡ Some quoted → Inner quoted (λ letters. letter ∷ letters) rest
behind_letter letter None quoted h = cc
behind_letter letter (Some rest) quoted h = record { inner = rest; is = refl; longer_is = cc }

behind_backslash : (rest : Option QuotedRest) (quoted : QuotedRest) → with_backslash rest ≡ Some quoted → Inner quoted (λ letters. letters) rest
behind_backslash None quoted h = cc
behind_backslash (Some rest) quoted h = record { inner = rest; is = refl; longer_is = cc }

-- a quoted text's rest is the same where nothing follows it
pub cut_off : (escaped : Bool) (text : List ℕ) (quoted : QuotedRest) → quoted_rest escaped text ≡ Some quoted → quoted_rest escaped (take quoted.bytes text) ≡ Some quoted
cut_off escaped [] quoted h = cc
cut_off escaped (byte ∷ text) quoted h = step escaped (quoted_sort byte) refl h (cut_off false text) (cut_off true text)
  where
    IsCut : Bool → Type 0
    IsCut next = (quoted : QuotedRest) → quoted_rest next text ≡ Some quoted → quoted_rest next (take quoted.bytes text) ≡ Some quoted

    letter : (escaped : Bool) → ((text : List ℕ) → quoted_rest escaped (byte ∷ text) ≡ with_letter byte (quoted_rest false text))
        → quoted_rest escaped (byte ∷ text) ≡ Some quoted → IsCut false → quoted_rest escaped (take quoted.bytes (byte ∷ text)) ≡ Some quoted
    letter escaped is h cut =
        let inner = behind_letter byte (quoted_rest false text) quoted (sym (is text) ∙ h) in
        rw (inner.longer_is, take_one_more, is, cut inner.inner inner.is) refl

    step : (escaped : Bool) (sort : QuotedSort) → quoted_sort byte ≡ sort → quoted_rest escaped (byte ∷ text) ≡ Some quoted → IsCut false → IsCut true
        → quoted_rest escaped (take quoted.bytes (byte ∷ text)) ≡ Some quoted
    step false Quote e h plain behind =
        let is : quoted ≡ record { letters = []; bytes = 1 } = cc (rw e at h) in
        rw (is, e) refl
    step false Backslash e h plain behind =
        let inner = behind_backslash (quoted_rest true text) quoted (rw e at h) in
        rw (inner.longer_is, take_one_more, e, behind inner.inner inner.is) refl
    step false Plain e h plain behind = letter false (λ text. rw e refl) h plain
    step true Quote e h plain behind = letter true (λ text. rw e refl) h plain
    step true Backslash e h plain behind = letter true (λ text. rw e refl) h plain
    step true Plain e h plain behind = cc (rw e at h)

-- the token that a quoted text is, from its length
pub quoted_begins : (text : List ℕ) (len : ℕ) → Some len ≡ quoted_bytes (quoted_rest false text)
    → (beginning 34 text ≡ Begins (Quoted (letters_behind (take len text))) len) × (quoted_bytes (quoted_rest false (take len text)) ≡ Some len)
quoted_begins text len h = step (quoted_rest false text) refl h
  where
    step : (rest : Option QuotedRest) → quoted_rest false text ≡ rest → Some len ≡ quoted_bytes rest
        → (beginning 34 text ≡ Begins (Quoted (letters_behind (take len text))) len) × (quoted_bytes (quoted_rest false (take len text)) ≡ Some len)
    step None e h = cc
    step (Some quoted) e h =
        let len_is : len ≡ quoted.bytes = cc in
        let cut = cut_off false text quoted e in
        (rw (len_is, e, cut) refl, rw (len_is, cut) refl)
