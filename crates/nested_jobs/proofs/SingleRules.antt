-- A rule line that ends in a closing bracket outside of quoted texts, with no `|` outside of them, has one alternative,
-- without a size.
use Rattle.std.proofs.Common.{◌≡◌, ℕ, zero, suc, ◌+◌, ◌<◌, Bool, true, false, codes, Option, Some, None, Result, Ok, Err, List, [], ◌∷◌, ◌++◌, length, refl, sym, ◌∙◌, ap, subst, arith}
use Rattle.std.specs.List.{list_all}
use Rattle.std.specs.Option.{option_map, option_and_then}
use Rattle.adp_model.specs.Printable.{is_printable_byte}
use Rattle.job_texts.specs.LineTokens.{Token, Word, Quoted, Equals, OpenBracket, CloseBracket, Comma, OpenSquare, CloseSquare, Bar, Dots, PlacedToken, Offence, StrayByte, OpenQuote, Beginning, Space, Begins, Stops, beginning, with_token, tokens_from, line_tokens, tokens_of}
use Rattle.job_texts.specs.Declarations.{Argument, Named, Spelled, OneOf, RunOf, Alternative, Declaration, Rule, RuleRest, with_argument, with_sign, alternatives_of, arguments_of, behind_argument, behind_alternative, allowed, rule_of, declaration_of, HeaderLine, Skipped, Unprintable, Unclosed, Shapeless, Says, header_line}
use Rattle.nested_jobs.proofs.Sides.{Side, Outside, behind, side_after, bar, bars, bar_of, AreFurther, IsRight, no_close, right_beginning}
use Rattle.nested_jobs.proofs.Chains.{parted, said, says, token_at}

-- ---- tokens

-- the last one, where there is one, is a closing bracket, and none is a `|`
abbrev AreClosed : List Token → Type 0
AreClosed [] = Unit {0}
AreClosed (token ∷ []) = token ≡ CloseBracket
AreClosed (token ∷ next ∷ tokens) = (bar_of token ≡ 0) × AreClosed (next ∷ tokens)

behind_closed : (token : Token) (tokens : List Token) → AreClosed (token ∷ tokens) → AreClosed tokens
behind_closed token [] closed = tt
behind_closed token (next ∷ tokens) closed = closed.1

no_bar : (tokens : List Token) → AreClosed (Bar ∷ tokens) → ⊥
no_bar [] closed = no_close Bar refl closed
no_bar (next ∷ tokens) closed = absurd (omega (arith, closed.0))

-- ---- one alternative

abbrev IsLast : RuleRest → Type 0
IsLast rest = (rest.size ≡ None) × (rest.alternatives ≡ [])

last_argument : (argument : Argument) (inner : Option RuleRest) (rest : RuleRest)
    → with_argument argument inner ≡ Some rest
    → ((found : RuleRest) → inner ≡ Some found → IsLast found) → IsLast rest
last_argument argument None rest e last = absurd cc
last_argument argument (Some found) rest e last =
    let whole : RuleRest = record found { arguments = argument ∷ found.arguments } in
    let same : whole ≡ rest = cc in
    subst IsLast same (last found refl)

last_end : (tokens : List Token) (rest : RuleRest) → behind_alternative tokens ≡ Some rest → AreClosed tokens
    → IsLast rest
last_end [] rest e closed =
    let whole : RuleRest = record { arguments = []; size = None; alternatives = [] } in
    let same : whole ≡ rest = cc in
    subst IsLast same (refl, refl)
last_end (Bar ∷ tokens) rest e closed = absurd (no_bar tokens closed)
last_end (Word first ∷ Word second ∷ Word low ∷ Dots ∷ []) rest e closed = absurd (no_close Dots refl closed.1.1.1)
last_end (Word first ∷ Word second ∷ Word low ∷ Dots ∷ Bar ∷ tokens) rest e closed =
    absurd (no_bar tokens closed.1.1.1.1)
last_end (Word first ∷ Word second ∷ Word low ∷ Dots ∷ Word high ∷ []) rest e closed =
    absurd (no_close (Word high) refl closed.1.1.1.1)
last_end (Word first ∷ Word second ∷ Word low ∷ Dots ∷ Word high ∷ Bar ∷ tokens) rest e closed =
    absurd (no_bar tokens closed.1.1.1.1.1)
last_end tokens rest e closed = absurd cc

mutual
  last_from : (tokens : List Token) (rest : RuleRest) → arguments_of tokens ≡ Some rest → AreClosed tokens → IsLast rest
  last_from (Word rule ∷ tokens) rest e closed =
      last_argument (Named rule) (behind_argument tokens) rest e
      (λ found e. last_behind tokens found e (behind_closed (Word rule) tokens closed))
  last_from (Quoted letters ∷ tokens) rest e closed =
      last_argument (Spelled letters) (behind_argument tokens) rest e
      (λ found e. last_behind tokens found e (behind_closed (Quoted letters) tokens closed))
  last_from (OpenSquare ∷ Word class ∷ CloseSquare ∷ tokens) rest e closed =
      last_argument (OneOf class) (behind_argument tokens) rest e
      (λ found e. last_behind tokens found e (behind_closed CloseSquare tokens closed.1.1))
  last_from (OpenSquare ∷ Word class ∷ Word low ∷ Dots ∷ CloseSquare ∷ tokens) rest e closed =
      last_argument (RunOf class low None) (behind_argument tokens) rest e
      (λ found e. last_behind tokens found e (behind_closed CloseSquare tokens closed.1.1.1.1))
  last_from (OpenSquare ∷ Word class ∷ Word low ∷ Dots ∷ Word high ∷ CloseSquare ∷ tokens) rest e closed =
      last_argument (RunOf class low (Some high)) (behind_argument tokens) rest e
      (λ found e. last_behind tokens found e (behind_closed CloseSquare tokens closed.1.1.1.1.1))
  last_from tokens rest e closed = absurd cc

  last_behind : (tokens : List Token) (rest : RuleRest) → behind_argument tokens ≡ Some rest → AreClosed tokens
      → IsLast rest
  last_behind (Comma ∷ tokens) rest e closed = last_from tokens rest e (behind_closed Comma tokens closed)
  last_behind (CloseBracket ∷ tokens) rest e closed = last_end tokens rest e (behind_closed CloseBracket tokens closed)
  last_behind tokens rest e closed = absurd cc

-- a rule with one alternative, which has no size
pub record IsSingle (declaration : Declaration) : Type 0 where
  pub name : List ℕ
  pub alternative : Alternative
  pub is : declaration ≡ Rule name (alternative ∷ [])
  pub unsized : alternative.size ≡ None

single_signed : (name sign : List ℕ) (inner : Option RuleRest) (declaration : Declaration)
    → option_map (λ alternatives. Rule name alternatives)
    (option_and_then (allowed 2) (with_sign sign inner)) ≡ Some declaration
    → ((found : RuleRest) → inner ≡ Some found → IsLast found) → IsSingle declaration
single_signed name sign None declaration e last = absurd cc
single_signed name sign (Some found) declaration e last =
    let is_last = last found refl in
    let own : Alternative = record { sign = sign; arguments = found.arguments; size = found.size } in
    let whole : Declaration = Rule name (own ∷ found.alternatives) in
    let same : whole ≡ declaration = cc in
    record {
      name = name;
      alternative = own;
      is = sym same ∙ ap (λ (others : List Alternative). Rule name (own ∷ others)) is_last.1;
      unsized = is_last.0;
    }

single_alternatives : (name : List ℕ) (tokens : List Token) (declaration : Declaration)
    → option_map (λ alternatives. Rule name alternatives)
    (option_and_then (allowed 2) (alternatives_of tokens)) ≡ Some declaration → AreClosed tokens → IsSingle declaration
single_alternatives name (Word sign ∷ OpenBracket ∷ tokens) declaration e closed =
    single_signed name sign (arguments_of tokens) declaration e
    (λ found e. last_from tokens found e (behind_closed OpenBracket tokens closed.1))
single_alternatives name tokens declaration e closed = absurd cc

single_rule : (tokens : List Token) (declaration : Declaration) → rule_of 2 tokens ≡ Some declaration
    → AreClosed tokens → IsSingle declaration
single_rule (Word name ∷ Equals ∷ tokens) declaration e closed =
    single_alternatives name tokens declaration e (behind_closed Equals tokens closed.1)
single_rule tokens declaration e closed = absurd cc

-- ---- lines

-- there are tokens, and they are closed
abbrev AreClosing : List PlacedToken → Type 0
AreClosing tokens = (0 < length tokens) × AreClosed (said tokens)

closing_more : (token : PlacedToken) (tokens : List PlacedToken) → bar_of token.token ≡ 0 → AreClosing tokens
    → AreClosing (token ∷ tokens)
closing_more token [] none closing = absurd (omega (arith, closing.0))
closing_more token (next ∷ tokens) none closing = (omega arith, (none, closing.1))

-- a closing bracket is no further byte of a token
close_begins : (inside place : ℕ) (tokens : List PlacedToken) → AreFurther inside Outside (41 ∷ [])
    → tokens_from inside place (41 ∷ []) ≡ Ok tokens → AreClosing tokens
close_begins zero place [] further h = absurd cc
close_begins zero place (token ∷ tokens) further h =
    let own = token_at CloseBracket place 0 in
    let same : own ∷ [] ≡ token ∷ tokens = cc in
    subst AreClosing same (omega arith, refl)
close_begins (suc inside) place tokens further h = absurd (apart further.0.0)
  where
    apart : true ≡ false → ⊥
    apart e = cc

closing : (inside place : ℕ) (side : Side) (front : List ℕ) (tokens : List PlacedToken)
    → AreFurther inside side (front ++ 41 ∷ []) → side_after side front ≡ Outside
    → bars side front ≡ 0 → tokens_from inside place (front ++ 41 ∷ []) ≡ Ok tokens → AreClosing tokens
closing inside place side [] tokens further out none h =
    close_begins inside place tokens (subst (λ (side : Side). AreFurther inside side (41 ∷ [])) out further) h
closing (suc inside) place side (byte ∷ front) tokens further out none h =
    closing inside (place + 1) (behind side byte) front tokens further.1 out (omega arith) h
closing zero place side (byte ∷ front) tokens further out none h =
    let start : side ≡ Outside = further in
    let first : bar Outside byte + bars (behind Outside byte) front ≡ 0 =
    subst (λ (side : Side). bar side byte + bars (behind side byte) front ≡ 0) start none in
    let last : side_after (behind Outside byte) front ≡ Outside =
    subst (λ (side : Side). side_after (behind side byte) front ≡ Outside) start out in
    step (beginning byte (front ++ 41 ∷ [])) refl (right_beginning byte (front ++ 41 ∷ [])) (omega arith)
    (λ inside others rest given. closing inside (place + 1) (behind Outside byte) front others rest last
    (omega arith) given)
  where
    step : (begins : Beginning) → beginning byte (front ++ 41 ∷ []) ≡ begins
        → IsRight byte (front ++ 41 ∷ []) (beginning byte (front ++ 41 ∷ [])) → bar Outside byte ≡ 0
        → ((inside : ℕ) (others : List PlacedToken) → AreFurther inside (behind Outside byte) (front ++ 41 ∷ [])
        → tokens_from inside (place + 1) (front ++ 41 ∷ []) ≡ Ok others → AreClosing others)
        → AreClosing tokens
    step Space b right none others =
        let is = subst (IsRight byte (front ++ 41 ∷ [])) b right in
        others 0 tokens is.0 (rw b at h)
    step (Stops offence) b right none others = absurd (cc (rw b at h))
    step (Begins token begins) b right none others =
        let is = subst (IsRight byte (front ++ 41 ∷ [])) b right in
        let own = token_at token place begins in
        let parts = parted own (tokens_from begins (place + 1) (front ++ 41 ∷ [])) tokens (rw b at h) in
        subst AreClosing (sym parts.tokens_are) (closing_more own parts.others (sym is.bar_is
        ∙ none) (others begins parts.others is.rest parts.rest_is))

-- bytes that end outside of quoted texts, with no `|` outside
pub record IsQuiet (bytes : List ℕ) : Type 0 where
  pub side : side_after Outside bytes ≡ Outside
  pub bars : bars Outside bytes ≡ 0

-- a line that begins with `rule`, and whose last byte, outside of quoted texts, is a `)`
pub record IsQuietRule (line : List ℕ) : Type 0 where
  pub rest : List ℕ
  pub front : List ℕ
  pub begins : line ≡ codes "rule " ++ rest
  pub ends : line ≡ front ++ 41 ∷ []
  pub quiet : IsQuiet front

-- a header line that is skipped, or that has form
abbrev pub IsFine : HeaderLine → Type 0
IsFine Skipped = Unit {0}
IsFine Unprintable = ⊥
IsFine Unclosed = ⊥
IsFine Shapeless = ⊥
IsFine (Says declaration) = Unit {0}

pub record SaysSingle (found : HeaderLine) : Type 0 where
  pub declaration : Declaration
  pub says : found ≡ Says declaration
  pub single : IsSingle declaration

abbrev by_shape : Option Declaration → HeaderLine
by_shape None = Shapeless
by_shape (Some declaration) = Says declaration

shape_says : (shape : Option Declaration)
    → ((declaration : Declaration) → shape ≡ Some declaration → IsSingle declaration) → IsFine (by_shape shape)
    → SaysSingle (by_shape shape)
shape_says None single fine = absurd fine
shape_says (Some declaration) single fine =
    record { declaration = declaration; says = refl; single = single declaration refl }

abbrev by_tokens : Result (List Token) Offence → HeaderLine
by_tokens (Err StrayByte) = Shapeless
by_tokens (Err OpenQuote) = Unclosed
by_tokens (Ok tokens) = by_shape (declaration_of 2 tokens)

abbrev rule_word : Token
rule_word = Word (codes "rule")

header_by_tokens : (rest : List ℕ) (tokens : Result (List Token) Offence)
    → list_all is_printable_byte (codes "rule " ++ rest) ≡ true → tokens_of (codes "rule " ++ rest) ≡ tokens
    → header_line 2 (codes "rule " ++ rest) ≡ by_tokens tokens
header_by_tokens rest (Err StrayByte) p t = rw (p, t) refl
header_by_tokens rest (Err OpenQuote) p t = rw (p, t) refl
header_by_tokens rest (Ok tokens) p t = rw (p, t) refl

unprintable_header : (rest : List ℕ) → list_all is_printable_byte (codes "rule " ++ rest) ≡ false
    → header_line 2 (codes "rule " ++ rest) ≡ Unprintable
unprintable_header rest p = rw p refl

tokens_by_rest : (rest : List ℕ) (others : Result (List PlacedToken) Offence) → tokens_from 0 5 rest ≡ others
    → tokens_of (codes "rule " ++ rest) ≡ says (with_token (record { token = rule_word; from = 0; to = 4 }) others)
tokens_by_rest rest (Ok others) e = rw e refl
tokens_by_rest rest (Err offence) e = rw e refl

rule_line : (rest front : List ℕ) → codes "rule " ++ rest ≡ front ++ 41 ∷ [] → IsQuiet front
    → IsFine (header_line 2 (codes "rule " ++ rest)) → SaysSingle (header_line 2 (codes "rule " ++ rest))
rule_line rest front e quiet fine = step (list_all is_printable_byte (codes "rule " ++ rest)) refl
  where
    by_others : (others : Result (List PlacedToken) Offence) → tokens_from 0 5 rest ≡ others
        → list_all is_printable_byte (codes "rule " ++ rest) ≡ true
        → SaysSingle (header_line 2 (codes "rule " ++ rest))
    by_others (Err StrayByte) t p =
        absurd (subst IsFine (header_by_tokens rest (Err StrayByte) p (tokens_by_rest rest (Err StrayByte) t)) fine)
    by_others (Err OpenQuote) t p =
        absurd (subst IsFine (header_by_tokens rest (Err OpenQuote) p (tokens_by_rest rest (Err OpenQuote) t)) fine)
    by_others (Ok others) t p =
        let own : PlacedToken = record { token = rule_word; from = 0; to = 4 } in
        let found : line_tokens (codes "rule " ++ rest) ≡ Ok (own ∷ others) = rw t refl in
        let closed =
        closing 0 0 Outside front (own ∷ others) refl quiet.side quiet.bars
        (ap (λ (line : List ℕ). tokens_from 0 0 line) (sym e) ∙ found) in
        let is = header_by_tokens rest (Ok (rule_word ∷ said others)) p (tokens_by_rest rest (Ok others) t) in
        subst SaysSingle (sym is)
        (shape_says (rule_of 2 (said others))
        (λ declaration e. single_rule (said others) declaration e (behind_closed rule_word (said others) closed.1))
        (subst IsFine is fine))

    step : (printable : Bool) → list_all is_printable_byte (codes "rule " ++ rest) ≡ printable
        → SaysSingle (header_line 2 (codes "rule " ++ rest))
    step false p = absurd (subst IsFine (unprintable_header rest p) fine)
    step true p = by_others (tokens_from 0 5 rest) refl p

-- such a line, where it has form, says a rule with one alternative
pub single_line : (line : List ℕ) → IsQuietRule line → IsFine (header_line 2 line) → SaysSingle (header_line 2 line)
single_line line rule fine =
    subst (λ (line : List ℕ). IsFine (header_line 2 line) → SaysSingle (header_line 2 line)) (sym rule.begins)
    (rule_line rule.rest rule.front (sym rule.begins ∙ rule.ends) rule.quiet) fine
