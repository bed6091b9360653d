-- What a `let` line says, by its tokens.
use Rattle.std.proofs.Common.{◌≡◌, ℕ, ◌+◌, ◌*◌, ◌-◌, ◌<◌, ◌≤◌, true, false, Option, Some, None, is_some, IsSome, List, ◌∷◌, length, map, take, drop, refl, sym, ap, ◌∙◌, drop-drop, length-drop, arith, rules}
use Rattle.std.specs.Borrow.{Bor}
use Rattle.std.specs.Option.{option_map}
use Rattle.std.proofs.lemmas.List.{drop-map, length-map}
use Rattle.job_texts.specs.LineTokens.{Token, Word, OpenBracket}
use Rattle.job_texts.specs.LetTerms.{LetTerm, term_of_text, term_of_tokens}
use Rattle.job_texts.specs.Declarations as forms
use Rattle.algebra_terms.specs.declared.lexer.Token as spans
use Rattle.algebra_terms.specs.declared.symbols.Symbol.{Symbol}
use Rattle.algebra_terms.specs.Tokens as code
use Rattle.grammar_text.proofs.ShapeSteps.{rest_of}
use Rattle.grammar_text.specs.Seen.{tokens_seen, words_seen, let_tokens_seen, term_seen}

-- the tokens behind the `=`
term_tokens : (line : List ℕ) (tokens : List spans.Token) (said : List Symbol) (equals n : ℕ)
    → tokens_seen said ≡ map (code.said line) (drop 1 tokens) → equals ≡ 3 + 2 * n
    → tokens_seen (drop (2 * n + 1) (drop 2 said)) ≡ map (code.said line) (drop (equals + 1) tokens)
term_tokens line tokens said equals n same place =
    let before : 2 + (2 * n + 1) ≡ 2 * n + 3 = omega arith in
    let behind : 1 + (2 * n + 3) ≡ equals + 1 = omega arith in
    ap tokens_seen (drop-drop (2 * n + 1) 2 said ∙ ap (λ (i : ℕ). drop i said) before)
    ∙ sym (drop-map code.symbol_of (2 * n + 3) said)
    ∙ ap (drop (2 * n + 3)) same
    ∙ drop-map (code.said line) (2 * n + 3) (drop 1 tokens)
    ∙ ap (map (code.said line)) (drop-drop (2 * n + 3) 1 tokens ∙ ap (λ (i : ℕ). drop i tokens) behind)

module _ (version : ℕ) where
  let_is : (line : List ℕ) (tokens : List spans.Token) (said : List Symbol) (sign : List ℕ) (variables : List (Bor (List ℕ))) (equals : ℕ)
      → tokens_seen said ≡ Word sign ∷ OpenBracket ∷ tokens_seen (drop 2 said)
      → tokens_seen said ≡ map (code.said line) (drop 1 tokens)
      → Some (let_tokens_seen variables (drop 2 said)) ≡ forms.let_tokens (tokens_seen (drop 2 said))
      → equals ≡ 3 + 2 * length variables
      → (forms.let_of version) (tokens_seen said)
      ≡ option_map (λ parts. forms.Let sign (words_seen variables) parts) (term_of_tokens version (map (code.said line) (drop (equals + 1) tokens)))
  let_is line tokens said sign variables equals front same found place =
      let term = term_tokens line tokens said equals (length variables) same place in
      rw (front, ← found) (ap (λ (these : List Token). option_map (λ parts. forms.Let sign (words_seen variables) parts) (term_of_tokens version these)) term)

  pub let_unread : (line : List ℕ) (tokens : List spans.Token) (said : List Symbol) (sign : List ℕ) (variables : List (Bor (List ℕ))) (equals : ℕ)
      → tokens_seen said ≡ Word sign ∷ OpenBracket ∷ tokens_seen (drop 2 said)
      → tokens_seen said ≡ map (code.said line) (drop 1 tokens)
      → Some (let_tokens_seen variables (drop 2 said)) ≡ forms.let_tokens (tokens_seen (drop 2 said))
      → equals ≡ 3 + 2 * length variables
      → is_some (term_of_tokens version (map (code.said line) (drop (equals + 1) tokens))) ≡ false
      → None ≡ (forms.let_of version) (tokens_seen said)
  let_unread line tokens said sign variables equals front same found place none =
      sym (let_is line tokens said sign variables equals front same found place ∙ nothing (term_of_tokens version (map (code.said line) (drop (equals + 1) tokens))) none)
    where
      nothing : (parts : Option LetTerm) → is_some parts ≡ false → option_map (λ parts. forms.Let sign (words_seen variables) parts) parts ≡ None
      nothing None h = refl
      nothing (Some parts) h = cc

  pub let_read : (line : List ℕ) (tokens : List spans.Token) (said : List Symbol) (sign : List ℕ) (variables : List (Bor (List ℕ))) (equals : ℕ) (bytes : List ℕ)
      → tokens_seen said ≡ Word sign ∷ OpenBracket ∷ tokens_seen (drop 2 said)
      → tokens_seen said ≡ map (code.said line) (drop 1 tokens)
      → Some (let_tokens_seen variables (drop 2 said)) ≡ forms.let_tokens (tokens_seen (drop 2 said))
      → equals ≡ 3 + 2 * length variables
      → is_some (term_of_tokens version (map (code.said line) (drop (equals + 1) tokens))) ≡ true
      → term_of_text version bytes ≡ term_of_tokens version (map (code.said line) (drop (equals + 1) tokens))
      → Some (forms.Let sign (words_seen variables) (term_seen version bytes)) ≡ (forms.let_of version) (tokens_seen said)
  let_read line tokens said sign variables equals bytes front same found place some parts =
      sym (let_is line tokens said sign variables equals front same found place
      ∙ ap (option_map (λ parts. forms.Let sign (words_seen variables) parts)) (sym parts)
      ∙ something (term_of_text version bytes) refl (ap is_some parts ∙ some))
    where
      something : (read : Option LetTerm) → term_of_text version bytes ≡ read → is_some (term_of_text version bytes) ≡ true
          → option_map (λ parts. forms.Let sign (words_seen variables) parts) (term_of_text version bytes) ≡ Some (forms.Let sign (words_seen variables) (term_seen version bytes))
      something None e h = let none = rw e at h in cc
      something (Some read) e h = rw e refl

-- the tokens reach beyond the `=`
pub tokens_room : (line : List ℕ) (tokens : List spans.Token) (said : List Symbol) (n : ℕ)
    → tokens_seen said ≡ map (code.said line) (drop 1 tokens)
    → 2 * n < length (take (length said - 2) (drop 2 said))
    → 3 + 2 * n + 1 ≤ length tokens
tokens_room line tokens said n same within =
    omega (arith, simp (length-map, length-drop) at (ap length same), simp (rest_of, length-drop) at within)

pub is_spelled : (parts : Option LetTerm) → is_some parts ≡ true → IsSome parts
is_spelled None h = cc
is_spelled (Some parts) h = search rules
