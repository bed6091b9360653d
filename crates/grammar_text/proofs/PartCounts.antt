-- A line has no more kinds or alternatives than bytes.
use Rattle.std.proofs.Common.{◌≡◌, ℕ, zero, suc, ◌+◌, ◌<◌, ◌≤◌, Bool, true, false, cond, codes, ◌||◌, Option, Some, None, is_none, Result, Ok, Err, List, [], ◌∷◌, length, map, refl, ap, subst, arith}
use Rattle.std.specs.List.{list_all}
use Rattle.std.specs.Option.{option_and_then, option_map}
use Rattle.std.proofs.lemmas.List.{length-map}
use Rattle.adp_model.specs.declared.grammar.Kind.{Kind}
use Rattle.adp_model.specs.Printable.{is_printable_byte}
use Rattle.job_texts.specs.LineTokens.{Token, Word, Quoted, Equals, OpenBracket, CloseBracket, Comma, OpenSquare, CloseSquare, Bar, Dots, PlacedToken, Offence, StrayByte, OpenQuote, Space, Begins, Stops, Beginning, beginning, with_token, tokens_from, tokens_of, line_tokens}
use Rattle.job_texts.specs.JobLines.{is_skipped}
use Rattle.job_texts.specs.LetTerms.{is_second, term_of_tokens}
use Rattle.job_texts.specs.Declarations.{Declaration, Class, Sign, Algebra, Let, Rule, Alternative, Argument, Named, Spelled, OneOf, RunOf, RuleRest, SizeWords, Says, with_argument, at_close, at_size, allowed, is_clause, with_sign, is_word, items_of, class_of, goal_of, algebra_of, LetTokens, let_tokens, let_of, axiom_of, nothing_more, kind_of, with_kind, kinds_of, sign_of, alternatives_of, arguments_of, behind_argument, behind_alternative, rule_of, behind_word, declaration_of, header_line}
use Rattle.grammar_text.specs.Names.{part_count}

-- at most so many, where there are any
abbrev pub IsWithin : {X : Type 0} → Option (List X) → ℕ → Type 0
IsWithin None limit = Unit {0}
IsWithin (Some xs) limit = length xs ≤ limit

more : {X : Type 0} (found : Option (List X)) (a b : ℕ) → a ≤ b → IsWithin found a → IsWithin found b
more None a b h k = tt
more (Some xs) a b h k = omega arith

kind_more : (kind : Option Kind) (found : Option (List Kind)) (n : ℕ) → IsWithin found n → IsWithin (with_kind kind found) (suc n)
kind_more None found n h = tt
kind_more (Some kind) None n h = tt
kind_more (Some kind) (Some kinds) n h = omega arith

pub kinds_few : (tokens : List Token) → IsWithin (kinds_of tokens) (length tokens)
kinds_few (Word kind ∷ Comma ∷ tokens) =
    more (with_kind (kind_of kind) (kinds_of tokens)) (suc (length tokens)) (suc (suc (length tokens))) (omega arith) (kind_more (kind_of kind) (kinds_of tokens) (length tokens) (kinds_few tokens))
kinds_few (Word kind ∷ CloseBracket ∷ []) = more (with_kind (kind_of kind) (Some [])) 1 2 (omega arith) (kind_more (kind_of kind) (Some []) 0 (omega arith))
kinds_few tokens = tt

abbrev pub RestWithin : Option RuleRest → ℕ → Type 0
RestWithin None limit = Unit {0}
RestWithin (Some rest) limit = length rest.alternatives ≤ limit

rest_more : (found : Option RuleRest) (n m : ℕ) → n ≤ m → RestWithin found n → RestWithin found m
rest_more None n m h k = tt
rest_more (Some rest) n m h k = omega arith

rest_argument : (argument : Argument) (found : Option RuleRest) (n m : ℕ) → n ≤ m → RestWithin found n → RestWithin (with_argument argument found) m
rest_argument argument None n m h k = tt
rest_argument argument (Some rest) n m h k = omega arith

rest_close : (size : Option SizeWords) (found : Option (List Alternative)) (n m : ℕ) → n ≤ m → IsWithin found n → RestWithin (at_close size found) m
rest_close size None n m h k = tt
rest_close size (Some alternatives) n m h k = omega arith

rest_size : (clause : Bool) (low : List ℕ) (high : Option (List ℕ)) (found : Option (List Alternative)) (n m : ℕ) → n ≤ m → IsWithin found n → RestWithin (at_size clause low high found) m
rest_size true low high found n m h k = rest_close (Some (record { low = low; high = high })) found n m h k
rest_size false low high found n m h k = tt

sign_more : (sign : List ℕ) (found : Option RuleRest) (n m : ℕ) → n < m → RestWithin found n → IsWithin (with_sign sign found) m
sign_more sign None n m h k = tt
sign_more sign (Some rest) n m h k = omega arith

mutual
  pub alternatives_few : (tokens : List Token) → IsWithin (alternatives_of tokens) (length tokens)
  alternatives_few (Word sign ∷ OpenBracket ∷ tokens) = sign_more sign (arguments_of tokens) (length tokens) (suc (suc (length tokens))) (omega arith) (arguments_few tokens)
  alternatives_few tokens = tt

  arguments_few : (tokens : List Token) → RestWithin (arguments_of tokens) (length tokens)
  arguments_few (Word rule ∷ tokens) = rest_argument (Named rule) (behind_argument tokens) (length tokens) (suc (length tokens)) (omega arith) (behind_few tokens)
  arguments_few (Quoted letters ∷ tokens) = rest_argument (Spelled letters) (behind_argument tokens) (length tokens) (suc (length tokens)) (omega arith) (behind_few tokens)
  arguments_few (OpenSquare ∷ Word class ∷ CloseSquare ∷ tokens) = rest_argument (OneOf class) (behind_argument tokens) (length tokens) (suc (suc (suc (length tokens)))) (omega arith) (behind_few tokens)
  arguments_few (OpenSquare ∷ Word class ∷ Word low ∷ Dots ∷ CloseSquare ∷ tokens) =
      rest_argument (RunOf class low None) (behind_argument tokens) (length tokens) (suc (suc (suc (suc (suc (length tokens)))))) (omega arith) (behind_few tokens)
  arguments_few (OpenSquare ∷ Word class ∷ Word low ∷ Dots ∷ Word high ∷ CloseSquare ∷ tokens) =
      rest_argument (RunOf class low (Some high)) (behind_argument tokens) (length tokens) (suc (suc (suc (suc (suc (suc (length tokens))))))) (omega arith) (behind_few tokens)
  arguments_few tokens = tt

  behind_few : (tokens : List Token) → RestWithin (behind_argument tokens) (length tokens)
  behind_few (Comma ∷ tokens) = rest_more (arguments_of tokens) (length tokens) (suc (length tokens)) (omega arith) (arguments_few tokens)
  behind_few (CloseBracket ∷ tokens) = rest_more (behind_alternative tokens) (length tokens) (suc (length tokens)) (omega arith) (alternative_few tokens)
  behind_few tokens = tt

  alternative_few : (tokens : List Token) → RestWithin (behind_alternative tokens) (length tokens)
  alternative_few [] = rest_close None (Some []) 0 0 (omega arith) (omega arith)
  alternative_few (Bar ∷ tokens) = rest_close None (alternatives_of tokens) (length tokens) (suc (length tokens)) (omega arith) (alternatives_few tokens)
  alternative_few (Word first ∷ Word second ∷ Word low ∷ Dots ∷ []) = rest_size (is_clause first second) low None (Some []) 0 4 (omega arith) (omega arith)
  alternative_few (Word first ∷ Word second ∷ Word low ∷ Dots ∷ Bar ∷ tokens) =
      rest_size (is_clause first second) low None (alternatives_of tokens) (length tokens) (suc (suc (suc (suc (suc (length tokens)))))) (omega arith) (alternatives_few tokens)
  alternative_few (Word first ∷ Word second ∷ Word low ∷ Dots ∷ Word high ∷ []) = rest_size (is_clause first second) low (Some high) (Some []) 0 5 (omega arith) (omega arith)
  alternative_few (Word first ∷ Word second ∷ Word low ∷ Dots ∷ Word high ∷ Bar ∷ tokens) =
      rest_size (is_clause first second) low (Some high) (alternatives_of tokens) (length tokens) (suc (suc (suc (suc (suc (suc (length tokens))))))) (omega arith) (alternatives_few tokens)
  alternative_few tokens = tt

-- ---- tokens and bytes

abbrev pub FewTokens : {X E : Type 0} → Result (List X) E → ℕ → Type 0
FewTokens (Ok tokens) limit = length tokens ≤ limit
FewTokens (Err offence) limit = Unit {0}

tokens_wider : {X E : Type 0} (found : Result (List X) E) (n m : ℕ) → n ≤ m → FewTokens found n → FewTokens found m
tokens_wider (Ok tokens) n m h k = omega arith
tokens_wider (Err offence) n m h k = tt

tokens_more : (token : PlacedToken) (found : Result (List PlacedToken) Offence) (n : ℕ) → FewTokens found n → FewTokens (with_token token found) (suc n)
tokens_more token (Ok tokens) n h = omega arith
tokens_more token (Err offence) n h = tt

tokens_few : (inside place : ℕ) (text : List ℕ) → FewTokens (tokens_from inside place text) (length text)
tokens_few inside place [] = omega arith
tokens_few (suc inside) place (byte ∷ text) = tokens_wider (tokens_from inside (place + 1) text) (length text) (suc (length text)) (omega arith) (tokens_few inside (place + 1) text)
tokens_few zero place (byte ∷ text) = step (beginning byte text) refl (λ inside. tokens_few inside (place + 1) text)
  where
    step : (begins : Beginning) → beginning byte text ≡ begins → ((inside : ℕ) → FewTokens (tokens_from inside (place + 1) text) (length text)) → FewTokens (tokens_from zero place (byte ∷ text)) (suc (length text))
    step Space e rest = rw e (tokens_wider (tokens_from 0 (place + 1) text) (length text) (suc (length text)) (omega arith) (rest 0))
    step (Begins token further) e rest = rw e (tokens_more _ (tokens_from further (place + 1) text) (length text) (rest further))
    step (Stops offence) e rest = rw e tt

said_few : (line : List ℕ) (tokens : List Token) → tokens_of line ≡ Ok tokens → length tokens ≤ length line
said_few line tokens h = step (line_tokens line) refl (tokens_few 0 0 line)
  where
    step : (found : Result (List PlacedToken) Offence) → line_tokens line ≡ found → FewTokens (line_tokens line) (length line) → length tokens ≤ length line
    step (Ok placed) e few =
        let same : map (λ (placed : PlacedToken). placed.token) placed ≡ tokens = (let told = rw e at h in cc) in
        let few' : length placed ≤ length line = rw e at few in
        subst (λ (all : List Token). length all ≤ length line) same (rw length-map few')
    step (Err offence) e few = absurd (let told = rw e at h in cc)

-- ---- declarations

abbrev pub PartsWithin : Option Declaration → ℕ → Type 0
PartsWithin None limit = Unit {0}
PartsWithin (Some declaration) limit = part_count declaration ≤ limit

choose : (b : Bool) (x y : Option Declaration) (n : ℕ) → PartsWithin x n → PartsWithin y n → PartsWithin (cond b x y) n
choose true x y n h k = h
choose false x y n h k = k

plain : {X : Type 0} (f : X → Declaration) (found : Option X) (n : ℕ) → ((x : X) → part_count (f x) ≡ 0) → PartsWithin (option_map f found) n
plain f None n h = tt
plain f (Some x) n h = rw h (omega arith)

class_parts : (tokens : List Token) (n : ℕ) → PartsWithin (class_of tokens) n
class_parts (Word name ∷ Equals ∷ tokens) n = plain (λ items. Class name items) (items_of tokens) n (λ items. refl)
class_parts tokens n = tt

sign_kinds : (name : List ℕ) (found : Option (List Kind)) (n m : ℕ) → n ≤ m → IsWithin found n → PartsWithin (option_map (λ kinds. Sign name kinds) found) m
sign_kinds name None n m h k = tt
sign_kinds name (Some kinds) n m h k = omega arith

sign_parts : (tokens : List Token) → PartsWithin (sign_of tokens) (length tokens)
sign_parts (Word name ∷ OpenBracket ∷ tokens) = sign_kinds name (kinds_of tokens) (length tokens) (suc (suc (length tokens))) (omega arith) (kinds_few tokens)
sign_parts tokens = tt

algebra_parts : (tokens : List Token) (n : ℕ) → PartsWithin (algebra_of tokens) n
algebra_parts (Word name ∷ Word goal ∷ []) n = plain (λ goal. Algebra name goal) (goal_of goal) n (λ goal. refl)
algebra_parts tokens n = tt

allowed_few : (version : ℕ) (found : Option (List Alternative)) (n : ℕ) → IsWithin found n → IsWithin (option_and_then (allowed version) found) n
allowed_few version None n h = tt
allowed_few version (Some alternatives) n h = either_way (is_second version || list_all (λ (alternative : Alternative). is_none alternative.size) alternatives) (Some alternatives) n h
  where
    either_way : (b : Bool) (found : Option (List Alternative)) (n : ℕ) → IsWithin found n → IsWithin (cond b found None) n
    either_way true found n h = h
    either_way false found n h = tt

module _ (version : ℕ) where
  let_parts : (tokens : List Token) (n : ℕ) → PartsWithin ((let_of version) tokens) n
  let_parts (Word sign ∷ OpenBracket ∷ tokens) n = step (let_tokens tokens) refl
    where
      step : (found : Option LetTokens) → let_tokens tokens ≡ found → PartsWithin ((let_of version) (Word sign ∷ OpenBracket ∷ tokens)) n
      step None e = rw e tt
      step (Some found) e = rw e (plain (λ term. Let sign found.variables term) (term_of_tokens version found.term) n (λ term. refl))
  let_parts tokens n = tt

  rule_alternatives : (name : List ℕ) (found : Option (List Alternative)) (n m : ℕ) → n ≤ m → IsWithin found n → PartsWithin (option_map (λ alternatives. Rule name alternatives) found) m
  rule_alternatives name None n m h k = tt
  rule_alternatives name (Some alternatives) n m h k = omega arith

  rule_parts : (tokens : List Token) → PartsWithin ((rule_of version) tokens) (length tokens)
  rule_parts (Word name ∷ Equals ∷ tokens) = rule_alternatives name (option_and_then (allowed version) (alternatives_of tokens)) (length tokens) (suc (suc (length tokens))) (omega arith) (allowed_few version (alternatives_of tokens) (length tokens) (alternatives_few tokens))
  rule_parts tokens = tt

axiom_parts : (tokens : List Token) (n : ℕ) → PartsWithin (axiom_of tokens) n
axiom_parts (Word rule ∷ []) n = omega arith
axiom_parts tokens n = tt

nothing_parts : (tokens : List Token) (n : ℕ) → PartsWithin (nothing_more tokens) n
nothing_parts [] n = omega arith
nothing_parts (token ∷ tokens) n = tt

module _ (version : ℕ) where
  word_parts : (word : List ℕ) (tokens : List Token) → PartsWithin ((behind_word version) word tokens) (length tokens)
  word_parts word tokens =
      let n = length tokens in
      choose (is_word (codes "class") word) _ _ n (class_parts tokens n)
      (choose (is_word (codes "sign") word) _ _ n (sign_parts tokens)
      (choose (is_word (codes "algebra") word) _ _ n (algebra_parts tokens n)
      (choose (is_word (codes "let") word) _ _ n (let_parts version tokens n)
      (choose (is_word (codes "rule") word) _ _ n (rule_parts version tokens)
      (choose (is_word (codes "grammar") word) _ _ n (axiom_parts tokens n)
      (choose (is_word (codes "words") word) _ None n (nothing_parts tokens n) tt))))))

wider_parts : (found : Option Declaration) (n m : ℕ) → n ≤ m → PartsWithin found n → PartsWithin found m
wider_parts None n m h k = tt
wider_parts (Some declaration) n m h k = omega arith

module _ (version : ℕ) where
  declaration_parts : (tokens : List Token) → PartsWithin ((declaration_of version) tokens) (length tokens)
  declaration_parts (Word word ∷ tokens) = wider_parts ((behind_word version) word tokens) (length tokens) (suc (length tokens)) (omega arith) (word_parts version word tokens)
  declaration_parts tokens = tt

  pub parts_few : (line : List ℕ) (declaration : Declaration) → (header_line version) line ≡ Says declaration → part_count declaration ≤ length line
  parts_few line declaration h = step (is_skipped line) (list_all is_printable_byte line) (tokens_of line) refl refl refl
    where
      told : (tokens : List Token) (found : Option Declaration) → tokens_of line ≡ Ok tokens → (declaration_of version) tokens ≡ found → PartsWithin ((declaration_of version) tokens) (length tokens)
          → found ≡ Some declaration → part_count declaration ≤ length line
      told tokens found e k few is =
          let within : part_count declaration ≤ length tokens = rw (k, is) at few in
          let bytes = said_few line tokens e in
          omega arith

      step : (skipped printable : Bool) (found : Result (List Token) Offence) → is_skipped line ≡ skipped → list_all is_printable_byte line ≡ printable → tokens_of line ≡ found → part_count declaration ≤ length line
      step true printable found e k t = absurd (let said = rw e at h in cc)
      step false false found e k t = absurd (let said = rw (e, k) at h in cc)
      step false true (Err OpenQuote) e k t = absurd (let said = rw (e, k, t) at h in cc)
      step false true (Err StrayByte) e k t = absurd (let said = rw (e, k, t) at h in cc)
      step false true (Ok tokens) e k t = shape ((declaration_of version) tokens) refl
        where
          shape : (found : Option Declaration) → (declaration_of version) tokens ≡ found → part_count declaration ≤ length line
          shape None d = absurd (let said = rw (e, k, t, d) at h in cc)
          shape (Some one) d = let said = rw (e, k, t, d) at h in let is : one ≡ declaration = cc in told tokens (Some one) t d (declaration_parts tokens) (ap (λ one. Some one) is)
