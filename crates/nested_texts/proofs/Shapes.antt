-- Places in a rule where more than its first token counts.
use Rattle.std.proofs.Common.{◌≡◌, ℕ, zero, suc, ◌+◌, ◌-◌, ◌<◌, true, false, List, ◌∷◌, drop, refl, ◌∙◌, add-one, arith}
use Rattle.std.proofs.lemmas.List.{drop-map}
use Rattle.job_texts.specs.LineTokens.{Token, Word, OpenBracket, CloseBracket}
use Rattle.algebra_terms.specs.declared.symbols.Symbol.{Symbol}
use Rattle.algebra_terms.specs.Tokens.{symbol_of}
use Rattle.nested_texts.specs.NestedRules.{are_arguments, behind_argument}
use Rattle.nested_texts.specs.Seen.{opens_alternative, tokens_seen}

-- the closing bracket of an alternative that lies in another one
pub closes_inner : (depth : ℕ) (tokens : List Token) → 0 < depth
    → behind_argument depth (CloseBracket ∷ tokens) ≡ behind_argument (depth - 1) tokens
closes_inner zero tokens h = absurd (omega arith)
closes_inner (suc depth) tokens h = let same : suc depth - 1 ≡ depth = omega arith in rw same refl

-- an argument that is an alternative
opened : (depth : ℕ) (tokens : List Token) → opens_alternative tokens ≡ true → are_arguments depth tokens ≡ are_arguments (suc depth) (drop 2 tokens)
opened depth (Word sign ∷ OpenBracket ∷ tokens) h = refl
opened depth tokens h = cc

pub opens_inner : (depth : ℕ) (said : List Symbol) → opens_alternative (tokens_seen said) ≡ true
    → are_arguments depth (tokens_seen said) ≡ are_arguments (depth + 1) (tokens_seen (drop 2 said))
opens_inner depth said h = opened depth (tokens_seen said) h ∙ rw (drop-map symbol_of 2 said, add-one) refl

-- an argument that is a rule
pub names_rule : (depth : ℕ) (word : List ℕ) (tokens : List Token) → opens_alternative (Word word ∷ tokens) ≡ false
    → are_arguments depth (Word word ∷ tokens) ≡ behind_argument depth tokens
names_rule depth word (OpenBracket ∷ tokens) h = cc
names_rule depth word tokens h = refl
