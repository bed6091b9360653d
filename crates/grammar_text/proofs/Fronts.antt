-- What was read so far, before what the rest says.
use Rattle.std.proofs.Common.{◌≡◌, ℕ, ◌<◌, Option, Some, None, List, [], ◌∷◌, ◌++◌, length, map, refl, append_assoc, append-nil, arith}
use Rattle.std.specs.Borrow.{Bor}
use Rattle.std.specs.Option.{option_map}
use Rattle.std.proofs.lemmas.List.{map_push}
use Rattle.job_texts.specs.Declarations as forms
use Rattle.algebra_terms.specs.declared.symbols.Symbol.{Symbol}
use Rattle.grammar_text.specs.Seen.{tokens_seen, words_seen, with_arguments}

-- these before the others, where the others are there
abbrev pub with_front : {X : Type 0} → List X → Option (List X) → Option (List X)
with_front front others = option_map (λ found. front ++ found) others

pub front_none : {X : Type 0} (others : Option (List X)) → with_front [] others ≡ others
front_none None = refl
front_none (Some others) = refl

pub front_more : {X : Type 0} (front : List X) (next : X) (others : Option (List X))
    → with_front (front ++ next ∷ []) others ≡ with_front front (forms.and_before next others)
front_more front next None = refl
front_more front next (Some others) = simp append_assoc

pub seen_more : {X Y : Type 0} (view : X → Y) (front : List X) (next : X) (others : Option (List Y))
    → with_front (map view (front ++ next ∷ [])) others ≡ with_front (map view front) (forms.and_before (view next) others)
seen_more view front next others = rw (map_push view front next) (front_more (map view front) (view next) others)

pub front_last : {X : Type 0} (front : List X) → with_front front (Some []) ≡ Some front
front_last front = rw append-nil refl

-- variables before the others
abbrev pub with_variables : List (List ℕ) → Option forms.LetTokens → Option forms.LetTokens
with_variables front rest =
    option_map (λ (found : forms.LetTokens). record { variables = front ++ found.variables; term = found.term }) rest

pub variables_none : (rest : Option forms.LetTokens) → with_variables [] rest ≡ rest
variables_none None = refl
variables_none (Some found) = refl

pub variables_more : (front : List (Bor (List ℕ))) (variable : Bor (List ℕ)) (rest : Option forms.LetTokens)
    → with_variables (words_seen (front ++ variable ∷ [])) rest ≡ with_variables (words_seen front) (forms.with_variable variable.now rest)
variables_more front variable None = refl
variables_more front variable (Some found) = rw (map_push (λ (word : Bor (List ℕ)). word.now) front variable) (simp append_assoc)

pub arguments_none : (rest : Option forms.RuleRest) → with_arguments [] rest ≡ rest
arguments_none None = refl
arguments_none (Some found) = refl

pub arguments_more : {X : Type 0} (view : X → forms.Argument) (front : List X) (argument : X) (rest : Option forms.RuleRest)
    → with_arguments (map view (front ++ argument ∷ [])) rest ≡ with_arguments (map view front) (forms.with_argument (view argument) rest)
arguments_more view front argument None = refl
arguments_more view front argument (Some found) = rw (map_push view front argument) (simp append_assoc)

-- the alternative of these arguments, before those behind its closing bracket
pub alternative_closed : (sign : List ℕ) (arguments : List forms.Argument) (size : Option forms.SizeWords) (others : Option (List forms.Alternative))
    → forms.with_sign sign (with_arguments arguments (forms.at_close size others)) ≡ forms.and_before (record { sign = sign; arguments = arguments; size = size }) others
alternative_closed sign arguments size None = refl
alternative_closed sign arguments size (Some others) = rw append-nil refl

pub some_items : (symbols : List Symbol) → 0 < length symbols → forms.items_of (tokens_seen symbols) ≡ forms.further_items (tokens_seen symbols)
some_items [] h = absurd (omega arith)
some_items (symbol ∷ symbols) h = refl
