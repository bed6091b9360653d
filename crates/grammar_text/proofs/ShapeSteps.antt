-- One step of a list in a line: what is read so far stays a part of all.
use Rattle.std.proofs.Common.{◌≡◌, true, false, ℕ, zero, suc, ◌+◌, ◌*◌, ◌-◌, ◌≤◌, Option, Some, None, List, [], ◌∷◌, ◌++◌, length, map, take, drop, refl, ◌∙◌, ap, sym, drop-drop, length-drop, append-nil, arith}
use Rattle.std.specs.Prelude.{codes}
use Rattle.std.specs.Borrow.{Bor}
use Rattle.std.proofs.lemmas.Bool.{and_parts}
use Rattle.std.proofs.Math.Seq.{take-length}
use Rattle.adp_model.specs.declared.grammar.Kind.{Kind}
use Rattle.job_texts.specs.LineTokens.{Token, OpenSquare, Word, CloseSquare, Dots, CloseBracket, Comma, Bar}
use Rattle.job_texts.specs.Declarations as forms
use Rattle.algebra_terms.specs.declared.symbols.Symbol.{Symbol}
use Rattle.grammar_text.specs.declared.reader.declaration.Item.{Item}
use Rattle.grammar_text.specs.declared.reader.declaration.Argument.{Argument}
use Rattle.grammar_text.specs.declared.reader.declaration.Alternative.{Alternative}
use Rattle.grammar_text.specs.declared.reader.shape.Next.{Next}
use Rattle.grammar_text.specs.declared.reader.shape.Next.TheVariants as next
use Rattle.grammar_text.specs.declared.reader.declaration.SizeWords.{SizeWords}
use Rattle.std.specs.Option.{option_copied, option_map}
use Rattle.grammar_text.specs.Seen.{tokens_seen, item_seen, argument_seen, words_seen, behind_class, behind_clause, behind_low, let_tokens_seen, IsSizeEnd, IsFirstItem, IsFirstKind, IsFirstVariable, IsFirstArgument, IsArgumentEnd, IsHighBound, IsFirstSign, IsBehindArgument, AreArguments, IsBehindAlternative, further_alternatives, size_seen, with_arguments, alternative_seen}
use Rattle.grammar_text.proofs.Sorts.{same_text}
use Rattle.grammar_text.proofs.Fronts.{with_front, front_last, seen_more, front_more, with_variables, variables_more, arguments_more, alternative_closed}

-- the symbols from a place on, cut off at their end
pub rest_of : {X : Type 0} (list : List X) (place : ℕ) → take (length list - place) (drop place list) ≡ drop place list
rest_of list place = rw (← length-drop place list) (take-length (drop place list))

-- where it has so many symbols, some are left behind a place
pub place_within : {X : Type 0} (list : List X) (place used : ℕ) → place ≤ length list → used ≤ length (drop place list) → place + used ≤ length list
place_within list place used h within = omega (arith, simp length-drop at within)

pub items_step : (said : List Symbol) (at used : ℕ) (front items : List Item) (item : Item) (all : Option (List forms.Item))
    → at ≤ length said → IsFirstItem (drop at said) (Some (item, used))
    → with_front (map item_seen front) (forms.further_items (tokens_seen (drop at said))) ≡ all
    → items ≡ front ++ item ∷ []
    → with_front (map item_seen items) (forms.further_items (tokens_seen (drop (at + used) said))) ≡ all
items_step said at used front items item all h first seen is =
    rw (is, seen_more item_seen front item, ← drop-drop) (rw first.0 at seen)

pub items_none : (said : List Symbol) (at : ℕ) (front : List Item) (all : Option (List forms.Item))
    → IsFirstItem (drop at said) None
    → with_front (map item_seen front) (forms.further_items (tokens_seen (drop at said))) ≡ all
    → None ≡ all
items_none said at front all none seen = rw none at seen

pub kinds_step : (said : List Symbol) (at : ℕ) (front kinds : List Kind) (kind : Kind) (all : Option (List Kind))
    → IsFirstKind (drop at said) (Some (kind, next.Another))
    → with_front front (forms.kinds_of (tokens_seen (drop at said))) ≡ all
    → kinds ≡ front ++ kind ∷ []
    → with_front kinds (forms.kinds_of (tokens_seen (drop (at + 2) said))) ≡ all
kinds_step said at front kinds kind all first seen is =
    rw (is, front_more front kind, ← drop-drop) (rw first.0 at seen)

pub kinds_end : (said : List Symbol) (at : ℕ) (front kinds : List Kind) (kind : Kind) (all : Option (List Kind))
    → IsFirstKind (drop at said) (Some (kind, next.End))
    → with_front front (forms.kinds_of (tokens_seen (drop at said))) ≡ all
    → kinds ≡ front ++ kind ∷ []
    → Some kinds ≡ all
kinds_end said at front kinds kind all first seen is = rw is (rw first.0 at seen)

pub kinds_none : (said : List Symbol) (at : ℕ) (front : List Kind) (all : Option (List Kind))
    → IsFirstKind (drop at said) None
    → with_front front (forms.kinds_of (tokens_seen (drop at said))) ≡ all
    → None ≡ all
kinds_none said at front all none seen = rw none at seen

pub variables_step : (said : List Symbol) (at : ℕ) (front variables : List (Bor (List ℕ))) (variable : Bor (List ℕ)) (all : Option forms.LetTokens)
    → IsFirstVariable (drop at said) (Some (variable, next.Another))
    → with_variables (words_seen front) (forms.let_tokens (tokens_seen (drop at said))) ≡ all
    → variables ≡ front ++ variable ∷ []
    → with_variables (words_seen variables) (forms.let_tokens (tokens_seen (drop (at + 2) said))) ≡ all
variables_step said at front variables variable all first seen is =
    rw (is, variables_more front variable, ← drop-drop) (rw first.0 at seen)

pub variables_unended : (said : List Symbol) (at : ℕ) (front : List (Bor (List ℕ))) (all : Option forms.LetTokens)
    → IsFirstVariable (drop at said) None
    → with_variables (words_seen front) (forms.let_tokens (tokens_seen (drop at said))) ≡ all
    → None ≡ all
variables_unended said at front all none seen = rw none at seen

pub variables_end : (said : List Symbol) (at : ℕ) (front variables : List (Bor (List ℕ))) (variable : Bor (List ℕ)) (all : Option forms.LetTokens)
    → IsFirstVariable (drop at said) (Some (variable, next.End))
    → with_variables (words_seen front) (forms.let_tokens (tokens_seen (drop at said))) ≡ all
    → variables ≡ front ++ variable ∷ []
    → at + 3 ≡ 2 * length variables + 1
    → Some (let_tokens_seen variables said) ≡ all
variables_end said at front variables variable all first seen is place =
    let seen_all : with_variables (words_seen variables) (Some (record { variables = []; term = tokens_seen (drop 3 (drop at said)) })) ≡ all =
    variables_more_is front variables variable (Some (record { variables = []; term = tokens_seen (drop 3 (drop at said)) })) is ∙ rw first.0 at seen in
    rw (← place, ← drop-drop) (sym (closed variables (tokens_seen (drop 3 (drop at said)))) ∙ seen_all)
  where
    closed : (front : List (Bor (List ℕ))) (term : List Token)
        → with_variables (words_seen front) (Some (record { variables = []; term = term })) ≡ Some (record { variables = words_seen front; term = term })
    closed front term = simp append-nil

    variables_more_is : (front variables : List (Bor (List ℕ))) (variable : Bor (List ℕ)) (rest : Option forms.LetTokens) → variables ≡ front ++ variable ∷ []
        → with_variables (words_seen variables) rest ≡ with_variables (words_seen front) (forms.with_variable variable.now rest)
    variables_more_is front variables variable rest is = ap (λ (these : List (Bor (List ℕ))). with_variables (words_seen these) rest) is ∙ variables_more front variable rest

pub arguments_step : (said : List Symbol) (at used : ℕ) (front arguments : List Argument) (argument : Argument) (all : Option forms.RuleRest)
    → IsFirstArgument (drop at said) (Some (argument, used))
    → with_arguments (map argument_seen front) (forms.arguments_of (tokens_seen (drop at said))) ≡ all
    → arguments ≡ front ++ argument ∷ []
    → with_arguments (map argument_seen arguments) (forms.behind_argument (tokens_seen (drop (at + used) said))) ≡ all
arguments_step said at used front arguments argument all first seen is =
    rw (is, arguments_more argument_seen front argument, ← drop-drop) (rw first.0 at seen)

-- an argument in square brackets
pub in_brackets : (class : List ℕ) (tokens : List Token) → forms.arguments_of (OpenSquare ∷ Word class ∷ tokens) ≡ behind_class class tokens
in_brackets class (CloseSquare ∷ tokens) = refl
in_brackets class (Word low ∷ Dots ∷ CloseSquare ∷ tokens) = refl
in_brackets class (Word low ∷ Dots ∷ Word high ∷ CloseSquare ∷ tokens) = refl
in_brackets class tokens = refl

-- an argument in square brackets, read to its end
pub run_end : (class low : Bor (List ℕ)) (said : List Symbol) (high : Option (Bor (List ℕ))) (used : ℕ) (argument : Argument)
    → argument_seen argument ≡ forms.RunOf class.now low.now (option_copied high)
    → tokens_seen said ≡ Word low.now ∷ Dots ∷ tokens_seen (drop 2 said) → 2 ≤ length said
    → IsHighBound (drop 2 said) (Some (high, used))
    → IsArgumentEnd (λ tokens. behind_class class.now tokens) said (Some (argument, 2 + used))
run_end class low said high used argument is front long bound =
    (rw (front, bound.0, drop-drop, is) refl, place_within said 2 used long bound.1)

pub brackets_end : (class : Bor (List ℕ)) (said : List Symbol) (argument : Argument) (used : ℕ)
    → tokens_seen said ≡ OpenSquare ∷ Word class.now ∷ tokens_seen (drop 2 said) → 2 ≤ length said
    → IsArgumentEnd (λ tokens. behind_class class.now tokens) (drop 2 said) (Some (argument, used))
    → IsFirstArgument said (Some (argument, 2 + used))
brackets_end class said argument used front long end =
    (rw (front, in_brackets class.now (tokens_seen (drop 2 said)), end.0, drop-drop) refl, omega arith, place_within said 2 used long end.1)

pub brackets_unended : (class : List ℕ) (said : List Symbol)
    → tokens_seen said ≡ OpenSquare ∷ Word class ∷ tokens_seen (drop 2 said)
    → behind_class class (tokens_seen (drop 2 said)) ≡ None
    → forms.arguments_of (tokens_seen said) ≡ None
brackets_unended class said front none = rw (front, in_brackets class (tokens_seen (drop 2 said)), none) refl

-- a size, read to its end
pub size_end : (low : Bor (List ℕ)) (said : List Symbol) (size : SizeWords) (follows : Next) (used : ℕ)
    → tokens_seen said ≡ Word low.now ∷ Dots ∷ tokens_seen (drop 2 said) → 2 ≤ length said
    → IsSizeEnd (λ tokens. behind_low low.now tokens) (drop 2 said) (Some (size, follows, used))
    → IsSizeEnd (λ tokens. behind_clause tokens) said (Some (size, follows, 2 + used))
size_end low said size follows used front long end =
    (ap behind_clause front ∙ rw drop-drop at end.0, place_within said 2 used long end.1)

pub size_unended : (low : List ℕ) (said : List Symbol)
    → tokens_seen said ≡ Word low ∷ Dots ∷ tokens_seen (drop 2 said)
    → behind_low low (tokens_seen (drop 2 said)) ≡ None
    → behind_clause (tokens_seen said) ≡ None
size_unended low said front none = ap behind_clause front ∙ none

-- behind an alternative `with size`, and other words
clause_words : (first second : List ℕ) → forms.is_clause first second ≡ true → (first ≡ codes "with") × (second ≡ codes "size")
clause_words first second h =
    let parts = and_parts (forms.is_word (codes "with") first) (forms.is_word (codes "size") second) h in
    (sym (same_text (codes "with") first parts.0), sym (same_text (codes "size") second parts.1))

at_clause : (first second : List ℕ) (said : List Symbol) → tokens_seen said ≡ Word first ∷ Word second ∷ tokens_seen (drop 2 said) → forms.is_clause first second ≡ true
    → forms.behind_alternative (tokens_seen said) ≡ behind_clause (tokens_seen (drop 2 said))
at_clause first second said front clause =
    let words = clause_words first second clause in
    let first_is = ap (λ (word : List ℕ). Word word ∷ Word second ∷ tokens_seen (drop 2 said)) words.0 in
    let second_is = ap (λ (word : List ℕ). Word (codes "with") ∷ Word word ∷ tokens_seen (drop 2 said)) words.1 in
    ap forms.behind_alternative (front ∙ first_is ∙ second_is)

pub clause_end : (first second : List ℕ) (said : List Symbol) (size : SizeWords) (follows : Next) (used : ℕ)
    → tokens_seen said ≡ Word first ∷ Word second ∷ tokens_seen (drop 2 said) → 2 ≤ length said → forms.is_clause first second ≡ true
    → IsSizeEnd (λ tokens. behind_clause tokens) (drop 2 said) (Some (size, follows, used))
    → IsBehindAlternative said (Some (Some size, follows, 2 + used))
clause_end first second said size follows used front long clause end =
    (at_clause first second said front clause ∙ rw drop-drop at end.0, place_within said 2 used long end.1)

no_size : (first second : List ℕ) (tokens : List Token) → forms.is_clause first second ≡ false → forms.behind_alternative (Word first ∷ Word second ∷ tokens) ≡ None
no_size first second (Word low ∷ Dots ∷ []) h = rw h refl
no_size first second (Word low ∷ Dots ∷ Bar ∷ tokens) h = rw h refl
no_size first second (Word low ∷ Dots ∷ Word high ∷ []) h = rw h refl
no_size first second (Word low ∷ Dots ∷ Word high ∷ Bar ∷ tokens) h = rw h refl
no_size first second tokens h = refl

pub no_clause : (first second : List ℕ) (said : List Symbol)
    → tokens_seen said ≡ Word first ∷ Word second ∷ tokens_seen (drop 2 said) → forms.is_clause first second ≡ false
    → forms.behind_alternative (tokens_seen said) ≡ None
no_clause first second said front other = ap forms.behind_alternative front ∙ no_size first second (tokens_seen (drop 2 said)) other

-- an alternative up to its closing bracket
pub sign_step : (said : List Symbol) (at used : ℕ) (sign : Bor (List ℕ)) (found : List Argument)
    → IsFirstSign (drop at said) (Some sign) → AreArguments (drop (at + 2) said) (Some (found, used))
    → forms.alternatives_of (tokens_seen (drop at said))
    ≡ forms.with_sign sign.now (with_arguments (map argument_seen found) (forms.behind_alternative (tokens_seen (drop (at + 2 + used) said))))
sign_step said at used sign found first all =
    rw (first.0, drop-drop) (ap (λ (rest : Option forms.RuleRest). forms.with_sign sign.now rest) (rw drop-drop at all.0))

abbrev as_read : List ℕ → List forms.Argument → Option forms.SizeWords → forms.Alternative
as_read sign arguments size = record { sign = sign; arguments = arguments; size = size }

-- an alternative whose size stands apart
pub same_size : (sign : List ℕ) (arguments : List forms.Argument) (kept size : Option forms.SizeWords) → kept ≡ size → as_read sign arguments kept ≡ as_read sign arguments size
same_size sign arguments kept size is = ap (as_read sign arguments) is

-- an alternative with its size, and those behind it
sized_step : (said : List Symbol) (at used behind : ℕ) (sign : Bor (List ℕ)) (found : List Argument) (size : Option SizeWords) (follows : Next) (front alternatives : List Alternative) (last : Alternative) (all : Option (List forms.Alternative))
    → IsFirstSign (drop at said) (Some sign) → AreArguments (drop (at + 2) said) (Some (found, used)) → IsBehindAlternative (drop (at + 2 + used) said) (Some (size, follows, behind))
    → alternative_seen last ≡ record { sign = sign.now; arguments = map argument_seen found; size = option_map size_seen size }
    → with_front (map alternative_seen front) (forms.alternatives_of (tokens_seen (drop at said))) ≡ all
    → alternatives ≡ front ++ last ∷ []
    → with_front (map alternative_seen alternatives) (further_alternatives follows (tokens_seen (drop behind (drop (at + 2 + used) said)))) ≡ all
sized_step said at used behind sign found size follows front alternatives last all first those ends is_next seen is =
    let step = sign_step said at used sign found first those in
    let others = further_alternatives follows (tokens_seen (drop behind (drop (at + 2 + used) said))) in
    let closed = alternative_closed sign.now (map argument_seen found) (option_map size_seen size) others in
    let read : forms.and_before (alternative_seen last) others ≡ forms.alternatives_of (tokens_seen (drop at said)) =
    ap (λ (this : forms.Alternative). forms.and_before this others) is_next
    ∙ sym closed
    ∙ sym (ap (λ (rest : Option forms.RuleRest). forms.with_sign sign.now (with_arguments (map argument_seen found) rest)) ends.0)
    ∙ sym step in
    let all_seen : with_front (map alternative_seen front) (forms.and_before (alternative_seen last) others) ≡ all =
    ap (with_front (map alternative_seen front)) read ∙ seen in
    rw is (seen_more alternative_seen front last others ∙ all_seen)

-- the end of alternatives
pub alternatives_end : (said : List Symbol) (at used behind : ℕ) (sign : Bor (List ℕ)) (found : List Argument) (size : Option SizeWords) (front alternatives : List Alternative) (last : Alternative) (all : Option (List forms.Alternative))
    → IsFirstSign (drop at said) (Some sign) → AreArguments (drop (at + 2) said) (Some (found, used)) → IsBehindAlternative (drop (at + 2 + used) said) (Some (size, next.End, behind))
    → alternative_seen last ≡ record { sign = sign.now; arguments = map argument_seen found; size = option_map size_seen size }
    → with_front (map alternative_seen front) (forms.alternatives_of (tokens_seen (drop at said))) ≡ all
    → alternatives ≡ front ++ last ∷ []
    → Some (map alternative_seen alternatives) ≡ all
alternatives_end said at used behind sign found size front alternatives last all first those ends is_next seen is =
    sym (front_last (map alternative_seen alternatives)) ∙ sized_step said at used behind sign found size next.End front alternatives last all first those ends is_next seen is

pub alternatives_step : (said : List Symbol) (at used behind : ℕ) (sign : Bor (List ℕ)) (found : List Argument) (size : Option SizeWords) (front alternatives : List Alternative) (last : Alternative) (all : Option (List forms.Alternative))
    → IsFirstSign (drop at said) (Some sign) → AreArguments (drop (at + 2) said) (Some (found, used)) → IsBehindAlternative (drop (at + 2 + used) said) (Some (size, next.Another, behind))
    → alternative_seen last ≡ record { sign = sign.now; arguments = map argument_seen found; size = option_map size_seen size }
    → with_front (map alternative_seen front) (forms.alternatives_of (tokens_seen (drop at said))) ≡ all
    → alternatives ≡ front ++ last ∷ []
    → with_front (map alternative_seen alternatives) (forms.alternatives_of (tokens_seen (drop (at + 2 + used + behind) said))) ≡ all
alternatives_step said at used behind sign found size front alternatives last all first those ends is_next seen is =
    rw (← drop-drop) (sized_step said at used behind sign found size next.Another front alternatives last all first those ends is_next seen is)

pub alternatives_unended : (said : List Symbol) (at used : ℕ) (sign : Bor (List ℕ)) (found : List Argument) (front : List forms.Alternative) (all : Option (List forms.Alternative))
    → IsFirstSign (drop at said) (Some sign) → AreArguments (drop (at + 2) said) (Some (found, used))
    → with_front front (forms.alternatives_of (tokens_seen (drop at said))) ≡ all
    → IsBehindAlternative (drop (at + 2 + used) said) None
    → None ≡ all
alternatives_unended said at used sign found front all first those seen none =
    let step = sign_step said at used sign found first those in
    rw (← seen, step, none) refl

pub alternatives_without : (said : List Symbol) (at : ℕ) (sign : Bor (List ℕ)) (front : List forms.Alternative) (all : Option (List forms.Alternative))
    → IsFirstSign (drop at said) (Some sign) → AreArguments (drop (at + 2) said) None
    → with_front front (forms.alternatives_of (tokens_seen (drop at said))) ≡ all
    → None ≡ all
alternatives_without said at sign front all first none seen =
    rw (← seen, first.0, drop-drop, none) refl

-- the end of arguments
pub arguments_end : (said : List Symbol) (at used : ℕ) (front found : List Argument) (argument : Argument) (all : Option forms.RuleRest)
    → at ≤ length said
    → IsFirstArgument (drop at said) (Some (argument, used))
    → with_arguments (map argument_seen front) (forms.arguments_of (tokens_seen (drop at said))) ≡ all
    → found ≡ front ++ argument ∷ []
    → IsBehindArgument (drop (at + used) said) (Some next.End)
    → all ≡ with_arguments (map argument_seen found) (forms.behind_argument (CloseBracket ∷ tokens_seen (drop (at + used + 1) said)))
arguments_end said at used front found argument all within first seen is behind =
    let closed : tokens_seen (drop (at + used) said) ≡ CloseBracket ∷ tokens_seen (drop (at + used + 1) said) = rw drop-drop at behind in
    rw (← closed) (sym (arguments_step said at used front found argument all first seen is))

pub arguments_next : (said : List Symbol) (at used : ℕ) (front found : List Argument) (argument : Argument) (all : Option forms.RuleRest)
    → IsFirstArgument (drop at said) (Some (argument, used))
    → with_arguments (map argument_seen front) (forms.arguments_of (tokens_seen (drop at said))) ≡ all
    → found ≡ front ++ argument ∷ []
    → IsBehindArgument (drop (at + used) said) (Some next.Another)
    → with_arguments (map argument_seen found) (forms.arguments_of (tokens_seen (drop (at + used + 1) said))) ≡ all
arguments_next said at used front found argument all first seen is behind =
    let comma : tokens_seen (drop (at + used) said) ≡ Comma ∷ tokens_seen (drop (at + used + 1) said) = rw drop-drop at behind in
    let step = arguments_step said at used front found argument all first seen is in
    rw comma at step

-- where a token stands behind a place, the place is before the end
pub one_within : (said : List Symbol) (place : ℕ) (token : Token) (others : List Token) → tokens_seen (drop place said) ≡ token ∷ others → place + 1 ≤ length said
one_within [] zero token others h = cc
one_within [] (suc place) token others h = cc
one_within (symbol ∷ said) zero token others h = omega arith
one_within (symbol ∷ said) (suc place) token others h = omega (arith, one_within said place token others h)
