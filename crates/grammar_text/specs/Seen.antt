-- What the reader has in its hands, seen as what the lines of a text declare.
use Rattle.std.specs.Prelude.{◌≡◌, ℕ, Bool, true, false, take, ◌+◌, ◌*◌, ◌<◌, ◌≤◌, Option, Some, None, unwrap_or, List, [], ◌∷◌, ◌++◌, map, length, drop, codes, MatchOption}
use Rattle.std.specs.Borrow.{Bor}
use Rattle.std.specs.Option.{option_map, option_and_then, option_copied}
use Rattle.std.specs.Global.{Global}
use Rattle.std.specs.declared.boxed.Box.{Box}
use Rattle.job_texts.specs.LetTerms.{LetTerm, Parts, term_of_text}
use Rattle.job_texts.specs.LineTokens.{Token, QuotedRest, CloseBracket, CloseSquare, Comma, Dots, Word}
use Rattle.job_texts.specs.Declarations as forms
use Rattle.algebra_terms.specs.declared.symbols.Symbol.{Symbol}
use Rattle.algebra_terms.specs.Tokens.{letters_behind, symbol_of}
use Rattle.adp_model.specs.declared.grammar.Kind.{Kind}
use Rattle.grammar_text.specs.declared.reader.shape.Next.{Next}
use Rattle.grammar_text.specs.declared.reader.shape.Next.TheVariants as next
use Rattle.grammar_text.specs.declared.reader.declaration.Item.{Item}
use Rattle.grammar_text.specs.declared.reader.declaration.Argument.{Argument}
use Rattle.grammar_text.specs.declared.reader.declaration.Argument.TheVariants as arguments
use Rattle.grammar_text.specs.declared.reader.declaration.Alternative.{Alternative}
use Rattle.grammar_text.specs.declared.reader.declaration.SizeWords.{SizeWords}
use Rattle.grammar_text.specs.declared.reader.declaration.Declaration.{Declaration}
use Rattle.grammar_text.specs.declared.reader.declaration.Declaration.TheVariants as declarations
use Rattle.grammar_text.specs.declared.reader.declaration.HeaderLine.{HeaderLine}
use Rattle.grammar_text.specs.declared.reader.declaration.HeaderLine.TheVariants as lines

-- what symbols say
abbrev pub tokens_seen : List Symbol → List Token
tokens_seen symbols = map symbol_of symbols

-- words, without where they lie in memory
abbrev pub words_seen : List (Bor (List ℕ)) → List (List ℕ)
words_seen words = map (λ word. word.now) words

-- letters as they are spelled are the letters that they stand for
abbrev pub item_seen : Item → forms.Item
item_seen item = record {
  letters = letters_behind item.letters.now;
  negative = item.negative;
  number = item.number.now;
}

-- an argument, without where its words lie in memory
abbrev pub argument_seen : Argument → forms.Argument
argument_seen (arguments.Named rule) = forms.Named rule.now
argument_seen (arguments.Spelled letters) = forms.Spelled (letters_behind letters.now)
argument_seen (arguments.OneOf class) = forms.OneOf class.now
argument_seen (arguments.RunOf class low high) = forms.RunOf class.now low.now (Some high.now)
argument_seen (arguments.RunFrom class low) = forms.RunOf class.now low.now None

-- a size, without where its words lie in memory
abbrev pub size_seen : SizeWords → forms.SizeWords
size_seen size = record { low = size.low.now; high = option_copied size.high }

-- a size that stands apart, or none
abbrev pub kept_size_seen : Option (Box SizeWords Global) → Option forms.SizeWords
kept_size_seen size = option_map (λ (kept : Box SizeWords Global). size_seen kept.value) size

-- an alternative with its arguments and its size
abbrev pub alternative_seen : Alternative → forms.Alternative
alternative_seen alternative = record {
  sign = alternative.sign.now;
  arguments = map argument_seen alternative.arguments.items;
  size = kept_size_seen alternative.size;
}

-- the term that these bytes spell in a text of this format; one without parts where they spell none
abbrev pub term_seen : ℕ → List ℕ → LetTerm
term_seen version text = unwrap_or (term_of_text version text) (Parts [])

-- what a line says; of a `let`'s bytes the term that they spell
abbrev pub declaration_seen : Declaration → forms.Declaration
declaration_seen (declarations.Class name items) = forms.Class name.now (map item_seen items.items)
declaration_seen (declarations.Sign name kinds) = forms.Sign name.now kinds.items
declaration_seen (declarations.Algebra name goal) = forms.Algebra name.now goal
declaration_seen (declarations.Let sign variables term) =
    forms.Let sign.now (words_seen variables.items) (term_seen term.version term.bytes.now)
declaration_seen (declarations.Rule name alternatives) = forms.Rule name.now (map alternative_seen alternatives.items)
declaration_seen (declarations.Axiom rule) = forms.Axiom rule.now
declaration_seen declarations.Words = forms.Words

-- what a header line is
abbrev pub line_seen : HeaderLine → forms.HeaderLine
line_seen lines.Skipped = forms.Skipped
line_seen lines.Unprintable = forms.Unprintable
line_seen lines.Unclosed = forms.Unclosed
line_seen lines.Shapeless = forms.Shapeless
line_seen (lines.Says declaration) = forms.Says (declaration_seen declaration)

-- what the kinds are behind the first, by the mark behind that
abbrev pub further_kinds : Next → List Token → Option (List Kind)
further_kinds next.Another tokens = forms.kinds_of tokens
further_kinds next.End tokens = Some []

-- what follows behind a kind
abbrev pub IsBehindKind : List Symbol → Option Next → Type 0
IsBehindKind symbols None = (word : List ℕ) → forms.kinds_of (Word word ∷ tokens_seen symbols) ≡ None
IsBehindKind symbols (Some next.End) = tokens_seen symbols ≡ CloseBracket ∷ []
IsBehindKind symbols (Some next.Another) = tokens_seen symbols ≡ Comma ∷ tokens_seen (drop 1 symbols)

-- the first of the kinds that these symbols spell, and what is behind it; or there are none
abbrev pub IsFirstKind : List Symbol → Option (Kind × Next) → Type 0
IsFirstKind symbols found =
    MatchOption found (forms.kinds_of (tokens_seen symbols) ≡ None)
    (λ first.
    (forms.kinds_of (tokens_seen symbols)
    ≡ forms.and_before first.0 (further_kinds first.1 (tokens_seen (drop 2 symbols))))
    × (2 ≤ length symbols))

-- the variables and the term behind a first variable, by the marks behind that
abbrev pub further_variables : Next → List Symbol → Option forms.LetTokens
further_variables next.Another symbols = forms.let_tokens (tokens_seen (drop 2 symbols))
further_variables next.End symbols = Some (record { variables = []; term = tokens_seen (drop 3 symbols) })

-- the number of symbols that a variable and the marks behind it have
abbrev pub variable_symbols : Next → ℕ
variable_symbols next.Another = 2
variable_symbols next.End = 3

-- the first of the variables that these symbols spell, and what is behind it; or there are none
abbrev pub IsFirstVariable : List Symbol → Option (Bor (List ℕ) × Next) → Type 0
IsFirstVariable symbols found =
    MatchOption found (forms.let_tokens (tokens_seen symbols) ≡ None)
    (λ first.
    (forms.let_tokens (tokens_seen symbols)
    ≡ forms.with_variable first.0.now (further_variables first.1 symbols))
    × (variable_symbols first.1 ≤ length symbols))

-- the sign of the first of the alternatives that these symbols spell; or there are none
abbrev pub IsFirstSign : List Symbol → Option (Bor (List ℕ)) → Type 0
IsFirstSign symbols found =
    MatchOption found (forms.alternatives_of (tokens_seen symbols) ≡ None)
    (λ sign.
    (forms.alternatives_of (tokens_seen symbols)
    ≡ forms.with_sign sign.now (forms.arguments_of (tokens_seen (drop 2 symbols))))
    × (2 ≤ length symbols))

-- what the alternatives are behind one, by the mark behind that
abbrev pub further_alternatives : Next → List Token → Option (List forms.Alternative)
further_alternatives next.Another tokens = forms.alternatives_of tokens
further_alternatives next.End tokens = Some []

-- a size or none behind the closing bracket of an alternative, what follows it, and the number of its symbols
abbrev pub IsBehindAlternative : List Symbol → Option (Option SizeWords × Next × ℕ) → Type 0
IsBehindAlternative symbols found =
    MatchOption found (forms.behind_alternative (tokens_seen symbols) ≡ None)
    (λ behind.
    (forms.behind_alternative (tokens_seen symbols)
    ≡ forms.at_close (option_map size_seen behind.0) (further_alternatives behind.1 (tokens_seen (drop behind.2 symbols))))
    × (behind.2 ≤ length symbols))

-- what stands behind `with size`
abbrev pub behind_clause : List Token → Option forms.RuleRest
behind_clause tokens = forms.behind_alternative (Word (codes "with") ∷ Word (codes "size") ∷ tokens)

-- what stands behind `with size`, the word of a low bound and dots
abbrev pub behind_low : List ℕ → List Token → Option forms.RuleRest
behind_low low tokens = behind_clause (Word low ∷ Dots ∷ tokens)

-- the size that these symbols spell to its end, by what it reads, what follows it, and the number of its symbols; or there
-- is none
abbrev pub IsSizeEnd : (List Token → Option forms.RuleRest) → List Symbol → Option (SizeWords × Next × ℕ) → Type 0
IsSizeEnd rest symbols found =
    MatchOption found (rest (tokens_seen symbols) ≡ None)
    (λ end.
    (rest (tokens_seen symbols)
    ≡ forms.at_close (Some (size_seen end.0)) (further_alternatives end.1 (tokens_seen (drop end.2 symbols))))
    × (end.2 ≤ length symbols))

-- what follows behind an argument
abbrev pub IsBehindArgument : List Symbol → Option Next → Type 0
IsBehindArgument symbols None = forms.behind_argument (tokens_seen symbols) ≡ None
IsBehindArgument symbols (Some next.End) = tokens_seen symbols ≡ CloseBracket ∷ tokens_seen (drop 1 symbols)
IsBehindArgument symbols (Some next.Another) = tokens_seen symbols ≡ Comma ∷ tokens_seen (drop 1 symbols)

-- the first of the items that these symbols spell, and the number of its symbols; or there are none
abbrev pub IsFirstItem : List Symbol → Option (Item × ℕ) → Type 0
IsFirstItem symbols found =
    MatchOption found (forms.further_items (tokens_seen symbols) ≡ None)
    (λ first.
    (forms.further_items (tokens_seen symbols)
    ≡ forms.and_before (item_seen first.0) (forms.further_items (tokens_seen (drop first.1 symbols))))
    × (0 < first.1) × (first.1 ≤ length symbols))

-- the variables of a `let`, and the tokens behind its `=`
abbrev pub let_tokens_seen : List (Bor (List ℕ)) → List Symbol → forms.LetTokens
let_tokens_seen variables symbols = record {
  variables = words_seen variables;
  term = tokens_seen (drop (2 * length variables + 1) symbols);
}

-- the first of the arguments that these symbols spell, and the number of its symbols; or there are none
abbrev pub IsFirstArgument : List Symbol → Option (Argument × ℕ) → Type 0
IsFirstArgument symbols found =
    MatchOption found (forms.arguments_of (tokens_seen symbols) ≡ None)
    (λ first.
    (forms.arguments_of (tokens_seen symbols)
    ≡ forms.with_argument (argument_seen first.0) (forms.behind_argument (tokens_seen (drop first.1 symbols))))
    × (0 < first.1) × (first.1 ≤ length symbols))

-- what stands behind `..` up to the square bracket: the high bound where there is one, and the tokens behind it
abbrev pub high_bound : List Token → Option (Option (List ℕ) × List Token)
high_bound (CloseSquare ∷ tokens) = Some (None, tokens)
high_bound (Word high ∷ CloseSquare ∷ tokens) = Some (Some high, tokens)
high_bound tokens = None

-- the argument of this class in square brackets, read behind its class, and what follows it
abbrev pub behind_class : List ℕ → List Token → Option forms.RuleRest
behind_class class (CloseSquare ∷ tokens) = forms.with_argument (forms.OneOf class) (forms.behind_argument tokens)
behind_class class (Word low ∷ Dots ∷ tokens) =
    option_and_then
    (λ (found : Option (List ℕ) × List Token).
    forms.with_argument (forms.RunOf class low found.0) (forms.behind_argument found.1))
    (high_bound tokens)
behind_class class tokens = None

-- the high bound that these symbols spell, and the number of its symbols; or there is none
abbrev pub IsHighBound : List Symbol → Option (Option (Bor (List ℕ)) × ℕ) → Type 0
IsHighBound symbols found =
    MatchOption found (high_bound (tokens_seen symbols) ≡ None)
    (λ bound.
    (high_bound (tokens_seen symbols) ≡ Some (option_copied bound.0, tokens_seen (drop bound.1 symbols)))
    × (bound.1 ≤ length symbols))

-- the argument that these symbols spell to its end, by what it reads, and the number of its symbols; or there is none
abbrev pub IsArgumentEnd : (List Token → Option forms.RuleRest) → List Symbol → Option (Argument × ℕ) → Type 0
IsArgumentEnd rest symbols found =
    MatchOption found (rest (tokens_seen symbols) ≡ None)
    (λ end.
    (rest (tokens_seen symbols)
    ≡ forms.with_argument (argument_seen end.0) (forms.behind_argument (tokens_seen (drop end.1 symbols))))
    × (end.1 ≤ length symbols))

-- arguments before the others
abbrev pub with_arguments : List forms.Argument → Option forms.RuleRest → Option forms.RuleRest
with_arguments arguments rest =
    option_map
    (λ (found : forms.RuleRest). record found { arguments = arguments ++ found.arguments }) rest

-- the arguments up to the first closing bracket, and the number of the symbols up to and with it; or there are none
abbrev pub AreArguments : List Symbol → Option (List Argument × ℕ) → Type 0
AreArguments symbols found =
    MatchOption found (forms.arguments_of (tokens_seen symbols) ≡ None)
    (λ all.
    (forms.arguments_of (tokens_seen symbols)
    ≡ with_arguments (map argument_seen all.0)
    (forms.behind_argument (CloseBracket ∷ tokens_seen (drop all.1 symbols))))
    × (all.1 ≤ length symbols))

-- the letters of a quoted text stand behind these, or some letters where it is no quoted text
abbrev pub IsPushed : List ℕ → List ℕ → Option QuotedRest → Bool → Type 0
IsPushed before letters (Some quoted) closed = (closed ≡ true) × (letters ≡ before ++ quoted.letters)
IsPushed before letters None closed = (closed ≡ false) × (take (length before) letters ≡ before)
