-- The spelled line of a rule declares it.
use Rattle.std.proofs.Common.{◌≡◌, ℕ, ◌≤◌, Bool, true, ◌||◌, codes, Option, Some, None, is_none, List, [], ◌∷◌, ◌++◌, length, map, refl, ◌∙◌, ap, append_assoc, append-nil, arith}
use Rattle.std.specs.List.{list_all, flat_map, AllByRecursion}
use Rattle.std.specs.Fmt.{decimal}
use Rattle.std.specs.Option.{option_map}
use Rattle.adp_model.specs.declared.grammar.Arg.{Arg}
use Rattle.adp_model.specs.declared.grammar.Arg.TheVariants as args
use Rattle.adp_model.specs.declared.grammar.Alt.{Alt}
use Rattle.adp_model.specs.declared.grammar.Size.{Size}
use Rattle.adp_model.specs.declared.grammar.Rule as rules
use Rattle.adp_model.specs.declared.grammar.Grammar.{Grammar}
use Rattle.adp_model.specs.Parts.{sign_at}
use Rattle.adp_model.specs.Printable.{is_printable_byte}
use Rattle.adp_model.specs.WellFormed.{is_name}
use Rattle.job_texts.specs.Spelling.{separated, class_name, rule_name, argument_text, high_text, size_text, alternative_text}
use Rattle.job_texts.specs.LineTokens.{Token, Word, Quoted, OpenBracket, CloseBracket, Comma, OpenSquare, CloseSquare, Bar, Dots, Equals}
use Rattle.job_texts.specs.Declarations.{Argument, SizeWords, Alternative, RuleRest, with_argument, at_close, arguments_of, behind_argument, behind_alternative, alternatives_of, allowed}
use Rattle.job_texts.specs.LetTerms.{is_second}
use Rattle.spelled_texts.proofs.ReadTokens.{TokenLaws, Reads, nothing_reads, name_is_word, word_then, mark_then, space_then, dots_then, quoted_then, same_text_reads}
use Rattle.spelled_texts.proofs.Printing.{Prints, literal_prints, prints-append, prints_joined, word_prints, quoted_prints}
use Rattle.spelled_texts.proofs.Numbers.{decimal_is_word, decimal_prints}
use Rattle.spelled_texts.proofs.Contents.{rule_content, rule_declaration, spelled_argument, spelled_size, spelled_alternative}
use Rattle.spelled_texts.proofs.Joined.{Begins, comma_separates, bar_separates, joined_read}
use Rattle.spelled_texts.proofs.HeaderOf.{Declares, says_declaration}

-- ---- well-formed parts

-- a high bound with this low bound
abbrev pub IsHigh : ℕ → Option ℕ → Type 0
IsHigh low None = Unit {0}
IsHigh low (Some high) = (low ≤ high) × (high ≤ 1000000)

-- a size within its limits
abbrev pub IsSize : Option Size → Type 0
IsSize None = Unit {0}
IsSize (Some size) = (size.low ≤ 1000000) × IsHigh size.low size.high

-- what the spelling of an argument is made of
abbrev pub IsSpellable : Grammar → Arg → Type 0
IsSpellable grammar (args.Rule rule) = is_name (rule_name grammar rule) ≡ true
IsSpellable grammar (args.Literal text) = list_all is_printable_byte text ≡ true
IsSpellable grammar (args.Letter class) = is_name (class_name grammar class) ≡ true
IsSpellable grammar (args.Run class low high) = (is_name (class_name grammar class) ≡ true) × (low ≤ 1000000) × IsHigh low high

pub record IsAlternative (grammar : Grammar) (alternative : Alt) : Type 0 where
  pub named : is_name (sign_at grammar alternative.sign).name ≡ true
  pub some : 1 ≤ length alternative.args
  pub spellable : AllByRecursion (IsSpellable grammar) alternative.args
  pub bounded : IsSize alternative.size

pub record IsRule (grammar : Grammar) (rule : rules.Rule) : Type 0 where
  pub named : is_name rule.name ≡ true
  pub some : 1 ≤ length rule.alts
  pub each : AllByRecursion (IsAlternative grammar) rule.alts

abbrev has_no_size : Alt → Bool
has_no_size alternative = is_none alternative.size

-- this format has sizes, or the rule has none
abbrev pub sizes_stand : ℕ → rules.Rule → Bool
sizes_stand version rule = is_second version || list_all has_no_size rule.alts

spelled_none : (size : Option Size) → is_none (option_map spelled_size size) ≡ is_none size
spelled_none None = refl
spelled_none (Some size) = refl

-- ---- tokens

abbrev argument_tokens : Grammar → Arg → List Token
argument_tokens grammar (args.Rule rule) = Word (rule_name grammar rule) ∷ []
argument_tokens grammar (args.Literal text) = Quoted text ∷ []
argument_tokens grammar (args.Letter class) = OpenSquare ∷ Word (class_name grammar class) ∷ CloseSquare ∷ []
argument_tokens grammar (args.Run class low None) = OpenSquare ∷ Word (class_name grammar class) ∷ Word (decimal low) ∷ Dots ∷ CloseSquare ∷ []
argument_tokens grammar (args.Run class low (Some high)) =
    OpenSquare ∷ Word (class_name grammar class) ∷ Word (decimal low) ∷ Dots ∷ Word (decimal high) ∷ CloseSquare ∷ []

abbrev arguments_tokens : Grammar → List Arg → List Token
arguments_tokens grammar [] = []
arguments_tokens grammar (argument ∷ arguments) =
    argument_tokens grammar argument ++ (flat_map (λ other. Comma ∷ argument_tokens grammar other) arguments ++ CloseBracket ∷ [])

abbrev high_tokens : Option ℕ → List Token
high_tokens None = []
high_tokens (Some high) = Word (decimal high) ∷ []

abbrev size_tokens : Option Size → List Token
size_tokens None = []
size_tokens (Some size) = Word (codes "with") ∷ Word (codes "size") ∷ Word (decimal size.low) ∷ Dots ∷ high_tokens size.high

abbrev alternative_tokens : Grammar → Alt → List Token
alternative_tokens grammar alternative =
    Word (sign_at grammar alternative.sign).name ∷ OpenBracket ∷ (arguments_tokens grammar alternative.args ++ size_tokens alternative.size)

abbrev alternatives_tokens : Grammar → List Alt → List Token
alternatives_tokens grammar [] = []
alternatives_tokens grammar (alternative ∷ alternatives) =
    alternative_tokens grammar alternative ++ flat_map (λ other. Bar ∷ alternative_tokens grammar other) alternatives

module _ (laws : TokenLaws) (grammar : Grammar) where
  argument_begins : (argument : Arg) → IsSpellable grammar argument → Begins (argument_text grammar argument) (argument_tokens grammar argument)
  argument_begins (args.Rule rule) is = record { before = λ rest others ends reads. word_then laws (rule_name grammar rule) (name_is_word _ is) ends reads }
  argument_begins (args.Literal text) is = record { before = λ rest others ends reads. quoted_then laws text reads }
  argument_begins (args.Letter class) is = record {
    before = λ rest others ends reads.
        same_text_reads (simp append_assoc)
        (mark_then laws 91 OpenSquare refl (word_then laws (class_name grammar class) (name_is_word _ is) refl (mark_then laws 93 CloseSquare refl reads)));
  }
  argument_begins (args.Run class low None) is = record {
    before = λ rest others ends reads.
        let small = is.1 in
        same_text_reads (simp append_assoc)
        (mark_then laws 91 OpenSquare refl (word_then laws (class_name grammar class) (name_is_word _ is.0) refl
        (space_then laws (word_then laws (decimal low) (decimal_is_word low (omega arith)) refl
        (dots_then laws (mark_then laws 93 CloseSquare refl reads))))));
  }
  argument_begins (args.Run class low (Some high)) is = record {
    before = λ rest others ends reads.
        let small = is.1 in
        let small_high = is.2.1 in
        same_text_reads (simp append_assoc)
        (mark_then laws 91 OpenSquare refl (word_then laws (class_name grammar class) (name_is_word _ is.0) refl
        (space_then laws (word_then laws (decimal low) (decimal_is_word low (omega arith)) refl
        (dots_then laws (word_then laws (decimal high) (decimal_is_word high (omega arith)) refl (mark_then laws 93 CloseSquare refl reads)))))));
  }

  arguments_begin : (arguments : List Arg) → AllByRecursion (IsSpellable grammar) arguments
      → AllByRecursion (λ argument. Begins (argument_text grammar argument) (argument_tokens grammar argument)) arguments
  arguments_begin [] are = tt
  arguments_begin (argument ∷ arguments) are = (argument_begins argument are.0, arguments_begin arguments are.1)

  arguments_read : (arguments : List Arg) → 1 ≤ length arguments → AllByRecursion (IsSpellable grammar) arguments → (rest : List ℕ) (others : List Token) → Reads rest others
      → Reads (separated (argument_text grammar) (codes ", ") arguments ++ 41 ∷ rest) (arguments_tokens grammar arguments ++ others)
  arguments_read [] some are rest others reads = absurd (omega arith)
  arguments_read (argument ∷ arguments) some are rest others reads =
      let said : (argument_tokens grammar argument ++ (flat_map (λ other. Comma ∷ argument_tokens grammar other) arguments ++ CloseBracket ∷ [])) ++ others
      ≡ argument_tokens grammar argument ++ (flat_map (λ other. Comma ∷ argument_tokens grammar other) arguments ++ CloseBracket ∷ others) = simp append_assoc in
      rw said
      (joined_read (argument_text grammar) (argument_tokens grammar) (codes ", ") Comma (comma_separates laws) argument arguments (arguments_begin (argument ∷ arguments) are) (41 ∷ rest)
      (CloseBracket ∷ others) refl
      (mark_then laws 41 CloseBracket refl reads))

  high_begins : (low : ℕ) (high : Option ℕ) → IsHigh low high → Begins (high_text high) (high_tokens high)
  high_begins low None is = record { before = λ rest others ends reads. reads }
  high_begins low (Some high) is = record {
    before = λ rest others ends reads. let small = is.1 in word_then laws (decimal high) (decimal_is_word high (omega arith)) ends reads;
  }

  size_begins : (size : Option Size) → IsSize size → Begins (size_text size) (size_tokens size)
  size_begins None is = record { before = λ rest others ends reads. reads }
  size_begins (Some size) is = record {
    before = λ rest others ends reads.
        let small = is.0 in
        let high = (high_begins size.low size.high is.1).before rest others ends reads in
        same_text_reads (simp append_assoc)
        (space_then laws (word_then laws (codes "with") (record { nonempty = omega arith; in_word = refl }) refl
        (space_then laws (word_then laws (codes "size") (record { nonempty = omega arith; in_word = refl }) refl
        (space_then laws (word_then laws (decimal size.low) (decimal_is_word size.low (omega arith)) refl (dots_then laws high)))))));
  }

  alternative_begins : (alternative : Alt) → IsAlternative grammar alternative → Begins (alternative_text grammar alternative) (alternative_tokens grammar alternative)
  alternative_begins alternative is = record {
    before = λ rest others ends reads.
        let sized = (size_begins alternative.size is.bounded).before rest others ends reads in
        let said : (arguments_tokens grammar alternative.args ++ size_tokens alternative.size) ++ others
        ≡ arguments_tokens grammar alternative.args ++ (size_tokens alternative.size ++ others) = append_assoc (arguments_tokens grammar alternative.args) (size_tokens alternative.size) others in
        rw said
        (same_text_reads (simp append_assoc)
        (word_then laws (sign_at grammar alternative.sign).name (name_is_word _ is.named) refl
        (mark_then laws 40 OpenBracket refl
        (arguments_read alternative.args is.some is.spellable (size_text alternative.size ++ rest) (size_tokens alternative.size ++ others) sized))));
  }

  alternatives_begin : (alternatives : List Alt) → AllByRecursion (IsAlternative grammar) alternatives
      → AllByRecursion (λ alternative. Begins (alternative_text grammar alternative) (alternative_tokens grammar alternative)) alternatives
  alternatives_begin [] are = tt
  alternatives_begin (alternative ∷ alternatives) are = (alternative_begins alternative are.0, alternatives_begin alternatives are.1)

  alternatives_read : (alternatives : List Alt) → 1 ≤ length alternatives → AllByRecursion (IsAlternative grammar) alternatives
      → Reads (separated (alternative_text grammar) (codes " | ") alternatives) (alternatives_tokens grammar alternatives)
  alternatives_read [] some are = absurd (omega arith)
  alternatives_read (alternative ∷ alternatives) some are =
      let reads = joined_read (alternative_text grammar) (alternative_tokens grammar) (codes " | ") Bar (bar_separates laws) alternative alternatives
      (alternatives_begin (alternative ∷ alternatives) are) [] [] refl nothing_reads in
      simp append-nil at reads

  rule_reads : (rule : rules.Rule) → IsRule grammar rule → Reads (rule_content grammar rule) (Word (codes "rule") ∷ Word rule.name ∷ Equals ∷ alternatives_tokens grammar rule.alts)
  rule_reads rule is =
      same_text_reads (simp append_assoc)
      (word_then laws (codes "rule") (record { nonempty = omega arith; in_word = refl }) refl
      (space_then laws (word_then laws rule.name (name_is_word rule.name is.named) refl
      (space_then laws (mark_then laws 61 Equals refl (space_then laws (alternatives_read rule.alts is.some is.each)))))))

-- ---- what they declare

module _ (grammar : Grammar) where
  argument_back : (argument : Arg) (more : List Token) → arguments_of (argument_tokens grammar argument ++ more) ≡ with_argument (spelled_argument grammar argument) (behind_argument more)
  argument_back (args.Rule rule) more = refl
  argument_back (args.Literal text) more = refl
  argument_back (args.Letter class) more = refl
  argument_back (args.Run class low None) more = refl
  argument_back (args.Run class low (Some high)) more = refl

  -- what stands behind the arguments of an alternative
  abbrev rest_behind : List Argument → Option SizeWords → List Alternative → RuleRest
  rest_behind arguments size alternatives = record { arguments = arguments; size = size; alternatives = alternatives }

  further_back : (arguments : List Arg) (end : List Token) (size : Option SizeWords) (alternatives : List Alternative) → behind_alternative end ≡ Some (rest_behind [] size alternatives)
      → behind_argument (flat_map (λ other. Comma ∷ argument_tokens grammar other) arguments ++ CloseBracket ∷ end) ≡ Some (rest_behind (map (spelled_argument grammar) arguments) size alternatives)
  further_back [] end size alternatives closed = closed
  further_back (argument ∷ arguments) end size alternatives closed =
      ap arguments_of (append_assoc (argument_tokens grammar argument) (flat_map (λ other. Comma ∷ argument_tokens grammar other) arguments) (CloseBracket ∷ end))
      ∙ argument_back argument (flat_map (λ other. Comma ∷ argument_tokens grammar other) arguments ++ CloseBracket ∷ end)
      ∙ ap (with_argument (spelled_argument grammar argument)) (further_back arguments end size alternatives closed)

  arguments_back : (arguments : List Arg) (end : List Token) (size : Option SizeWords) (alternatives : List Alternative) → 1 ≤ length arguments
      → behind_alternative end ≡ Some (rest_behind [] size alternatives)
      → arguments_of (arguments_tokens grammar arguments ++ end) ≡ Some (rest_behind (map (spelled_argument grammar) arguments) size alternatives)
  arguments_back [] end size alternatives some closed = absurd (omega arith)
  arguments_back (argument ∷ arguments) end size alternatives some closed =
      let said : (argument_tokens grammar argument ++ (flat_map (λ other. Comma ∷ argument_tokens grammar other) arguments ++ CloseBracket ∷ [])) ++ end
      ≡ argument_tokens grammar argument ++ (flat_map (λ other. Comma ∷ argument_tokens grammar other) arguments ++ CloseBracket ∷ end) = simp append_assoc in
      ap arguments_of said
      ∙ argument_back argument (flat_map (λ other. Comma ∷ argument_tokens grammar other) arguments ++ CloseBracket ∷ end)
      ∙ ap (with_argument (spelled_argument grammar argument)) (further_back arguments end size alternatives closed)

  bounds_last : (low : ℕ) (high : Option ℕ)
      → behind_alternative (size_tokens (Some (record { low = low; high = high })) ++ []) ≡ Some (rest_behind [] (Some (record { low = decimal low; high = option_map decimal high })) [])
  bounds_last low None = refl
  bounds_last low (Some high) = refl

  size_last : (size : Option Size) → behind_alternative (size_tokens size ++ []) ≡ Some (rest_behind [] (option_map spelled_size size) [])
  size_last None = refl
  size_last (Some size) = bounds_last size.low size.high

  bounds_before : (low : ℕ) (high : Option ℕ) (more : List Token)
      → behind_alternative (size_tokens (Some (record { low = low; high = high })) ++ Bar ∷ more)
      ≡ at_close (Some (record { low = decimal low; high = option_map decimal high })) (alternatives_of more)
  bounds_before low None more = refl
  bounds_before low (Some high) more = refl

  size_before : (size : Option Size) (more : List Token) → behind_alternative (size_tokens size ++ Bar ∷ more) ≡ at_close (option_map spelled_size size) (alternatives_of more)
  size_before None more = refl
  size_before (Some size) more = bounds_before size.low size.high more

  alternatives_back : (alternative : Alt) (alternatives : List Alt) → AllByRecursion (IsAlternative grammar) (alternative ∷ alternatives)
      → alternatives_of (alternatives_tokens grammar (alternative ∷ alternatives)) ≡ Some (map (spelled_alternative grammar) (alternative ∷ alternatives))
  alternatives_back alternative [] are =
      let size = size_tokens alternative.size in
      let said : (arguments_tokens grammar alternative.args ++ size) ++ [] ≡ arguments_tokens grammar alternative.args ++ (size ++ []) =
      append_assoc (arguments_tokens grammar alternative.args) size [] in
      rw (said, arguments_back alternative.args (size ++ []) (option_map spelled_size alternative.size) [] are.0.some (size_last alternative.size)) refl
  alternatives_back alternative (next ∷ alternatives) are =
      let size = size_tokens alternative.size in
      let behind : List Token = Bar ∷ alternatives_tokens grammar (next ∷ alternatives) in
      let said : (arguments_tokens grammar alternative.args ++ size) ++ behind ≡ arguments_tokens grammar alternative.args ++ (size ++ behind) =
      append_assoc (arguments_tokens grammar alternative.args) size behind in
      let others = alternatives_back next alternatives are.1 in
      let spelled = map (spelled_alternative grammar) (next ∷ alternatives) in
      let closed : behind_alternative (size ++ behind) ≡ Some (rest_behind [] (option_map spelled_size alternative.size) spelled) =
      size_before alternative.size (alternatives_tokens grammar (next ∷ alternatives)) ∙ ap (at_close (option_map spelled_size alternative.size)) others in
      rw (said, arguments_back alternative.args (size ++ behind) (option_map spelled_size alternative.size) spelled are.0.some closed) refl

  some_alternatives_back : (alternatives : List Alt) → 1 ≤ length alternatives → AllByRecursion (IsAlternative grammar) alternatives
      → alternatives_of (alternatives_tokens grammar alternatives) ≡ Some (map (spelled_alternative grammar) alternatives)
  some_alternatives_back [] some are = absurd (omega arith)
  some_alternatives_back (alternative ∷ alternatives) some are = alternatives_back alternative alternatives are

  unsized_back : (alternatives : List Alt) → list_all (λ (alternative : Alternative). is_none alternative.size) (map (spelled_alternative grammar) alternatives) ≡ list_all has_no_size alternatives
  unsized_back [] = refl
  unsized_back (alternative ∷ alternatives) = rw (spelled_none alternative.size, unsized_back alternatives) refl

  -- the format has sizes, or none is spelled
  sizes_allowed : (version : ℕ) (alternatives : List Alt) → (is_second version || list_all has_no_size alternatives) ≡ true
      → allowed version (map (spelled_alternative grammar) alternatives) ≡ Some (map (spelled_alternative grammar) alternatives)
  sizes_allowed version alternatives h = rw (unsized_back alternatives, h) refl

  -- ---- bytes

  argument_prints : (argument : Arg) → IsSpellable grammar argument → Prints (argument_text grammar argument)
  argument_prints (args.Rule rule) is = word_prints (rule_name grammar rule) (name_is_word _ is)
  argument_prints (args.Literal text) is = quoted_prints text is
  argument_prints (args.Letter class) is =
      prints-append (prints-append (literal_prints (codes "[") refl) (word_prints (class_name grammar class) (name_is_word _ is))) (literal_prints (codes "]") refl)
  argument_prints (args.Run class low None) is =
      let small = is.1 in
      prints-append (prints-append (prints-append (prints-append (prints-append (prints-append
      (literal_prints (codes "[") refl) (word_prints (class_name grammar class) (name_is_word _ is.0))) (literal_prints (codes " ") refl)) (decimal_prints low (omega arith)))
      (literal_prints (codes "..") refl)) (literal_prints [] refl)) (literal_prints (codes "]") refl)
  argument_prints (args.Run class low (Some high)) is =
      let small = is.1 in
      let small_high = is.2.1 in
      prints-append (prints-append (prints-append (prints-append (prints-append (prints-append
      (literal_prints (codes "[") refl) (word_prints (class_name grammar class) (name_is_word _ is.0))) (literal_prints (codes " ") refl)) (decimal_prints low (omega arith)))
      (literal_prints (codes "..") refl)) (decimal_prints high (omega arith))) (literal_prints (codes "]") refl)

  arguments_print : (arguments : List Arg) → AllByRecursion (IsSpellable grammar) arguments → AllByRecursion (λ argument. Prints (argument_text grammar argument)) arguments
  arguments_print [] are = tt
  arguments_print (argument ∷ arguments) are = (argument_prints argument are.0, arguments_print arguments are.1)

  high_prints : (low : ℕ) (high : Option ℕ) → IsHigh low high → Prints (high_text high)
  high_prints low None is = literal_prints [] refl
  high_prints low (Some high) is = let small = is.1 in decimal_prints high (omega arith)

  size_prints : (size : Option Size) → IsSize size → Prints (size_text size)
  size_prints None is = literal_prints [] refl
  size_prints (Some size) is =
      let small = is.0 in
      prints-append (prints-append (prints-append (literal_prints (codes " with size ") refl) (decimal_prints size.low (omega arith))) (literal_prints (codes "..") refl))
      (high_prints size.low size.high is.1)

  alternative_prints : (alternative : Alt) → IsAlternative grammar alternative → Prints (alternative_text grammar alternative)
  alternative_prints alternative is =
      prints-append
      (prints-append
      (prints-append (prints-append (word_prints (sign_at grammar alternative.sign).name (name_is_word _ is.named)) (literal_prints (codes "(") refl))
      (prints_joined (argument_text grammar) (codes ", ") (literal_prints (codes ", ") refl) alternative.args (arguments_print alternative.args is.spellable)))
      (literal_prints (codes ")") refl))
      (size_prints alternative.size is.bounded)

  alternatives_print : (alternatives : List Alt) → AllByRecursion (IsAlternative grammar) alternatives → AllByRecursion (λ alternative. Prints (alternative_text grammar alternative)) alternatives
  alternatives_print [] are = tt
  alternatives_print (alternative ∷ alternatives) are = (alternative_prints alternative are.0, alternatives_print alternatives are.1)

  rule_prints : (rule : rules.Rule) → IsRule grammar rule → Prints (rule_content grammar rule)
  rule_prints rule is =
      prints-append (prints-append (prints-append (literal_prints (codes "rule ") refl) (word_prints rule.name (name_is_word _ is.named))) (literal_prints (codes " = ") refl))
      (prints_joined (alternative_text grammar) (codes " | ") (literal_prints (codes " | ") refl) rule.alts (alternatives_print rule.alts is.each))

  pub rule_line_declares : (laws : TokenLaws) (version : ℕ) (rule : rules.Rule) → IsRule grammar rule → sizes_stand version rule ≡ true
      → Declares version (rule_content grammar rule) (rule_declaration grammar rule)
  rule_line_declares laws version rule is sized =
      let prints = rule_prints rule is in
      let reads = rule_reads laws grammar rule is in
      record {
        printable = prints.all;
        says = says_declaration version (rule_content grammar rule) _ (rule_declaration grammar rule) refl prints.all reads
            (rw (some_alternatives_back rule.alts is.some is.each, sizes_allowed version rule.alts sized) refl);
        other = rw reads.are refl;
      }
