-- The rules that the lines of hidden rules declare are the last ones of the grammar.
use Rattle.std.proofs.Common.{◌≡◌, ℕ, suc, ◌+◌, ◌-◌, ◌<◌, ◌≤◌, Bool, true, false, cond, codes, nat_le, nat_lt, Some, None, IsTrue, List, [], ◌∷◌, ◌++◌, length, map, drop, slice_index_or, refl, sym, ◌∙◌, ap, subst, arith, append_assoc, append-nil, length-append}
use Rattle.std.specs.List.{list_all, filter_map, AllByRecursion}
use Rattle.std.specs.Option.{option_map}
use Rattle.std.proofs.lemmas.Bool.{and_parts, ltb-true, leb-true}
use Rattle.std.proofs.lemmas.List.{map-append, get_or-append_right, length-map}
use Rattle.std.proofs.lemmas.List.Elements.{filter_map-append, All-from_recursion}
use Rattle.adp_model.specs.Printable.{is_printable_byte}
use Rattle.adp_model.specs.declared.grammar.Alt.{Alt}
use Rattle.adp_model.specs.declared.grammar.Rule as rules
use Rattle.adp_model.specs.declared.grammar.Grammar.{Grammar}
use Rattle.adp_model.specs.declared.job.Job.{Job}
use Rattle.adp_model.specs.Parts.{rule_at}
use Rattle.job_texts.specs.JobLines.{header_of, is_skipped, is_words_line, job_lines, line_at, up_to_words_line}
use Rattle.job_texts.specs.Declarations.{Declaration, HeaderLine, header_line}
use Rattle.job_texts.specs.DeclaredNames.{declarations, form_of}
use Rattle.job_texts.specs.JobText.{alternative_of, declared_grammar, declared_rule, first_fault, size_of}
use Rattle.nested_texts.specs.NestedRules.{nested_in}
use Rattle.nested_texts.specs.PlainTexts.{PlainLine, before_words, changed_lines, from_words, hidden_count, hidden_lines, hidden_rules, is_third_format, kept_lines, line_of, plain_behind, plain_lines}
use Rattle.nested_trees.specs.HiddenRules.{AreNestedAlternatives, is_hidden}
use Rattle.nested_jobs.specs.NestedJob.{IsNestedText, hidden_in}
use Rattle.nested_jobs.proofs.Verdicts.{kept_bytes, lined}
use Rattle.nested_jobs.proofs.SingleRules.{IsFine, IsQuietRule, SaysSingle, single_line}
use Rattle.nested_jobs.proofs.FirstLetters.{begins_rule, words_tokens}
use Rattle.nested_jobs.proofs.HiddenLines.{line_other, rules_close}
use Rattle.nested_jobs.proofs.FineLines.{accepted, fine_header}

-- ---- the rules of lines

abbrev rules_of : List Declaration → List (List ℕ) → List rules.Rule
rules_of declared lines = filter_map (declared_rule declared) (filter_map form_of (map (header_line 2) lines))

rules-append : (declared : List Declaration) (xs ys : List (List ℕ))
    → rules_of declared (xs ++ ys) ≡ rules_of declared xs ++ rules_of declared ys
rules-append declared xs ys =
    ap (λ (lines : List HeaderLine). filter_map (declared_rule declared) (filter_map form_of lines))
    (map-append (header_line 2) xs ys)
    ∙ ap (filter_map (declared_rule declared))
    (filter_map-append form_of (map (header_line 2) xs) (map (header_line 2) ys))
    ∙ filter_map-append (declared_rule declared) (filter_map form_of (map (header_line 2) xs))
    (filter_map form_of (map (header_line 2) ys))

abbrev no_alternative : Alt
no_alternative = record { sign = 0; args = []; size = None }

-- a rule has one alternative, without a size
record IsOne (rule : rules.Rule) : Type 0 where
  one : length rule.alts ≡ 1
  unsized : (slice_index_or rule.alts 0 no_alternative).size ≡ None

-- the rule that such a line declares
abbrev single_rule : {found : HeaderLine} → List Declaration → SaysSingle found → rules.Rule
single_rule declared single =
    record { name = single.single.name; alts = alternative_of declared single.single.alternative ∷ [] }

single_first : (declared : List Declaration) (found : HeaderLine) (others : List HeaderLine)
    → (single : SaysSingle found) → filter_map (declared_rule declared) (filter_map form_of (found ∷ others))
    ≡ single_rule declared single ∷ filter_map (declared_rule declared) (filter_map form_of others)
single_first declared found others single = rw (single.says, single.single.is) refl

-- as many rules as lines, each with one alternative
record AreOnes (count : ℕ) (found : List rules.Rule) : Type 0 where
  many : length found ≡ count
  ones : AllByRecursion IsOne found

one_rules : (declared : List Declaration) (lines : List (List ℕ)) → AllByRecursion IsQuietRule lines
    → AllByRecursion (λ (line : List ℕ). IsFine (header_line 2 line)) lines
    → AreOnes (length lines) (rules_of declared lines)
one_rules declared [] quiet fine = record { many = refl; ones = tt }
one_rules declared (line ∷ lines) quiet fine =
    let single = single_line line quiet.0 fine.0 in
    let rest = one_rules declared lines quiet.1 fine.1 in
    let is = single_first declared (header_line 2 line) (map (header_line 2) lines) single in
    let first : IsOne (single_rule declared single) = record {
      one = refl;
      unsized = ap
          (option_map size_of) single.single.unsized;
    } in
    subst (AreOnes (suc (length lines))) (sym is) (record { many = ap suc rest.many; ones = (first, rest.ones) })

-- the `words` line declares no rule
words_header : (line : List ℕ) (declared : List Declaration) (others : List HeaderLine) → is_words_line line ≡ true
    → filter_map (declared_rule declared) (filter_map form_of (header_line 2 line ∷ others)) ≡ filter_map
    (declared_rule declared) (filter_map form_of others)
words_header line declared others h = by_skipped (is_skipped line) refl (list_all is_printable_byte line) refl
  where
    by_skipped : (skipped : Bool) → is_skipped line ≡ skipped → (printable : Bool)
        → list_all is_printable_byte line ≡ printable
        → filter_map (declared_rule declared) (filter_map form_of (header_line 2 line ∷ others)) ≡ filter_map
        (declared_rule declared) (filter_map form_of others)
    by_skipped true s printable p = rw s refl
    by_skipped false s false p = rw (s, p) refl
    by_skipped false s true p = rw (s, p, words_tokens line h) refl

words_rules : (declared : List Declaration) (lines : List (List ℕ))
    → AllByRecursion (λ (line : List ℕ). is_words_line line ≡ true) lines → rules_of declared lines ≡ []
words_rules declared [] words = refl
words_rules declared (line ∷ lines) words =
    words_header line declared (map (header_line 2) lines) words.0 ∙ words_rules declared lines words.1

-- the last rules are hidden
last_hidden : (grammar : Grammar) (front last : List rules.Rule) (hidden : ℕ) → grammar.rules ≡ front ++ last
    → AreOnes hidden last → AreNestedAlternatives grammar hidden
last_hidden grammar front last hidden e are =
    record { one = λ rule h. (own rule h).one; unsized = λ rule h. (own rule h).unsized }
  where
    own : (rule : ℕ) → IsTrue (is_hidden grammar hidden rule) → IsOne (rule_at grammar rule)
    own rule h =
        let parts = and_parts (nat_lt rule (length grammar.rules)) (nat_le (length grammar.rules) (rule + hidden)) h in
        let below : rule < length grammar.rules = ltb-true rule (length grammar.rules) parts.0 in
        let behind : length grammar.rules ≤ rule + hidden = leb-true (length grammar.rules) (rule + hidden) parts.1 in
        let long : length grammar.rules ≡ length front + length last = ap length e ∙ length-append front last in
        let none : rules.Rule = record { name = []; alts = [] } in
        let from : length front ≤ rule = omega (arith, are.many) in
        let is : rule_at grammar rule ≡ slice_index_or last (rule - length front) none =
        ap (λ (those : List rules.Rule). slice_index_or those rule none) e
        ∙ get_or-append_right front last (length front) rule none refl from in
        subst IsOne (sym is) (All-from_recursion IsOne last are.ones (rule - length front) none (omega arith))

-- ---- the lines of a plain text

abbrev bytes_of : List PlainLine → List (List ℕ)
bytes_of lines = map (λ (line : PlainLine). line.bytes) lines

abbrev IsOther : List ℕ → Type 0
IsOther line = is_words_line line ≡ false

others_before : (lines : List (List ℕ)) → AllByRecursion IsOther (before_words lines)
others_before [] = tt
others_before (line ∷ lines) = step (is_words_line line) refl (others_before lines)
  where
    step : (words : Bool) → is_words_line line ≡ words → AllByRecursion IsOther (before_words lines)
        → AllByRecursion IsOther (before_words (line ∷ lines))
    step true e rest = rw e tt
    step false e rest = rw e (e, rest)

changed_others : (place number : ℕ) (lines : List (List ℕ)) → AllByRecursion IsOther lines
    → AllByRecursion IsOther (bytes_of (changed_lines place number lines))
changed_others place number [] others = tt
changed_others place number (line ∷ lines) others =
    (line_other line number others.0, changed_others (place + 1) (number + length (nested_in line)) lines others.1)

all-append : {X : Type 0} (P : X → Type 0) (xs ys : List X) → AllByRecursion P xs → AllByRecursion P ys
    → AllByRecursion P (xs ++ ys)
all-append P [] ys first second = second
all-append P (x ∷ xs) ys first second = (first.0, all-append P xs ys first.1 second)

all_behind : {X : Type 0} (P : X → Type 0) (xs ys : List X) → AllByRecursion P (xs ++ ys) → AllByRecursion P ys
all_behind P [] ys all = all
all_behind P (x ∷ xs) ys all = all_behind P xs ys all.1

all_before : {X : Type 0} (P : X → Type 0) (xs ys : List X) → AllByRecursion P (xs ++ ys) → AllByRecursion P xs
all_before P [] ys all = tt
all_before P (x ∷ xs) ys all = (all.0, all_before P xs ys all.1)

lines_bytes : (place : ℕ) (lines : List (List ℕ)) → bytes_of (map (line_of place) lines) ≡ lines
lines_bytes place [] = refl
lines_bytes place (line ∷ lines) = ap (λ (others : List (List ℕ)). line ∷ others) (lines_bytes place lines)

hidden_quiet : (place number : ℕ) (lines : List (List ℕ))
    → AllByRecursion IsQuietRule (bytes_of (hidden_lines place number lines))
hidden_quiet place number [] = tt
hidden_quiet place number (line ∷ lines) =
    let own = map (line_of place) (hidden_rules line number (nested_in line)) in
    let rest = hidden_lines (place + 1) (number + length (nested_in line)) lines in
    subst (AllByRecursion IsQuietRule) (sym (map-append (λ (line : PlainLine). line.bytes) own rest))
    (all-append IsQuietRule (bytes_of own) (bytes_of rest)
    (subst (AllByRecursion IsQuietRule) (sym (lines_bytes place (hidden_rules line number (nested_in line))))
    (rules_close line number))
    (hidden_quiet (place + 1) (number + length (nested_in line)) lines))

quiet_others : (lines : List (List ℕ)) → AllByRecursion IsQuietRule lines → AllByRecursion IsOther lines
quiet_others [] quiet = tt
quiet_others (line ∷ lines) quiet =
    (ap is_words_line quiet.0.begins ∙ begins_rule (codes "rule " ++ quiet.0.rest) refl, quiet_others lines quiet.1)

-- the header goes on behind lines that are no `words` line
up_to_behind : (xs ys : List (List ℕ)) → AllByRecursion IsOther xs
    → up_to_words_line (xs ++ ys) ≡ xs ++ up_to_words_line ys
up_to_behind [] ys others = refl
up_to_behind (line ∷ xs) ys others = rw (others.0, up_to_behind xs ys others.1) refl

words_alone : (lines : List (List ℕ))
    → AllByRecursion (λ (line : List ℕ). is_words_line line ≡ true) (up_to_words_line (from_words lines))
words_alone [] = tt
words_alone (line ∷ lines) = step (is_words_line line) refl (words_alone lines)
  where
    step : (words : Bool) → is_words_line line ≡ words
        → AllByRecursion (λ (line : List ℕ). is_words_line line ≡ true) (up_to_words_line (from_words lines))
        → AllByRecursion (λ (line : List ℕ). is_words_line line ≡ true) (up_to_words_line (from_words (line ∷ lines)))
    step true e rest =
        subst (λ (those : List (List ℕ)). AllByRecursion (λ (line : List ℕ). is_words_line line ≡ true)
        (up_to_words_line those)) (sym from)
        (subst (AllByRecursion (λ (line : List ℕ). is_words_line line ≡ true)) (sym alone) (e, tt))
      where
        from : from_words (line ∷ lines) ≡ line ∷ lines
        from = rw e refl

        alone : up_to_words_line (line ∷ lines) ≡ line ∷ []
        alone = rw e refl
    step false e rest =
        subst (λ (those : List (List ℕ)). AllByRecursion (λ (line : List ℕ). is_words_line line ≡ true)
        (up_to_words_line those)) (sym from) rest
      where
        from : from_words (line ∷ lines) ≡ from_words lines
        from = rw e refl

-- a text whose lines are these: line 1 of the second format, header lines with hidden names, those of hidden rules, and
-- those from the `words` line on
module _ (changed hidden kept : List (List ℕ)) (others : AllByRecursion IsOther changed)
    (quiet : AllByRecursion IsQuietRule hidden)
    (words : AllByRecursion (λ (line : List ℕ). is_words_line line ≡ true) (up_to_words_line kept))
  where
    abbrev all_lines : List (List ℕ)
    all_lines = codes "adp 2" ∷ (changed ++ (hidden ++ kept))

    header : header_of all_lines ≡ changed ++ (hidden ++ up_to_words_line kept)
    header =
        up_to_behind changed (hidden ++ kept) others
        ∙ ap (λ (those : List (List ℕ)). changed ++ those) (up_to_behind hidden kept (quiet_others hidden quiet))

    nested_alternatives : first_fault (lined all_lines) ≡ None
        → AreNestedAlternatives (declared_grammar (declarations (lined all_lines))) (length hidden)
    nested_alternatives faultless =
        let declared = declarations (lined all_lines) in
        let fine =
        subst (AllByRecursion (λ (line : List ℕ). IsFine (header_line 2 line))) header
        (fine_header all_lines faultless) in
        let own = all_before (λ (line : List ℕ). IsFine (header_line 2 line)) hidden (up_to_words_line kept)
        (all_behind (λ (line : List ℕ). IsFine (header_line 2 line)) changed (hidden ++ up_to_words_line kept) fine) in
        let all : (declared_grammar declared).rules ≡ rules_of declared changed ++ rules_of declared hidden =
        ap (rules_of declared) header ∙ rules-append declared changed (hidden ++ up_to_words_line kept)
        ∙ ap (λ (those : List rules.Rule). rules_of declared changed ++ those)
        (rules-append declared hidden (up_to_words_line kept)
        ∙ ap (λ (those : List rules.Rule). rules_of declared hidden ++ those)
        (words_rules declared (up_to_words_line kept) words)
        ∙ append-nil (rules_of declared hidden)) in
        last_hidden (declared_grammar declared) (rules_of declared changed) (rules_of declared hidden)
        (length hidden) all (one_rules declared hidden quiet own)

-- ---- texts

some_third : (third : Bool) (count hidden : ℕ) → cond third (Some count) None ≡ Some hidden
    → (third ≡ true) × (count ≡ hidden)
some_third true count hidden e = (refl, cc)
some_third false count hidden e = absurd cc

plain_bytes : (changed hidden kept : List PlainLine) (words : List (List ℕ)) → bytes_of kept ≡ words
    → bytes_of (line_of 1 (codes "adp 2") ∷ changed ++ hidden ++ kept) ≡ codes "adp 2" ∷
    (bytes_of changed ++ (bytes_of hidden ++ words))
plain_bytes changed hidden kept words e =
    let bytes = λ (line : PlainLine). line.bytes in
    ap (λ (others : List (List ℕ)). codes "adp 2" ∷ others)
    (map-append bytes (changed ++ hidden) kept
    ∙ ap (λ (those : List (List ℕ)). those ++ bytes_of kept) (map-append bytes changed hidden)
    ∙ append_assoc (bytes_of changed) (bytes_of hidden) (bytes_of kept)
    ∙ ap (λ (those : List (List ℕ)). bytes_of changed ++ (bytes_of hidden ++ those)) e)

plain_third : (lines : List (List ℕ)) → is_third_format (line_at lines 1) ≡ true
    → (plain_lines lines ≡ plain_behind (drop 1 lines)) ×
    (hidden_count lines ≡ length (hidden_lines 2 1 (before_words (drop 1 lines))))
plain_third lines third = (rw third refl, rw third refl)

-- the hidden rules of an accepted text are nested alternatives
pub hidden_are_nested : (bytes : List ℕ) (job : Job) (hidden : ℕ) → IsNestedText bytes job
    → hidden_in bytes ≡ Some hidden → AreNestedAlternatives job.grammar hidden
hidden_are_nested bytes job hidden spelled h =
    let lines = job_lines bytes in
    let before = before_words (drop 1 lines) in
    let third = some_third (is_third_format (line_at lines 1)) (hidden_count lines) hidden h in
    let plain = plain_third lines third.0 in
    let changed = bytes_of (changed_lines 2 1 before) in
    let rules = bytes_of (hidden_lines 2 1 before) in
    let kept = from_words (drop 1 lines) in
    let are : job_lines spelled.0 ≡ codes "adp 2" ∷ (changed ++ (rules ++ kept)) =
    spelled.1 ∙ ap bytes_of plain.0
    ∙ plain_bytes (changed_lines 2 1 before) (hidden_lines 2 1 before) (kept_lines (2 + length before) kept) kept
    (kept_bytes (2 + length before) kept) in
    let count : length rules ≡ hidden =
    length-map (hidden_lines 2 1 before) (λ (line : PlainLine). line.bytes) ∙ sym plain.1 ∙ third.1 in
    let is = accepted spelled.0 job spelled.2 in
    let found = nested_alternatives changed rules kept (changed_others 2 1 before (others_before (drop 1 lines)))
    (hidden_quiet 2 1 before) (words_alone (drop 1 lines))
    (subst (λ (lines : List (List ℕ)). first_fault (lined lines) ≡ None) are is.faultless) in
    let grammar = is.grammar ∙ ap (λ (lines : List (List ℕ)). declared_grammar (declarations (lined lines))) are in
    subst (AreNestedAlternatives job.grammar) count
    (subst (λ (grammar : Grammar). AreNestedAlternatives grammar (length rules)) (sym grammar) found)
