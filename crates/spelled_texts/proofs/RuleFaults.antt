-- No kind of fault stands at the spelled lines of rules.
use Rattle.std.proofs.Common.{◌≡◌, ℕ, ◌+◌, ◌≤◌, Bool, true, false, ◌==◌, Option, Some, None, is_some, List, [], ◌∷◌, ◌++◌, length, map, refl, sym, ◌∙◌, eq-eqb}
use Rattle.std.specs.List.{list_all, list_any, flat_map, zip, AllByRecursion}
use Rattle.std.specs.Option.{option_map, option_map_or}
use Rattle.std.specs.Fmt.{decimal}
use Rattle.std.proofs.lemmas.Bool.{and_parts, or_from, le-ltb}
use Rattle.std.proofs.lemmas.List.{length-map}
use Rattle.std.proofs.lemmas.List.Folds.{list_all-append}
use Rattle.adp_model.specs.declared.grammar.Kind.{Kind}
use Rattle.adp_model.specs.declared.grammar.Kind.TheVariants as kinds
use Rattle.adp_model.specs.declared.grammar.Arg.{Arg}
use Rattle.adp_model.specs.declared.grammar.Arg.TheVariants as args
use Rattle.adp_model.specs.declared.grammar.Alt.{Alt}
use Rattle.adp_model.specs.declared.grammar.Size.{Size}
use Rattle.adp_model.specs.declared.grammar.Rule as rules
use Rattle.adp_model.specs.declared.grammar.Grammar.{Grammar}
use Rattle.adp_model.specs.Parts.{sign_at}
use Rattle.adp_model.specs.WellFormed.{is_name, is_sign, is_argument, is_rule}
use Rattle.job_texts.specs.Declarations.{SizeWords, Declaration}
use Rattle.job_texts.specs.DeclaredNames.{rule_name_of, rule_names}
use Rattle.job_texts.specs.TextFaults.{bound_of, argument_names, alternative_names, argument_bounds, alternative_bounds, is_unknown_argument, is_unknown_alternative, fits_kind, fits_sign, is_crossed_alternative, are_crossed, has_crossed_bounds, size_bounds}
use Rattle.spelled_texts.proofs.Numbers.{bound_of_decimal}
use Rattle.spelled_texts.proofs.Contents.{spelled_argument, spelled_size, spelled_alternative, rule_declaration}
use Rattle.spelled_texts.proofs.SignLines.{sign_parts}
use Rattle.spelled_texts.proofs.RuleLines.{IsHigh, IsSize}
use Rattle.spelled_texts.proofs.GrammarParts.{IsFormed, IsArgument, Fits, FitsRule, rule_fits, rule_named, class_named, kept_in, name_of_rule}
use Rattle.spelled_texts.proofs.Sorted.{all_declarations}
use Rattle.spelled_texts.proofs.DeclaredSigns.{class_declared, rule_declared, sign_declared}
use Rattle.spelled_texts.proofs.Faultless.{IsFaultless, AreFaultless}
use Rattle.spelled_texts.proofs.FreshNames.{IsFresh, AreFresh, first_fresh, others_fresh}

-- ---- tests of lists

all_pass : {W X : Type 0} (test : X → Bool) (declare : W → X) (ws : List W) → AllByRecursion (λ w. test (declare w) ≡ true) ws → list_all test (map declare ws) ≡ true
all_pass test declare [] h = refl
all_pass test declare (w ∷ ws) h = rw (h.0, all_pass test declare ws h.1) refl

pub none_passes : {W X : Type 0} (test : X → Bool) (declare : W → X) (ws : List W) → AllByRecursion (λ w. test (declare w) ≡ false) ws → list_any test (map declare ws) ≡ false
none_passes test declare [] h = refl
none_passes test declare (w ∷ ws) h = rw (h.0, none_passes test declare ws h.1) refl

all_parts_pass : {W X Y : Type 0} (test : Y → Bool) (parts : X → List Y) (declare : W → X) (ws : List W) → AllByRecursion (λ w. list_all test (parts (declare w)) ≡ true) ws
    → list_all test (flat_map parts (map declare ws)) ≡ true
all_parts_pass test parts declare [] h = refl
all_parts_pass test parts declare (w ∷ ws) h =
    list_all-append test (parts (declare w)) (flat_map parts (map declare ws)) ∙ rw (h.0, all_parts_pass test parts declare ws h.1) refl

pub each_so : {W : Type 0} (P Q : W → Type 0) → ((w : W) → P w → Q w) → (ws : List W) → AllByRecursion P ws → AllByRecursion Q ws
each_so P Q so [] h = tt
each_so P Q so (w ∷ ws) h = (so w h.0, each_so P Q so ws h.1)

-- ---- kinds

fits_its_kind : (grammar : Grammar) (kind : Kind) (argument : Arg) → is_argument grammar (kind, argument) ≡ true → fits_kind (kind, spelled_argument grammar argument) ≡ true
fits_its_kind grammar kinds.Score (args.Rule rule) h = refl
fits_its_kind grammar kinds.Score (args.Literal text) h = absurd cc
fits_its_kind grammar kinds.Score (args.Letter class) h = absurd cc
fits_its_kind grammar kinds.Score (args.Run class low high) h = absurd cc
fits_its_kind grammar kinds.Token (args.Rule rule) h = absurd cc
fits_its_kind grammar kinds.Token (args.Literal text) h = refl
fits_its_kind grammar kinds.Token (args.Letter class) h = refl
fits_its_kind grammar kinds.Token (args.Run class low high) h = refl

fit_their_kinds : (grammar : Grammar) (kinds : List Kind) (arguments : List Arg) → list_all (is_argument grammar) (zip kinds arguments) ≡ true
    → list_all fits_kind (zip kinds (map (spelled_argument grammar) arguments)) ≡ true
fit_their_kinds grammar [] arguments h = refl
fit_their_kinds grammar (kind ∷ kinds) [] h = refl
fit_their_kinds grammar (kind ∷ kinds) (argument ∷ arguments) h =
    let parts = and_parts (is_argument grammar (kind, argument)) (list_all (is_argument grammar) (zip kinds arguments)) h in
    rw (fits_its_kind grammar kind argument parts.0, fit_their_kinds grammar kinds arguments parts.1) refl

abbrev is_bound : List ℕ → Bool
is_bound word = is_some (bound_of word)

-- ---- sizes

abbrev words_of_bounds : ℕ → Option ℕ → SizeWords
words_of_bounds low high = record { low = decimal low; high = option_map decimal high }

bounds_bounded : (low : ℕ) (high : Option ℕ) → low ≤ 1000000 → IsHigh low high → list_all is_bound (size_bounds (Some (words_of_bounds low high))) ≡ true
bounds_bounded low None small is = rw (bound_of_decimal low small) refl
bounds_bounded low (Some high) small is = rw (bound_of_decimal low small, bound_of_decimal high is.1) refl

size_bounded : (size : Option Size) → IsSize size → list_all is_bound (size_bounds (option_map spelled_size size)) ≡ true
size_bounded None is = refl
size_bounded (Some size) is = bounds_bounded size.low size.high is.0 is.1

bounds_uncrossed : (low : ℕ) (high : Option ℕ) → low ≤ 1000000 → IsHigh low high → are_crossed (decimal low) (option_map decimal high) ≡ false
bounds_uncrossed low None small is = refl
bounds_uncrossed low (Some high) small is = rw (bound_of_decimal low small, bound_of_decimal high is.1, le-ltb high low is.0) refl

size_uncrossed : (size : Option Size) → IsSize size → option_map_or (λ (words : SizeWords). are_crossed words.low words.high) (option_map spelled_size size) false ≡ false
size_uncrossed None is = refl
size_uncrossed (Some size) is = bounds_uncrossed size.low size.high is.0 is.1

module _ (grammar : Grammar) (formed : IsFormed grammar) where
  -- ---- arguments

  argument_named : (argument : Arg) → IsArgument grammar argument → list_all is_name (argument_names (spelled_argument grammar argument)) ≡ true
  argument_named (args.Rule rule) is = rw (rule_named grammar formed rule is) refl
  argument_named (args.Literal text) is = refl
  argument_named (args.Letter class) is = rw (class_named grammar formed class is) refl
  argument_named (args.Run class low high) is = rw (class_named grammar formed class is.0) refl

  argument_bounded : (argument : Arg) → IsArgument grammar argument → list_all is_bound (argument_bounds (spelled_argument grammar argument)) ≡ true
  argument_bounded (args.Rule rule) is = refl
  argument_bounded (args.Literal text) is = refl
  argument_bounded (args.Letter class) is = refl
  argument_bounded (args.Run class low None) is = rw (bound_of_decimal low is.1) refl
  argument_bounded (args.Run class low (Some high)) is = rw (bound_of_decimal low is.1, bound_of_decimal high is.2.1) refl

  argument_known : (argument : Arg) → IsArgument grammar argument → is_unknown_argument (all_declarations grammar) (spelled_argument grammar argument) ≡ false
  argument_known (args.Rule rule) is = rw (rule_declared grammar formed rule is) refl
  argument_known (args.Literal text) is = refl
  argument_known (args.Letter class) is = rw (class_declared grammar formed class is) refl
  argument_known (args.Run class low high) is = rw (class_declared grammar formed class is.0) refl

  argument_uncrossed : (argument : Arg) → IsArgument grammar argument → has_crossed_bounds (spelled_argument grammar argument) ≡ false
  argument_uncrossed (args.Rule rule) is = refl
  argument_uncrossed (args.Literal text) is = refl
  argument_uncrossed (args.Letter class) is = refl
  argument_uncrossed (args.Run class low high) is = bounds_uncrossed low high is.1 is.2

  -- ---- alternatives

  alternative_named : (alternative : Alt) → Fits grammar alternative → list_all is_name (alternative_names (spelled_alternative grammar alternative)) ≡ true
  alternative_named alternative is =
      let sign = sign_parts (sign_at grammar alternative.sign) (kept_in is_sign grammar.signs alternative.sign (record { name = []; kinds = [] }) formed.signs is.known) in
      rw (
        sign.named,
        all_parts_pass is_name argument_names (spelled_argument grammar) alternative.args
            (each_so (IsArgument grammar) (λ (argument : Arg). list_all is_name (argument_names (spelled_argument grammar argument)) ≡ true) argument_named alternative.args is.arguments),
      ) refl

  alternative_bounded : (alternative : Alt) → Fits grammar alternative → list_all is_bound (alternative_bounds (spelled_alternative grammar alternative)) ≡ true
  alternative_bounded alternative is =
      let arguments = all_parts_pass is_bound argument_bounds (spelled_argument grammar) alternative.args
      (each_so (IsArgument grammar) (λ (argument : Arg). list_all is_bound (argument_bounds (spelled_argument grammar argument)) ≡ true) argument_bounded alternative.args is.arguments) in
      list_all-append is_bound (flat_map argument_bounds (map (spelled_argument grammar) alternative.args)) (size_bounds (option_map spelled_size alternative.size))
      ∙ rw (arguments, size_bounded alternative.size is.bounded) refl

  alternative_known : (alternative : Alt) → Fits grammar alternative → is_unknown_alternative (all_declarations grammar) (spelled_alternative grammar alternative) ≡ false
  alternative_known alternative is =
      rw (
        (sign_declared grammar formed alternative.sign is.known).among,
        none_passes (is_unknown_argument (all_declarations grammar)) (spelled_argument grammar) alternative.args
            (each_so (IsArgument grammar) (λ (argument : Arg). is_unknown_argument (all_declarations grammar) (spelled_argument grammar argument) ≡ false)
            argument_known alternative.args is.arguments),
      ) refl

  alternative_fits_sign : (alternative : Alt) → Fits grammar alternative → fits_sign (all_declarations grammar) (spelled_alternative grammar alternative) ≡ true
  alternative_fits_sign alternative is =
      let kinds = (sign_at grammar alternative.sign).kinds in
      let counted = is.counted in
      let as_many : (length kinds == length (map (spelled_argument grammar) alternative.args)) ≡ true = eq-eqb _ _ (simp length-map (sym counted)) in
      rw ((sign_declared grammar formed alternative.sign is.known).kinds, as_many, fit_their_kinds grammar kinds alternative.args is.fit) refl

  alternative_uncrossed : (alternative : Alt) → Fits grammar alternative → is_crossed_alternative (spelled_alternative grammar alternative) ≡ false
  alternative_uncrossed alternative is =
      let arguments = none_passes has_crossed_bounds (spelled_argument grammar) alternative.args
      (each_so (IsArgument grammar) (λ (argument : Arg). has_crossed_bounds (spelled_argument grammar argument) ≡ false) argument_uncrossed alternative.args is.arguments) in
      or_from _ _ arguments (size_uncrossed alternative.size is.bounded)

  -- ---- rules

  rule_faultless : (above below : List Declaration) (rule : rules.Rule) → FitsRule grammar rule → IsFresh (rule_names above) rule.name 128
      → IsFaultless (all_declarations grammar) above (rule_declaration grammar rule) below
  rule_faultless above below rule is fresh =
      let all = all_declarations grammar in
      let spell = spelled_alternative grammar in
      let few : length (map spell rule.alts) ≤ 64 = simp length-map is.few in
      let named = all_parts_pass is_name alternative_names spell rule.alts
      (each_so (Fits grammar) (λ (alternative : Alt). list_all is_name (alternative_names (spell alternative)) ≡ true) alternative_named rule.alts is.each) in
      let bounded = all_parts_pass is_bound alternative_bounds spell rule.alts
      (each_so (Fits grammar) (λ (alternative : Alt). list_all is_bound (alternative_bounds (spell alternative)) ≡ true) alternative_bounded rule.alts is.each) in
      let known = none_passes (is_unknown_alternative all) spell rule.alts
      (each_so (Fits grammar) (λ (alternative : Alt). is_unknown_alternative all (spell alternative) ≡ false) alternative_known rule.alts is.each) in
      let fit = all_pass (fits_sign all) spell rule.alts
      (each_so (Fits grammar) (λ (alternative : Alt). fits_sign all (spell alternative) ≡ true) alternative_fits_sign rule.alts is.each) in
      let uncrossed = none_passes is_crossed_alternative spell rule.alts
      (each_so (Fits grammar) (λ (alternative : Alt). is_crossed_alternative (spell alternative) ≡ false) alternative_uncrossed rule.alts is.each) in
      record {
        named = rw (is.named, named) refl;
        numbered = rw bounded refl;
        fresh = fresh.other;
        lettered = refl;
        placed = refl;
        one_axiom = refl;
        known = known;
        fit = rw fit refl;
        uncrossed = uncrossed;
        complete = refl;
        counted = rw (le-ltb 128 (length (rule_names above) + 1) fresh.few, le-ltb 64 (length (map spell rule.alts)) few) refl;
        once = refl;
      }

  pub rules_faultless : (above : List Declaration) (rules : List rules.Rule) (tail : List Declaration) → list_all (is_rule grammar) rules ≡ true
      → AreFresh (rule_names above) (map name_of_rule rules) 128 → AreFaultless (all_declarations grammar) above (map (rule_declaration grammar) rules) tail
  rules_faultless above [] tail h fresh = tt
  rules_faultless above (rule ∷ rules) tail h fresh =
      let parts = and_parts (is_rule grammar rule) (list_all (is_rule grammar) rules) h in
      let own = first_fresh (rule_names above) rule.name (map name_of_rule rules) 128 fresh in (
        rule_faultless above (map (rule_declaration grammar) rules ++ tail) rule (rule_fits grammar rule parts.0) own,
        rules_faultless (above ++ rule_declaration grammar rule ∷ []) rules tail parts.1
            (others_fresh rule_name_of above (rule_declaration grammar rule) rule.name (map name_of_rule rules) 128 refl fresh),
      )
