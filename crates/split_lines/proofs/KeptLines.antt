-- Middles under their numbers, and what is kept of alternatives, as both grow.
use Rattle.std.proofs.Common.{◌≡◌, ℕ, ◌+◌, ◌<◌, ◌≤◌, Option, Some, None, List, [], ◌∷◌, ◌++◌, length, get_or, refl, sym, ap, subst, ◌∙◌, inl, inr, arith}
use Rattle.std.proofs.lemmas.Bool.{cases_lt}
use Rattle.std.proofs.lemmas.List.{get_or_past, get_or_append_left, get_or_push, length_push}
use Rattle.adp_model.specs.declared.grammar.Arg.{Arg}
use Rattle.adp_model.specs.declared.grammar.Rule as rules
use Rattle.adp_model.specs.declared.grammar.Grammar.{Grammar}
use Rattle.adp_model.specs.PosedProblem.{PosedProblem}
use Rattle.adp_model.specs.Parts.{alternatives_of, arguments_of}
use Rattle.adp_model.specs.ProblemFields.{most_letters}
use Rattle.split_lines.specs.declared.kept.KeptAlternative.{KeptAlternative}
use Rattle.split_lines.specs.declared.kept_rules.KeptLine.{KeptLine}
use Rattle.split_lines.specs.declared.kept_rules.KeptRule.{KeptRule}
use Rattle.split_lines.specs.declared.kept_rules.KeptRules.{KeptRules}
use Rattle.split_lines.specs.declared.kept_rules.Middle.{Middle}
use Rattle.split_lines.specs.KeptRules.{AreMiddles, AreKeptFor, AreTokens, HasAllOf, IsNumberOf, IsKeptOrNone, IsKeptOf, AreKept, IsKeptRule, AreKeptRules}
use Rattle.split_lines.proofs.Growing.{each_more}

-- one more middle
pub middles_more : (grammar : Grammar) (middles : List Middle) (middle : Middle) → AreMiddles grammar middles → AreTokens grammar middle.tokens.now → AreMiddles grammar (middles ++ middle ∷ [])
middles_more grammar middles middle are is number d l =
    each_more (λ k (it : Middle). AreTokens grammar it.tokens.now) middles (length middles) middle refl are is number d (omega (arith, l, length_push middles middle))

pub has_all_more : {X : Type 0} (items : List X) (item : X) → HasAllOf items (items ++ item ∷ [])
has_all_more items item = record {
  longer = λ number l. omega (arith, l, length_push items item);
  same = λ number d l. get_or_append_left items (item ∷ []) d number l;
}

pub number_of_last : (middles : List Middle) (middle : Middle) (tokens : List Arg) (number : ℕ) → number ≡ length middles → middle.tokens.now ≡ tokens → IsNumberOf (middles ++ middle ∷ []) tokens number
number_of_last middles middle tokens number last are = record {
  within = omega (arith, last, length_push middles middle);
  tokens_are = λ d. ap (λ (it : Middle). it.tokens.now) (get_or_push middles middle d number (sym last)) ∙ are;
}

-- ---- what was kept before is kept still

pub has_all-refl : {X : Type 0} (items : List X) → HasAllOf items items
has_all-refl items = record { longer = λ number l. l; same = λ number d l. refl }

pub has_all-trans : {X : Type 0} (first second third : List X) → HasAllOf first second → HasAllOf second third → HasAllOf first third
has_all-trans first second third one two = record {
  longer = λ number l. two.longer number (one.longer number l);
  same = λ number d l. two.same number d (one.longer number l) ∙ one.same number d l;
}

number_still : (old new : List Middle) (tokens : List Arg) (number : ℕ) → HasAllOf old new → IsNumberOf old tokens number → IsNumberOf new tokens number
number_still old new tokens number longer is = record {
  within = longer.longer number is.within;
  tokens_are = λ d. ap (λ (it : Middle). it.tokens.now) (longer.same number d is.within) ∙ is.tokens_are d;
}

pub line_still : (p : PosedProblem) (old new : List Middle) (arguments : List Arg) (line : Option KeptLine) → HasAllOf old new → IsKeptOrNone p old arguments line → IsKeptOrNone p new arguments line
line_still p old new arguments None longer none = none
line_still p old new arguments (Some line) longer kept = record {
  has_line = kept.has_line;
  middle = number_still old new _ line.middle longer kept.middle;
  tail = kept.tail;
  before = kept.before;
  behind = kept.behind;
}

pub alternatives_still : (p : PosedProblem) (old new : List Middle) (rule count : ℕ) (kept : List KeptAlternative) → HasAllOf old new → AreKept p old rule count kept → AreKept p new rule count kept
alternatives_still p old new rule count kept longer are = record {
  each = are.each;
  are = λ alternative d l.
      let it = are.are alternative d l in
      record { line = line_still p old new (arguments_of p.grammar rule alternative) (get_or kept alternative d).line longer it.line; parts = it.parts };
}

-- one more alternative
pub one_alternative_more : (p : PosedProblem) (middles : List Middle) (rule count : ℕ) (kept : List KeptAlternative) (one : KeptAlternative) → AreKept p middles rule count kept → IsKeptOf p middles rule count one → AreKept p middles rule (count + 1) (kept ++ one ∷ [])
one_alternative_more p middles rule count kept one are now = record {
  each = length_push kept one ∙ ap (λ n. n + 1) are.each;
  are = each_more (λ alternative it. IsKeptOf p middles rule alternative it) kept count one are.each are.are now;
}

-- what is kept of one more rule
pub one_rule_more : (p : PosedProblem) (middles : List Middle) (count : ℕ) (rules : List KeptRule) (it : KeptRule) → AreKeptRules p middles count rules → IsKeptRule p middles count it → AreKeptRules p middles (count + 1) (rules ++ it ∷ [])
one_rule_more p middles count rules it are now = record {
  each = length_push rules it ∙ ap (λ n. n + 1) are.each;
  are = each_more (λ rule it. IsKeptRule p middles rule it) rules count it are.each are.are now;
}

pub rules_still : (p : PosedProblem) (old new : List Middle) (count : ℕ) (rules : List KeptRule) → HasAllOf old new → AreKeptRules p old count rules → AreKeptRules p new count rules
rules_still p old new count rules longer are = record {
  each = are.each;
  are = λ rule d l.
      let it = are.are rule d l in
      record { alternatives = alternatives_still p old new rule (length (alternatives_of p.grammar rule)) (get_or rules rule d).alternatives.items longer it.alternatives; beginnings = it.beginnings };
}

-- a rule that has alternatives is one of the grammar's
pub rule_there : (grammar : Grammar) (rule alternative : ℕ) → alternative < length (alternatives_of grammar rule) → rule < length grammar.rules
rule_there grammar rule alternative l =
    elim (cases_lt rule (length grammar.rules)) [
      | inl inside ↦ inside
      | inr past ↦
          let none : length (alternatives_of grammar rule) ≡ 0 = ap (λ (it : rules.Rule). length it.alts) (get_or_past grammar.rules rule (record { name = []; alts = [] }) past) in
          absurd (omega arith)
    ]

-- what is kept of a rule
pub kept_of_rule : (p : PosedProblem) (middles : List Middle) (rules : List KeptRule) (rule : ℕ) (it : KeptRule) → rule < length p.grammar.rules → AreKeptRules p middles (length p.grammar.rules) rules → it ≡ get_or rules rule it → IsKeptRule p middles rule it
kept_of_rule p middles rules rule it l are is = subst (IsKeptRule p middles rule) (sym is) (are.are rule it l)

-- what is kept for all words, for the word of this problem
pub rules_now : (p : PosedProblem) (kept : KeptRules) → length p.word ≤ most_letters → AreKeptFor p.grammar p.algebra kept → AreKeptRules p kept.middles.items (length p.grammar.rules) kept.rules.items
rules_now p kept short are = are.rules_are p.word short

-- a kept rule that is read
pub kept_rule_read : (p : PosedProblem) (kept read : KeptRules) (rule : ℕ) (it : KeptRule) → rule < length p.grammar.rules → length p.word ≤ most_letters → AreKeptFor p.grammar p.algebra kept → read ≡ kept → it ≡ get_or read.rules.items rule it → IsKeptRule p kept.middles.items rule it
kept_rule_read p kept read rule it l short are same is =
    kept_of_rule p kept.middles.items kept.rules.items rule it l (rules_now p kept short are) (is ∙ ap (λ (read : KeptRules). get_or read.rules.items rule it) same)

-- a kept alternative that is read
pub alternative_read : (p : PosedProblem) (middles : List Middle) (rule alternative : ℕ) (it : KeptRule) (kept : KeptAlternative) → alternative < length (alternatives_of p.grammar rule) → IsKeptRule p middles rule it → kept ≡ get_or it.alternatives.items alternative kept → IsKeptOf p middles rule alternative kept
alternative_read p middles rule alternative it kept l of_rule is = subst (IsKeptOf p middles rule alternative) (sym is) (of_rule.alternatives.are alternative kept l)
