use Rattle.std.proofs.Common.{◌≡◌, ◌+◌, ◌-◌, ◌<◌, ℕ, List, length, take, drop, get_or, sym, ap, subst, ◌∙◌, arith, length-drop}
use Rattle.std.specs.List.{AllByRecursion}
use Rattle.std.proofs.lemmas.List.Elements.{All-from_recursion, recursion_from_All, All-take, All-drop}
use Rattle.std.proofs.lemmas.List.{get_or-drop, get_or_read}
use Rattle.adp_model.specs.declared.grammar.Arg.{Arg}
use Rattle.adp_model.specs.declared.grammar.Arg.TheVariants.{Rule}
use Rattle.adp_model.specs.PosedProblem.{PosedProblem}
use Rattle.adp_model.specs.WellFormed.{IsKnown}
use Rattle.split_lines.specs.Laid.{IsFixed}
use Rattle.split_lines.specs.Lines.{HasLine}
use Rattle.split_lines.specs.Extents.{IsExtent}
use Rattle.split_lines.specs.Matching.{HaveLetters}
use Rattle.split_lines.specs.EachWord.{with_word}
use Rattle.split_lines.specs.KeptRules.{IsNumberOf}
use Rattle.split_lines.proofs.LineFacts.{middle_taken, tail_taken}
use Rattle.split_lines.proofs.kept_rules.kept_line.Goals as goal

-- an argument that is read stands so far behind the first one of the line
read_behind : (all : List Arg) (first between at : ℕ) (read : Arg) → at ≡ first + between → at < length all → read ≡ get_or all at read → read ≡ get_or (drop first all) between (Rule 0)
read_behind all first between at read at_is within is =
    get_or_read all at read within is (Rule 0) ∙ ap (λ n. get_or all n (Rule 0)) at_is ∙ sym (get_or-drop first all between (Rule 0))

-- an argument that is read is known
known_at : (p : PosedProblem) (all : List Arg) (k : ℕ) (read : Arg) → read ≡ get_or all k read → k < length all → AllByRecursion (IsKnown p.grammar) all → IsKnown p.grammar read
known_at p all k read is l known = subst (IsKnown p.grammar) (sym is) (All-from_recursion (IsKnown p.grammar) all known k read l)

line_within : (all : List Arg) (first between : ℕ) → HasLine (drop first all) between → first + between + 1 < length all
line_within all first between line = omega (arith, line.several, length-drop first all)

all_in_part : {X : Type 0} (P : X → Type 0) (n m : ℕ) (xs : List X) → AllByRecursion P xs → AllByRecursion P (take n (drop m xs))
all_in_part P n m xs all = recursion_from_All P (take n (drop m xs)) (All-take P n (drop m xs) (All-drop P m xs (All-from_recursion P xs all)))

pub overflow_add-second : goal.overflow_add-second
overflow_add-second c = omega (arith, line_within c.args.arguments.now c.in-Some.first c.in-Some.between c.in-Some.ensures, c.requires.few)

pub overflow_add-second-2 : goal.overflow_add-second-2
overflow_add-second-2 c = omega (arith, line_within c.args.arguments.now c.in-Some.first c.in-Some.between c.in-Some.ensures, c.requires.few)

pub overflow_add-first : goal.overflow_add-first
overflow_add-first c = omega (arith, line_within c.args.arguments.now c.in-Some.first c.in-Some.between c.in-Some.ensures, c.requires.few)

pub overflow_add-second-3 : goal.overflow_add-second-3
overflow_add-second-3 c = omega (arith, line_within c.args.arguments.now c.in-Some.first c.in-Some.between c.in-Some.ensures, c.requires.few)

pub slice_bounds-number_of-end : goal.slice_bounds-number_of-end
slice_bounds-number_of-end c = omega (arith, line_within c.args.arguments.now c.in-Some.first c.in-Some.between c.in-Some.ensures, c.requires.few)

pub slice_bounds-fixed_letters-start : goal.slice_bounds-fixed_letters-start
slice_bounds-fixed_letters-start c = omega (arith, line_within c.args.arguments.now c.in-Some.first c.in-Some.between c.in-Some.ensures, c.requires.few)

pub overflow_cast-result : goal.overflow_cast-result
overflow_cast-result c = omega (arith, line_within c.args.arguments.now c.in-Some.first c.in-Some.between c.in-Some.ensures, c.requires.few)

pub overflow_cast-result-2 : goal.overflow_cast-result-2
overflow_cast-result-2 c = omega (arith, line_within c.args.arguments.now c.in-Some.first c.in-Some.between c.in-Some.ensures, c.requires.few)

pub bounds-arguments-first : goal.bounds-arguments-first
bounds-arguments-first c = omega (arith, line_within c.args.arguments.now c.in-Some.first c.in-Some.between c.in-Some.ensures, c.requires.few)

pub bounds-arguments-second : goal.bounds-arguments-second
bounds-arguments-second c = omega (arith, line_within c.args.arguments.now c.in-Some.first c.in-Some.between c.in-Some.ensures, c.requires.few)

pub number_of-requires : goal.number_of-requires
number_of-requires c = subst (AllByRecursion IsFixed) (sym (middle_taken c.args.arguments.now c.in-Some.first c.in-Some.between)) c.in-Some.ensures.parts.middle_fixed

pub fixed_letters-tail-requires : goal.fixed_letters-tail-requires
fixed_letters-tail-requires c = subst (AllByRecursion IsFixed) (sym (tail_taken c.args.arguments.now c.in-Some.first c.in-Some.between)) c.in-Some.ensures.parts.tail_fixed

pub extent_of-requires-clause-known : goal.extent_of-requires-clause-known
extent_of-requires-clause-known c =
    let within = line_within c.args.arguments.now c.in-Some.first c.in-Some.between c.in-Some.ensures in
    known_at c.args.problem.now c.args.arguments.now c.in-Some.first c.index-arguments-first.result c.index-arguments-first.is (omega (arith, within)) c.requires.known

pub extent_of-requires-clause-open_length : goal.extent_of-requires-clause-open_length
extent_of-requires-clause-open_length c =
    let within = line_within c.args.arguments.now c.in-Some.first c.in-Some.between c.in-Some.ensures in
    let is = read_behind c.args.arguments.now c.in-Some.first 0 c.in-Some.first c.index-arguments-first.result (omega arith) (omega (arith, within)) c.index-arguments-first.is in
    λ fixed. c.in-Some.ensures.first_open (subst IsFixed is fixed)

pub extent_of-requires-2-clause-known : goal.extent_of-requires-2-clause-known
extent_of-requires-2-clause-known c =
    let within = line_within c.args.arguments.now c.in-Some.first c.in-Some.between c.in-Some.ensures in
    known_at c.args.problem.now c.args.arguments.now (c.in-Some.first + c.in-Some.between + 1) c.index-arguments-second.result c.index-arguments-second.is (omega (arith, within)) c.requires.known

pub extent_of-requires-2-clause-open_length : goal.extent_of-requires-2-clause-open_length
extent_of-requires-2-clause-open_length c =
    let within = line_within c.args.arguments.now c.in-Some.first c.in-Some.between c.in-Some.ensures in
    let is = read_behind c.args.arguments.now c.in-Some.first (c.in-Some.between + 1) (c.in-Some.first + c.in-Some.between + 1) c.index-arguments-second.result (omega arith) (omega (arith, within)) c.index-arguments-second.is in
    λ fixed. c.in-Some.ensures.second_open (subst IsFixed is fixed)

pub returns-clause-middles : goal.returns-clause-middles
returns-clause-middles c =
    let first = c.in-Some.first in
    let known = all_in_part (IsKnown c.args.problem.now.grammar) (first + c.in-Some.between + 1 - (first + 1)) (first + 1) c.args.arguments.now c.requires.known in
    c.in_ok-middle.ensures.middles c.args.problem.now.grammar known c.requires.middles

pub returns-clause-kept : goal.returns-clause-kept
returns-clause-kept c = c.in_ok-middle.ensures.kept

pub overflow_cast-result-3 : goal.overflow_cast-result-3
overflow_cast-result-3 c = omega (arith, c.fixed_letters-tail.ensures.short)

pub slice_bounds-number_of-start : goal.slice_bounds-number_of-start
slice_bounds-number_of-start c = omega (arith, line_within c.args.arguments.now c.in-Some.first c.in-Some.between c.in-Some.ensures, c.requires.few)

pub returns-clause-line : goal.returns-clause-line
returns-clause-line c = λ word short.
    let p = with_word c.args.problem.now.grammar c.args.problem.now.algebra word in
    let all = c.args.arguments.now in
    let first = c.in-Some.first in
    let between = c.in-Some.between in
    let several = c.in-Some.ensures.several in
    let long = length-drop first all in
    let N : List Arg → Type 0 = λ tokens. IsNumberOf c.number_of.new.middles.items tokens c.in_ok-middle.middle in
    let H : List Arg → Type 0 = λ tokens. HaveLetters p tokens c.fixed_letters-tail.result in
    let first_is = read_behind all first 0 first c.index-arguments-first.result (omega arith) (omega arith) c.index-arguments-first.is in
    let second_is = read_behind all first (between + 1) (first + between + 1) c.index-arguments-second.result (omega arith) (omega arith) c.index-arguments-second.is in
    record {
      has_line = c.in-Some.ensures;
      middle = subst N (middle_taken all first between) c.in_ok-middle.ensures.number;
      tail = subst H (tail_taken all first between) (c.fixed_letters-tail.ensures.letters p short);
      before = subst (λ argument. IsExtent p argument c.extent_of.result) first_is (c.extent_of.ensures word short);
      behind = subst (λ argument. IsExtent p argument c.extent_of-2.result) second_is (c.extent_of-2.ensures word short);
    }
