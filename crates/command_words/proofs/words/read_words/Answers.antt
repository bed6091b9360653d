use Rattle.std.proofs.Common.{refl, sym, subst, arith, map, drop}
use Rattle.std.proofs.lemmas.List.{length-map}
use Rattle.std.proofs.lemmas.Result.{err_from_is_err_and}
use Rattle.std.specs.String.{string_bytes}
use Rattle.verdicts.specs.Command.{IsCommand}
use Rattle.verdicts.specs.CommandFields.{command_of}
use Rattle.command_words.specs.OptionValues.{OptionValues, values_of}
use Rattle.command_words.specs.Settings.{Suits}
use Rattle.command_words.proofs.Options.{AreRead, odd_words, stop, turn, finish, is_named, is_second_named, refuse}
use Rattle.command_words.proofs.words.read_words.Goals as goal

pub returns-then-words-eq0-clause-taken : goal.returns-then-words-eq0-clause-taken
returns-then-words-eq0-clause-taken c = (
  λ e. cc,
  λ has. absurd (omega (arith, odd_words _ has, length-map c.args.words.now string_bytes, c.if-words-eq0.true)),
)

pub returns-in_err-set-clause-taken : goal.returns-in_err-set-clause-taken
returns-in_err-set-clause-taken c =
    let p = err_from_is_err_and c.from_residual-in_err-set.result c.from_residual-in_err-set.ensures.1 in
    rw p.1 (
      λ e. cc,
      λ has. absurd (stop string_bytes c.args.words.now c.loop-place.place c.index-words-place.result
          c.index-words-place-in-loop-place.result _ _ c.loop-place.set c.loop-place-test.true
          c.loop-place.invariant.odd c.loop-place.invariant.within c.index-words-place.is
          c.index-words-place-in-loop-place.is c.as_str-in-loop-place.ensures.value
          c.as_str-in-loop-place-2.ensures.value c.loop-place.invariant.read c.in_err-set.ensures.refused has),
    )

pub loop-place-preserved : goal.loop-place-preserved
loop-place-preserved c = record {
  odd = omega (arith, c.loop-place.invariant.odd, c.loop-place-test.true);
  within = omega arith;
  read = turn string_bytes c.args.words.now c.loop-place.place c.index-words-place.result
      c.index-words-place-in-loop-place.result _ _ c.loop-place.set c.loop-place-test.true
      c.loop-place.invariant.odd c.loop-place.invariant.within c.index-words-place.is
      c.index-words-place-in-loop-place.is c.as_str-in-loop-place.ensures.value
      c.as_str-in-loop-place-2.ensures.value c.loop-place.invariant.read _ c.in_ok-set.ensures.added;
}

pub returns-then-not-suits-clause-taken : goal.returns-then-not-suits-clause-taken
returns-then-not-suits-clause-taken c = (
  λ e. cc,
  λ has. absurd (refuse string_bytes c.args.words.now c.index-words-0.result c.as_str.result.now c.in_ok-mode.mode
      c.loop-place.place c.loop-place.set (omega (arith, c.if-words-eq0.false)) c.index-words-0.is
      c.as_str.ensures.value c.in_ok-mode.ensures.known c.loop-place.invariant.odd c.loop-place-test.false
      c.loop-place.invariant.read
      (λ suits. let tested = c.suits.ensures.1 suits in let failed = c.if-not-suits.true in cc) has),
)

-- the values that were read, as they stand in the fields
abbrev Read : goal.After-unwrap_or-4 → OptionValues → Type 0
Read c values = AreRead (drop c.loop-place.place (map string_bytes c.args.words.now)) values × Suits c.in_ok-mode.mode values

read : (c : goal.After-unwrap_or-4) → Read c (values_of c.set.inside)
read c = subst (Read c) (sym c.set.view_is) (c.loop-place.invariant.read, c.suits.ensures.0 c.if-not-suits.false)

is_command : (c : goal.After-unwrap_or-4) → IsCommand (map string_bytes c.args.words.now) (command_of (record {
  mode = c.in_ok-mode.mode;
  algebra = c.set.inside.algebra;
  second = c.set.inside.second;
  workers = c.unwrap_or.result;
  seed = c.unwrap_or-2.result;
  schedule = c.set.inside.schedule;
  best = c.unwrap_or-3.result;
  size = c.unwrap_or-4.result;
}))
is_command c =
    finish string_bytes c.args.words.now c.index-words-0.result c.as_str.result.now c.in_ok-mode.mode
    c.loop-place.place (values_of c.set.inside) (omega (arith, c.if-words-eq0.false)) c.index-words-0.is
    c.as_str.ensures.value c.in_ok-mode.ensures.known c.loop-place.invariant.odd c.loop-place-test.false
    (read c).0 (read c).1 _ _ _ _ c.unwrap_or.ensures c.unwrap_or-2.ensures c.unwrap_or-3.ensures
    c.unwrap_or-4.ensures

pub invariant_of-result : goal.invariant_of-result
invariant_of-result c = record {
  some_workers = c.command_is_unique.ensures.some_workers _ _ (is_command c);
  few_workers = c.command_is_unique.ensures.few_workers _ _ (is_command c);
  name = is_named string_bytes c.args.words.now c.index-words-0.result c.as_str.result.now c.in_ok-mode.mode
      c.loop-place.place (values_of c.set.inside) (omega (arith, c.if-words-eq0.false)) c.index-words-0.is
      c.as_str.ensures.value c.in_ok-mode.ensures.known c.loop-place.invariant.odd c.loop-place-test.false
      (read c).0;
  second_name = is_second_named string_bytes c.args.words.now c.index-words-0.result c.as_str.result.now
      c.in_ok-mode.mode c.loop-place.place (values_of c.set.inside) (omega (arith, c.if-words-eq0.false))
      c.index-words-0.is c.as_str.ensures.value c.in_ok-mode.ensures.known c.loop-place.invariant.odd
      c.loop-place-test.false (read c).0;
  paired = (is_command c).paired;
  few_trees = c.command_is_unique.ensures.few_trees _ _ (is_command c);
  listed = (is_command c).listed;
  size = c.command_is_unique.ensures.size _ _ (is_command c);
}

pub returns-clause-command : goal.returns-clause-command
returns-clause-command c = is_command c

pub returns-clause-taken : goal.returns-clause-taken
returns-clause-taken c = (λ _. (_, is_command c), λ _. refl)
