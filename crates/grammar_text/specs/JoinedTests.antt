-- The tests of a line by what it declares, joined with those that look at more.
use Rattle.std.specs.Prelude.{◌||◌}
use Rattle.std.specs.Option.{option_or}
use Rattle.grammar_text.specs.declared.reader.faults.FormTests.{FormTests}
use Rattle.grammar_text.specs.declared.reader.kinds.LineTests.{LineTests}

abbrev pub joined : LineTests → FormTests → LineTests
joined alone form = record alone {
  repeated = form.repeats;
  no_letters = form.misletters;
  misplaced = form.is_misplaced;
  not_one_axiom = form.is_second_axiom || alone.not_one_axiom;
  unknown = form.uses_unknown;
  misfit = form.misfits;
  crossed = form.has_crossed_run;
  lacks_let = form.lacks_let || alone.lacks_let;
  passing_count = option_or form.passing_count alone.passing_count;
  twice = form.twice;
}
