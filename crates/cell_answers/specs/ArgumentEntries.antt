-- Entries of an argument's cells, as they are kept.
use Rattle.std.specs.Prelude.{◌≡◌, ℕ, ℤ, List}
use Rattle.adp_model.specs.declared.grammar.Arg.{Arg}
use Rattle.adp_model.specs.declared.grammar.Arg.TheVariants.{Rule}
use Rattle.adp_model.specs.declared.grammar.Goal.{Goal}
use Rattle.cell_answers.specs.declared.argument_values.Entries.{Entries}
use Rattle.cell_answers.specs.declared.argument_values.Numbers.{Numbers}
use Rattle.cell_answers.specs.declared.argument_values.Numbers.TheVariants.{Short, Medium, Long, Whole}
use Rattle.score_numbers.specs.Turned.{turned}
use Rattle.score_numbers.specs.Packing.{AreProper, short, medium, long, told_list}

-- the entries that the numbers stand for
abbrev pub told_numbers : Goal → Numbers → List ℤ
told_numbers goal (Short numbers) = told_list short goal numbers.now
told_numbers goal (Medium numbers) = told_list medium goal numbers.now
told_numbers goal (Long numbers) = told_list long goal numbers.now
told_numbers goal (Whole numbers) = numbers.now

abbrev pub entries_of : Entries → List ℤ
entries_of entries = told_numbers entries.goal entries.numbers

abbrev pub AreProperNumbers : Numbers → Type 0
AreProperNumbers (Short numbers) = AreProper short numbers.now
AreProperNumbers (Medium numbers) = AreProper medium numbers.now
AreProperNumbers (Long numbers) = AreProper long numbers.now
AreProperNumbers (Whole numbers) = Unit {0}

-- the argument is a rule, and the scale is its factor, turned: the scale times a number that was turned is the factor
-- times the score
pub record IsScaled (argument : Arg) (factor : ℤ) (goal : Goal) (scale : ℤ) : Type 0 where
  pub rule : ℕ
  pub is_rule : argument ≡ Rule rule
  pub scale_is : scale ≡ turned goal factor
