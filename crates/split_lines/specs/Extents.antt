-- How many letters an argument of open length may have.
use Rattle.std.specs.Prelude.{◌↔◌, ℕ, ◌-◌, ◌<◌, ◌≤◌, Option, IfSome, length}
use Rattle.std.specs.List.{AllByRecursion}
use Rattle.adp_model.specs.declared.grammar.Arg.{Arg}
use Rattle.adp_model.specs.PosedProblem.{PosedProblem, IsSpan}
use Rattle.adp_model.specs.Parts.{letters_of}
use Rattle.adp_model.specs.ProblemFields.{most_letters}
use Rattle.adp_model.specs.Splits.{FitsSpan}
use Rattle.adp_model.specs.Tokens.{letters_between, IsIn}
use Rattle.viable_splits.specs.Placing.{on_span}
use Rattle.split_lines.specs.declared.extents.Extent.{Extent}

-- the letters of the span are of the class, where there is one
abbrev pub AreOfClass : PosedProblem → Option ℕ → ℕ → ℕ → Type 0
AreOfClass p class from to =
    IfSome class (λ class. AllByRecursion (IsIn (letters_of p.grammar class)) (letters_between p.word from to))

-- the extent of the argument: a span is one that it may have exactly where its length lies between the bounds and its
-- letters are of the class
pub record IsExtent (p : PosedProblem) (argument : Arg) (extent : Extent) : Type 0 where
  pub class_known : IfSome extent.class (λ class. class < length p.grammar.classes)
  pub exact : (from to : ℕ) → IsSpan p.word from to → to ≤ most_letters
      → FitsSpan p (on_span argument from to)
      ↔ ((extent.least ≤ to - from) × (to - from ≤ extent.most) × AreOfClass p extent.class from to)
