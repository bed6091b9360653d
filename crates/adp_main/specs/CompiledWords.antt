-- What is compiled for a word by two algebras in order.
use Rattle.std.specs.Prelude.{◌≡◌, ℕ, Option, List, length}
use Rattle.adp_model.specs.PosedProblem.{PosedProblem}
use Rattle.adp_model.specs.ProblemFields.{KeepsLimits}
use Rattle.lex_product.specs.Compilable.{IsCompilable}
use Rattle.grammar_check.specs.CheckedGrammar.{CheckedGrammar}
use Rattle.lex_product.specs.CompiledGrammar.{compiled_grammar, has_same_goal, multiplier_of}
use Rattle.lex_product.specs.PairAnswers.{IsButForAlgebra}
use Rattle.verdicts.specs.SecondAlgebra.{IsSecond}
use Rattle.verdicts.specs.Posed.{posed_word}
use Rattle.adp_main.specs.declared.lex.Compiled.{Compiled}

-- the grammar has the compiled algebra of the problem's and the second one, of this name, by the second one's bound at
-- the word's length; the word keeps the limits under it
pub record IsCompiledFor (name : Option (List ℕ)) (p : PosedProblem) (compiled : Compiled) : Type 0 where
  pub second : ℕ
  pub bound : ℕ
  pub named : IsSecond name p.grammar second
  pub compilable : IsCompilable p second bound
  pub grammar : compiled.checked.grammar ≡ compiled_grammar p.grammar p.algebra second (multiplier_of bound)
  pub algebra : compiled.checked.algebra ≡ p.algebra
  pub multiplier : compiled.multiplier ≡ multiplier_of bound
  pub same : compiled.same ≡ has_same_goal p.grammar p.algebra second
  pub limits : KeepsLimits compiled.checked.grammar compiled.checked.algebra (length p.word)

-- the word under the compiled algebra
abbrev pub compiled_word : Compiled → List ℕ → PosedProblem
compiled_word compiled word =
    record { grammar = compiled.checked.grammar; algebra = compiled.checked.algebra; word = word }

-- it serves each word of the length that it was made for, and the checked grammar is the first one but for its algebra
pub record ServesItsLength (name : Option (List ℕ)) (first : CheckedGrammar) (compiled : Compiled) : Type 0 where
  pub each : (word : List ℕ) → length word ≡ compiled.length
      → IsCompiledFor name (posed_word first.grammar first.algebra word) compiled
  pub made : IsButForAlgebra first compiled.checked
