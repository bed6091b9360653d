use Rattle.std.proofs.Common.{◌≡◌, ℕ, [], ◌∷◌, Option, Some, None, IfSome, refl, sym, subst}
use Rattle.std.specs.List.{AllByRecursion}
use Rattle.adp_model.specs.declared.grammar.Arg.{Arg}
use Rattle.adp_model.specs.declared.grammar.Arg.TheVariants.{Rule}
use Rattle.split_lines.specs.Kept.{BeginWith}
use Rattle.split_lines.proofs.MakingReady.{letter_stands}
use Rattle.cell_demands.specs.LetterRows.{AreBegun, AreWithLetter, IsLetterRow}
use Rattle.cell_demands.proofs.letter_rows.LetterRows.begins.Goals as goal

some_like : {A : Type 0} (found : Option A) (Holds Other : A → Type 0) → ((it : A) → Holds it → Other it) → IfSome found Holds → IfSome found Other
some_like None Holds Other more holds = tt
some_like (Some it) Holds Other more holds = more it holds

no_rule : (argument : Arg) (letter rule : ℕ) → BeginWith (argument ∷ []) letter → argument ≡ Rule rule → ⊥
no_rule argument letter rule begin is = let are = begin.are in absurd cc

pub returns-in-Some-clause-token : goal.returns-in-Some-clause-token
returns-in-Some-clause-token c =
    some_like c.bits_of.result (λ bits. Unit {0}) (λ bits. (rule : ℕ) → c.args.argument.now ≡ Rule rule → ⊥)
    (λ bits told rule is. no_rule c.args.argument.now c.in-Some.letter rule c.in-Some.ensures is) (any c.bits_of.result)
  where
    any : {A : Type 0} (found : Option A) → IfSome found (λ it. Unit {0})
    any None = tt
    any (Some it) = tt

pub returns-in-Some-clause-begun : goal.returns-in-Some-clause-begun
returns-in-Some-clause-begun c = λ p rows.
    some_like c.bits_of.result (λ bits. AreWithLetter p.word c.in-Some.letter bits.now) (λ bits. AreBegun p c.args.argument.now bits.now)
    (λ bits with_letter from end fits. with_letter from (letter_stands p _ c.in-Some.letter from end c.in-Some.ensures (end, fits, refl)))
    (c.bits_of.ensures p (subst (AllByRecursion (IsLetterRow p.word)) (sym c.deref.ensures.value) rows))
