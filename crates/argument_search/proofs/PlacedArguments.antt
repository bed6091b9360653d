-- Where an argument of a split stands.
use Rattle.std.proofs.Common.{◌≡◌, ℕ, zero, suc, ◌+◌, ◌<◌, Some, List, [], ◌∷◌, ◌++◌, length, get_or, slice_index, refl, sym, ap, ◌∙◌, arith}
use Rattle.std.specs.Prelude.{slice_get}
use Rattle.std.proofs.lemmas.Option.{same_Some}
use Rattle.adp_model.specs.declared.grammar.Arg.{Arg}
use Rattle.adp_model.specs.declared.grammar.Arg.TheVariants.{Rule}
use Rattle.adp_model.specs.PosedProblem.{PosedProblem}
use Rattle.adp_model.specs.Parts.{arguments_of}
use Rattle.adp_model.specs.SplitArguments.{SplitArgument, AsksFor, IsSplitArgument}
use Rattle.adp_model.specs.declared.cell.Cell.{Cell}
use Rattle.adp_model.specs.Splits.{Placed, place, ends_by}

pub placed_there : (arguments : List Arg) (from : ℕ) (ends : List ℕ) (k : ℕ) (d : Arg) → k < length arguments
    → k < length ends
    → slice_get (place arguments from ends) k ≡ Some
    (record { argument = get_or arguments k d; from = get_or (from ∷ ends) k 0; to = get_or ends k 0 })
placed_there [] from ends k d l m = absurd (omega arith)
placed_there (argument ∷ arguments) from [] k d l m = absurd (omega arith)
placed_there (argument ∷ arguments) from (to ∷ ends) zero d l m = refl
placed_there (argument ∷ arguments) from (to ∷ ends) (suc k) d l m = placed_there arguments to ends k d (omega arith)
    (omega arith)

-- an argument that is a rule asks for its cell
pub asks_there : (p : PosedProblem) (argument : SplitArgument) (rule : ℕ) (d : Arg) → IsSplitArgument p argument
    → get_or (arguments_of p.grammar argument.cell.rule argument.alternative) argument.number d ≡ Rule rule
    → argument.number < length (ends_by argument.cell argument.cuts)
    → AsksFor p argument
    (record {
      rule = rule;
      from =
          slice_index (argument.cell.from ∷ ends_by argument.cell argument.cuts) argument.number;
      to =
          slice_index (ends_by argument.cell argument.cuts) argument.number;
    })
asks_there p argument rule d is e within = record {
  viable = is.viable;
  there =
      placed_there (arguments_of p.grammar argument.cell.rule argument.alternative) argument.cell.from
      (ends_by argument.cell argument.cuts) argument.number d is.within within
      ∙ ap
      (λ (a : Arg). Some
      (record {
        argument = a;
        from =
            get_or (argument.cell.from ∷ ends_by argument.cell argument.cuts) argument.number 0;
        to =
            get_or (ends_by argument.cell argument.cuts) argument.number 0;
      })) e;
}

-- an argument that asks for a cell is a rule
pub asks_rule : (p : PosedProblem) (argument : SplitArgument) (child : Cell) (d : Arg) → IsSplitArgument p argument
    → argument.number < length (ends_by argument.cell argument.cuts)
    → AsksFor p argument child
    → get_or (arguments_of p.grammar argument.cell.rule argument.alternative) argument.number d ≡ Rule child.rule
asks_rule p argument child d is within asks =
    let e = placed_there (arguments_of p.grammar argument.cell.rule argument.alternative) argument.cell.from
    (ends_by argument.cell argument.cuts) argument.number d is.within within in
    let it : Placed = record { argument = Rule child.rule; from = child.from; to = child.to } in
    let other : Placed =
    record {
      argument =
          get_or (arguments_of p.grammar argument.cell.rule argument.alternative) argument.number d;
      from =
          get_or (argument.cell.from ∷ ends_by argument.cell argument.cuts) argument.number 0;
      to =
          get_or (ends_by argument.cell argument.cuts) argument.number 0;
    } in
    let f : Some other ≡ Some it = sym e ∙ asks.there in
    ap (λ (x : Placed). x.argument) (same_Some other it f)

pub length_ends : (cuts : List ℕ) (to : ℕ) → length (cuts ++ to ∷ []) ≡ length cuts + 1
length_ends [] to = omega arith
length_ends (cut ∷ cuts) to = omega (arith, length_ends cuts to)
