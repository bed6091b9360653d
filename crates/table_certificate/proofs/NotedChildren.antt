-- Where no argument is sought, all that the cell demands is noted.
use Rattle.std.proofs.Common.{◌≡◌, None, List, length, refl, sym}
use Rattle.std.proofs.lemmas.Option.{slice_get_read}
use Rattle.adp_model.specs.declared.grammar.Arg.TheVariants.{Rule}
use Rattle.adp_model.specs.declared.cell.Cell.{Cell}
use Rattle.adp_model.specs.PosedProblem.{PosedProblem}
use Rattle.adp_model.specs.Splits.{Placed, placed}
use Rattle.adp_model.specs.Demand.{IsDemandedChild}
use Rattle.adp_model.specs.SplitArguments.{SplitArgument, AsksFor}
use Rattle.memo_model.specs.declared.visit.Visit.{Visit}
use Rattle.argument_search.specs.Seeking.{IsNoneSought}

asking : (p : PosedProblem) (cell child : Cell) → IsDemandedChild p cell child
    → (argument : SplitArgument) × (argument.cell ≡ cell) × AsksFor p argument child
asking p cell child (alternative, cuts, viable, (k, inside, e)) =
    let it : Placed = record { argument = Rule child.rule; from = child.from; to = child.to } in
    let laid : List Placed = placed p cell alternative cuts in (
      record { cell = cell; alternative = alternative; cuts = cuts; number = k },
      refl,
      record { viable = viable; there = slice_get_read laid (length laid) k it refl inside (sym e) },
    )

-- a visit that begins comes to all arguments
pub all_noted : (p : PosedProblem) (Noted : Cell → Type 0) (visit : Visit) → visit.at ≡ None → IsNoneSought p Noted visit
    → (child : Cell) → IsDemandedChild p visit.cell child → Noted child
all_noted p Noted visit begins none child demanded =
    let asked = asking p visit.cell child demanded in
    none asked.0 child asked.1 asked.2 (rw begins refl)
