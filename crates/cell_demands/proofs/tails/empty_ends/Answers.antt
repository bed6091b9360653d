use Rattle.std.proofs.Common.{List, sym, subst}
use Rattle.cell_demands.specs.declared.tails.EndNotes.{EndNotes}
use Rattle.cell_demands.specs.TailNotes.{HaveNoNotes}
use Rattle.cell_demands.proofs.TailNotes.{none_pushed, no_notes}
use Rattle.cell_demands.proofs.tails.empty_ends.Goals as goal

pub ends-preserved : goal.ends-preserved
ends-preserved c =
    let end : EndNotes = record { known = c.new.result; laid = c.new-in-ends.result } in
    let N : List EndNotes → Type 0 = HaveNoNotes in
    subst N (sym {A = List EndNotes} c.in_ok-push.ensures.items)
    (none_pushed c.ends.ends.items end c.ends.invariant (no_notes end c.new.ensures.items c.new-in-ends.ensures.items))
