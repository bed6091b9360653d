use Rattle.std.proofs.Common.{◌≡◌, ◌<◌, ap, ◌∙◌, arith}
use Rattle.std.specs.Arc.{arc_value}
use Rattle.cell_layouts.specs.declared.layout.Laid.{Laid}
use Rattle.std.proofs.lemmas.List.{length-replicate}
use Rattle.std.proofs.lemmas.List.{get_or-replicate}
use Rattle.std.proofs.lemmas.Option.{slice_get-get_or}
use Rattle.std.specs.List.{slice_get}
use Rattle.std.proofs.Common.{Some, replicate}
use Rattle.cell_tables.proofs.grid.Grid.new.Goals as goal

pub returns-clause-values : goal.returns-clause-values
returns-clause-values g c =
    let same = c.in_ok-values.ensures.items_if_clones_equal c.requires.copied in
    let value = c.args.value in
    let count = c.deref.result.now.count in
    let many : count ≡ (arc_value c.args.laid.now).count = ap (λ (laid : Laid). laid.count) c.deref.ensures in
    λ place l.
    let below : place < count = omega (arith, l, many) in
    ap (λ values. slice_get values place) same
    ∙ slice_get-get_or (replicate count value) place value (omega (arith, length-replicate count value, below))
    ∙ ap Some (get_or-replicate count place value value below)
