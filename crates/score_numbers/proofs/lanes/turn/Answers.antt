use Rattle.std.proofs.Common.{◌≡◌, length, map, subst, sym, arith, rules}
use Rattle.std.proofs.lemmas.List.{length-map}
use Rattle.score_numbers.proofs.Combined.{turned_least}
use Rattle.score_numbers.specs.Lanes.{AreTurned}
use Rattle.score_numbers.proofs.lanes.turn.Goals as goal

pub returns-in-Least : goal.returns-in-Least
returns-in-Least g c =
    let value = g.N.Number.value in
    let as_many : length c.args.lane.now ≡ 64 = search rules in
    subst (λ goal. AreTurned g.N.Number.width.limit goal (map value c.args.lane.now) (map value c.combine.new.lane)) (sym c.in-Least.is)
    (turned_least g.N.Number.width.limit 64 (map value c.args.lane.now) (map value c.everywhere-turned.result) (map value c.combine.new.lane)
    (omega (arith, as_many, length-map c.args.lane.now value)) (c.everywhere-turned.ensures (omega arith)) c.combine.ensures)
