use Rattle.std.proofs.Common.{◌≡◌, ◌≤◌, nat_abs, FitsSigned, w64, length, map, replicate, arith, rules}
use Rattle.std.proofs.lemmas.Int.{to_z-of_z}
use Rattle.std.proofs.lemmas.List.{length-map}
use Rattle.adp_model.specs.WideTerms.{form_of}
use Rattle.score_numbers.proofs.LaneValues.{difference_held, fixed_held, greater_held, lesser_held, number_held, product_held, sum_held}
use Rattle.score_numbers.proofs.term_lines.+fill.Goals as goal

pub returns-in-Number : goal.returns-in-Number
returns-in-Number g t c =
    let value = g.N.Number.value in
    let as_many : length c.args.before.now ≡ 64 = search rules in
    let fits : FitsSigned w64 c.in-Number.number = search rules in
    let all : nat_abs c.in-Number.number ≤ g.N.Number.width.limit → map value c.everywhere.result ≡ replicate 64 c.in-Number.number = simp to_z-of_z at c.everywhere.ensures in
    let held = number_held g.N.Number.width.limit c.args.line.now (map value c.args.before.now) (map value c.args.behind.now) (map value c.everywhere.result) (omega (arith, as_many, length-map c.args.before.now value)) c.in-Number.number all in
    rw (c.in-Number.is) held

pub returns-else-place-line-2 : goal.returns-else-place-line-2
returns-else-place-line-2 g t c =
    let value = g.N.Number.value in
    let as_many : length c.args.before.now ≡ 64 = search rules in
    let fits : FitsSigned w64 c.value_at.result = search rules in
    let all : nat_abs c.value_at.result ≤ g.N.Number.width.limit → map value c.everywhere-else-place-line-2.result ≡ replicate 64 c.value_at.result = simp to_z-of_z at c.everywhere-else-place-line-2.ensures in
    let held = fixed_held g.N.Number.width.limit c.args.line.now (map value c.args.before.now) (map value c.args.behind.now) (map value c.everywhere-else-place-line-2.result) (omega (arith, as_many, length-map c.args.before.now value)) c.in-Value.place c.value_at.result
    c.if-place-line-2.false c.if-place-line.false c.value_at.ensures all in
    rw (c.in-Value.is) held

pub returns-in-Sum : goal.returns-in-Sum
returns-in-Sum g t c =
    let value = g.N.Number.value in
    let held = sum_held c.values_are_within_magnitudes.ensures g.N.Number.width.limit c.args.line.now (form_of c.deref.result.now) (form_of c.deref-in-Sum.result.now) (map value c.args.before.now) (map value c.args.behind.now)
    (map value c.fill.new.lane) (map value c.fill-in-Sum.new.lane) (map value c.combine.new.lane) c.fill.ensures c.fill-in-Sum.ensures c.combine.ensures in
    rw (c.in-Sum.is, ← c.deref.ensures, ← c.deref-in-Sum.ensures) held

pub returns-in-Difference : goal.returns-in-Difference
returns-in-Difference g t c =
    let value = g.N.Number.value in
    let held = difference_held c.values_are_within_magnitudes.ensures g.N.Number.width.limit c.args.line.now (form_of c.deref-in-Difference.result.now) (form_of c.deref-in-Difference-2.result.now) (map value c.args.before.now) (map value c.args.behind.now)
    (map value c.fill-in-Difference.new.lane) (map value c.fill-in-Difference-2.new.lane) (map value c.combine-in-Difference.new.lane) c.fill-in-Difference.ensures c.fill-in-Difference-2.ensures c.combine-in-Difference.ensures in
    rw (c.in-Difference.is, ← c.deref-in-Difference.ensures, ← c.deref-in-Difference-2.ensures) held

pub returns-in-Product : goal.returns-in-Product
returns-in-Product g t c =
    let value = g.N.Number.value in
    let held = product_held c.values_are_within_magnitudes.ensures g.N.Number.width.limit c.args.line.now (form_of c.deref-in-Product.result.now) (form_of c.deref-in-Product-2.result.now) (map value c.args.before.now) (map value c.args.behind.now)
    (map value c.fill-in-Product.new.lane) (map value c.fill-in-Product-2.new.lane) (map value c.combine-in-Product.new.lane) c.fill-in-Product.ensures c.fill-in-Product-2.ensures c.combine-in-Product.ensures in
    rw (c.in-Product.is, ← c.deref-in-Product.ensures, ← c.deref-in-Product-2.ensures) held

pub returns-in-Greater : goal.returns-in-Greater
returns-in-Greater g t c =
    let value = g.N.Number.value in
    let held = greater_held c.values_are_within_magnitudes.ensures g.N.Number.width.limit c.args.line.now (form_of c.deref-in-Greater.result.now) (form_of c.deref-in-Greater-2.result.now) (map value c.args.before.now) (map value c.args.behind.now)
    (map value c.fill-in-Greater.new.lane) (map value c.fill-in-Greater-2.new.lane) (map value c.combine-in-Greater.new.lane) c.fill-in-Greater.ensures c.fill-in-Greater-2.ensures c.combine-in-Greater.ensures in
    rw (c.in-Greater.is, ← c.deref-in-Greater.ensures, ← c.deref-in-Greater-2.ensures) held

pub returns-in-Lesser : goal.returns-in-Lesser
returns-in-Lesser g t c =
    let value = g.N.Number.value in
    let held = lesser_held c.values_are_within_magnitudes.ensures g.N.Number.width.limit c.args.line.now (form_of c.deref-in-Lesser.result.now) (form_of c.deref-in-Lesser-2.result.now) (map value c.args.before.now) (map value c.args.behind.now)
    (map value c.fill-in-Lesser.new.lane) (map value c.fill-in-Lesser-2.new.lane) (map value c.combine-in-Lesser.new.lane) c.fill-in-Lesser.ensures c.fill-in-Lesser-2.ensures c.combine-in-Lesser.ensures in
    rw (c.in-Lesser.is, ← c.deref-in-Lesser.ensures, ← c.deref-in-Lesser-2.ensures) held
