use Rattle.std.proofs.Common.{arith, refl}
use Rattle.grammar_text.proofs.Leaves.{some_leaf, both_sides}
use Rattle.grammar_text.proofs.writer.algebras.+part.Goals as goal

pub push_between-push_part-requires : goal.push_between-push_part-requires
push_between-push_part-requires t c = (omega (arith, c.decreases, some_leaf c.args.right.now), tt)

pub push_between-push_part-requires-2 : goal.push_between-push_part-requires-2
push_between-push_part-requires-2 t c = (omega (arith, c.decreases, some_leaf c.args.left.now), tt)

pub push_part-push_pair-requires : goal.push_part-push_pair-requires
push_part-push_pair-requires t c =
    let sides = both_sides c.args.term.now c.deref.result.now c.deref-in-Sum.result.now (rw (c.in-Sum.is, c.deref.ensures, c.deref-in-Sum.ensures) refl) in
    (omega (arith, c.decreases), tt)

pub push_part-push_pair-requires-in-Difference : goal.push_part-push_pair-requires-in-Difference
push_part-push_pair-requires-in-Difference t c =
    let sides = both_sides c.args.term.now c.deref-in-Difference.result.now c.deref-in-Difference-2.result.now (rw (c.in-Difference.is, c.deref-in-Difference.ensures, c.deref-in-Difference-2.ensures) refl) in
    (omega (arith, c.decreases), tt)

pub push_part-push_pair-requires-in-Product : goal.push_part-push_pair-requires-in-Product
push_part-push_pair-requires-in-Product t c =
    let sides = both_sides c.args.term.now c.deref-in-Product.result.now c.deref-in-Product-2.result.now (rw (c.in-Product.is, c.deref-in-Product.ensures, c.deref-in-Product-2.ensures) refl) in
    (omega (arith, c.decreases), tt)

pub push_part-push_pair-requires-in-Greater : goal.push_part-push_pair-requires-in-Greater
push_part-push_pair-requires-in-Greater t c =
    let sides = both_sides c.args.term.now c.deref-in-Greater.result.now c.deref-in-Greater-2.result.now (rw (c.in-Greater.is, c.deref-in-Greater.ensures, c.deref-in-Greater-2.ensures) refl) in
    (omega (arith, c.decreases), tt)

pub push_part-push_pair-requires-in-Lesser : goal.push_part-push_pair-requires-in-Lesser
push_part-push_pair-requires-in-Lesser t c =
    let sides = both_sides c.args.term.now c.deref-in-Lesser.result.now c.deref-in-Lesser-2.result.now (rw (c.in-Lesser.is, c.deref-in-Lesser.ensures, c.deref-in-Lesser-2.ensures) refl) in
    (omega (arith, c.decreases), tt)
