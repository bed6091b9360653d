use Rattle.std.proofs.Common.{◌≡◌, ◌+◌, is_some, map, take, refl, sym, ◌∙◌, ap, arith, length}
use Rattle.grammar_text.specs.Names.{name_as, names_as}
use Rattle.grammar_text.specs.Seen.{declaration_seen}
use Rattle.grammar_text.proofs.Firsts.{some_copied}
use Rattle.grammar_text.proofs.Scans.{given_more, length_given}
use Rattle.grammar_text.proofs.reader.repeats.count.Goals as goal
use Rattle.grammar_text.proofs.reader.repeats.count.Goals.{then-is_some, else-is_some}

pub loop-declaration-preserved : goal.loop-declaration-preserved
loop-declaration-preserved c =
    let item = c.declaration-item.result in
    let i = c.loop-declaration.declaration-index in
    let front = names_as c.args.sort (map declaration_seen (take i c.args.declared.now)) in
    let given = name_as c.args.sort (declaration_seen item) in
    let more = given_more (name_as c.args.sort) declaration_seen c.args.declared.now i item c.loop-declaration-test.true c.declaration-item.is in
    let gives : is_some given ≡ c.is_some.result = ap is_some (sym c.name_as.ensures) ∙ sym (some_copied c.name_as.result) ∙ sym c.is_some.ensures in
    elim c.if-is_some.branch [
      | then-is_some w ↦ record {
        count = w.count-is ∙ ap (λ n. n + 1) c.loop-declaration.invariant.count ∙ sym (ap length more ∙ length_given front given ∙ rw (gives, w.if-is_some.true) refl);
        small = omega (arith, w.count-is, c.loop-declaration.invariant.small);
      }
      | else-is_some w ↦ record {
        count = w.count-is ∙ c.loop-declaration.invariant.count ∙ sym (ap length more ∙ length_given front given ∙ rw (gives, w.if-is_some.false) refl);
        small = omega (arith, w.count-is, c.loop-declaration.invariant.small);
      }
    ]
