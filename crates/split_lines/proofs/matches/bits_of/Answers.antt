use Rattle.std.proofs.Common.{◌≡◌, ◌/◌, ◌+◌, List, ℕ, length, sym, subst, ap, ◌∙◌, arith}
use Rattle.std.specs.Vec.{with_items}
use Rattle.std.proofs.lemmas.List.{with_items_is, length-replicate}
use Rattle.split_lines.specs.Flags.{AreBits}
use Rattle.split_lines.proofs.BitPositions.{bits_set}
use Rattle.split_lines.proofs.matches.bits_of.Goals as goal

pub set_each-requires-clause-short : goal.set_each-requires-clause-short
set_each-requires-clause-short c = λ position contains. omega (arith, c.requires.count, c.requires.within position contains)

pub set_each-requires-clause-within : goal.set_each-requires-clause-within
set_each-requires-clause-within c = λ position contains.
    let same = c.in_ok-bits.ensures.items_if_clones_equal (λ other e. e) in
    let many = ap length same in
    let begun = ap length c.deref_mut.ensures.value in
    omega (arith, c.requires.within position contains, many, begun, length-replicate {A = ℕ} (c.args.count / 64 + 1) 0)

pub returns : goal.returns
returns c =
    let same = c.in_ok-bits.ensures.items_if_clones_equal (λ other e. e) in
    let F : List ℕ → Type 0 = AreBits c.args.positions.now c.args.shift in
    let refilled : (with_items c.in_ok-bits.bits c.set_each.new.words).items ≡ c.set_each.new.words = with_items_is c.in_ok-bits.bits c.set_each.new.words (c.set_each.ensures.as_many ∙ c.deref_mut.ensures.len) in
    subst F (sym refilled) (bits_set c.args.count (c.args.count / 64 + 1) c.args.positions.now c.args.shift c.deref_mut.result.now c.set_each.new.words (omega arith) c.requires.within (c.deref_mut.ensures.value ∙ same) c.set_each.ensures)
