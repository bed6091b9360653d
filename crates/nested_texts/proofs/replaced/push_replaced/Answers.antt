use Rattle.std.proofs.Common.{◌≡◌, suc, ◌+◌, ◌-◌, length, take, drop, length-drop, ap, ◌∙◌, List, arith}
use Rattle.std.proofs.lemmas.List.Elements.{All-drop, All-head, All-same, All-tail}
use Rattle.nested_texts.specs.declared.nested.Nested.{Nested}
use Rattle.nested_texts.specs.Seen.{nested_seen, IsWithin}
use Rattle.nested_texts.proofs.SplitLines.{rest_of}
use Rattle.nested_texts.proofs.Replacing.{behind_within, inside_behind, replaced_step}
use Rattle.nested_texts.proofs.replaced.push_replaced.Goals as goal

pub loop-first-preserved : goal.loop-first-preserved
loop-first-preserved c =
    let line = c.args.line.now in
    let first = c.in-Some.first.now in
    let others = c.in-Some.others.now in
    let split = c.in-Some.ensures.0 in
    let inside = rw split at c.loop-first.invariant.inside in
    let within = rw split at c.loop-first.invariant.within in
    let is_in = All-head (IsWithin line) first others within in
    let rest = rest_of others first.inside in
    let rest_size : length (take (length others - first.inside) (drop first.inside others)) ≡ length others - first.inside =
    ap (λ (those : List Nested). length those) rest ∙ length-drop first.inside others in
    let size : length c.loop-first.rest.now ≡ suc (length others) = ap (λ (those : List Nested). length those) split in
    record {
      begins = rw c.in_ok-begin.ensures.behind (behind_within line (c.args.span.around + 1) c.loop-first.begin (nested_seen first) c.loop-first.invariant.begins is_in.ends);
      inside = rw rest (inside_behind first.inside others inside.2);
      within = All-same (IsWithin line) _ _ rest (All-drop (IsWithin line) first.inside others (All-tail (IsWithin line) first others within));
      numbers = omega (arith, rest_size, size, inside.0, c.loop-first.invariant.numbers);
      seen = rw rest
          (replaced_step line c.args.span.to c.args.span.around c.loop-first.next c.loop-first.begin c.in_ok-begin.begin (c.loop-first.next + (1 + first.inside))
          first others c.loop-first.out.items c.push_first.new.out.items _ c.in-Some.ensures.1 inside.0 inside.1
          c.in_ok-begin.ensures.piece c.in_ok-begin.ensures.behind (omega arith) (rw split at c.loop-first.invariant.seen));
    }
