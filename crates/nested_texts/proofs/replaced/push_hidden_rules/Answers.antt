use Rattle.std.proofs.Common.{◌≡◌, suc, ◌+◌, length, List, ap, arith}
use Rattle.std.proofs.Common.{◌∷◌, [], map}
use Rattle.std.proofs.lemmas.List.Elements.{All-tail}
use Rattle.nested_texts.specs.declared.nested.Nested.{Nested}
use Rattle.nested_texts.specs.PlainTexts.{hidden_rule, hidden_rules, line_of}
use Rattle.nested_texts.specs.Seen.{nested_seen, IsWithin}
use Rattle.nested_texts.proofs.AddedLines.{text_more, origins_more}
use Rattle.nested_texts.proofs.replaced.push_hidden_rules.Goals as goal

pub loop-first-preserved : goal.loop-first-preserved
loop-first-preserved c =
    let line = c.args.line.now in
    let first = c.in-Some.first.now in
    let others = c.in-Some.others.now in
    let split = c.in-Some.ensures.cases.0 in
    let inside = rw split at c.loop-first.invariant.inside in
    let size : length c.loop-first.rest.now ≡ suc (length others) = ap (λ (those : List Nested). length those) split in
    let rule = line_of c.args.origin (hidden_rule line c.loop-first.next (nested_seen first) (map nested_seen others)) in
    let further = map (line_of c.args.origin) (hidden_rules line (c.loop-first.next + 1) (map nested_seen others)) in
    record {
      inside = inside.2;
      within = All-tail (IsWithin line) first others (rw split at c.loop-first.invariant.within);
      numbers = omega (arith, size, c.loop-first.invariant.numbers);
      text = text_more c.loop-first.lines c.push_hidden_rule.new.lines (rule ∷ []) further _ c.in_ok-push_hidden_rule.ensures (rw split at c.loop-first.invariant.text);
      origins = origins_more c.loop-first.lines c.push_hidden_rule.new.lines (rule ∷ []) further _ c.in_ok-push_hidden_rule.ensures (rw split at c.loop-first.invariant.origins);
    }
