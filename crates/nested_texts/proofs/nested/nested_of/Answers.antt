use Rattle.std.proofs.Common.{◌≡◌, ◌+◌, ◌-◌, ◌<◌, length, sym, ◌∙◌, arith}
use Rattle.std.proofs.lemmas.List.Elements.{All-get_or}
use Rattle.algebra_terms.specs.Tokens.{IsIn}
use Rattle.algebra_terms.specs.declared.lexer.Token as spans
use Rattle.algebra_terms.specs.declared.lexer.TokenKind.TheVariants as kinds
use Rattle.nested_texts.specs.Seen.{from_before}
use Rattle.nested_texts.proofs.Scans.{from_within, ends_more, nested_more, from_taken}
use Rattle.nested_texts.proofs.nested.nested_of.Goals as goal

pub loop-at-preserved : goal.loop-at-preserved
loop-at-preserved c =
    let line = c.args.line.now in
    let tokens = c.args.tokens.now in
    let place = c.loop-at.at - 1 in
    let token : spans.Token = record { kind = kinds.Word; from = 0; to = 0 } in
    let next : place + 1 ≡ c.loop-at.at = omega arith in
    let below : place < length tokens = omega (arith, c.loop-at.invariant.within) in
    let is_in = All-get_or (IsIn line) tokens place token below c.requires in
    let begins = rw (← c.from_before-from.ensures) at (from_within line tokens place (omega arith) c.requires) in
    record {
      within = omega arith;
      scan = c.in_ok-take.ensures.scan;
      lies = c.in_ok-take.ensures.within line begins is_in.inside c.loop-at.invariant.lies;
      ends = c.in_ok-take.ensures.closes ∙ rw (c.symbol_at.ensures.says, c.loop-at.invariant.ends) (sym (ends_more line tokens place c.loop-at.at token next below));
      seen = c.in_ok-take.ensures.found
          ∙ rw (c.symbol_at.ensures.says, c.loop-at.invariant.ends, c.loop-at.invariant.seen, c.from_before-from.ensures, from_taken tokens place c.loop-at.at token next below)
          (sym (nested_more line tokens place c.loop-at.at (from_before tokens place) token next below));
    }
