use Rattle.std.proofs.Common.{map}
use Rattle.job_texts.specs.TermParts.{further_parts, parts_of}
use Rattle.algebra_terms.specs.Tokens.{said}
use Rattle.algebra_terms.proofs.PartLists.{goes_on}
use Rattle.algebra_terms.proofs.part.read_parts.Goals as goal

pub loop-parts-preserved : goal.loop-parts-preserved
loop-parts-preserved c =
    let found = rw c.in-Some-2.is at c.in_ok-part.ensures.part in
    let within = rw c.in-Some-2.is at c.in_ok-part.ensures.within in
    record {
      read = goes_on c.loop-parts.parts.items c.push-in-Some-2.new.self.items c.in-Some-2.part
          (further_parts (map (said c.args.line.now) c.loop-parts.rest.now)) (further_parts (map (said c.args.line.now) c.in-Some-2.after.now))
          (parts_of (map (said c.args.line.now) c.args.tokens.now))
          c.in_ok-push-2.ensures.items found c.loop-parts.invariant.read;
      within = within;
    }
