use Rattle.std.proofs.Common.{is_some, sym, ◌∙◌, ap}
use Rattle.algebra_terms.proofs.PartLists.{some_with_part}
use Rattle.algebra_terms.proofs.part.is_term.Goals as goal

pub loop-after-init : goal.loop-after-init
loop-after-init c = record {
  read = sym (ap is_some c.in-Some.ensures.part ∙ some_with_part _ _);
  within = c.in-Some.ensures.within;
}

pub loop-after-preserved : goal.loop-after-preserved
loop-after-preserved c =
    let found = rw c.in-Ok-Some.field-0-is at c.in-Ok-Some.ensures.part in
    let within = rw c.in-Ok-Some.field-0-is at c.in-Ok-Some.ensures.within in
    record {
      read = sym (ap is_some found ∙ some_with_part _ _) ∙ c.loop-after.invariant.read;
      within = within;
    }
