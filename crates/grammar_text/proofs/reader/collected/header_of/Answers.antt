use Rattle.std.proofs.lemmas.Grind.{common_steps}
use Rattle.std.proofs.Common.{◌∷◌, arith, sym, ◌∙◌}
use Rattle.job_texts.specs.Declarations as forms
use Rattle.grammar_text.specs.Collecting.{header_seen}
use Rattle.grammar_text.specs.Seen.{line_seen}
use Rattle.grammar_text.proofs.Headings.{heading_from, seen_ends, seen_goes_on}
use Rattle.grammar_text.proofs.reader.collected.header_of.Goals as goal

pub returns-then-branch-clause-seen : goal.returns-then-branch-clause-seen
returns-then-branch-clause-seen c =
    c.in_ok-push_line.ensures.seen
    ∙ seen_ends c.args.version (header_seen c.loop-line.header) (forms.Skipped ∷ heading_from c.args.version c.args.lines.now 0) (line_seen c.in_ok-found.found) c.args.lines.now c.loop-line.line-index _ (omega arith)
    c.in_ok-found.ensures (sym c.in_ok-push_line.ensures.last ∙ c.if-branch.true) c.loop-line.invariant.seen

pub loop-line-preserved : goal.loop-line-preserved
loop-line-preserved c = record {
  says = c.in_ok-push_line.ensures.says;
  seen =
      rw c.in_ok-push_line.ensures.seen
      (seen_goes_on c.args.version (header_seen c.loop-line.header) (forms.Skipped ∷ heading_from c.args.version c.args.lines.now 0) (line_seen c.in_ok-found.found) c.args.lines.now c.loop-line.line-index _ (omega arith)
      c.in_ok-found.ensures (sym c.in_ok-push_line.ensures.last ∙ c.if-branch.false) c.loop-line.invariant.seen);
}

pub loop-line-init : goal.loop-line-init
loop-line-init c = grind (arith, common_steps)

pub returns-clause-seen : goal.returns-clause-seen
returns-clause-seen c = grind (arith, common_steps)
