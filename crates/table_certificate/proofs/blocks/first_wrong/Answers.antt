use Rattle.std.proofs.Common.{◌+◌, Option, sym, subst}
use Rattle.adp_model.specs.declared.grammar.Grammar.{Grammar}
use Rattle.adp_model.specs.declared.cell.Cell.{Cell}
use Rattle.table_certificate.specs.BlockLines.{lines_ahead}
use Rattle.table_certificate.specs.NextForms.{IsNextLine}
use Rattle.table_certificate.proofs.BlockSteps.{AreJudged, one_more_judged, wrong_here}
use Rattle.table_certificate.proofs.KeptLines.{form_known}
use Rattle.table_certificate.proofs.blocks.first_wrong.Goals as goal

pub right_line-requires : goal.right_line-requires
right_line-requires c =
    let line = subst (λ (g : Grammar). IsNextLine g c.lines.rest.now c.in-Some.form c.in-Some.behind.now) c.requires.same c.in-Some.ensures in
    record {
      solved = c.requires.solved;
      noted = c.requires.noted;
      form = form_known c.args.lines.now.grammar line.next.exact c.in-Some.form line.next.is line.next.known;
    }

pub returns-in-None : goal.returns-in-None
returns-in-None c =
    let line = subst (λ (g : Grammar). IsNextLine g c.lines.rest.now c.in-Some.form c.in-Some.behind.now) c.requires.same c.in-Some.ensures in
    let wrong = rw c.in-None.is at (c.right_line.ensures (lines_ahead c.args.lines.now.grammar c.args.text.now) line.next.exact c.requires.told line.next.is line.other) in
    wrong_here c.args.lines.now c.args.text.now c.lines.rest.now c.in-Some.behind.now c.lines.count c.lines.earlier line.next.exact c.lines.invariant line.next.first line.other wrong

pub lines-preserved : goal.lines-preserved
lines-preserved c =
    let line = subst (λ (g : Grammar). IsNextLine g c.lines.rest.now c.in-Some.form c.in-Some.behind.now) c.requires.same c.in-Some.ensures in
    let right = rw c.in-Some-right_line.is at (c.right_line.ensures (lines_ahead c.args.lines.now.grammar c.args.text.now) line.next.exact c.requires.told line.next.is line.other) in
    subst (λ (x : Option Cell). AreJudged c.args.lines.now c.args.text.now c.in-Some.behind.now (c.lines.count + 1) x) (sym right.0)
    (one_more_judged c.args.lines.now c.args.text.now c.lines.rest.now c.in-Some.behind.now c.lines.count c.lines.earlier line.next.exact c.lines.invariant line.next.first line.other
    line.next.fewer right.1)
