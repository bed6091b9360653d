use Rattle.std.proofs.Common.{sym, ◌∙◌}
use Rattle.job_texts.specs.TextFaults.{is_axiom_line}
use Rattle.grammar_text.specs.Seen.{declaration_seen}
use Rattle.grammar_text.proofs.Scans.{one_passes, one_more_fails, none_passes}
use Rattle.grammar_text.proofs.reader.repeats.has_axiom.Goals as goal

pub returns-then-is_axiom_line : goal.returns-then-is_axiom_line
returns-then-is_axiom_line c =
    sym (one_passes declaration_seen is_axiom_line c.args.declared.now c.loop-declaration.declaration-index c.declaration-item.result
    c.loop-declaration-test.true c.declaration-item.is (sym c.is_axiom_line.ensures ∙ c.if-is_axiom_line.true) c.loop-declaration.invariant)

pub loop-declaration-preserved : goal.loop-declaration-preserved
loop-declaration-preserved c =
    one_more_fails declaration_seen is_axiom_line c.args.declared.now c.loop-declaration.declaration-index c.declaration-item.result
    c.loop-declaration-test.true c.declaration-item.is (sym c.is_axiom_line.ensures ∙ c.if-is_axiom_line.false) c.loop-declaration.invariant

pub returns : goal.returns
returns c = sym (none_passes declaration_seen is_axiom_line c.args.declared.now c.loop-declaration.declaration-index c.loop-declaration-test.false c.loop-declaration.invariant)
