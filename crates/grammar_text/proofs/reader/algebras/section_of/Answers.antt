use Rattle.std.proofs.Common.{◌≡◌, true, ap}
use Rattle.job_texts.specs.DeclaredNames.{is_algebra_line}
use Rattle.grammar_text.specs.Seen.{declaration_seen}
use Rattle.grammar_text.proofs.Sections.{end_here, end_later, no_end, no_algebra}
use Rattle.grammar_text.proofs.reader.algebras.section_of.Goals as goal

pub loop-i-preserved : goal.loop-i-preserved
loop-i-preserved c =
    end_later c.args.below.now c.loop-i.i c.index-below-i.result c.loop-i-test.true c.index-below-i.is c.loop-i.invariant (no_algebra c.index-below-i.result c.in_default.not-Algebra)

pub returns-in-Algebra : goal.returns-in-Algebra
returns-in-Algebra c =
    let here : is_algebra_line (declaration_seen c.index-below-i.result) ≡ true = ap (λ d. is_algebra_line (declaration_seen d)) c.in-Algebra.is in
    end_here c.args.below.now c.loop-i.i c.index-below-i.result c.loop-i-test.true c.index-below-i.is c.loop-i.invariant here

pub returns : goal.returns
returns c = no_end c.args.below.now c.loop-i.i c.loop-i-test.false c.loop-i.invariant
