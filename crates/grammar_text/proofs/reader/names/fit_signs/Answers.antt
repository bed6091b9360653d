use Rattle.std.proofs.Common.{map, sym, ◌∙◌}
use Rattle.job_texts.specs.TextFaults.{fits_sign}
use Rattle.grammar_text.specs.Seen.{alternative_seen, declaration_seen}
use Rattle.grammar_text.proofs.Scans.{one_fails, one_more_passes}
use Rattle.grammar_text.proofs.reader.names.fit_signs.Goals as goal

pub returns-then-not-fits_sign : goal.returns-then-not-fits_sign
returns-then-not-fits_sign c =
    let all = map declaration_seen c.args.declared.now in
    sym (one_fails alternative_seen (fits_sign all) c.args.alternatives.now c.loop-alternative.alternative-index c.alternative-item.result
    c.loop-alternative-test.true c.alternative-item.is (sym c.fits_sign.ensures ∙ c.if-not-fits_sign.true) c.loop-alternative.invariant)

pub loop-alternative-preserved : goal.loop-alternative-preserved
loop-alternative-preserved c =
    let all = map declaration_seen c.args.declared.now in
    one_more_passes alternative_seen (fits_sign all) c.args.alternatives.now c.loop-alternative.alternative-index c.alternative-item.result
    c.loop-alternative-test.true c.alternative-item.is (sym c.fits_sign.ensures ∙ c.if-not-fits_sign.false) c.loop-alternative.invariant
