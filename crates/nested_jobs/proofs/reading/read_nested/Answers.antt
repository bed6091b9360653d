use Rattle.std.proofs.Common.{◌≡◌, false, rules, arith}
use Rattle.std.proofs.lemmas.Grind.{common_steps}
use Rattle.job_texts.specs.JobLines.{job_lines, line_at}
use Rattle.job_texts.specs.JobText.{IsFaultOf}
use Rattle.nested_texts.specs.IsPlain.{IsPlain}
use Rattle.nested_texts.specs.PlainTexts.{is_third_format}
use Rattle.nested_jobs.proofs.Readings.{as_it_stands, none_hidden}
use Rattle.nested_jobs.proofs.reading.read_nested.Goals as goal

pub returns-then-not-is_nested_text : goal.returns-then-not-is_nested_text
returns-then-not-is_nested_text c =
    let other : is_third_format (line_at (job_lines c.args.bytes.now) 1) ≡ false = grind (arith, common_steps) in
    let none = none_hidden c.args.bytes.now other in
    as_it_stands c.args.bytes.now (c.plain_texts_stay.ensures.job c.args.bytes.now none)
    (c.plain_texts_stay.ensures.fault c.args.bytes.now none) c.read_text.result c.read_text.ensures

pub at_origin-requires-clause-last : goal.at_origin-requires-clause-last
at_origin-requires-clause-last c =
    let fault = c.in-Err-Fault.fault in
    let is : IsPlain c.args.bytes.now c.in_ok-plain.plain = search rules in
    let read : IsFaultOf c.in_ok-plain.plain.text.items fault = search rules in
    let text = c.in_ok-plain.plain.text.items in
    let within = c.faults_have_origins.ensures.within c.args.bytes.now text fault is.lines read in
    rw (c.deref-in-Err-Fault.ensures.value, is.origin) (omega (arith, within))
