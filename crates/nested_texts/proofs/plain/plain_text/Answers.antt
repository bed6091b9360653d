use Rattle.std.proofs.Common.{◌≡◌, ◌+◌, ◌≤◌, ◌∷◌, length, true, false, arith, rules}
use Rattle.std.proofs.lemmas.Grind.{common_steps}
use Rattle.job_texts.specs.JobLines.{job_lines, line_at}
use Rattle.nested_texts.specs.PlainTexts.{is_third_format}
use Rattle.nested_texts.proofs.WholeTexts.{by_third, by_itself}
use Rattle.nested_texts.proofs.plain.plain_text.Goals as goal

pub returns : goal.returns
returns c =
    let lines : job_lines c.args.bytes.now ≡ c.in-Some.line.now ∷ job_lines c.in-Some.behind.now = search rules in
    let within : length c.in-Some.line.now + length c.in-Some.behind.now ≤ length c.args.bytes.now = search rules in
    let third : is_third_format c.in-Some.line.now ≡ true = grind (arith, common_steps) in
    by_third c.args.bytes.now c.in-Some.line.now c.in-Some.behind.now c.without_nested.result lines third within c.requires c.without_nested.ensures

pub returns-then-not-is_third_format : goal.returns-then-not-is_third_format
returns-then-not-is_third_format c =
    let lines : job_lines c.args.bytes.now ≡ c.in-Some.line.now ∷ job_lines c.in-Some.behind.now = search rules in
    let third : is_third_format c.in-Some.line.now ≡ false = grind (arith, common_steps) in
    let other : is_third_format (line_at (job_lines c.args.bytes.now) 1) ≡ false = rw lines third in
    by_itself c.args.bytes.now c.itself-then-not-is_third_format.result other c.itself-then-not-is_third_format.ensures
