use Rattle.std.proofs.Common.{◌≡◌, ◌≤◌, ◌+◌, ◌++◌, ◌∷◌, [], length, refl, rules, arith}
use Rattle.job_texts.specs.JobLines.{job_lines}
use Rattle.nested_texts.specs.declared.plain.Plain.{Plain}
use Rattle.nested_texts.specs.PlainTexts.{kept_lines}
use Rattle.nested_texts.specs.Seen.{AddsLines}
use Rattle.nested_texts.proofs.WholeTexts.{whole_text}
use Rattle.nested_texts.proofs.plain.without_nested.Goals as goal

pub overflow_cast-result : goal.overflow_cast-result
overflow_cast-result c =
    let header = c.in_ok-changed.field-0 in
    let few : length header.hidden.origins.items ≤ length c.args.bytes.now = c.in_ok-changed.ensures.few in
    omega (arith, few, c.len.ensures, header.hidden.origins.ok.0, c.requires)

pub returns : goal.returns
returns c =
    let header = c.in_ok-changed.field-0 in
    let plain : Plain = record { text = c.push_kept_lines.new.lines.text; origin = c.push.new.self; hidden = c.len.result } in
    let count : c.len.result ≡ length header.hidden.origins.items = omega (arith, c.len.ensures, header.hidden.origins.ok.0) in
    let text : c.append.new.self.text.items ≡ header.changed.text.items ++ header.hidden.text.items = search rules in
    let origins : c.append.new.self.origins.items ≡ header.changed.origins.items ++ header.hidden.origins.items = search rules in
    let adds : AddsLines c.append.new.self c.push_kept_lines.new.lines (kept_lines header.place (job_lines header.rest.now)) = search rules in
    let behind : c.in_ok-behind.behind ≡ header.place + length (job_lines header.rest.now) = search rules in
    let last : c.push.new.self.items ≡ c.push_kept_lines.new.lines.origins.items ++ c.in_ok-behind.behind ∷ [] = search rules in
    whole_text c.args.bytes.now header c.append.new.self c.push_kept_lines.new.lines c.in_ok-behind.behind plain c.in_ok-changed.ensures
    text origins adds behind refl last count
