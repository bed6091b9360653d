use Rattle.std.proofs.Common.{◌≡◌, length, append-nil, sym, ◌∙◌, arith}
use Rattle.job_texts.specs.JobLines.{job_lines}
use Rattle.nested_texts.specs.Seen.{BeginsHeader, EndsHeader}
use Rattle.nested_texts.proofs.Reading.{changed_text, changed_origins, hidden_text, hidden_origins, from_behind_line, one_before, rules_added}
use Rattle.nested_texts.proofs.plain.read_header.Goals as goal

pub header-preserved : goal.header-preserved
header-preserved c =
    let line = c.in-Some.line.now in
    let nested = c.in-Some.nested.items in
    let rest = job_lines c.header.rest.now in
    let behind = job_lines c.in-Some.behind.now in
    let first : BeginsHeader c.header.rest.now line nested c.in-Some.behind.now = rw c.in-Some.is at c.in_ok-line.ensures in
    let place = c.header.place in
    let number = c.header.number in
    let size : c.len.result ≡ length nested = omega (arith, c.len.ensures, c.in-Some.nested.ok.0) in
    let changed = rw c.deref.ensures.value at c.in_ok-push_changed_line.ensures in
    let hidden = rw c.deref-in-Some.ensures.value at c.in_ok-push_hidden_rules.ensures in
    let count = rules_added line place number nested c.header.hidden c.push_hidden_rules.new.lines hidden in
    let before = one_before rest behind line nested first.lines first.first in
    record {
      short = omega (arith, first.shorter, c.header.invariant.short);
      few = omega (arith, size, first.first.few, first.within, c.header.invariant.few);
      count = omega (arith, size, count, c.header.invariant.count);
      changed = rw size (changed_text rest behind line nested first.lines first.first place number c.header.changed c.push_changed_line.new.lines _ changed c.header.invariant.changed);
      changed_origins = rw size (changed_origins rest behind line nested first.lines first.first place number c.header.changed c.push_changed_line.new.lines _ changed c.header.invariant.changed_origins);
      hidden = rw size (hidden_text rest behind line nested first.lines first.first place number c.header.hidden c.push_hidden_rules.new.lines _ hidden c.header.invariant.hidden);
      hidden_origins = rw size (hidden_origins rest behind line nested first.lines first.first place number c.header.hidden c.push_hidden_rules.new.lines _ hidden c.header.invariant.hidden_origins);
      rest = from_behind_line rest behind line nested first.lines first.first ∙ c.header.invariant.rest;
      place = omega (arith, before, c.header.invariant.place);
    }

pub returns : goal.returns
returns c =
    let ends : EndsHeader c.header.rest.now = rw c.in_default.is at c.in_ok-line.ensures in
    let place = rw ends.before at c.header.invariant.place in
    record {
      changed = sym (append-nil c.header.changed.text.items) ∙ rw ends.before at c.header.invariant.changed;
      changed_origins = sym (append-nil c.header.changed.origins.items) ∙ rw ends.before at c.header.invariant.changed_origins;
      hidden = sym (append-nil c.header.hidden.text.items) ∙ rw ends.before at c.header.invariant.hidden;
      hidden_origins = sym (append-nil c.header.hidden.origins.items) ∙ rw ends.before at c.header.invariant.hidden_origins;
      rest = sym ends.rest ∙ c.header.invariant.rest;
      place = omega (arith, place);
      short = c.header.invariant.short;
      few = omega (arith, c.header.invariant.few, c.header.invariant.count);
    }
