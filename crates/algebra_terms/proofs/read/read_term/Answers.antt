use Rattle.std.proofs.Common.{◌≡◌, sym, subst, ◌∙◌, true, false, map}
use Rattle.std.proofs.lemmas.Result.{err_from_is_err_and}
use Rattle.job_texts.specs.TermText.{term_of_parts, are_names, are_numbers}
use Rattle.job_texts.specs.TermParts.{parts_of, term_reading}
use Rattle.algebra_terms.specs.Tokens.{said}
use Rattle.algebra_terms.specs.Reading.{parts_seen, IsMissing}
use Rattle.algebra_terms.proofs.Readings.{reading_is, no_parts, no_names, no_numbers}
use Rattle.algebra_terms.proofs.read.read_term.Goals as goal
use Rattle.algebra_terms.proofs.read.read_term.Goals.{In_ok-parts}

reading : (c : In_ok-parts) → term_reading c.args.bytes.now c.args.vars.now ≡ term_of_parts c.args.vars.now (parts_seen c.in_ok-parts.parts.items)
reading c =
    let read = rw c.deref.ensures.value at c.in_ok-parts.ensures in
    reading_is c.args.bytes.now c.args.vars.now c.in_ok-tokens.tokens.items (parts_seen c.in_ok-parts.parts.items) c.in_ok-tokens.ensures.tokens read

pub returns-in_err-parts : goal.returns-in_err-parts
returns-in_err-parts c =
    let failed = err_from_is_err_and c.from_residual-in_err-parts.result c.from_residual-in_err-parts.ensures.1 in
    let missing = subst (λ tokens. IsMissing (parts_of (map (said c.args.bytes.now) tokens)) c.in_err-parts.field-0.0) c.deref.ensures.value c.in_err-parts.ensures in
    rw (failed.1, failed.2) (no_parts c.args.bytes.now c.args.vars.now c.in_ok-tokens.tokens.items c.in_err-parts.field-0.0 c.in_ok-tokens.ensures.tokens missing)

pub returns-then-not-are_names : goal.returns-then-not-are_names
returns-then-not-are_names c =
    let parts = parts_seen c.in_ok-parts.parts.items in
    let names : are_names parts ≡ false = rw c.deref-2.ensures.value at (sym c.are_names.ensures ∙ c.if-not-are_names.true) in
    reading (goal.at.returns-then-not-are_names c).In_ok-parts ∙ no_names parts c.args.vars.now names

pub returns-then-not-are_numbers : goal.returns-then-not-are_numbers
returns-then-not-are_numbers c =
    let parts = parts_seen c.in_ok-parts.parts.items in
    let names : are_names parts ≡ true = rw c.deref-2.ensures.value at (sym c.are_names.ensures ∙ c.if-not-are_names.false) in
    let numbers : are_numbers parts ≡ false = rw c.deref-3.ensures.value at (sym c.are_numbers.ensures ∙ c.if-not-are_numbers.true) in
    reading (goal.at.returns-then-not-are_numbers c).In_ok-parts ∙ no_numbers parts c.args.vars.now names numbers

pub returns : goal.returns
returns c =
    let made = rw c.deref-4.ensures.value at c.term_of_parts.ensures in
    rw (reading (goal.at.returns c).In_ok-parts) made
