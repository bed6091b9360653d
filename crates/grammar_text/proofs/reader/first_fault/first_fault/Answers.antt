use Rattle.std.proofs.Common.{◌≡◌, ◌∷◌, [], List, suc, length, get_or, sym, ap, ◌∙◌, add-one, arith}
use Rattle.grammar_text.specs.declared.reader.collected.LineSort.{LineSort}
use Rattle.grammar_text.specs.declared.reader.collected.LineSort.TheVariants.{Skipped}
use Rattle.grammar_text.specs.Collecting.{says_in}
use Rattle.grammar_text.specs.Gathering.{text_seen}
use Rattle.grammar_text.proofs.Placing.{next_place, says_in_take}
use Rattle.grammar_text.proofs.FirstFaults.{fault_found, fault_later}
use Rattle.grammar_text.proofs.reader.first_fault.first_fault.Goals as goal

pub returns-in-Some : goal.returns-in-Some
returns-in-Some c =
    sym (c.loop-index.invariant.left
    ∙ fault_found (text_seen c.args.text.now) c.loop-index.index (length c.args.text.now.lines.items) _ (omega arith)
    (sym (c.least_kind.ensures (text_seen c.args.text.now) c.in_ok-tests.ensures) ∙ c.in-Some.is))

pub overflow_add-place : goal.overflow_add-place
overflow_add-place c =
    let sorts = c.args.text.now.header.sorts.items in
    let says : c.says_at-place.result ≡ says_in (get_or sorts c.loop-index.index Skipped ∷ []) = c.says_at-place.ensures ∙ ap (λ (these : List LineSort). says_in (get_or these c.loop-index.index Skipped ∷ [])) c.deref.ensures.value in
    let next = next_place c.loop-index.index sorts in
    let within = says_in_take (suc c.loop-index.index) sorts in
    omega (arith, says, next, within, c.loop-index.invariant.place, c.requires.says, c.requires.few_declared)

pub loop-index-preserved : goal.loop-index-preserved
loop-index-preserved c =
    let sorts = c.args.text.now.header.sorts.items in
    let says : c.says_at-place.result ≡ says_in (get_or sorts c.loop-index.index Skipped ∷ []) = c.says_at-place.ensures ∙ ap (λ (these : List LineSort). says_in (get_or these c.loop-index.index Skipped ∷ [])) c.deref.ensures.value in
    record {
      place = rw (says, c.loop-index.invariant.place, add-one) (sym (next_place c.loop-index.index sorts));
      left =
          c.loop-index.invariant.left
          ∙ fault_later (text_seen c.args.text.now) c.loop-index.index (length c.args.text.now.lines.items) (omega arith)
          (sym (c.least_kind.ensures (text_seen c.args.text.now) c.in_ok-tests.ensures) ∙ c.in_default.is);
    }
