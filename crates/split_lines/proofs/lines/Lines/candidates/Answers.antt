use Rattle.std.proofs.Common.{◌≡◌, ◌<◌, ◌≤◌, ℕ, List, length, get_or, sym, ap, subst, ◌∙◌, arith}
use Rattle.adp_model.specs.PosedProblem.{PosedProblem}
use Rattle.adp_model.specs.ProblemFields.{IsAdmissible}
use Rattle.adp_model.specs.Parts.{alternatives_of, arguments_of}
use Rattle.split_lines.specs.declared.kept.KeptAlternative.{KeptAlternative}
use Rattle.split_lines.specs.Beginnings.{StandsAt}
use Rattle.split_lines.specs.KeptRules.{kept_of}
use Rattle.split_lines.specs.Kept.{AreInFront, IsAlternative, first_text}
use Rattle.split_lines.specs.Ways.{IsClosed}
use Rattle.split_lines.proofs.KeptLines.{kept_rule_read}
use Rattle.split_lines.proofs.Openings.{closed_at_other_letters}
use Rattle.split_lines.proofs.lines.Lines.candidates.Goals as goal

pub returns-clause-others : goal.returns-clause-others
returns-clause-others c = λ alternative d l none.
    let p = c.self.inside.tables in
    let q = c.args.self.now in
    let cell = c.args.cell in
    let items = c.index-rule.result.now.alternatives.items in
    let known : cell.rule < length p.grammar.rules = subst (λ (p : PosedProblem). cell.rule < length p.grammar.rules) (sym c.self.view_is) c.requires in
    let it = kept_rule_read p (kept_of c.self.inside.kept) c.rules.result.now cell.rule c.index-rule.result.now known c.self.invariant.short c.self.invariant.kept_are c.rules.ensures c.index-rule.ensures in
    let listed = ap (λ (them : List KeptAlternative). length them) c.deref.ensures.value in
    let in_range : alternative < length (alternatives_of p.grammar cell.rule) = omega (arith, l, listed, it.alternatives.each) in
    let kept = get_or items alternative d in
    let word_is : c.letters-word.result.now ≡ q.word = c.letters-word.ensures.word ∙ ap (λ (p : PosedProblem). p.word) c.problem-2.ensures in
    let S : List ℕ → Type 0 = λ word. StandsAt word cell.from (first_text kept.front.now) in
    let other : S q.word → ⊥ = λ stands. none (c.bits_at.ensures alternative (first_text kept.front.now) (it.beginnings alternative d in_range) (subst S (sym word_is) stands)) in
    let in_front : AreInFront q kept = subst (λ p. AreInFront p kept) c.self.view_is (it.alternatives.are alternative d in_range).parts.in_front in
    let admissible : IsAdmissible q = subst (λ (p : PosedProblem). IsAdmissible p) c.problem.ensures c.admissible.ensures in
    let some : (alternative : ℕ) → alternative < length (alternatives_of q.grammar cell.rule) → 1 ≤ length (arguments_of q.grammar cell.rule alternative) = λ alternative l.
    c.alternatives_fit.ensures.arguments q.grammar admissible.checked.well_formed cell.rule alternative l in
    let closed = closed_at_other_letters q kept in_front cell some other in
    subst (λ (them : List KeptAlternative). IsClosed q (get_or them alternative d) cell) (sym c.deref.ensures.value) closed

pub returns-clause-are : goal.returns-clause-are
returns-clause-are c = λ alternative d l.
    let p = c.self.inside.tables in
    let rule = c.args.cell.rule in
    let known : rule < length p.grammar.rules = subst (λ (p : PosedProblem). rule < length p.grammar.rules) (sym c.self.view_is) c.requires in
    let it = kept_rule_read p (kept_of c.self.inside.kept) c.rules.result.now rule c.index-rule.result.now known c.self.invariant.short c.self.invariant.kept_are c.rules.ensures c.index-rule.ensures in
    let items = c.index-rule.result.now.alternatives.items in
    let listed = ap (λ (them : List KeptAlternative). length them) c.deref.ensures.value in
    let in_range : alternative < length (alternatives_of p.grammar rule) = omega (arith, l, listed, it.alternatives.each) in
    let parts = subst (λ p. IsAlternative p rule alternative (get_or items alternative d)) c.self.view_is (it.alternatives.are alternative d in_range).parts in
    subst (λ (them : List KeptAlternative). IsAlternative c.args.self.now rule alternative (get_or them alternative d)) (sym c.deref.ensures.value) parts
