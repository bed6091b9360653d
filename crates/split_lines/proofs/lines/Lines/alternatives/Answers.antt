use Rattle.std.proofs.Common.{◌<◌, List, length, get_or, sym, ap, subst, arith}
use Rattle.adp_model.specs.Parts.{alternatives_of}
use Rattle.adp_model.specs.PosedProblem.{PosedProblem}
use Rattle.split_lines.specs.declared.kept.KeptAlternative.{KeptAlternative}
use Rattle.split_lines.specs.KeptRules.{kept_of}
use Rattle.split_lines.specs.Kept.{IsAlternative}
use Rattle.split_lines.proofs.KeptLines.{kept_rule_read}
use Rattle.split_lines.proofs.lines.Lines.alternatives.Goals as goal

pub returns-clause-are : goal.returns-clause-are
returns-clause-are c = λ alternative d l.
    let p = c.self.inside.tables in
    let rule = c.args.rule in
    let known : rule < length p.grammar.rules = subst (λ (p : PosedProblem). rule < length p.grammar.rules) (sym c.self.view_is) c.requires in
    let it = kept_rule_read p (kept_of c.self.inside.kept) c.rules.result.now rule c.index.result.now known c.self.invariant.short c.self.invariant.kept_are c.rules.ensures c.index.ensures in
    let items = c.index.result.now.alternatives.items in
    let listed = ap (λ (them : List KeptAlternative). length them) c.deref.ensures.value in
    let in_range : alternative < length (alternatives_of p.grammar rule) = omega (arith, l, listed, it.alternatives.each) in
    let parts = subst (λ p. IsAlternative p rule alternative (get_or items alternative d)) c.self.view_is (it.alternatives.are alternative d in_range).parts in
    subst (λ (them : List KeptAlternative). IsAlternative c.args.self.now rule alternative (get_or them alternative d)) (sym c.deref.ensures.value) parts
