use Rattle.std.proofs.Common.{sym, subst, arith}
use Rattle.split_lines.specs.declared.kept.KeptAlternative.{KeptAlternative}
use Rattle.split_lines.specs.Kept.{IsAlternative}
use Rattle.argument_search.proofs.passing.kept.Goals as goal

pub returns : goal.returns
returns c =
    subst (λ (k : KeptAlternative). IsAlternative c.args.lines.now c.args.rule c.args.alt k)
    (sym c.index-alternatives-alt.is)
    (c.alternatives.ensures.are c.args.alt c.index-alternatives-alt.result
    (omega (arith, c.alternatives.ensures.each, c.requires)))
