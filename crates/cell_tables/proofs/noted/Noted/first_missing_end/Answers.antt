use Rattle.std.proofs.Common.{ℕ, subst}
use Rattle.std.specs.Prelude.{MatchOption}
use Rattle.cell_tables.specs.Bits.{IsBitOf, IsFirstMissing}
use Rattle.cell_tables.specs.Noted.{IsNotedAt, Notes}
use Rattle.cell_tables.proofs.noted.Noted.first_missing_end.Goals as goal

pub returns : goal.returns
returns c =
    let rule = c.args.rule in
    let from = c.args.from in
    let bits = c.args.bits.now in
    let first = c.args.first in
    let past = c.args.past in
    let N : Notes → Type 0 = λ it. MatchOption c.first_missing.result
    ((to : ℕ) → IsBitOf bits first past to → IsNotedAt it rule from to)
    (IsFirstMissing bits first past (λ to. IsNotedAt it rule from to)) in
    subst N c.self.view_is c.first_missing.ensures
