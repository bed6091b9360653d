use Rattle.std.proofs.Common.{ℕ, subst}
use Rattle.std.specs.Prelude.{MatchOption}
use Rattle.cell_tables.specs.Bits.{IsBitOf, IsFirstMissing, IsSet}
use Rattle.cell_tables.specs.Noted.{IsNotedAt, Notes}
use Rattle.cell_tables.proofs.MissingBits.{missing_like}
use Rattle.cell_tables.proofs.noted.Noted.first_missing_start.Goals as goal

pub returns : goal.returns
returns c =
    let inside = c.self.inside in
    let notes : Notes = record { problem = inside.problem.now; rows = inside.rows; columns = inside.columns } in
    let rule = c.args.rule in
    let to = c.args.to in
    let bits = c.args.bits.now in
    let first = c.args.first in
    let past = c.args.past in
    let N : Notes → Type 0 = λ it. MatchOption c.first_missing.result
    ((from : ℕ) → IsBitOf bits first past from → IsNotedAt it rule from to)
    (IsFirstMissing bits first past (λ from. IsNotedAt it rule from to)) in
    subst N c.self.view_is
    (missing_like bits first past (λ from. IsSet notes.columns rule to from) (λ from. IsNotedAt notes rule from to)
    (λ from.
    let told = c.self.invariant.together (record { rule = rule; from = from; to = to }) in
    (told.1, told.0)) c.first_missing.result c.first_missing.ensures)
