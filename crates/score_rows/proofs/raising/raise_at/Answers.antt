use Rattle.std.proofs.Common.{◌≡◌, Some, map, slice_get, slice_set, sym, ap, subst, ◌∙◌, refl, inl, arith}
use Rattle.std.specs.Int.{int_max}
use Rattle.std.proofs.lemmas.Int.{ints}
use Rattle.std.proofs.lemmas.List.{map-set}
use Rattle.score_rows.specs.Raised.{AreHighest, IsAnywhere, IsAt}
use Rattle.score_rows.proofs.Highest.{highest_max, row_at}
use Rattle.score_rows.proofs.Positions.{set_there, value_at}
use Rattle.score_rows.proofs.raising.raise_at.Goals as goal

pub returns-clause-raised : goal.returns-clause-raised
returns-clause-raised g c =
    let value = g.N.RowNumber.value in
    let width = g.N.RowNumber.width in
    let row = c.args.row.now in
    let at = c.args.at in
    let number = value c.args.number in
    let before = value c.index-row-at.result in
    let was : slice_get (map value row) at ≡ Some before = value_at value row at c.index-row-at.result c.requires (sym c.index-row-at.is) in
    subst (AreHighest width (IsAt at number) IsAnywhere (map value row))
    (sym (map-set value row at c.most.result ∙ ap (slice_set (map value row) at) c.most.ensures))
    (row_at width (IsAt at number) IsAnywhere (map value row) at before (int_max before number) was (λ k other has. has.0)
    (λ low. highest_max width (IsAt at number at) before number (λ other has. let same = has.1 in omega (arith, ints)) (inl (refl, refl))))

pub returns-clause-others : goal.returns-clause-others
returns-clause-others g c = λ k apart.
    let value = g.N.RowNumber.value in
    ap (λ xs. slice_get xs k) (map-set value c.args.row.now c.args.at c.most.result)
    ∙ set_there (map value c.args.row.now) c.args.at k (value c.most.result) apart
