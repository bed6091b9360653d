use Rattle.std.proofs.Common.{length, sym, ap, ◌∙◌}
use Rattle.lex_product.proofs.checking.is_adding.Goals as goal

pub have_unit_scores-requires : goal.have_unit_scores-requires
have_unit_scores-requires c =
    let fits = rw c.in-Linear.is at c.requires in
    sym fits.factors ∙ ap length (sym c.as_slice.ensures)
