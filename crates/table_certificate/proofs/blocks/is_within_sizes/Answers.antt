use Rattle.table_certificate.proofs.blocks.is_within_sizes.Goals as goal

pub returns : goal.returns
returns c = (
  λ is. (c.sizes-least.ensures c.args.letters).1 (c.is_between.ensures.0 is),
  λ within. c.is_between.ensures.1 ((c.sizes-least.ensures c.args.letters).0 within),
)
