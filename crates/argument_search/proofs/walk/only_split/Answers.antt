use Rattle.argument_search.proofs.OnlySplits.{only_one, only_entry}
use Rattle.argument_search.proofs.walk.only_split.Goals as goal

pub returns : goal.returns
returns c = λ turns.
    let token = c._token-item in
    let argument = c.argument-item in
    only_entry c.args.lines.now c.args.cell c.args.alt c.args.alternative.now c.requires.alternative token.result
    argument.result (only_one _ token.result c.in-len1.len_at_least c.in-len1.len_below token.is)
    (only_one _ argument.result c.in-len1-others.len_at_least c.in-len1-others.len_below argument.is)
    c.requires.in_range c.args.end c.requires.opening (c.fits.ensures.0 c.if-not-fits.false) turns
