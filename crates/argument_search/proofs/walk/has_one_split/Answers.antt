use Rattle.argument_search.proofs.OnlySplits.{only_one}
use Rattle.argument_search.proofs.walk.has_one_split.Goals as goal

pub returns : goal.returns
returns c =
    let token = c._token-item in
    let argument = c._argument-item in
    record {
      token = token.result;
      argument = argument.result;
      front = only_one _ token.result c.in-len1.len_at_least c.in-len1.len_below token.is;
      others = only_one _ argument.result c.in-len1-others.len_at_least c.in-len1-others.len_below argument.is;
    }
