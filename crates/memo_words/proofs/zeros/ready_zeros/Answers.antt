use Rattle.std.proofs.lemmas.List.{take-replicate}
use Rattle.memo_words.proofs.zeros.ready_zeros.Goals as goal

pub returns : goal.returns
returns c = take-replicate c.args.count _ 0 c.requires
