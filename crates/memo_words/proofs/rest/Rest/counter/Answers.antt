use Rattle.std.proofs.Common.{sym}
use Rattle.memo_words.specs.Passes.{rest_words}
use Rattle.memo_words.proofs.Lists.{at_read}
use Rattle.memo_words.proofs.rest.Rest.counter.Goals as goal

pub returns : goal.returns
returns c = sym (at_read (rest_words c.args.self.now) _ _ 0 c.word.ensures)
