use Rattle.nested_texts.proofs.PlainThere.{plain_there}
use Rattle.nested_texts.proofs.laws.texts_have_plain_texts.Goals as goal

pub returns : goal.returns
returns c = plain_there
