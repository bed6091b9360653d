use Rattle.std.proofs.Common.{refl}
use Rattle.grammar_text.proofs.reader.rules.alternative_of.Goals as goal

pub returns : goal.returns
returns c = λ all h. rw (c.sign_number.ensures all h, c.new.ensures, c.in_ok-args.ensures all h, c.deref.ensures.value, c.size_of.ensures) refl
