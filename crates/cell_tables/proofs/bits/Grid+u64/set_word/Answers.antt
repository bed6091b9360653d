use Rattle.std.proofs.Common.{◌≡◌, ℕ, Option, Some, None, refl, sym, ap, subst, ◌∙◌}
use Rattle.std.specs.Prelude.{IsSome, unwrap_or}
use Rattle.cell_tables.proofs.SpanBits.{word_written}
use Rattle.cell_tables.proofs.bits.Grid+u64.set_word.Goals as goal

some_unwrapped : (found : Option ℕ) → IsSome found → found ≡ Some (unwrap_or found 0)
some_unwrapped None some = absurd cc
some_unwrapped (Some value) some = refl

pub returns : goal.returns
returns c =
    let now = c.args.self.now in
    let rule = c.args.rule in
    let near = c.args.near in
    let number = c.args.number in
    let old = c.unwrap_or-old.result in
    let read = c.get.ensures in
    let some = subst IsSome (sym read) c.requires in
    let found = sym read ∙ some_unwrapped c.get.result some ∙ ap Some (sym c.unwrap_or-old.ensures) in
    word_written now c.set.new.self rule near number old c.args.word found c.set.ensures
