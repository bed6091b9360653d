use Rattle.std.proofs.Common.{ℕ, ap, sym, ◌∙◌, slice_index}
use Rattle.memo_words.specs.Passes.{rest_words}
use Rattle.memo_words.proofs.Lists.{at_read}
use Rattle.memo_words.proofs.rest.Rest.choice.Goals as goal

pub returns : goal.returns
returns c = sym (at_read (rest_words c.args.self.now) _ _ 0 c.word.ensures)
    ∙ ap (λ (i : ℕ). slice_index (rest_words c.args.self.now) i) c.arena_place.ensures
