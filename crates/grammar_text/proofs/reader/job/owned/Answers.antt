use Rattle.std.proofs.Common.{ℕ, List, [], get_or}
use Rattle.std.specs.Borrow.{Bor}
use Rattle.std.specs.List.{list_all}
use Rattle.adp_model.specs.Printable.{is_printable_byte}
use Rattle.grammar_text.proofs.Built.{all_at, read_again}
use Rattle.grammar_text.proofs.reader.job.owned.Goals as goal

pub owned_word-requires : goal.owned_word-requires
owned_word-requires c =
    let words = c.args.words.now in
    let i = c.loop-word.word-index in
    let past : Bor (List ℕ) = record { ref_ptr = (0, 0); now = [] } in
    all_at (list_all is_printable_byte) (λ (word : Bor (List ℕ)). word.now) words i (get_or words i past) c.requires c.loop-word-test.true (read_again words i past c.loop-word-test.true)
