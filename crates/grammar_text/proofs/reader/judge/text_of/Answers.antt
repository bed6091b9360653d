use Rattle.grammar_text.proofs.reader.judge.text_of.Goals as goal

pub new-requires : goal.new-requires
new-requires c =
    rw c.in_ok-extend_from_slice.ensures.items
    (rw c.in_ok-bytes.ensures.items (c.names_are_short_and_printable.ensures.printable c.args.name.now c.requires))
