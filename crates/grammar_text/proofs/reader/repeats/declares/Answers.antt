use Rattle.std.proofs.Common.{nat_eq, map, sym, ◌∙◌}
use lib.Pointwise.{pointwise}
use Rattle.grammar_text.specs.Names.{is_named, name_as}
use Rattle.grammar_text.specs.Seen.{declaration_seen}
use Rattle.grammar_text.proofs.Scans.{one_passes, none_passes, any_given}
use Rattle.grammar_text.proofs.reader.repeats.declares.Goals as goal

pub returns-then-is_named : goal.returns-then-is_named
returns-then-is_named c =
    let name = c.args.name.now in
    sym (sym (any_given (name_as c.args.sort) (λ other. pointwise nat_eq other name) (map declaration_seen c.args.declared.now))
    ∙ one_passes declaration_seen (is_named c.args.sort name) c.args.declared.now c.loop-declaration.declaration-index c.declaration-item.result
    c.loop-declaration-test.true c.declaration-item.is (sym c.is_named.ensures ∙ c.if-is_named.true) c.loop-declaration.invariant)

pub returns : goal.returns
returns c =
    let name = c.args.name.now in
    sym (sym (any_given (name_as c.args.sort) (λ other. pointwise nat_eq other name) (map declaration_seen c.args.declared.now))
    ∙ none_passes declaration_seen (is_named c.args.sort name) c.args.declared.now c.loop-declaration.declaration-index c.loop-declaration-test.false c.loop-declaration.invariant)
