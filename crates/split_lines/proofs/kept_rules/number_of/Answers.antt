use Rattle.std.proofs.Common.{List, refl, sym, subst, arith}
use Rattle.split_lines.specs.declared.kept_rules.Middle.{Middle}
use Rattle.split_lines.specs.KeptRules.{AreMiddles, HasAllOf, IsNumberOf}
use Rattle.split_lines.proofs.KeptLines.{middles_more, has_all_more, number_of_last}
use Rattle.split_lines.proofs.kept_rules.number_of.Goals as goal

pub returns-clause-middles : goal.returns-clause-middles
returns-clause-middles c = λ grammar known are.
    let middle : Middle = record { tokens = c.args.tokens; first = c.first_letter-first.result } in
    subst (AreMiddles grammar) (sym {A = List Middle} c.in_ok-push.ensures.items) (middles_more grammar c.args.middles.now.items middle are (record { known = known; fixed = c.requires }))

pub returns-clause-kept : goal.returns-clause-kept
returns-clause-kept c =
    let middle : Middle = record { tokens = c.args.tokens; first = c.first_letter-first.result } in
    let P : List Middle → Type 0 = HasAllOf c.args.middles.now.items in
    subst P (sym {A = List Middle} c.in_ok-push.ensures.items) (has_all_more c.args.middles.now.items middle)

pub returns-clause-number : goal.returns-clause-number
returns-clause-number c =
    let middle : Middle = record { tokens = c.args.tokens; first = c.first_letter-first.result } in
    let P : List Middle → Type 0 = λ middles. IsNumberOf middles c.args.tokens.now c.len-number.result in
    subst P (sym {A = List Middle} c.in_ok-push.ensures.items) (number_of_last c.args.middles.now.items middle c.args.tokens.now c.len-number.result (omega (arith, c.len-number.ensures)) refl)
