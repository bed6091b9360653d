use Rattle.std.proofs.Common.{◌≡◌, suc, ◌-◌, length, refl, arith}
use Rattle.nested_texts.specs.declared.nested.Nested.{Nested}
use Rattle.nested_texts.proofs.Scans.{opened, opened_in}
use Rattle.nested_texts.proofs.nested.at_open.Goals as goal

pub returns-in_ok-push-in-Some-clause-scan : goal.returns-in_ok-push-in-Some-clause-scan
returns-in_ok-push-in-Some-clause-scan c =
    let nested : Nested = record { depth = c.len-open.result - 1; from = c.args.from; to = c.in-Some.close.to; inside = c.len.result - c.in-Some.close.behind } in
    let size : length c.args.closes.now ≡ suc (length c.pop.new.self) = rw c.in-Some.ensures refl in
    rw c.in_ok-push-in-Some.ensures
    (opened c.pop.new.self c.args.found.now c.in-Some.close nested (omega (arith, c.len-open.ensures, size)) (rw c.len.ensures refl) (rw c.in-Some.ensures at c.requires))

pub returns-in_ok-push-in-Some-clause-within : goal.returns-in_ok-push-in-Some-clause-within
returns-in_ok-push-in-Some-clause-within c = λ line begins scan.
    let nested : Nested = record { depth = c.len-open.result - 1; from = c.args.from; to = c.in-Some.close.to; inside = c.len.result - c.in-Some.close.behind } in
    rw c.in_ok-push-in-Some.ensures
    (opened_in line c.pop.new.self c.args.found.now c.in-Some.close nested begins refl (omega (arith, c.if-open-gt1.true)) (rw c.in-Some.ensures at scan))
