use Rattle.std.proofs.Common.{◌≡◌, ◌*◌, ◌%◌, ◌^◌, length, set, get_or, sym, ap, subst, ◌∙◌, arith, rules}
use Rattle.std.specs.Prelude.{bit_or}
use Rattle.std.specs.Int.{bit_at}
use Rattle.std.proofs.lemmas.List.{get_or-set_same}
use Rattle.split_lines.specs.declared.beginnings.Place.{Place}
use Rattle.split_lines.specs.Beginnings.{IsToldAt}
use Rattle.split_lines.proofs.OpeningBits.{bit_set, told_still_grouped, told_still_any}
use Rattle.split_lines.proofs.beginnings.Place.add.Goals as goal

pub returns-in-Some-clause-told : goal.returns-in-Some-clause-told
returns-in-Some-clause-told c =
    let groups = c.args.self.now.groups in
    let k = c.in-Some.letter % 32 in
    let new = bit_or (get_or groups k 0) (1 * 2 ^ c.args.alt % 2 ^ 64) in
    let made : Place = record { any = c.args.self.now.any; groups = set groups k new } in
    let long : length groups ≡ 32 = search rules in
    subst (IsToldAt made c.args.alt) (sym c.in-Some.is) (ap (λ n. bit_at n c.args.alt) (get_or-set_same groups k new 0 (omega (arith, long))) ∙ bit_set (get_or groups k 0) c.args.alt c.requires)

pub returns-in-Some-clause-others : goal.returns-in-Some-clause-others
returns-in-Some-clause-others c = λ other letter told.
    let long : length c.args.self.now.groups ≡ 32 = search rules in
    told_still_grouped c.args.self.now _ other (c.in-Some.letter % 32) letter (omega (arith, long)) told

pub returns-in-None-clause-told : goal.returns-in-None-clause-told
returns-in-None-clause-told c =
    let made : Place = record { any = bit_or c.args.self.now.any (1 * 2 ^ c.args.alt % 2 ^ 64); groups = c.args.self.now.groups } in
    subst (IsToldAt made c.args.alt) (sym c.in-None.is) (bit_set c.args.self.now.any c.args.alt c.requires)

pub returns-in-None-clause-others : goal.returns-in-None-clause-others
returns-in-None-clause-others c = λ other letter told. told_still_any c.args.self.now _ other letter told
