use Rattle.std.proofs.Common.{◌≡◌, ◌≤◌, ◌^◌, ◌*◌, ◌%◌, arith}
use Rattle.std.proofs.Math.Nat.{mod-eq_of_lt}
use Rattle.std.proofs.Math.Pow.{pow_mono}
use Rattle.memo_words.proofs.bits.slots_of.Goals as goal

pub returns-clause-few : goal.returns-clause-few
returns-clause-few c = let few : 2 ^ c.args.bits ≤ 2 ^ 22 = pow_mono c.requires in
    let whole : 1 * 2 ^ c.args.bits % 4294967296 ≡ 1 * 2 ^ c.args.bits = mod-eq_of_lt (omega arith) in omega arith
