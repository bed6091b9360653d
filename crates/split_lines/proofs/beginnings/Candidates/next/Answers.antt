use Rattle.std.proofs.Common.{◌≡◌, ◌-◌, ◌/◌, ◌^◌, ◌<◌, w64, sym, ap, ◌∙◌, arith, rules}
use Rattle.std.specs.Int.{bit_at}
use Rattle.std.proofs.lemmas.Nat.{shr_le}
use Rattle.std.proofs.lemmas.Nat.Bits.{bit_at-zero, bit_at-trailing_zeros}
use Rattle.split_lines.proofs.OpeningBits.{bit_behind}
use Rattle.split_lines.proofs.beginnings.Candidates.next.Goals as goal

pub returns-then-ahead-eq0-clause-none_before : goal.returns-then-ahead-eq0-clause-none_before
returns-then-ahead-eq0-clause-none_before c = λ other from l candidate.
    let bits = c.args.self.bits in
    let number = c.args.number in
    let none : bit_at bits other ≡ 0 = sym (bit_behind bits number other from) ∙ ap (λ n. bit_at n (other - number)) c.if-ahead-eq0.true ∙ bit_at-zero (other - number) in
    omega (arith, none, candidate)

pub returns-clause-none_before : goal.returns-clause-none_before
returns-clause-none_before c = λ other from l candidate.
    let bits = c.args.self.bits in
    let number = c.args.number in
    let ahead = bits / 2 ^ number in
    let low : bits < 2 ^ 64 = search rules in
    let first = bit_at-trailing_zeros w64 ahead (omega (arith, c.if-ahead-eq0.false)) (omega (arith, low, shr_le bits number)) in
    let clear = first.2 (other - number) (omega (arith, from, l, c.min.ensures)) in
    let same = bit_behind bits number other from in
    omega (arith, clear, same, candidate)
