use Rattle.std.proofs.Common.{◌≡◌, ℕ, ◌*◌, ◌/◌, ◌%◌, ◌^◌, arith}
use Rattle.cell_tables.specs.Bits.{IsBitIn}
use Rattle.cell_tables.proofs.NumberBits.{shifted_bit}
use Rattle.cell_tables.proofs.SpanBits.{set_like}
use Rattle.cell_tables.proofs.bits.Grid+u64.set_bit.Goals as goal

pub returns : goal.returns
returns c =
    let far = c.args.far in
    let told = λ (place : ℕ). shifted_bit (far % 64) place (omega arith) in
    set_like c.args.self.now c.set_word.new.self c.args.rule c.args.near (IsBitIn (1 * 2 ^ (far % 64) % 2 ^ 64) (far / 64)) (λ other. other ≡ far)
    (λ other is. let place = (told (other % 64)).0 is.bit in omega (arith, is.number_is))
    (λ other e. record { number_is = omega arith; bit = (told (other % 64)).1 (omega arith) })
    c.set_word.ensures
