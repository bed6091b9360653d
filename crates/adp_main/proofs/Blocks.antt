-- The block of a word as `cert` writes it.
use Rattle.std.proofs.Common.{◌≡◌, ◌≢◌, ℕ, ◌==◌, Bool, false, if◌then◌else◌, [], codes, sym, ap, arith}
use Rattle.std.proofs.lemmas.Bool.Decides.{nat_tests}
use Rattle.adp_model.specs.Report.{line}
use Rattle.verdicts.specs.Certificates.{before_block}

pub before_first : (number : ℕ) → number ≡ 1 → line (codes "cert") ≡ before_block number
before_first number is = ap before_block (sym is)

pub before_later : (number : ℕ) → number ≢ 1 → before_block number ≡ []
before_later number other =
    let none : (number == 1) ≡ false = grind (arith, nat_tests) in
    ap (λ (is : Bool). if is then line (codes "cert") else []) none
