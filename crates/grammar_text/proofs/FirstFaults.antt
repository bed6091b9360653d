-- The first fault of lines, line by line.
use Rattle.std.proofs.Common.{◌≡◌, ℕ, suc, ◌+◌, ◌-◌, ◌≤◌, Some, None, refl, arith}
use Rattle.std.specs.List.{range_with_len}
use Rattle.adp_model.specs.declared.fault.TextFault.{TextFault}
use Rattle.job_texts.specs.DeclaredNames.{TextLines}
use Rattle.job_texts.specs.JobText.{fault_at, first_fault_at}

-- the fault of the line at hand is the first of those that are left
pub fault_found : (text : TextLines) (i n : ℕ) (fault : TextFault) → i ≤ n → fault_at text (i + 1) ≡ Some fault
    → first_fault_at text (range_with_len (i + 1) (n + 1 - i)) ≡ Some fault
fault_found text i n fault inside found =
    let more : n + 1 - i ≡ suc (n - i) = omega arith in
    rw (more, found) refl

-- where the line at hand has none, those behind it are left
pub fault_later : (text : TextLines) (i n : ℕ) → i ≤ n → fault_at text (i + 1) ≡ None
    → first_fault_at text (range_with_len (i + 1) (n + 1 - i)) ≡ first_fault_at text (range_with_len (i + 1 + 1) (n + 1 - (i + 1)))
fault_later text i n inside none =
    let more : n + 1 - i ≡ suc (n + 1 - (i + 1)) = omega arith in
    rw (more, none) refl
