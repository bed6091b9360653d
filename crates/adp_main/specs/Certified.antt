-- What is written as a certificate is accepted where it is checked.
use Rattle.std.specs.Prelude.{◌≡◌, ℕ, ◌≤◌, Option, Some, List, ◌++◌, length}
use Rattle.verdicts.specs.declared.command.Mode.TheVariants.{Cert, Verify}
use Rattle.verdicts.specs.Command.{Command, IsCommand}
use Rattle.verdicts.specs.OneAlgebra.{NameOneAlgebra}
use Rattle.verdicts.specs.Verdict.{IsVerdict, Reports, greatest_length}

-- words that ask to check a certificate, under the algebra that a command asks for: with this text their verdict are
-- reports, so best scores
abbrev pub IsAccepted : Command → List ℕ → Type 0
IsAccepted command text =
    (words : List (List ℕ)) (checking : Command) → IsCommand words checking → checking.mode ≡ Verify
    → NameOneAlgebra command checking text
    → (reports : List (List ℕ)) × IsVerdict words text (Reports reports)

-- where the words ask for a certificate, the text by which told bytes grew is accepted, unless it is longer than an input
-- may be
abbrev pub WritesAccepted : List (List ℕ) → Option (List ℕ) → Option (List ℕ) → Type 0
WritesAccepted words old new =
    (command : Command) (before text : List ℕ) → IsCommand words command → command.mode ≡ Cert
    → old ≡ Some before → new ≡ Some (before ++ text) → length text ≤ greatest_length → IsAccepted command text
