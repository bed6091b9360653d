-- Certificates as the program writes them and checks them: what it writes of a word and behind all words, and what is
-- wrong with one, or right.
use Rattle.std.specs.Prelude.{◌≡◌, ℕ, zero, suc, ◌+◌, ◌==◌, if◌then◌else◌, List, [], ◌∷◌, ◌++◌, codes, length}
use Rattle.std.specs.List.{Contains}
use Rattle.std.specs.Str.Lines.{lines}
use Rattle.adp_model.specs.declared.grammar.Grammar.{Grammar}
use Rattle.adp_model.specs.PosedProblem.{PosedProblem}
use Rattle.adp_model.specs.Report.{line}
use Rattle.table_certificate.specs.CertificateLines.{forms_of}
use Rattle.table_certificate.specs.LocalCertificate.{IsFirstFalse, IsLocallyRight}
use Rattle.table_certificate.specs.WrittenCertificate.{IsCertificate}
use Rattle.verdicts.specs.declared.command.Mode.{Mode}
use Rattle.verdicts.specs.declared.command.Mode.TheVariants.{Cert}
use Rattle.verdicts.specs.Posed.{posed_words}

-- ---- written

-- the line `cert` stands before the block of the first word
abbrev pub before_block : ℕ → List ℕ
before_block number = if number == 1 then line (codes "cert") else []

-- what is written of the word with this number, counted from 1
abbrev pub IsBlockReport : ℕ → PosedProblem → List ℕ → Type 0
IsBlockReport number p report =
    (block : List ℕ) × IsCertificate number p block × (report ≡ before_block number ++ block)

-- behind the blocks of so many words: the line `job`, and the input as it came; and first the line `cert`, where no word
-- has it
abbrev pub behind_blocks : ℕ → List ℕ → List (List ℕ)
behind_blocks zero input = line (codes "cert") ∷ (line (codes "job") ++ input) ∷ []
behind_blocks (suc words) input = (line (codes "job") ++ input) ∷ []

-- what a mode writes behind the reports of so many words
abbrev pub behind_reports : Mode → ℕ → List ℕ → List (List ℕ)
behind_reports Cert words input = behind_blocks words input
behind_reports mode words input = []

-- ---- checked

-- no line of the input is `job`: the missing one has this number
abbrev pub IsWithoutJob : List ℕ → ℕ → Type 0
IsWithoutJob input number = (Contains (lines input) (codes "job") → ⊥) × (number ≡ length (lines input) + 1)

-- the certificate is locally right for these words
abbrev pub IsRightFor : Grammar → ℕ → List (List ℕ) → List ℕ → Type 0
IsRightFor grammar algebra words certificate =
    IsLocallyRight (posed_words grammar algebra words) (forms_of grammar certificate)

-- its line with this number, from 1 on, is the first that is false
abbrev pub IsFalseFor : Grammar → ℕ → List (List ℕ) → List ℕ → ℕ → Type 0
IsFalseFor grammar algebra words certificate number =
    (place : ℕ) × (number ≡ place + 1)
    × IsFirstFalse (posed_words grammar algebra words) (forms_of grammar certificate) place
