-- Where a certificate ends and its job begins: at the first line that is `job`.
use Rattle.std.specs.Prelude.{◌≡◌, ◌⊎◌, ℕ, ◌<◌, List, [], ◌∷◌, ◌++◌, length, codes}
use Rattle.std.specs.List.{Contains}
use Rattle.adp_model.specs.Ascii.{line_feed}
use Rattle.std.specs.Str.Lines.{lines}

-- the line, with what ends it: an LF, a CR and an LF, or the end of all bytes
abbrev pub IsEndedLine : List ℕ → List ℕ → List ℕ → Type 0
IsEndedLine line behind ended =
    (ended ≡ line ++ line_feed ∷ []) ⊎ (ended ≡ line ++ 13 ∷ line_feed ∷ []) ⊎ ((ended ≡ line) × (behind ≡ []))

-- lines that an LF ends, or none at all
abbrev pub AreEndedLines : List ℕ → Type 0
AreEndedLines bytes = (bytes ≡ []) ⊎ ((earlier : List ℕ) × (bytes ≡ earlier ++ line_feed ∷ []))

-- these bytes stand before the first line that is `job`, and those behind it
pub record IsSplitAtJob (bytes before behind : List ℕ) : Type 0 where
  pub ended : List ℕ
  pub parts : bytes ≡ before ++ ended ++ behind
  pub whole : AreEndedLines before
  pub is_job : IsEndedLine (codes "job") behind ended
  pub first : Contains (lines before) (codes "job") → ⊥

-- the first line of a text, and what stands behind its end
pub record IsFirstLine (text line behind : List ℕ) : Type 0 where
  pub ended : List ℕ
  pub parts : text ≡ ended ++ behind
  pub is_ended : IsEndedLine line behind ended
  pub some : 0 < length ended
  pub alone : lines ended ≡ line ∷ []
