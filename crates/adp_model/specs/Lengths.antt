-- Lengths: how many letters a token, an alternative and a rule can cover, letters ignored.
use Rattle.std.specs.Prelude.{◌≡◌, ℕ, ◌+◌, ◌<◌, ◌≤◌, max, Option, None, Some, IfSome, List, [], ◌∷◌, length}
use Rattle.adp_model.specs.declared.grammar.Arg.{Arg}
use Rattle.adp_model.specs.declared.grammar.Arg.TheVariants.{Rule, Literal, Letter, Run}
use Rattle.adp_model.specs.declared.grammar.Alt.{Alt}
use Rattle.adp_model.specs.declared.grammar.Size.{Size}
use Rattle.adp_model.specs.declared.grammar.Grammar.{Grammar}
use Rattle.adp_model.specs.Parts.{alternatives_of, alternative_at, arguments_of}

-- the least length that an alternative of this size allows: 0 where it has none
abbrev pub low_of : Option Size → ℕ
low_of None = 0
low_of (Some size) = size.low

-- the greatest length that an alternative of this size allows: no bound where it has none
abbrev pub high_of : Option Size → Option ℕ
high_of None = None
high_of (Some size) = size.high

-- so many letters are not more than the alternative allows
abbrev pub IsWithinHigh : Alt → ℕ → Type 0
IsWithinHigh alternative letters = IfSome (high_of alternative.size) (λ most. letters ≤ most)

-- the alternative may be used over so many letters
abbrev pub AllowsLength : Alt → ℕ → Type 0
AllowsLength alternative letters = (low_of alternative.size ≤ letters) × IsWithinHigh alternative letters

-- the length that an alternative counts for where its arguments have this sum: not less than it allows
abbrev pub raised : Alt → ℕ → ℕ
raised alternative sum = max sum (low_of alternative.size)

-- a token can match letters of this number
abbrev pub AdmitsLength : Arg → ℕ → Type 0
AdmitsLength (Rule rule) letters = ⊥
AdmitsLength (Literal text) letters = letters ≡ length text
AdmitsLength (Letter class) letters = letters ≡ 1
AdmitsLength (Run class low high) letters = (low ≤ letters) × IfSome high (λ most. letters ≤ most)

mutual
  -- some alternative of the rule has this length
  pub data HasLength (grammar : Grammar) : ℕ → ℕ → Type 0 where
    ByAlternative : (rule alternative sum len : ℕ) → alternative < length (alternatives_of grammar rule)
        → HaveLength grammar (arguments_of grammar rule alternative) sum
        → IsWithinHigh (alternative_at grammar rule alternative) sum
        → len ≡ raised (alternative_at grammar rule alternative) sum → HasLength grammar rule len

  -- the arguments have lengths with this sum
  pub data HaveLength (grammar : Grammar) : List Arg → ℕ → Type 0 where
    NoArguments : HaveLength grammar [] 0
    FirstRule : (rule len : ℕ) (arguments : List Arg) (others : ℕ) → HasLength grammar rule len
        → HaveLength grammar arguments others → HaveLength grammar (Rule rule ∷ arguments) (len + others)
    FirstToken : (token : Arg) (len : ℕ) (arguments : List Arg) (others : ℕ) → AdmitsLength token len
        → HaveLength grammar arguments others → HaveLength grammar (token ∷ arguments) (len + others)

-- the rule has a length at all
abbrev pub IsProductive : Grammar → ℕ → Type 0
IsProductive grammar rule = (len : ℕ) × HasLength grammar rule len
