-- Greatest lengths of rules as far as they are known: numbers that rise, where nothing stands for unbounded.
use Rattle.std.specs.Prelude.{◌≡◌, ℕ, ◌+◌, ◌*◌, ◌-◌, ◌<◌, ◌≤◌, ◌⊎◌, min, nat_lt, Bool, true, false, Option, Some, None, List, length, fold, sum_by, count_by, slice_index_or}
use Rattle.std.specs.List.{Contains}
use Rattle.adp_model.specs.declared.grammar.Arg.{Arg}
use Rattle.adp_model.specs.declared.grammar.Arg.TheVariants.{Rule, Literal, Letter, Run}
use Rattle.adp_model.specs.declared.grammar.Alt.{Alt}
use Rattle.adp_model.specs.declared.grammar.Grammar.{Grammar}
use Rattle.adp_model.specs.Parts.{alternatives_of, alternative_at, arguments_of}
use Rattle.adp_model.specs.Lengths.{high_of}
use Rattle.adp_model.specs.Sizes.{greatest_kept, greatest_bounded, sum_of, cut_to, greatest_among, bounded, AreStableSizes, IsUpTo}
use Rattle.yield_sizes.specs.declared.places.Place.{Place}

-- the greatest length of an argument, where these of the rules are known; a text's is cut
abbrev pub argument_greatest : List (Option ℕ) → Arg → Option ℕ
argument_greatest known (Rule rule) = slice_index_or known rule None
argument_greatest known (Literal text) = Some (min (length text) greatest_kept)
argument_greatest known (Letter class) = Some 1
argument_greatest known (Run class low high) = high

-- what the greatest length of arguments together counts as
abbrev pub arguments_greatest : List (Option ℕ) → List Arg → Option ℕ
arguments_greatest known arguments =
    fold (λ total argument. bounded (sum_of total (argument_greatest known argument))) (Some 0) arguments

-- what that of an alternative counts as
abbrev pub alternative_greatest : List (Option ℕ) → Alt → Option ℕ
alternative_greatest known alternative = bounded (cut_to (high_of alternative.size) (arguments_greatest known alternative.args))

-- the second is greater
abbrev pub is_below : Option ℕ → Option ℕ → Bool
is_below None other = false
is_below (Some len) None = true
is_below (Some len) (Some other) = nat_lt len other

-- the alternative tells no greater length of its rule, or it names a rule whose length rose
abbrev pub IsSettled : Grammar → List (Option ℕ) → List Bool → ℕ → ℕ → Type 0
IsSettled grammar known risen rule alternative =
    IsUpTo (alternative_greatest known (alternative_at grammar rule alternative)) (slice_index_or known rule None)
    ⊎ ((other : ℕ) × Contains (arguments_of grammar rule alternative) (Rule other)
    × (slice_index_or risen other false ≡ true))

-- lengths on their way from 0 up to the greatest sizes: no greater than these, and reached by the rules' alternatives;
-- each alternative is settled, or waits at one of the places
pub record AreRising (grammar : Grammar) (waiting : List Place) (known : List (Option ℕ)) (risen : List Bool)
    : Type 0 where
  pub each : length known ≡ length grammar.rules
  pub marked : length risen ≡ length grammar.rules
  pub few : (rule len : ℕ) → slice_index_or known rule None ≡ Some len → len ≤ greatest_bounded
  pub below : (sizes : List (Option ℕ)) → AreStableSizes grammar sizes → (rule : ℕ)
      → IsUpTo (slice_index_or known rule None) (slice_index_or sizes rule None)
  pub reached : (rule : ℕ) → rule < length grammar.rules
      → IsUpTo (slice_index_or known rule None) (bounded (greatest_among known (alternatives_of grammar rule)))
  pub settled : (rule alternative : ℕ) → alternative < length (alternatives_of grammar rule)
      → IsSettled grammar known risen rule alternative
      ⊎ Contains waiting (record { rule = rule; alternative = alternative })

-- by how much the known lengths can rise
abbrev pub rise_left : List (Option ℕ) → ℕ
rise_left known = sum_by left known
  where
    left : Option ℕ → ℕ
    left None = 0
    left (Some len) = 4001 - len

-- how much there is to do: lengths that rise come first, then marks
abbrev pub work_left : List (Option ℕ) → List Bool → ℕ
work_left known risen = rise_left known * (length risen + 1) + count_by (λ mark. mark) risen
