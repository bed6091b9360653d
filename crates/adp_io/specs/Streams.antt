-- What calls do to the bytes that a source has left and a sink holds, where those are told.
use Rattle.std.specs.Prelude.{◌≡◌, ℕ, ◌+◌, ◌<◌, ◌≤◌, max, List, ◌++◌, length, take, Option, Some, None, is_some}
use Rattle.std.specs.Io.KnownBytes.{Appends, Consumes}
use Rattle.adp_io.specs.Causes.{next_count}

-- the most bytes of a job text
abbrev pub job_limit : ℕ
job_limit = 4194304

-- the most bytes of one read of a job
abbrev pub piece_limit : ℕ
piece_limit = 65536

-- the bytes are told after the call exactly where they were told before it
abbrev pub SameTold : Option (List ℕ) → Option (List ℕ) → Type 0
SameTold old new = is_some new ≡ is_some old

-- told bytes lost this many at their front
abbrev pub Loses : Option (List ℕ) → Option (List ℕ) → ℕ → Type 0
Loses old new count = (bytes : List ℕ) × Consumes old new bytes × (length bytes ≡ count)

-- told bytes lost at most this many at their front
abbrev pub LosesAtMost : Option (List ℕ) → Option (List ℕ) → ℕ → Type 0
LosesAtMost old new limit = (bytes : List ℕ) × Consumes old new bytes × (length bytes ≤ limit)

-- this many bytes moved from the front of those that a source has left to the end of a list
abbrev pub Moves : Option (List ℕ) → Option (List ℕ) → List ℕ → List ℕ → ℕ → Type 0
Moves old new list longer count =
    (bytes : List ℕ) × Consumes old new bytes × (longer ≡ list ++ bytes) × (length bytes ≡ count)

-- told bytes grew by a prefix of these bytes that is not the whole
abbrev pub AppendsProperPrefix : Option (List ℕ) → Option (List ℕ) → List ℕ → Type 0
AppendsProperPrefix old new bytes = (count : ℕ) × (count < length bytes) × Appends old new (take count bytes)

-- the most bytes that a source was asked for in one read, where it is told, after a read that asks for this many
abbrev pub AsksFor : Option ℕ → Option ℕ → ℕ → Type 0
AsksFor None now count = Unit {0}
AsksFor (Some before) None count = ⊥
AsksFor (Some before) (Some now) count = now ≡ max before count

-- the same after reads that ask for at most this many each
abbrev pub AsksForAtMost : Option ℕ → Option ℕ → ℕ → Type 0
AsksForAtMost None now limit = Unit {0}
AsksForAtMost (Some before) None limit = ⊥
AsksForAtMost (Some before) (Some now) limit = (before ≤ now) × (now ≤ max before limit)

-- how often a source or a sink was called, where it is told, after one more call
abbrev pub CountsCall : Option ℕ → Option ℕ → Type 0
CountsCall None now = Unit {0}
CountsCall (Some before) None = ⊥
CountsCall (Some before) (Some now) = now ≡ next_count before

-- the same after at most so many calls
abbrev pub CallsAtMost : Option ℕ → Option ℕ → ℕ → Type 0
CallsAtMost None now limit = Unit {0}
CallsAtMost (Some before) None limit = ⊥
CallsAtMost (Some before) (Some now) limit = now ≤ before + limit
