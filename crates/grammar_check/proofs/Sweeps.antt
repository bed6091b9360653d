-- A sweep over an alternative's parts, from the last to the first: what it has written, and what it leaves.
use Rattle.std.proofs.Common.{◌≡◌, ◌≢◌, ℕ, zero, suc, ◌+◌, ◌-◌, ◌^◌, ◌<◌, ◌≤◌, min, ◌⊎◌, inl, inr, List, [], ◌∷◌, length, drop, Bool, true, false, ◌&&◌, nat_le, cond, refl, sym, ap, subst, ◌∙◌, arith}
use Rattle.std.proofs.lemmas.Bool.{le-leb, lt-leb}
use Rattle.std.proofs.lemmas.List.{drop_more, drop_all}
use Rattle.adp_model.specs.LimitFaults.{told}
use Rattle.grammar_check.specs.declared.part.Part.{Part}
use Rattle.grammar_check.specs.declared.part.Worth.TheVariants.{OfLetters}
use Rattle.grammar_check.specs.declared.table.Table.{Table}
use Rattle.grammar_check.specs.declared.linear_alternative.LinearAlternative.{LinearAlternative}
use Rattle.grammar_check.specs.Tables.{entry}
use Rattle.grammar_check.specs.Plans.{ReadsRight, rooms, lows, spread, part_at}
use Rattle.grammar_check.specs.Alternatives.{AreSpread, AreRead, alternative_value}

-- the parts from this place on are written for so many spare letters, and this is what they add
pub record IsSweeping (bounds : Table) (len spare : ℕ) (before now : LinearAlternative) (place best : ℕ) : Type 0 where
  pub constant : now.constant ≡ before.constant
  pub fixed : now.fixed ≡ before.fixed
  pub low : now.low ≡ before.low
  pub parts : now.parts.items ≡ before.parts.items
  pub width : now.spreads.width ≡ before.spreads.width
  pub older : (bound : ℕ → ℕ → ℕ) → AreRead bound bounds before.parts.items len → AreSpread bound before spare → AreSpread bound now spare
  pub done : (bound : ℕ → ℕ → ℕ) → AreRead bound bounds before.parts.items len → AreSpread bound before spare
      → (at : ℕ) → place ≤ at + 1 → at + 1 < length before.parts.items → entry now.spreads at spare ≡ told (spread bound (drop (at + 1) before.parts.items) spare)
  pub best_is : (bound : ℕ → ℕ → ℕ) → AreRead bound bounds before.parts.items len → AreSpread bound before spare
      → best ≡ told (spread bound (drop place before.parts.items) spare)

pub low_at : (parts : List Part) (place : ℕ) → place < length parts → (part_at parts place).low ≤ lows parts
low_at [] place inside = absurd (omega arith)
low_at (part ∷ parts) zero inside = omega arith
low_at (part ∷ parts) (suc place) inside = let rest = low_at parts place (omega arith) in omega arith

pub rooms_at : (parts : List Part) (place : ℕ) → place < length parts → rooms (drop place parts) ≡ (part_at parts place).room + rooms (drop (place + 1) parts)
rooms_at parts place inside = ap rooms (drop_more parts place (record { worth = OfLetters 0 0; low = 0; room = 0 }) inside)

less_or_same : (a b : ℕ) → a ≤ b → (a < b) ⊎ (a ≡ b)
less_or_same a b order = grind arith

-- at first nothing is written
pub sweep_begun : (bounds : Table) (len spare : ℕ) (before : LinearAlternative) (place : ℕ) → length before.parts.items ≤ place → IsSweeping bounds len spare before before place 0
sweep_begun bounds len spare before place past = record {
  constant = refl;
  fixed = refl;
  low = refl;
  parts = refl;
  width = refl;
  older = λ bound reads spreads. spreads;
  done = λ bound reads spreads at from to. absurd (omega arith);
  best_is = λ bound reads spreads. ap (λ ps. told (spread bound ps spare)) (sym (drop_all place before.parts.items past));
}

-- the row of a place, once the places behind it are written
row_behind : (bound : ℕ → ℕ → ℕ) (bounds : Table) (len spare : ℕ) (before now : LinearAlternative) (place best : ℕ) → IsSweeping bounds len spare before now (place + 1) best → AreRead bound bounds before.parts.items len → AreSpread bound before spare → place + 1 < length before.parts.items → (column : ℕ) → column ≤ spare → entry now.spreads place column ≡ told (spread bound (drop (place + 1) before.parts.items) column)
row_behind bound bounds len spare before now place best sweep reads spreads inside column within = by (less_or_same column spare within)
  where
    by : (column < spare) ⊎ (column ≡ spare) → entry now.spreads place column ≡ told (spread bound (drop (place + 1) before.parts.items) column)
    by (inl less) =
        subst (λ ps. entry now.spreads place column ≡ told (spread bound (drop (place + 1) ps) column)) sweep.parts
        ((sweep.older bound reads spreads).rows place column (subst (λ ps. place + 1 < length ps) (sym sweep.parts) inside) less)
    by (inr same) =
        subst (λ c. entry now.spreads place c ≡ told (spread bound (drop (place + 1) before.parts.items) c)) (sym same)
        (sweep.done bound reads spreads place (omega arith) inside)

pub sweep_step : (bounds : Table) (len spare : ℕ) (before now next : LinearAlternative) (place best best' : ℕ) → IsSweeping bounds len spare before now (place + 1) best
    → spare + lows before.parts.items ≡ len → place < length before.parts.items → spare < now.spreads.width
    → next.constant ≡ now.constant → next.fixed ≡ now.fixed → next.low ≡ now.low → next.parts.items ≡ now.parts.items → next.spreads.width ≡ now.spreads.width
    → (0 < place → entry next.spreads (place - 1) spare ≡ best')
    → ((row column : ℕ) → column ≢ spare → column < now.spreads.width → entry next.spreads row column ≡ entry now.spreads row column)
    → ((row : ℕ) → row + 1 ≢ place → entry next.spreads row spare ≡ entry now.spreads row spare)
    → ((bound : ℕ → ℕ → ℕ) → ((more : ℕ) → more ≤ spare → ReadsRight bound bounds (part_at now.parts.items place).worth ((part_at now.parts.items place).low + more))
    → (place + 1 < length now.parts.items → (column : ℕ) → column ≤ spare → entry now.spreads place column ≡ told (spread bound (drop (place + 1) now.parts.items) column))
    → best' ≡ told (spread bound (drop place now.parts.items) spare))
    → IsSweeping bounds len spare before next place best'
sweep_step bounds len spare before now next place best best' sweep spare_is inside narrow constant fixed low parts width here columns rows found = record {
  constant = constant ∙ sweep.constant;
  fixed = fixed ∙ sweep.fixed;
  low = low ∙ sweep.low;
  parts = parts ∙ sweep.parts;
  width = width ∙ sweep.width;
  older = λ bound reads spreads. older_at bound (sweep.older bound reads spreads);
  done = λ bound reads spreads at from to. done_at bound reads spreads at from to (less_or_same place (at + 1) from);
  best_is = λ bound reads spreads. best_at bound reads spreads;
}
  where
    best_at : (bound : ℕ → ℕ → ℕ) → AreRead bound bounds before.parts.items len → AreSpread bound before spare → best' ≡ told (spread bound (drop place before.parts.items) spare)
    best_at bound reads spreads =
        subst (λ ps. best' ≡ told (spread bound (drop place ps) spare)) sweep.parts
        (found bound
        (λ more within. subst (λ ps. ReadsRight bound bounds (part_at ps place).worth ((part_at ps place).low + more)) (sym sweep.parts) (reads place ((part_at before.parts.items place).low + more) inside (omega arith)))
        (subst (λ ps. place + 1 < length ps → (column : ℕ) → column ≤ spare → entry now.spreads place column ≡ told (spread bound (drop (place + 1) ps) column)) (sym sweep.parts)
        (λ behind. row_behind bound bounds len spare before now place best sweep reads spreads behind)))

    older_at : (bound : ℕ → ℕ → ℕ) → AreSpread bound now spare → AreSpread bound next spare
    older_at bound older = record {
      rows = λ at column in_parts less.
          columns at column (λ e. omega (arith, e)) (omega arith) ∙ older.rows at column (subst (λ ps. at + 1 < length ps) parts in_parts) less
          ∙ ap (λ ps. told (spread bound (drop (at + 1) ps) column)) (sym parts);
    }

    done_at : (bound : ℕ → ℕ → ℕ) → AreRead bound bounds before.parts.items len → AreSpread bound before spare → (at : ℕ) → place ≤ at + 1 → at + 1 < length before.parts.items → (place < at + 1) ⊎ (place ≡ at + 1) → entry next.spreads at spare ≡ told (spread bound (drop (at + 1) before.parts.items) spare)
    done_at bound reads spreads at from to (inl later) = rows at (λ e. omega (arith, e)) ∙ sweep.done bound reads spreads at (omega arith) to
    done_at bound reads spreads at from to (inr same) =
        let row : place - 1 ≡ at = omega arith in
        subst (λ r. entry next.spreads r spare ≡ best') row (here (omega arith)) ∙ best_at bound reads spreads
        ∙ ap (λ n. told (spread bound (drop n before.parts.items) spare)) same

-- after the sweep
pub swept : (bound : ℕ → ℕ → ℕ) (bounds : Table) (len spare : ℕ) (before now : LinearAlternative) (place best : ℕ) → place ≤ 0 → IsSweeping bounds len spare before now place best → AreRead bound bounds before.parts.items len → AreSpread bound before spare → AreSpread bound now (spare + 1)
swept bound bounds len spare before now place best ended sweep reads spreads = record {
  rows = λ at column inside less. by at column inside (less_or_same column spare (omega arith));
}
  where
    older : AreSpread bound now spare
    older = sweep.older bound reads spreads

    by : (at column : ℕ) → at + 1 < length now.parts.items → (column < spare) ⊎ (column ≡ spare) → entry now.spreads at column ≡ told (spread bound (drop (at + 1) now.parts.items) column)
    by at column inside (inl less) = older.rows at column inside less
    by at column inside (inr same) =
        subst (λ c. entry now.spreads at c ≡ told (spread bound (drop (at + 1) now.parts.items) c)) (sym same)
        (subst (λ ps. entry now.spreads at spare ≡ told (spread bound (drop (at + 1) ps) spare)) (sym sweep.parts)
        (sweep.done bound reads spreads at (omega arith) (subst (λ ps. at + 1 < length ps) sweep.parts inside)))

-- the sweep's best is what all parts add
pub swept_best : (bound : ℕ → ℕ → ℕ) (bounds : Table) (len spare : ℕ) (before now : LinearAlternative) (place best : ℕ) → place ≤ 0 → IsSweeping bounds len spare before now place best → AreRead bound bounds before.parts.items len → AreSpread bound before spare → best ≡ told (spread bound before.parts.items spare)
swept_best bound bounds len spare before now place best ended sweep reads spreads =
    let first : place ≡ 0 = omega arith in
    sweep.best_is bound reads spreads ∙ ap (λ n. told (spread bound (drop n before.parts.items) spare)) first

-- no row has fewer spare letters than none
pub none_spread : (bound : ℕ → ℕ → ℕ) (alternative : LinearAlternative) → AreSpread bound alternative 0
none_spread bound alternative = record { rows = λ place column inside less. absurd (omega arith) }

pub low_is : (fixed : ℕ) (parts : List Part) (low len : ℕ) → low ≡ min (fixed + lows parts) (2 ^ 64 - 1) → low ≤ len → len < 2 ^ 32 → low ≡ fixed + lows parts
low_is fixed parts low len least within short = omega arith

choice : Bool → Bool → ℕ → ℕ
choice long few value = cond (long && few) value 0

choice-none : (long few : Bool) (value : ℕ) → (long ≡ false) ⊎ (few ≡ false) → choice long few value ≡ 0
unfolding choice
choice-none true true value (inl e) = absurd cc
choice-none true true value (inr e) = absurd cc
choice-none true false value e = refl
choice-none false few value e = refl

choice-some : (long few : Bool) (value : ℕ) → long ≡ true → few ≡ true → choice long few value ≡ value
unfolding choice
choice-some true true value e f = refl
choice-some true false value e f = absurd cc
choice-some false few value e f = absurd cc

pub value_of_ways : (bound : ℕ → ℕ → ℕ) (constant : ℕ) (parts : List Part) (len : ℕ) → lows parts ≤ len → len - lows parts ≤ rooms parts → alternative_value bound constant parts len ≡ constant + spread bound parts (len - lows parts)
unfolding choice
value_of_ways bound constant parts len long few = choice-some (nat_le (lows parts) len) (nat_le (len - lows parts) (rooms parts)) (constant + spread bound parts (len - lows parts)) (le-leb (lows parts) len long) (le-leb (len - lows parts) (rooms parts) few)

pub value_too_short : (bound : ℕ → ℕ → ℕ) (constant : ℕ) (parts : List Part) (len : ℕ) → len < lows parts → alternative_value bound constant parts len ≡ 0
unfolding choice
value_too_short bound constant parts len short = choice-none (nat_le (lows parts) len) (nat_le (len - lows parts) (rooms parts)) (constant + spread bound parts (len - lows parts)) (inl (lt-leb (lows parts) len short))

pub value_too_long : (bound : ℕ → ℕ → ℕ) (constant : ℕ) (parts : List Part) (len : ℕ) → rooms parts < len - lows parts → alternative_value bound constant parts len ≡ 0
unfolding choice
value_too_long bound constant parts len long = choice-none (nat_le (lows parts) len) (nat_le (len - lows parts) (rooms parts)) (constant + spread bound parts (len - lows parts)) (inr (lt-leb (len - lows parts) (rooms parts) long))
