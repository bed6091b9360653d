-- What the lines of a header declare has few parts, and there are few of them; and the words behind the header.
use Rattle.std.proofs.Common.{◌≡◌, ℕ, zero, suc, ◌+◌, ◌<◌, ◌≤◌, ◌^◌, Bool, true, false, Option, Some, None, List, [], ◌∷◌, All, length, map, drop, refl, sym, ◌∙◌, ap, arith}
use Rattle.std.specs.Borrow.{Bor}
use Rattle.std.specs.List.{filter_map, position, position_or_len, after_first}
use Rattle.std.specs.Option.{option_map}
use Rattle.job_texts.specs.JobLines.{is_words_line, up_to_words_line, words_line_of, words_of}
use Rattle.job_texts.specs.Declarations.{Declaration, HeaderLine, Skipped, Unprintable, Unclosed, Shapeless, Says, header_line}
use Rattle.job_texts.specs.DeclaredNames.{form_of}
use Rattle.std.proofs.lemmas.List.{length-map}
use Rattle.std.proofs.lemmas.List.Elements.{All-cons}
use Rattle.std.proofs.lemmas.Option.{none-some}
use Rattle.grammar_text.specs.declared.reader.collected.LineSort.{LineSort}
use Rattle.grammar_text.specs.declared.reader.declaration.Declaration as code
use Rattle.grammar_text.specs.Collecting.{says_in, woven}
use Rattle.grammar_text.specs.Names.{part_count}
use Rattle.grammar_text.specs.Seen.{words_seen, declaration_seen}
use Rattle.grammar_text.proofs.Firsts.{first_yes, first_no}
use Rattle.grammar_text.proofs.Weaving.{forms-woven}
use Rattle.grammar_text.proofs.PartCounts.{parts_few}

pub header_short : (lines : List (List ℕ)) → length (up_to_words_line lines) ≤ length lines
header_short [] = omega arith
header_short (line ∷ lines) = step (is_words_line line) refl (header_short lines)
  where
    step : (is : Bool) → is_words_line line ≡ is → length (up_to_words_line lines) ≤ length lines → length (up_to_words_line (line ∷ lines)) ≤ length (line ∷ lines)
    step true e others = rw e (omega arith)
    step false e others = rw e (omega arith)

pub declared_few : (lines : List HeaderLine) → length (filter_map form_of lines) ≤ length lines
declared_few [] = omega arith
declared_few (Says d ∷ lines) = let h = declared_few lines in omega arith
declared_few (Skipped ∷ lines) = let h = declared_few lines in omega arith
declared_few (Unprintable ∷ lines) = let h = declared_few lines in omega arith
declared_few (Unclosed ∷ lines) = let h = declared_few lines in omega arith
declared_few (Shapeless ∷ lines) = let h = declared_few lines in omega arith

-- the declaration has few parts
abbrev pub HasFewParts : Declaration → Type 0
HasFewParts declaration = part_count declaration < 2 ^ 32

module _ (version : ℕ) where
  pub parts_short : (lines : List (List ℕ)) → All (λ line. length line ≤ 2 ^ 31) lines → All HasFewParts (filter_map form_of (map (header_line version) (up_to_words_line lines)))
  parts_short [] short = λ k d h. absurd (omega arith)
  parts_short (line ∷ lines) short = step (is_words_line line) ((header_line version) line) refl refl (parts_short lines (λ k d h. short (suc k) d (omega arith)))
    where
      more : (found : HeaderLine) → (header_line version) line ≡ found → (others : List HeaderLine) → All HasFewParts (filter_map form_of others) → All HasFewParts (filter_map form_of (found ∷ others))
      more (Says d) e others h = All-cons HasFewParts d (filter_map form_of others) (let few = parts_few version line d e in let s : length line ≤ 2 ^ 31 = short 0 line (omega arith) in omega arith) h
      more Skipped e others h = h
      more Unprintable e others h = h
      more Unclosed e others h = h
      more Shapeless e others h = h

      step : (is : Bool) (found : HeaderLine) → is_words_line line ≡ is → (header_line version) line ≡ found → All HasFewParts (filter_map form_of (map (header_line version) (up_to_words_line lines)))
          → All HasFewParts (filter_map form_of (map (header_line version) (up_to_words_line (line ∷ lines))))
      step true found e k h = rw (e, k) (more found k [] (λ k d h. absurd (omega arith)))
      step false found e k h = rw (e, k) (more found k (map (header_line version) (up_to_words_line lines)) h)

  -- what is declared, of the header as it is kept
  declared_are : (sorts : List LineSort) (declared : List code.Declaration) (others : List (Bor (List ℕ))) → says_in sorts ≡ length declared
      → woven sorts (map declaration_seen declared) ≡ Skipped ∷ map (header_line version) (up_to_words_line (words_seen others)) → map declaration_seen declared ≡ filter_map form_of (map (header_line version) (up_to_words_line (words_seen others)))
  declared_are sorts declared others says seen =
      sym (forms-woven sorts (map declaration_seen declared) (says ∙ sym (length-map declared declaration_seen))) ∙ ap (filter_map form_of) seen

  pub declared_within : (sorts : List LineSort) (declared : List code.Declaration) (lines others : List (Bor (List ℕ))) → says_in sorts ≡ length declared
      → woven sorts (map declaration_seen declared) ≡ Skipped ∷ map (header_line version) (up_to_words_line (words_seen others)) → others ≡ drop 1 lines → (most : ℕ) → length lines ≤ most → length declared ≤ most
  declared_within sorts declared lines others says seen behind most few =
      let same : length declared ≡ length (filter_map form_of (map (header_line version) (up_to_words_line (words_seen others)))) =
      sym (length-map declared declaration_seen) ∙ ap length (declared_are sorts declared others says seen) in
      let one = declared_few (map (header_line version) (up_to_words_line (words_seen others))) in
      let two : length (map (header_line version) (up_to_words_line (words_seen others))) ≡ length (up_to_words_line (words_seen others)) = length-map (up_to_words_line (words_seen others)) (header_line version) in
      let three = header_short (words_seen others) in
      let four : length (words_seen others) ≡ length others = length-map others (λ word. word.now) in
      let five : length others ≤ length lines = rw behind (shorter lines) in
      omega arith
    where
      shorter : (lines : List (Bor (List ℕ))) → length (drop 1 lines) ≤ length lines
      shorter [] = omega arith
      shorter (line ∷ lines) = omega arith

  pub parts_within : (sorts : List LineSort) (declared : List code.Declaration) (lines others : List (Bor (List ℕ))) → says_in sorts ≡ length declared
      → woven sorts (map declaration_seen declared) ≡ Skipped ∷ map (header_line version) (up_to_words_line (words_seen others)) → others ≡ drop 1 lines
      → All (λ (line : Bor (List ℕ)). length line.now ≤ 2 ^ 31) lines → All (λ (declaration : code.Declaration). part_count (declaration_seen declaration) < 2 ^ 32) declared
  parts_within sorts declared lines others says seen behind short =
      each declared (rw (declared_are sorts declared others says seen) (parts_short (words_seen others) (seen_short others (rw behind (later lines short)))))
    where
      later : (lines : List (Bor (List ℕ))) → All (λ (line : Bor (List ℕ)). length line.now ≤ 2 ^ 31) lines → All (λ (line : Bor (List ℕ)). length line.now ≤ 2 ^ 31) (drop 1 lines)
      later [] short = short
      later (line ∷ lines) short = λ k d h. short (suc k) d (omega arith)

      seen_short : (others : List (Bor (List ℕ))) → All (λ (line : Bor (List ℕ)). length line.now ≤ 2 ^ 31) others → All (λ (line : List ℕ). length line ≤ 2 ^ 31) (words_seen others)
      seen_short [] short = λ k d h. absurd (omega arith)
      seen_short (line ∷ lines) short = All-cons (λ (line : List ℕ). length line ≤ 2 ^ 31) line.now (words_seen lines) (short 0 line (omega arith)) (seen_short lines (λ k d h. short (suc k) d (omega arith)))

      each : (declared : List code.Declaration) → All HasFewParts (map declaration_seen declared) → All (λ (declaration : code.Declaration). part_count (declaration_seen declaration) < 2 ^ 32) declared
      each [] few = λ k d h. absurd (omega arith)
      each (e ∷ declared) few = All-cons (λ (declaration : code.Declaration). part_count (declaration_seen declaration) < 2 ^ 32) e declared (few 0 (declaration_seen e) (omega arith)) (each declared (λ k d h. few (suc k) d (omega arith)))

-- ---- the words

-- what stands behind the first that passes
abbrev pub IsBehind : {X : Type 0} → (X → Bool) → List X → Option ℕ → Type 0
IsBehind p xs None = after_first p xs ≡ []
IsBehind p xs (Some place) = (place < length xs) × (after_first p xs ≡ drop (place + 1) xs)

after_yes : {X : Type 0} (p : X → Bool) (x : X) (xs : List X) → p x ≡ true → after_first p (x ∷ xs) ≡ xs
after_yes p x xs h = rw h refl

after_no : {X : Type 0} (p : X → Bool) (x : X) (xs : List X) → p x ≡ false → after_first p (x ∷ xs) ≡ after_first p xs
after_no p x xs h = rw h (ap (λ n. drop n (x ∷ xs)) (let e : 1 + position_or_len p xs + 1 ≡ suc (position_or_len p xs + 1) = omega arith in e))

pub behind_first_place : {X : Type 0} (p : X → Bool) (xs : List X) (found : Option ℕ) → position p xs ≡ found → IsBehind p xs found
behind_first_place p [] None h = refl
behind_first_place p [] (Some place) h = absurd (none-some place h)
behind_first_place {X} p (x ∷ xs) found h = step (p x) (position p xs) refl refl (behind_first_place p xs (position p xs) refl)
  where
    step : (is : Bool) (other : Option ℕ) → p x ≡ is → position p xs ≡ other → IsBehind p xs other → IsBehind p (x ∷ xs) found
    step true other e k b = rw (sym h ∙ first_yes p x xs e) ((let l : 0 < suc (length xs) = omega arith in l), after_yes p x xs e)
    step false None e k b = rw (sym h ∙ first_no p x xs e ∙ ap (option_map (λ n. suc n)) k) (after_no p x xs e ∙ b)
    step false (Some place) e k b =
        rw (sym h ∙ first_no p x xs e ∙ ap (option_map (λ n. suc n)) k)
        ((let l = b.0 in omega arith), (after_no p x xs e ∙ b.1 ∙ (let e : suc (place + 1) ≡ suc place + 1 = omega arith in ap (λ n. drop n (x ∷ xs)) e)))

-- the words are what stands behind the `words` line, of which this is the number; there are none without one
abbrev pub AreWordsBehind : List (List ℕ) → Option ℕ → Type 0
AreWordsBehind lines None = words_of lines ≡ []
AreWordsBehind lines (Some number) = (number ≤ length lines) × (words_of lines ≡ drop number lines)

pub words_behind : (lines : List (List ℕ)) → AreWordsBehind lines (words_line_of lines)
words_behind [] = refl
words_behind (line ∷ lines) = step (position is_words_line lines) (behind_first_place is_words_line lines (position is_words_line lines) refl)
  where
    step : (found : Option ℕ) → IsBehind is_words_line lines found → AreWordsBehind (line ∷ lines) (option_map (λ place. place + 2) found)
    step None b = b
    step (Some place) b =
        ((let l = b.0 in omega arith), (b.1 ∙ (let e : suc (place + 1) ≡ place + 2 = omega arith in ap (λ n. drop n (line ∷ lines)) e)))

pub drop_seen : (number : ℕ) (lines : List (Bor (List ℕ))) → words_seen (drop number lines) ≡ drop number (words_seen lines)
drop_seen zero lines = refl
drop_seen (suc number) [] = refl
drop_seen (suc number) (line ∷ lines) = drop_seen number lines
