-- The tokens of pieces with a separator between two.
use Rattle.std.proofs.Common.{◌≡◌, ℕ, false, codes, List, [], ◌∷◌, ◌++◌, refl, append_assoc}
use Rattle.std.specs.List.{flat_map, join_by, AllByRecursion}
use Rattle.job_texts.specs.LineTokens.{Token, Comma, Bar, begins_word}
use Rattle.spelled_texts.proofs.ReadTokens.{TokenLaws, Reads, mark_then, space_then, same_text_reads}

-- the text says these tokens before any further text that begins with no byte of a word
pub record Begins (text : List ℕ) (tokens : List Token) : Type 0 where
  pub before : (rest : List ℕ) (others : List Token) → begins_word rest ≡ false → Reads rest others → Reads (text ++ rest) (tokens ++ others)

-- the text is a mark before any further text
pub record Separates (separator : List ℕ) (mark : Token) : Type 0 where
  pub ends : (rest : List ℕ) → begins_word (separator ++ rest) ≡ false
  pub before : (rest : List ℕ) (others : List Token) → Reads rest others → Reads (separator ++ rest) (mark ∷ others)

pub comma_separates : TokenLaws → Separates (codes ", ") Comma
comma_separates laws = record {
  ends = λ rest. refl;
  before = λ rest others reads. mark_then laws 44 Comma refl (space_then laws reads);
}

pub bar_separates : TokenLaws → Separates (codes " | ") Bar
bar_separates laws = record {
  ends = λ rest. refl;
  before = λ rest others reads. space_then laws (mark_then laws 124 Bar refl (space_then laws reads));
}

module _ {X : Type 0} (text : X → List ℕ) (tokens : X → List Token) (separator : List ℕ) (mark : Token) (separates : Separates separator mark) where
  ends_further : (xs : List X) (rest : List ℕ) → begins_word rest ≡ false → begins_word (flat_map (λ x. separator ++ text x) xs ++ rest) ≡ false
  ends_further [] rest ends = ends
  ends_further (x ∷ xs) rest ends =
      let front : ((separator ++ text x) ++ flat_map (λ x. separator ++ text x) xs) ++ rest ≡ separator ++ (text x ++ (flat_map (λ x. separator ++ text x) xs ++ rest)) = simp append_assoc in
      rw front (separates.ends (text x ++ (flat_map (λ x. separator ++ text x) xs ++ rest)))

  further_read : (xs : List X) → AllByRecursion (λ x. Begins (text x) (tokens x)) xs → (rest : List ℕ) (others : List Token) → begins_word rest ≡ false → Reads rest others
      → Reads (flat_map (λ x. separator ++ text x) xs ++ rest) (flat_map (λ x. mark ∷ tokens x) xs ++ others)
  further_read [] each rest others ends reads = reads
  further_read (x ∷ xs) each rest others ends reads =
      let behind = further_read xs each.1 rest others ends reads in
      let item = each.0.before _ _ (ends_further xs rest ends) behind in
      let front : ((separator ++ text x) ++ flat_map (λ x. separator ++ text x) xs) ++ rest ≡ separator ++ (text x ++ (flat_map (λ x. separator ++ text x) xs ++ rest)) = simp append_assoc in
      let said : (tokens x ++ flat_map (λ x. mark ∷ tokens x) xs) ++ others ≡ tokens x ++ (flat_map (λ x. mark ∷ tokens x) xs ++ others) = simp append_assoc in
      rw (front, said) (separates.before _ _ item)

  -- the joined pieces, one at least, before a further text
  pub joined_read : (x : X) (xs : List X) → AllByRecursion (λ x. Begins (text x) (tokens x)) (x ∷ xs) → (rest : List ℕ) (others : List Token) → begins_word rest ≡ false → Reads rest others
      → Reads (join_by text separator (x ∷ xs) ++ rest) (tokens x ++ (flat_map (λ x. mark ∷ tokens x) xs ++ others))
  joined_read x xs each rest others ends reads =
      same_text_reads (append_assoc (text x) (flat_map (λ x. separator ++ text x) xs) rest)
      (each.0.before _ _ (ends_further xs rest ends) (further_read xs each.1 rest others ends reads))
