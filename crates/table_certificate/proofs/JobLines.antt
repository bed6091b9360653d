-- Bytes are parted at their first line `job` in one way.
use Rattle.std.proofs.Common.{◌≡◌, ℕ, ◌≤◌, ◌⊎◌, inl, inr, List, [], ◌∷◌, ◌++◌, codes, length, map, append_assoc, append-nil, refl, sym, ap, subst, ◌∙◌, arith, Contains}
use Rattle.std.specs.Char.{is_newline}
use Rattle.std.specs.List.{slice_split}
use Rattle.std.specs.Str.Lines.{lines, strip_carriage_return}
use Rattle.std.proofs.lemmas.List.Elements.{Contains-append_right}
use Rattle.adp_model.specs.Ascii.{line_feed}
use Rattle.table_certificate.specs.JobSplit.{AreEndedLines, IsEndedLine, IsFirstLine, IsSplitAtJob}
use Rattle.table_certificate.proofs.SplitLines.{NotEmpty, lines-append, lines_behind, lines_of_first, some_part}

abbrev job : List ℕ
job = codes "job"

-- the line `job` is the first of the bytes from it on
job_first : (ended behind : List ℕ) → IsEndedLine job behind ended → IsFirstLine (ended ++ behind) job behind
job_first ended behind (inl is) = record {
  ended = ended;
  parts = refl;
  is_ended = inl is;
  some = let long : length ended ≡ 4 = ap length is in omega arith;
  alone = ap lines is;
}
job_first ended behind (inr (inl is)) = record {
  ended = ended;
  parts = refl;
  is_ended = inr (inl is);
  some = let long : length ended ≡ 5 = ap length is in omega arith;
  alone = ap lines is;
}
job_first ended behind (inr (inr is)) = record {
  ended = ended;
  parts = refl;
  is_ended = inr (inr is);
  some = let long : length ended ≡ 3 = ap length is.0 in omega arith;
  alone = ap lines is.0;
}

lines_from_job : (ended behind : List ℕ) → IsEndedLine job behind ended → lines (ended ++ behind) ≡ job ∷ lines behind
lines_from_job ended behind is = lines_of_first (ended ++ behind) job behind (job_first ended behind is)

grouped : (bytes before behind : List ℕ) → (split : IsSplitAtJob bytes before behind)
    → bytes ≡ before ++ (split.ended ++ behind)
grouped bytes before behind split = split.parts ∙ append_assoc before split.ended behind

-- where bytes are parted at a line `job`, they have such a line
pub has_job : (bytes before behind : List ℕ) → IsSplitAtJob bytes before behind → Contains (lines bytes) (codes "job")
has_job bytes before behind split =
    let all : lines bytes ≡ lines before ++ (job ∷ lines behind) =
    ap lines (grouped bytes before behind split) ∙ lines-append before (split.ended ++ behind) split.whole
    ∙ ap (λ (x : List (List ℕ)). lines before ++ x) (lines_from_job split.ended behind split.is_job) in
    subst (λ (x : List (List ℕ)). Contains x job) (sym all)
    (Contains-append_right (lines before) (job ∷ lines behind) job (0, omega arith, refl))

-- ---- two ways to part

head_of : (a b : ℕ) (xs ys : List ℕ) → a ∷ xs ≡ b ∷ ys → a ≡ b
head_of a b xs ys e = cc

tail_of : (a b : ℕ) (xs ys : List ℕ) → a ∷ xs ≡ b ∷ ys → xs ≡ ys
tail_of a b xs ys e = cc

nothing_like : (a : ℕ) (xs : List ℕ) → a ∷ xs ≡ [] → ⊥
nothing_like a xs e = cc

-- the longer one of two beginnings goes on behind the shorter one
longer : (a m c n : List ℕ) → a ++ m ≡ c ++ n → length a ≤ length c
    → (more : List ℕ) × (c ≡ a ++ more) × (m ≡ more ++ n)
longer [] m c n e low = (c, refl, e)
longer (first ∷ a) m [] n e low = absurd (omega arith)
longer (first ∷ a) m (other ∷ c) n e low =
    let found = longer a m c n (tail_of first other (a ++ m) (c ++ n) e) (omega arith) in
    let same : first ≡ other = head_of first other (a ++ m) (c ++ n) e in
    (found.0, ap (λ x. x ∷ c) (sym same) ∙ ap (λ (x : List ℕ). first ∷ x) found.1, found.2)

-- what stands at the end of ended lines ends with an LF
ended_end : (a more earlier : List ℕ) → a ++ more ≡ earlier ++ line_feed ∷ [] → AreEndedLines more
ended_end [] more earlier e = inr (earlier, e)
ended_end (first ∷ []) more [] e = inl (tail_of first line_feed more [] e)
ended_end (first ∷ second ∷ a) more [] e = absurd (nothing_like second (a ++ more) (tail_of first line_feed (second ∷ (a ++ more)) [] e))
ended_end (first ∷ a) more (other ∷ earlier) e = ended_end a more earlier (tail_of first other (a ++ more) (earlier ++ line_feed ∷ []) e)

some_line : (earlier : List ℕ) → NotEmpty (lines (earlier ++ line_feed ∷ []))
some_line earlier =
    let part = some_part earlier in
    record {
      first = strip_carriage_return part.first;
      others = map strip_carriage_return part.others;
      is = lines_behind earlier [] ∙ append-nil (map strip_carriage_return (slice_split is_newline earlier)) ∙ ap (λ (x : List (List ℕ)). map strip_carriage_return x) part.is;
    }

first_is : (a b : List ℕ) (xs ys : List (List ℕ)) → a ∷ xs ≡ b ∷ ys → a ≡ b
first_is a b xs ys e = cc

-- ended lines that begin where a line `job` begins are none, or have that line
none_or_job : (more n ended behind : List ℕ) → IsEndedLine job behind ended → ended ++ behind ≡ more ++ n
    → AreEndedLines more → (more ≡ []) ⊎ Contains (lines more) (codes "job")
none_or_job more n ended behind is e (inl none) = inl none
none_or_job more n ended behind is e (inr (earlier, ends)) =
    let some = some_line earlier in
    let line_is : lines more ≡ some.first ∷ some.others = ap lines ends ∙ some.is in
    let both : job ∷ lines behind ≡ some.first ∷ (some.others ++ lines n) =
    sym (lines_from_job ended behind is) ∙ ap lines e ∙ lines-append more n (inr (earlier, ends)) ∙ ap (λ (x : List (List ℕ)). x ++ lines n) line_is in
    let same : job ≡ some.first = first_is job some.first (lines behind) (some.others ++ lines n) both in
    inr (subst (λ (x : List (List ℕ)). Contains x job) (sym line_is) (0, omega arith, sym same))

-- what stands behind the three bytes of a line `job`
abbrev IsRest : List ℕ → List ℕ → Type 0
IsRest behind rest =
    (rest ≡ line_feed ∷ behind) ⊎ (rest ≡ 13 ∷ line_feed ∷ behind) ⊎ ((rest ≡ []) × (behind ≡ []))

rest_of : (ended behind : List ℕ) → IsEndedLine job behind ended
    → (rest : List ℕ) × IsRest behind rest × (ended ++ behind ≡ job ++ rest)
rest_of ended behind (inl is) = (line_feed ∷ behind, inl refl, ap (λ (x : List ℕ). x ++ behind) is)
rest_of ended behind (inr (inl is)) = (13 ∷ line_feed ∷ behind, inr (inl refl), ap (λ (x : List ℕ). x ++ behind) is)
rest_of ended behind (inr (inr is)) = ([], inr (inr (refl, is.1)), ap (λ (x : List ℕ). ended ++ x) is.1 ∙ append-nil ended ∙ is.0)

same_rest : (rest b d : List ℕ) → IsRest b rest → IsRest d rest → b ≡ d
same_rest rest b d (inl e) (inl h) = cc
same_rest rest b d (inr (inl e)) (inr (inl h)) = cc
same_rest rest b d (inr (inr e)) (inr (inr h)) = e.1 ∙ sym h.1
same_rest rest b d (inl e) (inr (inl h)) = let like : line_feed ≡ 13 = head_of line_feed 13 b (line_feed ∷ d) (sym e ∙ h) in absurd (omega arith)
same_rest rest b d (inr (inl e)) (inl h) = let like : 13 ≡ line_feed = head_of 13 line_feed (line_feed ∷ b) d (sym e ∙ h) in absurd (omega arith)
same_rest rest b d (inl e) (inr (inr h)) = absurd (nothing_like line_feed b (sym e ∙ h.0))
same_rest rest b d (inr (inl e)) (inr (inr h)) = absurd (nothing_like 13 (line_feed ∷ b) (sym e ∙ h.0))
same_rest rest b d (inr (inr e)) (inl h) = absurd (nothing_like line_feed d (sym h ∙ e.0))
same_rest rest b d (inr (inr e)) (inr (inl h)) = absurd (nothing_like 13 (line_feed ∷ d) (sym h ∙ e.0))

past_job : (xs ys : List ℕ) → job ++ xs ≡ job ++ ys → xs ≡ ys
past_job xs ys e = cc

same_behind : (ended other b d : List ℕ) → IsEndedLine job b ended → IsEndedLine job d other
    → ended ++ b ≡ other ++ d → b ≡ d
same_behind ended other b d is h e =
    let one = rest_of ended b is in
    let two = rest_of other d h in
    let same : one.0 ≡ two.0 = past_job one.0 two.0 (sym one.2 ∙ e ∙ two.2) in
    same_rest two.0 b d (subst (IsRest b) same one.1) two.1

parted_so : (bytes a b c d : List ℕ) → IsSplitAtJob bytes a b → IsSplitAtJob bytes c d → length a ≤ length c
    → (a ≡ c) × (b ≡ d)
parted_so bytes a b c d one two low =
    let found = longer a (one.ended ++ b) c (two.ended ++ d) (sym (grouped bytes a b one) ∙ grouped bytes c d two) low in
    by found.0 found.1 found.2 (none_or_job found.0 (two.ended ++ d) one.ended b one.is_job found.2 (ends found.0 found.1 two.whole))
  where
    ends : (more : List ℕ) → c ≡ a ++ more → AreEndedLines c → AreEndedLines more
    ends more is (inl none) = inl (nothing a more (sym is ∙ none))
      where
        nothing : (xs ys : List ℕ) → xs ++ ys ≡ [] → ys ≡ []
        nothing [] ys e = e
        nothing (x ∷ xs) ys e = absurd (nothing_like x (xs ++ ys) e)
    ends more is (inr (earlier, e)) = ended_end a more earlier (sym is ∙ e)

    by : (more : List ℕ) → c ≡ a ++ more → one.ended ++ b ≡ more ++ (two.ended ++ d)
        → (more ≡ []) ⊎ Contains (lines more) (codes "job") → (a ≡ c) × (b ≡ d)
    by more is rest (inl none) = (
      sym (is ∙ ap (λ (x : List ℕ). a ++ x) none ∙ append-nil a),
      same_behind one.ended two.ended b d one.is_job two.is_job (rest ∙ ap (λ (x : List ℕ). x ++ (two.ended ++ d)) none),
    )
    by more is rest (inr found) =
        let all : lines c ≡ lines a ++ lines more = ap lines is ∙ lines-append a more one.whole in
        absurd (two.first (subst (λ (x : List (List ℕ)). Contains x job) (sym all) (Contains-append_right (lines a) (lines more) job found)))

le_or_le : (m n : ℕ) → (m ≤ n) ⊎ (n ≤ m)
le_or_le m n = grind arith

pub parted_once : (bytes a b c d : List ℕ) → IsSplitAtJob bytes a b → IsSplitAtJob bytes c d → (a ≡ c) × (b ≡ d)
parted_once bytes a b c d one two = by (le_or_le (length a) (length c))
  where
    by : (length a ≤ length c) ⊎ (length c ≤ length a) → (a ≡ c) × (b ≡ d)
    by (inl low) = parted_so bytes a b c d one two low
    by (inr low) = let same = parted_so bytes c d a b two one low in (sym same.0, sym same.1)
