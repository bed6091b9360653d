-- Told bytes over several calls.
use Rattle.std.proofs.Common.{◌≡◌, ℕ, ◌+◌, ◌-◌, ◌<◌, ◌≤◌, List, [], ◌++◌, length, take, drop, Option, Some, None, IfSome, arith, ap, sym, ◌∙◌, subst, length-append, length-take}
use Rattle.std.proofs.Math.Seq.{take-append-add}
use Rattle.std.proofs.lemmas.List.{take-append-le}
use lib.Seq.{take-add, take-take}
use Rattle.std.specs.Io.KnownBytes.{Appends, Consumes, Keeps}
use Rattle.std.proofs.KnownBytes.{Appends-trans, Consumes-kept, Consumes-nil, Consumes-trans}
use Rattle.adp_io.specs.Streams.{AppendsProperPrefix, LosesAtMost, Moves}

-- a sink that took the first k bytes, and then the first n of the others, took the first k + n
pub appends_more : (a b c : Option (List ℕ)) (bytes : List ℕ) (k n : ℕ) → n ≤ length (take (length bytes - k) (drop k bytes))
    → Appends a b (take k bytes) → Appends b c (take n (take (length bytes - k) (drop k bytes))) → Appends a c (take (k + n) bytes)
appends_more a b c bytes k n fits first second =
    let most = length-take (length bytes - k) (drop k bytes) in
    let joined = ap (λ l. take k bytes ++ l) (take-take n (length bytes - k) (drop k bytes) (omega arith)) ∙ sym (take-add k n bytes) in
    subst (Appends a c) joined (Appends-trans a b c _ _ first second)

-- a sink that took one text and then a proper prefix of another took a proper prefix of both
pub proper_prefix_after : (a b c : Option (List ℕ)) (first second : List ℕ) → Appends a b first → AppendsProperPrefix b c second → AppendsProperPrefix a c (first ++ second)
proper_prefix_after a b c first second whole part =
    let both : take (length first + part.0) (first ++ second) ≡ first ++ take part.0 second = take-append-add first second part.0 in
    (length first + part.0, omega (arith, length-append first second, part.1), subst (Appends a c) (sym both) (Appends-trans a b c first (take part.0 second) whole part.2))

-- a proper prefix of a text is one of a longer text
pub proper_prefix_of : (a b : Option (List ℕ)) (text more : List ℕ) → AppendsProperPrefix a b text → AppendsProperPrefix a b (text ++ more)
proper_prefix_of a b text more part =
    let front : take part.0 (text ++ more) ≡ take part.0 text = take-append-le part.0 text more (omega (arith, part.1)) in
    (part.0, omega (arith, length-append text more, part.1), subst (Appends a b) (sym front) part.2)

-- what was read before, and what one more piece added, is what was read
pub consumes_moved : (a b c : Option (List ℕ)) (before after : List ℕ) (n : ℕ) → Consumes a b before → Moves b c before after n → Consumes a c after
consumes_moved a b c before after n first piece = subst (Consumes a c) (sym piece.2) (Consumes-trans a b c _ _ first piece.1)

-- what was read before a refusal is lost with what was read last
pub loses_all : (a b c : Option (List ℕ)) (before : List ℕ) (size n : ℕ) → size ≡ length before → size ≤ n
    → Consumes a b before → LosesAtMost b c (n - size) → LosesAtMost a c n
loses_all a b c before size n same fits first last =
    (before ++ last.0, Consumes-trans a b c _ _ first last.1, omega (arith, length-append before last.0, last.2))

-- nothing was read
pub loses_none : (a : Option (List ℕ)) (limit : ℕ) → LosesAtMost a a limit
loses_none a limit = ([], Consumes-nil a, omega arith)

-- what was read before a call that kept the rest
pub loses_read : (a b c : Option (List ℕ)) (read : List ℕ) (size limit : ℕ) → size ≡ length read → size ≤ limit
    → Consumes a b read → Keeps b c → LosesAtMost a c limit
loses_read a b c read size limit same fits first kept = (read, Consumes-kept a b c read first kept, omega arith)

-- more bytes were told than a limit, where one more than it was read
pub told_over : (a b : Option (List ℕ)) (read : List ℕ) (limit : ℕ) → limit < length read → Consumes a b read → IfSome a (λ left. limit < length left)
told_over None b read limit over lost = tt
told_over (Some xs) None read limit over lost = absurd lost
told_over (Some xs) (Some ys) read limit over lost = omega (arith, ap length lost, length-append read ys)

-- what one read gave is lost
pub loses_taken : (a b : Option (List ℕ)) (into : List ℕ) (count limit : ℕ) → length into ≤ limit → Consumes a b (take count into) → LosesAtMost a b limit
loses_taken a b into count limit within taken = (take count into, taken, omega (arith, length-take count into))

-- what one read gave stands at the end of a list
pub moves_taken : (a b : Option (List ℕ)) (list longer into behind : List ℕ) (count : ℕ) → count ≤ length into → Consumes a b (take count into)
    → longer ≡ list ++ take count (into ++ behind) → Moves a b list longer count
moves_taken a b list longer into behind count within taken same =
    (take count into, taken, same ∙ ap (λ l. list ++ l) (take-append-le count into behind within), omega (arith, length-take count into))
