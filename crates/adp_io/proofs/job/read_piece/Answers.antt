use Rattle.std.proofs.Common.{rules, ◌≡◌, ℕ, ◌+◌, ◌-◌, ◌<◌, ◌≤◌, List, [], ◌++◌, length, min, take, true, Ok, Err, IsErr, is_ok, vec_len, arith, refl, length-append, length-take}
use Rattle.std.proofs.KnownBytes.{Consumes-nil}
use Rattle.std.proofs.lemmas.Result.{IfOk-at_ok}
use Rattle.adp_io.specs.declared.job.JobFault.TheVariants.{Memory, ReadFault}
use Rattle.adp_io.specs.Streams.{job_limit}
use Rattle.adp_io.proofs.Asked.{asks_within}
use Rattle.adp_io.proofs.Faults.{at_err, fails_as, no_err, stood}
use Rattle.adp_io.proofs.Told.{loses_read, loses_taken, moves_taken}
use Rattle.adp_io.proofs.job.read_piece.Given as given
use Rattle.adp_io.proofs.job.read_piece.Goals as goal

-- the length of the bytes that a read gave
taken_len : (into behind : List ℕ) (count : ℕ) → count ≤ length into → length (take count (into ++ behind)) ≡ count
taken_len into behind count within = omega (arith, length-take count (into ++ behind), length-append into behind)

-- how many bytes are asked for
into_len : (into piece : List ℕ) (most room : ℕ) → length into ≡ length (take most piece) → most ≡ min (length piece) room → length into ≡ min (length piece) room
into_len into piece most room same least = omega (arith, length-take most piece)

within_piece : (into piece room limit : ℕ) → into ≡ min piece room → piece ≤ limit → into ≤ limit
within_piece into piece room limit least short = omega arith

within_room : (into piece seen len limit : ℕ) → into ≡ min piece (limit - seen) → seen ≡ len → into ≤ limit - len
within_room into piece seen len limit least is = omega arith

some_asked : (into piece seen len limit : ℕ) → into ≡ min piece (limit + 1 - seen) → seen ≡ len → len ≤ limit → 0 < piece → 0 < into
some_asked into piece seen len limit least is room some = omega arith

-- the bytes read fit into the room
fits_after : (new old count into limit : ℕ) → new ≡ old + count → count ≤ into → into ≤ limit + 1 - old → old ≤ limit → new ≤ limit + 1
fits_after new old count into limit grown within room fits = omega arith

-- where the read failed
read_err : (g : given.Over) (c : goal.After-from_residual g) → IsErr c.read.result
read_err g c = search rules

read_fault : (g : given.Over) (c : goal.After-from_residual g) → c.from_residual.result ≡ Err ReadFault
read_fault g c = search rules

pub returns-in_err-count-clause-told : goal.returns-in_err-count-clause-told
returns-in_err-count-clause-told g c = c.read.ensures.told

pub returns-in_err-count-clause-faults : goal.returns-in_err-count-clause-faults
returns-in_err-count-clause-faults g c = fails_as _ _ c.read.ensures.faults (read_err g c) (read_fault g c)

pub returns-in_err-count-clause-asked : goal.returns-in_err-count-clause-asked
returns-in_err-count-clause-asked g c = asks_within _ _ _ _ c.read.ensures.asked (within_piece _ _ _ _ (into_len c.read.new.into c.args.piece.now _ _ c.read.auto.into c.min-most.ensures) c.requires.short)

pub returns-in_err-count-clause-calls : goal.returns-in_err-count-clause-calls
returns-in_err-count-clause-calls g c = c.read.ensures.calls

pub returns-in_err-count-clause-moved : goal.returns-in_err-count-clause-moved
returns-in_err-count-clause-moved g c = rw (read_fault g c) tt

pub returns-in_err-count-clause-len : goal.returns-in_err-count-clause-len
returns-in_err-count-clause-len g c = rw (read_fault g c) tt

pub returns-in_err-count-clause-fits : goal.returns-in_err-count-clause-fits
returns-in_err-count-clause-fits g c = rw (read_fault g c) tt

pub returns-in_err-count-clause-end : goal.returns-in_err-count-clause-end
returns-in_err-count-clause-end g c = rw (read_fault g c) tt

pub returns-in_err-count-clause-read_fault : goal.returns-in_err-count-clause-read_fault
returns-in_err-count-clause-read_fault g c = λ _. at_err _ (read_err g c) c.read.ensures.kept

pub returns-in_err-count-clause-too_long : goal.returns-in_err-count-clause-too_long
returns-in_err-count-clause-too_long g c = λ h. let e = read_fault g c in cc

pub returns-in_err-count-clause-refused : goal.returns-in_err-count-clause-refused
returns-in_err-count-clause-refused g c =
    rw (read_fault g c) (loses_read _ _ _ [] 0 _ refl (omega arith) (Consumes-nil _) (at_err _ (read_err g c) c.read.ensures.kept))

-- where the bytes did not fit into memory
read_before : (g : given.Over) (c : goal.After-from_residual-in_err-map_err g) → c.read.result ≡ Ok c.in_ok-count.count
read_before g c = search rules

memory : (g : given.Over) (c : goal.After-from_residual-in_err-map_err g) → c.from_residual-in_err-map_err.result ≡ Err Memory
memory g c = search rules

pub returns-in_err-map_err-clause-told : goal.returns-in_err-map_err-clause-told
returns-in_err-map_err-clause-told g c = c.read.ensures.told

pub returns-in_err-map_err-clause-faults : goal.returns-in_err-map_err-clause-faults
returns-in_err-map_err-clause-faults g c = stood _ _ _ (c.read.ensures.faults.stands (no_err _ _ (read_before g c))) (λ h. let e = memory g c in cc)

pub returns-in_err-map_err-clause-asked : goal.returns-in_err-map_err-clause-asked
returns-in_err-map_err-clause-asked g c = asks_within _ _ _ _ c.read.ensures.asked (within_piece _ _ _ _ (into_len c.read.new.into c.args.piece.now _ _ c.read.auto.into c.min-most.ensures) c.requires.short)

pub returns-in_err-map_err-clause-calls : goal.returns-in_err-map_err-clause-calls
returns-in_err-map_err-clause-calls g c = c.read.ensures.calls

pub returns-in_err-map_err-clause-moved : goal.returns-in_err-map_err-clause-moved
returns-in_err-map_err-clause-moved g c = rw (memory g c) tt

pub returns-in_err-map_err-clause-len : goal.returns-in_err-map_err-clause-len
returns-in_err-map_err-clause-len g c = rw (memory g c) tt

pub returns-in_err-map_err-clause-fits : goal.returns-in_err-map_err-clause-fits
returns-in_err-map_err-clause-fits g c = rw (memory g c) tt

pub returns-in_err-map_err-clause-end : goal.returns-in_err-map_err-clause-end
returns-in_err-map_err-clause-end g c = rw (memory g c) tt

pub returns-in_err-map_err-clause-read_fault : goal.returns-in_err-map_err-clause-read_fault
returns-in_err-map_err-clause-read_fault g c = λ h. let e = memory g c in cc

pub returns-in_err-map_err-clause-too_long : goal.returns-in_err-map_err-clause-too_long
returns-in_err-map_err-clause-too_long g c = λ h. let e = memory g c in cc

pub returns-in_err-map_err-clause-refused : goal.returns-in_err-map_err-clause-refused
returns-in_err-map_err-clause-refused g c =
    rw (memory g c) (loses_taken _ _ c.read.new.into c.in_ok-count.count _ (within_room _ _ _ _ _ (into_len c.read.new.into c.args.piece.now _ _ c.read.auto.into c.min-most.ensures) c.len.ensures) (IfOk-at_ok _ (read_before g c) c.read.ensures.taken))

-- where all went well
read_ok : (g : given.Over) (c : goal.In_ok-map_err g) → c.read.result ≡ Ok c.in_ok-count.count
read_ok g c = search rules

extended : (g : given.Over) (c : goal.In_ok-map_err g) → is_ok c.extend_from_slice.result ≡ true
extended g c = search rules

given_len : (g : given.Over) (c : goal.In_ok-map_err g) → c.in_ok-count.count ≤ length c.read.new.into
given_len g c = (IfOk-at_ok _ (read_ok g c) c.read.ensures.bound).0

grown : (g : given.Over) (c : goal.In_ok-map_err g) → vec_len c.extend_from_slice.new.self ≡ vec_len c.args.bytes.now + c.in_ok-count.count
grown g c = let len = rw (extended g c) at c.extend_from_slice.ensures.len in rw (taken_len c.read.new.into _ c.in_ok-count.count (given_len g c)) at len

pub returns-clause-told : goal.returns-clause-told
returns-clause-told g c = c.read.ensures.told

pub returns-clause-faults : goal.returns-clause-faults
returns-clause-faults g c = stood _ _ _ (c.read.ensures.faults.stands (no_err _ _ (read_ok g c))) (λ h. cc)

pub returns-clause-asked : goal.returns-clause-asked
returns-clause-asked g c = asks_within _ _ _ _ c.read.ensures.asked (within_piece _ _ _ _ (into_len c.read.new.into c.args.piece.now _ _ c.read.auto.into c.min-most.ensures) c.requires.short)

pub returns-clause-calls : goal.returns-clause-calls
returns-clause-calls g c = c.read.ensures.calls

pub returns-clause-moved : goal.returns-clause-moved
returns-clause-moved g c = moves_taken _ _ _ _ c.read.new.into _ c.in_ok-count.count (given_len g c)
    (IfOk-at_ok _ (read_ok g c) c.read.ensures.taken) (rw (extended g c) at c.extend_from_slice.ensures.items)

pub returns-clause-len : goal.returns-clause-len
returns-clause-len g c = grown g c

pub returns-clause-fits : goal.returns-clause-fits
returns-clause-fits g c = fits_after _ _ _ _ job_limit (grown g c) (given_len g c)
    (within_room _ _ _ _ _ (into_len c.read.new.into c.args.piece.now _ _ c.read.auto.into c.min-most.ensures) c.len.ensures) c.requires.room

pub returns-clause-end : goal.returns-clause-end
returns-clause-end g c = λ none. IfOk-at_ok _ (read_ok g c) c.read.ensures.end none (some_asked _ _ _ _ job_limit (into_len c.read.new.into c.args.piece.now _ _ c.read.auto.into c.min-most.ensures) c.len.ensures c.requires.room c.requires.piece)

pub returns-clause-read_fault : goal.returns-clause-read_fault
returns-clause-read_fault g c = λ h. cc

pub returns-clause-too_long : goal.returns-clause-too_long
returns-clause-too_long g c = λ h. cc
