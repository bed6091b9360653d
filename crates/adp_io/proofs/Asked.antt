-- What a source was asked for and how often it was called, in several reads.
use Rattle.std.proofs.Common.{◌≡◌, ℕ, ◌+◌, ◌≤◌, List, length, Option, Some, None, IfSome, arith, ap, length-append}
use Rattle.std.specs.Io.KnownBytes.{Consumes}
use Rattle.adp_io.specs.Streams.{AsksFor, AsksForAtMost, CallsAtMost, CountsCall}

-- no read
pub asks_none : (a : Option ℕ) (limit : ℕ) → AsksForAtMost a a limit
asks_none None limit = tt
asks_none (Some x) limit = (omega arith, omega arith)

-- one read
pub asks_within : (a b : Option ℕ) (n limit : ℕ) → AsksFor a b n → n ≤ limit → AsksForAtMost a b limit
asks_within None b n limit once within = tt
asks_within (Some x) None n limit once within = once
asks_within (Some x) (Some y) n limit once within = (omega arith, omega arith)

-- reads after reads
pub asks_for_more : (a b c : Option ℕ) (limit : ℕ) → AsksForAtMost a b limit → AsksForAtMost b c limit → AsksForAtMost a c limit
asks_for_more None b c limit first then = tt
asks_for_more (Some x) None c limit first then = absurd first
asks_for_more (Some x) (Some y) None limit first then = then
asks_for_more (Some x) (Some y) (Some z) limit first then = (omega arith, omega arith)

-- calls within a limit are within a greater one
pub calls_within : (a b : Option ℕ) (n limit : ℕ) → CallsAtMost a b n → n ≤ limit → CallsAtMost a b limit
calls_within None b n limit calls within = tt
calls_within (Some x) None n limit calls within = calls
calls_within (Some x) (Some y) n limit calls within = omega arith

-- no call
pub calls_none : (a : Option ℕ) (limit : ℕ) → CallsAtMost a a limit
calls_none None limit = tt
calls_none (Some x) limit = omega arith

-- one call more
pub calls_once_more : (a b c : Option ℕ) (n limit : ℕ) → CallsAtMost a b n → CountsCall b c → n + 1 ≤ limit → CallsAtMost a c limit
calls_once_more None b c n limit calls once within = tt
calls_once_more (Some x) None c n limit calls once within = absurd calls
calls_once_more (Some x) (Some y) None n limit calls once within = once
calls_once_more (Some x) (Some y) (Some z) n limit calls once within = omega arith

-- calls within the bytes that were read are within all the bytes
pub told_calls : (left mid : Option (List ℕ)) (a b : Option ℕ) (read : List ℕ) (size : ℕ) → size ≡ length read → Consumes left mid read
    → CallsAtMost a b (size + 1) → IfSome left (λ l. CallsAtMost a b (length l + 1))
told_calls None mid a b read size same lost calls = tt
told_calls (Some xs) None a b read size same lost calls = absurd lost
told_calls (Some xs) (Some ys) a b read size same lost calls =
    calls_within a b (size + 1) (length xs + 1) calls (omega (arith, ap length lost, length-append read ys))
