-- What contracts see of a source and a sink in memory.
use Rattle.std.specs.Prelude.{ℕ, List}

-- a source in memory: the bytes left, the most bytes that one read gives, the numbers of the calls that fail,
-- how many calls there were, how many of them failed, and the most bytes that one of them asked for
pub record SourceState : Type 0 where
  pub left : List ℕ
  pub piece : ℕ
  pub fails : List ℕ
  pub calls : ℕ
  pub faults : ℕ
  pub asked : ℕ

-- a sink in memory: the bytes held, how many it may hold, the most bytes of one write, the numbers of
-- the calls that fail, how many calls there were, and how many of them failed
pub record SinkState : Type 0 where
  pub held : List ℕ
  pub room : ℕ
  pub piece : ℕ
  pub fails : List ℕ
  pub calls : ℕ
  pub faults : ℕ
