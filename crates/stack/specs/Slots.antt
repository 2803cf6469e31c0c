-- What a stack holds: its items, the oldest first, and the slots that are still free.
use Rattle.std.specs.Prelude.{List}

pub record Slots (T : Type 0) : Type 0 where
  pub items : List T
  pub free : List T
