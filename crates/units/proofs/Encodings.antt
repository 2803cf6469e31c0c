-- The bytes of a code point, by how many they are.
use Rattle.std.proofs.str.Laws.{two, three, four}

pub ruleset encodings = (two, three, four)
