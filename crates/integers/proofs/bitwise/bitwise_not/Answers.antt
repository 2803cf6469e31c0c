use Rattle.std.proofs.Common.{ℤ, ap, ◌∙◌}
use Rattle.integers.specs.Words.{number_of}
use Rattle.integers.specs.Bitwise.{complement, bitwise_not}
use Rattle.integers.proofs.Words.{complement_is}
use Rattle.integers.proofs.bitwise.bitwise_not.Goals as goal

pub returns : goal.returns
unfolding bitwise_not
returns c = ap number_of (complement_is c.to_int_32.result (record { sfits = c.to_int_32.type_inv })) ∙ ap (λ (z : ℤ). number_of (complement z)) c.to_int_32.ensures.value
