use Rattle.std.proofs.Common.{ℕ, ◌/◌, ◌^◌, pos, ap, ◌∙◌}
use Rattle.integers.specs.Words.{to_uint_32, number_of}
use Rattle.integers.specs.Shifts.{unsigned_right_shift}
use Rattle.integers.proofs.shift.unsigned_right_shift.Goals as goal

pub returns : goal.returns
unfolding unsigned_right_shift
returns c =
    ap (λ (n : ℕ). number_of (pos (n / 2 ^ c.shift_count.result))) c.to_uint_32.ensures.value
    ∙ ap (λ (k : ℕ). number_of (pos (to_uint_32 c.args.x / 2 ^ k))) c.shift_count.ensures.value
