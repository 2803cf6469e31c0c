use Rattle.std.proofs.Common.{refl}
use Rattle.script.proofs.quoted.hex_unit.Goals as goal

pub returns : goal.returns
returns c =
    record {
      a = _;
      b = _;
      c = _;
      d = _;
      after_a = _;
      after_b = _;
      after_c = _;
      first = c.in_ok-first.ensures;
      second = c.in_ok-second.ensures;
      third = c.in_ok-third.ensures;
      fourth = c.in_ok-fourth.ensures;
      worth = refl;
    }
