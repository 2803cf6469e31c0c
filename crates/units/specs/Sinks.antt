-- An output that keeps what fits and counts everything.
use Rattle.std.specs.Prelude.{◌≡◌, ℕ, suc, ◌-◌, ◌^◌, min, List, [], ◌∷◌, slice_set}
use Rattle.std.specs.Borrow.{GName}
use Rattle.units.specs.declared.sink.Sink.{Sink}

-- a state: what the output holds, and the count
abbrev pub state_of : Sink → List ℕ × ℕ
state_of s = (s.out.now, s.len)

-- which output it is: while this stays, the caller that lent the output learns what it holds in the end
abbrev pub lender_of : Sink → GName
lender_of s = s.out.ghost_name

-- past the end `slice_set` changes nothing; the count stays at its largest value
abbrev pub put_byte : List ℕ × ℕ → ℕ → List ℕ × ℕ
put_byte s b = (slice_set s.0 s.1 b, min (suc s.1) (2 ^ 64 - 1))

abbrev pub put : List ℕ × ℕ → List ℕ → List ℕ × ℕ
put s [] = s
put s (b ∷ bs) = put (put_byte s b) bs

-- from `old` to `new` these bytes were put, in the same output
pub record Puts (old : Sink) (bytes : List ℕ) (new : Sink) : Type 0 where
  pub state : state_of new ≡ put (state_of old) bytes
  pub lent : lender_of new ≡ lender_of old
