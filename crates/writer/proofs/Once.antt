-- Numbers with one text are one number, under every writer. Assumes nothing.
use Rattle.std.proofs.Common.{◌≡◌, ℕ, List, Some, Option}
use lib.Ieee.{Float}
use Rattle.writer.specs.Writers.{Exact}

pub text_once : (text : Float → Option (List ℕ)) → Exact text → (x y : Float) (t : List ℕ) → text x ≡ Some t → text y ≡ Some t → x ≡ y
text_once text exact x y t p q =
    let a = exact x t p in
    let b = exact y t q in
    let e : a.0 ≡ b.0 = cc (a.2, b.2) in
    cc (a.3, b.3, e)
