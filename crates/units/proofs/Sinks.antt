-- Laws of `put`.
use Rattle.std.proofs.Common.{◌≡◌, ℕ, suc, ◌+◌, ◌-◌, ◌^◌, ◌<◌, ◌≤◌, min, List, [], ◌∷◌, ◌++◌, length, get_or, take, drop, set, sym, refl, ap, ◌∙◌, subst, add-zero, zero-add, append-nil, arith}
use Rattle.std.proofs.lemmas.List.{take_more}
use Rattle.std.proofs.lemmas.List.Edits.{sets, sets-eq}
use Rattle.std.proofs.lemmas.Str.{encodes-append}
use lib.Utf8.{encode, encodes}
use Rattle.units.specs.declared.sink.Sink.{Sink}
use Rattle.units.specs.CodePoints.{code_points}
use Rattle.units.specs.Sinks.{state_of, put, put_byte, Puts}

pub put-append : (s : List ℕ × ℕ) (xs ys : List ℕ) → put (put s xs) ys ≡ put s (xs ++ ys)
put-append s [] ys = refl
put-append s (x ∷ xs) ys = put-append (put_byte s x) xs ys

-- ---- what a sink has put

-- one step after another
infixl 20 ◌⨾◌
pub ◌⨾◌ : {s t u : Sink} {xs ys : List ℕ} → Puts s xs t → Puts t ys u → Puts s (xs ++ ys) u
◌⨾◌ {s} {t} {u} {xs} {ys} p q =
    record { state = q.state ∙ ap (λ r. put r ys) p.state ∙ put-append (state_of s) xs ys; lent = q.lent ∙ p.lent }

pub puts_none : (s : Sink) → Puts s [] s
puts_none s = record { state = refl; lent = refl }

-- other bytes that are the same
pub puts_is : {s t : Sink} {xs ys : List ℕ} → Puts s xs t → xs ≡ ys → Puts s ys t
puts_is {s} {t} p e = subst (λ zs. Puts s zs t) e p

-- the units of a text, which is another that is the same
pub puts_units : {s t : Sink} {us vs : List ℕ} → Puts s (encodes (code_points us)) t → us ≡ vs → Puts s (encodes (code_points vs)) t
puts_units p e = puts_is p (ap (λ ws. encodes (code_points ws)) e)

-- a byte of a list, or a code point of a text, after those before it
pub puts_byte : {s t u : Sink} (bs : List ℕ) (i : ℕ) → i < length bs → Puts s (take i bs) t → Puts t (get_or bs i 0 ∷ []) u → Puts s (take (i + 1) bs) u
puts_byte bs i h p q = puts_is (p ⨾ q) (sym (take_more bs i 0 h))

pub puts_code_point : {s t u : Sink} (cs : List ℕ) (c : ℕ) → Puts s (encodes cs) t → Puts t (encode c) u → Puts s (encodes (cs ++ c ∷ [])) u
puts_code_point cs c p q = puts_is (p ⨾ q) (sym (encodes-append cs (c ∷ []) ∙ ap (λ r. encodes cs ++ r) (append-nil (encode c))))

-- ---- how many bytes, and where they stand

count_from : (s : List ℕ × ℕ) (bs : List ℕ) → s.1 ≤ 2 ^ 64 - 1 → (put s bs).1 ≡ min (s.1 + length bs) (2 ^ 64 - 1)
count_from s [] h = omega arith
count_from s (b ∷ bs) h = count_from (put_byte s b) bs (omega arith) ∙ omega arith

-- in a new sink the count, whether or not the bytes fit
pub puts_count : {s t : Sink} {out bs : List ℕ} → state_of s ≡ (out, 0) → Puts s bs t → (state_of t).1 ≡ min (length bs) (2 ^ 64 - 1)
puts_count {s} {t} {out} {bs} new p =
    let e : state_of t ≡ put (out, 0) bs = p.state ∙ ap (λ r. put r bs) new in
    ap (λ r. r.1) e ∙ count_from (out, 0) bs (omega arith) ∙ ap (λ n. min n (2 ^ 64 - 1)) (zero-add (length bs))

put-sets : (out : List ℕ) (at : ℕ) (bs : List ℕ) → at + length bs < 2 ^ 64 - 1 → put (out, at) bs ≡ (sets out at bs, at + length bs)
put-sets out at [] h = ap (λ n. (out, n)) (sym (add-zero at))
put-sets out at (b ∷ bs) h =
    let e : min (suc at) (2 ^ 64 - 1) ≡ suc at = omega arith in
    let n : suc at + length bs ≡ at + suc (length bs) = omega arith in
    rw e (put-sets (set out at b) (suc at) bs (omega arith) ∙ ap (λ k. (sets (set out at b) (suc at) bs, k)) n)

-- bytes that fit stand at the front of the output
pub put_fits : (out bs : List ℕ) → length bs ≤ length out → length bs < 2 ^ 64 - 1 → put (out, 0) bs ≡ (bs ++ drop (length bs) out, length bs)
put_fits out bs fits small =
    let e : sets out 0 bs ≡ bs ++ drop (0 + length bs) out = sets-eq bs out 0 (omega arith) in
    put-sets out 0 bs (omega arith) ∙ rw e (rw (zero-add (length bs)))

pub puts_fits : {s t : Sink} {out bs : List ℕ} → state_of s ≡ (out, 0) → Puts s bs t → length bs ≤ length out → length bs < 2 ^ 64 - 1 → (state_of t).0 ≡ bs ++ drop (length bs) out
puts_fits {s} {t} {out} {bs} new p fits small = ap (λ r. r.0) (p.state ∙ ap (λ r. put r bs) new ∙ put_fits out bs fits small)
