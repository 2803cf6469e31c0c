-- Texts read character by character.
use Rattle.std.proofs.Common.{◌≡◌, ℕ, ◌≤◌, ◌≢◌, List, [], ◌∷◌, ◌++◌, length, IfSome, IfOk, Some, None, Option, Ok, Err, Result, inl, inr, Vec, vec_items, refl, sym, ap, ◌∙◌, subst, append_assoc, append-nil}
use Rattle.std.specs.Char.Escape.{encode_utf16}
use Rattle.std.specs.Iterator.{Yields}
use Rattle.std.specs.Str.Iter.{encode_utf16_rest, encode_utf16_pending, encode_utf16_steps}
use Rattle.std.specs.declared.str.EncodeUtf16.{EncodeUtf16}
use Rattle.std.proofs.lemmas.Iterator.{IsCollectResult}
use Rattle.std.proofs.lemmas.List.{nil_from_length}
use Rattle.script.specs.Units.{Begins, Spelt, HexUnit, short_escape, Escape, Json}

pub weaker : {X : Type 0} {P Q : X → Type 0} (r : Option X) → IfSome r P → ((x : X) → P x → Q x) → IfSome r Q
weaker None h f = tt
weaker (Some x) h f = f x h

pub short_found : (r : Option ℕ) (c : ℕ) (s t : List ℕ) → Begins s c t → r ≡ short_escape c → IfSome r (λ u. Escape s u t)
short_found None c s t b e = tt
short_found (Some u) c s t b e = Escape.short c u s t b (sym e)

pub long_found : (r : Option ℕ) (c : ℕ) (s m t : List ℕ) → Begins s c m → c ≡ 117 → IfSome r (λ u. HexUnit m u t) → IfSome r (λ u. Escape s u t)
long_found r c s m t b e h = weaker r h (λ u x. Escape.long u s m t (subst (λ k. Begins s k m) e b) x)

-- What is read so far is the front of the units, whatever the rest is.
abbrev pub Quoted : List ℕ → List ℕ → List ℕ → Type 0
Quoted whole rest front = (us t : List ℕ) → Json rest us t → Json whole (front ++ us) t

pub quoted_plain : (w s xs : List ℕ) (c : ℕ) (m ys : List ℕ) → Quoted w s xs → Begins s c m → 32 ≤ c → c ≢ 34 → c ≢ 92 → ys ≡ xs ++ encode_utf16 c → Quoted w m ys
quoted_plain w s xs c m ys h b low nq nb e us t j =
    subst (λ zs. Json w zs t) (sym (ap (λ zs. zs ++ us) e ∙ append_assoc xs (encode_utf16 c) us)) (h (encode_utf16 c ++ us) t (Json.plain c s m us t b low nq nb j))

pub quoted_escaped : (w s xs : List ℕ) (c u : ℕ) (m n ys : List ℕ) → Quoted w s xs → Begins s c m → c ≡ 92 → Escape m u n → ys ≡ xs ++ (u ∷ []) → Quoted w n ys
quoted_escaped w s xs c u m n ys h b k x e us t j =
    subst (λ zs. Json w zs t) (sym (ap (λ zs. zs ++ us) e ∙ append_assoc xs (u ∷ []) us)) (h (u ∷ us) t (Json.escaped u s m n us t (subst (λ d. Begins s d m) k b) x j))

pub quoted_close : (w s xs : List ℕ) (c : ℕ) (t : List ℕ) → Quoted w s xs → Begins s c t → c ≡ 34 → Json w xs t
quoted_close w s xs c t h b k = subst (λ zs. Json w zs t) (append-nil xs) (h [] t (Json.close s t (subst (λ d. Begins s d t) k b)))

-- The units that the library gives of a text spell it.
ended : (s : EncodeUtf16) → length (encode_utf16_rest s) ≡ 0 → Spelt (encode_utf16_rest s) []
ended s e = subst (λ text. Spelt text []) (sym (nil_from_length _ e)) Spelt.end

one_unit :
    (s j : EncodeUtf16) (x : ℕ) (xs us : List ℕ) →
    encode_utf16_steps s (Some x) j →
    Spelt (encode_utf16_rest j) us →
    xs ≡ encode_utf16_pending j ++ us →
    (vs : List ℕ) × Spelt (encode_utf16_rest s) vs × (x ∷ xs ≡ encode_utf16_pending s ++ vs)
one_unit s j x xs us (inl (unit, none, same)) spelt e = (us, subst (λ text. Spelt text us) same spelt, rw (unit, e, none) refl)
one_unit s j x xs us (inr (none, (c, begins, units))) spelt e = (encode_utf16 c ++ us, Spelt.char c _ _ us begins spelt, rw (none, units, e) refl)

all_units :
    (xs : List ℕ) (s t u : EncodeUtf16) →
    Yields encode_utf16_steps s xs t →
    encode_utf16_steps t None u →
    (us : List ℕ) × Spelt (encode_utf16_rest s) us × (xs ≡ encode_utf16_pending s ++ us)
all_units [] s t u same last = ([], ended s (ap (λ r. length (encode_utf16_rest r)) same ∙ last.1), cc)
all_units (x ∷ xs) s t u (j, step, more) last =
    let rest = all_units xs j t u more last in
    one_unit s j x xs rest.0 step rest.1 rest.2

pub spelt_units :
    {Z E : Type 0} (r : Result (Vec ℕ Z) E) (s : EncodeUtf16) (text : List ℕ) →
    encode_utf16_rest s ≡ text →
    encode_utf16_pending s ≡ [] →
    IsCollectResult encode_utf16_steps s r →
    IfOk r (λ v. Spelt text (vec_items v))
spelt_units (Err e) s text rest none ran = tt
spelt_units (Ok v) s text rest none (xs, (t, gave, last), (items, _)) =
    let end = last tt in
    let told = all_units xs s t end.0 gave end.1 in
    let units : told.0 ≡ vec_items v = cc in
    subst (λ us. Spelt text us) units (subst (λ bytes. Spelt bytes told.0) rest told.1)
