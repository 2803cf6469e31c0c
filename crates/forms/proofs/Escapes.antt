-- The bytes of a string literal.
use Rattle.std.proofs.Common.{◌≡◌, ℕ, List, [], ◌∷◌, ◌++◌, codes, sym, ap, ◌∙◌, append_assoc, append-nil}
use lib.Utf8.{encode, encodes}
use Rattle.std.proofs.lemmas.Str.{encodes-append}
use Rattle.units.specs.CodePoints.{code_points}
use Rattle.forms.specs.Quoted.{escape, escapes, quoted}

-- one more code point
pub escapes-push : (cs : List ℕ) (c : ℕ) → encodes (escapes (cs ++ c ∷ [])) ≡ encodes (escapes cs) ++ encodes (escape c)
escapes-push [] c = encodes-append (escape c) [] ∙ append-nil (encodes (escape c))
escapes-push (x ∷ xs) c =
    encodes-append (escape x) (escapes (xs ++ c ∷ [])) ∙ ap (λ r. encodes (escape x) ++ r) (escapes-push xs c)
    ∙ sym (append_assoc (encodes (escape x)) (encodes (escapes xs)) (encodes (escape c)))
    ∙ ap (λ r. r ++ encodes (escape c)) (sym (encodes-append (escape x) (escapes xs)))

pub quoted_bytes : (text : List ℕ) → encodes (quoted text) ≡ codes "\"" ++ (encodes (escapes (code_points text)) ++ codes "\"")
unfolding encode
quoted_bytes text = ap (λ r. codes "\"" ++ r) (encodes-append (escapes (code_points text)) (codes "\""))
