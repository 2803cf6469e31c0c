-- Worked examples.
use Rattle.std.specs.Prelude.{[], ◌∷◌, ◌++◌, codes}
use Rattle.template.specs.Raw.{Raw}
use Rattle.template.specs.Claims.{NoRawPart}

pub record Worked : Type 0 where
  pub empty : Raw [] []
  -- U+000A
  pub newline : Raw (codes "\\n") (0x0A ∷ [])
  pub dollar_brace : Raw (codes "$\\{") (codes "${")
  pub hex : Raw (codes "\\x41") (codes "A")
  -- a lone surrogate
  pub unicode : Raw (codes "\\ud800") (0xD800 ∷ [])
  pub code_point_escape : Raw (codes "\\u{1F600}") (0xD83D ∷ 0xDE00 ∷ [])
  pub leading_zeros : Raw (codes "\\u{00000041}") (codes "A")
  pub null : Raw (codes "\\0") (0 ∷ [])
  -- a backslash before a line feed is nothing
  pub continuation : Raw (codes "a\\" ++ 0x0A ∷ codes "b") (codes "ab")
  -- a surrogate pair is itself
  pub pair : Raw (0xD83D ∷ 0xDE00 ∷ []) (0xD83D ∷ 0xDE00 ∷ [])
  pub no_octal : NoRawPart (codes "\\1")
  pub no_null_digit : NoRawPart (codes "\\08")
  pub no_substitution : NoRawPart (codes "${")
  pub no_backtick : NoRawPart (codes "`")
  pub no_backslash : NoRawPart (codes "\\")
  pub no_code_point : NoRawPart (codes "\\u{110000}")
  pub no_empty_code_point : NoRawPart (codes "\\u{}")
  -- lone surrogates
  pub no_lead : NoRawPart (0xD83D ∷ codes "a")
  pub no_trail : NoRawPart (0xDE00 ∷ [])
  -- a carriage return, by itself and in a LineContinuation
  pub no_return : NoRawPart (0x0D ∷ [])
  pub no_return_continuation : NoRawPart (codes "\\" ++ 0x0D ∷ [])
