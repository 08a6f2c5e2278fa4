-- Why bytes aren't decoded.
use Rattle.std.specs.Prelude.{ℕ, List}
use Rattle.pixel_format.specs.Formats.{Layout}
use Rattle.hextile.specs.declared.refused.DecodeRefused.{DecodeRefused}
use Rattle.hextile.specs.declared.refused.DecodeRefused.TheVariants.{Bad, Memory}
use Rattle.hextile.specs.Joining.{IsBadAt}

-- Bytes are told to be bad where they are no hextile data of w by h values. Want of memory may come
-- with any.
abbrev pub IsRefused : Layout → ℕ → ℕ → List ℕ → DecodeRefused → Type 0
IsRefused f w h bytes (Bad at) = IsBadAt f w h bytes at
IsRefused f w h bytes Memory = Unit {0}
