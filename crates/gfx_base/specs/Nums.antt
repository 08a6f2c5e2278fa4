-- What a coordinate may begin from.
use Rattle.std.specs.Prelude.{◌<◌}
use Rattle.gfx_base.specs.declared.num.Base.{Base}
use Rattle.gfx_base.specs.declared.num.Base.TheVariants.{Value}
use Rattle.gfx_base.specs.declared.num.Num.{Num}

-- a window has sixteen values
abbrev pub IsBase : Base → Type 0
IsBase (Value i) = i < 16
IsBase _ = Unit {0}

abbrev pub IsNum : Num → Type 0
IsNum num = IsBase num.base
