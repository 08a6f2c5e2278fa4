-- Which assets are sound, so that all that operations name is there.
use Rattle.std.specs.Prelude.{◌<◌, ◌≤◌, length}
use Rattle.std.specs.List.{AllByRecursion}
pub use Rattle.gfx_base.specs.Nums.{IsBase, IsNum}
use Rattle.paint_ops.specs.declared.op.Op.{Op}
use Rattle.paint_ops.specs.declared.op.Op.TheVariants as op
use Rattle.paint_ops.specs.declared.class.React.{React}
use Rattle.paint_ops.specs.declared.class.React.TheVariants as react
use Rattle.paint_ops.specs.declared.class.Reaction.{Reaction}
use Rattle.paint_ops.specs.Kinds.{Class, Assets}

-- the operation names only values, fonts, bitmaps and strings that exist
abbrev pub IsOperation : Assets → Op → Type 0
IsOperation assets (op.Fill x0 y0 x1 y1 colour) = IsNum x0 × IsNum y0 × IsNum x1 × IsNum y1
IsOperation assets (op.Frame x0 y0 x1 y1 colour) = IsNum x0 × IsNum y0 × IsNum x1 × IsNum y1
IsOperation assets (op.HLine x0 x1 y colour) = IsNum x0 × IsNum x1 × IsNum y
IsOperation assets (op.VLine x y0 y1 colour) = IsNum x × IsNum y0 × IsNum y1
IsOperation assets (op.Line x0 y0 x1 y1 colour) = IsNum x0 × IsNum y0 × IsNum x1 × IsNum y1
IsOperation assets (op.Bitmap bitmap x y) = (bitmap < length assets.bitmaps) × IsNum x × IsNum y
IsOperation assets (op.Text font x y colour string) =
    (font < length assets.fonts) × IsNum x × IsNum y × (string < length assets.strings)
IsOperation assets (op.Number font x y colour num) =
    (font < length assets.fonts) × IsNum x × IsNum y × IsNum num

abbrev pub IsReact : React → Type 0
IsReact (react.Set i operand) = i < 16
IsReact (react.Add i operand) = i < 16
IsReact (react.Up message) = Unit {0}

-- at most 64 operations and at most 16 reactions, each of which names only what exists
pub record IsClass (assets : Assets) (class : Class) : Type 0 where
  pub few_ops : length class.ops ≤ 64
  pub few_reactions : length class.reactions ≤ 16
  pub ops : AllByRecursion (IsOperation assets) class.ops
  pub reactions : AllByRecursion (λ (r : Reaction). IsReact r.react) class.reactions

-- at most 64 such classes, 8 fonts, 32 bitmaps and 256 strings
pub record IsSound (assets : Assets) : Type 0 where
  pub few_classes : length assets.classes ≤ 64
  pub few_fonts : length assets.fonts ≤ 8
  pub few_bitmaps : length assets.bitmaps ≤ 32
  pub few_strings : length assets.strings ≤ 256
  pub classes : AllByRecursion (IsClass assets) assets.classes
