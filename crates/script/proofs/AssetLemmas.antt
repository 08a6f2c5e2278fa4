-- Assets stay sound where more of them come.
use Rattle.std.proofs.Common.{ℕ, ◌<◌, ◌≤◌, List, [], ◌∷◌, ◌++◌, length, arith}
use Rattle.std.specs.List.{AllByRecursion}
use Rattle.std.proofs.lemmas.List.{length-append}
use Rattle.glyph_font.specs.Fonts.{Font}
use Rattle.bitmap.specs.Bitmaps.{Bitmap}
use Rattle.paint_ops.specs.declared.op.Op.{Op}
use Rattle.paint_ops.specs.declared.op.Op.TheVariants as op
use Rattle.paint_ops.specs.Kinds.{Class, Assets}
use Rattle.paint_ops.specs.Soundness.{IsOperation, IsClass, IsSound}

-- what operations can name is there in the other assets too
record Grows (a b : Assets) : Type 0 where
  fonts : length a.fonts ≤ length b.fonts
  bitmaps : length a.bitmaps ≤ length b.bitmaps
  strings : length a.strings ≤ length b.strings

operation_there : (a b : Assets) (o : Op) → Grows a b → IsOperation a o → IsOperation b o
operation_there a b (op.Bitmap n x y) grows is =
    let more = grows.bitmaps in
    let there : n < length a.bitmaps = is.0 in
    (omega arith, is.1, is.2)
operation_there a b (op.Text n x y c s) grows is =
    let more = grows.fonts in
    let strings = grows.strings in
    let there : n < length a.fonts = is.0 in
    let string : s < length a.strings = is.3 in
    (omega arith, is.1, is.2, omega arith)
operation_there a b (op.Number n x y c k) grows is =
    let more = grows.fonts in
    let there : n < length a.fonts = is.0 in
    (omega arith, is.1, is.2, is.3)
operation_there a b (op.Fill x0 y0 x1 y1 c) grows is = is
operation_there a b (op.Frame x0 y0 x1 y1 c) grows is = is
operation_there a b (op.HLine x0 x1 y c) grows is = is
operation_there a b (op.VLine x y0 y1 c) grows is = is
operation_there a b (op.Line x0 y0 x1 y1 c) grows is = is

operations_there : (a b : Assets) (os : List Op) → Grows a b → AllByRecursion (IsOperation a) os → AllByRecursion (IsOperation b) os
operations_there a b [] grows are = tt
operations_there a b (o ∷ os) grows are = (operation_there a b o grows are.0, operations_there a b os grows are.1)

class_there : (a b : Assets) (c : Class) → Grows a b → IsClass a c → IsClass b c
class_there a b c grows is = record { few_ops = is.few_ops; few_reactions = is.few_reactions; ops = operations_there a b c.ops grows is.ops; reactions = is.reactions }

classes_there : (a b : Assets) (cs : List Class) → Grows a b → AllByRecursion (IsClass a) cs → AllByRecursion (IsClass b) cs
classes_there a b [] grows are = tt
classes_there a b (c ∷ cs) grows are = (class_there a b c grows are.0, classes_there a b cs grows are.1)

one_more : (assets : Assets) (cs : List Class) (c : Class) → AllByRecursion (IsClass assets) cs → IsClass assets c → AllByRecursion (IsClass assets) (cs ++ c ∷ [])
one_more assets [] c are is = (is, tt)
one_more assets (x ∷ cs) c are is = (are.0, one_more assets cs c are.1 is)

pub class_more : (assets : Assets) (class : Class) → IsSound assets → length assets.classes ≤ 63 → IsClass assets class → IsSound (record assets { classes = assets.classes ++ class ∷ [] })
class_more assets class sound few is =
    let next : Assets = record assets { classes = assets.classes ++ class ∷ [] } in
    let grows : Grows assets next = record { fonts = omega arith; bitmaps = omega arith; strings = omega arith } in
    record {
      few_classes = omega (arith, length-append assets.classes (class ∷ []));
      few_fonts = sound.few_fonts;
      few_bitmaps = sound.few_bitmaps;
      few_strings = sound.few_strings;
      classes = one_more next assets.classes class (classes_there assets next assets.classes grows sound.classes) (class_there assets next class grows is);
    }

pub font_more : (assets : Assets) (font : Font) → IsSound assets → length assets.fonts ≤ 7 → IsSound (record assets { fonts = assets.fonts ++ font ∷ [] })
font_more assets font sound few =
    let next : Assets = record assets { fonts = assets.fonts ++ font ∷ [] } in
    let count = length-append assets.fonts (font ∷ []) in
    let grows : Grows assets next = record { fonts = omega arith; bitmaps = omega arith; strings = omega arith } in
    record {
      few_classes = sound.few_classes;
      few_fonts = omega arith;
      few_bitmaps = sound.few_bitmaps;
      few_strings = sound.few_strings;
      classes = classes_there assets next assets.classes grows sound.classes;
    }

pub bitmap_more : (assets : Assets) (bitmap : Bitmap) → IsSound assets → length assets.bitmaps ≤ 31 → IsSound (record assets { bitmaps = assets.bitmaps ++ bitmap ∷ [] })
bitmap_more assets bitmap sound few =
    let next : Assets = record assets { bitmaps = assets.bitmaps ++ bitmap ∷ [] } in
    let count = length-append assets.bitmaps (bitmap ∷ []) in
    let grows : Grows assets next = record { fonts = omega arith; bitmaps = omega arith; strings = omega arith } in
    record {
      few_classes = sound.few_classes;
      few_fonts = sound.few_fonts;
      few_bitmaps = omega arith;
      few_strings = sound.few_strings;
      classes = classes_there assets next assets.classes grows sound.classes;
    }

pub string_more : (assets : Assets) (text : List ℕ) → IsSound assets → length assets.strings ≤ 255 → IsSound (record assets { strings = assets.strings ++ text ∷ [] })
string_more assets text sound few =
    let next : Assets = record assets { strings = assets.strings ++ text ∷ [] } in
    let count = length-append assets.strings (text ∷ []) in
    let grows : Grows assets next = record { fonts = omega arith; bitmaps = omega arith; strings = omega arith } in
    record {
      few_classes = sound.few_classes;
      few_fonts = sound.few_fonts;
      few_bitmaps = sound.few_bitmaps;
      few_strings = omega arith;
      classes = classes_there assets next assets.classes grows sound.classes;
    }
