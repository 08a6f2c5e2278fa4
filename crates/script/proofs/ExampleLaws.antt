-- The items of two small scripts, line by line.
use Rattle.std.proofs.Common.{ℕ, List, [], ◌∷◌, Some, None, refl, arith, lit<}
use Rattle.std.specs.Prelude.{codes}
use Rattle.std.specs.Fmt.{digits}
use Rattle.spelling.specs.Digits.{hex_colour}
use Rattle.glyph_font.specs.Fonts.{IsFont}
use Rattle.glyph_font.specs.Examples.{single, single_lines}
use Rattle.bitmap.specs.Texts.{SpellsRow, AreLinesOf}
use Rattle.bitmap.specs.Examples.{dotted}
use Rattle.class_lines.specs.Words.{name_of_word as name_of_class_word}
use Rattle.calls.specs.Words.{name_of_word}
use Rattle.paint_ops.specs.Kinds.{Assets}
use Rattle.script.specs.Scripts.{plain_class, AreClassLines, AreItemsOf}
use Rattle.script.specs.Examples.{small_assets, greeting, calls_text, class_lines_text, assets_text, small_items, small_lines, tick_items, tick_lines}

single_is : IsFont single
single_is = record {
  high = omega arith;
  not_too_high = omega arith;
  glyphs = (record { wide = omega arith; not_too_wide = omega arith; high = refl; even = (refl, tt) }, tt);
  rising = (omega arith, omega arith, tt);
}

dotted_row : SpellsRow (codes "FF0000 -*2") (Some 0xFF0000 ∷ None ∷ None ∷ [])
unfolding digits hex_colour
dotted_row = record {
  runs = record { colour = Some 0xFF0000; count = 1 } ∷ record { colour = None; count = 2 } ∷ [];
  some = omega arith;
  each = (record { colour = lit< tt; some = omega arith; few = omega arith }, (record { colour = tt; some = omega arith; few = omega arith }, tt));
  spelled = refl;
  shown = refl;
}

dotted_lines : AreLinesOf 3 1 (codes "FF0000 -*2" ∷ codes "end" ∷ []) dotted
dotted_lines = record {
  wide = refl;
  high = refl;
  before = codes "FF0000 -*2" ∷ [];
  rows = (Some 0xFF0000 ∷ None ∷ None ∷ []) ∷ [];
  count = refl;
  each = (dotted_row, refl, tt);
  shown = refl;
  spelled = refl;
}

abbrev first_assets : Assets
first_assets = record small_assets { classes = plain_class (Some 0) ∷ [] }

greeting_is : AreClassLines first_assets (Some 255) (greeting ∷ []) (codes "" ∷ codes "text 0 0 0 0000FF 0" ∷ [])
unfolding digits hex_colour name_of_class_word
greeting_is = (
  codes "" ∷ [],
  codes "text 0 0 0 0000FF 0" ∷ [],
  [],
  refl,
  (refl, tt),
  record {
    room = refl;
    fits = ((omega arith, omega arith), ((omega arith, tt), ((omega arith, tt), (omega arith, ((omega arith, omega arith), tt)))));
    spelled = refl;
  },
  tt,
)

abbrev header_left : List (List ℕ)
header_left = codes "# a small screen" ∷ codes "screen 2 1" ∷ codes "buffers 1" ∷ codes "desktop 000000" ∷ assets_text

abbrev font_left : List (List ℕ)
font_left = codes "bitmap 0 3 1" ∷ codes "FF0000 -*2" ∷ codes "end" ∷ codes "string 0 A A" ∷ class_lines_text

pub small_is : AreItemsOf small_items small_lines
unfolding digits hex_colour name_of_word
small_is = (
  [],
  codes "mtgui 1" ∷ [],
  header_left,
  refl,
  tt,
  (refl, refl),
  (
    codes "# a small screen" ∷ [],
    codes "screen 2 1" ∷ [],
    codes "buffers 1" ∷ codes "desktop 000000" ∷ assets_text,
    refl,
    (refl, tt),
    ((refl, refl), ((omega arith, omega arith), ((omega arith, omega arith), tt))),
    (
      [],
      codes "buffers 1" ∷ [],
      codes "desktop 000000" ∷ assets_text,
      refl,
      tt,
      ((refl, refl), ((omega arith, omega arith), tt)),
      (
        [],
        codes "desktop 000000" ∷ [],
        assets_text,
        refl,
        tt,
        ((refl, refl), (omega arith, tt)),
        (
          [],
          codes "font 0 1" ∷ single_lines,
          font_left,
          refl,
          tt,
          record { early = record { header = refl; none = refl }; counted = ((omega arith, omega arith), ((omega arith, omega arith), tt)); is = single_is; spelled = refl },
          (
            [],
            codes "bitmap 0 3 1" ∷ codes "FF0000 -*2" ∷ codes "end" ∷ [],
            codes "string 0 A A" ∷ class_lines_text,
            refl,
            tt,
            record { early = record { header = refl; none = refl }; counted = ((omega arith, omega arith), ((omega arith, omega arith), ((omega arith, omega arith), tt))); body = codes "FF0000 -*2" ∷ codes "end" ∷ []; are = dotted_lines; spelled = refl },
            (
              [],
              codes "string 0 A A" ∷ [],
              class_lines_text,
              refl,
              tt,
              record { early = record { header = refl; none = refl }; counted = omega arith; is = (omega arith, refl); spelled = refl },
              (
                [],
                codes "class 1 0000FF" ∷ codes "" ∷ codes "text 0 0 0 0000FF 0" ∷ codes "end" ∷ [],
                calls_text,
                refl,
                tt,
                record { early = record { header = refl; none = refl }; counted = (omega arith, omega arith, omega arith); body = codes "" ∷ codes "text 0 0 0 0000FF 0" ∷ []; are = greeting_is; spelled = refl },
                (
                  [],
                  codes "1 create 1 0 0 0 1 1" ∷ [],
                  codes "1 create 1 0 0 1 1 7" ∷ codes "2 lock" ∷ codes "2 exec" ∷ codes "2 unlock" ∷ [],
                  refl,
                  tt,
                  record { header = refl; may = refl; few = omega arith; fits = (omega arith, omega arith, ((omega arith, omega arith), (omega arith, (omega arith, ((omega arith, omega arith), ((omega arith, omega arith), ((omega arith, omega arith), tt))))))); spelled = refl },
                  (
                    [],
                    codes "1 create 1 0 0 1 1 7" ∷ [],
                    codes "2 lock" ∷ codes "2 exec" ∷ codes "2 unlock" ∷ [],
                    refl,
                    tt,
                    record { header = refl; may = refl; few = omega arith; fits = (omega arith, omega arith, ((omega arith, omega arith), (omega arith, (omega arith, ((omega arith, omega arith), ((omega arith, omega arith), ((omega arith, omega arith), tt))))))); spelled = refl },
                    (
                      [],
                      codes "2 lock" ∷ [],
                      codes "2 exec" ∷ codes "2 unlock" ∷ [],
                      refl,
                      tt,
                      record { header = refl; may = refl; few = omega arith; fits = (omega arith, omega arith, tt); spelled = refl },
                      (
                        [],
                        codes "2 exec" ∷ [],
                        codes "2 unlock" ∷ [],
                        refl,
                        tt,
                        record { header = refl; may = refl; few = omega arith; fits = (omega arith, omega arith, tt); spelled = refl },
                        (
                          [],
                          codes "2 unlock" ∷ [],
                          [],
                          refl,
                          tt,
                          record { header = refl; may = refl; few = omega arith; fits = (omega arith, omega arith, tt); spelled = refl },
                          tt,
                        ),
                      ),
                    ),
                  ),
                ),
              ),
            ),
          ),
        ),
      ),
    ),
  ),
)

pub ticks_are : AreItemsOf tick_items tick_lines
unfolding digits hex_colour name_of_word
ticks_are = (
  [],
  codes "mtgui 1" ∷ [],
  codes "screen 2 1" ∷ codes "buffers 2" ∷ codes "desktop 000000" ∷ codes "1 lock" ∷ codes "1 begin" ∷ codes "1 end" ∷ codes "display tick" ∷ codes "1 unlock" ∷ [],
  refl,
  tt,
  (refl, refl),
  (
    [],
    codes "screen 2 1" ∷ [],
    codes "buffers 2" ∷ codes "desktop 000000" ∷ codes "1 lock" ∷ codes "1 begin" ∷ codes "1 end" ∷ codes "display tick" ∷ codes "1 unlock" ∷ [],
    refl,
    tt,
    ((refl, refl), ((omega arith, omega arith), ((omega arith, omega arith), tt))),
    (
      [],
      codes "buffers 2" ∷ [],
      codes "desktop 000000" ∷ codes "1 lock" ∷ codes "1 begin" ∷ codes "1 end" ∷ codes "display tick" ∷ codes "1 unlock" ∷ [],
      refl,
      tt,
      ((refl, refl), ((omega arith, omega arith), tt)),
      (
        [],
        codes "desktop 000000" ∷ [],
        codes "1 lock" ∷ codes "1 begin" ∷ codes "1 end" ∷ codes "display tick" ∷ codes "1 unlock" ∷ [],
        refl,
        tt,
        ((refl, refl), (omega arith, tt)),
        (
          [],
          codes "1 lock" ∷ [],
          codes "1 begin" ∷ codes "1 end" ∷ codes "display tick" ∷ codes "1 unlock" ∷ [],
          refl,
          tt,
          record { header = refl; may = refl; few = omega arith; fits = (omega arith, omega arith, tt); spelled = refl },
          (
            [],
            codes "1 begin" ∷ [],
            codes "1 end" ∷ codes "display tick" ∷ codes "1 unlock" ∷ [],
            refl,
            tt,
            record { header = refl; may = refl; few = omega arith; fits = (omega arith, omega arith, tt); spelled = refl },
            (
              [],
              codes "1 end" ∷ [],
              codes "display tick" ∷ codes "1 unlock" ∷ [],
              refl,
              tt,
              record { header = refl; may = refl; few = omega arith; fits = (omega arith, omega arith, tt); spelled = refl },
              (
                [],
                codes "display tick" ∷ [],
                codes "1 unlock" ∷ [],
                refl,
                tt,
                record { header = refl; may = refl; few = omega arith; fits = tt; spelled = refl },
                (
                  [],
                  codes "1 unlock" ∷ [],
                  [],
                  refl,
                  tt,
                  record { header = refl; may = refl; few = omega arith; fits = (omega arith, omega arith, tt); spelled = refl },
                  tt,
                ),
              ),
            ),
          ),
        ),
      ),
    ),
  ),
)
