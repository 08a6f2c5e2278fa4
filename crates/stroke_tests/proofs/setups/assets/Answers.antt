use Rattle.std.proofs.Common.{arith}
use Rattle.stroke_tests.proofs.setups.assets.Goals as goal

pub returns : goal.returns
returns c =
    let fonts = c.in_ok-fonts.ensures in
    let bitmaps = c.in_ok-bitmaps.ensures in
    let strings = c.in_ok-strings.ensures in
    record {
      few_classes = c.in_ok-classes.ensures.few;
      few_fonts = omega arith;
      few_bitmaps = omega arith;
      few_strings = omega arith;
      classes = c.in_ok-classes.ensures.sound _;
    }
