use Rattle.std.proofs.Common.{refl}
use Rattle.std.specs.Fmt.{digits}
use Rattle.gfx_base.specs.Range.{is_within}
use Rattle.gfx_base.specs.Rects.{has, is_empty, canonical, meet, cover, shift}
use Rattle.spelling.specs.Digits.{hex_colour}
use Rattle.frame.specs.Pictures.{changed_points}
use Rattle.scene.specs.Stacks.{has_ancestors}
use Rattle.scene.specs.Families.{on_top_of}
use Rattle.journal.specs.Texts.{run_text, points_line, frame_text}
use Rattle.engine.specs.States.{step}
use Rattle.mtgui_top.specs.Playing.{summary_of}
use Rattle.mtgui_top.proofs.laws.scripts_in_numbers.Goals as goal

pub returns : goal.returns
unfolding digits has_ancestors on_top_of is_within has is_empty canonical meet cover shift hex_colour changed_points run_text points_line frame_text step summary_of
returns c = record { first = refl; refused = refl }
