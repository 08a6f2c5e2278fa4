-- The texts of a small bitmap.
use Rattle.std.proofs.Common.{◌≡◌, Ok, Err, refl}
use Rattle.std.specs.Fmt.{digits}
use Rattle.spelling.specs.Parts.{lines_of}
use Rattle.spelling.specs.LineReading.{run}
use Rattle.spelling.specs.Words.{natural_of, natural_in, hex_digit_of, hex_byte_of, colour_of}
use Rattle.bitmap.specs.declared.place.Place.TheVariants.{AfterEnd}
use Rattle.bitmap.specs.Texts.{IsBody}
use Rattle.bitmap.specs.Faults.{IsFault}
use Rattle.bitmap.specs.Reading.{Draft, start, point_of, run_of, row_of, after_line, line_step, read_of}
use Rattle.bitmap.specs.Examples.{dotted, dotted_text, other_text, narrow_text, narrow_fault, open_text, open_fault}
use Rattle.bitmap.proofs.DraftLaws.{whole_says}
use Rattle.bitmap.proofs.FaultLaws.{is_fault}

-- the draft after all lines
abbrev dotted_draft : Draft
dotted_draft = record { width = dotted.width; height = dotted.height; place = AfterEnd; points = dotted.points }

dotted_read : run line_step (start 3 1) (lines_of dotted_text) ≡ Ok dotted_draft
unfolding after_line row_of run_of point_of colour_of hex_byte_of hex_digit_of natural_in natural_of digits
dotted_read = refl

other_read : run line_step (start 3 1) (lines_of other_text) ≡ Ok dotted_draft
unfolding after_line row_of run_of point_of colour_of hex_byte_of hex_digit_of natural_in natural_of digits
other_read = refl

narrow_read : read_of 3 1 narrow_text ≡ Err (narrow_fault.line, narrow_fault.why)
unfolding read_of after_line row_of run_of point_of colour_of hex_byte_of hex_digit_of natural_in natural_of digits
narrow_read = refl

open_read : read_of 3 1 open_text ≡ Err (open_fault.line, open_fault.why)
unfolding read_of after_line row_of run_of point_of colour_of hex_byte_of hex_digit_of natural_in natural_of digits
open_read = refl

pub dotted_is : IsBody 3 1 dotted_text dotted
dotted_is = whole_says 3 1 (lines_of dotted_text) dotted_draft dotted_read refl

pub other_is : IsBody 3 1 other_text dotted
other_is = whole_says 3 1 (lines_of other_text) dotted_draft other_read refl

pub narrow_is : IsFault 3 1 narrow_text narrow_fault
narrow_is = is_fault 3 1 narrow_text narrow_fault narrow_read

pub open_is : IsFault 3 1 open_text open_fault
open_is = is_fault 3 1 open_text open_fault open_read
