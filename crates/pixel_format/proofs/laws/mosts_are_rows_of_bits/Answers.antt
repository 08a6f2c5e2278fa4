use Rattle.pixel_format.proofs.MaxLemmas.{row_from_test, test_from_row}
use Rattle.pixel_format.proofs.laws.mosts_are_rows_of_bits.Goals as goal

pub returns : goal.returns
returns c = λ max. (row_from_test max, λ r. test_from_row max r.0 r.1 r.2 r.3)
