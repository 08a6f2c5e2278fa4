use Rattle.svg.proofs.FrameTextLaws.{picture_read}
use Rattle.svg.proofs.PieceLaws.{pieces_told}
use Rattle.svg.proofs.laws.frame_texts_are_read.Goals as goal

pub returns : goal.returns
returns c = record { alone = picture_read; amid = pieces_told }
