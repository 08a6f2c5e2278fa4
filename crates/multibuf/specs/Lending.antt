-- What writing through a frame that is lent does to those who lend it.
use Rattle.std.specs.Borrow.{Lends, MutBor, Fml}
use Rattle.frame.specs.Canvases.{Canvas}
use Rattle.frame.specs.contracts.frame.Frame.{the_row as frame_row}
use Rattle.multibuf.specs.declared.owners.Back.{Back}
use Rattle.multibuf.specs.declared.several.Several.{Several}
use Rattle.multibuf.specs.declared.held.Held.{Held}
use Rattle.multibuf.specs.contracts.owners.Back.{the_row as back_row}
use Rattle.multibuf.specs.contracts.several.Several.{the_row as several_row}
use Rattle.multibuf.specs.contracts.held.Held.{the_row as held_row}
use Rattle.multibuf.specs.contracts.buffers.Buffers.{the_row as buffers_row}
use Rattle.multibuf.specs.Parts.{with_frame, with_drawn}
use Rattle.multibuf.specs.Held.{held_with_target}
use Rattle.multibuf.specs.Buffering.{Buffering, with_target}

abbrev pub with_back : Several → Canvas → Several
with_back s c = record s { back = with_drawn c s.back }

abbrev pub back_with : Back → Canvas → Back
back_with b c = with_frame c b

abbrev pub LendsFrame : MutBor Back → MutBor Canvas → Fml
LendsFrame b r = Lends back_row frame_row b r (back_with b.now)

abbrev pub LendsBack : MutBor Several → MutBor Canvas → Fml
LendsBack s r = Lends several_row frame_row s r (with_back s.now)

abbrev pub LendsHeld : MutBor Held → MutBor Canvas → Fml
LendsHeld h r = Lends held_row frame_row h r (held_with_target h.now)

-- after the loan the buffers have the frame as it was written
abbrev pub LendsTarget : MutBor Buffering → MutBor Canvas → Fml
LendsTarget b r = Lends buffers_row frame_row b r (with_target b.now)
