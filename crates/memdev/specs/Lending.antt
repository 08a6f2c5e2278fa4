-- What writing through a frame that is lent does to those who lend it.
use Rattle.std.specs.Prelude.{ℕ, Option}
use Rattle.std.specs.Borrow.{Lends, LendsIf, MutBor, Fml}
use Rattle.std.specs.contracts.option.Option.{the_row as option_row}
use Rattle.frame.specs.Canvases.{Canvas}
use Rattle.frame.specs.contracts.frame.Frame.{the_row as frame_row}
use Rattle.memdev.specs.contracts.devices.Devices.{the_row as devices_row}
use Rattle.memdev.specs.contracts.device.Device.{the_row as device_row}
use Rattle.memdev.specs.declared.device.Device.{Device}
use Rattle.memdev.specs.Slots.{drawn_in}
use Rattle.memdev.specs.Devices.{Table, with_drawn}

-- after the loan the slot's device has the frame as it was written
abbrev pub LendsFrameIn : MutBor (Option Device) → MutBor Canvas → Fml
LendsFrameIn slot r = Lends (option_row device_row) frame_row slot r (drawn_in slot.now)

-- after the loan the device has the frame as it was written, and where there is none, nothing
-- changes
abbrev pub LendsDevice : MutBor Table → ℕ → Option (MutBor Canvas) → Fml
LendsDevice t handle r = LendsIf devices_row frame_row t r (with_drawn t.now handle) t.now
