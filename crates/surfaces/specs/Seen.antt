-- How devices that are kept are seen.
use Rattle.std.specs.Prelude.{map}
use Rattle.memdev.specs.declared.device.Device.{Device}
use Rattle.memdev.specs.Devices.{Table}
use Rattle.desk.specs.Devices.{DevicePicture, DevicePictures}

abbrev pub seen_device : Device → DevicePicture
seen_device d = record { handle = d.handle; picture = d.frame.picture }

abbrev pub seen_devices : Table → DevicePictures
seen_devices t = record { handles = t.handles; live = map seen_device t.live }
