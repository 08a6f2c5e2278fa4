-- How the refusals of the devices and the buffers are answered, and what calls on them come to.
use Rattle.std.specs.Prelude.{◌≡◌, ℕ, List, Option, Some, None, Result, Ok, Err}
use Rattle.context.specs.Contexts.{Owned, with_owned}
use Rattle.memdev.specs.declared.refused.DevRefused.{DevRefused}
use Rattle.memdev.specs.declared.refused.DevRefused.TheVariants as device
use Rattle.multibuf.specs.declared.refusals.BeginRefused.{BeginRefused}
use Rattle.multibuf.specs.declared.refusals.BeginRefused.TheVariants as begin
use Rattle.calls.specs.declared.reply.Refusal.{Refusal}
use Rattle.calls.specs.declared.reply.Refusal.TheVariants.{BadSize, NoDevice, TooManyDevices, OpenDepth, Waiting, Memory}
use Rattle.surfaces.specs.Panes.{Panes}

-- the core's refusal for that of the devices
abbrev pub device_refusal : DevRefused → Refusal
device_refusal device.BadSize = BadSize
device_refusal device.TooMany = TooManyDevices
device_refusal (device.NoDevice handle) = NoDevice handle
device_refusal device.Memory = Memory

-- the core's refusal for that of a begin
abbrev pub begin_refusal : BeginRefused → Refusal
begin_refusal begin.OpenDepth = OpenDepth
begin_refusal (begin.Waiting switch) = Waiting switch

-- nothing is held against a call, or the first reason is
abbrev pub Passes : Result (Unit {0}) Refusal → Option Refusal → Type 0
Passes (Ok _) reason = reason ≡ None
Passes (Err refusal) reason = reason ≡ Some refusal

-- the same for a call after which a task has this
abbrev pub Alters : Result (Unit {0}) Refusal → Option Refusal → Owned → ℕ → List Owned → List Owned
    → Type 0
Alters (Ok _) reason own task old new = (reason ≡ None) × (new ≡ with_owned old task own)
Alters (Err refusal) reason own task old new = (reason ≡ Some refusal) × (new ≡ old)

-- the same for a call after which the buffers and devices are these
abbrev pub Draws : Result (Unit {0}) Refusal → Option Refusal → Panes → Panes → Panes → Type 0
Draws (Ok _) reason now old new = (reason ≡ None) × (new ≡ now)
Draws (Err refusal) reason now old new = (reason ≡ Some refusal) × (new ≡ old)
