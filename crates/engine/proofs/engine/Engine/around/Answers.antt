use Rattle.std.proofs.Common.{◌≡◌, Bool}
use Rattle.surfaces.specs.Panes.{panes_for}
use Rattle.engine.specs.Machines.{Machine, machine_for}
use Rattle.engine.proofs.CallLemmas.{kept-starting, started}
use Rattle.engine.proofs.engine.Engine.around.Goals as goal

opened : (c : goal.After-new-contexts) (alone : Bool) → c.args.surfaces ≡ panes_for alone c.args.config.w c.args.config.h c.args.config.buffers
    → ◌≡◌ {A = Machine} (record { setup = record { config = c.args.config; assets = c.with_desktop-assets.result }; drawer = c.args.surfaces.drawer; width = c.args.surfaces.width; height = c.args.surfaces.height; state = record { windows = c.in_ok-windows.windows.windows; handles = c.in_ok-windows.windows.handles; screen = c.args.surfaces.screen; contexts = c.new-contexts.result; devices = c.args.surfaces.devices }; marked = c.args.surfaces.marked; made = 0; refused = 0 }) (machine_for alone c.args.assets c.args.config)
opened c alone is =
    started alone c.args.assets c.with_desktop-assets.result c.args.config c.args.surfaces c.in_ok-windows.windows c.new-contexts.result c.with_desktop-assets.ensures is c.in_ok-windows.ensures c.new-contexts.ensures

pub invariant_of-result : goal.invariant_of-result
invariant_of-result c =
    let alone = c.requires.surfaces.0 in
    rw (opened c alone c.requires.surfaces.1) (kept-starting alone c.args.assets c.args.config c.requires.config c.requires.assets c.requires.desktop)

pub returns : goal.returns
returns c = λ alone is. opened c alone is
