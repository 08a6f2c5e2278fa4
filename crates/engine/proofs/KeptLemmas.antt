-- What is true of every core goes on to be true.
use Rattle.std.proofs.Common.{◌≡◌, ℕ, suc, ◌+◌, ◌≤◌, Bool, true, false, cond, eqb, List, length, take, Option, Some, None, refl, sym, ap, subst, ◌∙◌, arith}
use Rattle.std.specs.Prelude.{position}
use Rattle.std.specs.List.{refill}
use Rattle.std.proofs.lemmas.Bool.{ne_eqb}
use Rattle.std.proofs.lemmas.List.{append-nil, take_all, drop_all}
use Rattle.std.proofs.lemmas.List.Sums.{count_by-le-length}
use Rattle.frame.specs.Pictures.{Picture}
use Rattle.context.specs.Contexts.{Owned}
use Rattle.desk.specs.Devices.{DevicePictures}
use Rattle.scene.specs.declared.win.Win.{Win}
use Rattle.desk.specs.Setups.{Setup}
use Rattle.desk.specs.Scenes.{IsScene}
use Rattle.invalidate.specs.Invalidation.{is_invalid}
use Rattle.desk.specs.Jobs.{windows_after_job, jobs_of}
use Rattle.desk.specs.Desks.{Desk, after_job, after_jobs}
use Rattle.engine.specs.Machines.{Machine, panes_of, with_panes, Paints, IsKept}
use Rattle.surfaces.specs.Turns.{IsScreen}
use Rattle.flip.specs.declared.views.Drawing.{Drawing}
use Rattle.flip.specs.Drawers.{after_own_tick}
use Rattle.surfaces.specs.Panes.{Panes, IsBegun, switched, Finds, LooksAt}
use Rattle.engine.specs.States.{desk_of}
use Rattle.multibuf.specs.Screens.{Screen, after_mark, after_draw}
use Rattle.surfaces.proofs.CallerLemmas.{screen-draw, screen-mark, drawn_twice, finds_buffers}
use Rattle.desk.proofs.CallerLemmas.{jobs-more, no_jobs, scene_job}

-- ---- a job

-- the core with other windows, which are those of a tree too, with other pictures of its buffers, with any contexts, and with other devices
pub kept-with : (m : Machine) (ws : List Win) (handles : ℕ) (screen : Screen) (contexts : List Owned) (ds : DevicePictures) → IsKept m → IsScene m.setup ws handles → handles ≤ m.made + 1 → ds.handles ≤ m.made → IsScreen m.drawer.buffers screen → screen.switches ≤ m.made
    → IsKept (record m { state = record { windows = ws; handles = handles; screen = screen; contexts = contexts; devices = ds } })
kept-with m ws handles screen contexts ds kept scene few few_devices pictures few_switches = record {
  config = kept.config;
  assets = kept.assets;
  has_desktop = kept.has_desktop;
  buffers = kept.buffers;
  screen = pictures;
  width = kept.width;
  height = kept.height;
  scene = scene;
  handles = few;
  devices = few_devices;
  switches = few_switches;
  made = kept.made;
  refused = kept.refused;
}

pub kept-windows : (m : Machine) (ws : List Win) → IsKept m → IsScene m.setup ws m.state.handles → IsKept (record m { state = record m.state { windows = ws } })
kept-windows m ws kept scene = kept-with m ws m.state.handles m.state.screen m.state.contexts m.state.devices kept scene kept.handles kept.devices kept.screen kept.switches

pub kept-screen : (m : Machine) (screen : Screen) → IsKept m → IsScreen m.drawer.buffers screen → screen.switches ≤ m.made → IsKept (record m { state = record m.state { screen = screen } })
kept-screen m screen kept pictures few = kept-with m m.state.windows m.state.handles screen m.state.contexts m.state.devices kept kept.scene kept.handles kept.devices pictures few

-- with other buffers of the same number and sides, and with other devices
pub kept-panes : (m : Machine) (p : Panes) → IsKept m → p.drawer.buffers ≡ m.drawer.buffers → p.width ≡ m.width → p.height ≡ m.height → IsScreen m.drawer.buffers p.screen → p.screen.switches ≤ m.made → p.devices.handles ≤ m.made → IsKept (with_panes m p)
kept-panes m p kept buffers width height pictures few few_devices = record {
  config = kept.config;
  assets = kept.assets;
  has_desktop = kept.has_desktop;
  buffers = buffers ∙ kept.buffers;
  screen = rw buffers pictures;
  width = width ∙ kept.width;
  height = height ∙ kept.height;
  scene = kept.scene;
  handles = kept.handles;
  devices = few_devices;
  switches = few;
  made = kept.made;
  refused = kept.refused;
}

-- with the mark of the switch that a call found confirmed
pub kept-mark : (m : Machine) (p : Panes) → IsKept m → Finds m.drawer m.state.screen p.drawer p.marked → IsKept (with_panes m (switched p (panes_of m)))
kept-mark m p kept finds =
    kept-panes m (switched p (panes_of m)) kept (finds_buffers m.drawer p.drawer m.state.screen p.marked finds) refl refl (screen-mark m.drawer.buffers p.marked m.state.screen kept.screen) kept.switches kept.devices

-- after a look at the display, and after a tick
pub look-kept : (m : Machine) (p : Panes) (mark : Option ℕ) → IsKept m → LooksAt (panes_of m) p mark → IsKept (with_panes m p)
look-kept m p mark kept looks =
    let rest = looks.rest in
    let screen : p.screen ≡ after_mark mark m.state.screen = ap (λ (q : Panes). q.screen) rest in
    kept-panes m p kept (ap (λ (d : Drawing). d.buffers) looks.drawer) (ap (λ (q : Panes). q.width) rest) (ap (λ (q : Panes). q.height) rest)
    (subst (IsScreen m.drawer.buffers) (sym screen) (screen-mark m.drawer.buffers mark m.state.screen kept.screen))
    (subst (λ (s : Screen). s.switches ≤ m.made) (sym screen) kept.switches)
    (subst (λ (q : Panes). q.devices.handles ≤ m.made) (sym rest) kept.devices)

pub tick-kept : (m : Machine) (p : Panes) (mark found : Option ℕ) → IsKept m → p.drawer ≡ after_own_tick m.drawer found → p ≡ record (panes_of m) { drawer = p.drawer; screen = after_mark mark m.state.screen } → IsKept (with_panes m p)
tick-kept m p mark found kept drawer rest =
    let screen : p.screen ≡ after_mark mark m.state.screen = ap (λ (q : Panes). q.screen) rest in
    kept-panes m p kept (ap (λ (d : Drawing). d.buffers) drawer) (ap (λ (q : Panes). q.width) rest) (ap (λ (q : Panes). q.height) rest)
    (subst (IsScreen m.drawer.buffers) (sym screen) (screen-mark m.drawer.buffers mark m.state.screen kept.screen))
    (subst (λ (s : Screen). s.switches ≤ m.made) (sym screen) kept.switches)
    (subst (λ (q : Panes). q.devices.handles ≤ m.made) (sym rest) kept.devices)

-- a job that drew this
pub kept-job : (m : Machine) (p : Picture) → IsKept m → IsBegun m.drawer.buffers m.state.screen → IsKept (record m { state = record m.state { windows = windows_after_job m.state.windows; screen = after_draw m.drawer.buffers p m.state.screen } })
kept-job m p kept begun = kept-with m (windows_after_job m.state.windows) m.state.handles _ m.state.contexts m.state.devices kept (scene_job m.setup m.state.windows m.state.handles kept.scene) kept.handles kept.devices (screen-draw m.drawer.buffers p m.state.screen begun kept.screen) kept.switches

pub kept-counted : (m : Machine) (made refused : ℕ) → IsKept m → m.made ≤ made → made ≤ m.setup.config.calls → refused ≤ made → IsKept (record m { made = made; refused = refused })
kept-counted m made refused kept more few fewer = record {
  config = kept.config;
  assets = kept.assets;
  has_desktop = kept.has_desktop;
  buffers = kept.buffers;
  screen = kept.screen;
  width = kept.width;
  height = kept.height;
  scene = kept.scene;
  handles = let handles = kept.handles in omega arith;
  devices = let devices = kept.devices in omega arith;
  switches = let switches = kept.switches in omega arith;
  made = few;
  refused = fewer;
}

-- ---- all jobs

-- a list of the same length replaces another whole
pub refill-whole : {X : Type 0} (xs ws : List X) → length ws ≡ length xs → refill (length xs) xs ws ≡ ws
refill-whole xs ws e =
    let rest = drop_all (length ws) xs (omega arith) in
    rw rest (ap (take (length xs)) (append-nil ws) ∙ take_all (length xs) ws (omega arith))

pub jobs-step : (setup : Setup) (s : Desk) (which : ℕ) → position is_invalid s.windows ≡ Some which → jobs_of s.windows ≡ suc (jobs_of (after_job setup s).windows)
jobs-step setup s which e = jobs-more s.windows which e

pub exec-more : (setup : Setup) (total : Desk) (m n : Machine) (which : ℕ) → m.setup ≡ setup → position is_invalid m.state.windows ≡ Some which → Paints m 1 (after_job m.setup (desk_of m.state)) n
    → after_jobs setup (jobs_of m.state.windows) (desk_of m.state) ≡ total → after_jobs setup (jobs_of n.state.windows) (desk_of n.state) ≡ total
exec-more setup total m n which same first is so_far =
    ap (λ (d : Desk). after_jobs setup (jobs_of d.windows) d) is.desk
    ∙ ap (λ (k : Setup). after_jobs setup (jobs_of (after_job k (desk_of m.state)).windows) (after_job k (desk_of m.state))) same
    ∙ ap (λ (k : ℕ). after_jobs setup k (desk_of m.state)) (sym (jobs-step setup (desk_of m.state) which first))
    ∙ so_far

-- the screen after one job more
drawn_more : (n jobs : ℕ) (p q : Picture) (first s t : Screen) → s ≡ cond (eqb jobs 0) first (after_draw n q first) → t ≡ after_draw n p s → t ≡ cond (eqb (jobs + 1) 0) first (after_draw n p first)
drawn_more n jobs p q first s t so_far then =
    then
    ∙ ap (after_draw n p) so_far
    ∙ by_jobs (eqb jobs 0)
    ∙ sym (ap (λ (b : Bool). cond b first (after_draw n p first)) (ne_eqb (jobs + 1) 0 (λ none. absurd (omega (arith, none)))))
  where
    by_jobs : (b : Bool) → after_draw n p (cond b first (after_draw n q first)) ≡ after_draw n p first
    by_jobs true = refl
    by_jobs false = drawn_twice n p q first

-- a job changes the state alone
pub paints-more : (first m n : Machine) (jobs : ℕ) (d : Desk) → Paints first jobs (desk_of m.state) m → Paints m 1 d n → Paints first (jobs + 1) (desk_of n.state) n
paints-more first m n jobs d so_far is =
    let same : m.drawer.buffers ≡ first.drawer.buffers = ap (λ (k : Machine). k.drawer.buffers) so_far.rest in
    record {
      rest =
          is.rest
          ∙ ap (λ (k : Machine). record k { state = n.state }) so_far.rest;
      desk = refl;
      screen = drawn_more first.drawer.buffers jobs (desk_of n.state).picture (desk_of m.state).picture first.state.screen m.state.screen n.state.screen so_far.screen
          (is.screen
          ∙ ap (λ (p : Picture). after_draw m.drawer.buffers p m.state.screen) (ap (λ (k : Desk). k.picture) (sym is.desk))
          ∙ ap (λ (b : ℕ). after_draw b (desk_of n.state).picture m.state.screen) same);
    }

-- and goes on where drawing was begun
pub begun-more : (m n : Machine) (d : Desk) → Paints m 1 d n → IsBegun m.drawer.buffers m.state.screen → IsBegun n.drawer.buffers n.state.screen
begun-more m n d is begun =
    let same : n.drawer.buffers ≡ m.drawer.buffers = ap (λ (k : Machine). k.drawer.buffers) is.rest in
    let count : n.state.screen.count ≡ m.state.screen.count = ap (λ (s : Screen). s.count) is.screen in
    rw (same, count) begun

pub jobs_done : (setup : Setup) (total : Desk) (first m : Machine) (jobs : ℕ) → Paints first jobs (desk_of m.state) m → position is_invalid m.state.windows ≡ None → after_jobs setup (jobs_of m.state.windows) (desk_of m.state) ≡ total → Paints first jobs total m
jobs_done setup total first m jobs is none so_far =
    let all : desk_of m.state ≡ total = ap (λ (k : ℕ). after_jobs setup k (desk_of m.state)) (sym (no_jobs m.state.windows none)) ∙ so_far in
    subst (λ (d : Desk). Paints first jobs d m) all is

pub few_jobs : (s : Desk) → jobs_of s.windows ≤ length s.windows
few_jobs s = count_by-le-length is_invalid s.windows
