-- What is known of calls that aren't refused, and that they leave the windows of a tree.
use Rattle.std.proofs.Common.{◌≡◌, ◌≢◌, ℕ, ℤ, ◌+◌, ◌<◌, ◌≤◌, Bool, true, false, cond, eqb, List, [], ◌∷◌, length, Option, Some, None, refl, sym, ap, ◌∙◌, arith, eq-eqb}
use Rattle.std.specs.Prelude.{◌==◌, ◌||◌, not, nat_lt, nat_le, is_some}
use Rattle.std.specs.Option.{option_map_or}
use Rattle.std.proofs.lemmas.Bool.{false≢true, or_parts}
use Rattle.std.proofs.lemmas.Bool.Decides.{nat_tests}
use Rattle.gfx_base.specs.declared.rect.Rect.{Rect}
use Rattle.scene.specs.declared.win.Win.{Win}
use Rattle.scene.specs.Places.{window_of}
use Rattle.scene.specs.Clips.{clip_in}
use Rattle.scene.specs.Damage.{invalidated}
use Rattle.scene.specs.Families.{new_window, resized_to, window_changed}
use Rattle.scene.specs.Stacks.{IsWindow, IsDesktop, has_ancestors, is_bad_size}
use Rattle.scene.proofs.CallerLemmas.{desktops}
use Rattle.win_tree.specs.Refusals.{refusal_of_create}
use Rattle.win_tree.proofs.CallerLemmas.{IsNew}
use Rattle.invalidate.proofs.CallerLemmas.{may_become}
use Rattle.invalidate.specs.Invalidation.{on_screen}
use Rattle.strokes.specs.declared.shape.Shape.{Shape}
use Rattle.strokes.specs.declared.shape.Shape.TheVariants as shape
use Rattle.calls.specs.declared.call.Call.{Call}
use Rattle.calls.specs.declared.call.Call.TheVariants.{Create}
use Rattle.calls.specs.declared.reply.Refusal.{Refusal}
use Rattle.calls.specs.declared.reply.Refusal.TheVariants.{Desktop, BadSize, TooManyWindows, TooDeep, NoClass}
use Rattle.desk.specs.declared.changes.Change.{Change}
use Rattle.desk.specs.declared.changes.Change.TheVariants.{Delete, MoveTo, MoveBy, Resize, Show, Hide, ToTop, ToBottom, SetClass, SetTrans}
use Rattle.desk.specs.declared.changes.ContextChange.{ContextChange}
use Rattle.desk.specs.declared.changes.ContextChange.TheVariants as context_change
use Rattle.desk.specs.Setups.{Setup, screen_of}
use Rattle.desk.specs.Windows.{after_change, with_class, with_invalid_window, with_invalid_rect, with_trans}
use Rattle.desk.specs.Scenes.{HasClass, IsScene}
use Rattle.desk.specs.Changes.{call_for, list_after, context_call, stroke_call}
use Rattle.desk.specs.Drawing.{Work, Draw, work_of}
use Rattle.desk.specs.Desks.{Desk, Step, is_context_call, with_windows, effect, Objection, objections, no_window, too_deep, bad_size, no_class, refusal_of}
use Rattle.desk.proofs.IgnoreLemmas.{bare_invalidated}
use Rattle.desk.proofs.SceneLemmas.{found_has, found_handle, MayStand, scene_changed, scene_marked, scene_raised, scene_lowered, scene_without}

-- ---- refusals that don't hold

pub not_refused : (b : Bool) (refusal : Refusal) (rest : Option Refusal) → cond b (Some refusal) rest ≡ None → (b ≡ false) × (rest ≡ None)
not_refused true refusal rest e = absurd cc
not_refused false refusal rest e = (refl, e)

some_window : (o : Option Win) → not (is_some o) ≡ false → (w : Win) × (o ≡ Some w)
some_window None e = absurd cc
some_window (Some w) e = (w, refl)

-- a window that may be changed
pub record MayChange (ws : List Win) (h : ℕ) : Type 0 where
  pub win : Win
  pub live : window_of ws h ≡ Some win
  pub other : h ≢ 1

pub lives : (ws : List Win) (h : ℕ) (rest : List Objection) → refusal_of (no_window ws h ∷ rest) ≡ None → (w : Win) × ((window_of ws h ≡ Some w) × (refusal_of rest ≡ None))
lives ws h rest e =
    let live = not_refused (not (is_some (window_of ws h))) _ (refusal_of rest) e in
    let w = some_window (window_of ws h) live.0 in
    (w.0, (w.1, live.1))

pub may_change : (ws : List Win) (h : ℕ) (rest : List Objection) → refusal_of (no_window ws h ∷ (eqb h 1, Desktop) ∷ rest) ≡ None → MayChange ws h × (refusal_of rest ≡ None)
may_change ws h rest e =
    let live = lives ws h ((eqb h 1, Desktop) ∷ rest) e in
    let other = not_refused (eqb h 1) _ (refusal_of rest) live.1.1 in
    (record { win = live.0; live = live.1.0; other = λ is. false≢true (sym other.0 ∙ eq-eqb h 1 is) }, other.1)

-- sides that aren't bad
pub record AreSides (w h : ℕ) : Type 0 where
  pub some_width : 1 ≤ w
  pub width : w ≤ 4096
  pub some_height : 1 ≤ h
  pub height : h ≤ 4096

pub good_sides : (w h : ℕ) → is_bad_size w h ≡ false → AreSides w h
good_sides w h e =
    let sides = or_parts (w == 0 || h == 0) (nat_lt 4096 w || nat_lt 4096 h) e in
    let small = or_parts (w == 0) (h == 0) sides.0 in
    let large = or_parts (nat_lt 4096 w) (nat_lt 4096 h) sides.1 in
    record {
      some_width = let test = small.0 in grind (arith, nat_tests);
      width = let test = large.0 in grind (arith, nat_tests);
      some_height = let test = small.1 in grind (arith, nat_tests);
      height = let test = large.1 in grind (arith, nat_tests);
    }

known_class : (classes class : ℕ) → nat_le classes class ≡ false → class < classes
known_class classes class test = grind (arith, nat_tests)

-- ---- what stands in a window's place

-- the window in another place of its parent, shown or hidden, or of another class
stands_otherwise : (setup : Setup) (w : Win) (x y : ℤ) (shown : Bool) (class : ℕ) → IsWindow w → w.handle ≢ 1 → class < length setup.assets.classes → MayStand setup w (record w { x = x; y = y; shown = shown; class = class })
stands_otherwise setup w x y shown class is other known = record {
  becomes = record {
    handle = refl;
    parent = refl;
    window = record { handle = is.handle; some_width = is.some_width; width = is.width; some_height = is.some_height; height = is.height; invalid = is.invalid };
    desktop = λ one. absurd (other one);
  };
  class = known;
}

stands_trans : (setup : Setup) (w : Win) (trans : Bool) → IsWindow w → w.handle ≢ 1 → HasClass setup w → MayStand setup w (with_trans trans w)
stands_trans setup w trans is other known = record {
  becomes = record {
    handle = refl;
    parent = refl;
    window = record { handle = is.handle; some_width = is.some_width; width = is.width; some_height = is.some_height; height = is.height; invalid = is.invalid };
    desktop = λ one. absurd (other one);
  };
  class = known;
}

stands_resized : (setup : Setup) (w : Win) (width height : ℕ) → IsWindow w → w.handle ≢ 1 → HasClass setup w → AreSides width height → MayStand setup w (resized_to width height w)
stands_resized setup w width height is other known sides = record {
  becomes = record {
    handle = refl;
    parent = refl;
    window = record { handle = is.handle; some_width = sides.some_width; width = sides.width; some_height = sides.some_height; height = sides.height; invalid = is.invalid };
    desktop = λ one. absurd (other one);
  };
  class = known;
}

-- what is known of a window that is found
pub record IsFound (setup : Setup) (h : ℕ) (w : Win) : Type 0 where
  pub window : IsWindow w
  pub other : w.handle ≢ 1
  pub class : HasClass setup w

is_found : (setup : Setup) (ws : List Win) (handles h : ℕ) (w : Win) → IsScene setup ws handles → h ≢ 1 → window_of ws h ≡ Some w → IsFound setup h w
is_found setup ws handles h w s other live = record {
  window = found_has IsWindow ws h w live s.stack.windows;
  other = λ e. other (sym (found_handle ws h w live) ∙ e);
  class = found_has (HasClass setup) ws h w live s.classes;
}

-- ---- the list after a change

pub scene_listed : (setup : Setup) (ws : List Win) (handles h : ℕ) (change : Change) → IsScene setup ws handles → refusal_of (objections (length setup.assets.classes) ws (call_for h change)) ≡ None → IsScene setup (list_after h change ws) handles
scene_listed setup ws handles h Delete s e = let m = (may_change ws h [] e).0 in scene_without setup ws handles h m.win s m.live m.other
scene_listed setup ws handles h (MoveTo x y) s e =
    let m = (may_change ws h [] e).0 in
    scene_changed setup ws handles h _ s m.other (λ w. refl) (λ w live. let f = is_found setup ws handles h w s m.other live in stands_otherwise setup w x y w.shown w.class f.window f.other f.class)
scene_listed setup ws handles h (MoveBy dx dy) s e =
    let m = (may_change ws h [] e).0 in
    scene_changed setup ws handles h _ s m.other (λ w. refl) (λ w live. let f = is_found setup ws handles h w s m.other live in stands_otherwise setup w _ _ w.shown w.class f.window f.other f.class)
scene_listed setup ws handles h (Resize width height) s e =
    let m = may_change ws h ((is_bad_size width height, _) ∷ []) e in
    let sides = good_sides width height (not_refused (is_bad_size width height) _ None m.1).0 in
    scene_changed setup ws handles h (resized_to width height) s m.0.other (λ w. refl) (λ w live. let f = is_found setup ws handles h w s m.0.other live in stands_resized setup w width height f.window f.other f.class sides)
scene_listed setup ws handles h Show s e =
    let m = (may_change ws h [] e).0 in
    scene_changed setup ws handles h _ s m.other (λ w. refl) (λ w live. let f = is_found setup ws handles h w s m.other live in stands_otherwise setup w w.x w.y true w.class f.window f.other f.class)
scene_listed setup ws handles h Hide s e =
    let m = (may_change ws h [] e).0 in
    scene_changed setup ws handles h _ s m.other (λ w. refl) (λ w live. let f = is_found setup ws handles h w s m.other live in stands_otherwise setup w w.x w.y false w.class f.window f.other f.class)
scene_listed setup ws handles h ToTop s e = let m = (may_change ws h [] e).0 in scene_raised setup ws handles h m.win s m.live m.other
scene_listed setup ws handles h ToBottom s e = let m = (may_change ws h [] e).0 in scene_lowered setup ws handles h m.win s m.live m.other
scene_listed setup ws handles h (SetClass class) s e =
    let m = may_change ws h ((nat_le (length setup.assets.classes) class, _) ∷ []) e in
    let known = known_class (length setup.assets.classes) class (not_refused (nat_le (length setup.assets.classes) class) _ None m.1).0 in
    scene_changed setup ws handles h (with_class class) s m.0.other (λ w. refl) (λ w live. let f = is_found setup ws handles h w s m.0.other live in stands_otherwise setup w w.x w.y w.shown class f.window f.other known)
scene_listed setup ws handles h (SetTrans trans) s e =
    let m = (may_change ws h [] e).0 in
    scene_changed setup ws handles h (with_trans trans) s m.other (λ w. refl) (λ w live. let f = is_found setup ws handles h w s m.other live in stands_trans setup w trans f.window f.other f.class)

-- ---- a new window

-- what is known of a window that may be made
pub record MayBeMade (classes : ℕ) (ws : List Win) (parent w h class : ℕ) : Type 0 where
  pub over' : Win
  pub live : window_of ws parent ≡ Some over'
  pub above : has_ancestors 7 ws over' ≡ false
  pub size : is_bad_size w h ≡ false
  pub known : class < classes
  pub few : nat_le 256 (length ws) ≡ false

pub may_be_made : (classes : ℕ) (ws : List Win) (parent : ℕ) (x y : ℤ) (w h class : ℕ) → refusal_of (objections classes ws (Create parent x y w h class)) ≡ None → MayBeMade classes ws parent w h class
may_be_made classes ws parent x y w h class e =
    let few : List Objection = (nat_le 256 (length ws), TooManyWindows) ∷ [] in
    let known : List Objection = no_class classes class ∷ few in
    let size : List Objection = bad_size w h ∷ known in
    let p = lives ws parent (too_deep ws parent ∷ size) e in
    let deep = not_refused (option_map_or (has_ancestors 7 ws) (window_of ws parent) false) TooDeep (refusal_of size) p.1.1 in
    let fits = not_refused (is_bad_size w h) BadSize (refusal_of known) deep.1 in
    let there = not_refused (nat_le classes class) (NoClass class) (refusal_of few) fits.1 in
    let room = not_refused (nat_le 256 (length ws)) TooManyWindows None there.1 in
    record {
      over' = p.0;
      live = p.1.0;
      above = sym (ap (λ (o : Option Win). option_map_or (has_ancestors 7 ws) o false) p.1.0) ∙ deep.0;
      size = fits.0;
      known = known_class classes class there.0;
      few = room.0;
    }

-- the tree makes it too
pub tree_makes : (classes : ℕ) (ws : List Win) (parent w h class : ℕ) → MayBeMade classes ws parent w h class → refusal_of_create ws parent w h ≡ None
tree_makes classes ws parent w h class m = rw (m.live, m.above, m.size, m.few) refl

pub few_windows : (n : ℕ) → nat_le 256 n ≡ false → n < 256
few_windows n test = grind (arith, nat_tests)

pub is_new : (setup : Setup) (ws : List Win) (handles parent : ℕ) (x y : ℤ) (w h class : ℕ) → IsScene setup ws handles → (m : MayBeMade (length setup.assets.classes) ws parent w h class) → IsNew ws handles (new_window (handles + 1) parent x y w h class) m.over'
is_new setup ws handles parent x y w h class s m = record {
  stack = s.stack;
  given = s.given;
  fresh = omega arith;
  parent = m.live;
  above = m.above;
  few = few_windows (length ws) m.few;
  window = let sides = good_sides w h m.size in record { handle = omega arith; some_width = sides.some_width; width = sides.width; some_height = sides.some_height; height = sides.height; invalid = refl };
}

-- ---- one window invalid

scene_invalid : (setup : Setup) (ws : List Win) (handles h : ℕ) (clip area : Win → Rect) → IsScene setup ws handles → IsScene setup (window_changed h (λ w. invalidated (clip w) (area w) w) ws) handles
scene_invalid setup ws handles h clip area s =
    scene_marked setup ws handles h (λ w. invalidated (clip w) (area w) w) s (λ w. bare_invalidated (clip w) (area w) w)
    (λ w live. may_become (clip w) (area w) w (found_has IsWindow ws h w live s.stack.windows) (found_has (λ v. v.handle ≡ 1 → IsDesktop v) ws h w live (desktops ws s.stack)))

pub scene_invalid_window : (setup : Setup) (ws : List Win) (handles h : ℕ) → IsScene setup ws handles → IsScene setup (with_invalid_window (screen_of setup) h ws) handles
scene_invalid_window setup ws handles h s = scene_invalid setup ws handles h (clip_in (screen_of setup) ws) (clip_in (screen_of setup) ws) s

pub scene_invalid_rect : (setup : Setup) (ws : List Win) (handles h : ℕ) (local : Rect) → IsScene setup ws handles → IsScene setup (with_invalid_rect (screen_of setup) h local ws) handles
scene_invalid_rect setup ws handles h local s = scene_invalid setup ws handles h (clip_in (screen_of setup) ws) (λ w. on_screen ws w local) s

-- ---- what a change does

-- the call is neither on a context nor work
abbrev pub IsOnWindows : Call → Type 0
IsOnWindows call = (is_context_call call ≡ false) × (work_of call ≡ None)

pub on_windows : (h : ℕ) (change : Change) → IsOnWindows (call_for h change)
on_windows h Delete = (refl, refl)
on_windows h (MoveTo x y) = (refl, refl)
on_windows h (MoveBy dx dy) = (refl, refl)
on_windows h (Resize width height) = (refl, refl)
on_windows h Show = (refl, refl)
on_windows h Hide = (refl, refl)
on_windows h ToTop = (refl, refl)
on_windows h ToBottom = (refl, refl)
on_windows h (SetClass class) = (refl, refl)
on_windows h (SetTrans trans) = (refl, refl)

pub on_a_context : (change : ContextChange) → is_context_call (context_call change) ≡ true
on_a_context (context_change.Select h) = refl
on_a_context (context_change.Device device) = refl
on_a_context (context_change.Colour c) = refl
on_a_context (context_change.BkColour c) = refl
on_a_context (context_change.TextMode trans) = refl
on_a_context (context_change.Font font) = refl
on_a_context context_change.Save = refl
on_a_context context_change.Restore = refl

-- the call asks for work
abbrev pub IsWork : Call → Work → Type 0
IsWork call work = (is_context_call call ≡ false) × (work_of call ≡ Some work)

pub draws_it : (s : Shape) → IsWork (stroke_call s) (Draw s)
draws_it (shape.Fill x0 y0 x1 y1) = (refl, refl)
draws_it (shape.Frame x0 y0 x1 y1) = (refl, refl)
draws_it (shape.Line x0 y0 x1 y1) = (refl, refl)
draws_it (shape.Bitmap bitmap x y) = (refl, refl)
draws_it (shape.Text x y string) = (refl, refl)

pub does : (setup : Setup) (s : Desk) (h : ℕ) (change : Change) → ◌≡◌ {A = Step Desk} (with_windows s (after_change (screen_of setup) h s.windows (list_after h change s.windows))) (effect setup s (call_for h change))
does setup s h Delete = refl
does setup s h (MoveTo x y) = refl
does setup s h (MoveBy dx dy) = refl
does setup s h (Resize width height) = refl
does setup s h Show = refl
does setup s h Hide = refl
does setup s h ToTop = refl
does setup s h ToBottom = refl
does setup s h (SetClass class) = refl
does setup s h (SetTrans trans) = refl

pub none_refused : (o : Option Win) (why : Refusal) (rest : Option Refusal) → o ≡ None → cond (not (is_some o)) (Some why) rest ≡ Some why
none_refused o why rest e = rw e refl

pub is_there : (o : Option Win) (w : Win) (why : Refusal) (rest : Option Refusal) → o ≡ Some w → cond (not (is_some o)) (Some why) rest ≡ rest
is_there o w why rest e = rw e refl
