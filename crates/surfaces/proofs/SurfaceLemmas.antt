-- What work makes of the buffers and devices, and why it is refused.
use Rattle.std.proofs.Common.{◌≡◌, ◌≢◌, ◌↔◌, ℕ, ℤ, Bool, true, false, cond, eqb, ◌&&◌, List, [], ◌∷◌, ◌++◌, Option, Some, None, Result, Ok, Err, subst, refl, sym, ap, ◌∙◌, append_assoc, append-nil}
use Rattle.std.specs.Prelude.{not, is_some, option_map}
use Rattle.std.specs.Option.{option_map_or}
use Rattle.std.proofs.lemmas.Bool.{ne_eqb, eqb-true, eq-eqb}
use Rattle.frame.specs.Pictures.{Picture, picture_of}
use Rattle.frame.specs.Canvases.{Canvas}
use Rattle.paint_ops.specs.Kinds.{Assets}
use Rattle.context.specs.declared.context.Context.{Context}
use Rattle.scene.specs.declared.win.Win.{Win}
use Rattle.scene.specs.Looks.{screen_with, looks_of}
use Rattle.strokes.specs.declared.shape.Shape.{Shape}
use Rattle.strokes.specs.Strokes.{Ink, colour_of_stroke, colour_of_copy, stroked, inked_whole}
use Rattle.multibuf.specs.declared.refusals.BeginRefused.{BeginRefused}
use Rattle.multibuf.specs.declared.refusals.BeginRefused.TheVariants as begin
use Rattle.multibuf.specs.Owners.{HasSides}
use Rattle.multibuf.specs.Buffering.{Buffering, KeepsSides, with_target}
use Rattle.multibuf.specs.Opening.{IsNew, blank}
use Rattle.multibuf.specs.Screens.{Screen, screen_of, latest, number_waiting, after_begin, after_mark, after_draw}
use Rattle.memdev.specs.Devices.{Table}
use Rattle.calls.specs.declared.reply.Refusal.{Refusal}
use Rattle.calls.specs.declared.reply.Refusal.TheVariants.{OpenDepth, Waiting}
use Rattle.desk.specs.Devices.{no_device_pictures, picture_on, with_drawing}
use Rattle.surfaces.specs.Seen.{seen_devices}
use Rattle.desk.specs.Drawing.{Draw, Copy, selected, with_ink, after_ink}
use Rattle.surfaces.specs.Turns.{showing, none_free, begin_objections, after_turn, IsScreen}
use Rattle.surfaces.specs.Panes.{Panes, panes_for, looks_on, with_drawn, with_turn, panes_after, pane_objections, begun, ended, Begins, switched, Finds}
use Rattle.surfaces.specs.Refusals.{Draws, begin_refusal}
use Rattle.desk.specs.Desks.{refusal_of, no_window, no_device, shape_objections, work_objections}
use Rattle.desk.proofs.CallerLemmas.{refused_next, refused_before, ink_at}
use Rattle.surfaces.proofs.DeviceLemmas.{one_colour}
use Rattle.surfaces.proofs.TurnLemmas.{latest-begun, latest-mark}
use Rattle.surfaces.proofs.MarkLemmas.{waiting-begun, finds_same, finds_as_before, finds_buffers, mark_turn, unswitched}

-- ---- whether a device is there

pub nothing_on : (o : Option Picture) (why : Refusal) (rest : Option Refusal) → o ≡ None → cond (not (is_some o)) (Some why) rest ≡ Some why
nothing_on o why rest e = rw e refl

pub something_on : (o : Option Picture) (p : Picture) (why : Refusal) (rest : Option Refusal) → o ≡ Some p → cond (not (is_some o)) (Some why) rest ≡ rest
something_on o p why rest e = rw e refl

pub some_picture : (o : Option Picture) → is_some o ≡ true → (p : Picture) × (o ≡ Some p)
some_picture None is = absurd cc
some_picture (Some p) is = (p, refl)

-- ---- what is held against a begin

none_free_if : (n : ℕ) (s : Screen) (o : Option ℕ) → number_waiting s ≡ o → ((k : ℕ) → n ≡ 2 → s.count ≡ 0 → number_waiting s ≡ Some k → ⊥) → refusal_of (option_map_or (λ k. (eqb n 2 && eqb s.count 0, Waiting k) ∷ []) o []) ≡ None
none_free_if n s None is never = refl
none_free_if n s (Some k) is never = by_count (eqb n 2) (eqb s.count 0) refl refl
  where
    by_count : (a b : Bool) → eqb n 2 ≡ a → eqb s.count 0 ≡ b → cond (a && b) (Some (Waiting k)) None ≡ None
    by_count true true two none = absurd (never k (eqb-true n 2 two) (eqb-true s.count 0 none) is)
    by_count true false two none = refl
    by_count false b two none = refl

pub is_free : (n : ℕ) (s : Screen) → ((k : ℕ) → n ≡ 2 → s.count ≡ 0 → number_waiting s ≡ Some k → ⊥) → refusal_of (none_free n s) ≡ None
is_free n s never = none_free_if n s (number_waiting s) refl never

pub may_begin : (n : ℕ) (s : Screen) → s.count ≢ 100 → ((k : ℕ) → n ≡ 2 → s.count ≡ 0 → number_waiting s ≡ Some k → ⊥) → refusal_of (begin_objections n s) ≡ None
may_begin n s few never = rw (ne_eqb s.count 100 few) (is_free n s never)

pub too_deep : (n : ℕ) (s : Screen) → s.count ≡ 100 → refusal_of (begin_objections n s) ≡ Some OpenDepth
too_deep n s deep = rw deep refl

pub not_free : (n : ℕ) (s : Screen) (k : ℕ) → n ≡ 2 → s.count ≡ 0 → number_waiting s ≡ Some k → refusal_of (none_free n s) ≡ Some (Waiting k)
not_free n s k two none waits =
    ap (λ (o : Option ℕ). refusal_of (option_map_or (λ j. (eqb n 2 && eqb s.count 0, Waiting j) ∷ []) o [])) waits
    ∙ ap (λ (b : Bool). cond (b && eqb s.count 0) (Some (Waiting k)) None) (eq-eqb n 2 two)
    ∙ ap (λ (b : Bool). cond b (Some (Waiting k)) None) (eq-eqb s.count 0 none)

-- with nothing begun a begin of its own is as any other
pub own_is_begin : (n : ℕ) (s : Screen) → s.count ≡ 0 → refusal_of (begin_objections n s) ≡ refusal_of (none_free n s)
own_is_begin n s none = ap (λ (k : ℕ). cond (eqb k 100) (Some OpenDepth) (refusal_of (none_free n s))) none

pub must_wait : (n : ℕ) (s : Screen) (k : ℕ) → n ≡ 2 → s.count ≡ 0 → number_waiting s ≡ Some k → refusal_of (begin_objections n s) ≡ Some (Waiting k)
must_wait n s k two none waits = own_is_begin n s none ∙ not_free n s k two none waits

-- ---- what the buffers answer

-- the buffers and devices, as they are seen
abbrev pub seen_panes : Buffering → Table → Option ℕ → Panes
seen_panes b t mark = record { drawer = b.drawer; width = b.width; height = b.height; screen = screen_of b; devices = seen_devices t; marked = mark }

-- why a begin is refused
pub record Tells (r : Result (Unit {0}) BeginRefused) (b : Buffering) : Type 0 where
  pub deep : (r ≡ Err begin.OpenDepth) ↔ (b.count ≡ 100)
  pub waits : (k : ℕ) → (r ≡ Err (begin.Waiting k)) ↔ ((b.drawer.buffers ≡ 2) × (b.count ≡ 0) × (number_waiting (screen_of b) ≡ Some k))

pub begins : (r : Result (Unit {0}) BeginRefused) (b d : Buffering) (t : Table) (mark : Option ℕ) (now : Panes) → r ≡ Ok tt → Tells r b → seen_panes b t mark ≡ now → d.drawer ≡ b.drawer → KeepsSides b d → screen_of d ≡ after_begin b.drawer.buffers (screen_of b)
    → Draws (Ok tt) (refusal_of (begin_objections now.drawer.buffers now.screen)) (record now { screen = after_begin now.drawer.buffers now.screen }) now (seen_panes d t mark)
begins r b d t mark now ok tells view drawer sides screen =
    let fine : refusal_of (begin_objections b.drawer.buffers (screen_of b)) ≡ None =
    may_begin b.drawer.buffers (screen_of b)
    (λ deep. absurd (is_ok begin.OpenDepth (sym ok ∙ tells.deep.1 deep)))
    (λ k two none waits. absurd (is_ok (begin.Waiting k) (sym ok ∙ (tells.waits k).1 (two, none, waits)))) in (
      ap (λ (p : Panes). refusal_of (begin_objections p.drawer.buffers p.screen)) (sym view) ∙ fine,
      rw (drawer, sides.0, sides.1, screen) (ap (λ (p : Panes). record p { screen = after_begin p.drawer.buffers p.screen }) view),
    )
  where
    is_ok : (why : BeginRefused) → ◌≡◌ {A = Result (Unit {0}) BeginRefused} (Ok tt) (Err why) → ⊥
    is_ok why e = absurd cc

pub not_begun : (r : Result (Unit {0}) BeginRefused) (b d : Buffering) (t : Table) (mark : Option ℕ) (now : Panes) (why : BeginRefused) (told : Refusal) → r ≡ Err why → Tells r b → seen_panes b t mark ≡ now → d ≡ b → told ≡ begin_refusal why
    → Draws (Err told) (refusal_of (begin_objections now.drawer.buffers now.screen)) (record now { screen = after_begin now.drawer.buffers now.screen }) now (seen_panes d t mark)
not_begun r b d t mark now why told err tells view same is = (
  ap (λ (p : Panes). refusal_of (begin_objections p.drawer.buffers p.screen)) (sym view) ∙ reason why err ∙ ap (λ (w : Refusal). Some w) (sym is),
  ap (λ (k : Buffering). seen_panes k t mark) same ∙ view,
)
  where
    reason : (why : BeginRefused) → r ≡ Err why → refusal_of (begin_objections b.drawer.buffers (screen_of b)) ≡ Some (begin_refusal why)
    reason begin.OpenDepth e = too_deep b.drawer.buffers (screen_of b) (tells.deep.0 e)
    reason (begin.Waiting k) e = let is = (tells.waits k).0 e in must_wait b.drawer.buffers (screen_of b) k is.0 is.1 is.2

-- where it may not begin, nothing changes
pub unbegun : (old mid : Panes) (refusal : Refusal) → mid ≡ record old { screen = mid.screen } → Begins (Err refusal) old.drawer.buffers old.screen mid.screen → mid ≡ old
unbegun old mid refusal is begins = is ∙ ap (λ (s : Screen). record old { screen = s }) begins.1

-- a refusal that is handed on
pub refused_alike : (r : Result (Unit {0}) Refusal) (told why : Refusal) (reason : Option Refusal) (now old new : Panes) → r ≡ Err told → told ≡ why → reason ≡ Some why → new ≡ old → Draws r reason now old new
refused_alike r told why reason now old new err same is unchanged = rw err (is ∙ ap (λ (w : Refusal). Some w) (sym same), unchanged)

-- what was written through the frame that was lent is drawn
pub drawn_by : (b : Buffering) (t : Table) (mark : Option ℕ) (now : Panes) (c : Canvas) (p : Picture) → seen_panes b t mark ≡ now → screen_of (with_target b c) ≡ after_draw b.drawer.buffers c.picture (screen_of b) → c.picture ≡ p → seen_panes (with_target b c) t mark ≡ with_drawn now p
drawn_by b t mark now c p view screen is =
    ap (λ (s : Screen). record (seen_panes b t mark) { screen = s }) (screen ∙ ap (λ (q : Picture). after_draw b.drawer.buffers q (screen_of b)) is)
    ∙ ap (λ (k : Panes). with_drawn k p) view

-- a copy on the lent frame, which has the buffers' sides and shows the latest picture
pub copied_on : (assets : Assets) (ws : List Win) (b : Buffering) (t : Table) (mark : Option ℕ) (now : Panes) (lent : Canvas) (at : ℕ) (ink : Ink) (p : Picture) → seen_panes b t mark ≡ now → HasSides b.width b.height lent → lent.picture ≡ latest (screen_of b)
    → p ≡ stroked (looks_of assets (screen_with lent.picture.width lent.picture.height) ws) ws at ink lent.picture → p ≡ stroked (looks_on assets ws now) ws at ink (latest now.screen)
copied_on assets ws b t mark now lent at ink p view sides picture is =
    is
    ∙ ap (λ (n : ℕ). stroked (looks_of assets (screen_with n lent.picture.height) ws) ws at ink lent.picture) sides.0
    ∙ ap (λ (n : ℕ). stroked (looks_of assets (screen_with b.width n) ws) ws at ink lent.picture) sides.1
    ∙ ap (stroked (looks_of assets (screen_with b.width b.height) ws) ws at ink) picture
    ∙ ap (λ (k : Panes). stroked (looks_on assets ws k) ws at ink (latest k.screen)) view

-- ---- a turn

drawn_is : (old mid drawn : Panes) (own : Bool) (q : Picture) → mid ≡ record old { screen = mid.screen } → Begins (Ok own) old.drawer.buffers old.screen mid.screen → drawn ≡ with_drawn mid q → drawn ≡ record old { screen = after_draw old.drawer.buffers q (begun old.drawer.buffers old.screen) }
drawn_is old mid drawn own q is_mid begins is_drawn = is_drawn ∙ ap (λ (p : Panes). with_drawn p q) (is_mid ∙ ap (λ (s : Screen). record old { screen = s }) begins.2)

-- what the end finds is found by the call that began
pub found_before : (old mid drawn last : Panes) (own : Bool) (q : Picture) → mid ≡ record old { screen = mid.screen } → Begins (Ok own) old.drawer.buffers old.screen mid.screen → drawn ≡ with_drawn mid q
    → Finds drawn.drawer drawn.screen last.drawer last.marked → Finds old.drawer old.screen last.drawer last.marked
found_before old mid drawn last own q is_mid begins is_drawn finds =
    finds_same old.drawer last.drawer old.screen _ last.marked (waiting-begun old.drawer.buffers old.screen)
    (subst (λ (p : Panes). Finds p.drawer p.screen last.drawer last.marked) (drawn_is old mid drawn own q is_mid begins is_drawn) finds)

-- what was begun, drawn on and ended is a turn after the mark of the switch that the end found confirmed
pub turned : (old mid drawn last : Panes) (own : Bool) (q : Picture) → IsScreen old.drawer.buffers old.screen → mid ≡ record old { screen = mid.screen } → Begins (Ok own) old.drawer.buffers old.screen mid.screen → drawn ≡ with_drawn mid q
    → Finds drawn.drawer drawn.screen last.drawer last.marked → last ≡ record (switched last drawn) { screen = ended own (switched last drawn).screen } → last ≡ with_turn (switched last old) q
turned old mid drawn last own q pictures is_mid begins is_drawn finds is_last =
    let n = old.drawer.buffers in
    let k = last.marked in
    let found = found_before old mid drawn last own q is_mid begins is_drawn finds in
    is_last
    ∙ ap (λ (p : Panes). record (switched last p) { screen = ended own (switched last p).screen }) (drawn_is old mid drawn own q is_mid begins is_drawn)
    ∙ ap (λ (b : Bool). record old { drawer = last.drawer; screen = ended b (after_mark k (after_draw n q (begun n old.screen))); marked = k }) begins.1
    ∙ ap (λ (s : Screen). record old { drawer = last.drawer; screen = s; marked = k }) (mark_turn n k q old.screen pictures found.waits)
    ∙ ap (λ (b : ℕ). record old { drawer = last.drawer; screen = after_turn b q (after_mark k old.screen); marked = k }) (sym (finds_buffers old.drawer last.drawer old.screen k found))

-- the ink that is put down after a begin is that which is put down before it
pub inked : (assets : Assets) (ws : List Win) (c : Context) (ink : Ink) (old mid last : Panes) (own : Bool) (at : ℕ) → mid ≡ record old { screen = mid.screen } → Begins (Ok own) old.drawer.buffers old.screen mid.screen → selected ws c ≡ Some at
    → stroked (looks_on assets ws mid) ws at ink (latest mid.screen) ≡ with_ink (looks_on assets ws (switched last old)) ws c ink (latest (switched last old).screen)
inked assets ws c ink old mid last own at is_mid begins first =
    ap (λ (p : Panes). stroked (looks_on assets ws p) ws at ink (latest p.screen)) (is_mid ∙ ap (λ (s : Screen). record old { screen = s }) begins.2)
    ∙ ap (stroked (looks_on assets ws old) ws at ink) (latest-begun old.drawer.buffers old.screen)
    ∙ ink_at (looks_on assets ws old) ws c ink (latest old.screen) at first
    ∙ ap (with_ink (looks_on assets ws old) ws c ink) (sym (latest-mark last.marked old.screen))

-- ---- a shape, on the screen or on a device

drawn_so : (r : Result (Unit {0}) Refusal) (first last : Option Refusal) (end now old new : Panes) → first ≡ last → end ≡ now → Draws r first end old new → Draws r last now old new
drawn_so r first last end now old new why is d = subst (λ (p : Panes). Draws r last p old new) is (subst (λ (o : Option Refusal). Draws r o end old new) why d)

pub drawn_on_screen : (assets : Assets) (ws : List Win) (c : Context) (shape : Shape) (r : Result (Unit {0}) Refusal) (old new : Panes) → eqb c.device 0 ≡ true → refusal_of (shape_objections assets c shape) ≡ None
    → Draws r (refusal_of (no_window ws c.window ∷ none_free old.drawer.buffers old.screen)) (with_turn (switched new old) (with_ink (looks_on assets ws (switched new old)) ws c (colour_of_stroke assets c shape) (latest (switched new old).screen))) old new
    → Draws r (refusal_of (pane_objections assets ws c (Draw shape) old)) (panes_after assets ws c (Draw shape) (switched new old)) old new
drawn_on_screen assets ws c shape r old new screen fine d =
    let free = none_free old.drawer.buffers old.screen in
    drawn_so r _ _ _ _ old new
    (rw screen (sym (ap refusal_of (append_assoc (shape_objections assets c shape) (no_window ws c.window ∷ []) free) ∙ refused_next (shape_objections assets c shape) (no_window ws c.window ∷ free) fine)))
    (rw screen refl) d

-- a device is drawn on, and the display stays
device_drawn : (assets : Assets) (c : Context) (shape : Shape) (r : Result (Unit {0}) Refusal) (o : Option Refusal) (old new : Panes) → Draws r o (record old { devices = with_drawing c.device (inked_whole (colour_of_stroke assets c shape)) old.devices }) old new → (new.drawer ≡ old.drawer) × (new.marked ≡ old.marked)
device_drawn assets c shape (Ok done) o old new d = (ap (λ (p : Panes). p.drawer) d.1, ap (λ (p : Panes). p.marked) d.1)
device_drawn assets c shape (Err refusal) o old new d = (ap (λ (p : Panes). p.drawer) d.1, ap (λ (p : Panes). p.marked) d.1)

pub drawn_on_device : (assets : Assets) (ws : List Win) (c : Context) (shape : Shape) (r : Result (Unit {0}) Refusal) (old new : Panes) → old.marked ≡ None → eqb c.device 0 ≡ false → refusal_of (shape_objections assets c shape) ≡ None
    → Draws r (refusal_of (no_device old.devices.live c.device ∷ [])) (record old { devices = with_drawing c.device (inked_whole (colour_of_stroke assets c shape)) old.devices }) old new
    → Draws r (refusal_of (pane_objections assets ws c (Draw shape) old)) (panes_after assets ws c (Draw shape) (switched new old)) old new
drawn_on_device assets ws c shape r old new fresh device fine d =
    let same = device_drawn assets c shape r _ old new d in
    subst (λ (p : Panes). Draws r (refusal_of (pane_objections assets ws c (Draw shape) old)) (panes_after assets ws c (Draw shape) p) old new) (sym (unswitched old new same.0 same.1 fresh))
    (drawn_so r _ _ _ _ old new
    (rw device (sym (ap refusal_of (append-nil (shape_objections assets c shape ++ no_device old.devices.live c.device ∷ [])) ∙ refused_next (shape_objections assets c shape) (no_device old.devices.live c.device ∷ []) fine)))
    (rw device refl) d)

pub found_on_device : (assets : Assets) (c : Context) (shape : Shape) (r : Result (Unit {0}) Refusal) (o : Option Refusal) (old new : Panes) → old.marked ≡ None → Draws r o (record old { devices = with_drawing c.device (inked_whole (colour_of_stroke assets c shape)) old.devices }) old new → Finds old.drawer old.screen new.drawer new.marked
found_on_device assets c shape r o old new fresh d = let same = device_drawn assets c shape r o old new d in finds_as_before old new same.0 same.1 fresh

-- a shape that names what isn't there is refused for that
pub not_drawn : (assets : Assets) (ws : List Win) (c : Context) (shape : Shape) (p : Panes) (why : Refusal) → refusal_of (shape_objections assets c shape) ≡ Some why → refusal_of (pane_objections assets ws c (Draw shape) p) ≡ Some why
not_drawn assets ws c shape p why is = refused_before (work_objections assets ws p.devices.live c (Draw shape)) _ why (refused_before (shape_objections assets c shape) _ why is)

-- ---- a device that is copied

pub copied : (assets : Assets) (ws : List Win) (c : Context) (device : ℕ) (x y : ℤ) (p : Panes) (from : Picture) → picture_on p.devices.live device ≡ Some from
    → with_turn p (with_ink (looks_on assets ws p) ws c (colour_of_copy from x y) (latest p.screen)) ≡ panes_after assets ws c (Copy device x y) p
copied assets ws c device x y p from found =
    ap (λ (o : Option Picture). record p { screen = after_turn p.drawer.buffers (after_ink (looks_on assets ws p) ws c (option_map (λ q. colour_of_copy q x y) o) (latest p.screen)) p.screen }) (sym found)

-- ---- at the start

pub opened : (alone : Bool) (w h n : ℕ) (b : Buffering) → IsNew alone w h n b
    → ◌≡◌ {A = Panes} (record { drawer = b.drawer; width = b.width; height = b.height; screen = screen_of b; devices = no_device_pictures; marked = None }) (panes_for alone w h n)
opened alone w h n b new =
    let black : (blank w h).picture ≡ picture_of w h (λ x y. 0) = one_colour w h 0 (blank w h).picture refl refl refl in
    rw (new.drawer, new.width, new.height, new.screen ∙ ap showing black) refl
