-- What is made invalid changes nothing else of the windows, and what calls look at and do depends on nothing else.
use Rattle.std.proofs.Common.{◌≡◌, ℕ, Bool, true, false, List, [], ◌∷◌, ◌++◌, length, map, Option, Some, None, refl, ap, ◌∙◌, inl, inr}
use Rattle.std.specs.Prelude.{◌==◌, not, nat_le, option_map, is_some}
use Rattle.std.specs.Option.{option_map_or}
use Rattle.std.proofs.lemmas.Bool.{cases_Bool}
use Rattle.std.proofs.lemmas.List.{length-map}
use Rattle.gfx_base.specs.declared.rect.Rect.{Rect}
use Rattle.scene.specs.declared.win.Win.{Win}
use Rattle.scene.specs.Places.{window_of}
use Rattle.scene.specs.Clips.{clip_in}
use Rattle.scene.specs.Families.{moved_to, resized_to, with_shown}
use Rattle.scene.specs.Stacks.{has_ancestors}
use Rattle.scene.proofs.CallerLemmas.{bare}
use Rattle.calls.specs.declared.call.Call.{Call}
use Rattle.calls.specs.declared.call.Call.TheVariants as call
use Rattle.calls.specs.declared.reply.Refusal.TheVariants.{NoWindow, Desktop, TooManyWindows, TooDeep}
use Rattle.invalidate.specs.Invalidation.{on_screen}
use Rattle.desk.specs.declared.changes.Change.{Change}
use Rattle.desk.specs.declared.changes.Change.TheVariants.{Delete, MoveTo, MoveBy, Resize, Show, Hide, ToTop, ToBottom, SetClass, SetTrans}
use Rattle.desk.specs.Windows.{moved_by, with_class, are_as_they_were, clip_at, listed, after_change, with_invalid_window, with_invalid_rect, with_trans}
use Rattle.desk.specs.Changes.{list_after}
use Rattle.desk.specs.Desks.{Objection, no_window, too_deep, bad_size, no_class, unchangeable, objections, no_value}
use Rattle.desk.proofs.IgnoreLemmas.{bare_invalidated, areas_bare}
use Rattle.desk.proofs.ShapeLemmas.{Keeps, window_of-map, has_ancestors-map, without_family-map, raised-map, lowered-map, changed-map, window_changed-map}

pub keeps_bare : Keeps bare
keeps_bare = record { handle = λ w. refl; parent = λ w. refl }

-- ---- what is made invalid

pub bare_after_change : (screen : Rect) (h : ℕ) (ws now : List Win) → map bare (after_change screen h ws now) ≡ map bare now
bare_after_change screen h ws now =
    elim (cases_Bool (are_as_they_were ws now)) [
      | inl same ↦ rw same refl
      | inr other ↦ rw other (areas_bare (clip_in screen now) (listed (clip_at screen ws h) ++ listed (clip_at screen now h)) now)
    ]

pub bare_window : (screen : Rect) (h : ℕ) (ws : List Win) → map bare (with_invalid_window screen h ws) ≡ map bare ws
bare_window screen h ws = changed-map bare _ h ws (λ w. bare_invalidated (clip_in screen ws w) (clip_in screen ws w) w)

pub bare_rect : (screen : Rect) (h : ℕ) (local : Rect) (ws : List Win) → map bare (with_invalid_rect screen h local ws) ≡ map bare ws
bare_rect screen h local ws = changed-map bare _ h ws (λ w. bare_invalidated (clip_in screen ws w) (on_screen ws w local) w)

-- ---- what changes do

pub listed_bare : (h : ℕ) (change : Change) (ws : List Win) → list_after h change (map bare ws) ≡ map bare (list_after h change ws)
listed_bare h Delete ws = without_family-map bare keeps_bare h ws
listed_bare h (MoveTo x y) ws = window_changed-map bare (moved_to x y) keeps_bare h ws (λ w. refl)
listed_bare h (MoveBy dx dy) ws = window_changed-map bare (moved_by dx dy) keeps_bare h ws (λ w. refl)
listed_bare h (Resize width height) ws = window_changed-map bare (resized_to width height) keeps_bare h ws (λ w. refl)
listed_bare h Show ws = window_changed-map bare (with_shown true) keeps_bare h ws (λ w. refl)
listed_bare h Hide ws = window_changed-map bare (with_shown false) keeps_bare h ws (λ w. refl)
listed_bare h ToTop ws = raised-map bare keeps_bare h ws
listed_bare h ToBottom ws = lowered-map bare keeps_bare h ws
listed_bare h (SetClass class) ws = window_changed-map bare (with_class class) keeps_bare h ws (λ w. refl)
listed_bare h (SetTrans trans) ws = window_changed-map bare (with_trans trans) keeps_bare h ws (λ w. refl)

-- ---- what is held against calls

is_some-map : (f : Win → Win) (o : Option Win) → is_some (option_map f o) ≡ is_some o
is_some-map f None = refl
is_some-map f (Some w) = refl

no_window-bare : (ws : List Win) (h : ℕ) → no_window (map bare ws) h ≡ no_window ws h
no_window-bare ws h = ap (λ (b : Bool). (not b, NoWindow h)) (ap is_some (window_of-map bare keeps_bare ws h) ∙ is_some-map bare (window_of ws h))

deep-some : (us ws : List Win) (o : Option Win) → ((w : Win) → has_ancestors 7 us (bare w) ≡ has_ancestors 7 ws w) → option_map_or (has_ancestors 7 us) (option_map bare o) false ≡ option_map_or (has_ancestors 7 ws) o false
deep-some us ws None same = refl
deep-some us ws (Some w) same = same w

too_deep-bare : (ws : List Win) (h : ℕ) → too_deep (map bare ws) h ≡ too_deep ws h
too_deep-bare ws h =
    ap (λ (b : Bool). (b, TooDeep))
    (ap (λ (o : Option Win). option_map_or (has_ancestors 7 (map bare ws)) o false) (window_of-map bare keeps_bare ws h) ∙ deep-some (map bare ws) ws (window_of ws h) (has_ancestors-map bare keeps_bare 7 ws))

unchangeable-bare : (ws : List Win) (h : ℕ) → unchangeable (map bare ws) h ≡ unchangeable ws h
unchangeable-bare ws h = ap (λ (o : Objection). o ∷ (h == 1, Desktop) ∷ []) (no_window-bare ws h)

pub objections-bare : (classes : ℕ) (ws : List Win) (c : Call) → objections classes (map bare ws) c ≡ objections classes ws c
objections-bare classes ws (call.Create parent x y w h class) =
    ap (λ (o : Objection). o ∷ too_deep (map bare ws) parent ∷ bad_size w h ∷ no_class classes class ∷ (nat_le 256 (length (map bare ws)), TooManyWindows) ∷ []) (no_window-bare ws parent)
    ∙ ap (λ (o : Objection). no_window ws parent ∷ o ∷ bad_size w h ∷ no_class classes class ∷ (nat_le 256 (length (map bare ws)), TooManyWindows) ∷ []) (too_deep-bare ws parent)
    ∙ ap (λ (n : ℕ). no_window ws parent ∷ too_deep ws parent ∷ bad_size w h ∷ no_class classes class ∷ (nat_le 256 n, TooManyWindows) ∷ []) (length-map ws bare)
objections-bare classes ws (call.Delete h) = unchangeable-bare ws h
objections-bare classes ws (call.MoveTo h x y) = unchangeable-bare ws h
objections-bare classes ws (call.MoveBy h dx dy) = unchangeable-bare ws h
objections-bare classes ws (call.Resize h width height) = ap (λ (os : List Objection). os ++ bad_size width height ∷ []) (unchangeable-bare ws h)
objections-bare classes ws (call.Show h) = unchangeable-bare ws h
objections-bare classes ws (call.Hide h) = unchangeable-bare ws h
objections-bare classes ws (call.ToTop h) = unchangeable-bare ws h
objections-bare classes ws (call.ToBottom h) = unchangeable-bare ws h
objections-bare classes ws (call.SetClass h class) = ap (λ (os : List Objection). os ++ no_class classes class ∷ []) (unchangeable-bare ws h)
objections-bare classes ws (call.SetTrans h trans) = unchangeable-bare ws h
objections-bare classes ws (call.SetMemdev h memdev) = ap (λ (o : Objection). o ∷ []) (no_window-bare ws h)
objections-bare classes ws (call.SetValue h index value) = ap (λ (o : Objection). o ∷ no_value index ∷ []) (no_window-bare ws h)
objections-bare classes ws (call.Send h message argument) = ap (λ (o : Objection). o ∷ []) (no_window-bare ws h)
objections-bare classes ws (call.Invalidate h) = ap (λ (o : Objection). o ∷ []) (no_window-bare ws h)
objections-bare classes ws (call.InvalidateRect h x0 y0 x1 y1) = ap (λ (o : Objection). o ∷ []) (no_window-bare ws h)
objections-bare classes ws (call.InvalidateArea x0 y0 x1 y1) = refl
objections-bare classes ws call.Exec = refl
objections-bare classes ws call.Exec1 = refl
objections-bare classes ws call.Scan = refl
objections-bare classes ws c = refl
