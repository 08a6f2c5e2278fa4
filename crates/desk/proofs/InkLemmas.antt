-- Work of tasks: why it is refused, and what it leaves of the picture.
use Rattle.std.proofs.Common.{◌≡◌, ℕ, ◌<◌, pos, true, false, List, [], ◌∷◌, ◌++◌, Option, Some, None, refl, sym, ap, ◌∙◌}
use Rattle.std.specs.Option.{option_map_or}
use Rattle.gfx_base.specs.Rects.{point_at}
use Rattle.frame.specs.Pictures.{Picture, colour_at}
use Rattle.frame.proofs.CallerLemmas.{colour_at-changed}
use Rattle.context.specs.declared.context.Context.{Context}
use Rattle.scene.specs.declared.win.Win.{Win}
use Rattle.scene.specs.Painting.{Looks}
use Rattle.strokes.specs.Strokes.{Ink, puts_down, stroked}
use Rattle.calls.specs.declared.reply.Refusal.{Refusal}
use Rattle.desk.specs.Drawing.{selected, with_ink, after_ink, ink_puts}
use Rattle.desk.specs.Desks.{Objection, refusal_of}
use Rattle.desk.proofs.EffectLemmas.{not_refused}
use Rattle.desk.proofs.PictureLemmas.{IsPictured, pictured_changed}

-- ---- refusals

-- where nothing is held against a call so far, what is said next counts
pub refused_next : (first rest : List Objection) → refusal_of first ≡ None → refusal_of (first ++ rest) ≡ refusal_of rest
refused_next [] rest fine = refl
refused_next (objection ∷ first) rest fine =
    let passed = not_refused objection.0 objection.1 (refusal_of first) fine in
    rw passed.0 (refused_next first rest passed.1)

-- and else the first reason does
pub refused_before : (first rest : List Objection) (why : Refusal) → refusal_of first ≡ Some why → refusal_of (first ++ rest) ≡ Some why
refused_before [] rest why e = absurd cc
refused_before ((true, reason) ∷ first) rest why e = e
refused_before ((false, reason) ∷ first) rest why e = refused_before first rest why e

-- ---- the picture

pub ink_at : (looks : Looks) (ws : List Win) (c : Context) (ink : Ink) (p : Picture) (at : ℕ) → selected ws c ≡ Some at → stroked looks ws at ink p ≡ with_ink looks ws c ink p
ink_at looks ws c ink p at is = sym (ap (λ (o : Option ℕ). option_map_or (λ which. stroked looks ws which ink p) o p) is)

width_at : (looks : Looks) (ws : List Win) (ink : Ink) (o : Option ℕ) (p : Picture) → (option_map_or (λ which. stroked looks ws which ink p) o p).width ≡ p.width
width_at looks ws ink None p = refl
width_at looks ws ink (Some at) p = refl

height_at : (looks : Looks) (ws : List Win) (ink : Ink) (o : Option ℕ) (p : Picture) → (option_map_or (λ which. stroked looks ws which ink p) o p).height ≡ p.height
height_at looks ws ink None p = refl
height_at looks ws ink (Some at) p = refl

pub width-ink : (looks : Looks) (ws : List Win) (c : Context) (o : Option Ink) (p : Picture) → (after_ink looks ws c o p).width ≡ p.width
width-ink looks ws c None p = refl
width-ink looks ws c (Some ink) p = width_at looks ws ink (selected ws c) p

pub height-ink : (looks : Looks) (ws : List Win) (c : Context) (o : Option Ink) (p : Picture) → (after_ink looks ws c o p).height ≡ p.height
height-ink looks ws c None p = refl
height-ink looks ws c (Some ink) p = height_at looks ws ink (selected ws c) p

pictured_at : (w h : ℕ) (looks : Looks) (ws : List Win) (ink : Ink) (o : Option ℕ) (p : Picture) → IsPictured w h p → IsPictured w h (option_map_or (λ which. stroked looks ws which ink p) o p)
pictured_at w h looks ws ink None p is = is
pictured_at w h looks ws ink (Some at) p is = pictured_changed w h _ _ p is

pub pictured_ink : (w h : ℕ) (looks : Looks) (ws : List Win) (c : Context) (o : Option Ink) (p : Picture) → IsPictured w h p → IsPictured w h (after_ink looks ws c o p)
pictured_ink w h looks ws c None p is = is
pictured_ink w h looks ws c (Some ink) p is = pictured_at w h looks ws ink (selected ws c) p is

stays_at : (looks : Looks) (ws : List Win) (ink : Ink) (o : Option ℕ) (p : Picture) (x y : ℕ) → x < p.width → y < p.height → option_map_or (λ which. puts_down looks ws which ink (point_at (pos x) (pos y))) o false ≡ false
    → colour_at (option_map_or (λ which. stroked looks ws which ink p) o p) x y ≡ colour_at p x y
stays_at looks ws ink None p x y x_in y_in not_put = refl
stays_at looks ws ink (Some at) p x y x_in y_in not_put =
    colour_at-changed p (λ u v. puts_down looks ws at ink (point_at (pos u) (pos v))) _ x y x_in y_in ∙ rw not_put refl

-- a point that isn't put down stays
pub stays_beside : (looks : Looks) (ws : List Win) (c : Context) (o : Option Ink) (p : Picture) (x y : ℕ) → x < p.width → y < p.height → ink_puts looks ws c o (point_at (pos x) (pos y)) ≡ false → colour_at (after_ink looks ws c o p) x y ≡ colour_at p x y
stays_beside looks ws c None p x y x_in y_in not_put = refl
stays_beside looks ws c (Some ink) p x y x_in y_in not_put = stays_at looks ws ink (selected ws c) p x y x_in y_in not_put
