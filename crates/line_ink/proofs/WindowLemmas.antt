-- The steps of a course whose points lie in a clip.
use Rattle.std.proofs.Common.{◌≡◌, ◌↔◌, ℕ, ◌+◌, ◌-◌, ◌<◌, ◌≤◌, zero, suc, min, max, ℤ, pos, ◌+ℤ◌, ◌<ℤ◌, ◌≤ℤ◌, Bool, true, false, IsTrue, [], ◌∷◌, map, refl, sym, ap, inl, inr, ◌∙◌, arith}
use Rattle.std.specs.Prelude.{filter, fold, ◌&&◌}
use Rattle.std.proofs.lemmas.List.FromFn.{map-range_with_len_more}
use Rattle.std.proofs.lemmas.List.Sums.{fold-append}
use Rattle.gfx_base.specs.declared.point.Point.{Point}
use Rattle.std.specs.List.{range_with_len}
use Rattle.std.proofs.lemmas.Bool.{cases_Bool, cases_lt, and_parts, and_from, false≢true}
use Rattle.std.proofs.lemmas.Int.{ints, by_lt_z}
use Rattle.gfx_base.specs.declared.rect.Rect.{Rect}
use Rattle.gfx_base.specs.Range.{is_within}
use Rattle.gfx_base.specs.Rects.{point_at, has}
use Rattle.line_ink.specs.declared.course.Course.{Course}
use Rattle.line_ink.specs.Lines.{clipped}
use Rattle.line_ink.specs.Courses.{offset, across, turned, turned_rect, place, points_of_course}
use Rattle.line_ink.proofs.CourseLemmas.{within_parts}

-- ---- a filter that keeps a range of places

module _ {X : Type 0} (p : X → Bool) (f : ℕ → X) where
  filter-window : (a n from to first count : ℕ) → ((i : ℕ) → a ≤ i → i < a + n → IsTrue (p (f i)) ↔ ((from ≤ i) × (i < to))) → first ≡ max a from → count ≡ min (a + n) to - max a from → filter p (map f (range_with_len a n)) ≡ map f (range_with_len first count)
  filter-window a zero from to first count h e g = let none : count ≡ 0 = omega arith in rw none refl
  filter-window a (suc n) from to first count h e g =
      let rest : (i : ℕ) → a + 1 ≤ i → i < (a + 1) + n → IsTrue (p (f i)) ↔ ((from ≤ i) × (i < to)) = λ i low high. h i (omega arith) (omega arith) in
      let here = h a (omega arith) (omega arith) in
      elim (cases_Bool (p (f a))) [
        | inl on ↦
            let at = here.0 on in
            let one : first ≡ a = omega (arith, at.0, at.1) in
            let more : count ≡ suc (count - 1) = omega (arith, at.0, at.1) in
            rw (on, one, more) (ap (λ xs. f a ∷ xs) (filter-window (a + 1) n from to (a + 1) (count - 1) rest (omega (arith, at.0)) (omega (arith, at.0, at.1))))
        | inr off ↦
            rw off (elim (cases_lt a from) [
              | inl lt ↦ filter-window (a + 1) n from to first count rest (omega arith) (omega arith)
              | inr ge ↦ elim (cases_lt a to) [
                | inl lt ↦ absurd (false≢true (sym off ∙ here.1 (ge, lt)))
                | inr out ↦
                    let none : count ≡ 0 = omega arith in
                    rw none (filter-window (a + 1) n from to (max (a + 1) from) 0 rest refl (omega arith))
              ]
            ])
      ]

pub clipped-course : (clip : Rect) (c : Course) (from to : ℕ) → to ≤ c.steps + 1 → ((i : ℕ) → i ≤ c.steps → IsTrue (has clip (place c i)) ↔ ((from ≤ i) × (i < to))) → clipped clip (points_of_course c) ≡ map (place c) (range_with_len from (to - from))
unfolding points_of_course
clipped-course clip c from to most h = filter-window (has clip) (place c) 0 (c.steps + 1) from to from (to - from) (λ i low high. h i (omega arith)) (omega arith) (omega arith)

-- one point more
pub fold-step : {S : Type 0} (after : S → Point → S) (c : Course) (first state : S) (from i : ℕ) → from ≤ i → state ≡ fold after first (map (place c) (range_with_len from (i - from))) → after state (place c i) ≡ fold after first (map (place c) (range_with_len from (i + 1 - from)))
fold-step after c first state from i le h =
    let count : i + 1 - from ≡ (i - from) + 1 = omega arith in
    let points = map (place c) (range_with_len from (i - from)) in
    rw count (ap (λ s. after s (place c i)) h ∙ sym (ap (fold after first) (map-range_with_len_more (place c) from (i - from) i (omega arith)) ∙ fold-append after first points (place c i ∷ [])))

-- ---- the steps in the clip

has-turned : (s : Bool) (clip : Rect) (x y : ℤ) → has clip (turned s (point_at x y)) ≡ (is_within (turned_rect s clip).x0 (turned_rect s clip).x1 x && is_within (turned_rect s clip).y0 (turned_rect s clip).y1 y)
unfolding has
has-turned false clip x y = refl
has-turned true clip x y = elim (is_within clip.x0 clip.x1 y) as (λ b. (b && is_within clip.y0 clip.y1 x) ≡ (is_within clip.y0 clip.y1 x && b)) [ true ↦ elim (is_within clip.y0 clip.y1 x) as (λ d. d ≡ (d && true)) [ true ↦ refl | false ↦ refl ] | false ↦ elim (is_within clip.y0 clip.y1 x) as (λ d. false ≡ (d && false)) [ true ↦ refl | false ↦ refl ] ]

-- a step lies in the window where its coordinate along the axis does and its offset does
pub window-steps : (c : Course) (clip flat : Rect) (i left right low high from to : ℕ) (top bottom near far left_edge right_edge below above : ℤ)
    → flat ≡ turned_rect c.is_steep clip
    → top ≡ flat.y0 → bottom ≡ flat.y1
    → ((k : ℕ) → IsTrue (is_within top bottom (across c k)) ↔ ((near ≤ℤ pos k) × (pos k ≤ℤ far)))
    → ((i < left) ↔ ((c.first.x +ℤ pos i) <ℤ left_edge)) → left_edge ≡ flat.x0
    → ((i < right) ↔ ((c.first.x +ℤ pos i) <ℤ right_edge)) → right_edge ≡ flat.x1 +ℤ pos 1
    → ((i < low) ↔ (pos (offset c i) <ℤ below)) → below ≡ near
    → ((i < high) ↔ (pos (offset c i) <ℤ above)) → above ≡ far +ℤ pos 1
    → from ≡ max left low → to ≡ min right high
    → IsTrue (has clip (place c i)) ↔ ((from ≤ i) × (i < to))
unfolding place
window-steps c clip flat i left right low high from to top bottom near far left_edge right_edge below above e te be o l le r re n ne f fe m k =
    let x = c.first.x +ℤ pos i in
    let y = across c (offset c i) in
    let is : has clip (turned c.is_steep (point_at x y)) ≡ (is_within flat.x0 flat.x1 x && is_within top bottom y) = rw (te, be, e) (has-turned c.is_steep clip x y) in
    let along = within_parts flat.x0 flat.x1 x in
    let beside = o (offset c i) in (
      λ h.
          let parts = and_parts (is_within flat.x0 flat.x1 x) (is_within top bottom y) (sym is ∙ h) in
          let xs = along.0 parts.0 in
          let ys = beside.0 parts.1 in
          let after_left : left ≤ i = elim (cases_lt i left) [ inl lt ↦ absurd (omega (arith, ints, l.0 lt, xs.0)) | inr ge ↦ ge ] in
          let after_low : low ≤ i = elim (cases_lt i low) [ inl lt ↦ absurd (omega (arith, ints, n.0 lt, ys.0)) | inr ge ↦ ge ] in
          let before_right : i < right = r.1 (omega (arith, ints, xs.1)) in
          let before_high : i < high = f.1 (omega (arith, ints, ys.1)) in
          (omega arith, omega arith),
      λ h.
          let late : (left ≤ i) × (low ≤ i) = (omega (arith, h.0), omega (arith, h.0)) in
          let early : (i < right) × (i < high) = (omega (arith, h.1), omega (arith, h.1)) in
          let after_left : flat.x0 ≤ℤ x = by_lt_z x left_edge (λ lt. absurd (omega (arith, l.1 lt, late.0))) (λ ge. omega (arith, ints, ge)) in
          let after_near : near ≤ℤ pos (offset c i) = by_lt_z (pos (offset c i)) below (λ lt. absurd (omega (arith, n.1 lt, late.1))) (λ ge. omega (arith, ints, ge)) in
          let before_right : x ≤ℤ flat.x1 = omega (arith, ints, r.0 early.0) in
          let before_far : pos (offset c i) ≤ℤ far = omega (arith, ints, f.0 early.1) in
          is ∙ and_from (is_within flat.x0 flat.x1 x) (is_within top bottom y) (along.1 (after_left, before_right)) (beside.1 (after_near, before_far)),
    )
