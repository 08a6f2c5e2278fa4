-- Areas that are made invalid after a call on the tree.
use Rattle.std.proofs.Common.{◌≡◌, ℕ, ◌+◌, ◌≤◌, Bool, false, cond, List, [], ◌∷◌, ◌++◌, map, Option, refl, sym, ap, subst, ◌∙◌}
use Rattle.gfx_base.specs.declared.rect.Rect.{Rect}
use Rattle.paint_ops.specs.Kinds.{Assets}
use Rattle.scene.specs.declared.win.Win.{Win}
use Rattle.scene.specs.Clips.{clip_in}
use Rattle.scene.specs.Damage.{area_invalidated, areas_invalidated}
use Rattle.scene.specs.Painting.{Looks}
use Rattle.scene.specs.Stacks.{IsStack, AreGiven}
use Rattle.scene.proofs.CallerLemmas.{bare, looks-same}
use Rattle.invalidate.proofs.CallerLemmas.{area_valid}
use Rattle.win_tree.specs.Trees.{Scene}
use Rattle.desk.specs.Windows.{are_as_they_were, clip_at, listed, after_change}
use Rattle.desk.proofs.CallerLemmas.{all-same, ignores_given, areas_bare}

pub areas_valid : (clip : Win → Rect) (areas : List Rect) (ws : List Win) → IsStack ws → IsStack (areas_invalidated clip areas ws)
areas_valid clip [] ws stack = stack
areas_valid clip (area ∷ areas) ws stack = areas_valid clip areas (area_invalidated clip area ws) (area_valid clip area ws stack)

areas-append : (clip : Win → Rect) (first second : List Rect) (ws : List Win) → areas_invalidated clip (first ++ second) ws ≡ areas_invalidated clip second (areas_invalidated clip first ws)
areas-append clip [] second ws = refl
areas-append clip (area ∷ first) second ws = areas-append clip first second (area_invalidated clip area ws)

-- windows that differ in what is invalid alone have the same clips
pub clips_bare : (screen : Rect) (ws vs : List Win) → map bare vs ≡ map bare ws → clip_in screen vs ≡ clip_in screen ws
clips_bare screen ws vs e =
    let none : Assets = record { classes = []; fonts = []; bitmaps = []; strings = [] } in
    ap (λ (looks : Looks). looks.clip) (looks-same none screen ws vs e)

-- What the steps after a call on the tree come to: the list as it was, the tree's order, and this with the old clip invalid, and the new one.
pub record AreSteps (screen : Rect) (h : ℕ) (old order taken first second : List Win) (before now : Option Rect) : Type 0 where
  pub taken_is : taken ≡ order
  pub before_is : before ≡ clip_at screen old h
  pub now_is : now ≡ clip_at screen taken h
  pub first_is : first ≡ areas_invalidated (clip_in screen taken) (listed before) taken
  pub second_is : second ≡ areas_invalidated (clip_in screen first) (listed now) first

pub steps_follow : (screen : Rect) (h : ℕ) (old order taken first second : List Win) (before now : Option Rect) → AreSteps screen h old order taken first second before now → are_as_they_were old order ≡ false → second ≡ after_change screen h old order
steps_follow screen h old order taken first second before now s other =
    let bare_first : map bare first ≡ map bare taken = ap (map bare) s.first_is ∙ areas_bare (clip_in screen taken) (listed before) taken in
    s.second_is
    ∙ ap (λ (clip : Win → Rect). areas_invalidated clip (listed now) first) (clips_bare screen taken first bare_first)
    ∙ ap (areas_invalidated (clip_in screen taken) (listed now)) s.first_is
    ∙ sym (areas-append (clip_in screen taken) (listed before) (listed now) taken)
    ∙ ap (λ (o : Option Rect). areas_invalidated (clip_in screen taken) (listed o ++ listed now) taken) s.before_is
    ∙ ap (λ (o : Option Rect). areas_invalidated (clip_in screen taken) (listed (clip_at screen old h) ++ listed o) taken) s.now_is
    ∙ ap (λ (us : List Win). areas_invalidated (clip_in screen us) (listed (clip_at screen old h) ++ listed (clip_at screen us h)) us) s.taken_is
    ∙ ap (λ (b : Bool). cond b order (areas_invalidated (clip_in screen order) (listed (clip_at screen old h) ++ listed (clip_at screen order h)) order)) (sym other)

pub bare_steps : (screen : Rect) (h : ℕ) (old order taken first second : List Win) (before now : Option Rect) → AreSteps screen h old order taken first second before now → map bare second ≡ map bare order
bare_steps screen h old order taken first second before now s =
    ap (map bare) s.second_is ∙ areas_bare (clip_in screen first) (listed now) first ∙ ap (map bare) s.first_is ∙ areas_bare (clip_in screen taken) (listed before) taken ∙ ap (map bare) s.taken_is

pub stack_steps : (screen : Rect) (h : ℕ) (old order taken first second : List Win) (before now : Option Rect) → AreSteps screen h old order taken first second before now → IsStack order → IsStack second
stack_steps screen h old order taken first second before now s stack =
    subst IsStack (sym s.second_is)
    (areas_valid (clip_in screen first) (listed now) first
    (subst IsStack (sym s.first_is) (areas_valid (clip_in screen taken) (listed before) taken (subst IsStack (sym s.taken_is) stack))))

pub given_bare : (handles : ℕ) (ws vs : List Win) → map bare vs ≡ map bare ws → AreGiven handles ws → AreGiven handles vs
given_bare handles ws vs e given = all-same (λ w. w.handle ≤ handles) ws vs (ignores_given handles) e given

-- ---- what is kept then

scene_is : (a b : List Win) (m n : ℕ) → a ≡ b → m ≡ n → ◌≡◌ {A = Scene} (record { windows = a; handles = m }) (record { windows = b; handles = n })
scene_is a b m n e f = rw (e, f) refl

-- a call made the tree's list another one, which was followed
pub changed_is : (screen : Rect) (h : ℕ) (change : List Win → List Win) (old tree made end : Scene) (stack now : List Win) → made ≡ record tree { windows = change tree.windows } → now ≡ after_change screen h stack made.windows → end ≡ record made { windows = now } → tree.windows ≡ stack
    → ◌≡◌ {A = Scene} (record { windows = stack; handles = tree.handles }) old → ◌≡◌ {A = Scene} (record { windows = now; handles = end.handles }) (record old { windows = after_change screen h old.windows (change old.windows) })
changed_is screen h change old tree made end stack now is follows ends same view =
    scene_is now (after_change screen h old.windows (change old.windows)) end.handles old.handles
    (follows ∙ ap (λ (s : Scene). after_change screen h stack s.windows) is ∙ ap (λ (ws : List Win). after_change screen h stack (change ws)) same ∙ ap (λ (s : Scene). after_change screen h s.windows (change s.windows)) view)
    (ap (λ (s : Scene). s.handles) ends ∙ ap (λ (s : Scene). s.handles) is ∙ ap (λ (s : Scene). s.handles) view)

-- the same with a new handle
pub created_is : (screen : Rect) (change : ℕ → List Win → List Win) (old tree made end : Scene) (stack now : List Win) (handle : ℕ) → handle ≡ tree.handles + 1 → made ≡ record { windows = change handle tree.windows; handles = handle } → now ≡ after_change screen handle stack made.windows
    → end ≡ record made { windows = now } → tree.windows ≡ stack → ◌≡◌ {A = Scene} (record { windows = stack; handles = tree.handles }) old
    → ◌≡◌ {A = Scene} (record { windows = now; handles = end.handles }) (record { windows = after_change screen (old.handles + 1) old.windows (change (old.handles + 1) old.windows); handles = old.handles + 1 })
created_is screen change old tree made end stack now handle next is follows ends same view =
    scene_is now (after_change screen (old.handles + 1) old.windows (change (old.handles + 1) old.windows)) end.handles (old.handles + 1)
    (follows
    ∙ ap (λ (s : Scene). after_change screen handle stack s.windows) is
    ∙ ap (λ (ws : List Win). after_change screen handle stack (change handle ws)) same
    ∙ ap (λ (n : ℕ). after_change screen n stack (change n stack)) next
    ∙ ap (λ (s : Scene). after_change screen (s.handles + 1) s.windows (change (s.handles + 1) s.windows)) view)
    (ap (λ (s : Scene). s.handles) ends ∙ ap (λ (s : Scene). s.handles) is ∙ next ∙ ap (λ (s : Scene). s.handles + 1) view)
