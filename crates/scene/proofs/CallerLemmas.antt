-- The lemmas on windows that proofs of other crates may cite.
use Rattle.std.proofs.Common.{◌≡◌, ℕ, List, [], ◌∷◌, ◌++◌, refl}
use Rattle.gfx_base.specs.declared.point.Point.{Point}
use Rattle.scene.specs.declared.win.Win.{Win}
use Rattle.scene.specs.Painting.{Looks, painted_over}
pub use Rattle.scene.proofs.PlaceLemmas.{place_at-same, AreSingle-same, AreSingle-rising, clips-same, has-clip_in}
pub use Rattle.scene.proofs.PainterLemmas.{all-at, all-push, drawn_over, drawn_by, operations-more, over, windows-here, windows-away, corner_near}
pub use Rattle.scene.proofs.VisibleLemmas.{windows_seeing-visible, is_damaged-visible, in_patch_at-get, in_patch_at-parts, painted-visible}
pub use Rattle.scene.proofs.BareLemmas.{bare, places-same, looks-same, length-same, bare-area, bare-parts, painted-same, is_damaged-job, painted-job}
pub use Rattle.scene.proofs.FollowLemmas.{DamageCovers-same, DamageCovers-then}
pub use Rattle.scene.proofs.TreeLemmas.{below-away}
pub use Rattle.scene.proofs.AreaLemmas.{places-area, AreasCover-areas}
pub use Rattle.scene.proofs.ChangeLemmas.{AreasCover-away, AreasCover-adds, AreasCover-takes, AreasCover-changes, AreasCover-reorders, DamageCovers-alone, clips_have-found}
pub use Rattle.scene.proofs.ListLemmas.{Adds-midst, Adds-last, Changes-midst, TakesAway-filter, Reorders-top}
pub use Rattle.scene.proofs.AncestorLemmas.{LieAlike, lie_alike, has-parent_clip}
pub use Rattle.scene.proofs.PathLemmas.{window_of-single}
pub use Rattle.scene.proofs.StackLemmas.{FindsBack, FindsBack-same, shallow_back, AreFound, all_found, desktops, mapped_valid, mapped_given, changed_valid, set_is_changed}
pub use Rattle.scene.proofs.PainterLemmas.{one_more_place}

-- what windows leave and then others is what all leave
pub painted_over-append : (looks : Looks) (p : Point) (behind : ℕ) (ws vs : List Win) → painted_over looks p behind (ws ++ vs) ≡ painted_over looks p (painted_over looks p behind ws) vs
painted_over-append looks p behind [] vs = refl
painted_over-append looks p behind (w ∷ ws) vs = painted_over-append looks p (looks.paint w p behind) ws vs
