-- Windows of rising handles.
use Rattle.std.proofs.Common.{suc, ◌<◌, ◌≤◌, List, [], ◌∷◌, All, AllPairs, arith}
use Rattle.std.proofs.lemmas.List.Elements.{recursion_from_All}
use Rattle.scene.specs.declared.win.Win.{Win}
use Rattle.scene.specs.Places.{AreSingle}
use Rattle.scene.proofs.CallerLemmas.{AreSingle-rising}

-- no handle stands twice where each is above those before it
pub AreSingle-pairs : (ws : List Win) → AllPairs (λ v w. v.handle < w.handle) ws → AreSingle ws
AreSingle-pairs [] pairs = λ handle. omega arith
AreSingle-pairs (w ∷ ws) pairs =
    let above : All (λ v. suc w.handle ≤ v.handle) ws =
    λ k d within. pairs 0 (suc k) d (omega arith) (omega arith) in
    let rest : AllPairs (λ u v. u.handle < v.handle) ws =
    λ i j d less within. pairs (suc i) (suc j) d (omega arith) (omega arith) in
    let low = recursion_from_All _ ws above in
    (AreSingle-rising (suc w.handle) w ws (omega arith) low (AreSingle-pairs ws rest)).1
