use Rattle.std.proofs.Common.{◌+◌, length, sym, ap, subst, ◌∙◌, arith, length-append}
use Rattle.scene.specs.Places.{place_of, place_at}
use Rattle.scene.specs.Paths.{IsSettled}
use Rattle.scene.proofs.PathLemmas.{AreOnLevels-push, IsSettled-within, FitsLevels-more}
use Rattle.scene.proofs.ancestors.add.Goals as goal

pub spot_within-spot-requires : goal.spot_within-spot-requires
spot_within-spot-requires c = FitsLevels-more _ 7 _ (omega (arith, c.requires.room)) c.requires.outer.fits

-- the window is settled a level below the path's last one
settled : (c : goal.After-push) → IsSettled (place_at c.args.stack.now) c.args.screen.now (length c.args.path.now.items + 1) (place_of c.args.w.now) c.spot_within-spot.result
settled c =
    let level = length c.args.path.now.items in
    IsSettled-within (place_at c.args.stack.now) c.args.screen.now level (place_of c.args.w.now) c.args.outer.now c.spot_within-spot.result
    c.requires.outer c.spot_within-spot.ensures.corner (c.spot_within-spot.ensures.fits level c.requires.outer.fits) c.spot_within-spot.ensures.clip

pub returns-clause-path : goal.returns-clause-path
returns-clause-path c =
    rw c.push.ensures.items
    (AreOnLevels-push (place_at c.args.stack.now) c.args.screen.now 1 c.args.path.now.items _ c.requires.path (record { place = place_of c.args.w.now; is_found = c.requires.known; settled = settled c }))

pub returns-clause-spot : goal.returns-clause-spot
returns-clause-spot c =
    let long = ap length c.push.ensures.items ∙ length-append c.args.path.now.items _ in
    subst (λ n. IsSettled (place_at c.args.stack.now) c.args.screen.now n (place_of c.args.w.now) c.spot_within-spot.result) (sym long) (settled c)
