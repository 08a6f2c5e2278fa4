use Rattle.std.proofs.Common.{◌≡◌, ◌<◌, ◌+◌, ◌*◌, length, take, get_or, refl, arith}
use Rattle.std.proofs.lemmas.List.{take_more}
use Rattle.hextile.specs.declared.sub.Sub.{Sub}
use Rattle.hextile.proofs.StepLemmas.{painted_start, painted_step, within_at, sides_at}
use Rattle.hextile.proofs.painting.paint.Goals as goal

none : Sub
none = record { value = 0; x = 0; y = 0; width = 0; height = 0 }

pub loop-s-init : goal.loop-s-init
loop-s-init c = record { so_far = painted_start c.args.width (length c.args.points.now) c.args.background c.fill.new.self (c.fill.ensures.after (λ v same. same)) }

pub clear-requires-clause-within : goal.clear-requires-clause-within
unfolding none
clear-requires-clause-within c =
    let lt : c.loop-s.s-index < length c.args.subs.now = omega arith in
    let s = get_or c.args.subs.now c.loop-s.s-index none in
    let place : c.from.result * c.args.width + c.from-in-loop-s.result ≡ s.y * c.args.width + s.x = rw (c.from.ensures, c.from-in-loop-s.ensures) refl in
    within_at c.args.width (length c.args.points.now) (length c.loop-s.points) (c.from.result * c.args.width + c.from-in-loop-s.result) c.from-across.result c.from-down.result s c.requires.tile (c.requires.inside c.loop-s.s-index none lt) (omega arith) c.from-across.ensures c.from-down.ensures place

pub clear-requires-clause-sides : goal.clear-requires-clause-sides
unfolding none
clear-requires-clause-sides c =
    let lt : c.loop-s.s-index < length c.args.subs.now = omega arith in
    let s = get_or c.args.subs.now c.loop-s.s-index none in
    let place : c.from.result * c.args.width + c.from-in-loop-s.result ≡ s.y * c.args.width + s.x = rw (c.from.ensures, c.from-in-loop-s.ensures) refl in
    sides_at c.args.width (length c.args.points.now) (c.from.result * c.args.width + c.from-in-loop-s.result) c.from-down.result s c.requires.tile (c.requires.inside c.loop-s.s-index none lt) c.from-down.ensures place

pub loop-s-preserved : goal.loop-s-preserved
unfolding none
loop-s-preserved c =
    let i = c.loop-s.s-index in
    let w = c.args.width in
    let n = length c.args.points.now in
    let back = c.args.background in
    let lt : i < length c.args.subs.now = omega arith in
    let s = get_or c.args.subs.now i none in
    let at = c.from.result * w + c.from-in-loop-s.result in
    let place : at ≡ s.y * w + s.x = rw (c.from.ensures, c.from-in-loop-s.ensures) refl in
    let is = c.requires.inside i none lt in
    let long : length c.loop-s.points ≡ n = omega arith in
    let within = within_at w n (length c.loop-s.points) at s.width s.height s c.requires.tile is long refl refl place in
    let wiped = rw (c.from-across.ensures, c.from-down.ensures) at c.clear.ensures.value in
    let more = painted_step w n back at c.loop-s.points c.clear.new.points (take i c.args.subs.now) s is.across place within long wiped c.loop-s.invariant.so_far in
    record { so_far = rw (take_more c.args.subs.now i none lt) more }
