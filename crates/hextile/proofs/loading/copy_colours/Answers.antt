use Rattle.std.proofs.Common.{◌+◌, ◌-◌, ◌<◌, ◌≤◌, length, refl, ap, ◌∙◌, arith}
use Rattle.std.proofs.Math.Nat.{mul-le-mul_right}
use Rattle.hextile.proofs.LoadLemmas.{length_row, row_copied}
use Rattle.hextile.proofs.loading.copy_colours.Goals as goal

pub slice_bounds-row-end : goal.slice_bounds-row-end
slice_bounds-row-end c =
    let p = c.args.frame.now.picture in
    let down : c.args.y + c.loop-v.v < p.height = omega arith in
    let long = ap length c.row.ensures ∙ length_row p (c.args.y + c.loop-v.v) c.width-frame_width.ensures.shape down in
    omega (arith, long)

pub loop-v-preserved : goal.loop-v-preserved
loop-v-preserved c =
    let a = c.args in
    let l = c.loop-v in
    let p = a.frame.now.picture in
    let few : l.v ≤ 16 = omega arith in
    let room = mul-le-mul_right a.w few in
    record {
      place = omega (arith, l.invariant.place);
      colours = row_copied p a.x a.y a.w l.v l.at (l.at + c.from-width.result) (c.from-start.result + c.from-width.result - c.from-start.result) _ l.colours c.copy_from_slice.new.self c.width-frame_width.ensures.shape (omega arith) (omega arith) l.invariant.place (omega arith) (omega (arith, l.invariant.place, room))
          (c.copy_from_slice.ensures.after ∙ rw (c.from-start.ensures, c.row.ensures) refl) (omega arith) l.invariant.colours;
    }
