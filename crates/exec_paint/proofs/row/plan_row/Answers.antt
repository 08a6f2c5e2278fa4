use Rattle.std.proofs.Common.{ℕ, ◌≤◌, pos, sym, ◌∙◌, arith}
use Rattle.exec_paint.specs.declared.plan.Hole.{Hole}
use Rattle.exec_paint.proofs.SpansLemmas.{hole-cut, hole-passed}
use Rattle.exec_paint.proofs.row.plan_row.Goals as goal
use Rattle.exec_paint.proofs.row.plan_row.Goals.{then-has_row, else-has_row}

abbrev no_hole : Hole
no_hole = record { clip = record { x0 = pos 0; y0 = pos 0; x1 = pos 0; y1 = pos 0 } }

pub loop-hole-preserved : goal.loop-hole-preserved
loop-hole-preserved c =
    let a = c.args in
    let k = c.loop-hole.hole-index in
    let lt = c.loop-hole-test.true in
    let inv = c.loop-hole.invariant in
    let from : a.y ≤ c.min-last.result = omega (arith, c.min-last.ensures, inv.from, c.last_alike.ensures.from) in
    let before : (v : ℕ) → v ≤ c.min-last.result → v ≤ c.loop-hole.last = λ v h. omega (arith, c.min-last.ensures, h) in
    let alike : (v : ℕ) → v ≤ c.min-last.result → v ≤ c.last_alike.result = λ v h. omega (arith, c.min-last.ensures, h) in
    elim c.if-has_row.branch [
      | then-has_row w ↦
          rw w.spans-is (record {
            from = from;
            columns = λ v low high x. hole-cut a.area.now a.holes.now k v no_hole c.loop-hole.spans w.cut_hole.new.spans x lt
                (c.last_alike.ensures.alike v low (alike v high) ∙ sym c.has_row.ensures ∙ w.if-has_row.true) (inv.columns v low (before v high) x) (w.cut_hole.ensures.columns x);
            count = omega (arith, w.cut_hole.ensures.count, inv.count);
          })
      | else-has_row w ↦
          rw w.spans-is (record {
            from = from;
            columns = λ v low high x. hole-passed a.area.now a.holes.now k v no_hole c.loop-hole.spans x lt
                (c.last_alike.ensures.alike v low (alike v high) ∙ sym c.has_row.ensures ∙ w.if-has_row.false) (inv.columns v low (before v high) x);
            count = omega (arith, inv.count);
          })
    ]
