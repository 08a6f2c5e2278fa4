use Rattle.std.proofs.Common.{◌≡◌, ℕ, List, [], ◌++◌, ◌∙◌, refl, subst}
use Rattle.std.specs.Prelude.{decimal}
use Rattle.outside.specs.Logs.{Wrote}
use Rattle.svg.specs.Texts.{svg_head}
use Rattle.svg.proofs.writing.write_head.Goals as goal

joined : (a b c d e w h r0 r1 r2 r3 r4 r5 r6 r7 r8 r9 : List ℕ)
    → r0 ≡ [] → r1 ≡ r0 ++ a → r2 ≡ r1 ++ w → r3 ≡ r2 ++ b → r4 ≡ r3 ++ h → r5 ≡ r4 ++ c → r6 ≡ r5 ++ w → r7 ≡ r6 ++ d → r8 ≡ r7 ++ h → r9 ≡ r8 ++ e
    → r9 ≡ (((((((a ++ w) ++ b) ++ h) ++ c) ++ w) ++ d) ++ h) ++ e
joined a b c d e w h r0 r1 r2 r3 r4 r5 r6 r7 r8 r9 e0 e1 e2 e3 e4 e5 e6 e7 e8 e9 =
    rw (e9, e8, e7, e6, e5, e4, e3, e2, e1, e0) refl

pub returns : goal.returns
unfolding svg_head
returns g c =
    let text = joined _ _ _ _ _ (decimal c.args.width) (decimal c.args.height) _ _ _ _ _ _ _ _ _ _ c.new-room.ensures c.push_bytes.ensures.line c.push_number.ensures.line c.push_bytes-2.ensures.line c.push_number-2.ensures.line c.push_bytes-3.ensures.line c.push_number-3.ensures.line c.push_bytes-4.ensures.line c.push_number-4.ensures.line c.push_bytes-5.ensures.line in
    subst (Wrote c.write.result (g.K.Sink.log c.args.out.now) (g.K.Sink.log c.write.new.self)) (c.line.ensures ∙ text) c.write.ensures
