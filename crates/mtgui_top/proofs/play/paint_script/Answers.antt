use Rattle.std.proofs.Common.{Err, ap, sym, subst}
use Rattle.std.proofs.lemmas.Result.{err_from_is_err_and}
use Rattle.outside.specs.Logs.{Whole, Broken}
use Rattle.script.specs.Scripts.{Script}
use Rattle.mtgui_top.specs.declared.command.Verb.TheVariants.{Paint}
use Rattle.mtgui_top.specs.declared.play.Stop.{Stop}
use Rattle.mtgui_top.specs.Outcome.{WritesScript}
use Rattle.mtgui_top.proofs.PlayLemmas.{painted_text}
use Rattle.mtgui_top.proofs.play.paint_script.Goals as goal

pub returns-in_err-write_frame : goal.returns-in_err-write_frame
returns-in_err-write_frame g c =
    let text = painted_text c.args.script c.script.inside.assets c.script.inside.config c.script.inside.lines.items c.deref.result.now c.in_ok-gui.gui c.make_window_calls.new.gui c.into_painted.result.picture
    (ap (λ (s : Script). s.assets) c.script.view_is) (ap (λ (s : Script). s.config) c.script.view_is) (ap (λ (s : Script). s.lines) c.script.view_is) c.deref.ensures.value c.in_ok-gui.ensures c.make_window_calls.ensures.setup c.make_window_calls.ensures.state c.into_painted.ensures in
    let p = err_from_is_err_and c.from_residual-in_err-write_frame.result c.from_residual-in_err-write_frame.ensures.1 in
    let broken = subst (Broken (g.K.Sink.log c.args.out.now) (g.K.Sink.log c.write_frame-2.new.out)) text c.in_err-write_frame.ensures in
    rw p.1 (subst (λ (e : Stop). WritesScript Paint (Err e) (g.K.Sink.log c.args.out.now) (g.K.Sink.log c.write_frame-2.new.out) c.args.script) (sym p.2) broken)

pub returns : goal.returns
returns g c =
    let text = painted_text c.args.script c.script.inside.assets c.script.inside.config c.script.inside.lines.items c.deref.result.now c.in_ok-gui.gui c.make_window_calls.new.gui c.into_painted.result.picture
    (ap (λ (s : Script). s.assets) c.script.view_is) (ap (λ (s : Script). s.config) c.script.view_is) (ap (λ (s : Script). s.lines) c.script.view_is) c.deref.ensures.value c.in_ok-gui.ensures c.make_window_calls.ensures.setup c.make_window_calls.ensures.state c.into_painted.ensures in
    subst (Whole (g.K.Sink.log c.args.out.now) (g.K.Sink.log c.write_frame-2.new.out)) text c.in_ok-write_frame.ensures
