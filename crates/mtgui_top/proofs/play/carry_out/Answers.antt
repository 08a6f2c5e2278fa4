use Rattle.mtgui_top.proofs.FileLemmas.{ends_with}
use Rattle.mtgui_top.proofs.play.carry_out.Goals as goal

pub returns : goal.returns
returns g c = ends_with c.args.verb c.show.result c.args.name.now c.in_ok-text.text.items c.deref.result.now _ _ _ _ c.deref.ensures.value c.in_ok-text.ensures.0 c.show.ensures
