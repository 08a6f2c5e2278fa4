use Rattle.std.proofs.Common.{subst}
use Rattle.gui_core.specs.Histories.{Chronicle, MayMakeDevice}
use Rattle.gui_core.proofs.CallerLemmas.{answers-alone, look-alone}
use Rattle.mtgui_top.proofs.PlayLemmas.{left_without_memory}
use Rattle.mtgui_top.proofs.player.Player.apply.Goals as goal

pub returns : goal.returns
returns c =
    let old = c.self.inside.gui in
    let new = c.apply.new.self in
    rw (← c.self.view_is) (record {
      full = c.apply.ensures.full;
      answers = λ e. answers-alone old new c.args.actor c.args.call.now c.apply.result (c.apply.ensures.answers e) c.self.invariant;
      left_out = λ e. look-alone old new (c.apply.ensures.left_out e) c.self.invariant;
      unmade = λ want. subst (λ (k : Chronicle). MayMakeDevice k c.args.actor c.args.call.now) (look-alone old new (c.apply.ensures.left_out (left_without_memory c.apply.result want)) c.self.invariant) (c.apply.ensures.unmade want);
      bytes = c.apply.ensures.bytes;
    })
