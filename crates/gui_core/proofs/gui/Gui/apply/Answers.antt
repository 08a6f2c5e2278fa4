use Rattle.std.proofs.Common.{refl, sym, ap, subst, ◌∙◌}
use Rattle.std.proofs.lemmas.Bool.{false≢true}
use Rattle.gui_core.specs.Histories.{Core, Looked, MayMakeDevice}
use Rattle.gui_core.proofs.WantLemmas.{records_are_entered, entered_parts}
use Rattle.gui_core.proofs.HistoryLemmas.{look-full, look-stays_alone, records-stays_alone, one_mark}
use Rattle.gui_core.proofs.gui.Gui.apply.Goals as goal

pub returns-then-is_full : goal.returns-then-is_full
returns-then-is_full c = record {
  full = c.if-is_full.ensures ∙ look-full c.args.self.now c.look.new.self c.look.ensures;
  answers = λ e. absurd cc;
  left_out = λ e. c.look.ensures;
  unmade = λ e. absurd cc;
  alone = look-stays_alone c.args.self.now c.look.new.self c.look.ensures;
  bytes = refl;
}

pub returns-in-Ok : goal.returns-in-Ok
returns-in-Ok c =
    let made = c.in-Ok.ensures.made in
    let is = records_are_entered c.look.new.self c.args.actor c.args.call.now c.make.new.self c.in-Ok.answer made in
    let parts = entered_parts c.in-Ok.answer is in
    record {
      full = parts.0 ∙ c.if-is_full.ensures ∙ look-full c.args.self.now c.look.new.self c.look.ensures;
      answers = λ e. record { looked = c.look.new.self; look = c.look.ensures; records = made; one = one_mark c.args.self.now c.look.new.self c.make.new.self c.args.actor c.args.call.now c.in-Ok.answer c.look.ensures made };
      left_out = λ out. absurd (false≢true (sym out ∙ is));
      unmade = λ want. absurd (false≢true (sym parts.1 ∙ want));
      alone = records-stays_alone c.look.new.self c.make.new.self c.args.actor c.args.call.now c.in-Ok.answer made ∙ look-stays_alone c.args.self.now c.look.new.self c.look.ensures;
      bytes = refl;
    }

pub returns-in-Err : goal.returns-in-Err
returns-in-Err c =
    let same = c.in-Err.ensures.unmade in
    record {
      full = c.if-is_full.ensures ∙ look-full c.args.self.now c.look.new.self c.look.ensures;
      answers = λ e. absurd cc;
      left_out = λ e. subst (λ (k : Core). Looked c.args.self.now k) (sym same) c.look.ensures;
      unmade = λ e. subst (λ (k : Core). MayMakeDevice k.chronicle c.args.actor c.args.call.now) (sym same) c.in-Err.ensures.device;
      alone = ap (λ (k : Core). k.drawer.alone) same ∙ look-stays_alone c.args.self.now c.look.new.self c.look.ensures;
      bytes = refl;
    }
