use Rattle.std.proofs.Common.{◌≡◌, ◌+◌, ℕ, cond, ap, sym, add-zero}
use Rattle.calls.specs.declared.reply.Reply.{Reply}
use Rattle.engine.specs.Machines.{Machine}
use Rattle.desk.specs.Desks.{is_refused}
use Rattle.engine.proofs.CallLemmas.{answered_by, no_refusal}
use Rattle.engine.specs.contracts.engine.Engine.{the_view}
use Rattle.engine.proofs.engine.Engine.apply.Goals as goal

pub returns-in-Refused-clause-made : goal.returns-in-Refused-clause-made
returns-in-Refused-clause-made c =
    let m = the_view c.self.inside in
    let counted : Machine = record m { made = m.made + 1 } in
    let one : ◌≡◌ {A = ℕ} 1 (cond (is_refused c.in-Ok.reply) 1 0) = sym (ap (λ (r : Reply). cond (is_refused r) 1 0) c.in-Refused.is) in
    answered_by c.args.self.now counted c.take.new.self _ c.args.actor c.args.call.now c.in-Ok.reply 1
    (ap (λ (k : Machine). record k { made = k.made + 1 }) c.self.view_is) c.in-Ok.ensures.made.makes (ap (λ (k : Machine). record k { refused = k.refused + 1 }) c.self-2.view_is) one

pub returns-in_default-clause-made : goal.returns-in_default-clause-made
returns-in_default-clause-made c =
    let m = the_view c.self.inside in
    let counted : Machine = record m { made = m.made + 1 } in
    let taken = c.take.new.self in
    answered_by c.args.self.now counted taken taken c.args.actor c.args.call.now c.in-Ok.reply 0
    (ap (λ (k : Machine). record k { made = k.made + 1 }) c.self.view_is) c.in-Ok.ensures.made.makes (ap (λ (n : ℕ). record taken { refused = n }) (sym (add-zero taken.refused))) (no_refusal c.in-Ok.reply c.in_default.not-Refused)
