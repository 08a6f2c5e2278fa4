use Rattle.std.proofs.Common.{List}
use Rattle.scene.specs.declared.win.Win.{Win}
use Rattle.scene.specs.Clips.{deepest_level}
use Rattle.scene.specs.Looks.{looks_of}
use Rattle.scene.specs.Changes.{DamageCovers}
use Rattle.scene.proofs.CallerLemmas.{DamageCovers-same, DamageCovers-then}
use Rattle.messages.specs.Delivery.{lineage, delivered}
use Rattle.messages.proofs.KeepingLemmas.{revalued, kept_along}
use Rattle.messages.proofs.DamageLemmas.{damage_revalued}
use Rattle.messages.proofs.laws.damage_covers_messages.Goals as goal

pub returns-clause-message : goal.returns-clause-message
unfolding delivered
returns-clause-message c = λ assets screen message argument w ws p.
    let P : List Win → Type 0 = λ us. DamageCovers (looks_of assets screen ws) ws (looks_of assets screen us) us p in
    kept_along assets screen message argument P
    (λ us h values before.
    let after = revalued screen h values us in
    DamageCovers-then (looks_of assets screen ws) ws (looks_of assets screen us) us (looks_of assets screen after) after p before (damage_revalued assets screen h values us p))
    (lineage deepest_level ws w) ws (DamageCovers-same (looks_of assets screen ws) ws p)

pub returns-clause-values : goal.returns-clause-values
returns-clause-values c = λ assets screen ws put p. damage_revalued assets screen put.handle (λ w. put.values) ws p
