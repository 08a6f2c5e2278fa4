use Rattle.std.proofs.Common.{refl}
use Rattle.gfx_base.specs.Rects.{is_empty, canonical, meet, cover}
use Rattle.scene.specs.Families.{window_changed}
use Rattle.messages.specs.Delivery.{delivered}
use Rattle.messages.proofs.laws.messages_in_numbers.Goals as goal

pub returns-clause-step : goal.returns-clause-step
unfolding is_empty canonical meet cover window_changed delivered
returns-clause-step c = refl

pub returns-clause-unknown : goal.returns-clause-unknown
unfolding is_empty canonical meet cover window_changed delivered
returns-clause-unknown c = refl

pub returns-clause-way : goal.returns-clause-way
unfolding is_empty canonical meet cover window_changed delivered
returns-clause-way c = refl

pub returns-clause-nothing_new : goal.returns-clause-nothing_new
unfolding is_empty canonical meet cover window_changed delivered
returns-clause-nothing_new c = refl
