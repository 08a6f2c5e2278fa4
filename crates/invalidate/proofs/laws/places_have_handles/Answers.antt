use Rattle.scene.proofs.CallerLemmas.{set_is_changed}
use Rattle.invalidate.proofs.laws.places_have_handles.Goals as goal

pub returns : goal.returns
returns c = λ ws i w change stack at. set_is_changed ws i w change stack.single at
