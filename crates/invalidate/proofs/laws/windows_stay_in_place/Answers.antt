use Rattle.invalidate.proofs.LawLemmas.{place-invalidated, places-invalidated}
use Rattle.invalidate.proofs.laws.windows_stay_in_place.Goals as goal

pub returns-clause-area : goal.returns-clause-area
returns-clause-area c = λ clip area ws. places-invalidated clip area ws

pub returns-clause-one : goal.returns-clause-one
returns-clause-one c = λ clip area w. place-invalidated clip area w
