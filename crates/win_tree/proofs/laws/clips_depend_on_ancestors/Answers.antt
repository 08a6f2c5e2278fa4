use Rattle.gfx_base.specs.Rects.{no_points}
use Rattle.scene.specs.Places.{place_of, place_at}
use Rattle.scene.proofs.CallerLemmas.{lie_alike}
use Rattle.win_tree.proofs.laws.clips_depend_on_ancestors.Goals as goal

pub returns-clause-clip : goal.returns-clause-clip
returns-clause-clip c = λ screen ws vs w same. (lie_alike 8 screen (place_at ws) (place_at vs) (place_of w) same).clip

pub returns-clause-corner : goal.returns-clause-corner
returns-clause-corner c = λ ws vs w same. (lie_alike 8 no_points (place_at ws) (place_at vs) (place_of w) same).corner
