use Rattle.scene.proofs.BareLemmas.{is_damaged-job, painted-job}
use Rattle.scene.proofs.laws.a_job_ends_its_patch.Goals as goal

pub returns : goal.returns
returns c = record { damage = is_damaged-job; colour = painted-job }
