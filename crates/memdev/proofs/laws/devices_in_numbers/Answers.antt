use Rattle.memdev.specs.Examples.{with_dots}
use Rattle.std.proofs.Common.{length}
use Rattle.memdev.proofs.TableLemmas.{length-with_dots, no_refusal}
use Rattle.memdev.proofs.laws.devices_in_numbers.Goals as goal

pub returns-clause-few : goal.returns-clause-few
returns-clause-few c = λ n few. no_refusal n (length (with_dots n).live) (length-with_dots n) few
