-- A prefix of a piece that was written.
use Rattle.std.proofs.Common.{◌≡◌, ◌≤◌, List, ℕ, ◌++◌, take, drop, Option, Some, sym}
use Rattle.std.proofs.lemmas.List.{take-append-drop}
use Rattle.outside.specs.Logs.{SinkLog, Rose, Broken}

pub Broken-take : (f g : ℕ) (old new piece : List ℕ) (n : ℕ) → new ≡ old ++ take n piece → f ≤ g → Rose f g → Broken (record { faults = f; written = Some old }) (record { faults = g; written = Some new }) piece
Broken-take f g old new piece n e later rose =
    record { later = later; rose = rose; prefix = take n piece; rest = drop n piece; parts = sym (take-append-drop n piece); bytes = e }
