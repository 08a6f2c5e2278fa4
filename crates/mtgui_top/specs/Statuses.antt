-- What the standard error is told of an exit status.
use Rattle.std.specs.Prelude.{ℕ, ◌==◌, List, [], ◌++◌, codes, if◌then◌else◌}

-- the words that a user may write
abbrev pub usage : List ℕ
usage =
    codes "usage: mtgui play FILE, paint FILE, gen NUMBER SIZE, " ++
    codes "run FILE [--journal] [--vnc N] [--calls N]"

-- a line
abbrev pub told : List ℕ → List ℕ
told text = text ++ (codes "\n")

-- the line of a status; of 0 nothing is told
abbrev pub error_line : ℕ → List ℕ
error_line status =
    if status == 2 then told usage else
    if status == 3 then told (codes "mtgui: script fault") else
    if status == 4 then told (codes "mtgui: store fault") else
    if status == 5 then told (codes "mtgui: sink fault") else
    if status == 9 then told (codes "mtgui: out of memory") else
    []
