-- Small pictures, and a row.
use Rattle.std.specs.Prelude.{ℕ, List, [], ◌∷◌, ◌++◌, ◌&&◌, nat_le, nat_lt, replicate, if◌then◌else◌}
use Rattle.frame.specs.Pictures.{Picture, picture_of}

-- eight by four black points, of which six are blue
abbrev pub striped : Picture
striped =
    picture_of 8 4
    (λ x y. if (nat_le 2 x && nat_lt x 5) && (nat_le 1 y && nat_lt y 3) then 255 else 0)

-- one green point
abbrev pub single : Picture
single = picture_of 1 1 (λ x y. 65280)

-- a long run, two single points of which the second has the colour of that run, and a short run
abbrev pub mixed_row : List ℕ
mixed_row = replicate 12 1 ++ 16777215 ∷ 1 ∷ 0 ∷ 0 ∷ []
