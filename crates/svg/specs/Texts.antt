-- The SVG text of a picture.
use Rattle.std.specs.Prelude.{ℕ, List, ◌++◌, codes, decimal}
use Rattle.std.specs.List.{flat_map}
use Rattle.frame.specs.Pictures.{Picture}
use Rattle.spelling.specs.Digits.{hex_colour}
use Rattle.svg.specs.declared.shapes.Rectangle.{Rectangle}
use Rattle.svg.specs.Rectangles.{rectangles}

unfoldable pub rectangle_text : Rectangle → List ℕ
rectangle_text r =
    codes "<rect x=\"" ++ decimal r.x ++ codes "\" y=\"" ++ decimal r.y
    ++ codes "\" width=\"" ++ decimal r.width ++ codes "\" height=\"" ++ decimal r.height
    ++ codes "\" fill=\"#" ++ hex_colour r.colour ++ codes "\"/>\n"

-- the first line: a picture's sides, and that its points are to be seen as squares
unfoldable pub svg_head : ℕ → ℕ → List ℕ
svg_head width height =
    codes "<svg xmlns=\"http://www.w3.org/2000/svg\" width=\"" ++ decimal width
    ++ codes "\" height=\"" ++ decimal height ++ codes "\" viewBox=\"0 0 " ++ decimal width
    ++ codes " " ++ decimal height ++ codes "\" shape-rendering=\"crispEdges\">\n"

-- the rectangles of a picture between the lines that open and close it
unfoldable pub svg_text : Picture → List ℕ
svg_text p =
    svg_head p.width p.height ++ (flat_map rectangle_text (rectangles p) ++ codes "</svg>\n")
