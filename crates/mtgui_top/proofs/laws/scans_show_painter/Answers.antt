use Rattle.mtgui_top.proofs.ScanLemmas.{scans_show_painter}
use Rattle.mtgui_top.proofs.laws.scans_show_painter.Goals as goal

pub returns : goal.returns
returns c = scans_show_painter
