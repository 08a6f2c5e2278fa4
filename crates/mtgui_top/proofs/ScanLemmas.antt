-- What a play text has at a scan.
use Rattle.std.proofs.Common.{◌≡◌, ℕ, List, [], ◌∷◌, ◌++◌, refl, sym, ap, ◌∙◌, append_assoc}
use Rattle.calls.specs.declared.call.Call.TheVariants.{Scan}
use Rattle.calls.specs.declared.line.Act.TheVariants as act
use Rattle.calls.specs.declared.line.Line.{Line}
use Rattle.calls.specs.declared.line.Line.TheVariants.{Task}
use Rattle.script.specs.Scripts.{Script}
use Rattle.journal.specs.Texts.{frame_text}
use Rattle.desk.specs.Setups.{Setup}
use Rattle.engine.specs.States.{State, opening, step}
use Rattle.gui_core.proofs.CallerLemmas.{quiet_is_painter, quiet_undrawn}
use Rattle.mtgui_top.specs.Playing.{setup_of, played, state_past, answer_text, replies, summary_of, after_lines, play_text}
use Rattle.mtgui_top.specs.Promises.{state_at, ScansShowPainter}
use Rattle.mtgui_top.proofs.PlayLemmas.{after_first}

replies-append : (setup : Setup) (s : State) (prefix rest : List Line) → replies setup s (prefix ++ rest) ≡ replies setup s prefix ++ replies setup (after_lines setup s prefix) rest
replies-append setup s [] rest = refl
replies-append setup s (line ∷ prefix) rest =
    let now : State = state_past setup s line in
    let text : List ℕ = answer_text setup s line in
    ap (λ (more : List ℕ). text ++ more) (replies-append setup now prefix rest ∙ ap (λ (t : State). replies setup now prefix ++ replies setup t rest) (sym (after_first setup s line prefix)))
    ∙ sym (append_assoc text (replies setup now prefix) (replies setup (after_lines setup s (line ∷ prefix)) rest))

-- a scan is answered by the shown picture, and changes nothing
scan_replies : (setup : Setup) (s : State) (task : ℕ) (rest : List Line) → replies setup s (Task task (act.Call Scan) ∷ rest) ≡ frame_text s.screen.shown ++ replies setup s rest
unfolding step
scan_replies setup s task rest = refl

text_at : (script : Script) (prefix rest : List Line) (task : ℕ) → script.lines ≡ prefix ++ Task task (act.Call Scan) ∷ rest
    → play_text script ≡ replies (setup_of script) (opening (setup_of script)) prefix ++ (frame_text (state_at script prefix).screen.shown ++ (replies (setup_of script) (state_at script prefix) rest ++ summary_of (setup_of script) (opening (setup_of script)) script.lines))
text_at script prefix rest task e =
    let setup = setup_of script in
    let s = state_at script prefix in
    let head = replies setup (opening setup) prefix in
    let last = summary_of setup (opening setup) script.lines in
    ap (λ (lines : List Line). replies setup (opening setup) lines ++ last) e
    ∙ ap (λ (text : List ℕ). text ++ last) (replies-append setup (opening setup) prefix (Task task (act.Call Scan) ∷ rest) ∙ ap (λ (text : List ℕ). head ++ text) (scan_replies setup s task rest))
    ∙ append_assoc head (frame_text s.screen.shown ++ replies setup s rest) last
    ∙ ap (λ (text : List ℕ). head ++ text) (append_assoc (frame_text s.screen.shown) (replies setup s rest) last)

pub scans_show_painter : (script : Script) → ScansShowPainter script
scans_show_painter script = record {
  text = text_at script;
  picture = λ prefix none. quiet_is_painter (setup_of script) (played (setup_of script) (opening (setup_of script)) prefix) none;
  undrawn = λ prefix undrawn none. quiet_undrawn (setup_of script) (played (setup_of script) (opening (setup_of script)) prefix) undrawn none;
}
