-- The file behind its first bytes.
use Rattle.std.proofs.Common.{◌≡◌, ℕ, List, take, Option, Some, Result, Ok, Err, sym, subst, ◌∙◌, inl, inr, [], ◌∷◌, refl, ap}
use Rattle.std.specs.Prelude.{String}
use Rattle.std.specs.declared.alloc.Global.{Global}
use Rattle.outside.specs.Logs.{SinkLog, StoreLog, Whole}
use Rattle.std.proofs.lemmas.Option.{same_Some}
use Rattle.outside.specs.Files.{File, IsFile, Gave, file_of}
use Rattle.script.specs.Scripts.{Script, IsScript, IsNoScript}
use Rattle.gui_core.specs.Histories.{IsLegal}
use Rattle.script.proofs.CallerLemmas.{script_ready, script-take, take-script, fault-take}
use Rattle.mtgui_top.specs.declared.command.Verb.{Verb}
use Rattle.mtgui_top.specs.declared.command.Verb.TheVariants.{Play, Paint}
use Rattle.mtgui_top.specs.declared.play.Stop.{Stop}
use Rattle.mtgui_top.specs.declared.play.Stop.TheVariants as stop
use Rattle.mtgui_top.specs.declared.play.Finding.{Finding}
use Rattle.mtgui_top.specs.declared.play.Finding.TheVariants as finding
use Rattle.mtgui_top.specs.Words.{verb_word, IsCommand}
use Rattle.mtgui_top.specs.Playing.{chronicle_of, play_text, text_for}
use Rattle.mtgui_top.specs.Promises.{ScansShowPainter}
use Rattle.mtgui_top.specs.Outcome.{IsTextOf, Shows, ShowsFile, CommandEnds}
use Rattle.mtgui_top.proofs.LegalLemmas.{plays_legally}
use Rattle.mtgui_top.proofs.ScanLemmas.{scans_show_painter}

take-text : (verb : Verb) (file text : List ℕ) → IsTextOf verb (take 100663297 file) text → IsTextOf verb file text
take-text verb file text (inl h) = inl (h.0, script-take file h.0 h.1, h.2)
take-text verb file text (inr h) = inr (h.0, fault-take file h.0 h.1, h.2)

shows-take : (verb : Verb) (r : Result Finding Stop) (file : List ℕ) (old new : SinkLog) → Shows verb r (take 100663297 file) old new → Shows verb r file old new
shows-take verb (Ok finding.Script) file old new h = (h.0, script-take file h.0 h.1, h.2)
shows-take verb (Ok finding.NoScript) file old new h = (h.0, (λ script is. h.1 script (take-script file script is)), fault-take file h.0 h.2, h.3)
shows-take verb (Err stop.Store) file old new h = h
shows-take verb (Err stop.Sink) file old new h = (h.0, take-text verb file h.0 h.1, h.2)
shows-take verb (Err stop.Memory) file old new (inl nothing) = inl nothing
shows-take verb (Err stop.Memory) file old new (inr h) = inr (h.0, script-take file h.0 h.1, h.2)

of_file : (verb : Verb) (r : Result Finding Stop) (files : Option (List File)) (name bytes : List ℕ) (old new : SinkLog) → Gave files name 100663297 bytes → Shows verb r bytes old new → ShowsFile verb r files name old new
of_file verb r files name bytes old new gave shows =
    (gave.0, gave.1, shows-take verb r gave.0 old new (subst (λ (text : List ℕ). Shows verb r text old new) gave.2 shows))

ends : (verb : Verb) (r : Result Finding Stop) (name bytes : List ℕ) (before after : StoreLog) (old new : SinkLog) → Gave before.files name 100663297 bytes → Shows verb r bytes old new → CommandEnds verb r name before after old new
ends verb (Ok what) name bytes before after old new gave shows = of_file verb (Ok what) before.files name bytes old new gave shows
ends verb (Err stop.Store) name bytes before after old new gave shows = absurd shows
ends verb (Err stop.Sink) name bytes before after old new gave shows = of_file verb (Err stop.Sink) before.files name bytes old new gave shows
ends verb (Err stop.Memory) name bytes before after old new gave shows = inr (of_file verb (Err stop.Memory) before.files name bytes old new gave shows)

pub ends_with : (verb : Verb) (r : Result Finding Stop) (name bytes text : List ℕ) (before after : StoreLog) (old new : SinkLog) → text ≡ bytes → Gave before.files name 100663297 bytes → Shows verb r text old new → CommandEnds verb r name before after old new
ends_with verb r name bytes text before after old new e gave shows =
    ends verb r name bytes before after old new gave (subst (λ (t : List ℕ). Shows verb r t old new) e shows)

-- ---- the words ask for one thing

first_of : (words : List (List ℕ)) → List ℕ
first_of [] = []
first_of (word ∷ words) = word

second_of : (words : List (List ℕ)) → List ℕ
second_of [] = []
second_of (word ∷ []) = []
second_of (word ∷ next ∷ words) = next

same_verb : (a b : Verb) → verb_word a ≡ verb_word b → a ≡ b
same_verb Play Play e = refl
same_verb Paint Paint e = refl
same_verb Play Paint e = absurd cc
same_verb Paint Play e = absurd cc

pub one_command : (a b : Verb) (words : List (String Global)) (m n : List ℕ) → IsCommand a words m → IsCommand b words n → (a ≡ b) × (m ≡ n)
unfolding first_of second_of
one_command a b words m n first second =
    let same = sym first.spelled ∙ second.spelled in
    (same_verb a b (ap first_of same), ap second_of same)

-- the file of the words shows what was asked for
pub shows_of : (what : Finding) (a b : Verb) (files : Option (List File)) (words : List (String Global)) (m n : List ℕ) (old new : SinkLog)
    → what ≡ finding.Script → ShowsFile a (Ok what) files m old new → IsCommand a words m → IsCommand b words n → ShowsFile b (Ok finding.Script) files n old new
shows_of what a b files words m n old new e shows is asked =
    let same = one_command a b words m n is asked in
    let shown = subst (λ (x : Finding). ShowsFile a (Ok x) files m old new) e shows in
    subst (λ (name : List ℕ). ShowsFile b (Ok finding.Script) files name old new) same.1 (subst (λ (verb : Verb). ShowsFile verb (Ok finding.Script) files m old new) same.0 shown)

-- a played script's scans
pub scans_played : (files : Option (List File)) (name : List ℕ) (old new : SinkLog) → ShowsFile Play (Ok finding.Script) files name old new
    → (file : List ℕ) × (script : Script) × IsFile files name file × IsScript file script × IsLegal (chronicle_of script) × ScansShowPainter script × Whole old new (play_text script)
scans_played files name old new shows =
    let shown = shows.2 in
    (shows.0, shown.0, shows.1, shown.1, plays_legally shown.0 (script_ready shows.0 shown.0 shown.1), scans_show_painter shown.0, shown.2)

-- a painted script's picture
pub picture_painted : (files : Option (List File)) (name : List ℕ) (old new : SinkLog) → ShowsFile Paint (Ok finding.Script) files name old new
    → (file : List ℕ) × (script : Script) × IsFile files name file × IsScript file script × Whole old new (text_for Paint script)
picture_painted files name old new shows =
    let shown = shows.2 in
    (shows.0, shown.0, shows.1, shown.1, shown.2)

-- ---- a told file

file_is : (files : Option (List File)) (told : List File) (m n x file : List ℕ) → files ≡ Some told → m ≡ n → IsFile files m x → file_of told n ≡ Some file → x ≡ file
file_is files told m n x file e same is found =
    let at : IsFile (Some told) n x = subst (λ (name : List ℕ). IsFile (Some told) name x) same (subst (λ (f : Option (List File)). IsFile f m x) e is) in
    same_Some x file (sym at ∙ found)

-- a told file that was shown as a script is one
pub told_script : (a b : Verb) (words : List (String Global)) (m n : List ℕ) (files : Option (List File)) (told : List File) (file : List ℕ) (old new : SinkLog) → ShowsFile a (Ok finding.Script) files m old new → IsCommand a words m → IsCommand b words n
    → files ≡ Some told → file_of told n ≡ Some file → IsNoScript file → ⊥
told_script a b words m n files told file old new shows is asked e found none =
    let same = one_command a b words m n is asked in
    let here = file_is files told m n shows.0 file e same.1 shows.1 found in
    let shown = shows.2 in
    none shown.0 (subst (λ (f : List ℕ). IsScript f shown.0) here shown.1)

-- a told file that was shown as none is none
pub told_no_script : (a b : Verb) (words : List (String Global)) (m n : List ℕ) (files : Option (List File)) (told : List File) (file : List ℕ) (old new : SinkLog) → ShowsFile a (Ok finding.NoScript) files m old new → IsCommand a words m → IsCommand b words n
    → files ≡ Some told → file_of told n ≡ Some file → IsNoScript file
told_no_script a b words m n files told file old new shows is asked e found script is_script =
    let same = one_command a b words m n is asked in
    let here = file_is files told m n shows.0 file e same.1 shows.1 found in
    let shown = shows.2 in
    shown.1 script (subst (λ (f : List ℕ). IsScript f script) (sym here) is_script)

-- what was shown, by what was found
pub shown_as : (verb : Verb) (what is : Finding) (files : Option (List File)) (name : List ℕ) (old new : SinkLog) → what ≡ is → ShowsFile verb (Ok what) files name old new → ShowsFile verb (Ok is) files name old new
shown_as verb what is files name old new e shows = subst (λ (x : Finding). ShowsFile verb (Ok x) files name old new) e shows
