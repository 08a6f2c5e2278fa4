use Rattle.std.proofs.Common.{refl, inl}
use Rattle.mtgui_top.specs.declared.command.Verb.TheVariants.{Play, Paint}
use Rattle.mtgui_top.specs.declared.play.Finding.TheVariants as finding
use Rattle.mtgui_top.proofs.FileLemmas.{shows_of, scans_played, picture_painted, shown_as, told_script, told_no_script}
use Rattle.mtgui_top.proofs.play.plain_words.Goals as goal

pub returns-in-Ok-Script-clause-played : goal.returns-in-Ok-Script-clause-played
returns-in-Ok-Script-clause-played g c =
    λ ok name asked. scans_played _ name _ _ (shows_of c.in-Ok-Script.field-0 c.in-Some.verb Play _ c.args.words.now c.in-Some.name.now name _ _ c.in-Ok-Script.field-0-is c.in-Ok-Script.ensures c.in-Some.ensures asked)

pub returns-in-Ok-Script-clause-painted : goal.returns-in-Ok-Script-clause-painted
returns-in-Ok-Script-clause-painted g c =
    λ ok name asked. picture_painted _ name _ _ (shows_of c.in-Ok-Script.field-0 c.in-Some.verb Paint _ c.args.words.now c.in-Some.name.now name _ _ c.in-Ok-Script.field-0-is c.in-Ok-Script.ensures c.in-Some.ensures asked)

pub returns-in-Ok-Script-clause-complete : goal.returns-in-Ok-Script-clause-complete
returns-in-Ok-Script-clause-complete g c =
    λ files verb name file told asked found quiet silent. (
      λ script is. inl refl,
      λ none. absurd (told_script c.in-Some.verb verb c.args.words.now c.in-Some.name.now name _ files file _ _ (shown_as c.in-Some.verb _ finding.Script _ _ _ _ c.in-Ok-Script.field-0-is c.in-Ok-Script.ensures) c.in-Some.ensures asked told found none),
    )

pub returns-in-Ok-NoScript-clause-complete : goal.returns-in-Ok-NoScript-clause-complete
returns-in-Ok-NoScript-clause-complete g c =
    λ files verb name file told asked found quiet silent. (
      λ script is. absurd (told_no_script c.in-Some.verb verb c.args.words.now c.in-Some.name.now name _ files file _ _ (shown_as c.in-Some.verb _ finding.NoScript _ _ _ _ c.in-Ok-NoScript.field-0-is c.in-Ok-NoScript.ensures) c.in-Some.ensures asked told found script is),
      λ none. inl refl,
    )
