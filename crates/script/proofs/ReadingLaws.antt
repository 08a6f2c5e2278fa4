-- The laws of files: each is one script or has one fault, and not both; and what is read is what the file says.
use Rattle.std.proofs.Common.{◌≡◌, ℕ, ◌+◌, ◌<◌, ◌≤◌, Bool, true, false, cond, leb, List, [], ◌∷◌, ◌++◌, length, take, Some, None, Result, Ok, Err, refl, sym, ap, subst, ◌∙◌, inl, inr, arith}
use Rattle.std.specs.Prelude.{IfOk, IfErr, MatchResult}
use Rattle.std.specs.List.{AllByRecursion}
use Rattle.std.proofs.lemmas.Bool.{leb-true}
use Rattle.std.proofs.lemmas.Bool.Decides.{nat_tests}
use Rattle.std.proofs.lemmas.List.{length-append, length-take, take_all}
use Rattle.paint_ops.specs.Soundness.{IsSound}
use Rattle.spelling.specs.Parts.{lines_of}
use Rattle.spelling.specs.Items.{AreItems, all_after}
use Rattle.spelling.specs.LineReading.{run, IsReading}
use Rattle.spelling.proofs.CallerLemmas as lines
use Rattle.spelling.proofs.CallerLemmas.{chosen}
use Rattle.calls.specs.Actors.{is_task}
use Rattle.calls.specs.declared.line.Line.{Line}
use Rattle.calls.specs.declared.line.Line.TheVariants.{Task, Tick}
use Rattle.calls.specs.Lines.{FitsItsTask, call_count, tick_count}
use Rattle.calls.specs.Words.{LineFits}
use Rattle.script.specs.declared.draft.Block.TheVariants as block
use Rattle.script.specs.declared.draft.Stage.{Stage}
use Rattle.script.specs.declared.draft.Stage.TheVariants as stage
use Rattle.script.specs.declared.fault.Reason.{Reason}
use Rattle.script.specs.declared.fault.Reason.TheVariants as reason
use Rattle.script.specs.declared.fault.ScriptFault.{ScriptFault}
use Rattle.script.specs.declared.fault.ScriptRefused.{ScriptRefused}
use Rattle.script.specs.declared.fault.ScriptRefused.TheVariants as read_error
use Rattle.script_lines.specs.Counts.{count_alike, AreCounted}
use Rattle.script.specs.Scripts.{Item, Title, Screen, Buffers, Desktop, FontOf, BitmapOf, StringOf, ClassOf, CallOf, Before, nothing, after, after_items, Spells, AreItemsOf, listing_of, plain_class, class_of, Script, script_for, IsScript, IsNoScript, IsReady, are_free}
use Rattle.script.specs.Faults.{Between, IsPrefix, Why, why_cut, IsFault, IsError}
use Rattle.script.specs.Reading.{Draft, empty_draft, after_line, place_at, place_of, from_line, read_of, Reads, Says}
use Rattle.script_lines.proofs.CallerLemmas.{ticks_more, calls_and_ticks, counted_more}
use Rattle.script.proofs.AssetLemmas.{class_more, font_more, bitmap_more, string_more}
use Rattle.script.proofs.BodyLaws.{class_sound}
use Rattle.script.proofs.ItemLaws.{one_script}
use Rattle.script.proofs.DraftLaws.{HasItems, StandsIn, prefix_read, printable_read, read_stands}
use Rattle.script.proofs.PrefixLaws.{prefix_reads}
use Rattle.script.proofs.ReasonLaws.{line_why, one_reason}

reading : IsReading after_line empty_draft place_of IsPrefix Why
reading = record {
  sound = λ xs d is. prefix_read d xs is;
  complete = λ xs place prefix. prefix_reads xs place prefix;
  reasons = λ xs d line why is wrong. line_why d line why wrong;
  one_reason = λ xs place line r s prefix longer is also. one_reason place line r s is also;
}

-- ---- what a script is ready for

-- what the items say lies in its ranges
record IsGood (b : Before) : Type 0 where
  wide : 2 ≤ b.header → (1 ≤ b.said.width) × (b.said.width ≤ 1024)
  high : 2 ≤ b.header → (1 ≤ b.said.height) × (b.said.height ≤ 768)
  buffers : 3 ≤ b.header → (1 ≤ b.said.buffers) × (b.said.buffers ≤ 3)
  early : b.header < 4 → length b.said.assets.classes ≡ 0
  some : b.header ≡ 4 → 1 ≤ length b.said.assets.classes
  assets : IsSound b.said.assets
  counted : AreCounted b.said.lines (tick_count b.said.lines)
  lines : AllByRecursion LineFits b.said.lines

lines_more : (ls : List Line) (l : Line) → AllByRecursion LineFits ls → LineFits l → AllByRecursion LineFits (ls ++ l ∷ [])
lines_more [] l all is = (is, tt)
lines_more (x ∷ ls) l all is = (all.0, lines_more ls l all.1 is)

lines_counted : (ls : List Line) (l : Line) → AreCounted ls (tick_count ls) → count_alike l ls + 1 ≤ 400000 → AreCounted (ls ++ l ∷ []) (tick_count (ls ++ l ∷ []))
lines_counted ls l are few = subst (AreCounted (ls ++ l ∷ [])) (sym (ticks_more l ls)) (counted_more ls (tick_count ls) l are (omega arith))

few_calls : (ls : List Line) → AreCounted ls (tick_count ls) → call_count ls ≤ 400000
few_calls ls are = let all = calls_and_ticks ls in let few = are.few_others in omega arith

few_lines : (ls : List Line) → AreCounted ls (tick_count ls) → length ls ≤ 800000
few_lines ls are = let ticks = are.few_ticks in let few = are.few_others in omega arith

item_good : (item : Item) (b : Before) (block : List (List ℕ)) → Spells b item block → IsGood b → IsGood (after b item)
item_good Title b block is good = record {
  wide = λ h. absurd (omega arith);
  high = λ h. absurd (omega arith);
  buffers = λ h. absurd (omega arith);
  early = λ h. good.early (omega (arith, is.0));
  some = λ h. absurd (omega arith);
  assets = good.assets;
  counted = good.counted;
  lines = good.lines;
}
item_good (Screen w h) b block is good = record {
  wide = λ k. is.1.0;
  high = λ k. is.1.1.0;
  buffers = λ k. absurd (omega arith);
  early = λ k. good.early (omega (arith, is.0.0));
  some = λ k. absurd (omega arith);
  assets = good.assets;
  counted = good.counted;
  lines = good.lines;
}
item_good (Buffers n) b block is good = record {
  wide = λ h. good.wide (omega (arith, is.0.0));
  high = λ h. good.high (omega (arith, is.0.0));
  buffers = λ h. is.1.0;
  early = λ h. good.early (omega (arith, is.0.0));
  some = λ h. absurd (omega arith);
  assets = good.assets;
  counted = good.counted;
  lines = good.lines;
}
item_good (Desktop c) b block is good =
    let none = good.early (omega (arith, is.0.0)) in
    let count = length-append b.said.assets.classes (plain_class (Some c) ∷ []) in
    record {
      wide = λ h. good.wide (omega (arith, is.0.0));
      high = λ h. good.high (omega (arith, is.0.0));
      buffers = λ h. good.buffers (omega (arith, is.0.0));
      early = λ h. absurd (omega arith);
      some = λ h. omega arith;
      assets = class_more b.said.assets (plain_class (Some c)) good.assets (omega arith) (class_sound b.said.assets (Some c) [] [] tt);
      counted = good.counted;
      lines = good.lines;
    }
item_good (StringOf text) b block is good = record {
  wide = good.wide;
  high = good.high;
  buffers = good.buffers;
  early = good.early;
  some = good.some;
  assets = string_more b.said.assets text good.assets is.counted;
  counted = good.counted;
  lines = good.lines;
}
item_good (FontOf font) b block is good = record {
  wide = good.wide;
  high = good.high;
  buffers = good.buffers;
  early = good.early;
  some = good.some;
  assets = font_more b.said.assets font good.assets is.counted.0.1;
  counted = good.counted;
  lines = good.lines;
}
item_good (BitmapOf bitmap) b block is good = record {
  wide = good.wide;
  high = good.high;
  buffers = good.buffers;
  early = good.early;
  some = good.some;
  assets = bitmap_more b.said.assets bitmap good.assets is.counted.0.1;
  counted = good.counted;
  lines = good.lines;
}
item_good (ClassOf back lines) b block is good =
    let below = is.counted.1 in
    let count = length-append b.said.assets.classes (class_of back lines ∷ []) in
    record {
      wide = good.wide;
      high = good.high;
      buffers = good.buffers;
      early = λ h. absurd (omega (arith, is.early.header));
      some = λ h. omega arith;
      assets = class_more b.said.assets (class_of back lines) good.assets below (class_sound b.said.assets back lines is.body is.are);
      counted = good.counted;
      lines = good.lines;
    }
item_good (CallOf line) b block is good = record {
  wide = good.wide;
  high = good.high;
  buffers = good.buffers;
  early = good.early;
  some = good.some;
  assets = good.assets;
  counted = lines_counted b.said.lines line good.counted is.few;
  lines = lines_more b.said.lines line good.lines is.fits;
}

items_good : (items : List Item) (b : Before) (xs : List (List ℕ)) → AreItems Spells after b items xs → IsGood b → IsGood (all_after after b items)
items_good [] b xs are good = good
items_good (item ∷ items) b xs are good = items_good items (after b item) are.2 are.6 (item_good item b are.1 are.5 good)

nothing_good : IsGood nothing
nothing_good = record {
  wide = λ h. absurd (omega arith);
  high = λ h. absurd (omega arith);
  buffers = λ h. absurd (omega arith);
  early = λ h. refl;
  some = λ h. absurd (omega arith);
  assets = record { few_classes = omega arith; few_fonts = omega arith; few_bitmaps = omega arith; few_strings = omega arith; classes = tt };
  counted = record { counted = refl; few_ticks = omega arith; few_others = omega arith };
  lines = tt;
}

task_fits : (task : ℕ) → 1 ≤ task → task ≤ 16 → is_task task ≡ true
task_fits task some few = grind (arith, nat_tests)

line_fits : (line : Line) → LineFits line → FitsItsTask line
line_fits (Task task a) fits = task_fits task fits.0 fits.1
line_fits Tick fits = tt

lines_fit : (ls : List Line) → AllByRecursion LineFits ls → AllByRecursion FitsItsTask ls
lines_fit [] fits = tt
lines_fit (line ∷ ls) fits = (line_fits line fits.0, lines_fit ls fits.1)

ready : (items : List Item) (xs : List (List ℕ)) → AreItemsOf items xs → (after_items items).header ≡ 4 → IsReady (script_for (listing_of items))
ready items xs are header =
    let good = items_good items nothing xs are nothing_good in
    record {
      width = good.wide (omega arith);
      height = good.high (omega arith);
      buffers = good.buffers (omega arith);
      calls = refl;
      few_calls = few_calls (listing_of items).lines good.counted;
      few_ticks = good.counted.few_ticks;
      few_lines = few_lines (listing_of items).lines good.counted;
      has_desktop = good.some header;
      assets = good.assets;
      lines = lines_fit (listing_of items).lines good.lines;
    }

pub script_ready : (file : List ℕ) (s : Script) → IsScript file s → IsReady s
script_ready file s is = subst IsReady (sym is.is) (ready is.items (lines_of file) is.spelled is.header)

-- ---- what reading says

-- where the file may end, it is whole, and no lock is open
may_end : (s : Stage) (d : Draft) (xs : List (List ℕ)) → StandsIn s d xs → why_cut (place_at s d) ≡ None → HasItems 4 d xs × (are_free d.locks ≡ true)
may_end stage.Title d xs stands none = absurd cc
may_end stage.Screen d xs stands none = absurd cc
may_end stage.Buffers d xs stands none = absurd cc
may_end stage.Desktop d xs stands none = absurd cc
may_end stage.Body d xs stands none =
    elim (chosen (are_free d.locks) None (Some reason.End) None none) [
      | inl free ↦ (stands, free.0)
      | inr held ↦ absurd (cc (held.1))
    ]
may_end (stage.Block (block.Class class)) d xs stands none = absurd cc
may_end (stage.Block (block.Font font)) d xs stands none = absurd cc
may_end (stage.Block (block.Bitmap bitmap)) d xs stands none = absurd cc

script_of : (file : List ℕ) (d : Draft) → length file ≤ 100663296 → run after_line empty_draft (lines_of file) ≡ Ok d → why_cut (place_of d) ≡ None → IsScript file (script_for d.said)
script_of file d short read none =
    let end = may_end d.stage d (lines_of file) (read_stands d (lines_of file) read) none in
    let has = end.0 in
    record {
      items = has.items;
      printable = printable_read empty_draft d (lines_of file) read;
      spelled = has.spelled;
      header = ap (λ (b : Before). b.header) has.before;
      free = ap (λ (b : Before). are_free b.locks) has.before ∙ end.1;
      short = short;
      is = ap (λ (b : Before). script_for b.said) (sym has.before);
    }

abbrev SaysOf : List ℕ → Result Draft (ℕ × Reason) → Type 0
SaysOf file r = lines.Describes after_line empty_draft place_of IsPrefix Why why_cut (lines_of file) r

lines_say : (file : List ℕ) → SaysOf file (from_line 1 empty_draft (lines_of file))
lines_say file = lines.read_says after_line empty_draft place_of IsPrefix Why why_cut reading (lines_of file)

-- what was read of a file
abbrev Describes : List ℕ → Result Draft (ℕ × Reason) → Type 0
Describes file (Ok d) = IsScript file (script_for d.said)
Describes file (Err fault) = IsFault file (record { line = fault.0; why = fault.1 })

describes : (file : List ℕ) (r : Result Draft (ℕ × Reason)) → length file ≤ 100663296 → SaysOf file r → Describes file r
describes file (Ok d) short is = script_of file d short is.0 is.1
describes file (Err fault) short is = inr (short, is)

by_length : (file : List ℕ) (b : Bool) → leb (length file) 100663296 ≡ b → Describes file (cond b (from_line 1 empty_draft (lines_of file)) (Err (0, reason.TooLarge)))
by_length file true short = describes file (from_line 1 empty_draft (lines_of file)) (leb-true _ _ short) (lines_say file)
by_length file false long = inl (grind (arith, nat_tests, long), refl)

pub file_says : (file : List ℕ) → Describes file (read_of file)
unfolding read_of
file_says file = by_length file (leb (length file) 100663296) refl

-- ---- a script or a fault

prefix_of : (file : List ℕ) (s : Script) (is : IsScript file s) → IsPrefix (lines_of file) (Between (after_items is.items))
prefix_of file s is = (is.printable, record { items = is.items; spelled = is.spelled; before = refl })

ends : (b : Before) → b.header ≡ 4 → are_free b.locks ≡ true → why_cut (Between b) ≡ None
ends b header free = rw (header, free) refl

pub no_script_with_fault : (file : List ℕ) (fault : ScriptFault) → IsFault file fault → IsNoScript file
no_script_with_fault file fault (inl long) s is = let short = is.short in let large = long.0 in absurd (omega arith)
no_script_with_fault file fault (inr wrong) s is =
    lines.not_both after_line empty_draft place_of IsPrefix Why why_cut reading (lines_of file) (Between (after_items is.items)) fault.line fault.why (prefix_of file s is) (ends (after_items is.items) is.header is.free) wrong.1

fault_by : (file : List ℕ) (r : Result Draft (ℕ × Reason)) → Describes file r → IsNoScript file → (fault : ScriptFault) × IsFault file fault
fault_by file (Ok d) is none = absurd (none (script_for d.said) is)
fault_by file (Err fault) is none = (record { line = fault.0; why = fault.1 }, is)

pub fault_of : (file : List ℕ) → IsNoScript file → (fault : ScriptFault) × IsFault file fault
fault_of file none = fault_by file (read_of file) (file_says file) none

abbrev fault_at : ℕ → Reason → ScriptFault
fault_at line why = record { line = line; why = why }

pub one_fault : (file : List ℕ) (a b : ScriptFault) → IsFault file a → IsFault file b → a ≡ b
one_fault file a b (inl is) (inl also) = is.1 ∙ sym also.1
one_fault file a b (inl is) (inr also) = let large = is.0 in let short = also.0 in absurd (omega arith)
one_fault file a b (inr is) (inl also) = let large = also.0 in let short = is.0 in absurd (omega arith)
one_fault file a b (inr is) (inr also) =
    let same = lines.one_fault after_line empty_draft place_of IsPrefix Why why_cut reading (lines_of file) a.line b.line a.why b.why is.1 also.1 in
    ap (λ (n : ℕ). fault_at n a.why) same.0 ∙ ap (fault_at b.line) same.1

-- ---- for `read`

abbrev pub IsAnswer : List ℕ → Result Script ScriptRefused → Type 0
IsAnswer file r = MatchResult r (λ s. Reads s (read_of file)) (Says (read_of file))

found : (file : List ℕ) (s : Script) → Reads s (read_of file) → IsScript file s
found file s is = subst (IsScript file) (sym is.2) (subst (Describes file) is.1 (file_says file))

pub is_found : (file : List ℕ) (r : Result Script ScriptRefused) → IsAnswer file r → IfOk r (λ s. IsScript file s)
is_found file (Ok s) h = found file s h
is_found file (Err e) h = tt

pub is_ready : (file : List ℕ) (r : Result Script ScriptRefused) → IsAnswer file r → IfOk r (λ s. IsReady s)
is_ready file (Ok s) h = script_ready file s (found file s h)
is_ready file (Err e) h = tt

pub is_error : (file : List ℕ) (r : Result Script ScriptRefused) → IsAnswer file r → IfErr r (IsError file)
is_error file (Ok s) h = tt
is_error file (Err read_error.Memory) h = tt
is_error file (Err (read_error.Fault fault)) h = subst (Describes file) h (file_says file)

pub only_script : (file : List ℕ) (r : Result Script ScriptRefused) (s : Script) → IsAnswer file r → IsScript file s → MatchResult r (λ t. t ≡ s) (λ e. e ≡ read_error.Memory)
only_script file (Ok t) s h is = one_script file t s (found file t h) is
only_script file (Err read_error.Memory) s h is = refl
only_script file (Err (read_error.Fault fault)) s h is = absurd (no_script_with_fault file fault (subst (Describes file) h (file_says file)) s is)

-- ---- a file and its prefix of one byte more than a script may have say the same

short_prefix : (file : List ℕ) → length (take 100663297 file) ≤ 100663296 → take 100663297 file ≡ file
short_prefix file short = let count = length-take 100663297 file in take_all 100663297 file (omega arith)

whole_prefix : (file : List ℕ) → length file ≤ 100663296 → take 100663297 file ≡ file
whole_prefix file short = take_all 100663297 file (omega arith)

pub script-take : (file : List ℕ) (s : Script) → IsScript (take 100663297 file) s → IsScript file s
script-take file s is = subst (λ (f : List ℕ). IsScript f s) (short_prefix file is.short) is

pub take-script : (file : List ℕ) (s : Script) → IsScript file s → IsScript (take 100663297 file) s
take-script file s is = subst (λ (f : List ℕ). IsScript f s) (sym (whole_prefix file is.short)) is

pub fault-take : (file : List ℕ) (fault : ScriptFault) → IsFault (take 100663297 file) fault → IsFault file fault
fault-take file fault (inl long) = let count = length-take 100663297 file in let large = long.0 in inl (omega arith, long.1)
fault-take file fault (inr wrong) = subst (λ (f : List ℕ). IsFault f fault) (short_prefix file wrong.0) (inr wrong)

pub take-fault : (file : List ℕ) (fault : ScriptFault) → IsFault file fault → IsFault (take 100663297 file) fault
take-fault file fault (inl long) = let count = length-take 100663297 file in let large = long.0 in inl (omega arith, long.1)
take-fault file fault (inr wrong) = subst (λ (f : List ℕ). IsFault f fault) (sym (whole_prefix file wrong.0)) (inr wrong)
