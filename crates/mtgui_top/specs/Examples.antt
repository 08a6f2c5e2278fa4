-- Small scripts.
use Rattle.std.specs.Prelude.{ℕ, pos, List, [], ◌∷◌, map, Some}
use Rattle.paint_ops.specs.Kinds.{Assets}
use Rattle.calls.specs.declared.call.Call.TheVariants.{Create, Exec, Scan}
use Rattle.script.specs.Scripts.{Script, no_assets, plain_class, script_for}
use Rattle.script.specs.Examples.{by_task_1, small_listing}

-- what windows of classes paint with that have a back colour alone
abbrev pub plain_assets : List ℕ → Assets
plain_assets colours =
    record no_assets { classes = map (λ colour. plain_class (Some colour)) colours }

-- a blue window of three by two points on a black screen is made, painted and looked at
abbrev pub first_script : Script
first_script = script_for (record {
  width = 8;
  height = 4;
  buffers = 1;
  desktop = 0;
  assets = plain_assets (0 ∷ 255 ∷ []);
  lines = by_task_1 (Create 1 (pos 2) (pos 1) 3 2 1) ∷ by_task_1 Exec ∷ by_task_1 Scan ∷ [];
})

-- two windows are refused
abbrev pub refused_script : Script
refused_script = script_for small_listing
