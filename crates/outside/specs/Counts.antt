-- Counts of calls and of faults, and which calls are to fail.
use Rattle.std.specs.Prelude.{ℕ, ◌+◌, ◌-◌, ◌^◌, min, ◌==◌, Bool, List, Option, None, Some}
use Rattle.std.specs.List.{list_any}

-- one more, up to the greatest number that fits
abbrev pub one_more : ℕ → ℕ
one_more count = min (count + 1) (2 ^ 64 - 1)

-- the numbers of the calls that are to fail, from 0 on, and how many calls there were
pub record Plan : Type 0 where
  pub failing : List ℕ
  pub calls : ℕ

-- a plan before the first call
abbrev pub plan_of : List ℕ → Plan
plan_of failing = record { failing = failing; calls = 0 }

-- whether the next call is to fail
abbrev pub fails : Plan → Bool
fails plan = list_any (λ number. number == plan.calls) plan.failing

-- the plan after the next call
abbrev pub after_call : Plan → Plan
after_call plan = record plan { calls = one_more plan.calls }

-- how many reads failed, and the name of the last of them
pub record Failures : Type 0 where
  pub faults : ℕ
  pub failed : Option (List ℕ)

-- before the first failure
abbrev pub no_failures : Failures
no_failures = record { faults = 0; failed = None }

-- after one more failure, at that name
abbrev pub one_more_at : Failures → List ℕ → Failures
one_more_at failures name = record { faults = one_more failures.faults; failed = Some name }
