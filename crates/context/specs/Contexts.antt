-- The contexts of the tasks as a list, whose first element is that of task 1.
use Rattle.std.specs.Prelude.{ℕ, zero, suc, ◌-◌, false, List, [], ◌∷◌, replicate, slice_index_or, slice_set}
use Rattle.context.specs.declared.context.Context.{Context}

-- what a task draws with, and the contexts that it saved, the last one first
pub record Owned : Type 0 where
  pub context : Context
  pub saved : List Context

-- white on black in window 1 of the screen
abbrev pub first_context : Context
first_context = record {
  colour = 16777215;
  bk = 0;
  font = 0;
  trans_text = false;
  window = 1;
  device = 0;
}

abbrev pub first_owned : Owned
first_owned = record { context = first_context; saved = [] }

-- the contexts of sixteen tasks that have done nothing
abbrev pub first_contexts : List Owned
first_contexts = replicate 16 first_owned

-- what a task, counted from 1, has
abbrev pub owned_by : List Owned → ℕ → Owned
owned_by all task = slice_index_or all (task - 1) first_owned

-- a task has this, and every other task what it had
abbrev pub with_owned : List Owned → ℕ → Owned → List Owned
with_owned all task own = slice_set all (task - 1) own

abbrev pub with_context : Owned → Context → Owned
with_context own context = record own { context = context }

-- the context stays, and is saved too
abbrev pub after_save : Owned → Owned
after_save own = record own { saved = own.context ∷ own.saved }

abbrev pub given_back : Owned → List Context → Owned
given_back own [] = own
given_back own (last ∷ rest) = record { context = last; saved = rest }

-- the context that was saved last takes the place of the other
abbrev pub after_restore : Owned → Owned
after_restore own = given_back own own.saved

-- so many saves, one after another
abbrev pub after_saves : ℕ → Owned → Owned
after_saves zero own = own
after_saves (suc n) own = after_save (after_saves n own)

-- a task's context is saved
abbrev pub with_saved : List Owned → ℕ → List Owned
with_saved all task = with_owned all task (after_save (owned_by all task))

-- the context that a task saved last is given back
abbrev pub with_restored : List Owned → ℕ → List Owned
with_restored all task = with_owned all task (after_restore (owned_by all task))

-- a task draws with another context
abbrev pub with_written : List Owned → ℕ → Context → List Owned
with_written all task context = with_owned all task (with_context (owned_by all task) context)
