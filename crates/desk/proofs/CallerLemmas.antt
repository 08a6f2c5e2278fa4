-- The lemmas on the desk that proofs of other crates may cite.
pub use Rattle.desk.proofs.BareLemmas.{bare_after_change, bare_rect, bare_window, keeps_bare, listed_bare, objections-bare}
pub use Rattle.desk.proofs.DamageLemmas.{Holds, any_effect_holds, opening_holds}
pub use Rattle.desk.proofs.EffectLemmas.{IsOnWindows, IsWork, does, is_new, is_there, may_be_made, none_refused, on_a_context, on_windows, scene_invalid_rect, scene_invalid_window, scene_listed, tree_makes}
pub use Rattle.desk.proofs.FirstLemmas.{found_at, has_the, none_found}
pub use Rattle.desk.proofs.IgnoreLemmas.{all-same, areas_bare, bare-job, bare_invalidated, ignores_given, length-windows_after_job}
pub use Rattle.desk.proofs.InkLemmas.{ink_at, refused_before, refused_next}
pub use Rattle.desk.proofs.JobLemmas.{job_shows, jobs-more, no_jobs, none_any, none_invalid, none_invalid_any, some_invalid, windows-set}
pub use Rattle.desk.proofs.MessageLemmas.{bare_message, bare_value, changed_both, given_rest, message_is, message_valid, plainly_sent, rest_message, rest_value, revalued_at, scene_rest, value_is, value_valid, values_are}
pub use Rattle.desk.proofs.PictureLemmas.{picture_of-same}
pub use Rattle.desk.proofs.SceneLemmas.{becomes_valid, changed_alike, found_handle, found_has, memdev_may_become, put_changed, scene_after, scene_area, scene_created, scene_job, scene_memdev, unknown_handle}
pub use Rattle.desk.proofs.ValidLemmas.{left_clean, points_clean, right_outside, shown_is_painter, unless_clean}
pub use Rattle.desk.proofs.ShapeLemmas.{on_top_of-map}
