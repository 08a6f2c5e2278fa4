-- The lemmas on devices that proofs of other crates may cite.
pub use Rattle.memdev.proofs.TableLemmas.{frame_of-with_device, frame_of-without, frame_of-with_frame, frame_of-below, frame_of-above}
pub use Rattle.memdev.proofs.TableLemmas.{AreGiven-with_device, AreGiven-without_device, AreGiven-with_drawn}
pub use Rattle.memdev.proofs.TableLemmas.{IsGone-deleted, IsGone-with_device, IsGone-without_device, IsGone-with_drawn}
