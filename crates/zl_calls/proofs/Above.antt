-- What the proofs of the crates above cite of these, passed on from one place. Declares nothing.
pub use Rattle.zl_calls.proofs.boot.BootMaking.{done}
pub use Rattle.zl_calls.proofs.waking.BlockedLists.{none_filtered}
pub use Rattle.zl_calls.proofs.step.StepItems.{asked_next}
pub use Rattle.zl_calls.proofs.waking.WakeLoop.{removed_one}
pub use Rattle.zl_calls.proofs.step.HandlesStay.{still_free}
