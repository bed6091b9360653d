pub mod Working
pub mod FrameChanges
pub mod PlainScores
pub mod PlainMemos
pub mod MachineViews
