-- The lemmas, lowest first.
mod Worked
pub mod Options
pub mod Firsts
pub mod Ports
pub mod Shapes
pub mod Sound
pub mod Soundness
pub mod Continued
pub mod Faces
pub mod InUse
pub mod Lines
pub mod Replay
pub mod Moments
pub mod Tracing
pub mod Givings
pub mod Order
pub mod Rested
pub mod TracingByTick
pub mod Answers
pub mod Memory
pub mod Service
pub mod Quiet
pub mod Alone
