pub mod FramesLemmas
pub mod LengthLemmas
pub mod BlockLemmas
pub mod BufferLemmas
pub mod RoomLemmas
pub mod HeaderLemmas
