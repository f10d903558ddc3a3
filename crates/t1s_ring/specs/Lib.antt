pub mod DelayLine
pub mod Queue
