pub mod CalmTicks
pub mod CaptureSteps
pub mod TextEnds
mod GivenLines
pub mod TaskAnswers
pub mod ScriptCalls
pub mod WholeInput
mod ThinScripts
mod ScriptRuns
pub mod DecodeEnds
pub mod FedPieces
pub mod CaptureCalls
mod GeneratedCalls
