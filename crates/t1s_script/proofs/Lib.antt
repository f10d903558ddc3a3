pub mod Cuts
pub mod Ranges
pub mod FurtherIds
pub mod Nodes
pub mod LineValues
pub mod LineActs
pub mod DraftSteps
pub mod Drafts
pub mod Validity
pub mod Premises
pub mod ThinScripts
mod HexTexts
pub mod ScriptSpans
