pub mod SinkGrowth
pub mod WriterSteps
mod PcapReadings
pub mod PcapSteps
mod Ascending
mod NodeTotals
mod OfferWaits
mod SummaryTexts
mod JsonValues
pub mod JsonTexts
mod Counts
pub mod DecodedTexts
pub mod DecodeSteps
