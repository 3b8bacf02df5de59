pub mod CleanTexts
pub mod PairsHeard
pub mod ReadsBack
pub mod TidyBlocks
pub mod ScanLines
pub mod ScanPairs
pub mod ScanBlocks
