pub mod Common
mod RowsText
pub mod ListingBytes
mod Answered
mod LineNames
mod PairedBlocks
mod PairedCode
mod LineOperands
mod WordsHex
mod WordsNumber
mod WordsSplit
mod OneImage
mod RoundWords
mod RoundNumbers
mod RoundRegisters
mod RoundRows
mod RoundSource
mod RoundHex
mod RoundInstr
mod RoundLines
mod RoundLabels
mod RoundDirectives
mod RoundBody
mod RoundListing
mod RoundPaired
mod RoundWhole
mod Joined
mod Laid
mod Labels
mod ListingRefused
pub mod Numbered
mod ListingText
mod DraftHolds
mod DraftRefuses
mod DraftAdds
mod DraftLines
mod DraftGives
