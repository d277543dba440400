pub mod CommitLaws
pub mod FieldLaws
pub mod NodeLaws
mod NodeLoops
pub mod PayloadLaws
mod RecordReads
mod RecordWrites
mod Sizes
mod StandardFacts
