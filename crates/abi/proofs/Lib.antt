pub mod CallLaws
pub mod TellLaws
pub mod WalkedLaws
