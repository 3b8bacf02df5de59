pub mod PartLaws
pub mod FitLaws
pub mod GoodBy
pub mod GoodLaws
pub mod SaidLaws
pub mod TextLaws
pub mod BehindLaws
