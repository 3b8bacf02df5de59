pub mod OctetLaws
pub mod PairLaws
pub mod CompareLaws
pub mod SaidEq
pub mod BehindLaws
