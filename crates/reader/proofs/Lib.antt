pub mod RoomLaws
pub mod CallLaws
pub mod EndLaws
pub mod FedLaws
