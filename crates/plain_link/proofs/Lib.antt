pub mod CountLaws
pub mod FaultLaws
