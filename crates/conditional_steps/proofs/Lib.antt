pub mod Refusals
pub mod Found
pub mod Alternatives
pub mod FirstAlternative
