pub mod Made
pub mod Request
