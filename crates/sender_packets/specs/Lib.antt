pub mod Asked
pub mod HandingOut
