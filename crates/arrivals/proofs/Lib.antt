pub mod ReplyLaws
pub mod StatedLaws
pub mod FindLaws
pub mod DataLaws
pub mod ArriveLaws
