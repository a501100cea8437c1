pub mod Settle
pub mod Choice
pub mod Lists
pub mod Numbers
