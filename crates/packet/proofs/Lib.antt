pub mod KindLaws
pub mod Tests
pub mod WriteLaws
pub mod ReadLaws
pub mod RoundTrip
