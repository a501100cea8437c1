pub mod Promises
pub mod AgreeLaws
pub mod OneLaws
pub mod SeenLaws
pub mod SeenPairs
pub mod SeenSettled
pub mod Named
pub mod Fitting
