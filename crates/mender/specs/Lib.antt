-- What the contracts and claims of `mender` cite.
pub mod Mended
pub mod Report
pub mod Mending
pub mod Claims
