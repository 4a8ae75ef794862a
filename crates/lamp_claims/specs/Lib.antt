-- What the contracts of `lamp_claims` cite.
pub mod Wait
