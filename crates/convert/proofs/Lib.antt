-- Laws that the proofs of `convert` share.
pub mod PlaceLaws
pub mod WhatLaws
